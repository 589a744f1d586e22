-- What one heading does to the types, and what a run of headings has done then.
use mathlib.Core.Path.{◌≡◌, refl, sym, ◌∙◌, ap}
use mathlib.Core.List.{List, []}
use mathlib.Core.Bool.{Bool, true, false}
use Prim.Native.Nat.{ℕ, suc, ◌+◌, ◌≤◌, ◌<◌}
use native.Mathlib.Omega.{arith}
use lib.Dec.{ltb}
use lib.ListN.{length, take, drop, get_or, set}
use lib.Seq.{get_or-set_same, get_or-set_other}
use borrow.Author.Tests.{ltb-true, ltb-false}
use Rattle.definition.specs.Lists.{filter, firsts}
use Rattle.definition.specs.Cards.{is_type}
use Rattle.definition.specs.Store.{cards_used_of}
use Rattle.store_reader.specs.Stored.{card_kind}
use Rattle.from_ast_index.specs.Index.{Cards, same_cards}
use Rattle.from_ast_indexing.specs.declared.entry.FirstCards.{FirstCards}
use Rattle.from_ast_indexing.specs.Entering.{first_card, entered_in, first_entered, cards_of}
use Rattle.from_ast_indexing.proofs.EntryNames.{apart, kept_yes, kept_no, kept_split, firsts_entered, owner_entered}
use Rattle.from_ast_indexing.specs.Types.{is_type_card, TypeTurn, TypesAre}

module _ (text words owners : List ℕ) (card : ℕ) (types : FirstCards) (kind : ℕ) (b : Bool) (k : kind ≡ card_kind words card) (q : b ≡ is_type kind) where
  kind_is : is_type_card words card ≡ b
  unfolding is_type_card
  kind_is = sym (ap is_type k) ∙ sym q

  pub type_skipped : b ≡ false → TypeTurn text words card owners owners types types
  type_skipped e = let n = kind_is ∙ e in record { owners_are = rw n; types_are = rw n; len_most = omega arith }

  pub type_entered : b ≡ true → (first : ℕ) (types' : FirstCards) → first ≡ first_entered (same_cards text words) card (cards_of types) →
      cards_of types' ≡ entered_in (same_cards text words) card (cards_of types) → types'.len ≤ types.len + 1 →
      TypeTurn text words card owners (set owners card first) types types'
  type_entered e first types' f c l =
      let y = kind_is ∙ e in
      record { owners_are = rw y (ap (set owners card) f); types_are = rw y c; len_most = l }

pub types_none : (text words headings owners : List ℕ) (types : FirstCards) → types.len ≡ 0 → TypesAre text words headings owners types 0
unfolding filter firsts
types_none text words headings owners types e = rw e (record {
  types_are = refl;
  owners_are = λ j h e. absurd (omega arith);
  types_most = omega arith;
})

module _ (text words hashes headings : List ℕ) (cs : Cards text words hashes headings) (k : ℕ) (h : k < length headings) where
  module _ (owners : List ℕ) (types : FirstCards) (i : TypesAre text words headings owners types k)
      (owners' : List ℕ) (types' : FirstCards) (capacity : cards_used_of words ≤ length owners)
      (w : TypeTurn text words (get_or headings k 0) owners owners' types types') where
    types_more : (b : Bool) → is_type_card words (get_or headings k 0) ≡ b →
        cards_of types' ≡ firsts (same_cards text words) [] (filter (is_type_card words) (take (k + 1) headings))
    types_more true e =
        (rw e at w.types_are)
        ∙ ap (entered_in (same_cards text words) (get_or headings k 0)) i.types_are
        ∙ sym (firsts_entered text words (filter (is_type_card words) (take k headings)) (get_or headings k 0))
        ∙ ap (firsts (same_cards text words) []) (sym (kept_yes (is_type_card words) headings k h e))
    types_more false e =
        (rw e at w.types_are) ∙ i.types_are ∙ ap (firsts (same_cards text words) []) (sym (kept_no (is_type_card words) headings k h e))

    owners_more : (b : Bool) → is_type_card words (get_or headings k 0) ≡ b → (j : ℕ) → j < k → is_type_card words (get_or headings j 0) ≡ true →
        get_or owners' (get_or headings j 0) 0 ≡ first_card (same_cards text words) (get_or headings j 0) (filter (is_type_card words) headings)
    owners_more true e j l y =
        ap (λ (o : List ℕ). get_or o (get_or headings j 0) 0) (rw e at w.owners_are)
        ∙ get_or-set_other owners (get_or headings k 0) (get_or headings j 0) (first_entered (same_cards text words) (get_or headings k 0) (cards_of types)) 0
        (apart _ _ (cs.rising j k l h))
        ∙ i.owners_are j l y
    owners_more false e j l y = ap (λ (o : List ℕ). get_or o (get_or headings j 0) 0) (rw e at w.owners_are) ∙ i.owners_are j l y

    owners_new : is_type_card words (get_or headings k 0) ≡ true →
        get_or owners' (get_or headings k 0) 0 ≡ first_card (same_cards text words) (get_or headings k 0) (filter (is_type_card words) headings)
    owners_new e =
        let inside : get_or headings k 0 < length owners = omega (arith, cs.stored k h) in
        ap (λ (o : List ℕ). get_or o (get_or headings k 0) 0) (rw e at w.owners_are)
        ∙ get_or-set_same owners (get_or headings k 0) (first_entered (same_cards text words) (get_or headings k 0) (cards_of types)) 0 inside
        ∙ ap (first_entered (same_cards text words) (get_or headings k 0)) i.types_are
        ∙ owner_entered text words (filter (is_type_card words) (take k headings)) (filter (is_type_card words) (drop (suc k) headings)) (get_or headings k 0)
        ∙ ap (first_card (same_cards text words) (get_or headings k 0)) (sym (kept_split (is_type_card words) headings k h e))

    owners_at : (j : ℕ) → j < k + 1 → is_type_card words (get_or headings j 0) ≡ true →
        get_or owners' (get_or headings j 0) 0 ≡ first_card (same_cards text words) (get_or headings j 0) (filter (is_type_card words) headings)
    owners_at j l y = go (ltb j k) refl
      where
        go : (b : Bool) → ltb j k ≡ b → get_or owners' (get_or headings j 0) 0
            ≡ first_card (same_cards text words) (get_or headings j 0) (filter (is_type_card words) headings)
        go true e = owners_more (is_type_card words (get_or headings k 0)) refl j (ltb-true j k e) y
        go false e =
            let at : k ≡ j = (let n = ltb-false j k e in omega arith) in
            let y' : is_type_card words (get_or headings k 0) ≡ true = rw at y in
            rw at at (owners_new y')

    pub types_turn : TypesAre text words headings owners' types' (k + 1)
    types_turn = record {
      types_are = types_more (is_type_card words (get_or headings k 0)) refl;
      owners_are = owners_at;
      types_most = omega (arith, w.len_most, i.types_most);
    }
