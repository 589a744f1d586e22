-- What one heading does to the extensions, one extension to the orphans, and what a run of them has done then.
use mathlib.Core.Path.{◌≡◌, refl, sym, ◌∙◌, ap}
use mathlib.Core.List.{List, [], ◌∷◌, ◌++◌}
use mathlib.Core.Bool.{Bool, true, false, ◌&&◌}
use mathlib.Core.Logic.{◌≢◌}
use mathlib.Core.Option.{Option, none, some}
use Prim.Native.Nat.{ℕ, ◌+◌, ◌≤◌, ◌<◌}
use native.Mathlib.Omega.{arith}
use lib.Dec.{leb, ltb}
use lib.ListN.{length, take, get_or, set}
use lib.Seq.{get_or-set_same, get_or-set_other}
use borrow.Author.Tests.{eq-eqb, ne_eqb, ltb-true, ltb-false}
use Rattle.definition.specs.Lists.{filter, find, firsts, found}
use Rattle.definition.specs.Answers.{absent}
use Rattle.definition.specs.Store.{cards_used_of}
use Rattle.store_reader.specs.Stored.{card_kind}
use Rattle.from_ast_index.specs.Index.{Cards, same_cards, is_type_extension_kind}
use Rattle.word_list.specs.Listed.{listed_in}
use Rattle.word_list.specs.declared.WordList.{WordList}
use Rattle.from_ast_index.proofs.Lists.{never}
use Rattle.std.specs.Prelude.{Option as Entry}
use Rattle.std.specs.Option.{unwrap_or}
use Rattle.from_ast_indexing.specs.declared.entry.FirstCards.{FirstCards}
use Rattle.from_ast_indexing.specs.Entering.{entry_of, first_card, entered_in, cards_of}
use Rattle.from_ast_indexing.proofs.EntryNames.{apart, kept_yes, kept_no, firsts_entered}
use Rattle.from_ast_indexing.specs.Extensions.{is_extension_card, is_unowned, ExtensionTurn, ExtensionsAre, OrphanTurn, OrphansAre}

-- ---- A heading and the extensions.

module _ (text words types owners : List ℕ) (card : ℕ) (extensions : WordList) (kind : ℕ) (b : Bool) (k : kind ≡ card_kind words card)
    (q : b ≡ (leb 12 kind && leb kind 17)) where
  kind_is : is_extension_card words card ≡ b
  unfolding is_extension_card is_type_extension_kind
  kind_is = sym (ap (λ (n : ℕ). leb 12 n && leb n 17) k) ∙ sym q

  pub extension_skipped : b ≡ false → ExtensionTurn text words types card owners owners extensions extensions
  extension_skipped e = let n = kind_is ∙ e in record { owners_are = rw n; extensions_are = rw n; len_most = omega arith }

  pub extension_told : b ≡ true → (owner : ℕ) (o : Entry ℕ) (extensions' : WordList) → owner ≡ unwrap_or o absent →
      o ≡ entry_of (find (same_cards text words card) types) → listed_in extensions' ≡ listed_in extensions ++ (card ∷ []) →
      extensions'.len ≡ extensions.len + 1 → ExtensionTurn text words types card owners (set owners card owner) extensions extensions'
  unfolding first_card
  extension_told e owner o extensions' w f x l =
      let y = kind_is ∙ e in
      record {
        owners_are = rw y (ap (set owners card) (w ∙ ap (λ (x : Entry ℕ). unwrap_or x absent) f ∙ told (find (same_cards text words card) types)));
        extensions_are = rw y x;
        len_most = omega arith;
      }
    where
      told : (x : Option ℕ) → unwrap_or (entry_of x) absent ≡ found x (λ d. d) absent
      told (some d) = refl
      told none = refl

pub extensions_none : (text words headings types owners : List ℕ) → ExtensionsAre text words headings types owners owners [] 0
unfolding filter
extensions_none text words headings types owners = record {
  extensions_are = refl;
  owners_are = λ j h e. absurd (omega arith);
  others_stay = λ c e. refl;
}

module _ (text words hashes headings : List ℕ) (cs : Cards text words hashes headings) (k : ℕ) (h : k < length headings) where
  module _ (types owners₀ owners : List ℕ) (extensions : WordList) (i : ExtensionsAre text words headings types owners₀ owners (listed_in extensions) k)
      (owners' : List ℕ) (extensions' : WordList) (capacity : cards_used_of words ≤ length owners)
      (w : ExtensionTurn text words types (get_or headings k 0) owners owners' extensions extensions') where
    extensions_more : (b : Bool) → is_extension_card words (get_or headings k 0) ≡ b → listed_in extensions' ≡ filter (is_extension_card words) (take (k + 1) headings)
    extensions_more true y =
        (rw y at w.extensions_are)
        ∙ ap (λ (l : List ℕ). l ++ (get_or headings k 0 ∷ [])) i.extensions_are
        ∙ sym (kept_yes (is_extension_card words) headings k h y)
    extensions_more false y = (rw y at w.extensions_are) ∙ i.extensions_are ∙ sym (kept_no (is_extension_card words) headings k h y)

    owned_more : (b : Bool) → is_extension_card words (get_or headings k 0) ≡ b → (j : ℕ) → j < k → is_extension_card words (get_or headings j 0) ≡ true →
        get_or owners' (get_or headings j 0) 0 ≡ first_card (same_cards text words) (get_or headings j 0) types
    owned_more true y j l z =
        ap (λ (o : List ℕ). get_or o (get_or headings j 0) 0) (rw y at w.owners_are)
        ∙ get_or-set_other owners (get_or headings k 0) (get_or headings j 0) (first_card (same_cards text words) (get_or headings k 0) types) 0
        (apart _ _ (cs.rising j k l h))
        ∙ i.owners_are j l z
    owned_more false y j l z = ap (λ (o : List ℕ). get_or o (get_or headings j 0) 0) (rw y at w.owners_are) ∙ i.owners_are j l z

    owned_new : is_extension_card words (get_or headings k 0) ≡ true → get_or owners' (get_or headings k 0) 0
        ≡ first_card (same_cards text words) (get_or headings k 0) types
    owned_new y =
        let inside : get_or headings k 0 < length owners = omega (arith, cs.stored k h) in
        ap (λ (o : List ℕ). get_or o (get_or headings k 0) 0) (rw y at w.owners_are)
        ∙ get_or-set_same owners (get_or headings k 0) (first_card (same_cards text words) (get_or headings k 0) types) 0 inside

    owned_at : (j : ℕ) → j < k + 1 → is_extension_card words (get_or headings j 0) ≡ true →
        get_or owners' (get_or headings j 0) 0 ≡ first_card (same_cards text words) (get_or headings j 0) types
    owned_at j l z = go (ltb j k) refl
      where
        go : (b : Bool) → ltb j k ≡ b → get_or owners' (get_or headings j 0) 0 ≡ first_card (same_cards text words) (get_or headings j 0) types
        go true q = owned_more (is_extension_card words (get_or headings k 0)) refl j (ltb-true j k q) z
        go false q =
            let at : k ≡ j = (let n = ltb-false j k q in omega arith) in
            let y : is_extension_card words (get_or headings k 0) ≡ true = rw at z in
            rw at at (owned_new y)

    others_more : (b : Bool) → is_extension_card words (get_or headings k 0) ≡ b → (c : ℕ) → is_extension_card words c ≡ false → get_or owners' c 0 ≡ get_or owners₀ c 0
    others_more true y c n =
        let differ : c ≢ get_or headings k 0 = λ s. never (sym y ∙ ap (is_extension_card words) (sym s) ∙ n) in
        ap (λ (o : List ℕ). get_or o c 0) (rw y at w.owners_are)
        ∙ get_or-set_other owners (get_or headings k 0) c (first_card (same_cards text words) (get_or headings k 0) types) 0 differ
        ∙ i.others_stay c n
    others_more false y c n = ap (λ (o : List ℕ). get_or o c 0) (rw y at w.owners_are) ∙ i.others_stay c n

    pub extensions_turn : ExtensionsAre text words headings types owners₀ owners' (listed_in extensions') (k + 1)
    extensions_turn = record {
      extensions_are = extensions_more (is_extension_card words (get_or headings k 0)) refl;
      owners_are = owned_at;
      others_stay = others_more (is_extension_card words (get_or headings k 0)) refl;
    }

-- ---- An extension and the orphans.

module _ (text words owners : List ℕ) (card : ℕ) (orphans : FirstCards) where
  pub orphan_skipped : (get_or owners card 0 ≡ absent → ⊥) → OrphanTurn text words owners card orphans orphans
  unfolding is_unowned
  orphan_skipped d = record { orphans_are = rw (ne_eqb (get_or owners card 0) absent d); len_most = omega arith }

  pub orphan_entered : get_or owners card 0 ≡ absent → (orphans' : FirstCards) →
      cards_of orphans' ≡ entered_in (same_cards text words) card (cards_of orphans) → orphans'.len ≤ orphans.len + 1 →
      OrphanTurn text words owners card orphans orphans'
  unfolding is_unowned
  orphan_entered e orphans' c l = record { orphans_are = rw (eq-eqb (get_or owners card 0) absent e) c; len_most = l }

pub orphans_none : (text words owners extensions : List ℕ) → OrphansAre text words owners extensions [] 0
unfolding filter firsts
orphans_none text words owners extensions = refl

module _ (text words owners extensions : List ℕ) (k : ℕ) (h : k < length extensions) (orphans : FirstCards)
    (i : OrphansAre text words owners extensions (cards_of orphans) k) (orphans' : FirstCards)
    (w : OrphanTurn text words owners (get_or extensions k 0) orphans orphans') where
  orphans_more : (b : Bool) → is_unowned owners (get_or extensions k 0) ≡ b → OrphansAre text words owners extensions (cards_of orphans') (k + 1)
  orphans_more true e =
      (rw e at w.orphans_are)
      ∙ ap (entered_in (same_cards text words) (get_or extensions k 0)) i
      ∙ sym (firsts_entered text words (filter (is_unowned owners) (take k extensions)) (get_or extensions k 0))
      ∙ ap (firsts (same_cards text words) []) (sym (kept_yes (is_unowned owners) extensions k h e))
  orphans_more false e = (rw e at w.orphans_are) ∙ i ∙ ap (firsts (same_cards text words) []) (sym (kept_no (is_unowned owners) extensions k h e))

  pub orphans_turn : OrphansAre text words owners extensions (cards_of orphans') (k + 1)
  orphans_turn = orphans_more (is_unowned owners (get_or extensions k 0)) refl
