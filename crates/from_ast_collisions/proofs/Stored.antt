-- What is known of the headings of a sound store whose arrays are filled.
use mathlib.Core.Path.{◌≡◌, refl, sym, ◌∙◌, ap, subst}
use mathlib.Core.List.{List, [], ◌∷◌}
use mathlib.Core.Bool.{Bool, true, false, ◌&&◌, ◌||◌}
use mathlib.Core.Option.{some}
use Prim.Native.Nat.{ℕ, zero, suc, ◌+◌, ◌-◌, ◌≤◌, ◌<◌}
use native.Mathlib.Omega.{arith}
use lib.Dec.{eqb, leb, ltb}
use lib.ListN.{get_or, get_elem?}
use borrow.Author.Tests.{eqb-true, ne_eqb, ltb-true, ltb-false, leb-true, le-leb, lt-leb}
use Rattle.definition.specs.Lists.{All, choose, any}
use Rattle.definition.specs.Cards.{Card, is_heading, is_part, definition_of, part_order, place_in}
use Rattle.definition.specs.Headings.{NamedCard, Heading, named_card, is_kind, is_type_definition, is_type_extension, definition, number_of, parts_of}
use Rattle.definition.specs.Catalogue.{under_type, under_schema}
use Rattle.definition.specs.Store.{cards_used_of, stored_cards, sound}
use Rattle.definition.specs.LentRows.{cards_named}
use Rattle.store_reader.specs.Stored.{stored_parts, card_kind, card_name, card_at, built_in_at, ignored_at, heading_with, headings_of, stored_headings}
use Rattle.store_reader.specs.Stored.{stored_headings_from, heading_at, parts_from, next_heading}
use Rattle.store_reader.proofs.Group.{headings_nil, headings_part, headings_heading, parts_get}
use Rattle.store_reader.proofs.Words.{stored_is, stored_inside, headings_next, headings_skip, headings_end, headings_start, headings_at, next_after}
use Rattle.store_reader.proofs.DocumentsLaws.{InPlaces, Ordered}
use Rattle.store_reader.proofs.Laws.{cards_fit_lem, headings_ordered}
use Rattle.from_ast_index.specs.Index.{Listed, is_typed}
use Rattle.from_ast_index.proofs.Lists.{get_all}
use Rattle.from_ast_collisions.specs.Earlier.{View}
use Rattle.from_ast_collisions.specs.Views.{view_of}
use Rattle.definition.proofs.All.{all_to, all_with}
use Rattle.definition.proofs.Tests.{zero_one}
use Rattle.from_ast_collisions.proofs.Repeats.{times, times_none, times_append}
use Rattle.from_ast_collisions.proofs.Earlier.{is_in}
use Rattle.from_ast_collisions.proofs.Rows.{PartTold, PartsTold, HeadingTold, defines_kind, extends_kind}
use Rattle.from_ast_collisions.proofs.Known.{heading_of, Rising, OfType, Known, parts_nil, parts_cons}
use Rattle.from_ast_collisions.proofs.Legal.{LegalParts, LegalKind, in_order_lem, ordered_have, ordered_legal}

-- ---- Parts of a heading, by their positions.

part_told : (text words owners : List ℕ) (i : ℕ) → All (PartTold (view_of text words owners)) (parts_from (stored_parts text words) i)
part_told text words owners i =
    get_all (PartTold (view_of text words owners)) (parts_from (stored_parts text words) i)
    (λ k c e.
    let f : get_elem? (stored_parts text words) (i + k) ≡ some c = parts_get (stored_parts text words) i k c e in
    let q : c ≡ card_at text words (i + k) = stored_is text words (i + k) c f in
    let l : i + k < cards_used_of words = stored_inside text words (i + k) c f in
    let n : c.number ≡ i + k = ap (λ (p : NamedCard). p.number) q in
    (omega arith, ap (card_name text words) n ∙ sym (ap (λ (p : NamedCard). p.name) q)))

-- ---- Numbers rise.

rising_from : (text words : List ℕ) (fuel i : ℕ) → cards_used_of words - i ≤ fuel →
    Rising (stored_headings_from text words i) × All (λ h. i ≤ h.number) (stored_headings_from text words i)
rising_from text words zero i f = rw (headings_end text words i (omega arith)) (tt, tt)
rising_from text words (suc fuel) i f =
    go (ltb i (cards_used_of words)) (is_part (card_kind words i)) refl refl (rising_from text words fuel (i + 1))
    (rising_from text words fuel (next_heading words i))
  where
    go : (b p : Bool) → ltb i (cards_used_of words) ≡ b → is_part (card_kind words i) ≡ p →
        (cards_used_of words - (i + 1) ≤ fuel →
        Rising (stored_headings_from text words (i + 1)) × All (λ h. i + 1 ≤ h.number) (stored_headings_from text words (i + 1))) →
        (cards_used_of words - next_heading words i ≤ fuel →
        Rising (stored_headings_from text words (next_heading words i)) × All (λ h. next_heading words i ≤ h.number) (stored_headings_from text words
        (next_heading words i))) →
        Rising (stored_headings_from text words i) × All (λ h. i ≤ h.number) (stored_headings_from text words i)
    go false p e t later next = let l = ltb-false i (cards_used_of words) e in rw (headings_end text words i l) (tt, tt)
    go true true e t later next =
        let l = ltb-true i (cards_used_of words) e in
        let r = later (omega arith) in
        rw (headings_skip text words i l t) (
          r.0,
          all_to (λ h. i + 1 ≤ h.number) (λ h. i ≤ h.number) (λ h m. omega arith) (stored_headings_from text words (i + 1)) r.1,
        )
    go true false e t later next =
        let l = ltb-true i (cards_used_of words) e in
        let n = next_after words i l in
        let r = next (omega arith) in
        rw (headings_next text words i l t) (
          (
            all_to (λ h. next_heading words i ≤ h.number) (λ h. i < h.number) (λ h m. omega arith)
                (stored_headings_from text words (next_heading words i)) r.1,
            r.0,
          ),
          (
            omega arith,
            all_to (λ h. next_heading words i ≤ h.number) (λ h. i ≤ h.number) (λ h m. omega arith)
                (stored_headings_from text words (next_heading words i)) r.1,
          ),
        )

-- ---- Numbers stand once.

times_headings : (b g : ℕ → Bool) (n : ℕ) (cs : List NamedCard) → times n (headings_of b g cs).0 + times n (parts_of (headings_of b g cs).1) ≤ times n cs
times_headings b g n [] = rw (headings_nil b g, parts_nil) (omega (arith, times_none n))
times_headings b g n (c ∷ cs) = go (is_part c.kind) refl (times_headings b g n cs)
  where
    cons : (p : NamedCard) (ps : List NamedCard) → times n (p ∷ ps) ≡ choose (eqb p.number n) 1 0 + times n ps
    cons p ps = unfold times in refl

    go : (t : Bool) → is_part c.kind ≡ t → times n (headings_of b g cs).0 + times n (parts_of (headings_of b g cs).1) ≤ times n cs →
        times n (headings_of b g (c ∷ cs)).0 + times n (parts_of (headings_of b g (c ∷ cs)).1) ≤ times n (c ∷ cs)
    go true t ih = rw (headings_part b g c cs t) (omega (arith, cons c (headings_of b g cs).0, cons c cs))
    go false t ih =
        rw (headings_heading b g c cs t)
        (omega (
          arith,
          times_none n,
          ap (times n) (parts_cons (heading_with (b c.number) (g c.number) c (headings_of b g cs).0) (headings_of b g cs).1),
          times_append n (headings_of b g cs).0 (parts_of (headings_of b g cs).1),
          cons c cs,
        ))

numbered_past : (text : List ℕ) (n m : ℕ) (cs : List Card) → n < m → times n (cards_named text m cs) ≡ 0
unfolding cards_named times named_card
numbered_past text n m [] h = refl
numbered_past text n m (c ∷ cs) h = rw (ne_eqb m n (λ q. omega arith)) (omega (arith, numbered_past text n (m + 1) cs (omega arith)))

numbered_once : (text : List ℕ) (n m : ℕ) (cs : List Card) → times n (cards_named text m cs) ≤ 1
unfolding cards_named times named_card
numbered_once text n m [] = omega arith
numbered_once text n m (c ∷ cs) = go (eqb m n) refl (numbered_once text n (m + 1) cs)
  where
    go : (b : Bool) → eqb m n ≡ b → times n (cards_named text (m + 1) cs) ≤ 1 → choose (eqb m n) 1 0 + times n (cards_named text (m + 1) cs) ≤ 1
    go true e ih = let q : m ≡ n = eqb-true m n e in rw e (omega (arith, numbered_past text n (m + 1) cs (omega arith)))
    go false e ih = rw e (omega arith)

parts_once : (text words : List ℕ) (n : ℕ) → times n (parts_of (stored_headings text words)) ≤ 1
unfolding stored_headings stored_parts
parts_once text words n =
    omega (arith, times_headings (built_in_at words) (ignored_at words) n (cards_named text 0 (stored_cards words)), numbered_once text n 0 (stored_cards words))

-- ---- Kinds of parts.

placed_have : (P : ℕ → Type 0) (order : List (List ℕ)) (q : ℕ) (ps : List NamedCard) → InPlaces order q ps → All (λ ks. All P ks) order →
    All (λ p. P p.kind) ps
placed_have P order q [] i a = tt
placed_have P order q (p ∷ ps) i a = (in_order_lem P order p.kind i.1 a, placed_have P order (place_in order p.kind) ps i.3 a)

heading_most : (k : ℕ) → is_heading k ≡ true → k ≤ 17
unfolding is_heading
heading_most k h = go (leb 1 k) h
  where
    go : (b : Bool) → (b && leb k 17) ≡ true → k ≤ 17
    go true h = leb-true k 17 h
    go false h = let z : false ≡ true = h in absurd (zero_one cc)

legal_stored : (h : Heading) → Ordered h → LegalParts h
legal_stored h o =
    placed_have (LegalKind (definition_of h.kind)) (part_order (definition_of h.kind)) 0 h.parts o.1 (ordered_legal (definition_of h.kind))

-- Under a type stand the kinds of its lists, and so under the schema.
type_order : (k : ℕ) → 5 ≤ k → All (λ ks. All (λ j. is_in j under_type ≡ true) ks) (part_order k)
unfolding under_type any
type_order k l =
    all_to (λ ks. All (λ j. 5 ≤ k → is_in j under_type ≡ true) ks) (λ ks. All (λ j. is_in j under_type ≡ true) ks)
    (λ ks a. all_to (λ j. 5 ≤ k → is_in j under_type ≡ true) (λ j. is_in j under_type ≡ true) (λ j f. f l) ks a) (part_order k)
    (ordered_have (λ k j. 5 ≤ k → is_in j under_type ≡ true)
    ((λ h. absurd (omega arith)), (λ h. absurd (omega arith)), (λ h. absurd (omega arith)), (λ h. absurd (omega arith)))
    (λ h. refl)
    ((λ h. refl), (λ h. refl), (λ h. refl))
    ((λ h. refl), (λ h. refl), (λ h. refl))
    ((λ h. refl), (λ h. refl))
    ((λ h. refl), (λ h. refl))
    ((λ h. refl), (λ h. refl)) k)

schema_order : All (λ ks. All (λ j. is_in j under_schema ≡ true) ks) (part_order 4)
unfolding part_order under_schema any
schema_order = ((refl, tt), ((refl, (refl, (refl, tt))), tt))

extended_type : (h : Heading) → (is_type_definition h || is_type_extension h) ≡ true → 5 ≤ definition_of h.kind
unfolding definition_of
extended_type h t = go (is_type_definition h) refl t
  where
    go : (b : Bool) → is_type_definition h ≡ b → (b || is_type_extension h) ≡ true →
        5 ≤ choose (leb 11 h.kind) (h.kind - 7) (choose (leb 4 h.kind) h.kind 0)
    go true d t = let k = defines_kind h d in rw (lt-leb 11 h.kind (omega arith), le-leb 4 h.kind (omega arith)) k.0
    go false d t = let k = extends_kind h t in rw (le-leb 11 h.kind (omega arith)) (omega arith)

extended_schema : (h : Heading) → (is_kind 4 h || is_kind 11 h) ≡ true → definition_of h.kind ≡ 4
unfolding definition_of is_kind
extended_schema h t = go (eqb h.kind 4) (eqb h.kind 11) refl refl t
  where
    go : (b c : Bool) → eqb h.kind 4 ≡ b → eqb h.kind 11 ≡ c → (b || c) ≡ true →
        choose (leb 11 h.kind) (h.kind - 7) (choose (leb 4 h.kind) h.kind 0) ≡ 4
    go true c e f t = rw (eqb-true h.kind 4 e)
    go false true e f t = rw (eqb-true h.kind 11 f)
    go false false e f t = let z : false ≡ true = t in absurd (zero_one cc)

type_kinds : (h : Heading) → Ordered h → (is_type_definition h || is_type_extension h) ≡ true → All (λ p. is_in p.kind under_type ≡ true) h.parts
type_kinds h o t =
    placed_have (λ j. is_in j under_type ≡ true) (part_order (definition_of h.kind)) 0 h.parts o.1
    (type_order (definition_of h.kind) (extended_type h t))

schema_kinds : (h : Heading) → Ordered h → (is_kind 4 h || is_kind 11 h) ≡ true → All (λ p. is_in p.kind under_schema ≡ true) h.parts
schema_kinds h o t =
    placed_have (λ j. is_in j under_schema ≡ true) (part_order (definition_of h.kind)) 0 h.parts o.1
    (subst (λ k. All (λ ks. All (λ j. is_in j under_schema ≡ true) ks) (part_order k)) (sym (extended_schema h t)) schema_order)

-- ---- All of it.

module _ (text words headings owners types orphans extensions : List ℕ) (ok : sound text words ≡ true)
    (x : Listed text words headings owners types orphans extensions) where
  abbrev v : View
  v = view_of text words owners

  abbrev hs : List Heading
  hs = stored_headings text words

  At : Heading → Type 0
  At h = (h.number < cards_used_of words) × (is_part (card_kind words h.number) ≡ false) × (h ≡ heading_at text words h.number)

  pub known_stored : Known v hs
  unfolding At is_typed
  known_stored =
      let at : All At hs = headings_at text words in
      let ordered : All Ordered hs = headings_ordered text words ok in
      record {
        told = all_to At (HeadingTold (heading_of v)) (λ h a. a.2) hs at;
        named =
            all_to At (PartsTold v) (λ h a. subst (All (PartTold v)) (sym (ap (λ (g : Heading). g.parts) a.2))
            (part_told text words owners (h.number + 1))) hs at;
        rising = subst Rising (sym (headings_start text words)) (rising_from text words (cards_used_of words) 0 (omega arith)).0;
        held = all_to At (λ h. h.number < cards_used_of words) (λ h a. a.0) hs at;
        most = all_to Ordered (λ h. h.kind ≤ 17) (λ h q. heading_most h.kind q.0) hs ordered;
        few = (let c = cards_fit_lem text words ok in omega arith);
        once = parts_once text words;
        typed =
            all_with (λ h. is_typed h ≡ true → get_or owners h.number 0 ≡ number_of (definition h.name hs)) Ordered
            (λ h. (is_type_definition h || is_type_extension h) ≡ true → OfType v hs h)
            (λ h w q t. record { owner = w t; kinds = type_kinds h q t }) hs
            (get_all (λ h. is_typed h ≡ true → get_or owners h.number 0 ≡ number_of (definition h.name hs)) hs x.owners_are) ordered;
        schemed = all_to Ordered (λ h. (is_kind 4 h || is_kind 11 h) ≡ true → All (λ p. is_in p.kind under_schema ≡ true) h.parts)
            (λ h q t. schema_kinds h q t) hs ordered;
      }

  pub legal_known : All LegalParts hs
  legal_known = all_to Ordered LegalParts legal_stored hs (headings_ordered text words ok)
