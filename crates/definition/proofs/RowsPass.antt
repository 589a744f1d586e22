-- Drawn rows are never refused with 26.
use mathlib.Core.Path.{◌≡◌, refl, sym, ◌∙◌, ap, subst}
use mathlib.Core.List.{List, [], ◌∷◌, ◌++◌, append_assoc}
use mathlib.Core.Bool.{Bool, true, false, ◌&&◌, ◌||◌, not}
use mathlib.Core.Option.{Option, none, some}
use Prim.Native.Nat.{ℕ, zero, suc, ◌+◌, ◌≤◌, ◌<◌}
use native.Mathlib.Omega.{arith}
use lib.Dec.{eqb, leb}
use lib.ListN.{length, get_elem?}
use borrow.Author.Tests.{eqb-true, eq-eqb, ne_eqb, leb-true, le-leb}
use Rattle.definition.specs.Lists.{All, found, all, find, repeats, flat_map}
use Rattle.definition.specs.Cards.{is_root, is_type, is_extension}
use Rattle.definition.specs.Answers.{absent}
use Rattle.definition.specs.Headings.{Document, NamedCard, headings}
use Rattle.definition.specs.Catalogue.{Row, rows, default_name, kind_named}
use Rattle.definition.specs.Merge.{merge}
use Rattle.definition.specs.Refusals.{cards_held, card_capacity}
use Rattle.definition.specs.LentRows.{held, is_type_row, first_type_row, is_default_root, same_card, cards_once, wanted_kind, card_passes, cards_pass, origin_passes}
use Rattle.definition.specs.LentRows.{origins_pass, default_root_passes, default_roots_pass, row_clauses, passes, rows_refusal}
use Rattle.definition.specs.Outcomes.{words_of_row}
use Rattle.definition.proofs.Tests.{and_true}
use Rattle.definition.proofs.Lists.{repeats_nil, repeats_new, split}
use Rattle.definition.proofs.All.{all_to, all_pass}
use Rattle.definition.proofs.Sums.{sum, gate, sum_append, count}
use Rattle.definition.proofs.CleanCards.{Faultless}
use Rattle.definition.proofs.DocumentHeadings.{OfCards, Found, headings_held, headings_named, held_length}
use Rattle.definition.proofs.Bounds.{built_row_once}
use Rattle.definition.proofs.BuiltTypes.{row_kind, kind_named_lem}
use Rattle.definition.proofs.RowCards.{RowFits, defined, extended, adopting, default, undefined, Stored, rows_fit_lem}
use Rattle.definition.proofs.BuiltWords.{words_whole, rows_back}
use Rattle.definition.proofs.RowOrder.{built_order}
use Rattle.definition.proofs.PartKinds.{headings_kinded}

-- Card i is held with kind k.
abbrev pub Has : List NamedCard → ℕ → ℕ → Type 0
Has ps k i = (c : NamedCard) × (get_elem? ps i ≡ some c) × (c.kind ≡ k)

elem_bound : (ps : List NamedCard) (i : ℕ) (c : NamedCard) → get_elem? ps i ≡ some c → i < length ps
elem_bound [] i c e = absurd cc
elem_bound (p ∷ ps) zero c e = omega arith
elem_bound (p ∷ ps) (suc i) c e = omega (arith, elem_bound ps i c e)

and_no : (b c : Bool) → (b && false && c) ≡ false
and_no true c = refl
and_no false c = refl

and_not : (b : Bool) → (b && false) ≡ false
and_not true = refl
and_not false = refl

or_yes : (b : Bool) → (b || true) ≡ true
or_yes true = refl
or_yes false = refl

module _ (ps : List NamedCard) (small : length ps ≤ card_capacity) (D : ℕ → Type 0) where
  present : (k i : ℕ) → Has ps k i → eqb i absent ≡ false
  present k i h = ne_eqb i absent (λ e. omega (arith, elem_bound ps i h.0 h.1))

  kind_held : (k i w : ℕ) → Has ps k i → k ≡ w → found (get_elem? ps i) (λ c. eqb c.kind w) false ≡ true
  kind_held k i w h e = rw h.1 (eq-eqb h.0.kind w (h.2 ∙ e))

  wanted_own : (r : Row) → (is_type_row r && not (eqb r.origin absent)) ≡ false → wanted_kind r ≡ r.what
  unfolding wanted_kind
  wanted_own r e = rw e

  wanted_extension : (r : Row) → is_type_row r ≡ true → eqb r.origin absent ≡ false → wanted_kind r ≡ r.what + 7
  unfolding wanted_kind
  wanted_extension r e f = rw (e, f)

  held_passes : (r : Row) (k : ℕ) → Has ps k r.card → wanted_kind r ≡ k → card_passes ps r ≡ true
  unfolding card_passes
  held_passes r k h e = rw (present k r.card h) (kind_held k r.card (wanted_kind r) h (sym e))

  is_default : (r : Row) → 26 ≤ r.what → r.what ≤ 28 → r.card ≡ absent → r.origin ≡ absent → is_default_root r ≡ true
  unfolding is_default_root is_root
  is_default r l u c o = rw (le-leb 26 r.what l, le-leb r.what 28 u, eq-eqb r.card absent c, eq-eqb r.origin absent o)

  card_passes_lem : (r : Row) → RowFits (Has ps) D r → card_passes ps r ≡ true
  unfolding card_passes
  card_passes_lem r (defined h o) = held_passes r r.what h (wanted_own r (rw (eq-eqb r.origin absent o) (and_not (is_type_row r))))
  card_passes_lem r (extended t h e) = held_passes r r.what h (wanted_own r (rw t))
  card_passes_lem r (adopting t h o) =
      held_passes r (r.what + 7) h (wanted_extension r t (ap (λ i. eqb i absent) o ∙ present (r.what + 7) r.card h))
  card_passes_lem r (default l u d c o) = rw (eq-eqb r.card absent c, is_default r l u c o) (or_yes (eqb r.what 4))
  card_passes_lem r (undefined w c o) = rw (eq-eqb r.card absent c, eq-eqb r.what 4 w)

  extension_held : (i k : ℕ) → 11 ≤ k → k ≤ 17 → Has ps k i → found (get_elem? ps i) (λ c. is_extension c.kind) false ≡ true
  unfolding is_extension
  extension_held i k l u h =
      let a : leb 11 k ≡ true = le-leb 11 k l in
      let b : leb k 17 ≡ true = le-leb k 17 u in
      rw (h.1, h.2, a, b)

  origin_passes_lem : (r : Row) → RowFits (Has ps) D r → origin_passes ps r ≡ true
  unfolding origin_passes is_type_row is_type
  origin_passes_lem r (defined h o) = rw (eq-eqb r.origin absent o)
  origin_passes_lem r (extended t h e) = rw (extension_held r.origin e.kind e.low e.high e.stored) (or_yes (eqb r.origin absent))
  origin_passes_lem r (adopting t h o) =
      let l = leb-true 5 r.what (and_true (leb 5 r.what) (leb r.what 10) t).0 in
      let u = leb-true r.what 10 (and_true (leb 5 r.what) (leb r.what 10) t).1 in
      rw (extension_held r.origin (r.what + 7) (omega arith) (omega arith) (subst (Has ps (r.what + 7)) (sym o) h)) (or_yes (eqb r.origin absent))
  origin_passes_lem r (default l u d c o) = rw (eq-eqb r.origin absent o)
  origin_passes_lem r (undefined w c o) = rw (eq-eqb r.origin absent o)

  held_no_default : (r : Row) (k : ℕ) → Has ps k r.card → is_default_root r ≡ false
  unfolding is_default_root
  held_no_default r k h = rw (present k r.card h) (and_no (is_root r.what) (eqb r.origin absent))

  no_default : (rs : List Row) (r : Row) → is_default_root r ≡ false → default_root_passes ps rs r ≡ true
  unfolding default_root_passes
  no_default rs r e = rw e

  default_passes : (rs : List Row) → ((k : ℕ) → D k → found (first_type_row ps rs (default_name k)) (λ t. eqb t.what 6) false ≡ true) →
      (r : Row) → RowFits (Has ps) D r → default_root_passes ps rs r ≡ true
  unfolding default_root_passes is_default_root is_root
  default_passes rs f r (defined h o) = no_default rs r (held_no_default r r.what h)
  default_passes rs f r (extended t h e) = no_default rs r (held_no_default r r.what h)
  default_passes rs f r (adopting t h o) = no_default rs r (held_no_default r (r.what + 7) h)
  default_passes rs f r (default l u d c o) = rw (f r.what d) (or_yes (not (is_default_root r)))
  default_passes rs f r (undefined w c o) = no_default rs r (rw w)

-- No stored card in two rows.
seen_counts : (x y : Row) (seen : List Row) → find (same_card x) seen ≡ some y →
    (x.card ≡ absent → ⊥) × (1 ≤ sum (λ r. gate (eqb r.card x.card) 1) seen)
unfolding same_card
seen_counts x y seen e =
    let s = split (same_card x) seen y e in
    let (p, q) = and_true (eqb x.card y.card) (not (eqb x.card absent)) s.passes in
    let g : gate (eqb y.card x.card) 1 ≡ 1 = rw (eq-eqb y.card x.card (sym (eqb-true x.card y.card p))) in (
      (λ z. let w : false ≡ true = rw (eq-eqb x.card absent z) at q in cc),
      omega (
        arith,
        ap (sum (λ r. gate (eqb r.card x.card) 1)) s.whole,
        sum_append (λ r. gate (eqb r.card x.card) 1) s.pre (y ∷ s.post),
      ),
    )

once_repeats : (seen xs : List Row) → ((c : ℕ) → (c ≡ absent → ⊥) → sum (λ r. gate (eqb r.card c) 1) (seen ++ xs) ≤ 1) → repeats same_card seen xs ≡ []
once_repeats seen [] h = repeats_nil same_card seen
once_repeats seen (x ∷ xs) h = go (find (same_card x) seen) refl (once_repeats (seen ++ (x ∷ [])) xs)
  where
    go : (o : Option Row) → find (same_card x) seen ≡ o →
        (((c : ℕ) → (c ≡ absent → ⊥) → sum (λ r. gate (eqb r.card c) 1) ((seen ++ (x ∷ [])) ++ xs) ≤ 1) → repeats same_card (seen ++ (x ∷ [])) xs ≡ []) →
        repeats same_card seen (x ∷ xs) ≡ []
    go none e ih = repeats_new same_card seen x xs e ∙ ih (λ c n. rw append_assoc (h c n))
    go (some y) e ih =
        let s = seen_counts x y seen e in
        let g : gate (eqb x.card x.card) 1 ≡ 1 = rw (eq-eqb x.card x.card refl) in
        absurd (omega (
          arith,
          s.1,
          h x.card s.0,
          sum_append (λ r. gate (eqb r.card x.card) 1) seen (x ∷ xs),
        ))

-- What a drawing gives passes.
has_found : (ps : List NamedCard) (p : NamedCard) → Found ps p → Has ps p.kind p.number
has_found ps p e = (p, e, refl)

-- The default root k finds an object.
abbrev Object : List NamedCard → List Row → ℕ → Type 0
Object ps rs k = found (first_type_row ps rs (default_name k)) (λ t. eqb t.what 6) false ≡ true

kind_six : (o : Option Row) → row_kind o ≡ 6 → found o (λ t. eqb t.what 6) false ≡ true
kind_six none e = let z : ◌≡◌ {A = ℕ} 0 6 = e in absurd (omega arith)
kind_six (some t) e = eq-eqb t.what 6 e

module _ (a : Bool) (ds : List Document) where
  stored : All (Stored (Has (held ds)) (Object (held ds) (rows a (headings ds)))) (headings ds)
  stored =
      all_to (OfCards (Found (held ds))) (Stored (Has (held ds)) (Object (held ds) (rows a (headings ds))))
      (λ h e. (
        has_found (held ds) (record { number = h.number; kind = h.kind; name = h.name }) e.0,
        all_to (Found (held ds)) (λ p. Has (held ds) p.kind p.number) (has_found (held ds)) h.parts e.1,
      )) (headings ds) (headings_held ds)

  roots_set : (k : ℕ) → eqb (kind_named a (headings ds) (default_name k)) 6 ≡ true → Object (held ds) (rows a (headings ds)) k
  roots_set k e =
      kind_six (first_type_row (held ds) (rows a (headings ds)) (default_name k))
      (sym (kind_named_lem (held ds) (default_name k) a (headings ds) (headings_named ds)) ∙ eqb-true (kind_named a (headings ds) (default_name k)) 6 e)

  fit : All (RowFits (Has (held ds)) (Object (held ds) (rows a (headings ds)))) (rows a (headings ds))
  fit = rows_fit_lem (Has (held ds)) (Object (held ds) (rows a (headings ds))) (headings ds) stored a roots_set

  module _ (faultless : All Faultless ds) (small : cards_held ds ≤ card_capacity) where
    few : length (held ds) ≤ card_capacity
    few = omega (arith, held_length ds)

    cards_once_lem : cards_once (held ds) (rows a (headings ds)) ≡ true
    unfolding cards_once merge
    cards_once_lem =
        rw (once_repeats [] (rows a (headings ds)) (λ c n. omega (arith, built_row_once a ds c n, count (λ r. eqb r.card c) (rows a (headings ds)))))

    cards_pass_lem : cards_pass (held ds) (rows a (headings ds)) ≡ true
    unfolding cards_pass
    cards_pass_lem =
        all_pass (card_passes (held ds)) (rows a (headings ds))
        (all_to (RowFits (Has (held ds)) (Object (held ds) (rows a (headings ds)))) (λ r. card_passes (held ds) r ≡ true)
        (card_passes_lem (held ds) few (Object (held ds) (rows a (headings ds)))) (rows a (headings ds)) fit)

    origins_pass_lem : origins_pass (held ds) (rows a (headings ds)) ≡ true
    unfolding origins_pass
    origins_pass_lem =
        all_pass (origin_passes (held ds)) (rows a (headings ds))
        (all_to (RowFits (Has (held ds)) (Object (held ds) (rows a (headings ds)))) (λ r. origin_passes (held ds) r ≡ true)
        (origin_passes_lem (held ds) few (Object (held ds) (rows a (headings ds)))) (rows a (headings ds)) fit)

    defaults_pass : default_roots_pass (held ds) (rows a (headings ds)) ≡ true
    unfolding default_roots_pass
    defaults_pass =
        all_pass (default_root_passes (held ds) (rows a (headings ds))) (rows a (headings ds))
        (all_to (RowFits (Has (held ds)) (Object (held ds) (rows a (headings ds)))) (λ r. default_root_passes (held ds) (rows a (headings ds)) r ≡ true)
        (default_passes (held ds) few (Object (held ds) (rows a (headings ds))) (rows a (headings ds)) (λ k d. d)) (rows a (headings ds)) fit)

    rows_pass : all (passes (held ds) (rows a (headings ds))) row_clauses ≡ true
    unfolding passes row_clauses
    rows_pass =
        all_pass (passes (held ds) (rows a (headings ds))) row_clauses
        (built_order (held ds) a (headings ds) (headings_kinded ds faultless), (cards_once_lem, (cards_pass_lem, (origins_pass_lem, (defaults_pass, tt)))))

    -- A drawing's own rows are not refused.
    pub built_unrefused : rows_refusal ds (flat_map words_of_row (merge a ds).rows) ≡ 0
    unfolding rows_refusal merge
    built_unrefused = rw (words_whole (rows a (headings ds)), rows_back (rows a (headings ds)), rows_pass)
