-- How many rows there are that 26 does not refuse: every card stands in at most one row, so at most 2,300 rows have a card.
use mathlib.Core.Path.{◌≡◌, refl, sym, ◌∙◌, ap}
use mathlib.Core.List.{List, [], ◌∷◌, ◌++◌}
use mathlib.Core.Bool.{Bool, true, false, not}
use Prim.Native.Nat.{ℕ, zero, suc, ◌%◌, ◌≤◌, ◌<◌}
use native.Mathlib.Omega.{arith}
use borrow.Author.Tests.{eq-eqb, ne_eqb, eqb-true, eqb-false}
use lib.Dec.{eqb}
use lib.ListN.{length}
use Rattle.definition.specs.Lists.{choose, filter, any, all, All}
use Rattle.definition.specs.Answers.{absent}
use Rattle.definition.specs.Catalogue.{Row}
use Rattle.definition.specs.Refusals.{card_capacity}
use Rattle.definition.specs.Store.{account_in, sound}
use Rattle.definition.specs.LentRows.{lent_rows, order_passes, same_card, rows_refusal}
use Rattle.definition.proofs.All.{pass_all}
use Rattle.definition.proofs.Lists.{none_head, any_no}
use Rattle.store_reader.specs.Stored.{stored_parts}
use Rattle.store_reader.proofs.Lists.{chosen_true}
use Rattle.store_reader.proofs.Laws.{cards_fit_lem}
use Rattle.schema_rows.specs.Passing.{row_passes}
use Rattle.schema_rows.specs.Walk.{ordered_from, once_from, rest_passes, has_card}
use Rattle.schema_rows.proofs.Passing.{card_is, card_stored, row_passed}
use Rattle.schema_rows.proofs.Rows.{contradiction}
use Rattle.schema_rows.proofs.Walk.{once_next, once_bad, any_snoc, present_same, whole, not_whole, walk_passed}

-- ---- Numbers below a bound, each at most once.

abbrev Fresh : List ℕ → Type 0
Fresh [] = Unit {0}
Fresh (x ∷ xs) = (any (eqb x) xs ≡ false) × Fresh xs

is_other : ℕ → ℕ → Bool
is_other n x = not (eqb n x)

module _ (n : ℕ) where
  others : List ℕ → List ℕ
  others xs = filter (is_other n) xs

  others_same : (x : ℕ) (xs : List ℕ) → eqb n x ≡ true → others (x ∷ xs) ≡ others xs
  unfolding others filter is_other
  others_same x xs e = rw e

  others_more : (x : ℕ) (xs : List ℕ) → eqb n x ≡ false → others (x ∷ xs) ≡ x ∷ others xs
  unfolding others filter is_other
  others_more x xs e = rw e

  others_none : others [] ≡ []
  unfolding others filter
  others_none = refl

  others_among : (c : ℕ) (xs : List ℕ) → any (eqb c) xs ≡ false → any (eqb c) (others xs) ≡ false
  others_among c [] e = rw others_none e
  others_among c (x ∷ xs) e = go (eqb n x) refl (others_among c xs (none_head (eqb c) x xs e).1)
    where
      go : (b : Bool) → eqb n x ≡ b → any (eqb c) (others xs) ≡ false → any (eqb c) (others (x ∷ xs)) ≡ false
      go true t ih = rw (others_same x xs t) ih
      go false t ih = rw (others_more x xs t) (any_no (eqb c) x (others xs) (none_head (eqb c) x xs e).0 ∙ ih)

  others_fresh : (xs : List ℕ) → Fresh xs → Fresh (others xs)
  others_fresh [] f = rw others_none tt
  others_fresh (x ∷ xs) f = go (eqb n x) refl (others_fresh xs f.1)
    where
      go : (b : Bool) → eqb n x ≡ b → Fresh (others xs) → Fresh (others (x ∷ xs))
      go true t ih = rw (others_same x xs t) ih
      go false t ih = rw (others_more x xs t) (others_among x xs f.0, ih)

  others_below : (xs : List ℕ) → All (λ x. x < suc n) xs → All (λ x. x < n) (others xs)
  others_below [] a = rw others_none tt
  others_below (x ∷ xs) a = go (eqb n x) refl (others_below xs a.1)
    where
      go : (b : Bool) → eqb n x ≡ b → All (λ x. x < n) (others xs) → All (λ x. x < n) (others (x ∷ xs))
      go true t ih = rw (others_same x xs t) ih
      go false t ih = rw (others_more x xs t) ((let h = a.0 in let k = eqb-false n x t in omega arith), ih)

  others_all : (xs : List ℕ) → any (eqb n) xs ≡ false → others xs ≡ xs
  others_all [] e = others_none
  others_all (x ∷ xs) e = others_more x xs (none_head (eqb n) x xs e).0 ∙ ap (λ (l : List ℕ). x ∷ l) (others_all xs (none_head (eqb n) x xs e).1)

  others_length : (xs : List ℕ) → Fresh xs → length xs ≤ suc (length (others xs))
  others_length [] f = omega arith
  others_length (x ∷ xs) f = go (eqb n x) refl (others_length xs f.1)
    where
      go : (b : Bool) → eqb n x ≡ b → length xs ≤ suc (length (others xs)) → suc (length xs) ≤ suc (length (others (x ∷ xs)))
      go true t ih =
          let q : n ≡ x = eqb-true n x t in
          let k : others (x ∷ xs) ≡ xs = others_same x xs t ∙ others_all xs (rw q f.0) in
          let l = ap length k in
          omega arith
      go false t ih = let l = ap length (others_more x xs t) in omega arith

fresh_fits : (n : ℕ) (xs : List ℕ) → Fresh xs → All (λ x. x < n) xs → length xs ≤ n
fresh_fits zero [] f a = omega arith
fresh_fits zero (x ∷ xs) f a = absurd (let h = a.0 in omega arith)
fresh_fits (suc n) xs f a =
    let ih = fresh_fits n (others n xs) (others_fresh n xs f) (others_below n xs a) in
    let l = others_length n xs f in
    omega arith

-- ---- The cards of rows.

unfoldable pub cards_of : List Row → List ℕ
cards_of [] = []
cards_of (r ∷ rs) = let more = cards_of rs in choose (eqb r.card absent) more (r.card ∷ more)

module _ (r : Row) (rs : List Row) where
  pub cards_without : r.card ≡ absent → cards_of (r ∷ rs) ≡ cards_of rs
  unfolding cards_of
  cards_without e = rw (eq-eqb r.card absent e)

  pub cards_with : (r.card ≡ absent → ⊥) → cards_of (r ∷ rs) ≡ r.card ∷ cards_of rs
  unfolding cards_of
  cards_with e = rw (ne_eqb r.card absent e)

pub cards_none : cards_of [] ≡ []
unfolding cards_of
cards_none = refl

-- What is seen once does not come again.
once_parts : (r : Row) (seen rs : List Row) → once_from seen (r ∷ rs) ≡ true → (any (same_card r) seen ≡ false) × (once_from (seen ++ (r ∷ [])) rs ≡ true)
once_parts r seen rs e = go (any (same_card r) seen) refl
  where
    go : (b : Bool) → any (same_card r) seen ≡ b → (any (same_card r) seen ≡ false) × (once_from (seen ++ (r ∷ [])) rs ≡ true)
    go true t = contradiction (once_from seen (r ∷ rs)) (sym (once_bad r seen rs t)) e
    go false t = (t, sym (once_next r seen rs t) ∙ e)

has_snoc : (c : ℕ) (seen : List Row) (r : Row) → any (has_card c) seen ≡ true → any (has_card c) (seen ++ (r ∷ [])) ≡ true
has_snoc c seen r e = any_snoc (has_card c) seen r ∙ rw e (go (has_card c r))
  where
    go : (b : Bool) → choose b true true ≡ true
    go true = refl
    go false = refl

has_last : (seen : List Row) (r : Row) → any (has_card r.card) (seen ++ (r ∷ [])) ≡ true
unfolding has_card
has_last seen r = any_snoc (has_card r.card) seen r ∙ rw (eq-eqb r.card r.card refl)

seen_once : (c : ℕ) (rs seen : List Row) → (c ≡ absent → ⊥) → any (has_card c) seen ≡ true → once_from seen rs ≡ true → any (eqb c) (cards_of rs) ≡ false
unfolding any
seen_once c [] seen n h e = rw cards_none
seen_once c (r ∷ rs) seen n h e =
    let o = once_parts r seen rs e in
    go (eqb r.card absent) (eqb c r.card) refl refl o.0 (seen_once c rs (seen ++ (r ∷ [])) n (has_snoc c seen r h) o.1)
  where
    go : (a b : Bool) → eqb r.card absent ≡ a → eqb c r.card ≡ b → any (same_card r) seen ≡ false → any (eqb c) (cards_of rs) ≡ false →
        any (eqb c) (cards_of (r ∷ rs)) ≡ false
    go true b s t o ih = rw (cards_without r rs (eqb-true r.card absent s)) ih
    go false true s t o ih =
        let q : c ≡ r.card = eqb-true c r.card t in
        contradiction (any (same_card r) seen) (sym o) (present_same r (eqb-false r.card absent s) seen ∙ ap (λ (c : ℕ). any (has_card c) seen) (sym q) ∙ h)
    go false false s t o ih = rw (cards_with r rs (eqb-false r.card absent s)) (any_no (eqb c) r.card (cards_of rs) t ∙ ih)

cards_fresh : (rs seen : List Row) → once_from seen rs ≡ true → Fresh (cards_of rs)
cards_fresh [] seen e = rw cards_none tt
cards_fresh (r ∷ rs) seen e = let o = once_parts r seen rs e in go (eqb r.card absent) refl o.1 (cards_fresh rs (seen ++ (r ∷ [])) o.1)
  where
    go : (b : Bool) → eqb r.card absent ≡ b → once_from (seen ++ (r ∷ [])) rs ≡ true → Fresh (cards_of rs) → Fresh (cards_of (r ∷ rs))
    go true s o ih = rw (cards_without r rs (eqb-true r.card absent s)) ih
    go false s o ih =
        let n = eqb-false r.card absent s in
        rw (cards_with r rs n) (seen_once r.card rs (seen ++ (r ∷ [])) n (has_last seen r) o, ih)

-- ---- What 26 leaves.

cards_below : (text words : List ℕ) (all_rows rs : List Row) → sound text words ≡ true → All (λ r. row_passes (stored_parts text words) all_rows r ≡ true) rs →
    All (λ c. c < card_capacity) (cards_of rs)
cards_below text words whole-rows [] ok a = rw cards_none tt
cards_below text words whole-rows (r ∷ rs) ok a = go (eqb r.card absent) refl (cards_below text words whole-rows rs ok a.1)
  where
    go : (b : Bool) → eqb r.card absent ≡ b → All (λ c. c < card_capacity) (cards_of rs) → All (λ c. c < card_capacity) (cards_of (r ∷ rs))
    go true s ih = rw (cards_without r rs (eqb-true r.card absent s)) ih
    go false s ih =
        let n = eqb-false r.card absent s in
        let c = row_passed (stored_parts text words) whole-rows r a.0 in
        let h = card_stored r.what r.card r.origin words (card_is r.what r.card r.origin words text ∙ c) n in
        let f = cards_fit_lem text words ok in
        rw (cards_with r rs n) ((omega arith), ih)

-- Rows that 26 does not refuse.
pub record Accepted (text words rows : List ℕ) : Type 0 where
  pub ordered : order_passes [] (lent_rows rows) ≡ true
  pub once : once_from [] (lent_rows rows) ≡ true
  pub each : All (λ r. row_passes (stored_parts text words) (lent_rows rows) r ≡ true) (lent_rows rows)

pub accepted : (text words rows : List ℕ) → sound text words ≡ true → rows_refusal (account_in text words).documents rows ≡ 0 → Accepted text words rows
unfolding rest_passes ordered_from
accepted text words rows ok e = go (eqb (length rows % 3) 0) refl
  where
    go : (b : Bool) → eqb (length rows % 3) 0 ≡ b → Accepted text words rows
    go false t = absurd (let z : 26 ≡ 0 = not_whole text words rows ok (eqb-false (length rows % 3) 0 t) ∙ e in omega arith)
    go true t =
        let w = walk_passed _ (sym (whole text words rows ok (eqb-true (length rows % 3) 0 t)) ∙ e) in
        let a = chosen_true (order_passes [] (lent_rows rows))
        (choose (once_from [] (lent_rows rows)) (all (row_passes (stored_parts text words) (lent_rows rows)) (lent_rows rows)) false) w in
        let b = chosen_true (once_from [] (lent_rows rows)) (all (row_passes (stored_parts text words) (lent_rows rows)) (lent_rows rows)) a.1 in
        record { ordered = a.0; once = b.0; each = pass_all (row_passes (stored_parts text words) (lent_rows rows)) (lent_rows rows) b.1 }

pub cards_capacity : (text words rows : List ℕ) → sound text words ≡ true → Accepted text words rows → length (cards_of (lent_rows rows)) ≤ card_capacity
cards_capacity text words rows ok a =
    fresh_fits card_capacity (cards_of (lent_rows rows)) (cards_fresh (lent_rows rows) [] a.once)
    (cards_below text words (lent_rows rows) (lent_rows rows) ok a.each)
