-- The bounds of a drawing: at most four rows more than cards, no more errors than cards, and no card in the second word of two rows or two errors.
use mathlib.Core.Path.{◌≡◌, sym}
use mathlib.Core.List.{List, [], ◌++◌}
use mathlib.Core.Bool.{Bool}
use Prim.Native.Nat.{ℕ, ◌+◌, ◌≤◌}
use native.Mathlib.Omega.{arith}
use lib.Dec.{eqb}
use lib.ListN.{length}
use borrow.Author.Tests.{ne_eqb}
use Rattle.definition.specs.Lists.{filter}
use Rattle.definition.specs.Answers.{absent}
use Rattle.definition.specs.Headings.{Document, Heading, headings}
use Rattle.definition.specs.Catalogue.{rows}
use Rattle.definition.specs.Errors.{reading_errors, drawing_errors}
use Rattle.definition.specs.Merge.{merge}
use Rattle.definition.specs.Refusals.{cards_held}
use Rattle.definition.proofs.Sums.{sum, gate, sum_one, count}
use Rattle.definition.proofs.RowBound.{rows_weigh}
use Rattle.definition.proofs.ErrorBound.{errors_weigh}
use Rattle.definition.proofs.DocumentHeadings.{whole, headings_count, headings_once}

-- Of headings: cards are counted by `sum (whole (λ i. 1))`, and those of number c by `sum (whole (λ i. gate (eqb i c) 1))`.
module _ (a : Bool) (hs : List Heading) where
  pub rows_count : length (rows a hs) ≤ sum (whole (λ i. 1)) hs + 4
  rows_count = omega (arith, rows_weigh (λ i. 1) hs a, sum_one (rows a hs))

  pub errors_count : length (reading_errors [] hs ++ drawing_errors a hs) ≤ sum (whole (λ i. 1)) hs
  errors_count = omega (arith, errors_weigh (λ i. 1) a hs, sum_one (reading_errors [] hs ++ drawing_errors a hs))

  pub rows_once : (c : ℕ) → (c ≡ absent → ⊥) → length (filter (λ r. eqb r.card c) (rows a hs)) ≤ sum (whole (λ i. gate (eqb i c) 1)) hs
  rows_once c n =
      let e : gate (eqb absent c) 1 ≡ 0 = rw (ne_eqb absent c (λ q. n (sym q))) in
      omega (arith, rows_weigh (λ i. gate (eqb i c) 1) hs a, count (λ r. eqb r.card c) (rows a hs))

  pub errors_once : (c : ℕ) → length (filter (λ e. eqb e.card c) (reading_errors [] hs ++ drawing_errors a hs)) ≤ sum (whole (λ i. gate (eqb i c) 1)) hs
  errors_once c = omega (arith, errors_weigh (λ i. gate (eqb i c) 1) a hs, count (λ e. eqb e.card c) (reading_errors [] hs ++ drawing_errors a hs))

-- Of a drawing.
module _ (a : Bool) (ds : List Document) where
  pub built_rows_lem : length (merge a ds).rows ≤ cards_held ds + 4
  unfolding merge
  built_rows_lem = omega (arith, rows_count a (headings ds), headings_count ds)

  pub built_errors : length ((merge a ds).reading_errors ++ (merge a ds).drawing_errors) ≤ cards_held ds
  unfolding merge
  built_errors = omega (arith, errors_count a (headings ds), headings_count ds)

  pub built_row_once : (c : ℕ) → (c ≡ absent → ⊥) → length (filter (λ r. eqb r.card c) (merge a ds).rows) ≤ 1
  unfolding merge
  built_row_once c n = omega (arith, rows_once a (headings ds) c n, headings_once ds c)

  pub built_error_once : (c : ℕ) → length (filter (λ e. eqb e.card c) ((merge a ds).reading_errors ++ (merge a ds).drawing_errors)) ≤ 1
  unfolding merge
  built_error_once c = omega (arith, errors_once a (headings ds) c, headings_once ds c)
