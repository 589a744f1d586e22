-- The outcome of `build`, by the one number that is refused.
use mathlib.Core.Path.{◌≡◌, refl, ◌∙◌}
use mathlib.Core.List.{List, []}
use mathlib.Core.Bool.{Bool, true, false, ◌||◌}
use Prim.Native.Nat.{ℕ}
use lib.Dec.{eqb, ltb}
use lib.ListN.{length}
use Rattle.definition.specs.declared.Drawing.{Drawing}
use Rattle.definition.specs.Lists.{choose}
use Rattle.definition.specs.Merge.{merge}
use Rattle.definition.specs.Refusals.{rows_capacity, errors_capacity}
use Rattle.definition.specs.Store.{account_in, store_refusal}
use Rattle.definition.specs.Outcomes.{BuildOutcome, unbuilt, merged_into, is_short, build_of, build}
use Rattle.api.specs.BuildRefusal.{capacity_refusal, build_refusal}
use Rattle.api.proofs.LookupOutcomes.{one_number, outcome_refused, outcome_done}

abbrev pub left : Drawing → List ℕ → List ℕ → BuildOutcome
left r rows errors = record { drawing = r; rows = rows; errors = errors }

-- What is drawn into the two slices.
unfoldable built_from : List ℕ → List ℕ → List ℕ → List ℕ → BuildOutcome
built_from text words rows errors = merged_into rows errors (merge (account_in text words).adopt (account_in text words).documents)

module _ (text words rows errors : List ℕ) where
  build_by : build text words rows errors
      ≡ choose (eqb (build_refusal text words (length rows) (length errors)) 0) (built_from text words rows errors)
      (unbuilt rows errors (build_refusal text words (length rows) (length errors)))
  unfolding build build_of is_short build_refusal capacity_refusal built_from
  build_by =
      seven (ltb (length rows) rows_capacity || ltb (length errors) errors_capacity)
      ∙ one_number (store_refusal text words) (choose (ltb (length rows) rows_capacity || ltb (length errors) errors_capacity) 7 0)
      (built_from text words rows errors) (unbuilt rows errors)
    where
      seven : (b : Bool) →
          choose (eqb (store_refusal text words) 0) (choose b (unbuilt rows errors 7) (built_from text words rows errors))
          (unbuilt rows errors (store_refusal text words)) ≡
          choose (eqb (store_refusal text words) 0) (choose (eqb (choose b 7 0) 0) (built_from text words rows errors) (unbuilt rows errors (choose b 7 0)))
          (unbuilt rows errors (store_refusal text words))
      seven true = refl
      seven false = refl

  module _ (r : Drawing) (n : ℕ) (e : n ≡ build_refusal text words (length rows) (length errors)) where
    pub build_refused : (n ≡ 0 → ⊥) → r ≡ (unbuilt [] [] n).drawing → left r rows errors ≡ build text words rows errors
    unfolding unbuilt
    build_refused z d = rw d (outcome_refused _ n e _ (unbuilt rows errors) _ build_by z)

    pub build_done : n ≡ 0 → (rows' errors' : List ℕ) →
        left r rows' errors' ≡ merged_into rows errors (merge (account_in text words).adopt (account_in text words).documents) →
        left r rows' errors' ≡ build text words rows errors
    unfolding built_from
    build_done z rows' errors' d = outcome_done _ n e _ (unbuilt rows errors) _ build_by _ z d
