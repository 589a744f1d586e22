-- What a drawing refuses: 21 and 22, and then 7, by the lengths of the two slices that it writes.
use Rattle.std.specs.Prelude.{List, ◌||◌, ℕ, eqb, ltb}
use Rattle.definition.specs.Lists.{choose}
use Rattle.definition.specs.Refusals.{rows_capacity, errors_capacity}
use Rattle.definition.specs.Store.{store_refusal}

unfoldable pub capacity_refusal : ℕ → ℕ → ℕ
capacity_refusal rows errors = choose (ltb rows rows_capacity || ltb errors errors_capacity) 7 0

unfoldable pub build_refusal : List ℕ → List ℕ → ℕ → ℕ → ℕ
build_refusal text words rows errors =
    let n = store_refusal text words in
    let n7 = capacity_refusal rows errors in
    choose (eqb n 0) n7 n
