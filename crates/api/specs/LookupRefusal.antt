-- 21, 22 and 26, in 01's order: what is refused before anything is looked up.
use Rattle.std.specs.Prelude.{List, ℕ, eqb, ltb}
use Rattle.definition.specs.Lists.{choose}
use Rattle.definition.specs.Store.{account_in, store_refusal}
use Rattle.definition.specs.LentRows.{rows_refusal}

-- The refusal's number for a store and lent rows, or 0.
unfoldable pub lookup_refusal : List ℕ → List ℕ → List ℕ → ℕ
lookup_refusal text words rows =
    let n = store_refusal text words in
    let lent = rows_refusal (account_in text words).documents rows in
    choose (eqb n 0) lent n

-- The same for a lookup that fills a slice: 7 after the others, where the slice is shorter than its room.
unfoldable pub list_refusal : List ℕ → List ℕ → List ℕ → ℕ → ℕ → ℕ
list_refusal text words rows capacity len =
    let n = lookup_refusal text words rows in
    let n7 : ℕ = choose (ltb len capacity) 7 0 in
    choose (eqb n 0) n7 n
