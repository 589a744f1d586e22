-- The search over lent rows: type rows outside, their part rows inside.
use Rattle.std.specs.Prelude.{List, [], ◌∷◌, Bool, ℕ, ◌+◌, Option, Some, None}
use Rattle.definition.specs.Lists.{choose}
use Rattle.definition.specs.Catalogue.{Row}
use Rattle.definition.specs.LentRows.{is_type_row, is_type_row_named}
use Rattle.definition.specs.Lookups.{is_part_named}
use Rattle.schema_rows.specs.Rows.{cards_of, rows_of}
use Rattle.schema_rows.specs.declared.Schema.{Schema}
use Rattle.schema_rows.specs.declared.search.Located.{Located}

-- The first part that hits before the next type row; the first row has the number i.
unfoldable pub part_from : (Row → Bool) → ℕ → List Row → Option ℕ
part_from hit i [] = None
part_from hit i (r ∷ rs) =
    let next = part_from hit (i + 1) rs in
    let here = choose (hit r) (Some i) next in
    choose (is_type_row r) None here

-- The first type row that is meant, and the first part under it that hits.
unfoldable pub located_from : (Row → Bool) → (Row → Bool) → ℕ → List Row → Located
located_from meant hit i [] = record { owner = None; part = None }
located_from meant hit i (r ∷ rs) =
    let next = located_from meant hit (i + 1) rs in
    let here : Located = record { owner = Some i; part = part_from hit (i + 1) rs } in
    choose (meant r) here next

-- The first type row of a name and under it the first part of a kind and a name.
abbrev pub part_located : Schema → List ℕ → ℕ → List ℕ → Located
part_located s owner kind part = located_from (is_type_row_named (cards_of s) owner) (is_part_named (cards_of s) kind part) 0 (rows_of s)
