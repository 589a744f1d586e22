-- Lent rows by their numbers: row i is the words 3 i, 3 i + 1 and 3 i + 2.
use Rattle.std.specs.Prelude.{List, [], ◌∷◌, Bool, ℕ, ◌+◌, ◌*◌, get_or, Option, Some, None}
use Rattle.definition.specs.Lists.{choose}
use Rattle.definition.specs.Headings.{NamedCard}
use Rattle.definition.specs.Catalogue.{Row, row}
use Rattle.definition.specs.LentRows.{lent_rows, is_type_row_named}
use Rattle.store_reader.specs.Stored.{stored_parts}
use Rattle.schema_rows.specs.declared.Row as declared
use Rattle.schema_rows.specs.declared.Schema.{Schema}

-- A row as code reads it is the definition's.
abbrev pub row_of : declared.Row → Row
row_of r = row r.what r.card r.origin

abbrev pub row_at : List ℕ → ℕ → Row
row_at rows i = row (get_or rows (3 * i) 0) (get_or rows (3 * i + 1) 0) (get_or rows (3 * i + 2) 0)

-- What a schema's words say: the cards that are stored, and the rows that are lent.
abbrev pub cards_of : Schema → List NamedCard
cards_of s = stored_parts s.text.now s.words.now

abbrev pub rows_of : Schema → List Row
rows_of s = lent_rows s.rows.now

-- The number of the first row that passes a test, where the first row has the number i.
unfoldable pub found_from : (Row → Bool) → ℕ → List Row → Option ℕ
found_from p i [] = None
found_from p i (r ∷ rs) = let next = found_from p (i + 1) rs in choose (p r) (Some i) next

-- The first type row of a name, which is the one that counts.
abbrev pub type_found : Schema → List ℕ → Option ℕ
type_found s name = found_from (is_type_row_named (cards_of s) name) 0 (rows_of s)
