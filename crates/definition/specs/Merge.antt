-- What a drawing is: rows and errors for the documents held and the adopt switch, and their tallies.
use Rattle.std.specs.Prelude.{List, [], ◌∷◌, map, Bool, ℕ, zero, suc, ◌+◌, eqb, length}
use Rattle.definition.specs.Lists.{filter}
use Rattle.definition.specs.Headings.{Document, headings}
use Rattle.definition.specs.Catalogue.{Row, rows}
use Rattle.definition.specs.Errors.{Error, reading_errors, drawing_errors}

-- Rows, errors while reading documents, errors while drawing. "Reading errors are those pushed in `add_ast`".
pub record Merged : Type 0 where
  pub rows : List Row
  pub reading_errors : List Error
  pub drawing_errors : List Error

unfoldable pub merge : Bool → List Document → Merged
merge adopt ds =
    let hs = headings ds in
    let rs = rows adopt hs in
    let reading_ones = reading_errors [] hs in
    let drawing_ones = drawing_errors adopt hs in
    record { rows = rs; reading_errors = reading_ones; drawing_errors = drawing_ones }

-- How many error numbers there are, 1 to input_field_name_collision.
abbrev pub error_numbers : ℕ
error_numbers = 16

-- n numbers from i on.
unfoldable pub numbers_from : ℕ → ℕ → List ℕ
numbers_from i zero = []
numbers_from i (suc n) = i ∷ numbers_from (i + 1) n

unfoldable pub is_numbered : ℕ → Error → Bool
is_numbered n e = eqb e.number n

-- "A tally counts the error rows of its number."
unfoldable pub tally : List Error → ℕ → ℕ
tally es n = length (filter (is_numbered n) es)

unfoldable pub tallies : List Error → List ℕ
tallies es = map (tally es) (numbers_from 1 error_numbers)
