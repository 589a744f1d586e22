-- What writing the errors of a build asks, and what it leaves.
use Rattle.std.specs.Prelude.{◌≡◌, List, [], ◌++◌, Bool, true, ℕ, ◌*◌, ◌≤◌, length, get_or}
use Rattle.definition.specs.Lists.{flat_map, written}
use Rattle.definition.specs.Headings.{Heading}
use Rattle.definition.specs.Catalogue.{rows}
use Rattle.definition.specs.Errors.{Error, reading_errors, drawing_errors}
use Rattle.definition.specs.Merge.{tallies}
use Rattle.definition.specs.Outcomes.{words_of_row, words_of_error}
use Rattle.definition.specs.Refusals.{card_capacity}
use Rattle.definition.specs.Store.{sound}
use Rattle.store_reader.specs.Stored.{stored_headings}
use Rattle.from_ast_index.specs.declared.Index.{Index}
use Rattle.from_ast_errors.specs.declared.ErrorCounts.{ErrorCounts}
use Rattle.from_ast_collisions.specs.ErrorsByCards.{reading_errors_at, drawing_errors_at}
use Rattle.from_ast_collisions.specs.Views.{view}

-- The card of the schema definition, or `-`: the row 4 comes first.
abbrev pub schema_card : List ℕ → ℕ
schema_card rows = get_or rows 1 0

-- All errors, those of reading first.
unfoldable pub all_errors : Bool → List Heading → List Error
all_errors adopt hs = reading_errors [] hs ++ drawing_errors adopt hs

-- The same by what is indexed and the finished rows: those of reading,
abbrev pub reading_errors_in : Index → List ℕ → List Error
reading_errors_in i rows = reading_errors_at (view i) rows (schema_card rows) i.extensions.now [] i.headings.now

-- and those of building.
abbrev pub drawing_errors_in : Bool → Index → List ℕ → List Error
drawing_errors_in adopt i rows = drawing_errors_at adopt (view i) rows (schema_card rows) i.extensions.now i.orphans.now i.headings.now

-- A sound store that is indexed, its rows built, and room for its errors.
pub record ErrorsAsked (i : Index) (adopt : Bool) (built errors : List ℕ) : Type 0 where
  pub store_sound : sound i.collection.text.now i.collection.words.now ≡ true
  pub rows_are : built ≡ flat_map words_of_row (rows adopt (stored_headings i.collection.text.now i.collection.words.now))
  pub errors_most : length (all_errors adopt (stored_headings i.collection.text.now i.collection.words.now)) ≤ card_capacity
  pub errors_capacity_lem : 3 * length (all_errors adopt (stored_headings i.collection.text.now i.collection.words.now)) ≤ length errors

-- The errors are written where the slice begins, the words past them stay, and they are counted.
pub record ErrorsWritten (adopt : Bool) (hs : List Heading) (before after : List ℕ) (r : ErrorCounts) : Type 0 where
  pub errors_are : after ≡ written before 0 (flat_map words_of_error (all_errors adopt hs))
  pub reading_count : r.reading ≡ length (reading_errors [] hs)
  pub drawing_count : r.drawing ≡ length (drawing_errors adopt hs)
  pub tallies_are : r.tallies.counts ≡ tallies (all_errors adopt hs)
  pub total_is : r.tallies.total ≡ length (all_errors adopt hs)
