use mathlib.Core.Path.{◌≡◌}
use lib.ListN.{drop}
use Rattle.definition.specs.Lists.{find}
use Rattle.component.specs.RowsByCards.{is_schema_card}
use Rattle.from_ast_rows.proofs.root_operations.schema_definition.Given as goal

-- The first of all headings is the first of those left.
abbrev pub invariant-loop-card : goal.invariant-loop-card
invariant-loop-card l =
    find (is_schema_card l.collection.words.now) l.headings
    ≡ find (is_schema_card l.collection.words.now) (drop l.card-index l.headings)
