use mathlib.Core.Path.{◌≡◌}
use lib.ListN.{drop}
use Rattle.definition.specs.Lists.{find}
use Rattle.component.specs.RowsByCards.{is_type_named}
use Rattle.from_ast_rows.proofs.root_operations.first_kind.Given as goal

abbrev pub invariant-loop-card : goal.invariant-loop-card
invariant-loop-card l =
    find (is_type_named l.collection.text.now l.collection.words.now l.extending l.name) l.headings
    ≡ find (is_type_named l.collection.text.now l.collection.words.now l.extending l.name) (drop l.card-index l.headings)
