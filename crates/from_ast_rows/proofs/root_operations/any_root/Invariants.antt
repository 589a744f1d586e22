use mathlib.Core.Path.{◌≡◌}
use lib.ListN.{drop}
use Rattle.definition.specs.Lists.{any}
use Rattle.component.specs.RowsByCards.{sets_root}
use Rattle.from_ast_rows.proofs.root_operations.any_root.Given as goal

-- One of the headings left sets a root exactly where one of all does.
abbrev pub invariant-loop-card : goal.invariant-loop-card
invariant-loop-card l =
    any (sets_root l.collection.words.now) l.headings
    ≡ any (sets_root l.collection.words.now) (drop l.card-index l.headings)
