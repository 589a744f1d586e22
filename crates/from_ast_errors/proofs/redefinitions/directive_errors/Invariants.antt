use mathlib.Core.Path.{◌≡◌}
use lib.ListN.{drop}
use Rattle.definition.specs.Lists.{find}
use Rattle.from_ast_collisions.specs.ErrorsByCards.{collides}
use Rattle.from_ast_collisions.specs.Views.{cards}
use Rattle.from_ast_errors.proofs.redefinitions.directive_errors.Given as goal

abbrev pub invariant-loop-card : goal.invariant-loop-card
invariant-loop-card l =
    (l.errors ≡ l.initial.errors)
    × (find (collides (cards l.collection) l.h) l.before ≡ find (collides (cards l.collection) l.h) (drop l.card-index l.before))
