use Rattle.from_ast_collisions.specs.ErrorsByCards.{orphan_errors_at}
use Rattle.from_ast_collisions.proofs.Push.{Turn}
use Rattle.from_ast_errors.specs.Views.{owned_view}
use Rattle.from_ast_errors.proofs.orphans.all_orphan_errors.Given as goal

abbrev pub invariant-loop-g : goal.invariant-loop-g
invariant-loop-g l = Turn (orphan_errors_at l.adopt (owned_view l.finished.collection l.finished.owners.now) l.finished.rows.rows.now l.extensions) l.orphans l.initial.errors l.errors l.g-index
