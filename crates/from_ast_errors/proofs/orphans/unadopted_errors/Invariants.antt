use Rattle.from_ast_collisions.specs.ErrorsByCards.{unadopted_errors_at}
use Rattle.from_ast_collisions.proofs.Push.{Turn}
use Rattle.from_ast_errors.specs.Views.{owned_view}
use Rattle.from_ast_errors.proofs.orphans.unadopted_errors.Given as goal

abbrev pub invariant-loop-card : goal.invariant-loop-card
invariant-loop-card l = Turn (unadopted_errors_at (owned_view l.finished.collection l.finished.owners.now) l.g) l.extensions l.initial.errors l.errors l.card-index
