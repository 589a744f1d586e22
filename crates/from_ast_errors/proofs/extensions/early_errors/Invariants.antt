use Rattle.from_ast_collisions.specs.ErrorsByCards.{early_errors}
use Rattle.from_ast_collisions.proofs.Push.{Turn}
use Rattle.from_ast_errors.specs.Views.{owned_view}
use Rattle.from_ast_errors.proofs.extensions.early_errors.Given as goal

abbrev pub invariant-loop-card : goal.invariant-loop-card
invariant-loop-card l = Turn (early_errors (owned_view l.collection l.owners) l.owner.rows.now l.owner.card) l.extensions l.initial.errors l.errors l.card-index
