use Rattle.from_ast_collisions.specs.ErrorsByCards.{unmet_errors}
use Rattle.from_ast_collisions.specs.Views.{cards}
use Rattle.from_ast_collisions.proofs.Push.{Turn}
use Rattle.from_ast_errors.proofs.building.unmet_errors.Given as goal

abbrev pub invariant-loop-heading : goal.invariant-loop-heading
invariant-loop-heading l = Turn (unmet_errors (cards l.collection)) l.headings l.initial.errors l.errors l.heading-index
