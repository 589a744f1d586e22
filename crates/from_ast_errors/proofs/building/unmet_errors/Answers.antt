use borrow.Author.Rules.{rules}
use Rattle.from_ast_collisions.proofs.Push.{turn_next}
use Rattle.from_ast_errors.proofs.building.unmet_errors.Goals as goal

pub loop-heading-preserved : goal.loop-heading-preserved
loop-heading-preserved c = search (rules, turn_next)
