use borrow.Author.Rules.{rules}
use Rattle.from_ast_collisions.proofs.Push.{turn_next}
use Rattle.from_ast_errors.proofs.extensions.early_errors.Goals as goal

pub loop-card-preserved : goal.loop-card-preserved
loop-card-preserved c = search (rules, turn_next)
