use borrow.Author.Rules.{rules}
use Rattle.from_ast_collisions.proofs.Push.{turn_next}
use Rattle.from_ast_errors.proofs.orphans.all_orphan_errors.Goals as goal

pub loop-g-preserved : goal.loop-g-preserved
loop-g-preserved c = search (rules, turn_next)
