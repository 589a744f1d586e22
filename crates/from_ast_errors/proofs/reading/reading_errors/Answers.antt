use native.Mathlib.Omega.{arith}
use Rattle.from_ast_collisions.proofs.Push.{next_on, going_end}
use Rattle.from_ast_collisions.proofs.Branches.{reading_next, reading_done}
use Rattle.from_ast_errors.proofs.reading.reading_errors.Goals as goal

pub loop-k-preserved : goal.loop-k-preserved
loop-k-preserved c =
    next_on _ _ _ _ _ _ _ (reading_next _ _ _ _ _ c.loop-k.k (omega arith)) c.errors_at.ensures c.loop-k.invariant

pub returns : goal.returns
returns c = going_end _ _ _ _ (reading_done _ _ _ _ _ c.loop-k.k (omega arith)) c.loop-k.invariant
