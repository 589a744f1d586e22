use native.Mathlib.Omega.{arith}
use Rattle.from_ast_collisions.proofs.Push.{turn_next}
use Rattle.from_ast_collisions.proofs.Branches.{defined_kind}
use Rattle.from_ast_errors.proofs.orphans.adoption_errors.Goals as goal

pub owner-owner-requires : goal.owner-owner-requires
owner-owner-requires c = omega (arith, defined_kind _ _ _ c.kind.ensures c.definition_of.ensures c.requires.g_held.least, c.requires.g_held.most)

pub loop-card-preserved : goal.loop-card-preserved
loop-card-preserved c =
    turn_next _ _ _ _ _ c.loop-card.invariant (omega arith) _
    (rw (c.owner-owner.ensures.rows, c.owner-owner.ensures.card) at c.adopt_extension.ensures)
