use native.Mathlib.Omega.{arith}
use Rattle.component.proofs.Loops.{pushes_fits, pushes_next}
use Rattle.from_ast_rows.proofs.types.push_adopted_types.Goals as goal

pub push_type-requires-clause-room : goal.push_type-requires-clause-room
push_type-requires-clause-room c = pushes_fits _ _ _ _ _ c.loop-card.invariant (omega arith)

pub loop-card-preserved : goal.loop-card-preserved
loop-card-preserved c =
    let turn = c.loop-card.invariant in
    let r = c.push_type.ensures in
    pushes_next _ _ _ _ _ turn (omega arith) _ r
