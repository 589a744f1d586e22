use native.Mathlib.Omega.{arith}
use Rattle.component.specs.RowsByCards.{extension_rows_at}
use Rattle.component.proofs.Loops.{extends_fits, extends_next}
use Rattle.from_ast_rows.proofs.extensions.type_extensions.Goals as goal

pub extend_ast-requires-clause-room : goal.extend_ast-requires-clause-room
unfolding extension_rows_at
extend_ast-requires-clause-room c = extends_fits _ _ _ _ _ _ _ c.loop-card.invariant (omega arith)

pub loop-card-preserved : goal.loop-card-preserved
unfolding extension_rows_at
loop-card-preserved c = extends_next _ _ _ _ _ _ _ c.loop-card.invariant (omega arith) _ c.extend_ast.ensures
