use native.Mathlib.Omega.{arith}
use Rattle.definition.specs.Catalogue.{under_type}
use Rattle.component.proofs.Loops.{pushes_fits, pushes_next}
use Rattle.from_ast_rows.proofs.types.Type.collect_lists.Goals as goal

pub collect_sticky-requires : goal.collect_sticky-requires
unfolding under_type
collect_sticky-requires c = pushes_fits _ _ _ _ _ c.loop-kind.invariant (omega arith)

pub loop-kind-preserved : goal.loop-kind-preserved
unfolding under_type
loop-kind-preserved c = pushes_next _ _ _ _ _ c.loop-kind.invariant (omega arith) _ c.collect_sticky.ensures
