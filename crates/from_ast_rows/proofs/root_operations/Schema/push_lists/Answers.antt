use native.Mathlib.Omega.{arith}
use Rattle.definition.specs.Catalogue.{under_schema}
use Rattle.component.proofs.Loops.{pushes_fits, pushes_next}
use Rattle.from_ast_rows.proofs.root_operations.Schema.push_lists.Goals as goal

pub push_list-requires : goal.push_list-requires
unfolding under_schema
push_list-requires c = pushes_fits _ _ _ _ _ c.loop-kind.invariant (omega arith)

pub loop-kind-preserved : goal.loop-kind-preserved
unfolding under_schema
loop-kind-preserved c = pushes_next _ _ _ _ _ c.loop-kind.invariant (omega arith) _ c.push_list.ensures
