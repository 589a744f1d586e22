-- The schema's row, and then its lists.
use Rattle.component.proofs.Loops.{run_first, run_second, run_both}
use Rattle.component.proofs.Turns.{one_capacity}
use Rattle.from_ast_rows.proofs.SchemaTurns.{schema_cut}
use Rattle.from_ast_rows.proofs.root_operations.push_schema.Goals as goal

pub push-requires : goal.push-requires
push-requires c =
    let cut = schema_cut _ _ _ _ _ _ c.schema_definition.ensures.first c.is_implicit.ensures in
    one_capacity _ _ _ (run_first c.args.rows.now _ _ _ cut c.requires.room)

pub push_lists-requires : goal.push_lists-requires
push_lists-requires c = run_second _ _ _ _ (schema_cut _ _ _ _ _ _ c.schema_definition.ensures.first c.is_implicit.ensures) c.requires.room _ c.push.ensures

pub returns : goal.returns
returns c =
    let cut = schema_cut _ _ _ _ _ _ c.schema_definition.ensures.first c.is_implicit.ensures in
    run_both _ _ _ _ cut c.requires.room _ c.push.ensures _ c.push_lists.ensures
