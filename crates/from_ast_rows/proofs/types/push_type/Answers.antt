-- The type's row, and then its lists.
use mathlib.Core.Path.{sym}
use Rattle.component.proofs.Loops.{run_first, run_second, run_both}
use Rattle.component.proofs.Turns.{type_extension_kind, one_capacity}
use Rattle.component.proofs.Matching.{matching_stored, type_cut}
use Rattle.from_ast_rows.proofs.types.push_type.Goals as goal

pub invariant_of-taken : goal.invariant_of-taken
invariant_of-taken c = record {
  card_stored = c.requires.card_stored;
  extensions_stored = matching_stored _ _ _ _ _ c.list_matching.ensures c.requires.stored;
  adopted_is = sym (type_extension_kind _ _ _ c.kind.ensures c.is_type_extension.ensures);
}

pub push_row-requires : goal.push_row-requires
push_row-requires c =
    let cut = type_cut _ _ _ _ _ c.list_matching.ensures in
    one_capacity _ _ _ (run_first c.args.rows.now _ _ _ cut c.requires.room)

pub collect_lists-requires : goal.collect_lists-requires
collect_lists-requires c =
    run_second _ _ _ _ (type_cut _ _ _ _ _ c.list_matching.ensures) c.requires.room _ c.push_row.ensures

pub returns : goal.returns
returns c =
    let cut = type_cut _ _ _ _ _ c.list_matching.ensures in
    run_both _ _ _ _ cut c.requires.room _ c.push_row.ensures _ c.collect_lists.ensures
