use mathlib.Core.Path.{◌∙◌}
use native.Mathlib.Omega.{arith}
use Rattle.component.proofs.Loops.{pushes_fits, pushes_next}
use Rattle.from_ast_rows.proofs.Parts.{own_capacity, own_pushed, own_most, own_stored}
use Rattle.from_ast_rows.proofs.types.push_defined_types.Goals as goal

pub push_type-requires-clause-stored : goal.push_type-requires-clause-stored
push_type-requires-clause-stored c = own_stored _ _ _ _ _ c.own_extensions.ensures _ c.args.lists.now.extensions_stored

pub push_type-requires-clause-few : goal.push_type-requires-clause-few
push_type-requires-clause-few c = omega (arith, own_most _ c.args.lists.now.starts.now c.args.lists.now.ends.now _ _ c.own_extensions.ensures)

pub push_type-requires-clause-room : goal.push_type-requires-clause-room
push_type-requires-clause-room c =
    own_capacity c.args.lists.now.parted c.loop-card.card-index (omega arith) _ c.own_extensions.ensures _ _
    (pushes_fits _ _ _ _ _ c.loop-card.invariant (omega arith))

pub loop-card-preserved : goal.loop-card-preserved
loop-card-preserved c =
    let turn = c.loop-card.invariant in
    let r = c.push_type.ensures in
    let own = own_pushed c.args.lists.now.parted c.loop-card.card-index (omega arith) _ c.own_extensions.ensures _ in
    pushes_next _ _ _ _ _ turn (omega arith) _ (record { same_slice = r.same_slice; rows_are = r.rows_are ∙ own })
