use native.Mathlib.Omega.{arith}
use Prim.Native.Nat.{◌≤◌}
use Rattle.from_ast_index.proofs.Cards.{none_waits, some_waits}
use Rattle.from_ast_collisions.proofs.Push.{first_capacity, both_pushed}
use Rattle.from_ast_collisions.proofs.Branches.{schema_first_merged}
use Rattle.from_ast_errors.proofs.reading.schema_errors.Goals as goal
use Rattle.from_ast_errors.proofs.reading.schema_errors.Goals.{in_default-via-in-Some+else-first-h, in_default-via-in_default}

pub merge_errors-requires : goal.merge_errors-requires
merge_errors-requires c =
    let waits : c.args.h ≤ c.args.schema.now.card = elim c.in_default.branch [
      | in_default-via-in-Some+else-first-h w ↦ some_waits _ _ _ _ c.card_in.ensures.word w.in-Some.is w.if-first-h.false
      | in_default-via-in_default w ↦ none_waits _ _ _ c.card_in.ensures.word w.in_default.is (omega arith)
    ] in
    first_capacity _ c.args.errors.now _ _ _ (schema_first_merged _ c.args.schema.now c.requires.is_schema _ _ waits) c.requires.capacity

pub returns-in_default : goal.returns-in_default
returns-in_default c =
    let waits : c.args.h ≤ c.args.schema.now.card = elim c.in_default.branch [
      | in_default-via-in-Some+else-first-h w ↦ some_waits _ _ _ _ c.card_in.ensures.word w.in-Some.is w.if-first-h.false
      | in_default-via-in_default w ↦ none_waits _ _ _ c.card_in.ensures.word w.in_default.is (omega arith)
    ] in
    both_pushed _ _ _ _ _ (schema_first_merged _ c.args.schema.now c.requires.is_schema _ _ waits) _ c.merge_errors.ensures
    c.merge_schema_extensions.ensures
