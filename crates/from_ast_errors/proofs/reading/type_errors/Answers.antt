use mathlib.Core.Path.{refl}
use native.Mathlib.Omega.{arith}
use Prim.Native.Nat.{◌≤◌}
use lib.ListN.{get_or}
use Rattle.from_ast_index.specs.Index.{own_extensions}
use Rattle.from_ast_index.proofs.Cards.{none_waits, some_waits}
use Rattle.from_ast_collisions.proofs.Push.{first_capacity, second_capacity, both_pushed}
use Rattle.from_ast_errors.proofs.Definitions.{defined_once}
use Rattle.from_ast_errors.proofs.reading.type_errors.Goals as goal
use Rattle.from_ast_errors.proofs.reading.type_errors.Goals.{in_default-via-in-Some+else-first-h, in_default-via-in_default}

pub merge_errors-requires : goal.merge_errors-requires
merge_errors-requires c =
    let f = c.args.finished.now in
    let x = c.args.extensions.now in
    let waits : c.args.h ≤ get_or f.owners.now c.args.h 0 = elim c.in_default.branch [
      | in_default-via-in-Some+else-first-h w ↦ some_waits _ _ _ _ c.owner.ensures.word w.in-Some.is w.if-first-h.false
      | in_default-via-in_default w ↦ none_waits _ _ _ c.owner.ensures.word w.in_default.is (omega arith)
    ] in
    first_capacity _ c.args.errors.now _ _ _ (defined_once f.collection f.owners.now _ _ _ _ c.requires.spanned c.owner-owner.result _ _ c.requires.stored refl
    waits _ c.kind.ensures c.owner-owner.ensures.rows c.owner-owner.ensures.kind c.owner-owner.ensures.card
    (own_extensions x.all.now x.starts.now x.ends.now c.args.h) refl) c.requires.capacity

pub early_errors-requires-clause-capacity : goal.early_errors-requires-clause-capacity
early_errors-requires-clause-capacity c =
    let f = c.args.finished.now in
    let waits : c.args.h ≤ get_or f.owners.now c.args.h 0 = elim c.in_default.branch [
      | in_default-via-in-Some+else-first-h w ↦ some_waits _ _ _ _ c.owner.ensures.word w.in-Some.is w.if-first-h.false
      | in_default-via-in_default w ↦ none_waits _ _ _ c.owner.ensures.word w.in_default.is (omega arith)
    ] in
    second_capacity _ _ _ _ _ (defined_once f.collection f.owners.now _ _ _ _ c.requires.spanned c.owner-owner.result _ _ c.requires.stored refl waits _
    c.kind.ensures c.owner-owner.ensures.rows c.owner-owner.ensures.kind c.owner-owner.ensures.card _ c.of_type.ensures) c.merge_errors.ensures
    c.requires.capacity

pub returns-in_default : goal.returns-in_default
returns-in_default c =
    let f = c.args.finished.now in
    let waits : c.args.h ≤ get_or f.owners.now c.args.h 0 = elim c.in_default.branch [
      | in_default-via-in-Some+else-first-h w ↦ some_waits _ _ _ _ c.owner.ensures.word w.in-Some.is w.if-first-h.false
      | in_default-via-in_default w ↦ none_waits _ _ _ c.owner.ensures.word w.in_default.is (omega arith)
    ] in
    both_pushed _ _ _ _ _ (defined_once f.collection f.owners.now _ _ _ _ c.requires.spanned c.owner-owner.result _ _ c.requires.stored refl waits _
    c.kind.ensures c.owner-owner.ensures.rows c.owner-owner.ensures.kind c.owner-owner.ensures.card _ c.of_type.ensures) _ c.merge_errors.ensures
    c.early_errors.ensures
