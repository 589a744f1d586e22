use Prim.Native.Nat.{◌+◌, ◌-◌}
use mathlib.Core.Path.{◌≡◌, refl, ◌∙◌}
use mathlib.Core.List.{[], ◌∷◌}
use native.Mathlib.Omega.{arith}
use Rattle.definition.specs.Grammar.{part, Value, Value*, ObjectField*}
use Rattle.parser_lexer.proofs.SortLaws.{differs, differs_not, is, is_other}
use Rattle.parser_values.proofs.Readers.{any_of, handed, flat, joined, stops, at_start, any_closes, any_refused, any_next, step_falls}
use Rattle.parser_values.proofs.ReadValues.{values, fields, plain_value, value_object, list_value, list_deep, object, object_deep, no_object}
use Rattle.parser_values.proofs.ReadValues.{object_field}
use Rattle.parser_values.proofs.values.+object_value_value.Goals as goal

pub object_value-returns-then-ne : goal.object_value-returns-then-ne
object_value-returns-then-ne t c = no_object (differs c.args.c.sort c.ne.ensures c.if-ne.true) refl

pub object_value-returns-in_default : goal.object_value-returns-in_default
object_value-returns-in_default t c = object_deep (differs_not c.args.c.sort c.ne.ensures c.if-ne.false) refl (omega arith)

pub object_value-loop-inner-init : goal.object_value-loop-inner-init
object_value-loop-inner-init t c = at_start (any_of ObjectField* 13) refl

pub object_value-returns-then-eq : goal.object_value-returns-then-eq
object_value-returns-then-eq t c =
    let one_more_lem : 32 - c.in-Some.inner.levels ≡ 32 - c.args.depth.levels + 1 = omega (arith, c.in-Some.ensures, c.args.depth.most) in
    object (differs_not c.args.c.sort c.ne.ensures c.if-ne.false) refl one_more_lem (omega arith)
    c.next-k.ensures (any_closes fields (omega arith) (is c.loop-inner.k.sort c.eq.ensures c.if-eq.true) c.next.ensures c.loop-inner.invariant)

pub object_value-returns-in_err-j : goal.object_value-returns-in_err-j
object_value-returns-in_err-j t c =
    let inner = 32 - c.in-Some.inner.levels in
    let one_more_lem : inner ≡ 32 - c.args.depth.levels + 1 = omega (arith, c.in-Some.ensures, c.args.depth.most) in
    let f = object_field (stops (part Value ∷ []) (flat inner (omega arith) c.in_err-j.ensures)) in
    rw (handed _ _ c.from_residual.ensures)
    (object (differs_not c.args.c.sort c.ne.ensures c.if-ne.false) refl one_more_lem (omega arith) c.next-k.ensures
    (any_refused fields (is_other c.loop-inner.k.sort c.eq.ensures c.if-eq.false) c.loop-inner.invariant f))

pub object_value-returns-in_err-e : goal.object_value-returns-in_err-e
object_value-returns-in_err-e t c =
    let inner = 32 - c.in-Some.inner.levels in
    let one_more_lem : inner ≡ 32 - c.args.depth.levels + 1 = omega (arith, c.in-Some.ensures, c.args.depth.most) in
    let f = object_field (joined (flat inner (omega arith) c.in_ok-j.ensures) c.in_err-e.ensures) in
    rw (handed _ _ c.from_residual-in_err-e.ensures)
    (object (differs_not c.args.c.sort c.ne.ensures c.if-ne.false) refl one_more_lem (omega arith) c.next-k.ensures
    (any_refused fields (is_other c.loop-inner.k.sort c.eq.ensures c.if-eq.false) c.loop-inner.invariant f))

pub object_value-loop-inner-smaller : goal.object_value-loop-inner-smaller
object_value-loop-inner-smaller t c =
    let m = c.in_ok-j.ensures.1 in
    let n = c.in_ok-e.ensures.1 in
    step_falls c.next-k.result.text.now c.loop-inner.k c.in_ok-e.e c.loop-inner.invariant.1 (n.0 ∙ m.0, omega (arith, m.1, n.1))

pub object_value-loop-inner-preserved : goal.object_value-loop-inner-preserved
object_value-loop-inner-preserved t c =
    let inner = 32 - c.in-Some.inner.levels in
    let f = object_field (joined (flat inner (omega arith) c.in_ok-j.ensures) c.in_ok-e.ensures) in
    any_next fields (is_other c.loop-inner.k.sort c.eq.ensures c.if-eq.false) c.loop-inner.invariant f

pub value-returns-then-eq : goal.value-returns-then-eq
value-returns-then-eq t c = value_object (is c.args.c.sort c.eq.ensures c.if-eq.true) c.object_value.ensures

pub value-returns-then-ne : goal.value-returns-then-ne
value-returns-then-ne t c =
    plain_value (omega arith) (differs c.args.c.sort c.ne.ensures c.if-ne.true) (is_other c.args.c.sort c.eq.ensures c.if-eq.false) (flat (32 - c.args.depth.levels) (omega arith) c.take.ensures)

pub value-returns-in_default : goal.value-returns-in_default
value-returns-in_default t c = list_deep (differs_not c.args.c.sort c.ne.ensures c.if-ne.false) refl (omega arith)

pub value-loop-inner-init : goal.value-loop-inner-init
value-loop-inner-init t c = at_start (any_of Value* 10) refl

pub value-returns-then-eq-2 : goal.value-returns-then-eq-2
value-returns-then-eq-2 t c =
    let one_more_lem : 32 - c.in-Some.inner.levels ≡ 32 - c.args.depth.levels + 1 = omega (arith, c.in-Some.ensures, c.args.depth.most) in
    list_value (differs_not c.args.c.sort c.ne.ensures c.if-ne.false) refl one_more_lem (omega arith)
    c.next-k.ensures (any_closes values (omega arith) (is c.loop-inner.k.sort c.eq-in-loop-inner.ensures c.if-eq-2.true) c.next.ensures c.loop-inner.invariant)

pub value-returns-in_err-j : goal.value-returns-in_err-j
value-returns-in_err-j t c =
    let one_more_lem : 32 - c.in-Some.inner.levels ≡ 32 - c.args.depth.levels + 1 = omega (arith, c.in-Some.ensures, c.args.depth.most) in
    rw (handed _ _ c.from_residual.ensures)
    (list_value (differs_not c.args.c.sort c.ne.ensures c.if-ne.false) refl one_more_lem (omega arith) c.next-k.ensures
    (any_refused values (is_other c.loop-inner.k.sort c.eq-in-loop-inner.ensures c.if-eq-2.false) c.loop-inner.invariant c.in_err-j.ensures))

pub value-loop-inner-smaller : goal.value-loop-inner-smaller
value-loop-inner-smaller t c = step_falls c.next-k.result.text.now c.loop-inner.k c.in_ok-j.j c.loop-inner.invariant.1 c.in_ok-j.ensures.1

pub value-loop-inner-preserved : goal.value-loop-inner-preserved
value-loop-inner-preserved t c = any_next values (is_other c.loop-inner.k.sort c.eq-in-loop-inner.ensures c.if-eq-2.false) c.loop-inner.invariant c.in_ok-j.ensures
