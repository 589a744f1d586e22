use mathlib.Core.Path.{sym, ap, ◌∙◌}
use native.Mathlib.Omega.{arith}
use Prim.Native.Nat.{◌+◌}
use borrow.Author.Tests.{eq-eqb, ne_eqb}
use Rattle.std.proofs.lemmas.List.{take_rest}
use Rattle.parser_lexer.specs.Measures.{measured}
use Rattle.parser_lexer.proofs.NumberLaws.{fraction_fits, from_attached, from_ends, from_fits}
use Rattle.parser_lexer.proofs.numbers.number_from.Goals as goal

pub overflow_add-whole : goal.overflow_add-whole
overflow_add-whole c =
    let bs = c.args.bytes.now in
    let f = sym (rw (take_rest bs c.args.whole) at c.fraction.ensures) ∙ ap measured c.in_ok-fraction.was in
    omega (arith, fraction_fits bs c.args.whole _ f c.requires)

pub slice_bounds-exponent-count : goal.slice_bounds-exponent-count
slice_bounds-exponent-count c =
    let bs = c.args.bytes.now in
    let f = sym (rw (take_rest bs c.args.whole) at c.fraction.ensures) ∙ ap measured c.in_ok-fraction.was in
    omega (arith, fraction_fits bs c.args.whole _ f c.requires)

pub slice_bounds-exponent-start : goal.slice_bounds-exponent-start
slice_bounds-exponent-start c =
    let bs = c.args.bytes.now in
    let f = sym (rw (take_rest bs c.args.whole) at c.fraction.ensures) ∙ ap measured c.in_ok-fraction.was in
    omega (arith, fraction_fits bs c.args.whole _ f c.requires)

pub overflow_add-size : goal.overflow_add-size
overflow_add-size c =
    let bs = c.args.bytes.now in
    let f = sym (rw (take_rest bs c.args.whole) at c.fraction.ensures) ∙ ap measured c.in_ok-fraction.was in
    omega (arith, fraction_fits bs c.args.whole _ f c.requires)

pub overflow_add-size-2 : goal.overflow_add-size-2
overflow_add-size-2 c =
    let bs = c.args.bytes.now in
    let f = sym (rw (take_rest bs c.args.whole) at c.fraction.ensures) ∙ ap measured c.in_ok-fraction.was in
    let e = sym (rw (take_rest bs (c.args.whole + c.in_ok-fraction.fraction)) at c.exponent.ensures) ∙ ap measured c.in_ok-exponent.was in
    omega (arith, from_fits bs c.args.whole _ _ f e c.requires)

pub overflow_add-fraction : goal.overflow_add-fraction
overflow_add-fraction c =
    let bs = c.args.bytes.now in
    let f = sym (rw (take_rest bs c.args.whole) at c.fraction.ensures) ∙ ap measured c.in_ok-fraction.was in
    let e = sym (rw (take_rest bs (c.args.whole + c.in_ok-fraction.fraction)) at c.exponent.ensures) ∙ ap measured c.in_ok-exponent.was in
    omega (arith, from_fits bs c.args.whole _ _ f e c.requires)

pub returns-then-is_attached : goal.returns-then-is_attached
returns-then-is_attached c =
    let bs = c.args.bytes.now in
    let f = sym (rw (take_rest bs c.args.whole) at c.fraction.ensures) ∙ ap measured c.in_ok-fraction.was in
    let e = sym (rw (take_rest bs (c.args.whole + c.in_ok-fraction.fraction)) at c.exponent.ensures) ∙ ap measured c.in_ok-exponent.was in
    sym (from_attached bs c.args.whole _ _ f e (rw c.byte_at.ensures at (sym c.is_attached.ensures ∙ c.if-is_attached.true)))

pub returns-then-fraction-exponent-eq0 : goal.returns-then-fraction-exponent-eq0
returns-then-fraction-exponent-eq0 c =
    let bs = c.args.bytes.now in
    let f = sym (rw (take_rest bs c.args.whole) at c.fraction.ensures) ∙ ap measured c.in_ok-fraction.was in
    let e = sym (rw (take_rest bs (c.args.whole + c.in_ok-fraction.fraction)) at c.exponent.ensures) ∙ ap measured c.in_ok-exponent.was in
    sym (from_ends bs c.args.whole _ _ f e (rw c.byte_at.ensures at (sym c.is_attached.ensures ∙ c.if-is_attached.false)) ∙ simp (eq-eqb _ _ c.if-fraction-exponent-eq0.true))

pub returns-else-fraction-exponent-eq0 : goal.returns-else-fraction-exponent-eq0
returns-else-fraction-exponent-eq0 c =
    let bs = c.args.bytes.now in
    let f = sym (rw (take_rest bs c.args.whole) at c.fraction.ensures) ∙ ap measured c.in_ok-fraction.was in
    let e = sym (rw (take_rest bs (c.args.whole + c.in_ok-fraction.fraction)) at c.exponent.ensures) ∙ ap measured c.in_ok-exponent.was in
    sym (from_ends bs c.args.whole _ _ f e (rw c.byte_at.ensures at (sym c.is_attached.ensures ∙ c.if-is_attached.false)) ∙ simp (ne_eqb _ _ c.if-fraction-exponent-eq0.false))
