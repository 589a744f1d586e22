use mathlib.Core.Path.{refl}
use native.Mathlib.Omega.{arith}
use Rattle.parser_lexer.proofs.SortLaws.{is, is_other, differs, differs_not}
use Rattle.parser_values.proofs.Readers.{some_of, handed, at_start, some_refused, some_closes, some_next, step_falls}
use Rattle.parser_values.proofs.Parts.{all_items, no_list, a_list}
use Rattle.parser_values.proofs.parentheses.in_parentheses.Goals as goal

pub returns-then-ne : goal.returns-then-ne
returns-then-ne g c = no_list g.met.P.Parenthesised.rules (differs c.args.c.sort c.ne.ensures c.if-ne.true) refl

pub loop-j-init : goal.loop-j-init
loop-j-init g c = at_start (some_of g.P.Parenthesised.item g.P.Parenthesised.more 4) refl

pub returns-in_err-j : goal.returns-in_err-j
returns-in_err-j g c =
    let r = g.met.P.Parenthesised.rules in
    rw (handed _ _ c.from_residual.ensures)
    (a_list r (differs_not c.args.c.sort c.ne.ensures c.if-ne.false) refl c.next-k.ensures (some_refused (all_items r) c.loop-j.invariant c.in_err-j.ensures))

pub returns-then-eq : goal.returns-then-eq
returns-then-eq g c =
    let r = g.met.P.Parenthesised.rules in
    a_list r (differs_not c.args.c.sort c.ne.ensures c.if-ne.false) refl c.next-k.ensures
    (some_closes (all_items r) (omega arith) (is c.in_ok-j.j.sort c.eq.ensures c.if-eq.true) c.next.ensures c.loop-j.invariant c.in_ok-j.ensures)

pub loop-j-smaller : goal.loop-j-smaller
loop-j-smaller g c = step_falls c.next-k.result.text.now c.loop-j.k c.in_ok-j.j c.loop-j.invariant.1 c.in_ok-j.ensures.1

pub loop-j-preserved : goal.loop-j-preserved
loop-j-preserved g c =
    some_next (all_items g.met.P.Parenthesised.rules) (is_other c.in_ok-j.j.sort c.eq.ensures c.if-eq.false) c.loop-j.invariant c.in_ok-j.ensures
