use mathlib.Core.Path.{refl, ◌∙◌}
use native.Mathlib.Omega.{arith}
use Rattle.definition.specs.Lists.{here, there}
use Rattle.definition.specs.Grammar.{rule, Bar?}
use Rattle.definition.specs.GrammarSets.{first}
use Rattle.parser_lexer.proofs.SortLaws.{differs, differs_not}
use Rattle.parser_values.proofs.Readers.{handed, lies, at_start, optional, on, ends, may_in, step_falls}
use Rattle.parser.specs.Symbols.{locations}
use Rattle.parser.proofs.Locations.{rest, refuses, is_last, follows}
use Rattle.parser.proofs.directives.directive_locations.Goals as goal

pub loop-j-init : goal.loop-j-init
loop-j-init c = at_start rest refl

pub returns-in_err-j : goal.returns-in_err-j
unfolding rule first
returns-in_err-j c =
    let led = on rest (at_start locations refl) (optional 0 Bar? (omega arith) (here, there here, refl) c.take_optional-k.ensures) in
    rw (handed _ _ c.from_residual.ensures) (ends led (may_in led.1 (refuses c.loop-j.invariant c.in_err-j.ensures)))

pub returns-then-ne : goal.returns-then-ne
unfolding rule first
returns-then-ne c =
    let led = on rest (at_start locations refl) (optional 0 Bar? (omega arith) (here, there here, refl) c.take_optional-k.ensures) in
    ends led (may_in led.1 (is_last c.loop-j.invariant c.in_ok-j.ensures (differs c.in_ok-j.j.sort c.ne.ensures c.if-ne.true)))

pub loop-j-smaller : goal.loop-j-smaller
loop-j-smaller c =
    let m = c.in_ok-j.ensures.1 in
    let n = c.next-k.ensures in
    let p = lies c.in_ok-j.j refl in
    step_falls c.take_optional-k.result.text.now c.loop-j.k c.next-k.result c.loop-j.invariant.1 (n.1 ∙ m.0, omega (arith, m.1, n.2, p.0, p.1))

pub loop-j-preserved : goal.loop-j-preserved
loop-j-preserved c = follows c.loop-j.invariant c.in_ok-j.ensures (differs_not c.in_ok-j.j.sort c.ne.ensures c.if-ne.false) c.next-k.ensures
