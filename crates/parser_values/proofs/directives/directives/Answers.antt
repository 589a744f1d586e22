use mathlib.Core.Path.{refl}
use mathlib.Core.List.{[], ◌∷◌}
use Rattle.definition.specs.Grammar.{part, Directive*}
use Rattle.parser_lexer.proofs.SortLaws.{is, is_other}
use Rattle.parser_values.proofs.Readers.{handed, may, at_start, on, ends, fails, step_falls}
use Rattle.parser_values.proofs.Parts.{no_directive, a_directive}
use Rattle.parser_values.proofs.directives.directives.Goals as goal

pub loop-k-init : goal.loop-k-init
loop-k-init c = at_start (part Directive* ∷ []) refl

pub returns-in_err-j : goal.returns-in_err-j
returns-in_err-j c =
    rw (handed _ _ c.from_residual.ensures)
    (fails (part Directive* ∷ []) (a_directive (is c.loop-k.k.sort c.eq.ensures c.loop-k-test.true) c.loop-k.invariant) (may c.in_err-j.ensures))

pub loop-k-smaller : goal.loop-k-smaller
loop-k-smaller c = step_falls c.args.c.text.now c.loop-k.k c.in_ok-j.j c.loop-k.invariant.1 c.in_ok-j.ensures.1

pub loop-k-preserved : goal.loop-k-preserved
loop-k-preserved c = on (part Directive* ∷ []) (a_directive (is c.loop-k.k.sort c.eq.ensures c.loop-k-test.true) c.loop-k.invariant) (may c.in_ok-j.ensures)

pub returns : goal.returns
returns c = let l = c.loop-k in ends l.invariant (no_directive (is_other c.loop-k.k.sort c.eq.ensures c.loop-k-test.false) l.invariant.1)
