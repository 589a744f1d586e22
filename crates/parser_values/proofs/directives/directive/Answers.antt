use mathlib.Core.List.{[], ◌∷◌}
use native.Mathlib.Omega.{arith}
use Rattle.definition.specs.Grammar.{part, name, Arguments?}
use Rattle.parser_values.proofs.Readers.{handed, flat, joined, joined_may, stops}
use Rattle.parser_values.proofs.Parts.{one_directive}
use Rattle.parser_values.proofs.directives.directive.Goals as goal

pub returns-in_err-k : goal.returns-in_err-k
returns-in_err-k c =
    rw (handed _ _ c.from_residual.ensures) (one_directive (stops (name ∷ part Arguments? ∷ []) (flat 0 (omega arith) c.in_err-k.ensures)))

pub returns-in_err-j : goal.returns-in_err-j
returns-in_err-j c =
    let f = joined (flat 0 (omega arith) c.in_ok-k.ensures) (flat 0 (omega arith) c.in_err-j.ensures) in
    rw (handed _ _ c.from_residual-in_err-j.ensures) (one_directive (stops (part Arguments? ∷ []) f))

pub returns : goal.returns
returns c =
    let f = joined (flat 0 (omega arith) c.in_ok-k.ensures) (flat 0 (omega arith) c.in_ok-j.ensures) in
    one_directive (joined_may f c.arguments.ensures)
