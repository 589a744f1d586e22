use mathlib.Core.List.{[], ◌∷◌}
use native.Mathlib.Omega.{arith}
use Rattle.definition.specs.Grammar.{part, TypeReference, Default?, Directive*}
use Rattle.parser_values.proofs.Readers.{handed, flat, joined, joined_may, stops}
use Rattle.parser_values.proofs.input_values.input_value_type.Goals as goal

pub returns-in_err-k : goal.returns-in_err-k
returns-in_err-k c =
    rw (handed _ _ c.from_residual.ensures)
    (stops (part TypeReference ∷ part Default? ∷ part Directive* ∷ []) (flat 0 (omega arith) c.in_err-k.ensures))

pub returns-in_err-j : goal.returns-in_err-j
returns-in_err-j c =
    let f = joined (flat 0 (omega arith) c.in_ok-k.ensures) (rw c.full.ensures at c.in_err-j.ensures) in
    rw (handed _ _ c.from_residual-in_err-j.ensures) (stops (part Default? ∷ part Directive* ∷ []) f)

pub returns-in_err-e : goal.returns-in_err-e
returns-in_err-e c =
    let f = joined (flat 0 (omega arith) c.in_ok-k.ensures) (rw c.full.ensures at c.in_ok-j.ensures) in
    rw (handed _ _ c.from_residual-in_err-e.ensures) (stops (part Directive* ∷ []) (joined_may f c.in_err-e.ensures))

pub returns : goal.returns
returns c =
    let f = joined (flat 0 (omega arith) c.in_ok-k.ensures) (rw c.full.ensures at c.in_ok-j.ensures) in
    joined_may (joined_may f c.in_ok-e.ensures) c.directives.ensures
