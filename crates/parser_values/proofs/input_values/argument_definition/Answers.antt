use mathlib.Core.List.{[], ◌∷◌}
use native.Mathlib.Omega.{arith}
use Rattle.definition.specs.Grammar.{part, colon, TypeReference, Default?, Directive*}
use Rattle.parser_values.proofs.Readers.{handed, flat, joined, may_joined, stops}
use Rattle.parser_values.proofs.Parts.{one_definition}
use Rattle.parser_values.proofs.input_values.argument_definition.Goals as goal

pub returns-in_err-j : goal.returns-in_err-j
returns-in_err-j c =
    let f = may_joined c.description-k.ensures (flat 0 (omega arith) c.in_err-j.ensures) in
    rw (handed _ _ c.from_residual.ensures) (one_definition (stops (colon ∷ part TypeReference ∷ part Default? ∷ part Directive* ∷ []) f))

pub returns : goal.returns
returns c =
    let f = may_joined c.description-k.ensures (flat 0 (omega arith) c.in_ok-j.ensures) in
    one_definition (joined f c.input_value_type.ensures)
