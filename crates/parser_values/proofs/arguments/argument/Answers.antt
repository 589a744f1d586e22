use mathlib.Core.List.{[], ◌∷◌}
use native.Mathlib.Omega.{arith}
use Rattle.definition.specs.Grammar.{part, Value}
use Rattle.parser_values.proofs.Readers.{handed, flat, joined, stops}
use Rattle.parser_values.proofs.Parts.{one_argument}
use Rattle.parser_values.proofs.arguments.argument.Goals as goal

pub returns-in_err-k : goal.returns-in_err-k
returns-in_err-k c = rw (handed _ _ c.from_residual.ensures) (one_argument (stops (part Value ∷ []) (flat 0 (omega arith) c.in_err-k.ensures)))

pub returns : goal.returns
returns c = one_argument (joined (flat 0 (omega arith) c.in_ok-k.ensures) (rw c.full.ensures at c.value.ensures))
