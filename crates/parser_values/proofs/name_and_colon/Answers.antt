use mathlib.Core.List.{[], ◌∷◌}
use Rattle.definition.specs.Grammar.{colon}
use Rattle.parser_values.proofs.Readers.{handed, flat, every_level, joined, stops}
use Rattle.parser_values.proofs.name_and_colon.Goals as goal

pub returns-in_err-k : goal.returns-in_err-k
returns-in_err-k c = rw (handed _ _ c.from_residual.ensures) (every_level (λ level l. stops (colon ∷ []) (flat level l c.in_err-k.ensures)))

pub returns : goal.returns
returns c = every_level (λ level l. joined (flat level l c.in_ok-k.ensures) (flat level l c.take-2.ensures))
