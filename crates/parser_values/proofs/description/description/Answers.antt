use mathlib.Core.Path.{refl}
use native.Mathlib.Omega.{arith}
use Rattle.definition.specs.Lists.{here, there}
use Rattle.definition.specs.Grammar.{rule, Description?}
use Rattle.definition.specs.GrammarSets.{first}
use Rattle.parser_values.proofs.Readers.{optional}
use Rattle.parser_values.proofs.description.description.Goals as goal

pub returns : goal.returns
unfolding rule first
returns c = optional 0 Description? (omega arith) (here, there here, refl) c.take_optional.ensures
