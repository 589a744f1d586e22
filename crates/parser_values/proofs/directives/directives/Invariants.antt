use Prim.Native.Nat.{◌-◌}
use mathlib.Core.List.{[], ◌∷◌}
use lib.ListN.{length}
use Rattle.definition.specs.Grammar.{part, Directive*}
use Rattle.parser_values.proofs.Readers.{Mid}
use Rattle.parser_values.proofs.directives.directives.Given as goal

abbrev pub invariant-loop-k : goal.invariant-loop-k
invariant-loop-k l = Mid (part Directive* ∷ []) l.initial.k.text.now l.initial.k 0 (part Directive* ∷ []) l.k

abbrev pub decreases-loop-k : goal.decreases-loop-k
decreases-loop-k l = length l.initial.k.text.now - l.k.last
