use mathlib.Core.Path.{◌≡◌}
use mathlib.Core.List.{[], ◌∷◌}
use Prim.Native.Nat.{◌-◌}
use lib.ListN.{length}
use Rattle.definition.specs.Grammar.{part, Definition, Definition*}
use Rattle.parser.specs.Headings.{Definitions}
use Rattle.parser.proofs.read_document.Given as goal

abbrev pub invariant-loop-k : goal.invariant-loop-k
invariant-loop-k l = Definitions l.text l.initial.cards (part Definition ∷ part Definition* ∷ []) l.c l.cards × (l.c.text.now ≡ l.text)

abbrev pub decreases-loop-k : goal.decreases-loop-k
decreases-loop-k l = length l.text - l.c.last
