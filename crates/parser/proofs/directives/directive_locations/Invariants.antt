use Prim.Native.Nat.{◌-◌}
use lib.ListN.{length}
use Rattle.parser_values.proofs.Readers.{Mid}
use Rattle.parser.proofs.Locations.{rest}
use Rattle.parser.proofs.directives.directive_locations.Given as goal

abbrev pub invariant-loop-j : goal.invariant-loop-j
invariant-loop-j l = Mid rest l.initial.k.text.now l.initial.k 0 rest l.k

abbrev pub decreases-loop-j : goal.decreases-loop-j
decreases-loop-j l = length l.initial.k.text.now - l.k.last
