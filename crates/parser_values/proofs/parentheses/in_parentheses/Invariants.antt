use Prim.Native.Nat.{◌-◌}
use lib.ListN.{length}
use Rattle.parser_values.proofs.Readers.{Mid, some_of}
use Rattle.parser_values.proofs.parentheses.in_parentheses.Given as goal

abbrev pub invariant-loop-j : goal.invariant-loop-j
invariant-loop-j g l =
    let s = some_of g.P.Parenthesised.item g.P.Parenthesised.more 4 in
    Mid s l.initial.k.text.now l.initial.k 0 s l.k

abbrev pub decreases-loop-j : goal.decreases-loop-j
decreases-loop-j g l = length l.initial.k.text.now - l.k.last
