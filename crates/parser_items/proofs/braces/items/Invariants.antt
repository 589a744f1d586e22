use Prim.Native.Nat.{◌-◌}
use lib.ListN.{length}
use Rattle.parser_items.specs.Braces.{items_of}
use Rattle.parser_items.proofs.Items.{InList}
use Rattle.parser_items.proofs.braces.items.Given as goal

abbrev pub invariant-loop-j : goal.invariant-loop-j
invariant-loop-j g l =
    let s = items_of g.B.Braced.item g.B.Braced.more in
    InList s l.initial.k.text.now l.initial.k l.initial.cards s l.k l.cards

abbrev pub decreases-loop-j : goal.decreases-loop-j
decreases-loop-j g l = length l.initial.k.text.now - l.k.last
