use mathlib.Core.Path.{◌≡◌}
use Prim.Native.Nat.{◌≤◌, ◌-◌}
use lib.ListN.{length}
use Rattle.parser_lexer.specs.Ahead.{Ahead}
use Rattle.parser_lexer.specs.Sorts.{sort_number}
use Rattle.parser_items.specs.Names.{NameList, Joined}
use Rattle.parser_items.specs.Lists.{Listing}
use Rattle.parser_items.proofs.Joined.{rest}
use Rattle.parser_items.proofs.names.names.Given as goal

abbrev pub invariant-loop-j : goal.invariant-loop-j
invariant-loop-j l =
    (l.k.text.now ≡ l.initial.k.text.now) ×
    (l.initial.k.last ≤ l.k.last) ×
    ((n : NameList) → Joined (sort_number l.fn.opener) (sort_number l.joiner) l.kind n → Ahead l.initial.k.text.now l.initial.k →
    Listing (rest n) l.initial.k.text.now l.initial.k l.initial.cards (rest n) l.k l.cards)

abbrev pub decreases-loop-j : goal.decreases-loop-j
decreases-loop-j l = length l.initial.k.text.now - l.k.last
