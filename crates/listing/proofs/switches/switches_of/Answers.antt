use Rattle.std.proofs.Common.{◌∙◌, ◌-◌, length, drop, take, arith}
use Rattle.std.proofs.Math.ListN.{length-drop}
use Rattle.std.proofs.lemmas.List.{take_all}
use Rattle.listing.proofs.Digits.{too_short, two_digits, with_line_feed, something_else}
use Rattle.listing.proofs.switches.switches_of.Goals as goal
use Rattle.listing.proofs.switches.switches_of.Goals.{then-is_empty-via-then-is_empty, then-is_empty-via-else-is_empty+then-eq}

pub returns-in_default : goal.returns-in_default
returns-in_default c = too_short c.args.bytes.now c.in_default.len_below

pub returns-then-is_empty : goal.returns-then-is_empty
returns-then-is_empty c =
    let s = c.args.bytes.now in
    let e = take_all (length s - 2) (drop 2 s) (simp length-drop (omega arith)) in
    c.both.ensures ∙ elim c.then-is_empty.branch [
      | then-is_empty-via-then-is_empty w ↦ two_digits s (take (length s - 2) (drop 2 s)) c.in-len2-up.len_at_least e w.if-is_empty.ensures
      | then-is_empty-via-else-is_empty+then-eq w ↦ with_line_feed s (take (length s - 2) (drop 2 s)) w.as_slice.result.now c.in-len2-up.len_at_least e w.as_slice.ensures w.if-eq.ensures
    ]

pub returns : goal.returns
returns c =
    let s = c.args.bytes.now in
    let e = take_all (length s - 2) (drop 2 s) (simp length-drop (omega arith)) in
    something_else s (take (length s - 2) (drop 2 s)) c.as_slice.result.now c.in-len2-up.len_at_least e c.as_slice.ensures c.if-is_empty.ensures c.if-eq.ensures
