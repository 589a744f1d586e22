use native.Mathlib.Omega.{arith}
use mathlib.Core.Path.{◌≡◌, ap, ◌∙◌}
use mathlib.Core.List.{List}
use Prim.Native.Nat.{ℕ, ◌+◌, ◌-◌, ◌*◌, ◌<◌}
use lib.Seq.{take_all}
use lib.ListN.{length, take, drop, length-drop}
use Rattle.from_ast_collisions.specs.Earlier.{row_offset}
use Rattle.from_ast_collisions.proofs.Turns.{sought_hit, sought_no_what, sought_no_card, sought_end, row_after}
use Rattle.from_ast_collisions.proofs.merging.seek_row.Goals as goal
use Rattle.from_ast_collisions.proofs.merging.seek_row.Goals.{else-row-what-via-then-row-what+else-row-card, else-row-what-via-else-row-what}

-- One row more was passed.
passed : (r n s t : ℕ) → r ≡ 3 * n + s → s ≡ 3 + t → r ≡ 3 * (n + 1) + t
passed r n s t e f = omega arith

-- What is left is what stands from the place on.
left_is : (k d from : ℕ) (rows : List ℕ) → row_offset k d (take (length rows - from) (drop from rows)) ≡ row_offset k d (drop from rows)
left_is k d from rows = ap (row_offset k d) (take_all (length rows - from) (drop from rows) (rw length-drop (omega arith)))

pub returns-then-row-card : goal.returns-then-row-card
returns-then-row-card c =
    let s = c.in-Some.ensures.steps.0.1 in
    let i = c.loop-n.invariant in
    let hit = sought_hit _ _ _ _ _ s.0 (s.1 ∙ i.0) c.if-row-what.true c.if-row-card.true in
    omega (arith, c.in-Some.ensures.steps.1, i.3, hit, left_is c.args.what c.args.card c.args.from c.args.rows.now, c.requires.not_before)

pub loop-n-preserved : goal.loop-n-preserved
loop-n-preserved c =
    let s = c.in-Some.ensures.steps.0.1 in
    let i = c.loop-n.invariant in
    let e = c.in-Some.ensures.steps.2 in
    let a = row_after _ _ _ _ c.loop-n.n-iterator.count i.1 i.2 s.0 (s.1 ∙ i.0) in (
      c.in-Some.ensures.steps.0.0 ∙ i.0,
      rw e a.0,
      rw e a.1,
      rw e (elim c.else-row-what.branch [
        | else-row-what-via-then-row-what+else-row-card w ↦ passed _ _ _ _ i.3 (sought_no_card _ _ _ _ _ s.0 (s.1 ∙ i.0) w.if-row-card.false)
        | else-row-what-via-else-row-what w ↦ passed _ _ _ _ i.3 (sought_no_what _ _ _ _ _ s.0 (s.1 ∙ i.0) w.if-row-what.false)
      ]),
    )

pub returns : goal.returns
returns c =
    let a = c.args in
    let i = c.loop-n.invariant in
    let rest = c.loop-n.n-iterator.iter.rest.now in
    let left = take (length a.rows.now - a.from) (drop a.from a.rows.now) in
    let steps = c.in-None.ensures.steps in
    let few : length rest < 3 = omega (arith, steps, i.0) in
    omega (
      arith,
      i.1,
      i.3,
      ap length i.2,
      length-drop (3 * c.loop-n.n-iterator.count) left,
      few,
      sought_end a.what a.card rest few,
      left_is a.what a.card a.from a.rows.now,
      c.requires.not_before,
    )
