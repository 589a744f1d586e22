use mathlib.Core.Path.{◌∙◌, sym}
use Prim.Native.Nat.{◌+◌}
use native.Mathlib.Omega.{arith}
use borrow.Author.Rules.{rules}
use lib.ListN.{length-append}
use Rattle.schema_rows.specs.Rows.{row_at, cards_of, rows_of}
use Rattle.schema.specs.Groups.{pair_group}
use Rattle.word_list.proofs.Filling.{filling_start, filling_same, filling_capacity, filling_next, filling_done}
use Rattle.schema.proofs.AllGroups.{groups_left, left_start, left_end, left_over, left_here}
use Rattle.schema.proofs.implementers.Pairs.write_groups.Goals as goal
use Rattle.schema.proofs.implementers.Pairs.write_groups.Goals.{then-is_first, else-is_first}

pub loop-i-init : goal.loop-i-init
loop-i-init c =
    let s = left_start (cards_of c.args.self.schema) c.args.self.schema.rows.now in
    (omega arith, (let k = s.1 in omega arith), filling_same _ _ _ _ _ (filling_start _ _ (let h = c.requires in omega arith)) (sym s.0))

pub push_group-requires : goal.push_group-requires
push_group-requires c =
    let cs = cards_of c.args.self.schema in
    let pairs = c.args.self.schema.rows.now in
    let s = left_here cs pairs c.loop-i.i (omega arith) (sym c.if-is_first.true ∙ c.is_first.ensures) in
    let k = filling_capacity _ _ _ _ (filling_same _ _ _ _ _ c.loop-i.invariant.2 s.0) in
    let l = length-append (pair_group cs (rows_of c.args.self.schema) (row_at pairs c.loop-i.i)) (groups_left cs pairs (c.loop-i.i + 1)) in
    (omega arith, omega arith)

pub loop-i-preserved : goal.loop-i-preserved
loop-i-preserved c =
    let cs = cards_of c.args.self.schema in
    let pairs = c.args.self.schema.rows.now in
    let j = c.loop-i.invariant.1 in
    elim c.if-is_first.branch [
      | then-is_first w ↦
          let s = left_here cs pairs c.loop-i.i (omega arith) (sym w.if-is_first.true ∙ c.is_first.ensures) in (
            omega arith,
            (let k = s.1 in omega arith),
            rw w.groups-is (filling_next _ _ _ _ c.loop-i.invariant.2 _ _ s.0 _ w.push_group.ensures),
          )
      | else-is_first w ↦
          let s = left_over cs pairs c.loop-i.i (omega arith) (sym w.if-is_first.false ∙ c.is_first.ensures) in
          (omega arith, (let k = s.1 in omega arith), rw w.groups-is (filling_same _ _ _ _ _ c.loop-i.invariant.2 s.0))
    ]

pub returns : goal.returns
returns c =
    let s = left_end (cards_of c.args.self.schema) c.args.self.schema.rows.now c.loop-i.i (omega arith) in
    let all = filling_done _ _ _ _ c.loop-i.invariant.2 s.0 in
    let same = all.same_slice in
    let words = all.words in
    ((let k = s.1 in let j = c.loop-i.invariant.1 in omega arith), search (rules, same, words))
