use mathlib.Core.Path.{◌∙◌, sym}
use mathlib.Core.List.{[], ◌∷◌}
use native.Mathlib.Omega.{arith}
use Rattle.schema_rows.proofs.Rows.{row_named}
use Rattle.word_list.proofs.Filling.{filling_start, filling_same, filling_capacity, filling_next, filling_done}
use Rattle.schema.proofs.Groups.{implementers_end, implementers_here, implementers_over}
use Rattle.schema.proofs.implementers.Pairs.push_implementers.Goals as goal
use Rattle.schema.proofs.implementers.Pairs.push_implementers.Goals.{then-is_named, else-is_named}

pub loop-i-init : goal.loop-i-init
loop-i-init c = filling_start _ _ c.requires

pub push-requires : goal.push-requires
push-requires c =
    let here = implementers_here _ _ _ _ (omega arith) _ c.row-pair.ensures (row_named _ _ _ _ _ _ ∙ sym c.is_named.ensures ∙ c.if-is_named.true) in
    let k = filling_capacity _ _ _ _ (filling_same _ _ _ _ _ c.loop-i.invariant here) in
    omega arith

pub loop-i-preserved : goal.loop-i-preserved
loop-i-preserved c =
    let told = row_named _ _ _ _ _ _ ∙ sym c.is_named.ensures in
    elim c.if-is_named.branch [
      | then-is_named w ↦
          let here = implementers_here _ _ _ _ (omega arith) _ c.row-pair.ensures (told ∙ w.if-is_named.true) in
          rw w.groups-is (filling_next _ _ _ _ c.loop-i.invariant (c.row-pair.result.origin ∷ []) _ here _ w.push.ensures.appends)
      | else-is_named w ↦ rw w.groups-is (filling_same _ _ _ _ _ c.loop-i.invariant (implementers_over _ _ _ _ (omega arith) _ c.row-pair.ensures (told ∙ w.if-is_named.false)))
    ]

pub returns : goal.returns
returns c = filling_done _ _ _ _ c.loop-i.invariant (implementers_end _ _ _ _ (omega arith))
