use mathlib.Core.Path.{◌∙◌, sym}
use mathlib.Core.List.{[], ◌∷◌}
use native.Mathlib.Omega.{arith}
use borrow.Author.Rules.{rules}
use Rattle.word_list.proofs.Filling.{filling_start, filling_same, filling_capacity, filling_next, filling_done}
use Rattle.schema.proofs.OriginsLaws.{left_start, left_end, left_here, left_over}
use Rattle.schema.proofs.origins.iter_origins.Goals as goal
use Rattle.schema.proofs.origins.iter_origins.Goals.{then-is_schema_part, else-is_schema_part}

pub loop-i-init : goal.loop-i-init
loop-i-init c = filling_same _ _ _ _ _ (filling_start _ _ (let h = c.requires in omega arith)) (sym (left_start _ _ c.schema_block-block.ensures))

pub push-requires : goal.push-requires
push-requires c =
    let part = sym c.is_schema_part.ensures ∙ c.if-is_schema_part.true in
    let k = filling_capacity _ _ _ _ (filling_same _ _ _ _ _ c.loop-i.invariant (left_here _ _ (omega arith) _ c.row-row.ensures part)) in
    omega arith

pub loop-i-preserved : goal.loop-i-preserved
loop-i-preserved c =
    elim c.if-is_schema_part.branch [
      | then-is_schema_part w ↦
          let part = sym c.is_schema_part.ensures ∙ w.if-is_schema_part.true in
          filling_next _ _ _ _ c.loop-i.invariant (c.row-row.result.origin ∷ []) _ (left_here _ _ (omega arith) _ c.row-row.ensures part) _
          (rw w.origins-is w.push.ensures.appends)
      | else-is_schema_part w ↦
          let part = sym c.is_schema_part.ensures ∙ w.if-is_schema_part.false in
          rw w.origins-is (filling_same _ _ _ _ _ c.loop-i.invariant (left_over _ _ (omega arith) _ c.row-row.ensures part))
    ]

pub returns : goal.returns
returns c =
    let all = filling_done _ _ _ _ c.loop-i.invariant (left_end _ _ (omega arith)) in
    let grown = all.grown in
    let same = all.same_slice in
    let words = all.words in
    (omega arith, search (rules, same, words))
