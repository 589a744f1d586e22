use mathlib.Core.Path.{◌∙◌, sym, ap}
use mathlib.Core.List.{List, [], ◌∷◌}
use Prim.Native.Nat.{ℕ, ◌+◌}
use native.Mathlib.Omega.{arith}
use borrow.Author.Rules.{rules}
use lib.Dec.{eqb}
use Rattle.definition.specs.Lists.{filter, firsts}
use Rattle.definition.specs.Lookups.{is_card}
use Rattle.schema.specs.Extensions.{is_new}
use Rattle.word_list.specs.Listed.{listed_in}
use Rattle.word_list.proofs.Filling.{filling_start, filling_same, filling_capacity, filling_next, filling_done}
use Rattle.schema.proofs.OriginsLaws.{origins_left, left_start, left_end, left_here, left_over, extension_here, extension_over, extension_start, firsts_none}
use Rattle.schema.proofs.origins.extensions.Goals as goal
use Rattle.schema.proofs.origins.extensions.Goals.{then-is_schema_part+then-is_new, else-is_schema_part, else-is_schema_part-via-then-is_schema_part+else-is_new, else-is_schema_part-via-else-is_schema_part}

pub loop-i-init : goal.loop-i-init
loop-i-init c = filling_same _ _ _ _ _ (filling_start _ _ (let h = c.requires in omega arith)) (extension_start _ _ (left_start _ _ c.schema_block-block.ensures))

pub as_slice-requires : goal.as_slice-requires
as_slice-requires c = let k = filling_capacity _ _ _ _ c.loop-i.invariant in omega arith

pub push-requires : goal.push-requires
push-requires c =
    let here = left_here _ _ (omega arith) _ c.row-row.ensures (sym c.is_schema_part.ensures ∙ c.if-is_schema_part.true) in
    let new = ap (λ (l : List ℕ). is_new l c.row-row.result.origin) (sym c.as_slice.ensures) ∙ sym c.is_new.ensures ∙ c.if-is_new.true in
    let k = filling_capacity _ _ _ _ (filling_same _ _ _ _ _ c.loop-i.invariant (extension_here _ _ _ _ here new)) in
    omega arith

pub loop-i-preserved : goal.loop-i-preserved
loop-i-preserved c =
    let rows = c.schema_block-block.result.rows.now in
    let seen = listed_in c.loop-i.extensions in
    elim c.if-is_schema_part.branch [
      | then-is_schema_part+then-is_new w ↦
          let here = left_here _ _ (omega arith) _ c.row-row.ensures (sym c.is_schema_part.ensures ∙ w.if-is_schema_part.true) in
          let new = ap (λ (l : List ℕ). is_new l c.row-row.result.origin) (sym w.as_slice.ensures) ∙ sym w.is_new.ensures ∙ w.if-is_new.true in
          rw w.extensions-is (
          filling_same _ _ _ _ _
          (filling_next _ _ _ _ c.loop-i.invariant (c.row-row.result.origin ∷ []) _ (extension_here _ _ _ _ here new) _
          w.push.ensures.appends)
          (ap (λ (l : List ℕ). firsts eqb l (filter is_card (origins_left rows (c.loop-i.i + 1)))) (sym w.push.ensures.listed)))
      | else-is_schema_part w ↦
          elim w.else-is_schema_part.branch [
            | else-is_schema_part-via-then-is_schema_part+else-is_new v ↦
                let here = left_here _ _ (omega arith) _ c.row-row.ensures (sym c.is_schema_part.ensures ∙ v.if-is_schema_part.true) in
                let old = ap (λ (l : List ℕ). is_new l c.row-row.result.origin) (sym v.as_slice.ensures) ∙ sym v.is_new.ensures ∙ v.if-is_new.false in
                rw w.extensions-is (filling_same _ _ _ _ _ c.loop-i.invariant (extension_over _ _ _ _ here old))
            | else-is_schema_part-via-else-is_schema_part v ↦
                let over = left_over _ _ (omega arith) _ c.row-row.ensures (sym c.is_schema_part.ensures ∙ v.if-is_schema_part.false) in
                rw w.extensions-is (filling_same _ _ _ _ _ c.loop-i.invariant (ap (λ (os : List ℕ). firsts eqb seen (filter is_card os)) over))
          ]
    ]

pub returns : goal.returns
returns c =
    let all = filling_done _ _ _ _ c.loop-i.invariant (firsts_none _ _ (left_end _ _ (omega arith))) in
    let grown = all.grown in
    let same = all.same_slice in
    let words = all.words in
    (omega arith, search (rules, same, words))
