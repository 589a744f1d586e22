use mathlib.Core.Path.{◌∙◌, sym, ap}
use native.Mathlib.Omega.{arith}
use Rattle.definition.specs.Catalogue.{Row}
use Rattle.schema_rows.specs.Order.{fits, kind_after, place_after}
use Rattle.schema_rows.specs.Passing.{row_passes, is_free, marked}
use Rattle.schema_rows.specs.Places.{kind_of, place_of}
use Rattle.schema_rows.specs.Rows.{cards_of, rows_of}
use Rattle.schema_rows.proofs.OrderLaws.{place_standing, place_any}
use Rattle.schema_rows.proofs.Walk.{walk_number, not_whole, whole, marked_start, marked_same, walk_order, walk_row, walk_card, card_inside}
use Rattle.schema_rows.proofs.Walk.{walk_marks, walk_next, walk_end}
use Rattle.schema_rows.proofs.Schema.check_rows.Goals as goal

pub returns-then-self-ne0 : goal.returns-then-self-ne0
returns-then-self-ne0 c = not_whole _ _ _ c.requires c.if-self-ne0.true

pub loop-i-init : goal.loop-i-init
loop-i-init c = (
  marked_start _ c.new-marks.ensures,
  whole _ _ _ c.requires c.if-self-ne0.false,
)

pub returns-in_default : goal.returns-in_default
returns-in_default c =
    let k = kind_of c.loop-i.place in
    let p = place_of c.loop-i.place in
    let e = sym (ap (λ (r : Row). fits k p r.what) c.row-row.ensures) ∙ c.in_default.ensures in
    sym (c.loop-i.invariant.1 ∙ ap walk_number (walk_order _ _ _ _ _ _ (omega arith) e))

pub returns-then-not-row_passes : goal.returns-then-not-row_passes
returns-then-not-row_passes c =
    let e = sym (ap (row_passes (cards_of c.args.self) (rows_of c.args.self)) c.row-row.ensures) ∙ sym c.row_passes.ensures ∙ c.if-not-row_passes.true in
    sym (c.loop-i.invariant.1 ∙ ap walk_number (walk_row _ _ _ _ _ _ (omega arith) e))

pub take-requires : goal.take-requires
take-requires c =
    let e = sym (ap (row_passes (cards_of c.args.self) (rows_of c.args.self)) c.row-row.ensures) ∙ sym c.row_passes.ensures ∙ c.if-not-row_passes.false in
    let card = ap (λ (r : Row). r.card) c.row-row.ensures in
    λ n. let inside = card_inside _ _ _ 0 0 _ (omega arith) c.requires e (λ m. n (card ∙ m)) in omega arith

pub returns-then-not-take : goal.returns-then-not-take
returns-then-not-take c =
    let e = sym (ap (row_passes (cards_of c.args.self) (rows_of c.args.self)) c.row-row.ensures) ∙ sym c.row_passes.ensures ∙ c.if-not-row_passes.false in
    let f = sym (ap (λ (r : Row). is_free c.loop-i.marks.marks r.card) c.row-row.ensures) ∙ sym c.take.ensures.0 ∙ c.if-not-take.true in
    sym (c.loop-i.invariant.1 ∙ ap walk_number (walk_card _ _ _ _ _ _ (omega arith) _ c.loop-i.invariant.0 c.requires e f))

pub loop-i-preserved : goal.loop-i-preserved
loop-i-preserved c =
    let k = kind_of c.loop-i.place in
    let p = place_of c.loop-i.place in
    let marks = c.loop-i.marks.marks in
    let same = c.row-row.ensures in
    let e = sym (ap (row_passes (cards_of c.args.self) (rows_of c.args.self)) same) ∙ sym c.row_passes.ensures ∙ c.if-not-row_passes.false in
    let g = sym c.take.ensures.0 ∙ c.if-not-take.false in
    let free = sym (ap (λ (r : Row). is_free marks r.card) same) ∙ g in
    let next = c.in-Some.ensures in
    let fit = sym (ap (λ (r : Row). fits k p r.what) same) ∙ next.0 in (
      marked_same _ _ _ (c.take.ensures.1 g ∙ ap (λ (r : Row). marked marks r.card) same)
          (walk_marks _ _ _ k p _ (omega arith) _ c.loop-i.invariant.0 c.requires e free),
      c.loop-i.invariant.1
          ∙ ap walk_number (walk_next _ _ _ k p _ (omega arith) _ c.loop-i.invariant.0 c.requires e free (place_standing c.loop-i.place) fit _ _
          (next.1 ∙ ap (λ (r : Row). kind_after k r.what) same)
          (next.2 ∙ ap (λ (r : Row). place_after k r.what) same)),
    )

pub returns-then-is_none : goal.returns-then-is_none
returns-then-is_none c =
    sym (c.loop-i.invariant.1 ∙ ap walk_number (walk_end _ _ _ _ _ (omega arith) ∙ place_any c.loop-i.place ∙ c.if-is_none.ensures))

pub returns : goal.returns
returns c = sym (c.loop-i.invariant.1 ∙ ap walk_number (walk_end _ _ _ _ _ (omega arith) ∙ place_any c.loop-i.place ∙ c.if-is_none.ensures))
