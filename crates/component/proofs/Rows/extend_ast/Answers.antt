-- The parts from `card` on are left, and none once a card is no part.
use mathlib.Core.Path.{refl, sym, ap, ◌∙◌}
use native.Mathlib.Omega.{arith}
use Rattle.definition.specs.Cards.{is_part}
use Rattle.component.proofs.Turns.{under_begin, under_stop, under_end, under_capacity, under_next}
use Rattle.component.proofs.Rows.extend_ast.Goals as goal

pub loop-card-init : goal.loop-card-init
loop-card-init c = record { same_slice = refl; left = under_begin _ _ _ _ _ _ _ c.requires.begun c.requires.room }

pub returns-then-not-is_part : goal.returns-then-not-is_part
returns-then-not-is_part c =
    let e = ap is_part (sym c.kind.ensures) ∙ sym c.is_part.ensures ∙ c.if-not-is_part.true in
    record { same_slice = c.loop-card.invariant.same_slice; rows_are = under_stop _ _ _ _ _ _ _ _ c.loop-card.invariant.left (omega arith) e }

pub extend_part-requires : goal.extend_part-requires
extend_part-requires c =
    let e = ap is_part (sym c.kind.ensures) ∙ sym c.is_part.ensures ∙ c.if-not-is_part.false in
    under_capacity _ _ _ _ _ _ _ _ c.loop-card.invariant.left (omega arith) e

pub loop-card-preserved : goal.loop-card-preserved
loop-card-preserved c =
    let e = ap is_part (sym c.kind.ensures) ∙ sym c.is_part.ensures ∙ c.if-not-is_part.false in
    let r = c.extend_part.ensures in
    record {
      same_slice = r.same_slice ∙ c.loop-card.invariant.same_slice;
      left = under_next _ _ _ _ _ _ _ _ c.loop-card.invariant.left (omega arith) e _ r.rows_are;
    }

pub returns : goal.returns
returns c = record {
  same_slice = c.loop-card.invariant.same_slice;
  rows_are = under_end _ _ _ _ _ _ _ _ c.loop-card.invariant.left (omega arith);
}
