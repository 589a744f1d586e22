use mathlib.Core.Path.{◌∙◌, sym, ap}
use mathlib.Core.List.{[], ◌∷◌}
use Prim.Native.Nat.{◌+◌}
use native.Mathlib.Omega.{arith}
use Rattle.definition.specs.Cards.{is_type}
use Rattle.definition.specs.Catalogue.{Row}
use Rattle.schema_rows.specs.Rows.{cards_of}
use Rattle.schema.specs.Gather.{pairs_left}
use Rattle.schema.specs.Owners.{owner_of}
use Rattle.word_list.proofs.Filling.{filling_start, filling_same, filling_capacity, filling_next, filling_done, listed_after}
use Rattle.schema.proofs.Pairs.{pairs_start, pairs_end, type_last, type_left, last_next, left_other, left_again, left_new, left_outside, seen_type, seen_left}
use Rattle.schema.proofs.implementers.collect.Goals as goal

pub loop-i-init : goal.loop-i-init
loop-i-init c = (tt, filling_same _ _ _ _ _ (filling_start _ _ (let h = c.requires in omega arith)) (pairs_start _ _))

pub loop-i-preserved-then-is_type : goal.loop-i-preserved-then-is_type
loop-i-preserved-then-is_type c =
    let e = sym (ap (λ (r : Row). is_type r.what) c.row-row.ensures) ∙ sym c.is_type.ensures ∙ c.if-is_type.true in
    (type_last _ _ (omega arith) e, filling_same _ _ _ _ _ c.loop-i.invariant.1 (type_left _ _ _ (omega arith) e _))

pub loop-i-preserved-in_default : goal.loop-i-preserved-in_default
loop-i-preserved-in_default c =
    let e = sym (ap (λ (r : Row). is_type r.what) c.row-row.ensures) ∙ sym c.is_type.ensures ∙ c.if-is_type.false in
    let k = left_outside _ _ _ _ (omega arith) e c.in_default.is in
    (k.0, filling_same _ _ _ _ _ c.loop-i.invariant.1 k.1)

pub loop-i-preserved-then-row-ne-IMPLEMENTS_INTERFACE : goal.loop-i-preserved-then-row-ne-IMPLEMENTS_INTERFACE
loop-i-preserved-then-row-ne-IMPLEMENTS_INTERFACE c =
    let e = sym (ap (λ (r : Row). is_type r.what) c.row-row.ensures) ∙ sym c.is_type.ensures ∙ c.if-is_type.false in
    let last = seen_type (cards_of c.args.schema) _ _ _ _ c.in-Some.is c.loop-i.invariant.0 in
    let same = ap (λ (r : Row). r.what) c.row-row.ensures in (
      last_next _ _ (omega arith) e _ last,
      filling_same _ _ _ _ _ c.loop-i.invariant.1
          (seen_left _ _ _ _ _ c.in-Some.is ∙ left_other _ _ _ (omega arith) e _ last (λ k. c.if-row-ne-IMPLEMENTS_INTERFACE.true (same ∙ k))),
    )

pub is_first_interface-requires : goal.is_first_interface-requires
is_first_interface-requires c =
    let same = ap (λ (r : Row). r.what) c.row-row.ensures in
    (omega arith, sym same ∙ c.if-row-ne-IMPLEMENTS_INTERFACE.false, seen_type (cards_of c.args.schema) _ _ _ _ c.in-Some.is c.loop-i.invariant.0)

pub loop-i-preserved-then-not-is_first_interface : goal.loop-i-preserved-then-not-is_first_interface
loop-i-preserved-then-not-is_first_interface c =
    let e = sym (ap (λ (r : Row). is_type r.what) c.row-row.ensures) ∙ sym c.is_type.ensures ∙ c.if-is_type.false in
    let last = seen_type (cards_of c.args.schema) _ _ _ _ c.in-Some.is c.loop-i.invariant.0 in
    let kind = sym (ap (λ (r : Row). r.what) c.row-row.ensures) ∙ c.if-row-ne-IMPLEMENTS_INTERFACE.false in (
      last_next _ _ (omega arith) e _ last,
      filling_same _ _ _ _ _ c.loop-i.invariant.1
          (seen_left _ _ _ _ _ c.in-Some.is
          ∙ left_again _ _ _ (omega arith) e _ last kind (sym c.if-not-is_first_interface.true ∙ c.is_first_interface.ensures)),
    )

-- An interface that counts is the first of those left.
pub extend_from_slice-requires : goal.extend_from_slice-requires
extend_from_slice-requires c =
    let e = sym (ap (λ (r : Row). is_type r.what) c.row-row.ensures) ∙ sym c.is_type.ensures ∙ c.if-is_type.false in
    let last = seen_type (cards_of c.args.schema) _ _ _ _ c.in-Some.is c.loop-i.invariant.0 in
    let kind = sym (ap (λ (r : Row). r.what) c.row-row.ensures) ∙ c.if-row-ne-IMPLEMENTS_INTERFACE.false in
    let new = seen_left _ _ _ _ _ c.in-Some.is
    ∙ left_new _ _ _ (omega arith) e _ last kind (sym c.if-not-is_first_interface.false ∙ c.is_first_interface.ensures) in
    let k = filling_capacity _ _ _ _ (filling_same _ _ _ _ _ c.loop-i.invariant.1 new) in
    omega arith

pub loop-i-preserved : goal.loop-i-preserved
loop-i-preserved c =
    let e = sym (ap (λ (r : Row). is_type r.what) c.row-row.ensures) ∙ sym c.is_type.ensures ∙ c.if-is_type.false in
    let last = seen_type (cards_of c.args.schema) _ _ _ _ c.in-Some.is c.loop-i.invariant.0 in
    let kind = sym (ap (λ (r : Row). r.what) c.row-row.ensures) ∙ c.if-row-ne-IMPLEMENTS_INTERFACE.false in
    let new = seen_left _ _ _ _ _ c.in-Some.is
    ∙ left_new _ _ _ (omega arith) e _ last kind (sym c.if-not-is_first_interface.false ∙ c.is_first_interface.ensures) in
    let cs = cards_of c.args.schema in
    let rows = c.args.schema.rows.now in
    let next = c.loop-i.i + 1 in
    let more = pairs_left cs rows (owner_of cs rows _ next) next in
    let row = sym c.row-row.ensures in
    let owner = sym c.row-type_row.ensures in (
      last_next _ _ (omega arith) e _ last,
      filling_next _ _ _ _ c.loop-i.invariant.1 (c.row-type_row.result.what ∷ (c.row-row.result.card ∷ (c.row-type_row.result.card ∷ []))) _
          (new ∙ (λ j. (owner j).what ∷ ((row j).card ∷ ((owner j).card ∷ more)))) _ c.extend_from_slice.ensures,
    )

pub into_slice-requires : goal.into_slice-requires
into_slice-requires c = let k = filling_capacity _ _ _ _ c.loop-i.invariant.1 in omega arith

pub returns : goal.returns
returns c =
    c.into_slice.ensures
    ∙ listed_after _ _ _ (filling_done _ _ _ _ c.loop-i.invariant.1 (pairs_end _ _ _ _ (omega arith))) (omega arith)
