-- The row is like one of the list, or it is pushed.
use mathlib.Core.Path.{refl, sym, ◌∙◌}
use Rattle.component.specs.Pushed.{filled_of, row_of}
use Rattle.component.proofs.Sticky.{capacity_least}
use Rattle.component.proofs.Turns.{placed_old, placed_new, placed_capacity}
use Rattle.component.proofs.Rows.extend_sticky.Goals as goal

pub find_alike-place-requires : goal.find_alike-place-requires
find_alike-place-requires c = capacity_least _ c.args.start (row_of c.args.row) (filled_of c.args.self.now) _ c.requires

pub returns-then-is_some : goal.returns-then-is_some
returns-then-is_some c = record {
  same_slice = refl;
  rows_are = placed_old _ _ _ _ _ c.find_alike-place.ensures (sym c.is_some.ensures ∙ c.if-is_some.true);
}

pub push-requires : goal.push-requires
push-requires c = placed_capacity _ _ _ _ _ c.find_alike-place.ensures (sym c.is_some.ensures ∙ c.if-is_some.false) _ c.requires

pub returns : goal.returns
returns c = record {
  same_slice = c.push.ensures.same_slice;
  rows_are = c.push.ensures.rows_are ∙ placed_new _ _ _ _ _ c.find_alike-place.ensures (sym c.is_some.ensures ∙ c.if-is_some.false);
}
