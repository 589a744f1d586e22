use mathlib.Core.Path.{refl, ◌∙◌}
use native.Mathlib.Omega.{arith}
use Rattle.from_ast_index.proofs.Lists.{drop_next, drop_end}
use Rattle.component.proofs.Sticky.{extending_capacity, extending_next, extending_end}
use Rattle.component.proofs.Turns.{directives_begin}
use Rattle.from_ast_rows.proofs.directives.directive_definitions.Goals as goal

pub loop-card-init : goal.loop-card-init
loop-card-init c = record { same_slice = refl; left = directives_begin _ _ _ _ c.requires.room }

pub directive_definition-requires-clause-room : goal.directive_definition-requires-clause-room
directive_definition-requires-clause-room c =
    extending_capacity _ _ _ _ _ _ c.loop-card.invariant.left _ _ (drop_next _ c.loop-card.card-index (omega arith))

pub loop-card-preserved : goal.loop-card-preserved
loop-card-preserved c =
    let r = c.directive_definition.ensures in
    record {
      same_slice = r.same_slice ∙ c.loop-card.invariant.same_slice;
      left = extending_next _ _ _ _ _ _ c.loop-card.invariant.left _ _ (drop_next _ c.loop-card.card-index (omega arith)) _ r.rows_are;
    }

pub returns : goal.returns
returns c = record {
  same_slice = c.loop-card.invariant.same_slice;
  rows_are = extending_end _ _ _ _ _ _ c.loop-card.invariant.left (drop_end _ c.loop-card.card-index (omega arith));
}
