use mathlib.Core.Path.{◌≡◌}
use Rattle.std.specs.Option.{unwrap_or}
use Rattle.definition.specs.Answers.{absent}
use Rattle.component.specs.Pushed.{filled_of}
use Rattle.component.specs.RowsByCards.{extend_by_heading}
use Rattle.component.proofs.Turns.{Under}
use Rattle.component.proofs.Rows.extend_ast.Given as goal

-- The parts from `card` on are left.
abbrev pub invariant-loop-card : goal.invariant-loop-card
invariant-loop-card l = record {
  same_slice : l.self.words.ghost_name ≡ l.initial.self.words.ghost_name;
  left : Under l.collection.text.now l.collection.words.now (unwrap_or l.origin absent) l.kind l.start l.card (filled_of l.self)
      (extend_by_heading l.collection.text.now l.collection.words.now (unwrap_or l.origin absent) l.kind l.heading l.start (filled_of l.initial.self));
}
