use Rattle.definition.specs.Refusals.{text_capacity}
use Rattle.store.proofs.Moved.{Copying}
use Rattle.store.proofs.copying.copy_cards.Given as goal

abbrev pub invariant-loop-i : goal.invariant-loop-i
invariant-loop-i l = Copying l.base l.i l.cards l.unused l.initial.unused text_capacity
