use Rattle.store_check.proofs.Cards.{Cleared}
use Rattle.store_check.proofs.cards_sound.Given as goal

abbrev pub invariant-loop-document : goal.invariant-loop-document
invariant-loop-document l = Cleared l.text l.words l.cards l.document
