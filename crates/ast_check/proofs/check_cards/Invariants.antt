use mathlib.Core.Path.{◌≡◌}
use Rattle.definition.specs.Cards.{cards_of, card_fault}
use Rattle.ast_check.proofs.Walk.{faults_from}
use Rattle.ast_check.proofs.check_cards.Given as goal

abbrev pub invariant-loop-place : goal.invariant-loop-place
invariant-loop-place l =
    card_fault l.document.text.now l.document.base l.document.size (cards_of l.cards) ≡ faults_from l.document.text.now l.document.base l.document.size l.cards l.place l.before
