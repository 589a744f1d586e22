-- What is promised of the cards of an accepted text: filing the text with them, or opening with them, is refused for no card.
use Rattle.std.specs.Prelude.{◌≡◌, List, ℕ, ◌*◌, take}
use Rattle.std.proofs.Math.Option.{none}
use Rattle.definition.specs.Lists.{flat_map}
use Rattle.definition.specs.Derivation.{Seen}
use Rattle.definition.specs.Cards.{card_words, words_of_card, document_fault}
use Rattle.definition.specs.ItemCards.{cards_read}
use Rattle.definition.specs.Reading.{accepted, reading}
use Rattle.definition.specs.Outcomes.{parse}

-- The words of an accepted text's cards pass the refusals 1 to 5, 27 and 28 over that text.
abbrev pub CardsPass : Type 0
CardsPass = (text : List ℕ) (es : List Seen) → reading text ≡ accepted es → document_fault text (flat_map words_of_card (cards_read es)) ≡ none

-- So do the words that a call which accepts has written: as many cards as it says.
abbrev pub WrittenPass : Type 0
WrittenPass =
    (text ws : List ℕ) → (parse text ws).answer.number ≡ 0 →
    document_fault text (take (card_words * (parse text ws).answer.card) (parse text ws).list) ≡ none
