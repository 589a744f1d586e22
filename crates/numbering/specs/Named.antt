-- The names of the cards of a text, and how many cards it has.
use Rattle.std.specs.Prelude.{List, ℕ, ◌/◌, length}
use Rattle.definition.specs.Cards.{card_words}
use Rattle.numbering.specs.declared.names.Names.{Names}
use Rattle.numbering.specs.Numbers.{name_in}

abbrev pub named : Names → ℕ → List ℕ
named names = name_in names.text.now names.cards.now

abbrev pub count : Names → ℕ
count names = length names.cards.now / card_words
