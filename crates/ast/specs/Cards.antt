-- What the card of this crate stands for, which word of a card is which, and a part of the cards that words are.
use Rattle.std.specs.Prelude.{List, ℕ, ◌-◌, ◌*◌, drop}
use Rattle.definition.specs.Cards.{Card as DefinedCard, card_words, cards_from}
use Rattle.ast.specs.declared.Card.{Card}

-- A card of the code is a card of the definitions.
abbrev pub card_of : Card → DefinedCard
card_of c = record { kind = c.kind; item_at = c.item_at; item_len = c.item_len; name_at = c.name_at; name_len = c.name_len }

-- Which word of a card is which: `card_from` of the definitions reads them there.
abbrev pub kind_word : ℕ
kind_word = 0

abbrev pub item_at_word : ℕ
item_at_word = 1

abbrev pub item_len_word : ℕ
item_len_word = 2

abbrev pub name_at_word : ℕ
name_at_word = 3

abbrev pub name_len_word : ℕ
name_len_word = 4

-- The cards from the number `from` to before the number `to`.
abbrev pub cards_between : List ℕ → ℕ → ℕ → List DefinedCard
cards_between ws from to = cards_from (to - from) (drop (card_words * from) ws)
