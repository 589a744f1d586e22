-- What filing and opening ask.
use Rattle.std.specs.Prelude.{◌≡◌, List, ℕ, ◌+◌, ◌<◌, ◌≤◌, ◌/◌, ◌%◌, length}
use Rattle.definition.specs.Lists.{All}
use Rattle.definition.specs.Cards.{card_words, cards_of}
use Rattle.definition.specs.Refusals.{text_capacity, document_capacity, card_capacity}
use Rattle.definition.specs.Store.{words_capacity, document_count, text_used_of, cards_used_of}
use Rattle.store.specs.Moving.{Within}

-- A store of the stated size has room for the lent text and cards, which are whole cards with offsets within the text's room.
pub record FilingFits (text words lent cards : List ℕ) : Type 0 where
  pub text_long : text_capacity ≤ length text
  pub words_long : words_capacity ≤ length words
  pub few : document_count words < document_capacity
  pub text_fits : text_used_of words + length lent ≤ text_capacity
  pub cards_fit : cards_used_of words + length cards / card_words ≤ card_capacity
  pub whole : length cards % card_words ≡ 0
  pub within : All (Within text_capacity) (cards_of cards)

-- The same of a store that is to hold the lent document alone.
pub record OpeningFits (text words lent cards : List ℕ) : Type 0 where
  pub text_long : text_capacity ≤ length text
  pub words_long : words_capacity ≤ length words
  pub text_fits : length lent ≤ text_capacity
  pub cards_fit : length cards / card_words ≤ card_capacity
  pub whole : length cards % card_words ≡ 0
  pub within : All (Within text_capacity) (cards_of cards)
