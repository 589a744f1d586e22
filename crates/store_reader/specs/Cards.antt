-- What a store's words and its one text say of a card by its number.
use Rattle.std.specs.Prelude.{List, ℕ, ◌+◌, ◌*◌, ltb, get_or}
use Rattle.std.specs.Borrow.{Bor}
use Rattle.definition.specs.Lists.{choose}
use Rattle.definition.specs.Names.{bytes_at}
use Rattle.definition.specs.Cards.{card_words}
use Rattle.definition.specs.Store.{cards_at, cards_used_of}
use Rattle.name.specs.Parts.{PartAt}
use Rattle.ast.specs.Cards.{kind_word, name_at_word, name_len_word}

-- Word k of the card n, 0 where no such card is stored.
unfoldable pub card_word : List ℕ → ℕ → ℕ → ℕ
card_word words n k = choose (ltb n (cards_used_of words)) (get_or words (cards_at + card_words * n + k) 0) 0

unfoldable pub card_kind : List ℕ → ℕ → ℕ
card_kind words n = card_word words n kind_word

unfoldable pub name_start : List ℕ → ℕ → ℕ
name_start words n = card_word words n name_at_word

unfoldable pub name_size : List ℕ → ℕ → ℕ
name_size words n = card_word words n name_len_word

-- The bytes of a card's name, as far as the text reaches.
unfoldable pub card_name : List ℕ → List ℕ → ℕ → List ℕ
card_name text words n = bytes_at text (name_start words n) (name_size words n)

-- The part of the text that is a card's name.
abbrev pub NamePart : Bor (List ℕ) → List ℕ → ℕ → Bor (List ℕ) → Type 0
NamePart text words n part = PartAt text part (name_start words n) (name_size words n)

-- The position after n, where n is one; else the number of cards.
unfoldable pub next_card : List ℕ → ℕ → ℕ
next_card words n = choose (ltb n (cards_used_of words)) (n + 1) (cards_used_of words)
