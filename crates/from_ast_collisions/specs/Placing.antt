-- Places of cards: where the search for a heading's row may begin.
use Rattle.std.specs.Prelude.{◌≡◌, List, ◌⊎◌, ℕ, ◌+◌, ◌≤◌, ◌<◌, length, get_or, drop}
use Rattle.from_ast_collisions.specs.Earlier.{row_offset}

-- How many numbers a word can hold: a place is one word.
abbrev pub word_values : ℕ
word_values = 4294967296

-- The search for a row that has a heading's kind and the card ends at the same word from i on and from p on.
pub record SameEnd (rows : List ℕ) (i p card : ℕ) : Type 0 where
  pub inside : p ≤ length rows
  pub same : (k : ℕ) → k < 20 → i + row_offset k card (drop i rows) ≡ p + row_offset k card (drop p rows)

-- Of the rows from word i on: a card has no place yet, or one from which the search may begin.
abbrev pub PlacedFrom : List ℕ → List ℕ → ℕ → Type 0
PlacedFrom rows places i = (card : ℕ) → (get_or places card 0 ≡ 0) ⊎ SameEnd rows i (get_or places card 0) card

-- Of all rows: the search may begin at the card's place.
abbrev pub Placed : List ℕ → List ℕ → Type 0
Placed rows places = (card : ℕ) → SameEnd rows 0 (get_or places card 0) card
