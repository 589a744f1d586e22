-- A card by its number, where the number of cards was read.
use mathlib.Core.Path.{◌≡◌}
use mathlib.Core.List.{List}
use Prim.Native.Nat.{ℕ, ◌+◌, ◌*◌, ◌≤◌, ◌<◌}
use native.Mathlib.Omega.{arith}
use lib.ListN.{get_or}
use borrow.Author.Tests.{lt-ltb, le-ltb}
use Rattle.definition.specs.Cards.{card_words}
use Rattle.definition.specs.Store.{cards_at, cards_used_of}
use Rattle.store_reader.specs.Cards.{card_word, next_card}

module _ (words : List ℕ) (n used : ℕ) (e : used ≡ cards_used_of words) where
  pub word_here : (k : ℕ) → n < used → card_word words n k ≡ get_or words (cards_at + card_words * n + k) 0
  unfolding card_word
  word_here k h = rw (lt-ltb n (cards_used_of words) (omega arith))

  pub word_none : (k : ℕ) → used ≤ n → card_word words n k ≡ 0
  unfolding card_word
  word_none k h = rw (le-ltb n (cards_used_of words) (omega arith))

  pub after_end : used ≤ n → used ≡ next_card words n
  unfolding next_card
  after_end h = rw (le-ltb n (cards_used_of words) (omega arith)) e

  pub after_here : n < used → n + 1 ≡ next_card words n
  unfolding next_card
  after_here h = rw (lt-ltb n (cards_used_of words) (omega arith))
