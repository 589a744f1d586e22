-- Names numbered: the number of a card's name is that of the first card that has it, so two cards have one name exactly where they have one number.
-- `named` says the name of a card by the card's number; a document's or a store's cards have names by their words (`name_in`).
use Rattle.std.specs.Prelude.{◌≡◌, List, Bool, ℕ, zero, suc, ◌*◌, ◌<◌, length, drop, get_or}
use Rattle.definition.specs.Lists.{choose}
use Rattle.definition.specs.Names.{same_name}
use Rattle.definition.specs.Cards.{card_words, card_from}
use Rattle.definition.specs.Headings.{name_of}

-- The name of the card i among cards that are given by their words.
unfoldable pub name_in : List ℕ → List ℕ → ℕ → List ℕ
name_in text cards i = name_of text (card_from (drop (card_words * i) cards))

-- The first of the numbers j, j + 1, .. that passes the test, sought among k of them; the one after them where none passes.
unfoldable pub first_from : (ℕ → Bool) → ℕ → ℕ → ℕ
first_from p j zero = j
first_from p j (suc k) = let later = first_from p (suc j) k in choose (p j) j later

-- Whether two cards have one name.
unfoldable pub one_name : (ℕ → List ℕ) → ℕ → ℕ → Bool
one_name named i j = same_name (named i) (named j)

-- The first card with the name of the card i. It has that name itself, so it is sought among those before it.
unfoldable pub representative : (ℕ → List ℕ) → ℕ → ℕ
representative named i = first_from (one_name named i) 0 i

-- An array whose first n words are the numbers of the names of the first n cards; no other word has changed.
pub record NumbersAre (named : ℕ → List ℕ) (n : ℕ) (numbers₀ numbers : List ℕ) : Type 0 where
  pub numbers_are : (i : ℕ) → i < n → get_or numbers i 0 ≡ representative named i
  pub rest_stays : drop n numbers ≡ drop n numbers₀
  pub length_stays : length numbers ≡ length numbers₀

-- Of an array only the first n words may have changed.
pub record Rest (n : ℕ) (numbers₀ numbers : List ℕ) : Type 0 where
  pub rest_stays : drop n numbers ≡ drop n numbers₀
  pub length_stays : length numbers ≡ length numbers₀
