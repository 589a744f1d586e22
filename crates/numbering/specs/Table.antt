-- A table of the first cards of each name. A word is 0, or one more than a card's number. A name is sought from the word that its hash tells, for at
-- most 32 words; a table has 32 words more than those at which a search may begin, so that no search runs past its end.
use Rattle.std.specs.Prelude.{◌≡◌, List, Bool, true, false, ℕ, ◌+◌, ◌-◌, ◌*◌, ◌/◌, ◌%◌, ◌≤◌, ◌<◌, length, set, get_or}
use Rattle.definition.specs.Names.{same_name}
use Rattle.name.specs.Hashes.{hash_of}
use Rattle.numbering.specs.Numbers.{representative, NumbersAre}

-- How many words a search reads at most.
abbrev pub most_probes : ℕ
most_probes = 32

-- Where a search begins. The product spreads hashes that stand close together; its high digits choose the word.
unfoldable pub home : ℕ → ℕ → ℕ
home slots hash = hash * 2654435769 % 4294967296 * slots / 4294967296

unfoldable pub home_of : ℕ → List ℕ → ℕ
home_of slots name = home slots (hash_of name)

-- The word k is of a card that has another name.
pub record Other (named : ℕ → List ℕ) (table name : List ℕ) (k : ℕ) : Type 0 where
  pub other : ℕ
  pub word_is : get_or table k 0 ≡ other + 1
  pub other_named : same_name name (named other) ≡ false

-- A search for the name that went d words from the start: to a card of the name, to a word 0, or as far as it may.
pub record Probed (named : ℕ → List ℕ) (table name : List ℕ) (start d : ℕ) : Type 0 where
  pub most : d ≤ most_probes
  pub passed : (e : ℕ) → e < d → Other named table name (start + e)
  pub here : d < most_probes → (j : ℕ) → get_or table (start + d) 0 ≡ j + 1 → same_name name (named j) ≡ true

-- The card stands in the table where a search for its name gets.
pub record Placed (named : ℕ → List ℕ) (slots : ℕ) (table : List ℕ) (j : ℕ) : Type 0 where
  pub steps : ℕ
  pub near : steps < most_probes
  pub placed_here : get_or table (home_of slots (named j) + steps) 0 ≡ j + 1
  pub passed : (e : ℕ) → e < steps → get_or table (home_of slots (named j) + e) 0 ≡ 0 → ⊥

-- A table of the first ones among n cards, with so many words at which a search may begin.
pub record Held (named : ℕ → List ℕ) (slots n : ℕ) (table : List ℕ) : Type 0 where
  pub entries : (k j : ℕ) → get_or table k 0 ≡ j + 1 → (j < n) × (representative named j ≡ j)
  pub placed : (j : ℕ) → j < n → representative named j ≡ j → Placed named slots table j

-- A card was numbered, or the search for its name went too far and no number changed.
pub record Turned (named : ℕ → List ℕ) (card : ℕ) (done : Bool) (table numbers₀ numbers : List ℕ) : Type 0 where
  pub held : done ≡ true → Held named (length table - most_probes) (card + 1) table
  pub numbered : done ≡ true → numbers ≡ set numbers₀ card (representative named card)
  pub untouched : done ≡ false → numbers ≡ numbers₀

-- All n cards were numbered, and the table has the first ones of their names.
pub record ByTable (named : ℕ → List ℕ) (n : ℕ) (table numbers₀ numbers : List ℕ) : Type 0 where
  pub numbers_made : NumbersAre named n numbers₀ numbers
  pub all_held : Held named (length table - most_probes) n table
