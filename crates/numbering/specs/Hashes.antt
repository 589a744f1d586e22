-- Hashes of the names of cards.
use Rattle.std.specs.Prelude.{◌≡◌, List, ℕ, ◌<◌, ◌≤◌, length, get_or}
use Rattle.name.specs.Hashes.{hash_of}

-- An array whose first n words are the hashes of the names of the first n cards.
pub record HashesAre (named : ℕ → List ℕ) (n : ℕ) (hashes : List ℕ) : Type 0 where
  pub hashes_are : (i : ℕ) → i < n → get_or hashes i 0 ≡ hash_of (named i)
  pub hashes_length : n ≤ length hashes
