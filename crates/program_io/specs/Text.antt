-- Bytes that are put into a buffer one after another, and numbers as text.
use Rattle.std.specs.Prelude.{◌≡◌, List, [], ◌∷◌, ◌++◌, ℕ, zero, suc, ◌+◌, ◌/◌, ◌%◌, ltb, length, take}
use Rattle.definition.specs.Lists.{choose}

-- The bytes xs were put at a place of the buffer `old`: `new` has them there behind what stood before that place, and `end` is the next place.
pub record Put (old : List ℕ) (at : ℕ) (xs : List ℕ) (new : List ℕ) (end : ℕ) : Type 0 where
  pub place : end ≡ at + length xs
  pub text : take end new ≡ take at old ++ xs

-- The decimal digits of a number, as long as there is fuel.
unfoldable pub decimal_in : ℕ → ℕ → List ℕ
decimal_in zero n = []
decimal_in (suc fuel) n =
    let longer = decimal_in fuel (n / 10) ++ ((48 + n % 10) ∷ []) in
    choose (ltb n 10) ((48 + n) ∷ []) longer

unfoldable pub decimal : ℕ → List ℕ
unfolding decimal_in
decimal n = decimal_in (suc n) n
