-- The laws of a character, one for each answer.
use mathlib.Core.Path.{◌≡◌, refl, sym, ap}
use mathlib.Core.Bool.{Bool, true, false, ◌&&◌}
use mathlib.Core.List.{List, [], ◌∷◌}
use Prim.Native.Nat.{ℕ, ◌<◌, ◌≤◌}
use native.Mathlib.Omega.{arith}
use borrow.Author.Tests.{ne_eqb, eqb-true, eqb-false, le-leb, lt-leb}
use lib.Dec.{eqb}
use lib.ListN.{get_or}
use Rattle.definition.specs.Lists.{choose}
use Rattle.definition.specs.Lexical.{continues, character}
use Rattle.std.specs.Option.{unwrap_or}
use Rattle.std.specs.Prelude.{Option, Some, None}
use Rattle.parser_lexer.specs.Characters.{second_of}
use Rattle.parser_lexer.specs.Measures.{counted}

-- ---- Counts, and none for 0.

pub same_count : (n m : ℕ) → n ≡ m → counted n ≡ counted m
same_count n m e = ap (λ (k : ℕ). counted k) e

pub counted_other : (n m : ℕ) → n ≡ m → (n ≡ 0 → ⊥) → Some n ≡ counted m
counted_other n m e z = rw (← e, ne_eqb n 0 z)

pub counted_none : (n : ℕ) → None ≡ counted n → n ≡ 0
counted_none n e = go (eqb n 0) refl e
  where
    go : (t : Bool) → eqb n 0 ≡ t → None ≡ choose t None (Some n) → n ≡ 0
    go true h e = eqb-true n 0 h
    go false h e = sym (ap (λ (o : Option ℕ). unwrap_or o 0) e)

pub counted_some : (n k : ℕ) → Some k ≡ counted n → (n ≡ k) × (0 < k)
counted_some n k e = go (eqb n 0) refl e
  where
    go : (t : Bool) → eqb n 0 ≡ t → Some k ≡ choose t None (Some n) → (n ≡ k) × (0 < k)
    go true h e =
        let y : k ≡ 0 = ap (λ (o : Option ℕ). unwrap_or o 0) e in
        let z : k ≡ 1 = ap (λ (o : Option ℕ). unwrap_or o 1) e in
        absurd (omega arith)
    go false h e =
        let z : k ≡ n = ap (λ (o : Option ℕ). unwrap_or o 0) e in
        let m = eqb-false n 0 h in
        (sym z, omega arith)

-- ---- A character.

module _ (b c d : ℕ) where
  pub of_tab : b ≡ 9 → character (b ∷ c ∷ d ∷ []) ≡ 1
  unfolding character
  of_tab h = rw h

  pub of_line_feed : b ≡ 10 → character (b ∷ c ∷ d ∷ []) ≡ 1
  unfolding character
  of_line_feed h = rw h

  pub of_return : b ≡ 13 → character (b ∷ c ∷ d ∷ []) ≡ 1
  unfolding character
  of_return h = rw h

  pub of_control : b < 32 → (b ≡ 9 → ⊥) → (b ≡ 10 → ⊥) → (b ≡ 13 → ⊥) → character (b ∷ c ∷ d ∷ []) ≡ 0
  unfolding character
  of_control h t l r = simp (ne_eqb b 9 t, ne_eqb b 10 l, ne_eqb b 13 r, lt-leb 32 b h, lt-leb 194 b (omega arith), lt-leb 224 b (omega arith))

  pub of_one : 32 ≤ b → b ≤ 127 → character (b ∷ c ∷ d ∷ []) ≡ 1
  unfolding character
  of_one h k = simp (ne_eqb b 9 (omega arith), ne_eqb b 10 (omega arith), ne_eqb b 13 (omega arith), le-leb 32 b h, le-leb b 127 k)

  -- However the code has told that it is a tab, a line's end or ASCII from the space on.
  pub of_first : 9 ≤ b → b ≤ 127 → (10 < b → (b ≡ 13 → ⊥) → 32 ≤ b) → character (b ∷ c ∷ d ∷ []) ≡ 1
  of_first h k f = go (eqb b 9) refl (eqb b 10) refl (eqb b 13) refl
    where
      go : (t : Bool) → eqb b 9 ≡ t → (u : Bool) → eqb b 10 ≡ u → (v : Bool) → eqb b 13 ≡ v → character (b ∷ c ∷ d ∷ []) ≡ 1
      go true x u y v z = of_tab (eqb-true b 9 x)
      go false x true y v z = of_line_feed (eqb-true b 10 y)
      go false x false y true z = of_return (eqb-true b 13 z)
      go false x false y false z =
          let m = eqb-false b 9 x in
          let n = eqb-false b 10 y in
          of_one (f (omega arith) (eqb-false b 13 z)) k

  module _ (wide : 127 < b) where
    pub of_none : b < 194 → character (b ∷ c ∷ d ∷ []) ≡ 0
    unfolding character
    of_none h = simp (
      ne_eqb b 9 (omega arith),
      ne_eqb b 10 (omega arith),
      ne_eqb b 13 (omega arith),
      le-leb 32 b (omega arith),
      lt-leb b 127 wide,
      lt-leb 194 b h,
      lt-leb 224 b (omega arith),
    )

    pub of_two : 194 ≤ b → b < 224 → character (b ∷ c ∷ d ∷ []) ≡ choose (continues c) 2 0
    unfolding character
    of_two h k = simp (
      ne_eqb b 9 (omega arith),
      ne_eqb b 10 (omega arith),
      ne_eqb b 13 (omega arith),
      le-leb 32 b (omega arith),
      lt-leb b 127 wide,
      le-leb 194 b h,
      le-leb b 223 (omega arith),
    )

    pub of_three : 224 ≤ b → b ≤ 239 → character (b ∷ c ∷ d ∷ []) ≡ choose (second_of b c && continues d) 3 0
    unfolding character
    of_three h k = simp (
      ne_eqb b 9 (omega arith),
      ne_eqb b 10 (omega arith),
      ne_eqb b 13 (omega arith),
      le-leb 32 b (omega arith),
      lt-leb b 127 wide,
      le-leb 194 b (omega arith),
      lt-leb b 223 h,
      le-leb 224 b h,
      le-leb b 239 k,
    )

    pub of_more : 239 < b → character (b ∷ c ∷ d ∷ []) ≡ 0
    unfolding character
    of_more h = simp (
      ne_eqb b 9 (omega arith),
      ne_eqb b 10 (omega arith),
      ne_eqb b 13 (omega arith),
      le-leb 32 b (omega arith),
      lt-leb b 127 wide,
      le-leb 194 b (omega arith),
      lt-leb b 223 (omega arith),
      le-leb 224 b (omega arith),
      lt-leb b 239 h,
    )

-- Three bytes tell a character.
pub by_three : (bs : List ℕ) → character bs ≡ character (get_or bs 0 0 ∷ get_or bs 1 0 ∷ get_or bs 2 0 ∷ [])
unfolding character
by_three bs = refl

pub three_counted : (bs : List ℕ) → counted (character (get_or bs 0 0 ∷ get_or bs 1 0 ∷ get_or bs 2 0 ∷ [])) ≡ counted (character bs)
three_counted bs = same_count _ _ (sym (by_three bs))
