-- The two walks that note where the extensions of each type stand.
use mathlib.Core.Path.{◌≡◌, refl, ap}
use mathlib.Core.List.{List}
use mathlib.Core.Bool.{Bool, true, false}
use Prim.Native.Nat.{ℕ, ◌+◌, ◌≤◌, ◌<◌}
use native.Mathlib.Omega.{arith}
use lib.Dec.{eqb}
use lib.ListN.{length, get_or, set, length-set}
use lib.Seq.{get_or-set_same, get_or-set_other}
use borrow.Author.Tests.{eqb-true, eqb-false}
use Rattle.from_ast_index.specs.Index.{owner_at, StartsAre, EndsAre}

module _ (f : ℕ → ℕ) (xs : List ℕ) (k : ℕ) where
  later_ends : ((i : ℕ) → i < k → f i < length xs → i < get_or xs (f i) 0) → (i : ℕ) → i < k + 1 → f i < length (set xs (f k) (k + 1)) →
      i < get_or (set xs (f k) (k + 1)) (f i) 0
  later_ends told i h l = go (eqb (f i) (f k)) refl
    where
      n : length (set xs (f k) (k + 1)) ≡ length xs
      n = length-set xs (f k) (k + 1)

      go : (b : Bool) → eqb (f i) (f k) ≡ b → i < get_or (set xs (f k) (k + 1)) (f i) 0
      go true e =
          let q = eqb-true (f i) (f k) e in
          let inside : f k < length xs = omega (arith, n) in
          rw (q, get_or-set_same xs (f k) (k + 1) 0 inside) h
      go false e =
          let d = eqb-false (f i) (f k) e in
          let apart : i ≡ k → ⊥ = λ q. d (ap f q) in
          let inside : f i < length xs = omega (arith, n) in
          rw (get_or-set_other xs (f k) (f i) (k + 1) 0 d) (told i (omega (arith, apart)) inside)

  earlier_starts : (m : ℕ) → ((i : ℕ) → k + 1 ≤ i → i < m → f i < length xs → get_or xs (f i) 0 ≤ i) → (i : ℕ) → k ≤ i → i < m → f i < length (set xs (f k) k) →
      get_or (set xs (f k) k) (f i) 0 ≤ i
  earlier_starts m told i h u l = go (eqb (f i) (f k)) refl
    where
      n : length (set xs (f k) k) ≡ length xs
      n = length-set xs (f k) k

      go : (b : Bool) → eqb (f i) (f k) ≡ b → get_or (set xs (f k) k) (f i) 0 ≤ i
      go true e =
          let q = eqb-true (f i) (f k) e in
          let inside : f k < length xs = omega (arith, n) in
          rw (q, get_or-set_same xs (f k) k 0 inside) h
      go false e =
          let d = eqb-false (f i) (f k) e in
          let apart : i ≡ k → ⊥ = λ q. d (ap f q) in
          let inside : f i < length xs = omega (arith, n) in
          rw (get_or-set_other xs (f k) (f i) k 0 d) (told i (omega (arith, apart)) u inside)

module _ (owners extensions : List ℕ) where
  pub ends_none : (ends : List ℕ) → EndsAre owners extensions ends 0
  ends_none ends = record { before_end = λ i h l. absurd (omega arith) }

  pub ends_turn : (ends : List ℕ) (k : ℕ) → EndsAre owners extensions ends k →
      EndsAre owners extensions (set ends (owner_at owners extensions k) (k + 1)) (k + 1)
  ends_turn ends k s = record { before_end = later_ends (owner_at owners extensions) ends k s.before_end }

  pub starts_none : (starts : List ℕ) → StartsAre owners extensions starts (length extensions)
  starts_none starts = record { at_or_after = λ i h u l. absurd (omega arith) }

  pub starts_turn : (starts : List ℕ) (k : ℕ) → StartsAre owners extensions starts (k + 1) →
      StartsAre owners extensions (set starts (owner_at owners extensions k) k) k
  starts_turn starts k s = record { at_or_after = earlier_starts (owner_at owners extensions) starts k (length extensions) s.at_or_after }
