-- Small laws of tests, and of sets of sorts as ranges.
use mathlib.Core.Path.{◌≡◌, refl}
use mathlib.Core.List.{List, [], ◌∷◌, ◌++◌}
use mathlib.Core.Bool.{Bool, true, false, ◌&&◌, ◌||◌}
use mathlib.Core.Logic.{◌⊎◌, inl, inr}
use Prim.Native.Nat.{ℕ, ◌≤◌}
use native.Mathlib.Omega.{arith}
use borrow.Author.Tests.{leb-true, ltb-true, le-leb}
use lib.Dec.{leb, ltb}
use Rattle.definition.specs.Lists.{choose, any, all, Among, here, there}
use Rattle.definition.specs.Grammar.{within}
use Rattle.definition.specs.Machine.{has}

-- No test is both.
pub clash : {A : Type 0} → false ≡ true → A
clash e = let z : ◌≡◌ {A = ℕ} 0 1 = cc in absurd (omega arith)

pub both : (a b : Bool) → (a && b) ≡ true → (a ≡ true) × (b ≡ true)
both true b e = (refl, e)
both false b e = clash e

pub either : (a b : Bool) → (a || b) ≡ true → (a ≡ true) ⊎ (b ≡ true)
either true b e = inl refl
either false b e = inr e

pub within_bounds : (lo hi s : ℕ) → within lo hi s ≡ true → (lo ≤ s) × (s ≤ hi)
unfolding within
within_bounds lo hi s e = let b = both (leb lo s) (leb s hi) e in (leb-true lo s b.0, leb-true s hi b.1)

pub within_is : (lo hi s : ℕ) → lo ≤ s → s ≤ hi → within lo hi s ≡ true
unfolding within
within_is lo hi s h k = rw (le-leb lo s h, le-leb s hi k)

-- The same as tests on whole lists.
pub all_among : {A : Type 0} (p : A → Bool) (xs : List A) {x : A} → all p xs ≡ true → Among x xs → p x ≡ true
unfolding all
all_among p [] e a = elim a [ ]
all_among p (x ∷ xs) e here = go (p x) refl e
  where
    go : (b : Bool) → p x ≡ b → choose b (all p xs) false ≡ true → p x ≡ true
    go true h k = h
    go false h k = clash k
all_among p (y ∷ xs) {x} e (there a) = go (p y) e (λ k. all_among p xs k a)
  where
    go : (b : Bool) → choose b (all p xs) false ≡ true → (all p xs ≡ true → p x ≡ true) → p x ≡ true
    go true k f = f k
    go false k f = clash k

-- ---- Sets of sorts.

pub has_append : (a b : List (ℕ × ℕ)) (s : ℕ) → has (a ++ b) s ≡ true → (has a s ≡ true) ⊎ (has b s ≡ true)
unfolding has
has_append [] b s e = inr e
has_append (p ∷ ps) b s e = go (within p.0 p.1 s) e (has_append ps b s)
  where
    go : (t : Bool) → choose t true (has (ps ++ b) s) ≡ true → (has (ps ++ b) s ≡ true → (has ps s ≡ true) ⊎ (has b s ≡ true)) →
        (choose t true (has ps s) ≡ true) ⊎ (has b s ≡ true)
    go true k f = inl refl
    go false k f = f k

-- Every range of a lies in one of b.
unfoldable pub subset : List (ℕ × ℕ) → List (ℕ × ℕ) → Bool
subset a b = all (λ p. any (λ q. leb q.0 p.0 && leb p.1 q.1) b) a

-- No range of a meets one of b.
unfoldable pub disjoint : List (ℕ × ℕ) → List (ℕ × ℕ) → Bool
disjoint a b = all (λ p. all (λ q. ltb p.1 q.0 || ltb q.1 p.0) b) a

wider : (lo hi s : ℕ) (b : List (ℕ × ℕ)) → within lo hi s ≡ true → any (λ q. leb q.0 lo && leb hi q.1) b ≡ true → has b s ≡ true
unfolding any has
wider lo hi s [] w e = clash e
wider lo hi s (q ∷ qs) w e = go (leb q.0 lo && leb hi q.1) refl e (wider lo hi s qs w)
  where
    go : (t : Bool) → (leb q.0 lo && leb hi q.1) ≡ t → choose t true (any (λ q. leb q.0 lo && leb hi q.1) qs) ≡ true →
        (any (λ q. leb q.0 lo && leb hi q.1) qs ≡ true → has qs s ≡ true) → choose (within q.0 q.1 s) true (has qs s) ≡ true
    go true h k f =
        let b = both (leb q.0 lo) (leb hi q.1) h in
        let v = within_bounds lo hi s w in
        let l = leb-true q.0 lo b.0 in
        let u = leb-true hi q.1 b.1 in
        let i : within q.0 q.1 s ≡ true = within_is _ _ _ (omega arith) (omega arith) in
        rw i
    go false h k f = last (within q.0 q.1 s) (f k)
      where
        last : (t : Bool) → has qs s ≡ true → choose t true (has qs s) ≡ true
        last true g = refl
        last false g = g

pub subset_has : (a b : List (ℕ × ℕ)) (s : ℕ) → subset a b ≡ true → has a s ≡ true → has b s ≡ true
unfolding subset all has
subset_has [] b s e h = clash h
subset_has (p ∷ ps) b s e h = go (any (λ q. leb q.0 p.0 && leb p.1 q.1) b) refl e (within p.0 p.1 s) refl h (subset_has ps b s)
  where
    inside : ℕ × ℕ → Bool
    inside q = leb q.0 p.0 && leb p.1 q.1

    go : (t : Bool) → any (λ q. leb q.0 p.0 && leb p.1 q.1) b ≡ t → choose t (subset ps b) false ≡ true → (u : Bool) →
        within p.0 p.1 s ≡ u → choose u true (has ps s) ≡ true → (subset ps b ≡ true → has ps s ≡ true → has b s ≡ true) → has b s ≡ true
    go true i k true w h f = wider p.0 p.1 s b w i
    go true i k false w h f = f k h
    go false i k true w h f = clash k
    go false i k false w h f = clash k

apart : (lo hi s : ℕ) (b : List (ℕ × ℕ)) → within lo hi s ≡ true → all (λ q. ltb hi q.0 || ltb q.1 lo) b ≡ true → has b s ≡ true → ⊥
unfolding all has
apart lo hi s [] w e h = clash h
apart lo hi s (q ∷ qs) w e h = go (ltb hi q.0 || ltb q.1 lo) refl e (within q.0 q.1 s) refl h (apart lo hi s qs w)
  where
    go : (t : Bool) → (ltb hi q.0 || ltb q.1 lo) ≡ t → choose t (all (λ q. ltb hi q.0 || ltb q.1 lo) qs) false ≡ true → (u : Bool) →
        within q.0 q.1 s ≡ u → choose u true (has qs s) ≡ true → (all (λ q. ltb hi q.0 || ltb q.1 lo) qs ≡ true → has qs s ≡ true → ⊥) → ⊥
    go true i k true v h f = meet (either (ltb hi q.0) (ltb q.1 lo) i)
      where
        meet : (ltb hi q.0 ≡ true) ⊎ (ltb q.1 lo ≡ true) → ⊥
        meet (inl l) = let x = ltb-true hi q.0 l in let y = within_bounds lo hi s w in let z = within_bounds q.0 q.1 s v in omega arith
        meet (inr l) = let x = ltb-true q.1 lo l in let y = within_bounds lo hi s w in let z = within_bounds q.0 q.1 s v in omega arith
    go true i k false v h f = f k h
    go false i k true v h f = clash k
    go false i k false v h f = clash k

pub disjoint_has : (a b : List (ℕ × ℕ)) (s : ℕ) → disjoint a b ≡ true → has a s ≡ true → has b s ≡ true → ⊥
unfolding disjoint all has
disjoint_has [] b s e h g = clash h
disjoint_has (p ∷ ps) b s e h g = go (all (λ q. ltb p.1 q.0 || ltb q.1 p.0) b) refl e (within p.0 p.1 s) refl h (disjoint_has ps b s)
  where
    go : (t : Bool) → all (λ q. ltb p.1 q.0 || ltb q.1 p.0) b ≡ t → choose t (disjoint ps b) false ≡ true → (u : Bool) →
        within p.0 p.1 s ≡ u → choose u true (has ps s) ≡ true → (disjoint ps b ≡ true → has ps s ≡ true → has b s ≡ true → ⊥) → ⊥
    go true i k true w h f = apart p.0 p.1 s b w i g
    go true i k false w h f = f k h g
    go false i k true w h f = clash k
    go false i k false w h f = clash k
