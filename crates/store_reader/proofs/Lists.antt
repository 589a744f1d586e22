-- Lists and tests: what the other files lean on.
use mathlib.Core.Path.{◌≡◌, refl, sym, ◌∙◌, ap}
use mathlib.Core.List.{List, [], ◌∷◌, map}
use mathlib.Core.Bool.{Bool, true, false, ◌&&◌}
use mathlib.Core.Option.{none, some}
use Prim.Native.Nat.{ℕ, zero, suc, ◌+◌, ◌-◌, ◌*◌, ◌≤◌, ◌<◌}
use native.Mathlib.Nat.{zero-sub, sub-zero, suc-sub-suc, mul-zero, mul-suc, add_comm}
use native.Mathlib.Omega.{arith}
use lib.ListN.{length, take, drop, get_elem?}
use lib.Seq.{drop-drop, take-take, take-nil}
use Rattle.definition.specs.Lists.{choose, chunks, All}
use Rattle.definition.specs.Names.{bytes_at}
-- Laws of the definitions that callers use with these.
pub use Rattle.definition.proofs.Tests.{and_true, or_false}
pub use Rattle.definition.proofs.All.{all_append, all_to}

-- ---- Tests.

pub and_left_false : (a b : Bool) → a ≡ true → (a && b) ≡ false → b ≡ false
and_left_false a b t e = rw t at e

pub chosen_true : (b c : Bool) → choose b c false ≡ true → (b ≡ true) × (c ≡ true)
chosen_true true c e = (refl, e)
chosen_true false c e = (e, cc)

-- ---- A list at a position.

module _ {ℓ} {A : Type ℓ} where
  pub drop_get : (xs : List A) (i : ℕ) (x : A) → get_elem? xs i ≡ some x → drop i xs ≡ x ∷ drop (i + 1) xs
  drop_get [] i x e = absurd (let z : ◌≡◌ {A = ℕ} 0 1 = cc in omega arith)
  drop_get (y ∷ xs) zero x e = let same : y ≡ x = cc in ap (λ (y : A). y ∷ xs) same
  drop_get (y ∷ xs) (suc i) x e =
      drop_get xs i x e ∙ (let q : suc (i + 1) ≡ suc i + 1 = omega arith in ap (λ (m : ℕ). x ∷ drop m (y ∷ xs)) q)

  pub drop_is : (xs : List A) (i : ℕ) (x : A) (ys : List A) → drop i xs ≡ x ∷ ys → get_elem? xs i ≡ some x
  drop_is [] zero x ys e = absurd (let z : ◌≡◌ {A = ℕ} 0 1 = cc in omega arith)
  drop_is [] (suc i) x ys e = absurd (let z : ◌≡◌ {A = ℕ} 0 1 = cc in omega arith)
  drop_is (y ∷ xs) zero x ys e = let same : y ≡ x = cc in ap some same
  drop_is (y ∷ xs) (suc i) x ys e = drop_is xs i x ys e

  pub drop_rest : (xs : List A) (i : ℕ) (x : A) (ys : List A) → drop i xs ≡ x ∷ ys → drop (i + 1) xs ≡ ys
  drop_rest xs i x ys e = let q : x ∷ drop (i + 1) xs ≡ x ∷ ys = sym (drop_get xs i x (drop_is xs i x ys e)) ∙ e in cc

  pub get_inside : (xs : List A) (i : ℕ) (x : A) → get_elem? xs i ≡ some x → i < length xs
  get_inside [] i x e = absurd (let z : ◌≡◌ {A = ℕ} 0 1 = cc in omega arith)
  get_inside (y ∷ xs) zero x e = omega arith
  get_inside (y ∷ xs) (suc i) x e = let h = get_inside xs i x e in omega arith

  pub get_past : (xs : List A) (i : ℕ) → length xs ≤ i → get_elem? xs i ≡ none
  get_past [] i h = refl
  get_past (y ∷ xs) zero h = absurd (omega arith)
  get_past (y ∷ xs) (suc i) h = get_past xs i (omega arith)

  pub get_take : (xs : List A) (k i : ℕ) → i < k → get_elem? (take k xs) i ≡ get_elem? xs i
  get_take xs zero i h = absurd (omega arith)
  get_take [] (suc k) i h = refl
  get_take (x ∷ xs) (suc k) zero h = refl
  get_take (x ∷ xs) (suc k) (suc i) h = get_take xs k i (omega arith)

  pub get_drop : (xs : List A) (k i : ℕ) → get_elem? (drop k xs) i ≡ get_elem? xs (k + i)
  get_drop xs zero i = let e : 0 + i ≡ i = omega arith in ap (get_elem? xs) (sym e)
  get_drop [] (suc k) i = refl
  get_drop (x ∷ xs) (suc k) i = get_drop xs k i ∙ (let e : suc k + i ≡ suc (k + i) = omega arith in ap (get_elem? (x ∷ xs)) (sym e))

  pub drop_take : (k n : ℕ) (xs : List A) → drop k (take n xs) ≡ take (n - k) (drop k xs)
  drop_take zero n xs = ap (λ (m : ℕ). take m xs) (sym (sub-zero n))
  drop_take (suc k) zero xs = ap (λ (m : ℕ). take m (drop (suc k) xs)) (sym (zero-sub (suc k)))
  drop_take (suc k) (suc n) [] = sym (take-nil (suc n - suc k))
  drop_take (suc k) (suc n) (x ∷ xs) = drop_take k n xs ∙ ap (λ (m : ℕ). take m (drop k xs)) (sym (suc-sub-suc n k))

  -- ---- What holds of each element.

  module _ (P : A → Type 0) where
    pub all_get : (xs : List A) → All P xs → (i : ℕ) (x : A) → get_elem? xs i ≡ some x → P x
    all_get [] a i x e = absurd (let z : ◌≡◌ {A = ℕ} 0 1 = cc in omega arith)
    all_get (y ∷ xs) a zero x e = let same : y ≡ x = cc in rw (← same) a.0
    all_get (y ∷ xs) a (suc i) x e = all_get xs a.1 i x e

module _ {ℓ κ} {A : Type ℓ} {B : Type κ} (f : A → B) where
  pub get_map : (xs : List A) (i : ℕ) (x : A) → get_elem? xs i ≡ some x → get_elem? (map f xs) i ≡ some (f x)
  get_map [] i x e = absurd (let z : ◌≡◌ {A = ℕ} 0 1 = cc in omega arith)
  get_map (y ∷ xs) zero x e = let same : y ≡ x = cc in ap (λ (y : A). some (f y)) same
  get_map (y ∷ xs) (suc i) x e = get_map xs i x e

-- ---- Chunks.

module _ {ℓ κ} {A : Type ℓ} {B : Type κ} (k : ℕ) (f : List A → B) where
  pub length_chunks : (n : ℕ) (xs : List A) → length (chunks k f n xs) ≡ n
  unfolding chunks
  length_chunks zero xs = refl
  length_chunks (suc n) xs = ap suc (length_chunks n (drop k xs))

  pub chunk_at : (n : ℕ) (xs : List A) (i : ℕ) → i < n → get_elem? (chunks k f n xs) i ≡ some (f (drop (k * i) xs))
  unfolding chunks
  chunk_at zero xs i h = absurd (omega arith)
  chunk_at (suc n) xs zero h = let e : k * 0 ≡ 0 = mul-zero k in ap (λ (m : ℕ). some (f (drop m xs))) (sym e)
  chunk_at (suc n) xs (suc i) h =
      chunk_at n (drop k xs) i (omega arith)
      ∙ ap (λ (l : List A). some (f l)) (drop-drop (k * i) k xs)
      ∙ ap (λ (m : ℕ). some (f (drop m xs))) (add_comm k (k * i) ∙ sym (mul-suc k i))

-- ---- Spans.

-- A span of a part of a text is a span of the text.
pub bytes_within : (text : List ℕ) (base size at m : ℕ) → base ≤ at → at + m ≤ base + size →
    bytes_at (bytes_at text base size) (at - base) m ≡ bytes_at text at m
unfolding bytes_at
bytes_within text base size at m h k =
    ap (take m) (drop_take (at - base) size (drop base text))
    ∙ take-take m (size - (at - base)) (drop (at - base) (drop base text)) (omega arith)
    ∙ ap (take m) (drop-drop (at - base) base text)
    ∙ (let e : base + (at - base) ≡ at = omega arith in ap (λ (j : ℕ). take m (drop j text)) e)

pub bytes_none : (text : List ℕ) (at : ℕ) → bytes_at text at 0 ≡ []
unfolding bytes_at
bytes_none text at = refl
