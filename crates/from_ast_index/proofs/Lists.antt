-- Lists, searches in them and the first ones of them: what the other files lean on beyond the laws of `definition`.
use mathlib.Core.Path.{◌≡◌, refl, sym, ◌∙◌, ap}
use mathlib.Core.List.{List, [], ◌∷◌, ◌++◌, map, append-nil}
use mathlib.Core.Bool.{Bool, true, false, ◌&&◌}
use mathlib.Core.Option.{Option, none, some}
use Prim.Native.Nat.{ℕ, zero, suc, ◌+◌, ◌≤◌, ◌<◌}
use native.Mathlib.Omega.{arith}
use lib.ListN.{length, take, drop, get_or, get_elem?, drop_of_length-le}
use lib.Seq.{take-take, take_at, drop-cons}
use Rattle.definition.specs.Lists.{choose, found, filter, any, find, firsts, All, or_else}
use Rattle.definition.proofs.Lists.{map_append, any_first_some, any_first_none, firsts_nil, firsts_old, firsts_new, firsts_append}

pub never {ℓ} : {A : Type ℓ} → true ≡ false → A
never e = absurd (let z : ◌≡◌ {A = ℕ} 0 1 = cc in omega arith)

pub chosen_both : (a b : Bool) → choose a b false ≡ (a && b)
chosen_both true b = refl
chosen_both false b = refl

module _ {ℓ} {A : Type ℓ} where
  pub none_some : (x : A) → ◌≡◌ {A = Option A} none (some x) → ⊥
  none_some x e = let z : ◌≡◌ {A = ℕ} 0 1 = cc in omega arith

  -- ---- What a test keeps.

  pub filter_most : (p : A → Bool) (xs : List A) → length (filter p xs) ≤ length xs
  unfolding filter
  filter_most p [] = omega arith
  filter_most p (x ∷ xs) = go (p x) refl (filter_most p xs)
    where
      go : (b : Bool) → p x ≡ b → length (filter p xs) ≤ length xs → length (filter p (x ∷ xs)) ≤ suc (length xs)
      go true e h = simp e (omega arith)
      go false e h = simp e (omega arith)

  -- ---- The first that passes a test.

  pub first_append : (p : A → Bool) (xs ys : List A) → find p (xs ++ ys) ≡ or_else (find p xs) (find p ys)
  unfolding find
  first_append p [] ys = refl
  first_append p (x ∷ xs) ys = go (p x) refl (first_append p xs ys)
    where
      go : (b : Bool) → p x ≡ b → find p (xs ++ ys) ≡ or_else (find p xs) (find p ys) →
          find p (x ∷ (xs ++ ys)) ≡ or_else (find p (x ∷ xs)) (find p ys)
      go true e h = simp e
      go false e h = simp (e, h)

  -- A test that asks more finds the same where what the other keeps is searched.
  pub first_filter : (p q r : A → Bool) (xs : List A) → All (λ x. choose (q x) (p x) false ≡ r x) xs → find p (filter q xs) ≡ find r xs
  unfolding filter find
  first_filter p q r [] a = refl
  first_filter p q r (x ∷ xs) a = go (q x) refl (first_filter p q r xs a.1)
    where
      go : (b : Bool) → q x ≡ b → find p (filter q xs) ≡ find r xs → find p (filter q (x ∷ xs)) ≡ find r (x ∷ xs)
      go true e h = let k : p x ≡ r x = (rw e at a.0) in simp (e, k, h)
      go false e h = let k : false ≡ r x = (rw e at a.0) in simp (e, sym k, h)

-- ---- Pictures of lists.

module _ {ℓ κ} {A : Type ℓ} {B : Type κ} (f : A → B) where
  pub filter_map : (p : A → Bool) (q : B → Bool) (xs : List A) → All (λ x. q (f x) ≡ p x) xs → filter q (map f xs) ≡ map f (filter p xs)
  unfolding filter
  filter_map p q [] a = refl
  filter_map p q (x ∷ xs) a = go (p x) refl (filter_map p q xs a.1)
    where
      go : (b : Bool) → p x ≡ b → filter q (map f xs) ≡ map f (filter p xs) → filter q (f x ∷ map f xs) ≡ map f (filter p (x ∷ xs))
      go true e h = simp (a.0, e, h)
      go false e h = simp (a.0, e, h)

  abbrev pub pictured : Option A → Option B
  pictured o = found o (λ x. some (f x)) none

  pub first_map : (p : A → Bool) (q : B → Bool) (xs : List A) → All (λ x. q (f x) ≡ p x) xs → find q (map f xs) ≡ pictured (find p xs)
  unfolding find
  first_map p q [] a = refl
  first_map p q (x ∷ xs) a = go (p x) refl (first_map p q xs a.1)
    where
      go : (b : Bool) → p x ≡ b → find q (map f xs) ≡ pictured (find p xs) →
          find q (f x ∷ map f xs) ≡ pictured (find p (x ∷ xs))
      go true e h = simp (a.0, e)
      go false e h = simp (a.0, e, h)

  pub any_map : (p : A → Bool) (q : B → Bool) (xs : List A) → All (λ x. q (f x) ≡ p x) xs → any q (map f xs) ≡ any p xs
  unfolding any
  any_map p q [] a = refl
  any_map p q (x ∷ xs) a = simp (a.0, any_map p q xs a.1)

-- ---- The first ones.

module _ {ℓ} {A : Type ℓ} (alike : A → A → Bool) where
  -- One more at the end: it is a first one where none of the first ones so far is like it.
  pub firsts_again : (xs : List A) (x y : A) → find (alike x) (firsts alike [] xs) ≡ some y → firsts alike [] (xs ++ (x ∷ [])) ≡ firsts alike [] xs
  firsts_again xs x y e =
      let seen = firsts alike [] xs in
      firsts_append alike [] xs (x ∷ [])
      ∙ ap (λ (l : List A). seen ++ l) (firsts_old alike seen x [] (any_first_some (alike x) seen y e) ∙ firsts_nil alike seen)
      ∙ append-nil seen

  pub firsts_more : (xs : List A) (x : A) → find (alike x) (firsts alike [] xs) ≡ none → firsts alike [] (xs ++ (x ∷ [])) ≡ firsts alike [] xs ++ (x ∷ [])
  firsts_more xs x e =
      let seen = firsts alike [] xs in
      firsts_append alike [] xs (x ∷ [])
      ∙ ap (λ (l : List A). seen ++ l)
      (firsts_new alike seen x [] (any_first_none (alike x) seen e) ∙ ap (λ (l : List A). x ∷ l) (firsts_nil alike (seen ++ (x ∷ []))))

-- First ones of a picture.
module _ {ℓ κ} {A : Type ℓ} {B : Type κ} (f : A → B) (alike : A → A → Bool) (like : B → B → Bool) (P : A → Type 0)
    (same : (x y : A) → P x → P y → like (f x) (f y) ≡ alike x y) where
  all_same : (x : A) → P x → (ys : List A) → All P ys → All (λ y. like (f x) (f y) ≡ alike x y) ys
  all_same x h [] a = tt
  all_same x h (y ∷ ys) a = (same x y h a.0, all_same x h ys a.1)

  all_end : (xs : List A) (x : A) → All P xs → P x → All P (xs ++ (x ∷ []))
  all_end [] x a h = (h, tt)
  all_end (y ∷ ys) x a h = (a.0, all_end ys x a.1 h)

  pub firsts_map : (seen xs : List A) → All P seen → All P xs → firsts like (map f seen) (map f xs) ≡ map f (firsts alike seen xs)
  unfolding firsts
  firsts_map seen [] a b = refl
  firsts_map seen (x ∷ xs) a b =
      go (any (alike x) seen) refl (firsts_map seen xs a b.1) (firsts_map (seen ++ (x ∷ [])) xs (all_end seen x a b.0) b.1)
    where
      go : (c : Bool) → any (alike x) seen ≡ c → firsts like (map f seen) (map f xs) ≡ map f (firsts alike seen xs) →
          firsts like (map f (seen ++ (x ∷ []))) (map f xs) ≡ map f (firsts alike (seen ++ (x ∷ [])) xs) →
          firsts like (map f seen) (f x ∷ map f xs) ≡ map f (firsts alike seen (x ∷ xs))
      go true e h k = simp (any_map f (alike x) (like (f x)) seen (all_same x b.0 seen a), e) h
      go false e h k =
          simp (any_map f (alike x) (like (f x)) seen (all_same x b.0 seen a), e)
          (ap (λ (l : List B). f x ∷ l) (rw (map_append f seen (x ∷ [])) at k))

-- ---- What holds of each element.

module _ {ℓ} {A : Type ℓ} where
  pub get_all : (P : A → Type 0) (xs : List A) → ((i : ℕ) (x : A) → get_elem? xs i ≡ some x → P x) → All P xs
  get_all P [] f = tt
  get_all P (x ∷ xs) f = (f 0 x refl, get_all P xs (λ i y e. f (suc i) y e))

  pub all_kept : (P : A → Type 0) (p : A → Bool) (xs : List A) → All (λ x. p x ≡ true → P x) xs → All P (filter p xs)
  unfolding filter
  all_kept P p [] a = tt
  all_kept P p (x ∷ xs) a = go (p x) refl (all_kept P p xs a.1)
    where
      go : (b : Bool) → p x ≡ b → All P (filter p xs) → All P (filter p (x ∷ xs))
      go true e h = simp e (a.0 e, h)
      go false e h = simp e h

  pub filter_both : (p q r : A → Bool) (xs : List A) → All (λ x. choose (p x) (q x) false ≡ r x) xs → filter q (filter p xs) ≡ filter r xs
  unfolding filter
  filter_both p q r [] a = refl
  filter_both p q r (x ∷ xs) a = go (p x) (q x) refl refl (filter_both p q r xs a.1)
    where
      go : (b c : Bool) → p x ≡ b → q x ≡ c → filter q (filter p xs) ≡ filter r xs → filter q (filter p (x ∷ xs)) ≡ filter r (x ∷ xs)
      go true true e f h = let k : r x ≡ true = sym (rw (e, f) at a.0) in simp (e, f, k, h)
      go true false e f h = let k : r x ≡ false = sym (rw (e, f) at a.0) in simp (e, f, k, h)
      go false c e f h = let k : r x ≡ false = sym (rw e at a.0) in simp (e, k, h)

-- ---- Elements by position.

-- The element at a place, and the rest.
pub drop_next : (xs : List ℕ) (i : ℕ) → i < length xs → drop i xs ≡ get_or xs i 0 ∷ drop (i + 1) xs
drop_next xs i h = let e : suc i ≡ i + 1 = omega arith in drop-cons xs i 0 h ∙ ap (λ (j : ℕ). get_or xs i 0 ∷ drop j xs) e

pub drop_end : (xs : List ℕ) (i : ℕ) → length xs ≤ i → drop i xs ≡ []
drop_end xs i h = drop_of_length-le xs h

-- What holds at each place holds of each element, and the other way round.
pub all_places : (P : ℕ → Type 0) (xs : List ℕ) → ((i : ℕ) → i < length xs → P (get_or xs i 0)) → All P xs
all_places P [] h = tt
all_places P (x ∷ xs) h = (h 0 (omega arith), all_places P xs (λ i l. h (suc i) (omega arith)))

pub all_at : (P : ℕ → Type 0) (xs : List ℕ) → All P xs → (i : ℕ) → i < length xs → P (get_or xs i 0)
all_at P [] a i h = absurd (omega arith)
all_at P (x ∷ xs) a zero h = a.0
all_at P (x ∷ xs) a (suc i) h = all_at P xs a.1 i (omega arith)

-- Of a picture.
module _ {ℓ} {A : Type ℓ} (f : A → ℕ) where
  pub get_d_picture : (xs : List A) (i : ℕ) (x : A) → get_elem? xs i ≡ some x → get_or (map f xs) i 0 ≡ f x
  get_d_picture [] i x e = absurd (none_some x e)
  get_d_picture (y ∷ xs) zero x e = let s : y ≡ x = cc in ap f s
  get_d_picture (y ∷ xs) (suc i) x e = get_d_picture xs i x e

  pub all_picture : (P : ℕ → Type 0) (xs : List A) → All (λ x. P (f x)) xs → All P (map f xs)
  all_picture P [] a = tt
  all_picture P (x ∷ xs) a = (a.0, all_picture P xs a.1)

module _ {ℓ} {A : Type ℓ} where
  pub get_some : (xs : List A) (i : ℕ) → i < length xs → (x : A) × (get_elem? xs i ≡ some x)
  get_some [] i h = absurd (omega arith)
  get_some (x ∷ xs) zero h = (x, refl)
  get_some (x ∷ xs) (suc i) h = get_some xs i (omega arith)

-- A list that begins with ys and one element more begins with ys.
pub taken_front : (m : ℕ) (xs ys : List ℕ) (y : ℕ) → take (m + 1) xs ≡ ys ++ (y ∷ []) → length ys ≡ m → take m xs ≡ ys
taken_front m xs ys y e l = sym (take-take m (m + 1) xs (omega arith)) ∙ ap (take m) e ∙ take_at ys (y ∷ []) m l

pub taken_most {ℓ} : {A : Type ℓ} (i : ℕ) (l : List A) → length (take i l) ≤ i
taken_most zero l = omega arith
taken_most (suc i) [] = omega arith
taken_most (suc i) (y ∷ l) = let h = taken_most i l in omega arith
