-- The list functions that all definitions are made of.
-- A test goes through `choose`, an Option through `found`, so that a law can rewrite it. An argument is computed before a call, and what a
-- `let` binds only when it is read: so a branch that goes on, or that costs much, is bound by a `let`.
use Rattle.std.specs.Prelude.{◌≡◌, List, [], ◌∷◌, ◌++◌, Bool, true, false, ℕ, zero, suc, length, drop}
use Rattle.std.proofs.Math.Option.{Option, none, some}
use Rattle.std.proofs.Math.Seq.{paste}

-- The first where the test holds, else the second.
abbrev pub choose {ℓ} : {A : Type ℓ} → Bool → A → A → A
choose true a b = a
choose false a b = b

-- What f makes of a thing that is there, else b.
abbrev pub found {ℓ κ} : {A : Type ℓ} {B : Type κ} → Option A → (A → B) → B → B
found (some a) f b = f a
found none f b = b

module _ {ℓ} {A : Type ℓ} where
  -- The elements that pass the test, in order.
  unfoldable pub filter : (A → Bool) → List A → List A
  filter p [] = []
  filter p (x ∷ xs) = let r = filter p xs in choose (p x) (x ∷ r) r

  -- The first element that passes the test.
  unfoldable pub find : (A → Bool) → List A → Option A
  find p [] = none
  find p (x ∷ xs) = let r = find p xs in choose (p x) (some x) r

  -- Whether some element passes the test, and whether all do.
  unfoldable pub any : (A → Bool) → List A → Bool
  any p [] = false
  any p (x ∷ xs) = let r = any p xs in choose (p x) true r

  unfoldable pub all : (A → Bool) → List A → Bool
  all p [] = true
  all p (x ∷ xs) = let r = all p xs in choose (p x) r false

  abbrev pub is_empty : List A → Bool
  is_empty [] = true
  is_empty (x ∷ xs) = false

  abbrev pub first : List A → Option A
  first [] = none
  first (x ∷ xs) = some x

  -- The elements before the first that passes the test.
  unfoldable pub take_until : (A → Bool) → List A → List A
  take_until p [] = []
  take_until p (x ∷ xs) = let r : List A = x ∷ take_until p xs in choose (p x) [] r

  -- ys begins with xs.
  abbrev pub Prefix : List A → List A → Type ℓ
  Prefix xs ys = (zs : List A) × (ys ≡ xs ++ zs)

  -- The list with ys in place of as many of its elements from position i on; all others stay.
  unfoldable pub written : List A → ℕ → List A → List A
  written xs i ys = paste xs i ys (length ys)

  -- The first of two things that is there.
  abbrev pub or_else : Option A → Option A → Option A
  or_else (some a) o = some a
  or_else none o = o

-- x is an element of the list.
pub data Among {A : Type 0} (x : A) : List A → Type 0 where
  here : {xs : List A} → Among x (x ∷ xs)
  there : {y : A} {xs : List A} → Among x xs → Among x (y ∷ xs)

-- xs is ys with some elements left out, the others in their order.
pub data Within {A : Type 0} : List A → List A → Type 0 where
  done : Within [] []
  skip : {y : A} {xs ys : List A} → Within xs ys → Within xs (y ∷ ys)
  keep : {x : A} {xs ys : List A} → Within xs ys → Within (x ∷ xs) (x ∷ ys)

-- P holds of every element.
abbrev pub All {ℓ} : {A : Type ℓ} → (A → Type 0) → List A → Type 0
All P [] = Unit {0}
All P (x ∷ xs) = P x × All P xs

module _ {ℓ κ} {A : Type ℓ} {B : Type κ} where
  -- What f makes of each element, joined.
  unfoldable pub flat_map : (A → List B) → List A → List B
  flat_map f [] = []
  flat_map f (x ∷ xs) = f x ++ flat_map f xs

  -- n things, the first made of the whole list, each next one of the list with k elements fewer.
  unfoldable pub chunks : ℕ → (List A → B) → ℕ → List A → List B
  chunks k f zero xs = []
  chunks k f (suc n) xs = f xs ∷ chunks k f n (drop k xs)

-- "The first stays": said once here, for fields, interfaces, members, values, roots, types, directives, orphans and extension ids alike.
module _ {ℓ} {A : Type ℓ} (alike : A → A → Bool) where
  -- The elements that are like none before them, where the elements of `seen` stand before the list.
  unfoldable pub firsts : List A → List A → List A
  firsts seen [] = []
  firsts seen (x ∷ xs) =
      let skipped = firsts seen xs in
      let kept : List A = x ∷ firsts (seen ++ (x ∷ [])) xs in
      choose (any (alike x) seen) skipped kept

  -- The others, each with the first that it is like.
  unfoldable pub repeats : List A → List A → List (A × A)
  repeats seen [] = []
  repeats seen (x ∷ xs) =
      let skipped = repeats (seen ++ (x ∷ [])) xs in
      found (find (alike x) seen) (λ y. (x, y) ∷ repeats seen xs) skipped
