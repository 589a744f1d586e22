-- Sums over lists, for the bounds: what the list functions make of a sum of weights.
use mathlib.Core.Path.{◌≡◌, refl, sym, ◌∙◌, ap}
use mathlib.Core.List.{List, [], ◌∷◌, ◌++◌, map}
use mathlib.Core.Bool.{Bool, true, false}
use mathlib.Core.Option.{Option, none, some}
use Prim.Native.Nat.{ℕ, ◌+◌, ◌≤◌}
use native.Mathlib.Omega.{arith}
use lib.ListN.{length}
use Rattle.definition.specs.Lists.{All, filter, any, find, flat_map, firsts, repeats}
use Rattle.definition.proofs.Lists.{flat_map_nil, flat_map_cons, filter_nil, filter_yes, filter_no, first_nil, first_yes, first_no, firsts_nil, firsts_old}
use Rattle.definition.proofs.Lists.{firsts_new, repeats_nil, repeats_new, repeats_old, any_first_none, any_first_some}

abbrev pub sum {ℓ} : {A : Type ℓ} → (A → ℕ) → List A → ℕ
sum f [] = 0
sum f (x ∷ xs) = f x + sum f xs

-- a weight that counts where a test passes
abbrev pub gate : Bool → ℕ → ℕ
gate true v = v
gate false v = 0

pub gate_le : (b : Bool) (v : ℕ) → gate b v ≤ v
gate_le true v = omega arith
gate_le false v = omega arith

module _ {ℓ} {A : Type ℓ} where
  pub sum_append : (f : A → ℕ) (xs ys : List A) → sum f (xs ++ ys) ≡ sum f xs + sum f ys
  sum_append f [] ys = omega arith
  sum_append f (x ∷ xs) ys = let ih = sum_append f xs ys in omega arith

  pub sum_to : (f g : A → ℕ) → ((x : A) → f x ≤ g x) → (xs : List A) → sum f xs ≤ sum g xs
  sum_to f g h [] = omega arith
  sum_to f g h (x ∷ xs) = let a = h x in let ih = sum_to f g h xs in omega arith

  pub sum_plus : (f g : A → ℕ) (xs : List A) → sum (λ x. f x + g x) xs ≡ sum f xs + sum g xs
  sum_plus f g [] = omega arith
  sum_plus f g (x ∷ xs) = let ih = sum_plus f g xs in omega arith

  pub sum_none : (f : A → ℕ) (xs : List A) → All (λ x. f x ≡ 0) xs → sum f xs ≡ 0
  sum_none f [] a = refl
  sum_none f (x ∷ xs) a = let h = a.0 in let ih = sum_none f xs a.1 in omega arith

  pub sum_one : (xs : List A) → sum (λ x. 1) xs ≡ length xs
  sum_one [] = refl
  sum_one (x ∷ xs) = let ih = sum_one xs in omega arith

  pub sum_gate : (f : A → ℕ) (p : A → Bool) (x : A) (xs : List A) → sum f (filter p (x ∷ xs)) ≡ gate (p x) (f x) + sum f (filter p xs)
  sum_gate f p x xs = go (p x) refl
    where
      go : (b : Bool) → p x ≡ b → sum f (filter p (x ∷ xs)) ≡ gate (p x) (f x) + sum f (filter p xs)
      go true e = simp (filter_yes, e)
      go false e = simp (filter_no, e) (omega arith)

  pub sum_filter : (f : A → ℕ) (p : A → Bool) (xs : List A) → sum f (filter p xs) ≤ sum f xs
  sum_filter f p [] = simp filter_nil (omega arith)
  sum_filter f p (x ∷ xs) = omega (arith, sum_gate f p x xs, gate_le (p x) (f x), sum_filter f p xs)

  pub sum_first : (f : A → ℕ) (p : A → Bool) (xs : List A) (y : A) → find p xs ≡ some y → f y ≤ sum f (filter p xs)
  sum_first f p [] y h = let z : none ≡ some y = sym (first_nil p) ∙ h in cc
  sum_first f p (x ∷ xs) y h = go (p x) refl (sum_first f p xs y)
    where
      go : (b : Bool) → p x ≡ b → (find p xs ≡ some y → f y ≤ sum f (filter p xs)) → f y ≤ sum f (filter p (x ∷ xs))
      go true e ih = let q : x ≡ y = cc (first_yes p x xs e) in let r : f x ≡ f y = ap f q in simp filter_yes (omega arith)
      go false e ih = let i = ih (sym (first_no p x xs e) ∙ h) in simp filter_no (omega arith)

  -- tests that pass together at most where a third does
  pub sum_two : (f : A → ℕ) (p q r : A → Bool) → ((x : A) (v : ℕ) → gate (p x) v + gate (q x) v ≤ gate (r x) v) → (xs : List A) →
      sum f (filter p xs) + sum f (filter q xs) ≤ sum f (filter r xs)
  sum_two f p q r h [] = simp filter_nil (omega arith)
  sum_two f p q r h (x ∷ xs) =
      omega (arith, sum_gate f p x xs, sum_gate f q x xs, sum_gate f r x xs, h x (f x), sum_two f p q r h xs)

  pub sum_implies : (f : A → ℕ) (p q : A → Bool) → ((x : A) (v : ℕ) → gate (p x) v ≤ gate (q x) v) → (xs : List A) → sum f (filter p xs) ≤ sum f (filter q xs)
  sum_implies f p q h [] = simp filter_nil (omega arith)
  sum_implies f p q h (x ∷ xs) = omega (arith, sum_gate f p x xs, sum_gate f q x xs, h x (f x), sum_implies f p q h xs)

  -- Each element is kept or comes again, and never both: whatever elements weigh, those kept and those that come again weigh as much as all.
  pub sum_kept : (alike : A → A → Bool) (f : A → ℕ) (seen xs : List A) → sum f (firsts alike seen xs) + sum (λ r. f r.0) (repeats alike seen xs) ≡ sum f xs
  sum_kept alike f seen [] = simp (firsts_nil, repeats_nil)
  sum_kept alike f seen (x ∷ xs) = go (find (alike x) seen) refl (sum_kept alike f seen xs) (sum_kept alike f (seen ++ (x ∷ [])) xs)
    where
      go : (o : Option A) → find (alike x) seen ≡ o →
          sum f (firsts alike seen xs) + sum (λ r. f r.0) (repeats alike seen xs) ≡ sum f xs →
          sum f (firsts alike (seen ++ (x ∷ [])) xs) + sum (λ r. f r.0) (repeats alike (seen ++ (x ∷ [])) xs) ≡ sum f xs →
          sum f (firsts alike seen (x ∷ xs)) + sum (λ r. f r.0) (repeats alike seen (x ∷ xs)) ≡ f x + sum f xs
      go none e _ ih =
          let n : any (alike x) seen ≡ false = any_first_none (alike x) seen e in
          simp (repeats_new, firsts_new) (omega arith)
      go (some y) e ih _ =
          let n : any (alike x) seen ≡ true = any_first_some (alike x) seen y e in
          simp (repeats_old alike seen x xs y e, firsts_old) (omega arith)

  pub length_kept : (alike : A → A → Bool) (seen xs : List A) → length (firsts alike seen xs) + length (repeats alike seen xs) ≡ length xs
  length_kept alike seen xs =
      omega (arith, sum_kept alike (λ x. 1) seen xs, sum_one (firsts alike seen xs), sum_one xs, sum_pairs (repeats alike seen xs))
    where
      sum_pairs : (rs : List (A × A)) → sum (λ r. 1) rs ≡ length rs
      sum_pairs [] = refl
      sum_pairs (r ∷ rs) = let ih = sum_pairs rs in omega arith

module _ {ℓ κ} {A : Type ℓ} {B : Type κ} where
  pub sum_map : (f : B → ℕ) (g : A → B) (xs : List A) → sum f (map g xs) ≡ sum (λ x. f (g x)) xs
  sum_map f g [] = refl
  sum_map f g (x ∷ xs) = let ih = sum_map f g xs in omega arith

  pub sum_flat_map : (f : B → ℕ) (g : A → List B) (xs : List A) → sum f (flat_map g xs) ≡ sum (λ x. sum f (g x)) xs
  sum_flat_map f g [] = simp flat_map_nil
  sum_flat_map f g (x ∷ xs) = simp (flat_map_cons, sum_append) (let ih = sum_flat_map f g xs in omega arith)

  -- Groups of a list by tests, of which at most one passes for each element, and none where q does not.
  pub sum_groups : (f : A → ℕ) (p : B → A → Bool) (q : A → Bool) (ks : List B) →
      ((x : A) (v : ℕ) → sum (λ k. gate (p k x) v) ks ≤ gate (q x) v) → (xs : List A) →
      sum (λ k. sum f (filter (p k) xs)) ks ≤ sum f (filter q xs)
  sum_groups f p q ks h [] = nothing ks
    where
      nothing : (js : List B) → sum (λ k. sum f (filter (p k) [])) js ≤ sum f (filter q [])
      nothing [] = omega arith
      nothing (j ∷ js) = let ih = nothing js in let e : sum f (filter (p j) []) ≡ 0 = simp filter_nil in omega arith
  sum_groups f p q ks h (x ∷ xs) = omega (arith, each ks, sum_gate f q x xs, h x (f x), sum_groups f p q ks h xs)
    where
      each : (js : List B) → sum (λ k. sum f (filter (p k) (x ∷ xs))) js ≡ sum (λ k. gate (p k x) (f x)) js + sum (λ k. sum f (filter (p k) xs)) js
      each [] = omega arith
      each (j ∷ js) = omega (arith, sum_gate f (p j) x xs, each js)

pub count {ℓ} : {A : Type ℓ} (p : A → Bool) (xs : List A) → sum (λ x. gate (p x) 1) xs ≡ length (filter p xs)
count p [] = simp filter_nil
count p (x ∷ xs) = go (p x) refl (count p xs)
  where
    go : (b : Bool) → p x ≡ b → sum (λ x. gate (p x) 1) xs ≡ length (filter p xs) → gate (p x) 1 + sum (λ x. gate (p x) 1) xs ≡ length (filter p (x ∷ xs))
    go true e ih = simp (e, filter_yes) (omega arith)
    go false e ih = simp (e, filter_no) (omega arith)
