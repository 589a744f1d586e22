-- Lists with elements left out: what the list functions make of them, and that two elements keep their order in them.
use mathlib.Core.Path.{◌≡◌, refl}
use mathlib.Core.Logic.{◌⊎◌, inl, inr}
use mathlib.Core.List.{List, [], ◌∷◌, ◌++◌, map}
use mathlib.Core.Bool.{Bool, true, false}
use Prim.Native.Nat.{ℕ, ◌≤◌}
use native.Mathlib.Omega.{arith}
use Rattle.definition.specs.Lists.{All, Among, here, there, Within, done, skip, keep, filter, any, flat_map, firsts}
use Rattle.definition.proofs.Lists.{filter_nil, filter_yes, filter_no, firsts_nil, firsts_old, firsts_new}
use Rattle.definition.proofs.All.{all_to}
use Rattle.definition.proofs.Sums.{sum}

module _ {A : Type 0} where
  within_same : (xs : List A) → Within xs xs
  within_same [] = done
  within_same (x ∷ xs) = keep (within_same xs)

  within_none : (xs : List A) → Within [] xs
  within_none [] = done
  within_none (x ∷ xs) = skip (within_none xs)

  pub within_then : {xs ys zs : List A} → Within xs ys → Within ys zs → Within xs zs
  within_then p done = p
  within_then p (skip q) = skip (within_then p q)
  within_then (skip p) (keep q) = skip (within_then p q)
  within_then (keep {xs = xs} p) (keep q) = keep (within_then {xs = xs} p q)

  pub within_append : {us vs xs ys : List A} → Within us vs → Within xs ys → Within (us ++ xs) (vs ++ ys)
  within_append done q = q
  within_append (skip p) q = skip (within_append p q)
  within_append (keep p) q = keep (within_append p q)

  pub within_left : (xs ys : List A) → Within xs (xs ++ ys)
  within_left [] ys = within_none ys
  within_left (x ∷ xs) ys = keep (within_left xs ys)

  pub within_right : (xs ys : List A) → Within ys (xs ++ ys)
  within_right xs ys = within_append (within_none xs) (within_same ys)

  pub within_filter : (p : A → Bool) (xs : List A) → Within (filter p xs) xs
  within_filter p [] = rw filter_nil done
  within_filter p (x ∷ xs) = go (p x) refl (within_filter p xs)
    where
      go : (b : Bool) → p x ≡ b → Within (filter p xs) xs → Within (filter p (x ∷ xs)) (x ∷ xs)
      go true e ih = rw filter_yes (keep ih)
      go false e ih = rw filter_no (skip ih)

  pub within_firsts : (alike : A → A → Bool) (seen xs : List A) → Within (firsts alike seen xs) xs
  within_firsts alike seen [] = rw firsts_nil done
  within_firsts alike seen (x ∷ xs) = go (any (alike x) seen) refl (within_firsts alike seen xs) (within_firsts alike (seen ++ (x ∷ [])) xs)
    where
      go : (b : Bool) → any (alike x) seen ≡ b → Within (firsts alike seen xs) xs → Within (firsts alike (seen ++ (x ∷ [])) xs) xs →
          Within (firsts alike seen (x ∷ xs)) (x ∷ xs)
      go true e ih _ = rw firsts_old (skip ih)
      go false e _ ih = rw firsts_new (keep ih)

  -- whatever elements weigh, fewer weigh no more
  pub within_weighs : (w : A → ℕ) {xs ys : List A} → Within xs ys → sum w xs ≤ sum w ys
  within_weighs w done = omega arith
  within_weighs w (skip p) = omega (arith, within_weighs w p)
  within_weighs w (keep p) = omega (arith, within_weighs w p)

  pub within_all : (P : A → Type 0) {xs ys : List A} → Within xs ys → All P ys → All P xs
  within_all P done a = a
  within_all P (skip p) a = within_all P p a.1
  within_all P (keep p) a = (a.0, within_all P p a.1)

  -- One element: x is in xs where x alone is within xs.
  pub within_split : {x : A} (xs ys : List A) → Within (x ∷ []) (xs ++ ys) → Within (x ∷ []) xs ⊎ Within (x ∷ []) ys
  within_split [] ys p = inr p
  within_split (x ∷ xs) ys (keep p) = inl (keep (within_none xs))
  within_split (x ∷ xs) ys (skip p) = go (within_split xs ys p)
    where
      go : {z : A} → Within (z ∷ []) xs ⊎ Within (z ∷ []) ys → Within (z ∷ []) (x ∷ xs) ⊎ Within (z ∷ []) ys
      go (inl q) = inl (skip q)
      go (inr q) = inr q

  pub members : {xs ys : List A} → Within xs ys → All (λ x. Within (x ∷ []) ys) xs
  members done = tt
  members {xs = xs} (skip {ys = ys} p) = all_to (λ x. Within (x ∷ []) ys) _ (λ x q. skip q) xs (members p)
  members (keep {x = x} {xs = xs} {ys = ys} p) = (keep (within_none ys), all_to (λ z. Within (z ∷ []) ys) _ (λ z q. skip q) xs (members p))

  pub among_within : {x : A} {xs : List A} → Among x xs → Within (x ∷ []) xs
  among_within (here {xs = xs}) = keep (within_none xs)
  among_within (there a) = skip (among_within a)

  -- Two elements in their order: c stands before d in xs where c and d are within xs. So c is not there twice:
  abbrev pub Once : A → List A → Type 0
  Once c xs = Within (c ∷ c ∷ []) xs → ⊥

  first_of_two : {c d : A} {xs : List A} → Within (c ∷ d ∷ []) xs → Within (c ∷ []) xs
  first_of_two p = within_then (keep (skip done)) p

  second_of_two : {c d : A} {xs : List A} → Within (c ∷ d ∷ []) xs → Within (d ∷ []) xs
  second_of_two p = within_then (skip (keep done)) p

  -- Two that stand in this order stand so in the left part, if the second is in it.
  pub in_left : {c d : A} (xs ys : List A) → Within (c ∷ d ∷ []) (xs ++ ys) → Within (d ∷ []) xs → Once d (xs ++ ys) → Within (c ∷ d ∷ []) xs
  in_left [] ys _ p n = elim p [ ]
  in_left (x ∷ xs) ys (skip p) (skip q) n = skip (in_left xs ys p q (λ t. n (skip t)))
  in_left (x ∷ xs) ys (skip p) (keep q) n = absurd (n (keep (second_of_two p)))
  in_left (x ∷ xs) ys (keep p) (skip q) n = keep q
  in_left (x ∷ xs) ys (keep p) (keep q) n = absurd (n (keep p))

  -- And so they do where others are left out, if both are there.
  pub in_fewer : {c d : A} {xs ys : List A} → Within xs ys → Within (c ∷ d ∷ []) ys → Within (c ∷ []) xs → Within (d ∷ []) xs → Once c ys → Once d ys →
      Within (c ∷ d ∷ []) xs
  in_fewer done p c d n m = elim p [ ]
  in_fewer (skip w) (skip p) c d n m = in_fewer w p c d (λ t. n (skip t)) (λ t. m (skip t))
  in_fewer (skip w) (keep p) c d n m = absurd (n (keep (within_then c w)))
  in_fewer (keep w) (skip p) (skip c) (skip d) n m = skip (in_fewer w p c d (λ t. n (skip t)) (λ t. m (skip t)))
  in_fewer (keep w) (skip p) (skip c) (keep d) n m = absurd (m (keep (second_of_two p)))
  in_fewer (keep w) (skip p) (keep c) d n m = absurd (n (keep (first_of_two p)))
  in_fewer (keep w) (keep p) c (skip d) n m = keep d
  in_fewer (keep w) (keep p) c (keep d) n m = absurd (m (keep p))

module _ {A B : Type 0} where
  pub within_map : (f : A → B) {xs ys : List A} → Within xs ys → Within (map f xs) (map f ys)
  within_map f done = done
  within_map f (skip p) = skip (within_map f p)
  within_map f (keep p) = keep (within_map f p)

  pub within_flat_map : (f : A → List B) {xs ys : List A} → Within xs ys → Within (flat_map f xs) (flat_map f ys)
  unfolding flat_map
  within_flat_map f done = done
  within_flat_map f (skip {y = y} p) = within_append (within_none (f y)) (within_flat_map f p)
  within_flat_map f (keep {x = x} p) = within_append (within_same (f x)) (within_flat_map f p)

  pub within_each : (f g : A → List B) → ((x : A) → Within (f x) (g x)) → (xs : List A) → Within (flat_map f xs) (flat_map g xs)
  unfolding flat_map
  within_each f g h [] = done
  within_each f g h (x ∷ xs) = within_append (h x) (within_each f g h xs)

  pub each_within : (f : A → List B) (xs : List A) → All (λ x. Within (f x) (flat_map f xs)) xs
  unfolding flat_map
  each_within f [] = tt
  each_within f (x ∷ xs) = (
    within_left (f x) (flat_map f xs),
    all_to (λ z. Within (f z) (flat_map f xs)) (λ z. Within (f z) (f x ++ flat_map f xs)) (λ z p. within_then p (within_right (f x) (flat_map f xs)))
        xs (each_within f xs),
  )
