-- What holds of every element of a list, and what the list functions make of it.
use mathlib.Core.Path.{◌≡◌, refl, sym, ◌∙◌, ap, subst}
use mathlib.Core.List.{List, [], ◌∷◌, ◌++◌, map}
use mathlib.Core.Bool.{Bool, true, false}
use mathlib.Core.Option.{some}
use Rattle.definition.specs.Lists.{All, choose, filter, any, all, find, take_until, flat_map, firsts}
use Rattle.definition.proofs.Lists.{flat_map_nil, flat_map_cons, filter_nil, filter_yes, filter_no, first_nil, first_yes, first_no, any_nil, any_yes}
use Rattle.definition.proofs.Lists.{any_no, before_nil, before_yes, before_no, firsts_nil, firsts_old, firsts_new, split}

module _ {ℓ} {A : Type ℓ} (P : A → Type 0) where
  pub all_append : (xs ys : List A) → All P xs → All P ys → All P (xs ++ ys)
  all_append [] ys a b = b
  all_append (x ∷ xs) ys a b = (a.0, all_append xs ys a.1 b)

  pub all_left : (xs ys : List A) → All P (xs ++ ys) → All P xs
  all_left [] ys a = tt
  all_left (x ∷ xs) ys a = (a.0, all_left xs ys a.1)

  pub all_right : (xs ys : List A) → All P (xs ++ ys) → All P ys
  all_right [] ys a = a
  all_right (x ∷ xs) ys a = all_right xs ys a.1

  pub all_filter : (p : A → Bool) (xs : List A) → All P xs → All P (filter p xs)
  all_filter p [] a = rw filter_nil tt
  all_filter p (x ∷ xs) a = go (p x) refl (all_filter p xs a.1)
    where
      go : (b : Bool) → p x ≡ b → All P (filter p xs) → All P (filter p (x ∷ xs))
      go true e ih = rw filter_yes (a.0, ih)
      go false e ih = rw filter_no ih

  pub all_firsts : (alike : A → A → Bool) (seen xs : List A) → All P xs → All P (firsts alike seen xs)
  all_firsts alike seen [] a = rw firsts_nil tt
  all_firsts alike seen (x ∷ xs) a = go (any (alike x) seen) refl (all_firsts alike seen xs a.1) (all_firsts alike (seen ++ (x ∷ [])) xs a.1)
    where
      go : (b : Bool) → any (alike x) seen ≡ b → All P (firsts alike seen xs) → All P (firsts alike (seen ++ (x ∷ [])) xs) → All P (firsts alike seen (x ∷ xs))
      go true e ih _ = rw firsts_old ih
      go false e _ ih = rw firsts_new (a.0, ih)

  pub all_map {κ} : {B : Type κ} (f : B → A) (xs : List B) → All (λ x. P (f x)) xs → All P (map f xs)
  all_map f [] a = tt
  all_map f (x ∷ xs) a = (a.0, all_map f xs a.1)

  pub all_flat_map {κ} : {B : Type κ} (f : B → List A) (xs : List B) → All (λ x. All P (f x)) xs → All P (flat_map f xs)
  all_flat_map f [] a = rw flat_map_nil tt
  all_flat_map f (x ∷ xs) a = rw flat_map_cons (all_append (f x) (flat_map f xs) a.0 (all_flat_map f xs a.1))

  pub all_every : ((x : A) → P x) → (xs : List A) → All P xs
  all_every f [] = tt
  all_every f (x ∷ xs) = (f x, all_every f xs)

pub all_to {ℓ} : {A : Type ℓ} (P Q : A → Type 0) → ((x : A) → P x → Q x) → (xs : List A) → All P xs → All Q xs
all_to P Q f [] a = tt
all_to P Q f (x ∷ xs) a = (f x a.0, all_to P Q f xs a.1)

pub all_with {ℓ} : {A : Type ℓ} (P Q R : A → Type 0) → ((x : A) → P x → Q x → R x) → (xs : List A) → All P xs → All Q xs → All R xs
all_with P Q R f [] a b = tt
all_with P Q R f (x ∷ xs) a b = (f x a.0 b.0, all_with P Q R f xs a.1 b.1)

module _ {ℓ} {A : Type ℓ} (p : A → Bool) where
  pub filter_pass : (xs : List A) → All (λ x. p x ≡ true) (filter p xs)
  filter_pass [] = rw filter_nil tt
  filter_pass (x ∷ xs) = go (p x) refl (filter_pass xs)
    where
      go : (b : Bool) → p x ≡ b → All (λ x. p x ≡ true) (filter p xs) → All (λ x. p x ≡ true) (filter p (x ∷ xs))
      go true e ih = rw filter_yes (e, ih)
      go false e ih = rw filter_no ih

  pub filter_all : (xs : List A) → All (λ x. p x ≡ true) xs → filter p xs ≡ xs
  filter_all [] a = filter_nil p
  filter_all (x ∷ xs) a = filter_yes p x xs a.0 ∙ ap (λ l. x ∷ l) (filter_all xs a.1)

  pub all_pass : (xs : List A) → All (λ x. p x ≡ true) xs → all p xs ≡ true
  unfolding all
  all_pass [] a = refl
  all_pass (x ∷ xs) a = rw a.0 (all_pass xs a.1)

  pub pass_all : (xs : List A) → all p xs ≡ true → All (λ x. p x ≡ true) xs
  unfolding all
  pass_all [] e = tt
  pass_all (x ∷ xs) e = go (p x) refl e (pass_all xs)
    where
      go : (b : Bool) → p x ≡ b → choose b (all p xs) false ≡ true → (all p xs ≡ true → All (λ x. p x ≡ true) xs) → All (λ x. p x ≡ true) (x ∷ xs)
      go true q e ih = (q, ih e)
      go false q e ih = let z : false ≡ true = e in absurd cc

  pub any_none : (xs : List A) → All (λ x. p x ≡ false) xs → any p xs ≡ false
  any_none [] a = any_nil p
  any_none (x ∷ xs) a = any_no p x xs a.0 ∙ any_none xs a.1

module _ {ℓ} {A : Type ℓ} (p q : A → Bool) where
  pub first_cong : (xs : List A) → All (λ x. p x ≡ q x) xs → find p xs ≡ find q xs
  first_cong [] a = first_nil p ∙ sym (first_nil q)
  first_cong (x ∷ xs) a = go (q x) refl (first_cong xs a.1)
    where
      go : (b : Bool) → q x ≡ b → find p xs ≡ find q xs → find p (x ∷ xs) ≡ find q (x ∷ xs)
      go true e ih = first_yes p x xs (a.0 ∙ e) ∙ sym (first_yes q x xs e)
      go false e ih = first_no p x xs (a.0 ∙ e) ∙ (ih ∙ sym (first_no q x xs e))

  pub any_cong : (xs : List A) → All (λ x. p x ≡ q x) xs → any p xs ≡ any q xs
  any_cong [] a = any_nil p ∙ sym (any_nil q)
  any_cong (x ∷ xs) a = go (q x) refl (any_cong xs a.1)
    where
      go : (b : Bool) → q x ≡ b → any p xs ≡ any q xs → any p (x ∷ xs) ≡ any q (x ∷ xs)
      go true e ih = any_yes p x xs (a.0 ∙ e) ∙ sym (any_yes q x xs e)
      go false e ih = any_no p x xs (a.0 ∙ e) ∙ (ih ∙ sym (any_no q x xs e))

pub before_cong {ℓ} : {A : Type ℓ} (p q : A → Bool) (xs : List A) → All (λ x. p x ≡ q x) xs → take_until p xs ≡ take_until q xs
before_cong p q [] a = before_nil p ∙ sym (before_nil q)
before_cong p q (x ∷ xs) a = go (q x) refl (before_cong p q xs a.1)
  where
    go : (b : Bool) → q x ≡ b → take_until p xs ≡ take_until q xs → take_until p (x ∷ xs) ≡ take_until q (x ∷ xs)
    go true e ih = before_yes p x xs (a.0 ∙ e) ∙ sym (before_yes q x xs e)
    go false e ih = before_no p x xs (a.0 ∙ e) ∙ (ap (λ l. x ∷ l) ih ∙ sym (before_no q x xs e))

pub all_found {ℓ} : {A : Type ℓ} (P : A → Type 0) (p : A → Bool) (xs : List A) (y : A) → All P xs → find p xs ≡ some y → P y
all_found P p xs y a h = let s = split p xs y h in (all_right P s.pre (y ∷ s.post) (subst (All P) s.whole a)).0
