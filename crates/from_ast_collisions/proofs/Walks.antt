-- Walks over lists: mapped, gated and kept.
use mathlib.Core.Path.{◌≡◌, refl, sym, ◌∙◌, ap, ap₂}
use mathlib.Core.List.{List, [], ◌∷◌, ◌++◌, map}
use mathlib.Core.Bool.{Bool, true, false, ◌&&◌}
use Rattle.definition.specs.Lists.{All, choose, found, filter, find, flat_map}
use Rattle.definition.proofs.Lists.{map_append, flat_map_nil, flat_map_cons, filter_nil, filter_yes, filter_no, first_nil, first_yes, first_no}

-- What is made of the first that passes goes through a map.
pub first_mapped {ℓ κ ι} : {A : Type ℓ} {B : Type κ} {C : Type ι} (p : B → Bool) (f : A → B) (g : B → C) (c : C) (xs : List A) →
    found (find p (map f xs)) g c ≡ found (find (λ x. p (f x)) xs) (λ x. g (f x)) c
first_mapped p f g c [] = rw (first_nil p, first_nil (λ x. p (f x)))
first_mapped p f g c (x ∷ xs) = go (p (f x)) refl (first_mapped p f g c xs)
  where
    go : (b : Bool) → p (f x) ≡ b → found (find p (map f xs)) g c ≡ found (find (λ x. p (f x)) xs) (λ x. g (f x)) c →
        found (find p (f x ∷ map f xs)) g c ≡ found (find (λ x. p (f x)) (x ∷ xs)) (λ x. g (f x)) c
    go true e ih = rw (first_yes p (f x) (map f xs) e, first_yes (λ x. p (f x)) x xs e)
    go false e ih = rw (first_no p (f x) (map f xs) e, first_no (λ x. p (f x)) x xs e) ih

module _ {ℓ κ ι} {A : Type ℓ} {B : Type κ} {C : Type ι} where
  pub map_flat : (f : B → C) (g : A → List B) (xs : List A) → map f (flat_map g xs) ≡ flat_map (λ x. map f (g x)) xs
  map_flat f g [] = rw (flat_map_nil g, flat_map_nil (λ x. map f (g x)))
  map_flat f g (x ∷ xs) =
      rw (flat_map_cons g x xs, flat_map_cons (λ x. map f (g x)) x xs) (map_append f (g x) (flat_map g xs) ∙ ap (λ l. map f (g x) ++ l) (map_flat f g xs))

pub flat_cong {ℓ κ} : {A : Type ℓ} {B : Type κ} (f g : A → List B) (P : A → Type 0) → ((x : A) → P x → f x ≡ g x) → (xs : List A) → All P xs →
    flat_map f xs ≡ flat_map g xs
flat_cong f g P same [] a = flat_map_nil f ∙ sym (flat_map_nil g)
flat_cong f g P same (x ∷ xs) a = flat_map_cons f x xs ∙ (ap₂ (λ l m. l ++ m) (same x a.0) (flat_cong f g P same xs a.1) ∙ sym (flat_map_cons g x xs))

pub flat_map_lem {ℓ κ ι} : {A : Type ℓ} {B : Type κ} {C : Type ι} (f : B → List C) (g : A → B) (xs : List A) → flat_map f (map g xs) ≡ flat_map (λ x. f (g x)) xs
flat_map_lem f g [] = flat_map_nil f ∙ sym (flat_map_nil (λ x. f (g x)))
flat_map_lem f g (x ∷ xs) = flat_map_cons f (g x) (map g xs) ∙ (ap (λ l. f (g x) ++ l) (flat_map_lem f g xs) ∙ sym (flat_map_cons (λ x. f (g x)) x xs))

pub flat_gated {ℓ κ} : {A : Type ℓ} {B : Type κ} (q : A → Bool) (m : A → List B) (xs : List A) →
    flat_map (λ x. choose (q x) (m x) []) xs ≡ flat_map m (filter q xs)
flat_gated q m [] = flat_map_nil (λ x. choose (q x) (m x) []) ∙ sym (ap (flat_map m) (filter_nil q) ∙ flat_map_nil m)
flat_gated q m (x ∷ xs) = flat_map_cons (λ x. choose (q x) (m x) []) x xs ∙ go (q x) refl (flat_gated q m xs)
  where
    go : (b : Bool) → q x ≡ b → flat_map (λ x. choose (q x) (m x) []) xs ≡ flat_map m (filter q xs) →
        choose (q x) (m x) [] ++ flat_map (λ x. choose (q x) (m x) []) xs ≡ flat_map m (filter q (x ∷ xs))
    go true e ih = rw (e, filter_yes q x xs e, flat_map_cons m x (filter q xs)) (ap (λ l. m x ++ l) ih)
    go false e ih = rw (e, filter_no q x xs e) ih

pub filter_cong {ℓ} : {A : Type ℓ} (p q : A → Bool) (xs : List A) → All (λ x. p x ≡ q x) xs → filter p xs ≡ filter q xs
filter_cong p q [] a = filter_nil p ∙ sym (filter_nil q)
filter_cong p q (x ∷ xs) a = go (q x) refl (filter_cong p q xs a.1)
  where
    go : (b : Bool) → q x ≡ b → filter p xs ≡ filter q xs → filter p (x ∷ xs) ≡ filter q (x ∷ xs)
    go true e ih = filter_yes p x xs (a.0 ∙ e) ∙ (ap (λ l. x ∷ l) ih ∙ sym (filter_yes q x xs e))
    go false e ih = filter_no p x xs (a.0 ∙ e) ∙ (ih ∙ sym (filter_no q x xs e))

pub filter_out {ℓ} : {A : Type ℓ} (p : A → Bool) (xs : List A) → All (λ x. p x ≡ false) xs → filter p xs ≡ []
filter_out p [] a = filter_nil p
filter_out p (x ∷ xs) a = filter_no p x xs a.0 ∙ filter_out p xs a.1

pub filter_both {ℓ} : {A : Type ℓ} (p q : A → Bool) (xs : List A) → filter (λ x. p x && q x) xs ≡ filter q (filter p xs)
filter_both p q [] = simp filter_nil
filter_both p q (x ∷ xs) = go (p x) (q x) refl refl (filter_both p q xs)
  where
    go : (b c : Bool) → p x ≡ b → q x ≡ c → filter (λ x. p x && q x) xs ≡ filter q (filter p xs) →
        filter (λ x. p x && q x) (x ∷ xs) ≡ filter q (filter p (x ∷ xs))
    go true true e f ih = simp (filter_yes (λ x. p x && q x) x xs (simp (e, f)), filter_yes p x xs e, filter_yes q x (filter p xs) f, ih)
    go true false e f ih = simp (filter_no (λ x. p x && q x) x xs (simp (e, f)), filter_yes p x xs e, filter_no q x (filter p xs) f, ih)
    go false _ e f ih = simp (filter_no (λ x. p x && q x) x xs (simp e), filter_no p x xs e, ih)
