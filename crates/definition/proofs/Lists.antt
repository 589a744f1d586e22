-- The laws of `specs/Lists.antt`: one for each branch, and how each function goes over `++`.
use mathlib.Core.Path.{◌≡◌, refl, sym, ◌∙◌, ap}
use mathlib.Core.List.{List, [], ◌∷◌, ◌++◌, map, append_assoc, append-nil}
use mathlib.Core.Bool.{Bool, true, false, ◌&&◌, ◌||◌}
use mathlib.Core.Option.{Option, none, some}
use Prim.Native.Nat.{ℕ}
use Rattle.definition.specs.Lists.{Prefix, filter, any, find, take_until, flat_map, firsts, repeats}
use Rattle.std.proofs.Common.{Ordering, Less, Equal, Greater, is_eq}
use Rattle.definition.specs.Names.{compare_names, same_name}
use Rattle.definition.proofs.NamesInOrder.{equal_names, equal_itself}

module _ {ℓ κ} {A : Type ℓ} {B : Type κ} where
  pub map_append : (f : A → B) (xs ys : List A) → map f (xs ++ ys) ≡ map f xs ++ map f ys
  map_append f [] ys = refl
  map_append f (x ∷ xs) ys = ap (λ l. f x ∷ l) (map_append f xs ys)

  pub flat_map_nil : (f : A → List B) → flat_map f [] ≡ []
  unfolding flat_map
  flat_map_nil f = refl

  pub flat_map_cons : (f : A → List B) (x : A) (xs : List A) → flat_map f (x ∷ xs) ≡ f x ++ flat_map f xs
  unfolding flat_map
  flat_map_cons f x xs = refl

  pub flat_map_append : (f : A → List B) (xs ys : List A) → flat_map f (xs ++ ys) ≡ flat_map f xs ++ flat_map f ys
  flat_map_append f [] ys = simp flat_map_nil
  flat_map_append f (x ∷ xs) ys = simp (flat_map_cons, flat_map_append f xs ys, append_assoc)

module _ {ℓ κ μ} {A : Type ℓ} {B : Type κ} {C : Type μ} where
  pub map_flat_map : (f : B → C) (g : A → List B) (xs : List A) → map f (flat_map g xs) ≡ flat_map (λ x. map f (g x)) xs
  map_flat_map f g [] = simp flat_map_nil
  map_flat_map f g (x ∷ xs) = simp (flat_map_cons, map_append, map_flat_map f g xs)

  pub flat_map_map : (f : B → List C) (g : A → B) (xs : List A) → flat_map f (map g xs) ≡ flat_map (λ x. f (g x)) xs
  flat_map_map f g [] = simp flat_map_nil
  flat_map_map f g (x ∷ xs) = simp (flat_map_cons, flat_map_map f g xs)

module _ {ℓ} {A : Type ℓ} (p : A → Bool) where
  pub filter_nil : filter p [] ≡ []
  unfolding filter
  filter_nil = refl

  pub filter_yes : (x : A) (xs : List A) → p x ≡ true → filter p (x ∷ xs) ≡ x ∷ filter p xs
  unfolding filter
  filter_yes x xs e = rw e

  pub filter_no : (x : A) (xs : List A) → p x ≡ false → filter p (x ∷ xs) ≡ filter p xs
  unfolding filter
  filter_no x xs e = rw e

  pub filter_append : (xs ys : List A) → filter p (xs ++ ys) ≡ filter p xs ++ filter p ys
  filter_append [] ys = simp filter_nil
  filter_append (x ∷ xs) ys = go (p x) refl (filter_append xs ys)
    where
      go : (b : Bool) → p x ≡ b → filter p (xs ++ ys) ≡ filter p xs ++ filter p ys → filter p (x ∷ (xs ++ ys)) ≡ filter p (x ∷ xs) ++ filter p ys
      go true e ih = simp (filter_yes, ih)
      go false e ih = simp (filter_no, ih)

  pub first_nil : find p [] ≡ none
  unfolding find
  first_nil = refl

  pub first_yes : (x : A) (xs : List A) → p x ≡ true → find p (x ∷ xs) ≡ some x
  unfolding find
  first_yes x xs e = rw e

  pub first_no : (x : A) (xs : List A) → p x ≡ false → find p (x ∷ xs) ≡ find p xs
  unfolding find
  first_no x xs e = rw e

  pub any_nil : any p [] ≡ false
  unfolding any
  any_nil = refl

  pub any_yes : (x : A) (xs : List A) → p x ≡ true → any p (x ∷ xs) ≡ true
  unfolding any
  any_yes x xs e = rw e

  pub any_no : (x : A) (xs : List A) → p x ≡ false → any p (x ∷ xs) ≡ any p xs
  unfolding any
  any_no x xs e = rw e

  pub any_append : (xs ys : List A) → any p (xs ++ ys) ≡ (any p xs || any p ys)
  any_append [] ys = simp any_nil
  any_append (x ∷ xs) ys = go (p x) refl (any_append xs ys)
    where
      go : (b : Bool) → p x ≡ b → any p (xs ++ ys) ≡ (any p xs || any p ys) → any p (x ∷ (xs ++ ys)) ≡ (any p (x ∷ xs) || any p ys)
      go true e ih = simp any_yes
      go false e ih = simp (any_no, ih)

  -- what is found stays found
  pub first_append_some : (xs ys : List A) (y : A) → find p xs ≡ some y → find p (xs ++ ys) ≡ some y
  first_append_some [] ys y h = cc first_nil
  first_append_some (x ∷ xs) ys y h = go (p x) refl (first_append_some xs ys y)
    where
      go : (b : Bool) → p x ≡ b → (find p xs ≡ some y → find p (xs ++ ys) ≡ some y) → find p (x ∷ (xs ++ ys)) ≡ some y
      go true e ih = simp first_yes (simp first_yes at h)
      go false e ih = simp first_no (ih (simp first_no at h))

  pub first_append_none : (xs ys : List A) → find p xs ≡ none → find p (xs ++ ys) ≡ find p ys
  first_append_none [] ys h = refl
  first_append_none (x ∷ xs) ys h = go (p x) refl (first_append_none xs ys)
    where
      go : (b : Bool) → p x ≡ b → (find p xs ≡ none → find p (xs ++ ys) ≡ find p ys) → find p (x ∷ (xs ++ ys)) ≡ find p ys
      go true e ih = cc (first_yes x xs e)
      go false e ih = simp first_no (ih (simp first_no at h))

  -- `any` finds what `find` finds
  pub any_first_none : (xs : List A) → find p xs ≡ none → any p xs ≡ false
  any_first_none [] h = any_nil
  any_first_none (x ∷ xs) h = go (p x) refl (any_first_none xs)
    where
      go : (b : Bool) → p x ≡ b → (find p xs ≡ none → any p xs ≡ false) → any p (x ∷ xs) ≡ false
      go true e ih = cc (first_yes x xs e)
      go false e ih = simp any_no (ih (simp first_no at h))

  pub any_first_some : (xs : List A) (y : A) → find p xs ≡ some y → any p xs ≡ true
  any_first_some [] y h = cc first_nil
  any_first_some (x ∷ xs) y h = go (p x) refl (any_first_some xs y)
    where
      go : (b : Bool) → p x ≡ b → (find p xs ≡ some y → any p xs ≡ true) → any p (x ∷ xs) ≡ true
      go true e ih = any_yes x xs e
      go false e ih = simp any_no (ih (simp first_no at h))

module _ {ℓ} {A : Type ℓ} (alike : A → A → Bool) where
  pub firsts_nil : (seen : List A) → firsts alike seen [] ≡ []
  unfolding firsts
  firsts_nil seen = refl

  pub firsts_old : (seen : List A) (x : A) (xs : List A) → any (alike x) seen ≡ true → firsts alike seen (x ∷ xs) ≡ firsts alike seen xs
  unfolding firsts
  firsts_old seen x xs e = rw e

  pub firsts_new : (seen : List A) (x : A) (xs : List A) → any (alike x) seen ≡ false →
      firsts alike seen (x ∷ xs) ≡ x ∷ firsts alike (seen ++ (x ∷ [])) xs
  unfolding firsts
  firsts_new seen x xs e = rw e

  pub firsts_append : (seen xs ys : List A) → firsts alike seen (xs ++ ys) ≡ firsts alike seen xs ++ firsts alike (seen ++ firsts alike seen xs) ys
  firsts_append seen [] ys = simp (firsts_nil, append-nil)
  firsts_append seen (x ∷ xs) ys = go (any (alike x) seen) refl (firsts_append seen xs ys) (firsts_append (seen ++ (x ∷ [])) xs ys)
    where
      go : (b : Bool) → any (alike x) seen ≡ b →
          firsts alike seen (xs ++ ys) ≡ firsts alike seen xs ++ firsts alike (seen ++ firsts alike seen xs) ys →
          firsts alike (seen ++ (x ∷ [])) (xs ++ ys) ≡
          firsts alike (seen ++ (x ∷ [])) xs ++ firsts alike (seen ++ (x ∷ []) ++ firsts alike (seen ++ (x ∷ [])) xs) ys →
          firsts alike seen (x ∷ (xs ++ ys)) ≡ firsts alike seen (x ∷ xs) ++ firsts alike (seen ++ firsts alike seen (x ∷ xs)) ys
      go true e ih _ = simp (firsts_old, ih)
      go false e _ ih = simp (firsts_new, ih, append_assoc)

  pub repeats_nil : (seen : List A) → repeats alike seen [] ≡ []
  unfolding repeats
  repeats_nil seen = refl

  pub repeats_new : (seen : List A) (x : A) (xs : List A) → find (alike x) seen ≡ none →
      repeats alike seen (x ∷ xs) ≡ repeats alike (seen ++ (x ∷ [])) xs
  unfolding repeats
  repeats_new seen x xs e = rw e

  pub repeats_old : (seen : List A) (x : A) (xs : List A) (y : A) → find (alike x) seen ≡ some y →
      repeats alike seen (x ∷ xs) ≡ (x, y) ∷ repeats alike seen xs
  unfolding repeats
  repeats_old seen x xs y e = rw e

  pub repeats_append : (seen xs ys : List A) →
      repeats alike seen (xs ++ ys) ≡ repeats alike seen xs ++ repeats alike (seen ++ firsts alike seen xs) ys
  repeats_append seen [] ys = simp (firsts_nil, repeats_nil, append-nil)
  repeats_append seen (x ∷ xs) ys = go (find (alike x) seen) refl (repeats_append seen xs ys) (repeats_append (seen ++ (x ∷ [])) xs ys)
    where
      go : (o : Option A) → find (alike x) seen ≡ o →
          repeats alike seen (xs ++ ys) ≡ repeats alike seen xs ++ repeats alike (seen ++ firsts alike seen xs) ys →
          repeats alike (seen ++ (x ∷ [])) (xs ++ ys) ≡
          repeats alike (seen ++ (x ∷ [])) xs ++ repeats alike (seen ++ (x ∷ []) ++ firsts alike (seen ++ (x ∷ [])) xs) ys →
          repeats alike seen (x ∷ (xs ++ ys)) ≡ repeats alike seen (x ∷ xs) ++ repeats alike (seen ++ firsts alike seen (x ∷ xs)) ys
      go none e _ ih =
          let n : any (alike x) seen ≡ false = any_first_none (alike x) seen e in
          simp (repeats_new, firsts_new, ih, append_assoc)
      go (some y) e ih _ =
          let n : any (alike x) seen ≡ true = any_first_some (alike x) seen y e in
          simp (repeats_old seen x xs y e, repeats_old seen x (xs ++ ys) y e, firsts_old, ih)

  -- What is kept stays kept, in its place.
  pub kept_stays : (seen xs ys : List A) → Prefix (firsts alike seen xs) (firsts alike seen (xs ++ ys))
  kept_stays seen xs ys = (firsts alike (seen ++ firsts alike seen xs) ys, firsts_append seen xs ys)

  -- a test that alike elements pass alike goes through
  module _ (q : A → Bool) (same : (x y : A) → alike x y ≡ true → q x ≡ q y) where
    any_kept : (x : A) → q x ≡ true → (ys : List A) → any (alike x) (filter q ys) ≡ any (alike x) ys
    any_kept x t [] = simp filter_nil
    any_kept x t (y ∷ ys) = go (alike x y) (q y) refl refl (any_kept x t ys)
      where
        go : (b c : Bool) → alike x y ≡ b → q y ≡ c → any (alike x) (filter q ys) ≡ any (alike x) ys →
            any (alike x) (filter q (y ∷ ys)) ≡ any (alike x) (y ∷ ys)
        go true true a e ih = simp (filter_yes, any_yes)
        go true false a e ih = cc (same x y a)
        go false true a e ih = simp (filter_yes, any_no, ih)
        go false false a e ih = simp (filter_no, any_no, ih)

    pub filter_firsts : (seen xs : List A) → filter q (firsts alike seen xs) ≡ firsts alike (filter q seen) (filter q xs)
    filter_firsts seen [] = simp (firsts_nil, filter_nil)
    filter_firsts seen (x ∷ xs) = go (any (alike x) seen) (q x) refl refl (filter_firsts seen xs) (filter_firsts (seen ++ (x ∷ [])) xs)
      where
        go : (b c : Bool) → any (alike x) seen ≡ b → q x ≡ c →
            filter q (firsts alike seen xs) ≡ firsts alike (filter q seen) (filter q xs) →
            filter q (firsts alike (seen ++ (x ∷ [])) xs) ≡ firsts alike (filter q (seen ++ (x ∷ []))) (filter q xs) →
            filter q (firsts alike seen (x ∷ xs)) ≡ firsts alike (filter q seen) (filter q (x ∷ xs))
        go true true a e ih _ =
            let o : any (alike x) (filter q seen) ≡ true = any_kept x e seen ∙ a in
            simp (firsts_old, filter_yes, ih)
        go true false a e ih _ = simp (firsts_old, filter_no, ih)
        go false true a e _ ih =
            let o : any (alike x) (filter q seen) ≡ false = any_kept x e seen ∙ a in
            simp (firsts_new, filter_yes, ih, filter_append, filter_nil)
        go false false a e _ ih = simp (firsts_new, filter_no, ih, filter_append, filter_nil, append-nil)

module _ {ℓ} {A : Type ℓ} (p : A → Bool) where
  pub before_nil : take_until p [] ≡ []
  unfolding take_until
  before_nil = refl

  pub before_yes : (x : A) (xs : List A) → p x ≡ true → take_until p (x ∷ xs) ≡ []
  unfolding take_until
  before_yes x xs e = rw e

  pub before_no : (x : A) (xs : List A) → p x ≡ false → take_until p (x ∷ xs) ≡ x ∷ take_until p xs
  unfolding take_until
  before_no x xs e = rw e

  -- where none of xs passes
  pub none_head : (x : A) (xs : List A) → any p (x ∷ xs) ≡ false → (p x ≡ false) × (any p xs ≡ false)
  none_head x xs h = go (p x) refl
    where
      go : (b : Bool) → p x ≡ b → (p x ≡ false) × (any p xs ≡ false)
      go true e = (cc (any_yes p x xs e), cc (any_yes p x xs e))
      go false e = (e, sym (any_no p x xs e) ∙ h)

  pub before_append : (xs ys : List A) (y : A) → find p xs ≡ some y → take_until p (xs ++ ys) ≡ take_until p xs
  before_append [] ys y h = let z : none ≡ some y = sym (first_nil p) ∙ h in cc
  before_append (x ∷ xs) ys y h = go (p x) refl (before_append xs ys y)
    where
      go : (b : Bool) → p x ≡ b → (find p xs ≡ some y → take_until p (xs ++ ys) ≡ take_until p xs) → take_until p (x ∷ (xs ++ ys)) ≡ take_until p (x ∷ xs)
      go true e ih = before_yes x (xs ++ ys) e ∙ sym (before_yes x xs e)
      go false e ih = before_no x (xs ++ ys) e ∙ (ap (λ l. x ∷ l) (ih (sym (first_no p x xs e) ∙ h)) ∙ sym (before_no x xs e))

  pub filter_none : (xs : List A) → any p xs ≡ false → filter p xs ≡ []
  filter_none [] h = filter_nil p
  filter_none (x ∷ xs) h = let (a, b) = none_head x xs h in simp (filter_no, filter_none xs b)

  -- the first that passes takes the list apart
  pub record Split (xs : List A) (y : A) : Type ℓ where
    pub pre : List A
    pub post : List A
    pub whole : xs ≡ pre ++ (y ∷ post)
    pub others : any p pre ≡ false
    pub passes : p y ≡ true

  pub split : (xs : List A) (y : A) → find p xs ≡ some y → Split xs y
  split [] y h = absurd (cc (first_nil p))
  split (x ∷ xs) y h = go (p x) refl (split xs y)
    where
      go : (b : Bool) → p x ≡ b → (find p xs ≡ some y → Split xs y) → Split (x ∷ xs) y
      go true e ih =
          let s : x ≡ y = cc (first_yes p x xs e) in
          record { pre = []; post = xs; whole = ap (λ z. z ∷ xs) s; others = any_nil p; passes = rw s at e }
      go false e ih = let r = ih (sym (first_no p x xs e) ∙ h) in
          record { pre = x ∷ r.pre; post = r.post; whole = ap (λ l. x ∷ l) r.whole; others = any_no p x r.pre e ∙ r.others; passes = r.passes }

module _ {ℓ} {A : Type ℓ} (p q : A → Bool) where
  pub first_both : (xs : List A) → find (λ x. p x && q x) xs ≡ find q (filter p xs)
  first_both [] = simp (first_nil, filter_nil)
  first_both (x ∷ xs) = go (p x) (q x) refl refl (first_both xs)
    where
      go : (b c : Bool) → p x ≡ b → q x ≡ c → find (λ x. p x && q x) xs ≡ find q (filter p xs) →
          find (λ x. p x && q x) (x ∷ xs) ≡ find q (filter p (x ∷ xs))
      go true true e f ih = simp (first_yes (λ x. p x && q x) x xs (simp (e, f)), filter_yes p x xs e, first_yes q x (filter p xs) f)
      go true false e f ih = simp (first_no (λ x. p x && q x) x xs (simp (e, f)), filter_yes p x xs e, first_no q x (filter p xs) f, ih)
      go false _ e f ih = simp (first_no (λ x. p x && q x) x xs (simp e), filter_no p x xs e, ih)

  pub before_both : (xs : List A) → filter p (take_until (λ x. p x && q x) xs) ≡ take_until q (filter p xs)
  before_both [] = simp (filter_nil, before_nil)
  before_both (x ∷ xs) = go (p x) (q x) refl refl (before_both xs)
    where
      go : (b c : Bool) → p x ≡ b → q x ≡ c → filter p (take_until (λ x. p x && q x) xs) ≡ take_until q (filter p xs) →
          filter p (take_until (λ x. p x && q x) (x ∷ xs)) ≡ take_until q (filter p (x ∷ xs))
      go true true e f ih = simp (before_yes (λ x. p x && q x) x xs (simp (e, f)), filter_yes p x xs e, before_yes q x (filter p xs) f, filter_nil)
      go true false e f ih =
          simp (
            before_no (λ x. p x && q x) x xs (simp (e, f)),
            filter_yes p x xs e,
            filter_yes p x (take_until (λ x. p x && q x) xs) e,
            before_no q x (filter p xs) f,
            ih,
          )
      go false _ e f ih = simp (before_no (λ x. p x && q x) x xs (simp e), filter_no p x xs e, filter_no p x (take_until (λ x. p x && q x) xs) e, ih)

  pub any_both : (xs : List A) → any (λ x. p x && q x) xs ≡ any q (filter p xs)
  any_both [] = simp (any_nil, filter_nil)
  any_both (x ∷ xs) = go (p x) (q x) refl refl (any_both xs)
    where
      go : (b c : Bool) → p x ≡ b → q x ≡ c → any (λ x. p x && q x) xs ≡ any q (filter p xs) →
          any (λ x. p x && q x) (x ∷ xs) ≡ any q (filter p (x ∷ xs))
      go true true e f ih = simp (any_yes (λ x. p x && q x) x xs (simp (e, f)), filter_yes p x xs e, any_yes q x (filter p xs) f)
      go true false e f ih = simp (any_no (λ x. p x && q x) x xs (simp (e, f)), filter_yes p x xs e, any_no q x (filter p xs) f, ih)
      go false _ e f ih = simp (any_no (λ x. p x && q x) x xs (simp e), filter_no p x xs e, ih)

module _ {ℓ} {A : Type ℓ} (alike : A → A → Bool) (q : A → Bool) (same : (x y : A) → alike x y ≡ true → q x ≡ q y) where
  unlike : (x : A) (seen : List A) → any (alike x) seen ≡ true → any q seen ≡ false → q x ≡ false
  unlike x [] h n = cc (any_nil (alike x))
  unlike x (y ∷ ys) h n = go (alike x y) refl (unlike x ys)
    where
      go : (b : Bool) → alike x y ≡ b → (any (alike x) ys ≡ true → any q ys ≡ false → q x ≡ false) → q x ≡ false
      go true e ih = same x y e ∙ (none_head q y ys n).0
      go false e ih = ih (sym (any_no (alike x) y ys e) ∙ h) (none_head q y ys n).1

  -- the first of a list that passes is a first of its like
  pub first_firsts : (seen xs : List A) → any q seen ≡ false → find q (firsts alike seen xs) ≡ find q xs
  first_firsts seen [] n = simp firsts_nil
  first_firsts seen (x ∷ xs) n = go (any (alike x) seen) (q x) refl refl (first_firsts seen xs n) (first_firsts (seen ++ (x ∷ [])) xs)
    where
      go : (b c : Bool) → any (alike x) seen ≡ b → q x ≡ c →
          find q (firsts alike seen xs) ≡ find q xs →
          (any q (seen ++ (x ∷ [])) ≡ false → find q (firsts alike (seen ++ (x ∷ [])) xs) ≡ find q xs) →
          find q (firsts alike seen (x ∷ xs)) ≡ find q (x ∷ xs)
      go true c a e ih _ = let f : q x ≡ false = unlike x seen a n in simp (firsts_old, first_no, ih)
      go false true a e _ ih = simp (firsts_new, first_yes)
      go false false a e _ ih = simp (firsts_new, first_no, ih (simp (any_append, n, any_no, any_nil)))

-- names are the same where their bytes are
pub same_name_eq : (m n : List ℕ) → same_name m n ≡ true → m ≡ n
unfolding same_name
same_name_eq m n h = go (compare_names m n) refl h
  where
    go : (o : Ordering) → compare_names m n ≡ o → is_eq o ≡ true → m ≡ n
    go Less e f = cc
    go Equal e f = equal_names m n e
    go Greater e f = cc

pub same_name_refl : (n : List ℕ) → same_name n n ≡ true
unfolding same_name
same_name_refl n = ap is_eq (equal_itself n)

module _ {ℓ κ} {A : Type ℓ} {B : Type κ} (p : B → Bool) (f : A → B) where
  pub first_map_some : (xs : List A) (y : A) → find (λ x. p (f x)) xs ≡ some y → find p (map f xs) ≡ some (f y)
  first_map_some [] y h = cc (first_nil (λ x. p (f x)))
  first_map_some (x ∷ xs) y h = go (p (f x)) refl (first_map_some xs y)
    where
      go : (b : Bool) → p (f x) ≡ b → (find (λ x. p (f x)) xs ≡ some y → find p (map f xs) ≡ some (f y)) → find p (f x ∷ map f xs) ≡ some (f y)
      go true e ih = let q : x ≡ y = cc (first_yes (λ x. p (f x)) x xs e) in first_yes p (f x) (map f xs) e ∙ ap (λ z. some (f z)) q
      go false e ih = first_no p (f x) (map f xs) e ∙ ih (sym (first_no (λ x. p (f x)) x xs e) ∙ h)

  pub first_map_none : (xs : List A) → find (λ x. p (f x)) xs ≡ none → find p (map f xs) ≡ none
  first_map_none [] h = first_nil p
  first_map_none (x ∷ xs) h = go (p (f x)) refl (first_map_none xs)
    where
      go : (b : Bool) → p (f x) ≡ b → (find (λ x. p (f x)) xs ≡ none → find p (map f xs) ≡ none) → find p (f x ∷ map f xs) ≡ none
      go true e ih = cc (first_yes (λ x. p (f x)) x xs e)
      go false e ih = first_no p (f x) (map f xs) e ∙ ih (sym (first_no (λ x. p (f x)) x xs e) ∙ h)

pub before_map {ℓ κ} : {A : Type ℓ} {B : Type κ} (p : B → Bool) (f : A → B) (xs : List A) → take_until p (map f xs) ≡ map f (take_until (λ x. p (f x)) xs)
before_map p f [] = before_nil p ∙ sym (ap (map f) (before_nil (λ x. p (f x))))
before_map p f (x ∷ xs) = go (p (f x)) refl (before_map p f xs)
  where
    go : (b : Bool) → p (f x) ≡ b → take_until p (map f xs) ≡ map f (take_until (λ x. p (f x)) xs) →
        take_until p (f x ∷ map f xs) ≡ map f (take_until (λ x. p (f x)) (x ∷ xs))
    go true e ih = before_yes p (f x) _ e ∙ sym (ap (map f) (before_yes (λ x. p (f x)) x xs e))
    go false e ih = before_no p (f x) _ e ∙ (ap (λ l. f x ∷ l) ih ∙ sym (ap (map f) (before_no (λ x. p (f x)) x xs e)))
