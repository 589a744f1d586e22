-- Pushing errors: what one push does to the slice, pushes one after another, and the room that they need.
use mathlib.Core.Path.{◌≡◌, refl, sym, ◌∙◌, ap, subst}
use mathlib.Core.List.{List, [], ◌∷◌, ◌++◌, append_assoc}
use Prim.Native.Nat.{ℕ, ◌+◌, ◌-◌, ◌*◌, ◌≤◌, ◌<◌}
use native.Mathlib.Omega.{arith}
use native.Mathlib.Numerals.{add-one}
use lib.ListN.{length, drop, get_or, set, drop_of_length-le}
use lib.Seq.{take_all, drop-drop, drop-cons}
use borrow.Rule.Slice.PartMut.{put_mid}
use Rattle.definition.specs.Lists.{flat_map, written}
use Rattle.definition.specs.Errors.{Error, error}
use Rattle.definition.specs.Outcomes.{words_of_error}
use Rattle.from_ast_collisions.specs.declared.pushing.Errors.{Errors}
use Rattle.from_ast_collisions.specs.Pushing.{push, push_all, counted_in, Capacity}
use Rattle.definition.proofs.Lists.{flat_map_nil, flat_map_cons}

-- ---- One push.

-- What was written into a lent part, said of the whole.
pub part_written : (a n : ℕ) (w s : List ℕ) → n ≡ length s → put_mid a n w s ≡ written w a s
unfolding written
part_written a n w s e =
    rw e (simp (take_all (length s) s (omega arith), drop-drop, append_assoc))

-- An error that was written and counted is pushed.
pub pushed : (l : Errors) (n r c e k : ℕ) (ws : List ℕ) → r ≡ n → k ≡ 3 → ws ≡ r ∷ (c ∷ (e ∷ [])) →
    record {
      words = record l.words { now = put_mid (3 * l.tallies.total) k l.words.now ws };
      tallies = record { counts = set l.tallies.counts (r - 1) (get_or l.tallies.counts (r - 1) 0 + 1); total = l.tallies.total + 1 };
    }
    ≡ push_all l (error n c e ∷ [])
unfolding push_all push error words_of_error counted_in
pushed l n r c e k ws m p q =
    rw (q, m)
    (ap (λ (w : List ℕ). record {
      words = record l.words { now = w };
      tallies = record { counts = set l.tallies.counts (n - 1) (get_or l.tallies.counts (n - 1) 0 + 1); total = l.tallies.total + 1 };
    }) (part_written (3 * l.tallies.total) k l.words.now (n ∷ (c ∷ (e ∷ []))) p))

-- Pushing does not change what the slice is.
pub pushed_reference : (l : Errors) (es : List Error) → (push_all l es).words.ghost_name ≡ l.words.ghost_name
unfolding push_all push
pushed_reference l [] = refl
pushed_reference l (e ∷ es) = pushed_reference (push l e) es

-- ---- Pushes one after another.

pub push_none : (l : Errors) → l ≡ push_all l []
unfolding push_all
push_none l = refl

pub push_append : (l : Errors) (xs ys : List Error) → push_all l (xs ++ ys) ≡ push_all (push_all l xs) ys
unfolding push_all
push_append l [] ys = refl
push_append l (x ∷ xs) ys = push_append (push l x) xs ys

capacity_left : (l : Errors) (xs ys : List Error) → Capacity l (xs ++ ys) → Capacity l xs
unfolding Capacity
capacity_left l [] ys r = tt
capacity_left l (x ∷ xs) ys r = (r.0, capacity_left (push l x) xs ys r.1)

capacity_right : (l : Errors) (xs ys : List Error) → Capacity l (xs ++ ys) → Capacity (push_all l xs) ys
unfolding push_all Capacity
capacity_right l [] ys r = r
capacity_right l (x ∷ xs) ys r = capacity_right (push l x) xs ys r.1

-- From l₀, where `whole` is to be pushed, all but `rest` was pushed.
pub record Going (l₀ l : Errors) (whole rest : List Error) : Type 0 where
  pub same : push_all l rest ≡ push_all l₀ whole
  pub capacity : Capacity l rest

pub going_start : (l : Errors) (whole : List Error) → Capacity l whole → Going l l whole whole
going_start l whole r = record { same = refl; capacity = r }

module _ (l₀ l : Errors) (whole : List Error) where
  -- The rest, told another way.
  pub going_as : (rest other : List Error) → rest ≡ other → Going l₀ l whole rest → Going l₀ l whole other
  going_as rest other e g = subst (Going l₀ l whole) e g

  pub going_capacity : (xs rest : List Error) → Going l₀ l whole (xs ++ rest) → Capacity l xs
  going_capacity xs rest g = capacity_left l xs rest g.capacity

  pub going_on : (l' : Errors) (xs rest : List Error) → l' ≡ push_all l xs → Going l₀ l whole (xs ++ rest) → Going l₀ l' whole rest
  going_on l' xs rest e g = record {
    same = ap (λ m. push_all m rest) e ∙ (sym (push_append l xs rest) ∙ g.same);
    capacity = subst (λ m. Capacity m rest) (sym e) (capacity_right l xs rest g.capacity);
  }

  -- The same where the rest is told in two parts.
  pub next_capacity : (rest xs more : List Error) → rest ≡ xs ++ more → Going l₀ l whole rest → Capacity l xs
  next_capacity rest xs more e g = going_capacity xs more (going_as rest (xs ++ more) e g)

  pub next_on : (l' : Errors) (rest xs more : List Error) → rest ≡ xs ++ more → l' ≡ push_all l xs → Going l₀ l whole rest → Going l₀ l' whole more
  next_on l' rest xs more e p g = going_on l' xs more p (going_as rest (xs ++ more) e g)

  pub going_end : (rest : List Error) → rest ≡ [] → Going l₀ l whole rest → l ≡ push_all l₀ whole
  going_end rest e g = push_none l ∙ (ap (push_all l) (sym e) ∙ g.same)

-- ---- Loops over cards.

flat_next {ℓ} : {B : Type ℓ} (f : ℕ → List B) (xs : List ℕ) (i : ℕ) → i < length xs →
    flat_map f (drop i xs) ≡ f (get_or xs i 0) ++ flat_map f (drop (i + 1) xs)
flat_next f xs i h = ap (flat_map f) (rw (add-one, drop-cons xs i 0)) ∙ flat_map_cons f (get_or xs i 0) (drop (i + 1) xs)

flat_done {ℓ} : {B : Type ℓ} (f : ℕ → List B) (xs : List ℕ) (i : ℕ) → length xs ≤ i → flat_map f (drop i xs) ≡ []
flat_done f xs i h = ap (flat_map f) (drop_of_length-le xs h) ∙ flat_map_nil f

-- The turn i of a loop that pushes what f gives for each of xs: what the cards from i on give is left.
pub record Turn (f : ℕ → List Error) (xs : List ℕ) (l₀ l : Errors) (i : ℕ) : Type 0 where
  pub inside : i ≤ length xs
  pub going : Going l₀ l (flat_map f xs) (flat_map f (drop i xs))

module _ (f : ℕ → List Error) (xs : List ℕ) (l₀ : Errors) where
  pub turn_first : Capacity l₀ (flat_map f xs) → Turn f xs l₀ l₀ 0
  turn_first r = record { inside = omega arith; going = going_start l₀ (flat_map f xs) r }

  module _ (l : Errors) (i : ℕ) (turn : Turn f xs l₀ l i) where
    pub turn_fits : i < length xs → Capacity l (f (get_or xs i 0))
    turn_fits h =
        next_capacity l₀ l (flat_map f xs) (flat_map f (drop i xs)) (f (get_or xs i 0)) (flat_map f (drop (i + 1) xs)) (flat_next f xs i h) turn.going

    pub turn_next : i < length xs → (l' : Errors) → l' ≡ push_all l (f (get_or xs i 0)) → Turn f xs l₀ l' (i + 1)
    turn_next h l' p = record {
      inside = omega arith;
      going =
          next_on l₀ l (flat_map f xs) l' (flat_map f (drop i xs)) (f (get_or xs i 0)) (flat_map f (drop (i + 1) xs)) (flat_next f xs i h) p turn.going;
    }

    -- The cards from i on give nothing, or there are none.
    pub turn_left : flat_map f (drop i xs) ≡ [] → l ≡ push_all l₀ (flat_map f xs)
    turn_left e = going_end l₀ l (flat_map f xs) (flat_map f (drop i xs)) e turn.going

    pub turn_last : length xs ≤ i → l ≡ push_all l₀ (flat_map f xs)
    turn_last h = turn_left (flat_done f xs i h)

-- ---- Another name for what is pushed, also for nothing.

pub same_pushed : (l l' : Errors) (es fs : List Error) → es ≡ fs → l' ≡ push_all l fs → l' ≡ push_all l es
same_pushed l l' es fs e p = p ∙ ap (push_all l) (sym e)

pub same_capacity : (l : Errors) (es fs : List Error) → es ≡ fs → Capacity l es → Capacity l fs
same_capacity l es fs e r = subst (Capacity l) e r

pub none_pushed : (l : Errors) (es : List Error) → es ≡ [] → l ≡ push_all l es
none_pushed l es e = push_none l ∙ ap (push_all l) (sym e)

-- ---- Two lists, one after the other.

module _ (l l' : Errors) (es xs ys : List Error) (e : es ≡ xs ++ ys) where
  pub first_capacity : Capacity l es → Capacity l xs
  first_capacity r = capacity_left l xs ys (subst (Capacity l) e r)

  pub second_capacity : l' ≡ push_all l xs → Capacity l es → Capacity l' ys
  second_capacity p r = subst (λ m. Capacity m ys) (sym p) (capacity_right l xs ys (subst (Capacity l) e r))

  pub both_pushed : (l'' : Errors) → l' ≡ push_all l xs → l'' ≡ push_all l' ys → l'' ≡ push_all l es
  both_pushed l'' p q = q ∙ (ap (λ m. push_all m ys) p ∙ (sym (push_append l xs ys) ∙ ap (push_all l) (sym e)))
