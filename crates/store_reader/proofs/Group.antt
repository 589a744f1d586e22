-- Grouping a list of cards into headings with their parts.
use mathlib.Core.Path.{◌≡◌, refl, sym, ◌∙◌, ap}
use mathlib.Core.List.{List, [], ◌∷◌, ◌++◌}
use mathlib.Core.Bool.{Bool, true, false}
use mathlib.Core.Option.{none, some}
use Prim.Native.Nat.{ℕ, zero, suc, ◌+◌, ◌≤◌}
use native.Mathlib.Omega.{arith}
use lib.ListN.{length, drop, get_elem?, length-drop, drop_of_length-le}
use lib.Seq.{drop-drop}
use Rattle.definition.specs.Lists.{take_until, All}
use Rattle.definition.specs.Cards.{is_part}
use Rattle.definition.specs.Headings.{NamedCard, Heading}
use Rattle.store_reader.specs.Stored.{heading_with, headings_of, is_heading_item, parts_from}
use Rattle.store_reader.proofs.Lists.{drop_get, drop_is, drop_rest, get_drop}

-- ---- The elements before the first that passes.

module _ (cs : List NamedCard) (c : NamedCard) where
  before_head : is_part c.kind ≡ false → take_until is_heading_item (c ∷ cs) ≡ []
  unfolding take_until is_heading_item
  before_head e = rw e

  before_part : is_part c.kind ≡ true → take_until is_heading_item (c ∷ cs) ≡ c ∷ take_until is_heading_item cs
  unfolding take_until is_heading_item
  before_part e = rw e

before_nil : take_until is_heading_item [] ≡ []
unfolding take_until
before_nil = refl

module _ (cs : List NamedCard) (i : ℕ) where
  pub parts_at_part : (c : NamedCard) → get_elem? cs i ≡ some c → is_part c.kind ≡ true → parts_from cs i ≡ c ∷ parts_from cs (i + 1)
  unfolding parts_from
  parts_at_part c e p = ap (take_until is_heading_item) (drop_get cs i c e) ∙ before_part (drop (i + 1) cs) c p

  pub parts_at_heading : (c : NamedCard) → get_elem? cs i ≡ some c → is_part c.kind ≡ false → parts_from cs i ≡ []
  unfolding parts_from
  parts_at_heading c e p = ap (take_until is_heading_item) (drop_get cs i c e) ∙ before_head (drop (i + 1) cs) c p

  pub parts_at_end : length cs ≤ i → parts_from cs i ≡ []
  unfolding parts_from
  parts_at_end h = ap (take_until is_heading_item) (drop_of_length-le cs h) ∙ before_nil

length_before_lem : (cs : List NamedCard) → length (take_until is_heading_item cs) ≤ length cs
length_before_lem [] = rw before_nil (omega arith)
length_before_lem (c ∷ cs) = go (is_part c.kind) refl (length_before_lem cs)
  where
    go : (b : Bool) → is_part c.kind ≡ b → length (take_until is_heading_item cs) ≤ length cs → length (take_until is_heading_item (c ∷ cs)) ≤ suc (length cs)
    go true e ih = rw (before_part cs c e) (omega arith)
    go false e ih = rw (before_head cs c e) (omega arith)

-- The parts from a position on end within the list.
pub parts_inside : (cs : List NamedCard) (i : ℕ) → i ≤ length cs → i + length (parts_from cs i) ≤ length cs
unfolding parts_from
parts_inside cs i h = let a = length_before_lem (drop i cs) in let b = length-drop i cs in omega arith

-- A later position of the same run.
before_drop : (cs : List NamedCard) (k : ℕ) → k ≤ length (take_until is_heading_item cs) →
    take_until is_heading_item (drop k cs) ≡ drop k (take_until is_heading_item cs)
before_drop cs zero h = refl
before_drop [] (suc k) h = rw before_nil
before_drop (c ∷ cs) (suc k) h = go (is_part c.kind) refl (before_drop cs k)
  where
    go : (b : Bool) → is_part c.kind ≡ b →
        (k ≤ length (take_until is_heading_item cs) → take_until is_heading_item (drop k cs) ≡ drop k (take_until is_heading_item cs)) →
        take_until is_heading_item (drop k cs) ≡ drop (suc k) (take_until is_heading_item (c ∷ cs))
    go true e ih = let l = ap length (before_part cs c e) in rw (before_part cs c e) (ih (omega arith))
    go false e ih = let l = ap length (before_head cs c e) in absurd (omega arith)

pub parts_later : (cs : List NamedCard) (i k : ℕ) → k ≤ length (parts_from cs i) → parts_from cs (i + k) ≡ drop k (parts_from cs i)
unfolding parts_from
parts_later cs i k h = sym (ap (take_until is_heading_item) (drop-drop k i cs)) ∙ before_drop (drop i cs) k h

-- The parts of a run are the cards at its positions.
before_get : (cs : List NamedCard) (k : ℕ) (c : NamedCard) → get_elem? (take_until is_heading_item cs) k ≡ some c → get_elem? cs k ≡ some c
before_get [] k c e = rw before_nil at e
before_get (x ∷ cs) k c e = go k e (is_part x.kind) refl (before_get cs)
  where
    go : (k : ℕ) → get_elem? (take_until is_heading_item (x ∷ cs)) k ≡ some c → (b : Bool) → is_part x.kind ≡ b →
        ((k : ℕ) (c : NamedCard) → get_elem? (take_until is_heading_item cs) k ≡ some c → get_elem? cs k ≡ some c) → get_elem? (x ∷ cs) k ≡ some c
    go zero e true p ih = rw (before_part cs x p) at e
    go (suc k) e true p ih = ih k c (rw (before_part cs x p) at e)
    go k e false p ih = absurd (let q : none ≡ some c = rw (before_head cs x p) at e in let z : ◌≡◌ {A = ℕ} 0 1 = cc in omega arith)

pub parts_get : (cs : List NamedCard) (i k : ℕ) (c : NamedCard) → get_elem? (parts_from cs i) k ≡ some c → get_elem? cs (i + k) ≡ some c
unfolding parts_from
parts_get cs i k c e = sym (get_drop cs i k) ∙ before_get (drop i cs) k c e

before_are_parts : (cs : List NamedCard) → All (λ c. is_part c.kind ≡ true) (take_until is_heading_item cs)
before_are_parts [] = rw before_nil tt
before_are_parts (c ∷ cs) = go (is_part c.kind) refl (before_are_parts cs)
  where
    go : (b : Bool) → is_part c.kind ≡ b → All (λ c. is_part c.kind ≡ true) (take_until is_heading_item cs) →
        All (λ c. is_part c.kind ≡ true) (take_until is_heading_item (c ∷ cs))
    go true e ih = rw (before_part cs c e) (e, ih)
    go false e ih = rw (before_head cs c e) tt

pub parts_are_parts : (cs : List NamedCard) (i : ℕ) → All (λ c. is_part c.kind ≡ true) (parts_from cs i)
unfolding parts_from
parts_are_parts cs i = before_are_parts (drop i cs)

-- The heading h is the one at the position of its number, with the parts that follow there.
pub record HeadAt (b g : ℕ → Bool) (cs : List NamedCard) (h : Heading) : Type 0 where
  pub card : NamedCard
  pub held : get_elem? cs h.number ≡ some card
  pub heading : is_part card.kind ≡ false
  pub same : h ≡ heading_with (b h.number) (g h.number) card (parts_from cs (h.number + 1))

-- ---- The branches of `headings`.

module _ (b g : ℕ → Bool) where
  pub headings_nil : headings_of b g [] ≡ ([], [])
  unfolding headings_of
  headings_nil = refl

  pub headings_part : (c : NamedCard) (cs : List NamedCard) → is_part c.kind ≡ true →
      headings_of b g (c ∷ cs) ≡ (c ∷ (headings_of b g cs).0, (headings_of b g cs).1)
  unfolding headings_of
  headings_part c cs e = rw e

  pub headings_heading : (c : NamedCard) (cs : List NamedCard) → is_part c.kind ≡ false →
      headings_of b g (c ∷ cs) ≡ ([], heading_with (b c.number) (g c.number) c (headings_of b g cs).0 ∷ (headings_of b g cs).1)
  unfolding headings_of
  headings_heading c cs e = rw e

  -- What is not under a heading yet is what stands before the first one, and it adds no heading.
  headings_before : (cs : List NamedCard) → (headings_of b g cs).0 ≡ take_until is_heading_item cs
  headings_before [] = rw (headings_nil, before_nil)
  headings_before (c ∷ cs) = go (is_part c.kind) refl (headings_before cs)
    where
      go : (t : Bool) → is_part c.kind ≡ t → (headings_of b g cs).0 ≡ take_until is_heading_item cs → (headings_of b g (c ∷ cs)).0 ≡ take_until is_heading_item (c ∷ cs)
      go true e ih = rw (headings_part c cs e, before_part cs c e, ih)
      go false e ih = rw (headings_heading c cs e, before_head cs c e)

  pub headings_parts : (cs : List NamedCard) → (headings_of b g cs).0 ≡ parts_from cs 0
  unfolding parts_from
  headings_parts cs = headings_before cs

  headings_after : (cs : List NamedCard) → (headings_of b g (drop (length (take_until is_heading_item cs)) cs)).1 ≡ (headings_of b g cs).1
  headings_after [] = rw before_nil
  headings_after (c ∷ cs) = go (is_part c.kind) refl (headings_after cs)
    where
      go : (t : Bool) → is_part c.kind ≡ t → (headings_of b g (drop (length (take_until is_heading_item cs)) cs)).1 ≡ (headings_of b g cs).1 →
          (headings_of b g (drop (length (take_until is_heading_item (c ∷ cs))) (c ∷ cs))).1 ≡ (headings_of b g (c ∷ cs)).1
      go true e ih = rw (before_part cs c e, headings_part c cs e) ih
      go false e ih = rw (before_head cs c e)

  -- A turn of a loop over the cards.
  module _ (cs : List NamedCard) (i : ℕ) where
    pub headings_at_heading : (c : NamedCard) → get_elem? cs i ≡ some c → is_part c.kind ≡ false →
        (headings_of b g (drop i cs)).1 ≡
        heading_with (b c.number) (g c.number) c (parts_from cs (i + 1)) ∷ (headings_of b g (drop (i + 1 + length (parts_from cs (i + 1))) cs)).1
    unfolding parts_from
    headings_at_heading c e p =
        let rest : List NamedCard = drop (i + 1) cs in
        ap (λ (l : List NamedCard). (headings_of b g l).1) (drop_get cs i c e)
        ∙ ap (λ (q : List NamedCard × List Heading). q.1) (headings_heading c rest p)
        ∙ ap (λ (l : List NamedCard). heading_with (b c.number) (g c.number) c l ∷ (headings_of b g rest).1) (headings_before rest)
        ∙ ap (λ (l : List Heading). heading_with (b c.number) (g c.number) c (take_until is_heading_item rest) ∷ l)
        (sym (headings_after rest) ∙ ap (λ (l : List NamedCard). (headings_of b g l).1) (drop-drop (length (take_until is_heading_item rest)) (i + 1) cs))

    pub headings_at_part : (c : NamedCard) → get_elem? cs i ≡ some c → is_part c.kind ≡ true →
        (headings_of b g (drop i cs)).1 ≡ (headings_of b g (drop (i + 1) cs)).1
    headings_at_part c e p =
        ap (λ (l : List NamedCard). (headings_of b g l).1) (drop_get cs i c e)
        ∙ ap (λ (q : List NamedCard × List Heading). q.1) (headings_part c (drop (i + 1) cs) p)

    pub headings_at_end : length cs ≤ i → (headings_of b g (drop i cs)).1 ≡ []
    headings_at_end h =
        ap (λ (l : List NamedCard). (headings_of b g l).1) (drop_of_length-le cs h) ∙ ap (λ (q : List NamedCard × List Heading). q.1) headings_nil

    -- The same past a run of parts.
    pub headings_past_parts : (headings_of b g (drop i cs)).1 ≡ (headings_of b g (drop (i + length (parts_from cs i)) cs)).1
    unfolding parts_from
    headings_past_parts =
        sym (headings_after (drop i cs)) ∙ ap (λ (l : List NamedCard). (headings_of b g l).1) (drop-drop (length (take_until is_heading_item (drop i cs))) i cs)

  -- Each heading of a list whose cards are numbered by their positions.
  head_at : (cs xs : List NamedCard) (i : ℕ) (c : NamedCard) → drop i cs ≡ c ∷ xs → c.number ≡ i → is_part c.kind ≡ false →
      HeadAt b g cs (heading_with (b c.number) (g c.number) c (headings_of b g xs).0)
  unfolding parts_from
  head_at cs xs i c e n p = record {
    card = c;
    held = ap (get_elem? cs) n ∙ drop_is cs i c xs e;
    heading = p;
    same =
        let rest : drop (c.number + 1) cs ≡ xs = ap (λ (m : ℕ). drop (m + 1) cs) n ∙ drop_rest cs i c xs e in
        ap (heading_with (b c.number) (g c.number) c) (headings_before xs ∙ ap (take_until is_heading_item) (sym rest));
  }

  headings_from_are : (cs xs : List NamedCard) (i : ℕ) → drop i cs ≡ xs → ((n : ℕ) (c : NamedCard) → get_elem? cs n ≡ some c → c.number ≡ n) →
      All (HeadAt b g cs) (headings_of b g xs).1
  headings_from_are cs [] i e num = rw headings_nil tt
  headings_from_are cs (c ∷ xs) i e num = go (is_part c.kind) refl (headings_from_are cs xs (i + 1) (drop_rest cs i c xs e) num)
    where
      go : (t : Bool) → is_part c.kind ≡ t → All (HeadAt b g cs) (headings_of b g xs).1 → All (HeadAt b g cs) (headings_of b g (c ∷ xs)).1
      go true p ih = rw (headings_part c xs p) ih
      go false p ih = rw (headings_heading c xs p) (head_at cs xs i c e (num i c (drop_is cs i c xs e)) p, ih)

  pub headings_are : (cs : List NamedCard) → ((n : ℕ) (c : NamedCard) → get_elem? cs n ≡ some c → c.number ≡ n) → All (HeadAt b g cs) (headings_of b g cs).1
  headings_are cs num = headings_from_are cs cs 0 refl num

  -- Lists that begin with a heading, or are empty, can be grouped one after the other.
  pub headings_append : (xs ys : List NamedCard) → (headings_of b g ys).0 ≡ [] →
      headings_of b g (xs ++ ys) ≡ ((headings_of b g xs).0, (headings_of b g xs).1 ++ (headings_of b g ys).1)
  headings_append [] ys e = rw headings_nil (λ i. (e i, (headings_of b g ys).1))
  headings_append (x ∷ xs) ys e = go (is_part x.kind) refl (headings_append xs ys e)
    where
      go : (t : Bool) → is_part x.kind ≡ t → headings_of b g (xs ++ ys) ≡ ((headings_of b g xs).0, (headings_of b g xs).1 ++ (headings_of b g ys).1) →
          headings_of b g (x ∷ (xs ++ ys)) ≡ ((headings_of b g (x ∷ xs)).0, (headings_of b g (x ∷ xs)).1 ++ (headings_of b g ys).1)
      go true p ih = rw (headings_part x (xs ++ ys) p, headings_part x xs p, ih)
      go false p ih = rw (headings_heading x (xs ++ ys) p, headings_heading x xs p, ih)
