-- A search for a type's own extensions may keep to their part of all.
use mathlib.Core.Path.{◌≡◌, refl, sym, ◌∙◌, ap}
use mathlib.Core.List.{List, [], ◌∷◌, ◌++◌, append-nil}
use mathlib.Core.Bool.{Bool, true, false, ◌||◌}
use mathlib.Core.Option.{some}
use Prim.Native.Nat.{ℕ, zero, suc, ◌+◌, ◌-◌, ◌≤◌, ◌<◌}
use native.Mathlib.Omega.{arith}
use Rattle.std.proofs.Common.{inl, inr, ◌⊎◌}
use Rattle.std.proofs.lemmas.Bool.{cases_lt}
use lib.ListN.{length, take, drop, get_or, get_elem?, length-drop, take-append-drop, drop_of_length-le}
use lib.Seq.{get_or-take, get_or-drop, drop-drop, take_all, take-nil}
use Rattle.definition.specs.Lists.{choose, filter, any, find, firsts, All}
use Rattle.definition.specs.Names.{same_name}
use Rattle.definition.specs.Headings.{Heading, is_type_definition, is_type_extension, is_named, same_named, defines_type, defined_types, definition, number_of}
use Rattle.definition.proofs.Lists.{filter_append, first_yes, first_no, any_nil, first_firsts, same_name_eq, same_name_refl}
use Rattle.definition.proofs.All.{all_every}
use Rattle.store_reader.specs.Stored.{card_name, stored_headings, heading_at}
use Rattle.store_reader.proofs.Lists.{all_get}
use Rattle.from_ast_index.proofs.Laws.{type_here, extension_here}
use Rattle.from_ast_index.specs.Index.{Spanned, part, own_extensions, same_cards, Listed, owner_at, is_typed}
use Rattle.from_ast_index.proofs.Lists.{never, chosen_both, none_some, first_filter, get_all, all_kept, taken_most}

-- ---- The part of a list.

-- The bounds brought to what the list has: e is the end or the length, s the start or e.
module _ (start end s e : ℕ) (xs : List ℕ) (e-end : end ≤ length xs → e ≡ end) (e-length : length xs ≤ end → e ≡ length xs)
    (s-start : start ≤ e → s ≡ start) (s-e : e ≤ start → s ≡ e) where
  pub part_clipped : take (e - s) (drop s xs) ≡ part start end xs
  unfolding part
  part_clipped = go (cases_lt e start) (cases_lt (length xs) end)
    where
      go : ((e < start) ⊎ (start ≤ e)) → ((length xs < end) ⊎ (end ≤ length xs)) → take (e - s) (drop s xs) ≡ take (end - start) (drop start xs)
      go (inl h) (inl k) =
          let z : e - s ≡ 0 = omega arith in
          let l : length xs ≤ start = omega arith in
          rw (z, drop_of_length-le xs {i = start} l) (sym (take-nil (end - start)))
      go (inl h) (inr k) = let z : e - s ≡ 0 = omega arith in let y : end - start ≡ 0 = omega arith in rw (z, y)
      go (inr h) (inl k) =
          let n = length-drop start xs in
          let q : s ≡ start = s-start h in
          rw q (take_all (e - start) (drop start xs) (omega arith) ∙ sym (take_all (end - start) (drop start xs) (omega arith)))
      go (inr h) (inr k) = let q : s ≡ start = s-start h in let r : e ≡ end = e-end k in rw (q, r)

-- ---- What a test keeps of a list it keeps of a part in which all lies that passes.

filter_none : (p : ℕ → Bool) (xs : List ℕ) → ((i : ℕ) → i < length xs → p (get_or xs i 0) ≡ true → ⊥) → filter p xs ≡ []
unfolding filter
filter_none p [] h = refl
filter_none p (x ∷ xs) h = go (p x) refl (filter_none p xs (λ i l e. h (suc i) (omega arith) e))
  where
    go : (b : Bool) → p x ≡ b → filter p xs ≡ [] → filter p (x ∷ xs) ≡ []
    go true e k = absurd (h 0 (omega arith) e)
    go false e k = simp (e, k)

taken_inside : (n : ℕ) (l : List ℕ) (i : ℕ) → i < length (take n l) → i < length l
taken_inside zero l i h = absurd (omega arith)
taken_inside (suc n) [] i h = absurd (omega arith)
taken_inside (suc n) (y ∷ l) zero h = omega arith
taken_inside (suc n) (y ∷ l) (suc i) h = let k = taken_inside n l i (omega arith) in omega arith

module _ (p : ℕ → Bool) (xs : List ℕ) (start end : ℕ) (inside : (i : ℕ) → i < length xs → p (get_or xs i 0) ≡ true → (start ≤ i) × (i < end)) where
  none_before : filter p (take start xs) ≡ []
  none_before = filter_none p (take start xs) (λ i l e. no i l e)
    where
      no : (i : ℕ) → i < length (take start xs) → p (get_or (take start xs) i 0) ≡ true → ⊥
      no i l e =
          let m = taken_most start xs in
          let s : i < start = omega arith in
          let q : p (get_or xs i 0) ≡ true = ap p (sym (get_or-take start xs i 0 s)) ∙ e in
          let k : i < length xs = taken_inside start xs i l in
          let r = (inside i k q).0 in
          omega arith

  none_after : filter p (drop (end - start) (drop start xs)) ≡ []
  none_after = ap (filter p) (drop-drop (end - start) start xs) ∙ filter_none p (drop (start + (end - start)) xs) (λ i l e. no i l e)
    where
      no : (i : ℕ) → i < length (drop (start + (end - start)) xs) → p (get_or (drop (start + (end - start)) xs) i 0) ≡ true → ⊥
      no i l e =
          let d = length-drop (start + (end - start)) xs in
          let q : p (get_or xs (start + (end - start) + i) 0) ≡ true = ap p (sym (get_or-drop (start + (end - start)) xs i 0)) ∙ e in
          let r = inside (start + (end - start) + i) (omega arith) q in
          omega (arith, r.0, r.1)

  pub filter_part : filter p xs ≡ filter p (part start end xs)
  unfolding part
  filter_part =
      ap (filter p) (sym (take-append-drop start xs))
      ∙ filter_append p (take start xs) (drop start xs)
      ∙ ap (λ (l : List ℕ). l ++ filter p (drop start xs)) none_before
      ∙ ap (filter p) (sym (take-append-drop (end - start) (drop start xs)))
      ∙ filter_append p (take (end - start) (drop start xs)) (drop (end - start) (drop start xs))
      ∙ ap (λ (l : List ℕ). filter p (take (end - start) (drop start xs)) ++ l) none_after
      ∙ append-nil (filter p (take (end - start) (drop start xs)))

-- ---- The first of a kind is the first one that is like it.

module _ {ℓ} {A : Type ℓ} (alike : A → A → Bool) (self : (x : A) → alike x x ≡ true) where
  none_more : (p : A → Bool) (xs : List A) (y : A) → any p (xs ++ (y ∷ [])) ≡ false → (any p xs ≡ false) × (p y ≡ false)
  unfolding any
  none_more p [] y e = go (p y) refl
    where
      go : (b : Bool) → p y ≡ b → (false ≡ false) × (p y ≡ false)
      go true q = never (rw q at e)
      go false q = (refl, q)
  none_more p (x ∷ xs) y e = go (p x) refl (none_more p xs y)
    where
      go : (b : Bool) → p x ≡ b → (any p (xs ++ (y ∷ [])) ≡ false → (any p xs ≡ false) × (p y ≡ false)) → (any p (x ∷ xs) ≡ false) × (p y ≡ false)
      go true q h = never (rw q at e)
      go false q h = let r = h (rw q at e) in (simp (q, r.0), r.1)

  first_itself : (seen xs : List A) (k : ℕ) (x : A) → get_elem? (firsts alike seen xs) k ≡ some x →
      (any (alike x) seen ≡ false) × (find (alike x) (firsts alike seen xs) ≡ some x)
  unfolding firsts
  first_itself seen [] k x e = absurd (none_some x e)
  first_itself seen (y ∷ xs) k x e = go (any (alike y) seen) refl (first_itself seen xs) (first_itself (seen ++ (y ∷ [])) xs)
    where
      go : (b : Bool) → any (alike y) seen ≡ b →
          ((j : ℕ) (z : A) → get_elem? (firsts alike seen xs) j ≡ some z → (any (alike z) seen ≡ false) × (find (alike z) (firsts alike seen xs) ≡ some z)) →
          ((j : ℕ) (z : A) → get_elem? (firsts alike (seen ++ (y ∷ [])) xs) j ≡ some z →
          (any (alike z) (seen ++ (y ∷ [])) ≡ false) × (find (alike z) (firsts alike (seen ++ (y ∷ [])) xs) ≡ some z)) →
          (any (alike x) seen ≡ false) × (find (alike x) (firsts alike seen (y ∷ xs)) ≡ some x)
      go true q h g = rw q (h k x (rw q at e))
      go false q h g = rw q (at k (rw q at e))
        where
          at : (j : ℕ) → get_elem? (y ∷ firsts alike (seen ++ (y ∷ [])) xs) j ≡ some x →
              (any (alike x) seen ≡ false) × (find (alike x) (y ∷ firsts alike (seen ++ (y ∷ [])) xs) ≡ some x)
          at zero r = let s : y ≡ x = cc in rw (← s) (q, first_yes (alike y) y (firsts alike (seen ++ (y ∷ [])) xs) (self y))
          at (suc j) r =
              let w = g j x r in
              let u = none_more (alike x) seen y w.0 in
              (u.0, first_no (alike x) y (firsts alike (seen ++ (y ∷ [])) xs) u.1 ∙ w.1)

-- ---- The owner of an extension of a type's name is the type.

named_self : (h : Heading) → same_named h h ≡ true
unfolding same_named is_named
named_self h = same_name_refl h.name

named_fair : (h x y : Heading) → same_named x y ≡ true → same_named h x ≡ same_named h y
unfolding same_named is_named
named_fair h x y e = ap (same_name h.name) (same_name_eq x.name y.name e)

-- A heading defines a name where it defines a type and has the name.
named_defines : (n : List ℕ) (h : Heading) → choose (is_type_definition h) (is_named n h) false ≡ defines_type n h
unfolding defines_type
named_defines n h = chosen_both (is_type_definition h) (is_named n h)

pub all_named : (n : List ℕ) (hs : List Heading) → All (λ h. choose (is_type_definition h) (is_named n h) false ≡ defines_type n h) hs
all_named n hs = all_every (λ h. choose (is_type_definition h) (is_named n h) false ≡ defines_type n h) (named_defines n) hs

-- A type is the definition of its name.
type_defines : (hs : List Heading) (k : ℕ) (h : Heading) → get_elem? (defined_types hs) k ≡ some h → definition h.name hs ≡ some h
unfolding defined_types definition same_named
type_defines hs k h e =
    sym (first_filter (is_named h.name) is_type_definition (defines_type h.name) hs (all_named h.name hs))
    ∙ sym (first_firsts same_named (same_named h) (named_fair h) [] (filter is_type_definition hs) (any_nil (same_named h)))
    ∙ (first_itself same_named named_self [] (filter is_type_definition hs) k h e).1

module _ {text words headings owners types orphan_cards extensions : List ℕ} (x : Listed text words headings owners types orphan_cards extensions) where
  extends_typed : (h : Heading) → is_type_extension h ≡ true → is_typed h ≡ true
  unfolding is_typed
  extends_typed h y = rw y (or_true (is_type_definition h))
    where
      or_true : (b : Bool) → (b || true) ≡ true
      or_true true = refl
      or_true false = refl

  extension_owners : All (λ h. get_or owners h.number 0 ≡ number_of (definition h.name (stored_headings text words)))
      (filter is_type_extension (stored_headings text words))
  extension_owners =
      all_kept (λ h. get_or owners h.number 0 ≡ number_of (definition h.name (stored_headings text words))) is_type_extension (stored_headings text words)
      (get_all (λ h. is_type_extension h ≡ true → get_or owners h.number 0 ≡ number_of (definition h.name (stored_headings text words)))
      (stored_headings text words)
      (λ k h at y. x.owners_are k h at (extends_typed h y)))

  module _ (k i : ℕ) (k-t : k < length types) (i-e : i < length extensions) (same : same_cards text words (get_or types k 0) (get_or extensions i 0) ≡ true) where
    pub owner_is_type : get_or owners (get_or extensions i 0) 0 ≡ get_or types k 0
    unfolding same_cards number_of
    owner_is_type =
        let c : Heading = heading_at text words (get_or types k 0) in
        let d : Heading = heading_at text words (get_or extensions i 0) in
        let here = type_here x k k-t in
        let there = extension_here x i i-e in
        let named : c.name ≡ d.name = same_name_eq (card_name text words (get_or types k 0)) (card_name text words (get_or extensions i 0)) same in
        all_get (λ h. get_or owners h.number 0 ≡ number_of (definition h.name (stored_headings text words)))
        (filter is_type_extension (stored_headings text words)) extension_owners i d there
        ∙ ap (λ (n : List ℕ). number_of (definition n (stored_headings text words))) (sym named)
        ∙ ap number_of (type_defines (stored_headings text words) k c here)

  module _ {starts ends : List ℕ} (s : Spanned words owners extensions starts ends) where
    -- The extensions of a type's name stand in its part.
    pub of_type_spanned : (k i : ℕ) → k < length types → i < length extensions → same_cards text words (get_or types k 0) (get_or extensions i 0) ≡ true →
        (get_or starts (get_or types k 0) 0 ≤ i) × (i < get_or ends (get_or types k 0) 0)
    of_type_spanned k i k-t i-e same =
        let at : owner_at owners extensions i ≡ get_or types k 0 = owner_is_type k i k-t i-e same in
        let stored = x.types_stored k k-t in (
          rw at at (s.starts_are.at_or_after i (omega arith) (omega arith) (omega (arith, at, s.starts_length))),
          rw at at (s.ends_are.before_end i (omega arith) (omega (arith, at, s.ends_length))),
        )

    -- Whatever asks for the name of a type keeps of all extensions what it keeps of the type's part.
    pub kept_spanned : (k : ℕ) → k < length types → (p : ℕ → Bool) → ((d : ℕ) → p d ≡ true → same_cards text words (get_or types k 0) d ≡ true) →
        filter p extensions ≡ filter p (own_extensions extensions starts ends (get_or types k 0))
    unfolding own_extensions
    kept_spanned k k-t p asks =
        filter_part p extensions (get_or starts (get_or types k 0) 0) (get_or ends (get_or types k 0) 0) (λ i l y. within i l y)
      where
        within : (i : ℕ) → i < length extensions → p (get_or extensions i 0) ≡ true →
            (get_or starts (get_or types k 0) 0 ≤ i) × (i < get_or ends (get_or types k 0) 0)
        within i l y = of_type_spanned k i k-t l (asks (get_or extensions i 0) y)
