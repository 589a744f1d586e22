-- A part comes again just where the first of all merged parts that is alike it is another one: so collisions are told by looking every part up in
-- the whole list, of which some parts are seen before and some come later.
use mathlib.Core.Path.{◌≡◌, refl, sym, ◌∙◌, ap}
use mathlib.Core.Logic.{◌⊎◌, inl, inr}
use mathlib.Core.List.{List, [], ◌∷◌, ◌++◌, append_assoc}
use mathlib.Core.Bool.{Bool, true, false, ◌&&◌, ◌||◌, not}
use mathlib.Core.Option.{Option, none, some}
use Prim.Native.Nat.{ℕ, ◌+◌, ◌≤◌}
use native.Mathlib.Omega.{arith}
use lib.Dec.{eqb}
use borrow.Author.Tests.{eqb-true, eq-eqb, ne_eqb}
use Rattle.definition.specs.Lists.{All, choose, found, find, flat_map, repeats}
use Rattle.definition.specs.Names.{same_name}
use Rattle.definition.specs.Cards.{is_root}
use Rattle.definition.specs.Headings.{NamedCard, alike}
use Rattle.definition.proofs.Lists.{flat_map_nil, flat_map_cons, first_nil, first_yes, first_no, first_append_some, first_append_none, repeats_nil}
use Rattle.definition.proofs.Lists.{repeats_new, repeats_old, same_name_eq, same_name_refl}
use Rattle.definition.proofs.Tests.{zero_one}

-- ---- What is alike.

record Like (p q : NamedCard) : Type 0 where
  kinds : p.kind ≡ q.kind
  names : (is_root p.kind ≡ true) ⊎ ((is_root p.kind ≡ false) × (eqb p.kind 20 ≡ false) × (p.name ≡ q.name))

like : (p q : NamedCard) → alike p q ≡ true → Like p q
unfolding alike
like p q h = go (eqb p.kind q.kind) (is_root p.kind) (eqb p.kind 20) (same_name p.name q.name) refl refl refl refl h
  where
    go : (a b c d : Bool) → eqb p.kind q.kind ≡ a → is_root p.kind ≡ b → eqb p.kind 20 ≡ c → same_name p.name q.name ≡ d →
        (a && (b || (not c && d))) ≡ true → Like p q
    go false b c d e f g i h = let z : false ≡ true = h in record { kinds = cc; names = inl cc }
    go true true c d e f g i h = record { kinds = eqb-true _ _ e; names = inl f }
    go true false true d e f g i h = let z : false ≡ true = h in record { kinds = cc; names = inl cc }
    go true false false true e f g i h = record { kinds = eqb-true _ _ e; names = inr (f, g, same_name_eq _ _ i) }
    go true false false false e f g i h = let z : false ≡ true = h in record { kinds = cc; names = inl cc }

unlike : (p q : NamedCard) → Like p q → alike p q ≡ true
unfolding alike
unlike p q l = go l.names
  where
    go : ((is_root p.kind ≡ true) ⊎ ((is_root p.kind ≡ false) × (eqb p.kind 20 ≡ false) × (p.name ≡ q.name))) →
        (eqb p.kind q.kind && (is_root p.kind || (not (eqb p.kind 20) && same_name p.name q.name))) ≡ true
    go (inl r) = rw (eq-eqb p.kind q.kind l.kinds, r)
    go (inr n) = rw (eq-eqb p.kind q.kind l.kinds, n.0, n.1, n.2, same_name_refl q.name)

pub alike_trans : (z x y : NamedCard) → alike z x ≡ true → alike x y ≡ true → alike z y ≡ true
alike_trans z x y f g = unlike z y (go (like z x f) (like x y g))
  where
    go : Like z x → Like x y → Like z y
    go a b = record { kinds = a.kinds ∙ b.kinds; names = names a.names b.names }
      where
        names : ((is_root z.kind ≡ true) ⊎ ((is_root z.kind ≡ false) × (eqb z.kind 20 ≡ false) × (z.name ≡ x.name))) →
            ((is_root x.kind ≡ true) ⊎ ((is_root x.kind ≡ false) × (eqb x.kind 20 ≡ false) × (x.name ≡ y.name))) →
            ((is_root z.kind ≡ true) ⊎ ((is_root z.kind ≡ false) × (eqb z.kind 20 ≡ false) × (z.name ≡ y.name)))
        names (inl r) n = inl r
        names (inr m) (inl r) = inl (ap is_root a.kinds ∙ r)
        names (inr m) (inr n) = inr (m.0, m.1, m.2 ∙ n.2)

pub alike_sym : (x y : NamedCard) → alike x y ≡ true → alike y x ≡ true
alike_sym x y f = go (like x y f)
  where
    names : Like x y → ((is_root x.kind ≡ true) ⊎ ((is_root x.kind ≡ false) × (eqb x.kind 20 ≡ false) × (x.name ≡ y.name))) →
        ((is_root y.kind ≡ true) ⊎ ((is_root y.kind ≡ false) × (eqb y.kind 20 ≡ false) × (y.name ≡ x.name)))
    names l (inl r) = inl (sym (ap is_root l.kinds) ∙ r)
    names l (inr m) = inr (sym (ap is_root l.kinds) ∙ m.0, sym (ap (λ (k : ℕ). eqb k 20) l.kinds) ∙ m.1, sym m.2)

    go : Like x y → alike y x ≡ true
    go l = unlike y x (record { kinds = sym l.kinds; names = names l l.names })

-- What is alike one of two that are alike is alike the other.
pub alike_both : (x a b : NamedCard) → alike a b ≡ true → alike x a ≡ alike x b
alike_both x a b h = go (alike x a) (alike x b) refl refl
  where
    go : (s t : Bool) → alike x a ≡ s → alike x b ≡ t → alike x a ≡ alike x b
    go true t e f = e ∙ sym (alike_trans x a b e h)
    go false false e f = e ∙ sym f
    go false true e f = let z : true ≡ false = sym (alike_trans x b a f (alike_sym a b h)) ∙ e in cc

pub alike_self : (x : NamedCard) → eqb x.kind 20 ≡ false → alike x x ≡ true
alike_self x e = go (is_root x.kind) refl
  where
    go : (b : Bool) → is_root x.kind ≡ b → alike x x ≡ true
    go true r = unlike x x (record { kinds = refl; names = inl r })
    go false r = unlike x x (record { kinds = refl; names = inr (r, e, refl) })

-- Directive uses are like nothing.
pub alike_use : (x y : NamedCard) → eqb x.kind 20 ≡ true → alike x y ≡ false
unfolding alike is_root
alike_use x y e = let k : x.kind ≡ 20 = eqb-true x.kind 20 e in go (eqb x.kind y.kind) k
  where
    go : (b : Bool) → x.kind ≡ 20 → (b && (is_root x.kind || (not (eqb x.kind 20) && same_name x.name y.name))) ≡ false
    go true k = rw k
    go false k = refl

-- ---- How often a number stands in a list.

unfoldable pub times : ℕ → List NamedCard → ℕ
times n [] = 0
times n (p ∷ ps) = choose (eqb p.number n) 1 0 + times n ps

pub times_none : (n : ℕ) → times n [] ≡ 0
unfolding times
times_none n = refl

pub times_append : (n : ℕ) (xs ys : List NamedCard) → times n (xs ++ ys) ≡ times n xs + times n ys
unfolding times
times_append n [] ys = omega arith
times_append n (x ∷ xs) ys = omega (arith, times_append n xs ys)

-- Where a number stands once in the whole, it does in a part that the whole begins with.
pub times_fewer : (n : ℕ) (whole seen ps rest : List NamedCard) → whole ≡ seen ++ (ps ++ rest) → times n whole ≤ 1 → times n (seen ++ ps) ≤ 1
times_fewer n whole seen ps rest e h =
    omega (arith, h, ap (times n) e, times_append n seen (ps ++ rest), times_append n ps rest, times_append n seen ps)

times_here : (x : NamedCard) (xs : List NamedCard) → times x.number (x ∷ xs) ≡ 1 + times x.number xs
unfolding times
times_here x xs = rw (eq-eqb x.number x.number refl)

-- What is found has a number that stands there.
times_found : (p : NamedCard → Bool) (xs : List NamedCard) (y : NamedCard) → find p xs ≡ some y → 1 ≤ times y.number xs
unfolding times
times_found p [] y h = let z : none ≡ some y = sym (first_nil p) ∙ h in absurd (zero_one cc)
times_found p (x ∷ xs) y h = go (p x) refl (times_found p xs y)
  where
    go : (b : Bool) → p x ≡ b → (find p xs ≡ some y → 1 ≤ times y.number xs) → 1 ≤ choose (eqb x.number y.number) 1 0 + times y.number xs
    go true e ih =
        let s : some x ≡ some y = sym (first_yes p x xs e) ∙ h in
        let q : x ≡ y = cc in
        rw (eq-eqb x.number y.number (ap (λ (p : NamedCard). p.number) q)) (omega arith)
    go false e ih = omega (arith, ih (sym (first_no p x xs e) ∙ h))

-- ---- Repeats against the whole list.

-- A part that is not the first of its like, with the first.
unfoldable pub repeat_in : List NamedCard → NamedCard → List (NamedCard × NamedCard)
repeat_in all x = found (find (alike x) all) (λ y. choose (eqb y.number x.number) [] ((x, y) ∷ [])) []

-- Nothing that is asked for is told apart by the parts of `seen` that came again.
abbrev Same : List NamedCard → List NamedCard → Type 0
Same kept seen = (z : NamedCard) → find (alike z) kept ≡ find (alike z) seen

same_new : (kept seen : List NamedCard) (x : NamedCard) → Same kept seen → Same (kept ++ (x ∷ [])) (seen ++ (x ∷ []))
same_new kept seen x s z = go (find (alike z) seen) refl
  where
    go : (o : Option NamedCard) → find (alike z) seen ≡ o → find (alike z) (kept ++ (x ∷ [])) ≡ find (alike z) (seen ++ (x ∷ []))
    go none e = first_append_none (alike z) kept (x ∷ []) (s z ∙ e) ∙ sym (first_append_none (alike z) seen (x ∷ []) e)
    go (some y) e = first_append_some (alike z) kept (x ∷ []) y (s z ∙ e) ∙ sym (first_append_some (alike z) seen (x ∷ []) y e)

-- What is found passes.
found_passes : (p : NamedCard → Bool) (xs : List NamedCard) (y : NamedCard) → find p xs ≡ some y → p y ≡ true
found_passes p [] y h = let z : none ≡ some y = sym (first_nil p) ∙ h in cc
found_passes p (x ∷ xs) y h = go (p x) refl (found_passes p xs y)
  where
    go : (b : Bool) → p x ≡ b → (find p xs ≡ some y → p y ≡ true) → p y ≡ true
    go true e ih = let s : some x ≡ some y = sym (first_yes p x xs e) ∙ h in let q : x ≡ y = cc in sym (ap p q) ∙ e
    go false e ih = ih (sym (first_no p x xs e) ∙ h)

-- What nothing of a list passes, the found one does not.
none_passes : (p q : NamedCard → Bool) (xs : List NamedCard) (y : NamedCard) → find p xs ≡ some y → find q xs ≡ none → q y ≡ false
none_passes p q [] y h n = let z : none ≡ some y = sym (first_nil p) ∙ h in cc
none_passes p q (x ∷ xs) y h n = go (p x) (q x) refl refl (none_passes p q xs y)
  where
    go : (b c : Bool) → p x ≡ b → q x ≡ c → (find p xs ≡ some y → find q xs ≡ none → q y ≡ false) → q y ≡ false
    go b true e f ih = let z : some x ≡ none = sym (first_yes q x xs f) ∙ n in cc
    go true false e f ih = let s : some x ≡ some y = sym (first_yes p x xs e) ∙ h in let r : x ≡ y = cc in sym (ap q r) ∙ f
    go false false e f ih = ih (sym (first_no p x xs e) ∙ h) (sym (first_no q x xs f) ∙ n)

same_old : (kept seen : List NamedCard) (x y : NamedCard) → find (alike x) seen ≡ some y → Same kept seen → Same kept (seen ++ (x ∷ []))
same_old kept seen x y h s z = s z ∙ go (find (alike z) seen) (alike z x) refl refl
  where
    go : (o : Option NamedCard) (b : Bool) → find (alike z) seen ≡ o → alike z x ≡ b → find (alike z) seen ≡ find (alike z) (seen ++ (x ∷ []))
    go (some w) b e f = e ∙ sym (first_append_some (alike z) seen (x ∷ []) w e)
    go none false e f = e ∙ sym (first_append_none (alike z) seen (x ∷ []) e ∙ (first_no (alike z) x [] f ∙ first_nil (alike z)))
    go none true e f =
        let t : alike z y ≡ true = alike_trans z x y f (found_passes (alike x) seen y h) in
        let n : alike z y ≡ false = none_passes (alike x) (alike z) seen y h e in
        let q : true ≡ false = sym t ∙ n in
        cc

-- The part in hand, against all: one seen before stays, else the part itself does, and a directive use is found nowhere.
repeat_old : (seen : List NamedCard) (x y : NamedCard) (more : List NamedCard) → find (alike x) seen ≡ some y → (y.number ≡ x.number → ⊥) →
    repeat_in (seen ++ more) x ≡ (x, y) ∷ []
unfolding repeat_in
repeat_old seen x y more h d = rw (first_append_some (alike x) seen more y h, ne_eqb y.number x.number d)

use_nowhere : (x : NamedCard) (xs : List NamedCard) → eqb x.kind 20 ≡ true → find (alike x) xs ≡ none
use_nowhere x [] e = first_nil (alike x)
use_nowhere x (y ∷ ys) e = first_no (alike x) y ys (alike_use x y e) ∙ use_nowhere x ys e

pub repeat_use : (all : List NamedCard) (x : NamedCard) → eqb x.kind 20 ≡ true → repeat_in all x ≡ []
unfolding repeat_in
repeat_use all x e = rw (use_nowhere x all e)

repeat_new : (seen : List NamedCard) (x : NamedCard) (rest : List NamedCard) → find (alike x) seen ≡ none → repeat_in (seen ++ (x ∷ rest)) x ≡ []
unfolding repeat_in
repeat_new seen x rest h = go (eqb x.kind 20) refl
  where
    go : (b : Bool) → eqb x.kind 20 ≡ b → repeat_in (seen ++ (x ∷ rest)) x ≡ []
    go true e = repeat_use (seen ++ (x ∷ rest)) x e
    go false e =
        rw (first_append_none (alike x) seen (x ∷ rest) h, first_yes (alike x) x rest (alike_self x e), eq-eqb x.number x.number refl)

-- The parts ps, added to a list of the parts `seen` and followed by `rest`: each of them has a number of its own.
pub repeats_in : (kept seen ps rest : List NamedCard) → Same kept seen → All (λ x. times x.number (seen ++ ps) ≤ 1) ps →
    repeats alike kept ps ≡ flat_map (repeat_in (seen ++ (ps ++ rest))) ps
repeats_in kept seen [] rest s d = repeats_nil alike kept ∙ sym (flat_map_nil (repeat_in (seen ++ rest)))
repeats_in kept seen (x ∷ xs) rest s d =
    go (find (alike x) seen) refl (λ k. repeats_in k (seen ++ (x ∷ [])) xs rest)
  where
    whole : List NamedCard
    whole = seen ++ ((x ∷ xs) ++ rest)

    shift : seen ++ (x ∷ (xs ++ rest)) ≡ (seen ++ (x ∷ [])) ++ (xs ++ rest)
    shift = sym (append_assoc seen (x ∷ []) (xs ++ rest))

    moved : seen ++ (x ∷ xs) ≡ (seen ++ (x ∷ [])) ++ xs
    moved = sym (append_assoc seen (x ∷ []) xs)

    others : All (λ y. times y.number ((seen ++ (x ∷ [])) ++ xs) ≤ 1) xs
    others = rw (← moved) d.1

    fresh : (y : NamedCard) → find (alike x) seen ≡ some y → y.number ≡ x.number → ⊥
    fresh y e q = omega (arith, d.0, times_append x.number seen (x ∷ xs), times_here x xs, rw q at (times_found (alike x) seen y e))

    go : (o : Option NamedCard) → find (alike x) seen ≡ o →
        ((k : List NamedCard) → Same k (seen ++ (x ∷ [])) → All (λ y. times y.number ((seen ++ (x ∷ [])) ++ xs) ≤ 1) xs →
        repeats alike k xs ≡ flat_map (repeat_in ((seen ++ (x ∷ [])) ++ (xs ++ rest))) xs) →
        repeats alike kept (x ∷ xs) ≡ flat_map (repeat_in (seen ++ (x ∷ (xs ++ rest)))) (x ∷ xs)
    go none e ih =
        repeats_new alike kept x xs (s x ∙ e)
        ∙ (ih (kept ++ (x ∷ [])) (same_new kept seen x s) others
        ∙ rw (flat_map_cons (repeat_in (seen ++ (x ∷ (xs ++ rest)))) x xs, repeat_new seen x (xs ++ rest) e, shift))
    go (some y) e ih =
        repeats_old alike kept x xs y (s x ∙ e)
        ∙ (ap (λ l. (x, y) ∷ l) (ih kept (same_old kept seen x y e s) others)
        ∙ rw (flat_map_cons (repeat_in (seen ++ (x ∷ (xs ++ rest)))) x xs, repeat_old seen x y (x ∷ (xs ++ rest)) e (fresh y e), shift))

pub repeats_whole : (seen ps rest : List NamedCard) → All (λ x. times x.number (seen ++ ps) ≤ 1) ps →
    repeats alike seen ps ≡ flat_map (repeat_in (seen ++ (ps ++ rest))) ps
repeats_whole seen ps rest d = repeats_in seen seen ps rest (λ z. refl) d
