-- All errors pushed where none were: the words written, the total and the tallies; and the room that there is.
use mathlib.Core.Path.{◌≡◌, refl, sym, ◌∙◌, ap, ap₂}
use mathlib.Core.List.{List, [], ◌∷◌, ◌++◌, map, append_assoc}
use mathlib.Core.Bool.{Bool, true, false}
use Prim.Native.Nat.{ℕ, zero, suc, ◌+◌, ◌-◌, ◌*◌, ◌≤◌, ◌<◌}
use native.Mathlib.Omega.{arith}
use lib.Dec.{eqb}
use lib.ListN.{length, take, drop, get_or, set, replicate, length-set, length-append, get_or-replicate}
use lib.Seq.{take-length, take-paste, drop-paste, length-paste, paste-zero, drop-drop, get_or-set_same, get_or-set_other, ext_get_or}
use borrow.Author.Tests.{eqb-true, eqb-false, eq-eqb, ne_eqb}
use Rattle.definition.specs.Lists.{All, flat_map, written}
use Rattle.definition.specs.Errors.{Error}
use Rattle.definition.specs.Merge.{error_numbers, numbers_from, is_numbered, tally, tallies}
use Rattle.definition.specs.Refusals.{card_capacity}
use Rattle.definition.specs.Outcomes.{words_of_error}
use Rattle.std.specs.Borrow.{MutBor}
use Rattle.from_ast_collisions.specs.declared.pushing.Errors.{Errors}
use Rattle.from_ast_collisions.specs.Pushing.{no_errors, counted_in, push, push_all, Capacity}
use Rattle.definition.proofs.Lists.{flat_map_nil, flat_map_cons, filter_nil, filter_yes, filter_no}

-- An error's number is one that a tally counts.
abbrev pub Legal : Error → Type 0
Legal e = (1 ≤ e.number) × (e.number ≤ error_numbers)

-- ---- Words.

pub written_append : (xs : List ℕ) (u : ℕ) (ys zs : List ℕ) → u + length ys ≤ length xs →
    written (written xs u ys) (u + length ys) zs ≡ written xs u (ys ++ zs)
unfolding written
written_append xs u ys zs h =
    ap₂ (λ l m. l ++ take (length zs) zs ++ m)
    (take-paste xs u ys (length ys) (omega arith) (omega arith))
    (sym (drop-drop (length zs) (u + length ys) _) ∙ (ap (drop (length zs)) (drop-paste xs u ys (length ys) (omega arith) (omega arith))
    ∙ drop-drop (length zs) (u + length ys) xs))
    ∙ (let q : u + length (ys ++ zs) ≡ u + length ys + length zs = omega (arith, length-append ys zs) in rw q (simp (take-length, append_assoc)))

written_length : (xs : List ℕ) (u : ℕ) (ys : List ℕ) → u + length ys ≤ length xs → length (written xs u ys) ≡ length xs
unfolding written
written_length xs u ys h = length-paste xs u ys (length ys) h (omega arith)

written_none : (xs : List ℕ) (u : ℕ) → written xs u [] ≡ xs
unfolding written
written_none xs u = sym (paste-zero xs u [])

-- ---- One push.

module _ (l : Errors) (e : Error) where
  push_words : (push l e).words.now ≡ written l.words.now (3 * l.tallies.total) (words_of_error e)
  unfolding push
  push_words = refl

  push_total : (push l e).tallies.total ≡ l.tallies.total + 1
  unfolding push
  push_total = refl

  push_counts : (push l e).tallies.counts ≡ set l.tallies.counts (e.number - 1) (get_or l.tallies.counts (e.number - 1) 0 + 1)
  unfolding push counted_in
  push_counts = refl

three : (e : Error) → length (words_of_error e) ≡ 3
unfolding words_of_error
three e = refl

push_length : (l : Errors) (e : Error) → 3 * l.tallies.total + 3 ≤ length l.words.now → length (push l e).words.now ≡ length l.words.now
push_length l e h = ap length (push_words l e) ∙ written_length l.words.now (3 * l.tallies.total) (words_of_error e) (omega (arith, three e))

-- ---- All pushes.

push_nil : (l : Errors) → push_all l [] ≡ l
unfolding push_all
push_nil l = refl

push_cons : (l : Errors) (e : Error) (es : List Error) → push_all l (e ∷ es) ≡ push_all (push l e) es
unfolding push_all
push_cons l e es = refl

pub pushed_total : (l : Errors) (es : List Error) → (push_all l es).tallies.total ≡ l.tallies.total + length es
pushed_total l [] = omega (arith, ap (λ (m : Errors). m.tallies.total) (push_nil l))
pushed_total l (e ∷ es) = omega (arith, ap (λ (m : Errors). m.tallies.total) (push_cons l e es), pushed_total (push l e) es, push_total l e)

pub pushed_words : (l : Errors) (es : List Error) → 3 * (l.tallies.total + length es) ≤ length l.words.now →
    (push_all l es).words.now ≡ written l.words.now (3 * l.tallies.total) (flat_map words_of_error es)
pushed_words l [] h = ap (λ (m : Errors). m.words.now) (push_nil l) ∙ sym (rw (flat_map_nil words_of_error) (written_none l.words.now (3 * l.tallies.total)))
pushed_words l (e ∷ es) h =
    ap (λ (m : Errors). m.words.now) (push_cons l e es)
    ∙ (pushed_words (push l e) es (omega (arith, push_length l e (omega arith), push_total l e))
    ∙ (ap₂ (λ xs u. written xs u (flat_map words_of_error es)) (push_words l e) (place (push l e).tallies.total (push_total l e))
    ∙ (written_append l.words.now (3 * l.tallies.total) (words_of_error e) (flat_map words_of_error es) (omega (arith, three e))
    ∙ ap (written l.words.now (3 * l.tallies.total)) (sym (flat_map_cons words_of_error e es)))))
  where
    place : (n : ℕ) → n ≡ l.tallies.total + 1 → 3 * n ≡ 3 * l.tallies.total + length (words_of_error e)
    place n q = omega (arith, three e)

-- ---- Tallies.

tally_nil : (n : ℕ) → tally [] n ≡ 0
unfolding tally
tally_nil n = ap length (filter_nil (is_numbered n))

tally_yes : (n : ℕ) (e : Error) (es : List Error) → e.number ≡ n → tally (e ∷ es) n ≡ 1 + tally es n
unfolding tally is_numbered
tally_yes n e es q = ap length (filter_yes (is_numbered n) e es (eq-eqb e.number n q)) ∙ omega arith

tally_no : (n : ℕ) (e : Error) (es : List Error) → (e.number ≡ n → ⊥) → tally (e ∷ es) n ≡ tally es n
unfolding tally is_numbered
tally_no n e es q = ap length (filter_no (is_numbered n) e es (ne_eqb e.number n q))

counts_length : (l : Errors) (es : List Error) → length (push_all l es).tallies.counts ≡ length l.tallies.counts
counts_length l [] = ap (λ (m : Errors). length m.tallies.counts) (push_nil l)
counts_length l (e ∷ es) =
    ap (λ (m : Errors). length m.tallies.counts) (push_cons l e es)
    ∙ (counts_length (push l e) es
    ∙ (ap length (push_counts l e) ∙ length-set l.tallies.counts (e.number - 1) (get_or l.tallies.counts (e.number - 1) 0 + 1)))

counts_are : (l : Errors) (es : List Error) (i : ℕ) → All Legal es → length l.tallies.counts ≡ error_numbers →
    get_or (push_all l es).tallies.counts i 0 ≡ get_or l.tallies.counts i 0 + tally es (i + 1)
counts_are l [] i a h = omega (arith, ap (λ (m : Errors). get_or m.tallies.counts i 0) (push_nil l), tally_nil (i + 1))
counts_are l (e ∷ es) i a h =
    go (eqb e.number (i + 1)) refl
    (ap (λ (m : Errors). get_or m.tallies.counts i 0) (push_cons l e es)
    ∙ counts_are (push l e) es i a.1 (ap length (push_counts l e)
    ∙ (length-set l.tallies.counts (e.number - 1) (get_or l.tallies.counts (e.number - 1) 0 + 1) ∙ h)))
  where
    go : (b : Bool) → eqb e.number (i + 1) ≡ b → get_or (push_all l (e ∷ es)).tallies.counts i 0 ≡
        get_or (push l e).tallies.counts i 0 + tally es (i + 1) → get_or (push_all l (e ∷ es)).tallies.counts i 0 ≡
        get_or l.tallies.counts i 0 + tally (e ∷ es) (i + 1)
    go true t step =
        let q : e.number ≡ i + 1 = eqb-true e.number (i + 1) t in
        let at : e.number - 1 ≡ i = omega arith in
        let s : get_or (push l e).tallies.counts i 0 ≡ get_or l.tallies.counts i 0 + 1 =
        ap (λ (l : List ℕ). get_or l i 0) (push_counts l e)
        ∙ rw at (get_or-set_same l.tallies.counts i (get_or l.tallies.counts i 0 + 1) 0 (omega (arith, a.0.1))) in
        omega (arith, step, s, tally_yes (i + 1) e es q)
    go false t step =
        let n : e.number ≡ i + 1 → ⊥ = eqb-false e.number (i + 1) t in
        let s : get_or (push l e).tallies.counts i 0 ≡ get_or l.tallies.counts i 0 =
        ap (λ (l : List ℕ). get_or l i 0) (push_counts l e)
        ∙ get_or-set_other l.tallies.counts (e.number - 1) i (get_or l.tallies.counts (e.number - 1) 0 + 1) 0 (λ q. n (omega (arith, a.0.0, q))) in
        omega (arith, step, s, tally_no (i + 1) e es n)

numbers_length : (f : ℕ → ℕ) (i n : ℕ) → length (map f (numbers_from i n)) ≡ n
unfolding numbers_from
numbers_length f i zero = refl
numbers_length f i (suc n) = ap suc (numbers_length f (i + 1) n)

numbers_at : (f : ℕ → ℕ) (a n i : ℕ) → i < n → get_or (map f (numbers_from a n)) i 0 ≡ f (a + i)
unfolding numbers_from
numbers_at f a zero i h = absurd (omega arith)
numbers_at f a (suc n) zero h = ap f (omega arith)
numbers_at f a (suc n) (suc i) h = numbers_at f (a + 1) n i (omega arith) ∙ ap f (omega arith)

-- All errors pushed from the start.
pub pushed_tallies : (words : MutBor (List ℕ)) (es : List Error) → All Legal es → (push_all (no_errors words) es).tallies.counts ≡ tallies es
unfolding tallies
pushed_tallies words es a =
    ext_get_or 0 (push_all (no_errors words) es).tallies.counts (map (tally es) (numbers_from 1 error_numbers))
    (counts_length (no_errors words) es ∙ sym (numbers_length (tally es) 1 error_numbers))
    (λ i h.
    let b : i < error_numbers = omega (arith, counts_length (no_errors words) es) in
    counts_are (no_errors words) es i a refl
    ∙ (omega (arith, get_or-replicate {A = ℕ} error_numbers i 0 0 b) ∙ (ap (tally es) (one_more_lem i) ∙ sym (numbers_at (tally es) 1 error_numbers i b))))
  where
    one_more_lem : (i : ℕ) → i + 1 ≡ 1 + i
    one_more_lem i = omega arith

-- ---- Room.

-- What is counted is at most as much as was pushed.
abbrev Small : Errors → Type 0
Small l = (i : ℕ) → get_or l.tallies.counts i 0 ≤ l.tallies.total

set_small : (counts : List ℕ) (j v m : ℕ) → ((i : ℕ) → get_or counts i 0 ≤ m) → v ≤ m → (i : ℕ) → get_or (set counts j v) i 0 ≤ m
set_small [] j v m s h i = s i
set_small (c ∷ cs) zero v m s h zero = h
set_small (c ∷ cs) zero v m s h (suc i) = s (suc i)
set_small (c ∷ cs) (suc j) v m s h zero = s zero
set_small (c ∷ cs) (suc j) v m s h (suc i) = set_small cs j v m (λ k. s (suc k)) h i

push_small : (l : Errors) (e : Error) → Small l → Small (push l e)
push_small l e s i =
    let b = set_small l.tallies.counts (e.number - 1) (get_or l.tallies.counts (e.number - 1) 0 + 1) (l.tallies.total + 1)
    (λ k. omega (arith, s k)) (omega (arith, s (e.number - 1))) i in
    omega (arith, b, push_total l e, ap (λ (c : List ℕ). get_or c i 0) (push_counts l e))

pub capacity_for_lem : (l : Errors) (es : List Error) → 3 * (l.tallies.total + length es) ≤ length l.words.now →
    l.tallies.total + length es ≤ card_capacity → All Legal es →
    Small l → Capacity l es
unfolding Capacity
capacity_for_lem l [] h m a s = tt
capacity_for_lem l (e ∷ es) h m a s = (
  record { words = omega arith; total = omega arith; count = omega (arith, s (e.number - 1)); least = a.0.0; most = a.0.1 },
  capacity_for_lem (push l e) es (omega (arith, push_length l e (omega arith), push_total l e)) (omega (arith, push_total l e)) a.1 (push_small l e s),
)

none_small : (n i : ℕ) → get_or (replicate n 0) i 0 ≤ 0
none_small zero i = omega arith
none_small (suc n) zero = omega arith
none_small (suc n) (suc i) = none_small n i

pub capacity_empty : (words : MutBor (List ℕ)) (es : List Error) → 3 * length es ≤ length words.now → length es ≤ card_capacity → All Legal es →
    Capacity (no_errors words) es
capacity_empty words es h m a = capacity_for_lem (no_errors words) es (omega arith) (omega arith) a (none_small error_numbers)
