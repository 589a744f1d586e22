-- Laws of a line's words and numbers.
use Rattle.std.proofs.Common.{◌≡◌, refl, sym, ap, ◌∙◌, List, [], ◌∷◌, ℕ, zero, suc, ◌+◌, ◌*◌, ◌-◌, ◌<◌, ◌≤◌, Option, Some, None, length, take, drop, get_or, arith, add-one, cond, set, ◌≢◌, below_more, get_or-set_other, get_or-set_same}
use Rattle.std.specs.Prelude.{Bool, true, false, not, ◌==◌, Result, Ok, position, count_by}
use Rattle.std.specs.List.{position_or_len}
use Rattle.std.proofs.Math.ListN.{drop_of_length-le, length-drop}
use Rattle.std.specs.Cmp.Lexicographic.{pointwise}
use Rattle.std.proofs.lemmas.Bool.Decides.{Decides-eqb}
use Rattle.std.proofs.lemmas.Slice.Eq.{slice_eq-Decides}
use Rattle.std.proofs.lemmas.List.{take_all}
use Rattle.std.proofs.lemmas.List.Recursion.{is_position_or_len, is_count_by}
use Rattle.std.proofs.Math.Seq.{drop-cons}
use borrow.Author.Tests.{ne_eqb, lt-ltb, le-ltb, ltb-false, eqb-true}
use lib.Dec.{ltb, eqb}
use Rattle.std.specs.Option.{option_eq, ok_or}
use Rattle.definition.specs.Lists.{choose}
use Rattle.definition.specs.Answers.{absent}
use Rattle.replay_calls.specs.LineWords.{length_before, word_length, after_words, word_of, spaces, digits_from, number_of}

-- The first word ends at the first space.
word_end : (s : List ℕ) → word_length s ≡ position_or_len (λ b. b == 32) s
unfolding length_before
word_end s = is_position_or_len (length_before 32) (λ b. b == 32) refl (λ x xs. one (x == 32) (length_before 32 xs)) s
  where
    one : (b : Bool) (n : ℕ) → choose b 0 (suc n) ≡ cond b 0 (1 + n)
    one true n = refl
    one false n = omega arith

some_place : (b : Bool) (n e : ℕ) → cond b (Some n) None ≡ Some e → n ≡ e
some_place true n e h = cc
some_place false n e h = absurd cc

none_place : (b : Bool) (n l : ℕ) → ltb n l ≡ b → cond b (Some n) None ≡ None → l ≤ n
none_place true n l k h = absurd cc
none_place false n l k h = ltb-false n l k

space_found : (s : List ℕ) (e : ℕ) → position (λ b. b == 32) s ≡ Some e → word_length s ≡ e
space_found s e h = word_end s ∙ some_place (ltb (position_or_len (λ b. b == 32) s) (length s)) (position_or_len (λ b. b == 32) s) e h

space_missing : (s : List ℕ) → position (λ b. b == 32) s ≡ None → length s ≤ word_length s
space_missing s h =
    let l = none_place (ltb (position_or_len (λ b. b == 32) s) (length s)) (position_or_len (λ b. b == 32) s) (length s) refl h in
    let e = word_end s in omega arith

pub word_found : (s : List ℕ) (e : ℕ) → position (λ b. b == 32) s ≡ Some e → take e s ≡ word_of 0 s
unfolding word_of after_words
word_found s e h = ap (λ (n : ℕ). take n s) (sym (space_found s e h))

pub rest_found : (s : List ℕ) (e : ℕ) → position (λ b. b == 32) s ≡ Some e → take (length s - (e + 1)) (drop (e + 1) s) ≡ after_words 1 s
unfolding after_words
rest_found s e h =
    let k : e + 1 ≡ suc (word_length s) = (let w = space_found s e h in omega arith) in
    take_all (length s - (e + 1)) (drop (e + 1) s) (simp length-drop (omega arith)) ∙ ap (λ (n : ℕ). drop n s) k

pub word_last : (s : List ℕ) → position (λ b. b == 32) s ≡ None → s ≡ word_of 0 s
unfolding word_of after_words
word_last s h = sym (take_all (word_length s) s (space_missing s h))

pub rest_last : (s : List ℕ) → position (λ b. b == 32) s ≡ None → [] ≡ after_words 1 s
unfolding after_words
rest_last s h = sym (drop_of_length-le s {i = suc (word_length s)} (let l = space_missing s h in omega arith))

pub spaces_count : (s : List ℕ) → spaces s ≡ count_by (λ b. b == 32) s
unfolding spaces
spaces_count s = is_count_by spaces (λ b. b == 32) refl (λ x xs. one (x == 32) (spaces xs)) s
  where
    one : (b : Bool) (n : ℕ) → choose b 1 0 + n ≡ cond b (1 + n) n
    one true n = refl
    one false n = omega arith

-- Word k + 1 after word k.
after_suc : (k : ℕ) (l : List ℕ) → after_words (suc k) l ≡ after_words 1 (after_words k l)
unfolding after_words
after_suc zero l = refl
after_suc (suc k) l = after_suc k (drop (suc (word_length l)) l)

pub after_none : (l : List ℕ) → after_words 0 l ≡ l
unfolding after_words
after_none l = refl

pub after_more : (k : ℕ) (l m : List ℕ) → m ≡ after_words k l → after_words 1 m ≡ after_words (k + 1) l
after_more k l m e = ap (after_words 1) e ∙ sym (after_suc k l) ∙ ap (λ (n : ℕ). after_words n l) (sym (add-one k))

pub word_after : (k : ℕ) (l m : List ℕ) → m ≡ after_words k l → word_of 0 m ≡ word_of k l
unfolding word_of
word_after k l m e = ap (λ (w : List ℕ). take (word_length w) w) e

-- Digits, one after another.
pub digit_low : (s : List ℕ) (i n : ℕ) → i < length s → get_or s i 0 < 48 → digits_from n (drop i s) ≡ None
unfolding digits_from
digit_low s i n h e = rw (drop-cons s i 0 h, lt-ltb _ _ e)

pub digit_high : (s : List ℕ) (i n : ℕ) → i < length s → 48 ≤ get_or s i 0 → 57 < get_or s i 0 → digits_from n (drop i s) ≡ None
unfolding digits_from
digit_high s i n h l e = rw (drop-cons s i 0 h, le-ltb _ _ l, lt-ltb _ _ e)

pub digit_large : (s : List ℕ) (i n : ℕ) → i < length s → 48 ≤ get_or s i 0 → get_or s i 0 ≤ 57 → 100000000000000000 < n → digits_from n (drop i s) ≡ None
unfolding digits_from
digit_large s i n h l u e = rw (drop-cons s i 0 h, le-ltb _ _ l, le-ltb _ _ u, lt-ltb _ _ e)

pub digit_more : (s : List ℕ) (i n : ℕ) → i < length s → 48 ≤ get_or s i 0 → get_or s i 0 ≤ 57 → n ≤ 100000000000000000
    → digits_from (10 * n + (get_or s i 0 - 48)) (drop (i + 1) s) ≡ digits_from n (drop i s)
unfolding digits_from
digit_more s i n h l u e = rw (add-one, drop-cons s i 0 h, le-ltb _ _ l, le-ltb _ _ u, le-ltb _ _ e)

pub digit_end : (s : List ℕ) (i n : ℕ) → length s ≤ i → digits_from n (drop i s) ≡ Some n
unfolding digits_from
digit_end s i n h = rw (drop_of_length-le s h)

-- A number by its word.
pub number_empty : (s : List ℕ) → true ≡ (length s == 0) → None ≡ number_of s
unfolding number_of
number_empty [] h = refl
number_empty (b ∷ s) h = absurd (let e = eqb-true (length (b ∷ s)) 0 (sym h) in omega arith)

pub number_dash : (s p : List ℕ) → p ≡ 45 ∷ [] → true ≡ pointwise eqb s p → Some absent ≡ number_of s
unfolding number_of
number_dash s p e h = sym (ap number_of ((slice_eq-Decides Decides-eqb s p true h).0 refl ∙ e))

pub number_digits : (s p : List ℕ) → p ≡ 45 ∷ [] → false ≡ pointwise eqb s p → false ≡ (length s == 0) → digits_from 0 s ≡ number_of s
unfolding number_of
number_digits [] p e h k = absurd cc
number_digits (b ∷ []) p e h k =
    let ne : b ≡ 45 → ⊥ = (λ q. let same : false ≡ true = (slice_eq-Decides Decides-eqb (b ∷ []) p false h).1 (ap (λ (x : ℕ). x ∷ []) q ∙ sym e) in absurd cc) in
    rw (ne_eqb b 45 ne)
number_digits (b ∷ c ∷ bs) p e h k = refl

-- What a test of an option, or the error in its place, tells of it.
pub is_that : (o : Option ℕ) (n : ℕ) → false ≡ not (option_eq eqb o (Some n)) → o ≡ Some n
is_that None n h = absurd cc
is_that (Some m) n h = go (eqb m n) refl h
  where
    go : (b : Bool) → eqb m n ≡ b → false ≡ not b → Some m ≡ Some n
    go true e k = ap Some (eqb-true m n e)
    go false e k = absurd cc

pub was_there : {E : Type 0} (o : Option ℕ) (m : E) (r : Result ℕ E) (n : ℕ) → r ≡ ok_or o m → r ≡ Ok n → o ≡ Some n
was_there None m r n h k = absurd cc
was_there (Some x) m r n h k = cc

-- One more number is read.
pub more_read : (line numbers : List ℕ) (from i v : ℕ) → i < length numbers
    → ((j : ℕ) → j < i → number_of (word_of (from + j) line) ≡ Some (get_or numbers j 0))
    → number_of (word_of (from + i) line) ≡ Some v
    → (j : ℕ) → j < i + 1 → number_of (word_of (from + j) line) ≡ Some (get_or (set numbers i v) j 0)
more_read line numbers from i v l before here =
    below_more _ _
    (λ j h. let ne : j ≢ i = omega arith in rw get_or-set_other (before j h))
    (rw get_or-set_same here)
