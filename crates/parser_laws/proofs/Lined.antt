-- The tokens of a text lie in it in order, each of a byte at least, and those of a word's sort are Names.
use mathlib.Core.Path.{◌≡◌, refl, sym, ap, ◌∙◌}
use mathlib.Core.List.{List, [], ◌∷◌}
use mathlib.Core.Bool.{Bool, true, false, ◌&&◌, ◌||◌}
use mathlib.Core.Option.{Option, none, some}
use Prim.Native.Nat.{ℕ, zero, suc, ◌+◌, ◌-◌, ◌≤◌}
use native.Mathlib.Omega.{arith}
use borrow.Author.Tests.{eqb-false, leb-true}
use lib.Dec.{eqb, leb}
use lib.ListN.{length, take, drop}
use lib.Seq.{drop-drop}
use Rattle.definition.specs.Lists.{choose, found, all}
use Rattle.definition.specs.Names.{is_name_start, is_name_byte, is_name, bytes_at}
use Rattle.definition.specs.Grammar.{sort_of_name}
use Rattle.definition.specs.Derivation.{Token}
use Rattle.definition.specs.Lexical.{byte, ends_line, is_digit, run, integer, fraction, exponent, Lexeme, ignored, lexed, unreadable, number_of, number}
use Rattle.definition.specs.Lexical.{tripled, plain, block, string, punctuators, punctuator, named, lexeme, lexed_by, tokens_from, tokens_in}
use Rattle.parser_laws.proofs.Tests.{clash}
use Rattle.parser_laws.proofs.Gluing.{Small, lexeme_small, lexeme_by, sign, number_from}

-- A token from a place of a text on.
pub record Lying (text : List ℕ) (at : ℕ) (t : Token) : Type 0 where
  pub after : at ≤ t.begins
  pub filled : 1 ≤ t.size
  pub inside : t.begins + t.size ≤ length text
  pub word : 17 ≤ t.sort → is_name (bytes_at text t.begins t.size) ≡ true

-- Tokens from a place on, each after the one before it.
abbrev pub Lined : List ℕ → ℕ → List Token → Type 0
Lined text at [] = Unit {0}
Lined text at (t ∷ ts) = Lying text at t × Lined text (t.begins + t.size) ts

-- ---- What stands at the beginning of bytes.

abbrev Sized : List ℕ → Lexeme → Type 0
Sized bs (ignored n) = Unit {0}
Sized bs (lexed s n) = (1 ≤ n) × (17 ≤ s → is_name (take n bs) ≡ true)
Sized bs unreadable = Unit {0}

-- No word.
other : (bs : List ℕ) (s n : ℕ) → 1 ≤ n → s ≤ 16 → Sized bs (lexed s n)
other bs s n h k = (h, λ w. absurd (omega arith))

all_run : (p : ℕ → Bool) (bs : List ℕ) → all p (take (run p bs) bs) ≡ true
unfolding all run
all_run p [] = refl
all_run p (x ∷ bs) = go (p x) refl (all_run p bs)
  where
    more : p x ≡ true → all p (take (run p bs) bs) ≡ true → (n : ℕ) → n ≡ suc (run p bs) → all p (take n (x ∷ bs)) ≡ true
    more e h n i = rw (i, e) h

    go : (t : Bool) → p x ≡ t → all p (take (run p bs) bs) ≡ true → all p (take (choose t (1 + run p bs) 0) (x ∷ bs)) ≡ true
    go true e h = more e h (1 + run p bs) (omega arith)
    go false e h = refl

start_byte : (x : ℕ) → is_name_start x ≡ true → is_name_byte x ≡ true
unfolding is_name_byte
start_byte x e = rw e

some_digit : (a b : ℕ) → (b ≡ 0 → ⊥) → 1 ≤ a + b
some_digit a zero h = absurd (h refl)
some_digit a (suc b) h = omega arith

named_sized : (x : ℕ) (bs : List ℕ) → is_name_start x ≡ true → Sized (x ∷ bs) (named (x ∷ bs))
unfolding named run is_name all
named_sized x bs e = go (is_name_byte x) (start_byte x e)
  where
    is : (n : ℕ) → n ≡ suc (run is_name_byte bs) → is_name (take n (x ∷ bs)) ≡ true
    is n i = rw (i, e) (all_run is_name_byte bs)

    go : (t : Bool) → t ≡ true → Sized (x ∷ bs) (lexed (sort_of_name (take (choose t (1 + run is_name_byte bs) 0) (x ∷ bs))) (choose t (1 + run is_name_byte bs) 0))
    go true i = (omega arith, λ w. is (1 + run is_name_byte bs) (omega arith))
    go false i = clash i

number_of_sized : (s n : ℕ) (bs : List ℕ) → s ≤ 16 → 1 ≤ n → Sized bs (number_of s n bs)
unfolding number_of
number_of_sized s n bs h k = go (is_digit (byte n bs) || eqb (byte n bs) 46 || is_name_start (byte n bs))
  where
    go : (t : Bool) → Sized bs (choose t unreadable (lexed s n))
    go true = tt
    go false = other bs s n k h

number_sized : (bs : List ℕ) → Sized bs (number bs)
unfolding number
number_sized bs = go (eqb (integer (drop (sign bs) bs)) 0) refl
  where
    sort : (t : Bool) → choose t 14 15 ≤ 16
    sort true = omega arith
    sort false = omega arith

    last : (i f : ℕ) → 1 ≤ i → (p : Option ℕ) → Sized bs (found p (λ e. number_of (choose (eqb (f + e) 0) 14 15) (i + f + e) bs) unreadable)
    last i f h none = tt
    last i f h (some e) = number_of_sized (choose (eqb (f + e) 0) 14 15) (i + f + e) bs (sort (eqb (f + e) 0)) (omega arith)

    next : (i : ℕ) → 1 ≤ i → (o : Option ℕ) →
        Sized bs (found o (λ f. found (exponent (drop (i + f) bs)) (λ e. number_of (choose (eqb (f + e) 0) 14 15) (i + f + e) bs) unreadable) unreadable)
    next i h none = tt
    next i h (some f) = last i f h (exponent (drop (i + f) bs))

    go : (t : Bool) → eqb (integer (drop (sign bs) bs)) 0 ≡ t → Sized bs (choose t unreadable (number_from (sign bs + integer (drop (sign bs) bs)) bs))
    go true e = tt
    go false e =
        let k = eqb-false (integer (drop (sign bs) bs)) 0 e in
        let h : 1 ≤ sign bs + integer (drop (sign bs) bs) = some_digit (sign bs) (integer (drop (sign bs) bs)) k in
        next (sign bs + integer (drop (sign bs) bs)) h (fraction (drop (sign bs + integer (drop (sign bs) bs)) bs))

string_sized : (bs : List ℕ) → Sized bs (string bs)
unfolding string
string_sized bs = go (tripled bs)
  where
    blocked : (o : Option ℕ) → Sized bs (found o (λ n. lexed 16 (3 + n)) unreadable)
    blocked none = tt
    blocked (some n) = other bs 16 (3 + n) (omega arith) (omega arith)

    plained : (o : Option ℕ) → Sized bs (found o (λ n. lexed 16 (1 + n)) unreadable)
    plained none = tt
    plained (some n) = other bs 16 (1 + n) (omega arith) (omega arith)

    go : (t : Bool) →
        Sized bs (choose t (found (block 0 (drop 3 bs)) (λ n. lexed 16 (3 + n)) unreadable) (found (plain 0 (drop 1 bs)) (λ n. lexed 16 (1 + n)) unreadable))
    go true = blocked (block 0 (drop 3 bs))
    go false = plained (plain 0 (drop 1 bs))

punctuator_sized : (bs : List ℕ) (x : ℕ) (ps : List (ℕ × ℕ)) → all (λ p. leb p.1 16) ps ≡ true → Sized bs (punctuator x ps)
unfolding punctuator all
punctuator_sized bs x [] h = tt
punctuator_sized bs x (p ∷ ps) h = go (eqb x p.0) (leb p.1 16) refl h (punctuator_sized bs x ps)
  where
    go : (t u : Bool) → leb p.1 16 ≡ u → choose u (all (λ p. leb p.1 16) ps) false ≡ true →
        (all (λ p. leb p.1 16) ps ≡ true → Sized bs (punctuator x ps)) → Sized bs (choose t (lexed p.1 1) (punctuator x ps))
    go true true i k f = other bs p.1 1 (omega arith) (leb-true p.1 16 i)
    go false true i k f = f k
    go t false i k f = clash k

punctuators_small : all (λ p. leb p.1 16) punctuators ≡ true
unfolding all punctuators
punctuators_small = refl

lexeme_sized : (x : ℕ) (bs : List ℕ) → Sized (x ∷ bs) (lexeme (x ∷ bs))
unfolding lexeme
lexeme_sized x bs =
    go (eqb x 9 || eqb x 32 || ends_line x || eqb x 44) (is_name_start x) refl (is_digit x || eqb x 45) (eqb x 34) (eqb x 35) (eqb x 46) (eqb x 239)
  where
    two : (t : Bool) → Sized (x ∷ bs) (choose t (lexed 5 3) unreadable)
    two true = other (x ∷ bs) 5 3 (omega arith) (omega arith)
    two false = tt

    mark : (t : Bool) → Sized (x ∷ bs) (choose t (ignored 3) unreadable)
    mark true = tt
    mark false = tt

    go : (t1 t2 : Bool) → is_name_start x ≡ t2 → (t3 t4 t5 t6 t7 : Bool) → Sized (x ∷ bs) (lexeme_by x t1 t2 t3 t4 t5 t6 t7 (x ∷ bs))
    go true t2 i t3 t4 t5 t6 t7 = tt
    go false true i t3 t4 t5 t6 t7 = named_sized x bs i
    go false false i true t4 t5 t6 t7 = number_sized (x ∷ bs)
    go false false i false true t5 t6 t7 = string_sized (x ∷ bs)
    go false false i false false true t6 t7 = tt
    go false false i false false false true t7 = two (eqb (byte 0 bs) 46 && eqb (byte 1 bs) 46)
    go false false i false false false false true = mark (eqb (byte 0 bs) 187 && eqb (byte 1 bs) 191)
    go false false i false false false false false = punctuator_sized (x ∷ bs) x punctuators punctuators_small

-- ---- The tokens of a text.

lowered : (text : List ℕ) (a b : ℕ) (ts : List Token) → b ≤ a → Lined text a ts → Lined text b ts
lowered text a b [] h l = tt
lowered text a b (t ∷ ts) h l =
    let y = l.0 in
    (record { after = omega (arith, y.after); filled = y.filled; inside = y.inside; word = y.word }, l.1)

after_one : (text : List ℕ) (at x : ℕ) (bs : List ℕ) → drop at text ≡ x ∷ bs → drop (1 + at) text ≡ bs
after_one text at x bs e =
    let z : at + 1 ≡ 1 + at = omega arith in
    ap (λ (n : ℕ). drop n text) (sym z) ∙ sym (drop-drop 1 at text) ∙ ap (drop 1) e

lined_from : (text : List ℕ) (k at : ℕ) (bs : List ℕ) → drop at text ≡ bs → at + length bs ≡ length text → Lined text (at + k) (tokens_from k at bs).tokens
unfolding tokens_from bytes_at
lined_from text k at [] e h = tt
lined_from text (suc k) at (x ∷ bs) e h =
    lowered text (1 + at + k) (at + suc k) (tokens_from k (1 + at) bs).tokens (omega arith)
    (lined_from text k (1 + at) bs (after_one text at x bs e) (omega arith))
lined_from text zero at (x ∷ bs) e h =
    go (lexeme (x ∷ bs)) (lexeme_small x bs) (lexeme_sized x bs) (λ k. lined_from text k (1 + at) bs (after_one text at x bs e) (omega arith))
  where
    is : (n : ℕ) → is_name (take n (x ∷ bs)) ≡ true → is_name (bytes_at text at n) ≡ true
    is n i = ap (λ (b : List ℕ). is_name (take n b)) e ∙ i

    go : (l : Lexeme) → Small (suc (length bs)) l → Sized (x ∷ bs) l → ((k : ℕ) → Lined text (1 + at + k) (tokens_from k (1 + at) bs).tokens) →
        Lined text (at + 0) (lexed_by at (λ k. tokens_from k (1 + at) bs) l).tokens
    go (ignored n) s z r = lowered text (1 + at + (n - 1)) (at + 0) (tokens_from (n - 1) (1 + at) bs).tokens (omega arith) (r (n - 1))
    go (lexed c n) s z r = (
      record { after = omega arith; filled = z.0; inside = omega arith; word = λ w. is n (z.1 w) },
      lowered text (1 + at + (n - 1)) (at + n) (tokens_from (n - 1) (1 + at) bs).tokens (omega (arith, z.0)) (r (n - 1)),
    )
    go unreadable s z r = tt

pub lined : (text : List ℕ) → Lined text 0 (tokens_in text).tokens
unfolding tokens_in
lined text = lowered text (0 + 0) 0 (tokens_from 0 0 text).tokens (omega arith) (lined_from text 0 0 text refl (omega arith))
