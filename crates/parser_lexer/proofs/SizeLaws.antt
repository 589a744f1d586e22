-- What is read has a byte at least, and a token's sort is one of the grammar's.
use mathlib.Core.Path.{◌≡◌, refl, ap, ◌∙◌}
use mathlib.Core.List.{List, [], ◌∷◌}
use mathlib.Core.Bool.{Bool, true, false, ◌&&◌, ◌||◌}
use mathlib.Core.Option.{Option, none, some}
use Prim.Native.Nat.{ℕ, suc, ◌+◌, ◌-◌, ◌≤◌, ◌<◌}
use native.Mathlib.Omega.{arith}
use borrow.Author.Tests.{leb-true, eqb-false}
use lib.Dec.{eqb, leb}
use lib.ListN.{length, get_or, drop, length-drop}
use Rattle.definition.specs.Lists.{choose, found, all}
use Rattle.definition.specs.Names.{is_name_start, is_name_byte, same_name}
use Rattle.definition.specs.Grammar.{words, place_of, sort_of_name}
use Rattle.definition.specs.Lexical.{byte, ends_line, is_digit, run, integer, fraction, exponent, Lexeme, ignored, lexed, unreadable, number_of, number, tripled}
use Rattle.definition.specs.Lexical.{block, plain, string, punctuators, punctuator, named, lexeme}
use Rattle.name.proofs.Laws.{continue_start, step}
use Rattle.parser_laws.proofs.Tests.{clash}
use Rattle.parser_laws.proofs.Gluing.{Small, lexeme_small, sign, number_from, lexeme_by}

abbrev Real : Lexeme → Type 0
Real (ignored n) = 1 ≤ n
Real (lexed s n) = (1 ≤ n) × (s ≤ 54)
Real unreadable = Unit {0}

-- ---- Names.

place_most : (w : List ℕ) (ws : List (List ℕ)) → place_of w ws ≤ length ws
unfolding place_of
place_most w [] = omega arith
place_most w (x ∷ ws) = go (same_name w x) (place_most w ws)
  where
    go : (t : Bool) → place_of w ws ≤ length ws → choose t 0 (1 + place_of w ws) ≤ suc (length ws)
    go true h = omega arith
    go false h = omega arith

sort_most : (w : List ℕ) → sort_of_name w ≤ 54
unfolding sort_of_name words
sort_most w = let h = place_most w words in omega arith

named_real : (x : ℕ) (bs : List ℕ) → is_name_start x ≡ true → Real (named (x ∷ bs))
unfolding named run
named_real x bs h =
    let g : run is_name_byte (x ∷ bs) ≡ 1 + run is_name_byte bs = rw (continue_start x h) in
    (omega arith, sort_most _)

-- ---- Numbers and strings.

number_of_real : (s n : ℕ) (bs : List ℕ) → 1 ≤ n → s ≤ 54 → Real (number_of s n bs)
unfolding number_of
number_of_real s n bs h k = go (is_digit (byte n bs) || eqb (byte n bs) 46 || is_name_start (byte n bs))
  where
    go : (t : Bool) → Real (choose t unreadable (lexed s n))
    go true = tt
    go false = (h, k)

number_real : (bs : List ℕ) → Real (number bs)
unfolding number
number_real bs = go (eqb (integer (drop (sign bs) bs)) 0) refl
  where
    whole : ℕ
    whole = integer (drop (sign bs) bs)

    sort : (t : Bool) → choose t 14 15 ≤ 54
    sort true = omega arith
    sort false = omega arith

    after : (f : ℕ) (p : Option ℕ) → 1 ≤ whole → Real (found p (λ e. number_of (choose (eqb (f + e) 0) 14 15) (sign bs + whole + f + e) bs) unreadable)
    after f none h = tt
    after f (some e) h = number_of_real (choose (eqb (f + e) 0) 14 15) (sign bs + whole + f + e) bs (omega arith) (sort (eqb (f + e) 0))

    next : (o : Option ℕ) → 1 ≤ whole → Real (found o (λ f. found (exponent (drop (sign bs + whole + f) bs))
        (λ e. number_of (choose (eqb (f + e) 0) 14 15) (sign bs + whole + f + e) bs) unreadable) unreadable)
    next none h = tt
    next (some f) h = after f (exponent (drop (sign bs + whole + f) bs)) h

    go : (t : Bool) → eqb whole 0 ≡ t → Real (choose t unreadable (number_from (sign bs + whole) bs))
    go true e = tt
    go false e = let z = eqb-false whole 0 e in next (fraction (drop (sign bs + whole) bs)) (omega arith)

string_real : (bs : List ℕ) → Real (string bs)
unfolding string
string_real bs = go (tripled bs)
  where
    closed : (k : ℕ) → 1 ≤ k → (o : Option ℕ) → Real (found o (λ n. lexed 16 (k + n)) unreadable)
    closed k h none = tt
    closed k h (some n) = (omega arith, omega arith)

    go : (t : Bool) → Real (choose t (found (block 0 (drop 3 bs)) (λ n. lexed 16 (3 + n)) unreadable)
        (found (plain 0 (drop 1 bs)) (λ n. lexed 16 (1 + n)) unreadable))
    go true = closed 3 (omega arith) (block 0 (drop 3 bs))
    go false = closed 1 (omega arith) (plain 0 (drop 1 bs))

-- ---- Punctuators.

choice_real : (t : Bool) (l : Lexeme) → Real l → Real (choose t l unreadable)
choice_real true l h = h
choice_real false l h = tt

punctuator_real : (x : ℕ) (ps : List (ℕ × ℕ)) → all (λ p. leb p.1 54) ps ≡ true → Real (punctuator x ps)
unfolding punctuator all
punctuator_real x [] a = tt
punctuator_real x (p ∷ ps) a = go (eqb x p.0) (leb p.1 54) refl a (punctuator_real x ps)
  where
    go : (t u : Bool) → leb p.1 54 ≡ u → choose u (all (λ p. leb p.1 54) ps) false ≡ true →
        (all (λ p. leb p.1 54) ps ≡ true → Real (punctuator x ps)) → Real (choose t (lexed p.1 1) (punctuator x ps))
    go true true e b h = (omega arith, leb-true p.1 54 e)
    go false true e b h = h b
    go t false e b h = clash b

lexeme_real : (x : ℕ) (bs : List ℕ) → Real (lexeme (x ∷ bs))
unfolding lexeme punctuators all
lexeme_real x bs = go (eqb x 9 || eqb x 32 || ends_line x || eqb x 44) (is_name_start x) refl (is_digit x || eqb x 45) (eqb x 34) (eqb x 35) (eqb x 46) (eqb x 239)
  where
    go : (t1 t2 : Bool) → is_name_start x ≡ t2 → (t3 t4 t5 t6 t7 : Bool) → Real (lexeme_by x t1 t2 t3 t4 t5 t6 t7 (x ∷ bs))
    go true t2 e t3 t4 t5 t6 t7 = omega arith
    go false true e t3 t4 t5 t6 t7 = named_real x bs e
    go false false e true t4 t5 t6 t7 = number_real (x ∷ bs)
    go false false e false true t5 t6 t7 = string_real (x ∷ bs)
    go false false e false false true t6 t7 = omega arith
    go false false e false false false true t7 = choice_real (eqb (byte 0 bs) 46 && eqb (byte 1 bs) 46) (lexed 5 3) (omega arith, omega arith)
    go false false e false false false false true = choice_real (eqb (byte 0 bs) 187 && eqb (byte 1 bs) 191) (ignored 3) (omega arith)
    go false false e false false false false false = punctuator_real x punctuators refl

-- ---- At a place of a text.

module _ (s : List ℕ) (at : ℕ) (l : at < length s) where
  real : Real (lexeme (drop at s))
  real = rw (step s at l) (lexeme_real (get_or s at 0) (drop (at + 1) s))

  small : Small (length s - at) (lexeme (drop at s))
  small =
      let z : suc (length (drop (at + 1) s)) ≡ length s - at = ap suc (length-drop (at + 1) s) ∙ omega arith in
      rw (step s at l, ← z) (lexeme_small (get_or s at 0) (drop (at + 1) s))

  pub ignored_sizes : (n : ℕ) → lexeme (drop at s) ≡ ignored n → (1 ≤ n) × (n ≤ length s - at)
  ignored_sizes n e = (rw e at real, rw e at small)

  pub token_sizes : (k n : ℕ) → lexeme (drop at s) ≡ lexed k n → (1 ≤ n) × (n ≤ length s - at) × (k ≤ 54)
  token_sizes k n e = let r : Real (lexed k n) = rw e at real in (r.0, rw e at small, r.1)
