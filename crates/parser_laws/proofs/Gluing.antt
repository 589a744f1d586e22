-- Texts joined by a line feed: their tokens are joined too, where the first is read to its end.
use mathlib.Core.Path.{◌≡◌, refl, sym, ap, ◌∙◌}
use mathlib.Core.List.{List, [], ◌∷◌, ◌++◌}
use mathlib.Core.Bool.{Bool, true, false, ◌&&◌, ◌||◌}
use mathlib.Core.Option.{Option, none, some}
use Prim.Native.Nat.{ℕ, zero, suc, ◌+◌, ◌-◌, ◌≤◌, ◌<◌}
use native.Mathlib.Omega.{arith}
use borrow.Author.Tests.{eqb-true, eqb-false}
use lib.Dec.{eqb}
use lib.ListN.{length, take, drop, length-drop}
use Rattle.definition.specs.Lists.{choose, found, any}
use Rattle.definition.specs.Derivation.{Token}
use Rattle.definition.specs.Names.{is_name_start, is_name_byte}
use Rattle.definition.specs.Lexical.{between, byte, continues, character, ends_line, comment, is_digit, run, integer, begun, fraction, exponent, Lexeme}
use Rattle.definition.specs.Lexical.{ignored, lexed, unreadable, number_of, number, is_hex, escape, plain, tripled, block, string, punctuators}
use Rattle.definition.specs.Lexical.{punctuator, named, lexeme, Lexed, lexed_by, tokens_from}
use Rattle.parser_laws.proofs.Tests.{clash, both}

abbrev pub glue : List ℕ → List ℕ → List ℕ
glue b bs = bs ++ (10 ∷ b)

module _ (b : List ℕ) where
  -- ---- Bytes.

  pub byte_same : (i : ℕ) (bs : List ℕ) → i < length bs → byte i (glue b bs) ≡ byte i bs
  byte_same i [] h = absurd (omega arith)
  byte_same zero (x ∷ bs) h = refl
  byte_same (suc i) (x ∷ bs) h = byte_same i bs (omega arith)

  -- A test that holds neither of a line feed nor of nothing.
  test_same : (p : ℕ → Bool) → p 10 ≡ false → p 0 ≡ false → (i : ℕ) (bs : List ℕ) → i ≤ length bs → p (byte i (glue b bs)) ≡ p (byte i bs)
  test_same p t z zero [] h = t ∙ sym z
  test_same p t z (suc i) [] h = absurd (omega arith)
  test_same p t z zero (x ∷ bs) h = refl
  test_same p t z (suc i) (x ∷ bs) h = test_same p t z i bs (omega arith)

  -- Where it holds, there is a byte.
  pub test_there : (p : ℕ → Bool) → p 0 ≡ false → (i : ℕ) (bs : List ℕ) → p (byte i bs) ≡ true → i < length bs
  test_there p z i [] h = clash (sym z ∙ h)
  test_there p z zero (x ∷ bs) h = omega arith
  test_there p z (suc i) (x ∷ bs) h = let k = test_there p z i bs h in omega arith

  run_same : (p : ℕ → Bool) → p 10 ≡ false → (bs : List ℕ) → run p (glue b bs) ≡ run p bs
  unfolding run
  run_same p t [] = rw t
  run_same p t (x ∷ bs) = ap (λ (n : ℕ). choose (p x) (1 + n) 0) (run_same p t bs)

  drop_same : (n : ℕ) (bs : List ℕ) → n ≤ length bs → drop n (glue b bs) ≡ glue b (drop n bs)
  drop_same zero bs h = refl
  drop_same (suc n) [] h = absurd (omega arith)
  drop_same (suc n) (x ∷ bs) h = drop_same n bs (omega arith)

  take_same : (n : ℕ) (bs : List ℕ) → n ≤ length bs → take n (glue b bs) ≡ take n bs
  take_same zero bs h = refl
  take_same (suc n) [] h = absurd (omega arith)
  take_same (suc n) (x ∷ bs) h = ap (λ (r : List ℕ). x ∷ r) (take_same n bs (omega arith))

  -- ---- Characters and comments.

  pub no_third : (t u : Bool) → choose t false (choose u false false) ≡ false
  no_third true u = refl
  no_third false true = refl
  no_third false false = refl

  pub both_false : (t : Bool) → (t && false) ≡ false
  both_false true = refl
  both_false false = refl

  character_same : (x : ℕ) (bs : List ℕ) → character (glue b (x ∷ bs)) ≡ character (x ∷ bs)
  unfolding character
  character_same x [] = rw (no_third (eqb x 224) (eqb x 237))
  character_same x (y ∷ []) = refl
  character_same x (y ∷ z ∷ bs) = refl

pub run_size : (p : ℕ → Bool) (bs : List ℕ) → run p bs ≤ length bs
unfolding run
run_size p [] = omega arith
run_size p (x ∷ bs) = go (p x) (run_size p bs)
  where
    go : (t : Bool) → run p bs ≤ length bs → choose t (1 + run p bs) 0 ≤ suc (length bs)
    go true h = omega arith
    go false h = omega arith

pub character_size : (x : ℕ) (bs : List ℕ) → character (x ∷ bs) ≤ suc (length bs)
unfolding character
character_size x [] =
    go (eqb x 9 || eqb x 10 || eqb x 13 || between 32 127 x) (between 194 223 x) (between 224 239 x)
    (choose (eqb x 224) false (choose (eqb x 237) false false))
  where
    go : (t u v s : Bool) → choose t 1 (choose u 0 (choose v (choose (s && false) 3 0) 0)) ≤ 1
    go true u v s = omega arith
    go false true v s = omega arith
    go false false true true = omega arith
    go false false true false = omega arith
    go false false false s = omega arith
character_size x (y ∷ []) =
    go (eqb x 9 || eqb x 10 || eqb x 13 || between 32 127 x) (between 194 223 x) (continues y) (between 224 239 x)
    (choose (eqb x 224) (between 160 191 y) (choose (eqb x 237) (between 128 159 y) (continues y)))
  where
    go : (t u w v s : Bool) → choose t 1 (choose u (choose w 2 0) (choose v (choose (s && false) 3 0) 0)) ≤ 2
    go true u w v s = omega arith
    go false true true v s = omega arith
    go false true false v s = omega arith
    go false false w true true = omega arith
    go false false w true false = omega arith
    go false false w false s = omega arith
character_size x (y ∷ z ∷ bs) =
    go (eqb x 9 || eqb x 10 || eqb x 13 || between 32 127 x) (between 194 223 x) (continues y) (between 224 239 x)
    (choose (eqb x 224) (between 160 191 y) (choose (eqb x 237) (between 128 159 y) (continues y)) && continues z)
  where
    go : (t u w v s : Bool) → choose t 1 (choose u (choose w 2 0) (choose v (choose s 3 0) 0)) ≤ suc (suc (suc (length bs)))
    go true u w v s = omega arith
    go false true true v s = omega arith
    go false true false v s = omega arith
    go false false w true true = omega arith
    go false false w true false = omega arith
    go false false w false s = omega arith

module _ (b : List ℕ) where
  comment_same : (k : ℕ) (bs : List ℕ) → k ≤ length bs → comment k (glue b bs) ≡ comment k bs
  unfolding comment ends_line
  comment_same zero [] h = refl
  comment_same (suc k) [] h = absurd (omega arith)
  comment_same (suc k) (x ∷ bs) h = ap (λ (n : ℕ). 1 + n) (comment_same k bs (omega arith))
  comment_same zero (x ∷ bs) h =
      ap (λ (n : ℕ). choose (ends_line x || eqb n 0) 0 (1 + comment (n - 1) (glue b bs))) (character_same b x bs) ∙
      ap (λ (n : ℕ). choose (ends_line x || eqb (character (x ∷ bs)) 0) 0 (1 + n))
      (comment_same (character (x ∷ bs) - 1) bs (omega (arith, character_size x bs)))

pub comment_size : (k : ℕ) (bs : List ℕ) → comment k bs ≤ length bs
unfolding comment
comment_size k [] = omega arith
comment_size (suc k) (x ∷ bs) = let h = comment_size k bs in omega arith
comment_size zero (x ∷ bs) = go (ends_line x || eqb (character (x ∷ bs)) 0) (comment_size (character (x ∷ bs) - 1) bs)
  where
    go : (t : Bool) → comment (character (x ∷ bs) - 1) bs ≤ length bs → choose t 0 (1 + comment (character (x ∷ bs) - 1) bs) ≤ suc (length bs)
    go true h = omega arith
    go false h = omega arith

-- ---- Strings.

-- A string that closes has so many bytes, and none of them past the end.
pub one_more_lem : (o : Option ℕ) (n : ℕ) → found o (λ m. some (1 + m)) none ≡ some n → (m : ℕ) × (o ≡ some m) × (n ≡ 1 + m)
one_more_lem none n e = let z : ◌≡◌ {A = ℕ} 0 1 = cc in absurd (omega arith)
one_more_lem (some m) n e = (m, refl, cc)

pub unless : (t : Bool) (o : Option ℕ) (n : ℕ) → choose t none o ≡ some n → (t ≡ false) × (o ≡ some n)
unless true o n e = let z : ◌≡◌ {A = ℕ} 0 1 = cc in absurd (omega arith)
unless false o n e = (refl, e)

abbrev pub escaped : Bool → Bool → Bool → ℕ
escaped t u v = choose t 1 (choose u (choose v 5 0) 0)

module _ (b : List ℕ) where
  escape_same : (bs : List ℕ) → (escape bs ≡ 0 → ⊥) → escape (glue b bs) ≡ escape bs
  unfolding escape any is_hex is_digit
  escape_same [] h = absurd (h refl)
  escape_same (x ∷ bs) h =
      go (any (eqb x) (34 ∷ 92 ∷ 47 ∷ 98 ∷ 102 ∷ 110 ∷ 114 ∷ 116 ∷ [])) (eqb x 117)
      (is_hex (byte 0 bs) && is_hex (byte 1 bs) && is_hex (byte 2 bs) && is_hex (byte 3 bs)) refl h
    where
      go :
          (t u v : Bool) → (is_hex (byte 0 bs) && is_hex (byte 1 bs) && is_hex (byte 2 bs) && is_hex (byte 3 bs)) ≡ v → (escaped t u v ≡ 0 → ⊥) →
          escaped t u (is_hex (byte 0 (glue b bs)) && is_hex (byte 1 (glue b bs)) && is_hex (byte 2 (glue b bs)) && is_hex (byte 3 (glue b bs))) ≡ escaped t u v
      go true u v e n = refl
      go false false v e n = refl
      go false true false e n = absurd (n refl)
      go false true true e n =
          let p = both (is_hex (byte 0 bs) && is_hex (byte 1 bs) && is_hex (byte 2 bs)) (is_hex (byte 3 bs)) e in
          let q = both (is_hex (byte 0 bs) && is_hex (byte 1 bs)) (is_hex (byte 2 bs)) p.0 in
          let r = both (is_hex (byte 0 bs)) (is_hex (byte 1 bs)) q.0 in
          let l = test_there b is_hex refl 3 bs p.1 in
          rw (byte_same b 0 bs (omega arith), byte_same b 1 bs (omega arith), byte_same b 2 bs (omega arith), byte_same b 3 bs l, r.0, r.1, q.1, p.1)

  abbrev up : Option ℕ → Option ℕ
  up o = found o (λ m. some (1 + m)) none

  not_zero : (e : ℕ) → eqb e 0 ≡ false → e ≡ 0 → ⊥
  not_zero e t z = clash (sym t ∙ ap (λ (n : ℕ). eqb n 0) z)

  plain_same : (k : ℕ) (bs : List ℕ) (n : ℕ) → plain k bs ≡ some n → plain k (glue b bs) ≡ some n
  unfolding plain
  plain_same k [] n e = let z : ◌≡◌ {A = ℕ} 0 1 = cc in absurd (omega arith)
  plain_same (suc k) (x ∷ bs) n e =
      let m = one_more_lem (plain k bs) n e in
      ap up (plain_same k bs m.0 m.1) ∙ ap some (sym m.2)
  plain_same zero (x ∷ bs) n e = go (eqb x 34) (eqb x 92) e (λ k m. plain_same k bs m)
    where
      go :
          (t u : Bool) →
          choose t (some 1) (choose u (choose (eqb (escape bs) 0) none (up (plain (escape bs) bs)))
          (choose (ends_line x || eqb (character (x ∷ bs)) 0) none (up (plain (character (x ∷ bs) - 1) bs)))) ≡ some n →
          ((k m : ℕ) → plain k bs ≡ some m → plain k (glue b bs) ≡ some m) →
          choose t (some 1) (choose u (choose (eqb (escape (glue b bs)) 0) none (up (plain (escape (glue b bs)) (glue b bs))))
          (choose (ends_line x || eqb (character (glue b (x ∷ bs))) 0) none (up (plain (character (glue b (x ∷ bs)) - 1) (glue b bs))))) ≡ some n
      go true u e f = e
      go false true e f =
          let q = unless (eqb (escape bs) 0) (up (plain (escape bs) bs)) n e in
          let m = one_more_lem (plain (escape bs) bs) n q.1 in
          rw (escape_same bs (not_zero (escape bs) q.0), q.0, f (escape bs) m.0 m.1) (ap some (sym m.2))
      go false false e f =
          let q = unless (ends_line x || eqb (character (x ∷ bs)) 0) (up (plain (character (x ∷ bs) - 1) bs)) n e in
          let m = one_more_lem (plain (character (x ∷ bs) - 1) bs) n q.1 in
          rw (character_same b x bs, q.0, f (character (x ∷ bs) - 1) m.0 m.1) (ap some (sym m.2))

  tripled_same : (bs : List ℕ) → tripled (glue b bs) ≡ tripled bs
  unfolding tripled
  tripled_same [] = refl
  tripled_same (x ∷ []) = go (eqb x 34) (eqb (byte 0 b) 34)
    where
      go : (t u : Bool) → (t && false && u) ≡ (t && false && false)
      go true u = refl
      go false u = refl
  tripled_same (x ∷ y ∷ []) = refl
  tripled_same (x ∷ y ∷ z ∷ bs) = refl

  block_same : (k : ℕ) (bs : List ℕ) (n : ℕ) → block k bs ≡ some n → block k (glue b bs) ≡ some n
  unfolding block
  block_same k [] n e = let z : ◌≡◌ {A = ℕ} 0 1 = cc in absurd (omega arith)
  block_same (suc k) (x ∷ bs) n e =
      let m = one_more_lem (block k bs) n e in
      ap up (block_same k bs m.0 m.1) ∙ ap some (sym m.2)
  block_same zero (x ∷ bs) n e = rw (tripled_same (x ∷ bs), tripled_same bs) (go (tripled (x ∷ bs)) (eqb x 92 && tripled bs) e (λ k m. block_same k bs m))
    where
      go :
          (t u : Bool) →
          choose t (some 3) (choose u (up (block 3 bs)) (choose (eqb (character (x ∷ bs)) 0) none (up (block (character (x ∷ bs) - 1) bs)))) ≡ some n →
          ((k m : ℕ) → block k bs ≡ some m → block k (glue b bs) ≡ some m) →
          choose t (some 3) (choose u (up (block 3 (glue b bs)))
          (choose (eqb (character (glue b (x ∷ bs))) 0) none (up (block (character (glue b (x ∷ bs)) - 1) (glue b bs))))) ≡ some n
      go true u e f = e
      go false true e f =
          let m = one_more_lem (block 3 bs) n e in
          rw (f 3 m.0 m.1) (ap some (sym m.2))
      go false false e f =
          let q = unless (eqb (character (x ∷ bs)) 0) (up (block (character (x ∷ bs) - 1) bs)) n e in
          let m = one_more_lem (block (character (x ∷ bs) - 1) bs) n q.1 in
          rw (character_same b x bs, q.0, f (character (x ∷ bs) - 1) m.0 m.1) (ap some (sym m.2))

pub plain_size : (k : ℕ) (bs : List ℕ) (n : ℕ) → plain k bs ≡ some n → n ≤ length bs
unfolding plain
plain_size k [] n e = let z : ◌≡◌ {A = ℕ} 0 1 = cc in absurd (omega arith)
plain_size (suc k) (x ∷ bs) n e =
    let m = one_more_lem (plain k bs) n e in
    omega (arith, plain_size k bs m.0 m.1, m.2)
plain_size zero (x ∷ bs) n e = go (eqb x 34) (eqb x 92) e (λ k m. plain_size k bs m)
  where
    go :
        (t u : Bool) →
        choose t (some 1) (choose u (choose (eqb (escape bs) 0) none (found (plain (escape bs) bs) (λ m. some (1 + m)) none))
        (choose (ends_line x || eqb (character (x ∷ bs)) 0) none (found (plain (character (x ∷ bs) - 1) bs) (λ m. some (1 + m)) none))) ≡ some n →
        ((k m : ℕ) → plain k bs ≡ some m → m ≤ length bs) → n ≤ suc (length bs)
    go true u e f = let z : 1 ≡ n = cc in omega arith
    go false true e f =
        let q = unless (eqb (escape bs) 0) (found (plain (escape bs) bs) (λ m. some (1 + m)) none) n e in
        let m = one_more_lem (plain (escape bs) bs) n q.1 in
        omega (arith, f (escape bs) m.0 m.1, m.2)
    go false false e f =
        let q = unless (ends_line x || eqb (character (x ∷ bs)) 0) (found (plain (character (x ∷ bs) - 1) bs) (λ m. some (1 + m)) none) n e in
        let m = one_more_lem (plain (character (x ∷ bs) - 1) bs) n q.1 in
        omega (arith, f (character (x ∷ bs) - 1) m.0 m.1, m.2)

pub block_size : (k : ℕ) (bs : List ℕ) (n : ℕ) → block k bs ≡ some n → n ≤ length bs
unfolding block tripled
block_size k [] n e = let z : ◌≡◌ {A = ℕ} 0 1 = cc in absurd (omega arith)
block_size (suc k) (x ∷ bs) n e =
    let m = one_more_lem (block k bs) n e in
    omega (arith, block_size k bs m.0 m.1, m.2)
block_size zero (x ∷ bs) n e = go (tripled (x ∷ bs)) refl (eqb x 92 && tripled bs) e (λ k m. block_size k bs m)
  where
    go :
        (t : Bool) → tripled (x ∷ bs) ≡ t → (u : Bool) →
        choose t (some 3) (choose u (found (block 3 bs) (λ m. some (1 + m)) none)
        (choose (eqb (character (x ∷ bs)) 0) none (found (block (character (x ∷ bs) - 1) bs) (λ m. some (1 + m)) none))) ≡ some n →
        ((k m : ℕ) → block k bs ≡ some m → m ≤ length bs) → n ≤ suc (length bs)
    go true i u e f =
        let z : 3 ≡ n = cc in
        let p = both (eqb x 34 && eqb (byte 0 bs) 34) (eqb (byte 1 bs) 34) i in
        let l = test_there [] (λ y. eqb y 34) refl 1 bs p.1 in
        omega arith
    go false i true e f =
        let m = one_more_lem (block 3 bs) n e in
        omega (arith, f 3 m.0 m.1, m.2)
    go false i false e f =
        let q = unless (eqb (character (x ∷ bs)) 0) (found (block (character (x ∷ bs) - 1) bs) (λ m. some (1 + m)) none) n e in
        let m = one_more_lem (block (character (x ∷ bs) - 1) bs) n q.1 in
        omega (arith, f (character (x ∷ bs) - 1) m.0 m.1, m.2)

-- ---- Numbers.

module _ (b : List ℕ) where
  integer_same : (bs : List ℕ) → integer (glue b bs) ≡ integer bs
  unfolding integer is_digit
  integer_same bs = rw (test_same b (λ y. eqb y 48) refl refl 0 bs (omega arith), run_same b is_digit refl bs)

  begun_same : (m : ℕ) (bs : List ℕ) → m ≤ length bs → begun m (glue b bs) ≡ begun m bs
  unfolding begun is_digit
  begun_same m bs h = rw (drop_same b m bs h, run_same b is_digit refl (drop m bs))

  fraction_same : (bs : List ℕ) → fraction (glue b bs) ≡ fraction bs
  unfolding fraction
  fraction_same bs = rw (test_same b (λ y. eqb y 46) refl refl 0 bs (omega arith)) (go (eqb (byte 0 bs) 46) refl)
    where
      go : (t : Bool) → eqb (byte 0 bs) 46 ≡ t → choose t (begun 1 (glue b bs)) (some 0) ≡ choose t (begun 1 bs) (some 0)
      go true e = begun_same 1 bs (test_there b (λ y. eqb y 46) refl 0 bs e)
      go false e = refl

  exponent_same : (bs : List ℕ) → exponent (glue b bs) ≡ exponent bs
  unfolding exponent
  exponent_same bs = rw (test_same b (λ y. eqb y 101 || eqb y 69) refl refl 0 bs (omega arith)) (go (eqb (byte 0 bs) 101 || eqb (byte 0 bs) 69) refl)
    where
      go :
          (t : Bool) → (eqb (byte 0 bs) 101 || eqb (byte 0 bs) 69) ≡ t →
          choose t (choose (eqb (byte 1 (glue b bs)) 43 || eqb (byte 1 (glue b bs)) 45) (begun 2 (glue b bs)) (begun 1 (glue b bs))) (some 0) ≡
          choose t (choose (eqb (byte 1 bs) 43 || eqb (byte 1 bs) 45) (begun 2 bs) (begun 1 bs)) (some 0)
      go false e = refl
      go true e =
          let l = test_there b (λ y. eqb y 101 || eqb y 69) refl 0 bs e in
          rw (test_same b (λ y. eqb y 43 || eqb y 45) refl refl 1 bs l, begun_same 1 bs l) (next (eqb (byte 1 bs) 43 || eqb (byte 1 bs) 45) refl)
        where
          next : (u : Bool) → (eqb (byte 1 bs) 43 || eqb (byte 1 bs) 45) ≡ u → choose u (begun 2 (glue b bs)) (begun 1 bs) ≡ choose u (begun 2 bs) (begun 1 bs)
          next true i = begun_same 2 bs (test_there b (λ y. eqb y 43 || eqb y 45) refl 1 bs i)
          next false i = refl

  number_of_same : (s n : ℕ) (bs : List ℕ) → n ≤ length bs → number_of s n (glue b bs) ≡ number_of s n bs
  unfolding number_of is_digit is_name_start
  number_of_same s n bs h = rw (test_same b (λ y. is_digit y || eqb y 46 || is_name_start y) refl refl n bs h)

pub integer_size : (bs : List ℕ) → integer bs ≤ length bs
unfolding integer
integer_size bs = go (eqb (byte 0 bs) 48) refl
  where
    go : (t : Bool) → eqb (byte 0 bs) 48 ≡ t → choose t 1 (run is_digit bs) ≤ length bs
    go true e = test_there [] (λ y. eqb y 48) refl 0 bs e
    go false e = run_size is_digit bs

pub begun_size : (m : ℕ) (bs : List ℕ) (n : ℕ) → m ≤ length bs → begun m bs ≡ some n → n ≤ length bs
unfolding begun
begun_size m bs n h e =
    let q = unless (eqb (run is_digit (drop m bs)) 0) (some (m + run is_digit (drop m bs))) n e in
    let z : m + run is_digit (drop m bs) ≡ n = cc in
    omega (arith, run_size is_digit (drop m bs), length-drop m bs)

pub fraction_size : (bs : List ℕ) (n : ℕ) → fraction bs ≡ some n → n ≤ length bs
unfolding fraction
fraction_size bs n e = go (eqb (byte 0 bs) 46) refl e
  where
    go : (t : Bool) → eqb (byte 0 bs) 46 ≡ t → choose t (begun 1 bs) (some 0) ≡ some n → n ≤ length bs
    go true i k = begun_size 1 bs n (test_there [] (λ y. eqb y 46) refl 0 bs i) k
    go false i k = let z : 0 ≡ n = cc in omega arith

pub exponent_size : (bs : List ℕ) (n : ℕ) → exponent bs ≡ some n → n ≤ length bs
unfolding exponent
exponent_size bs n e = go (eqb (byte 0 bs) 101 || eqb (byte 0 bs) 69) refl (eqb (byte 1 bs) 43 || eqb (byte 1 bs) 45) refl e
  where
    go :
        (t : Bool) → (eqb (byte 0 bs) 101 || eqb (byte 0 bs) 69) ≡ t → (u : Bool) → (eqb (byte 1 bs) 43 || eqb (byte 1 bs) 45) ≡ u →
        choose t (choose u (begun 2 bs) (begun 1 bs)) (some 0) ≡ some n → n ≤ length bs
    go true i true j k = begun_size 2 bs n (test_there [] (λ y. eqb y 43 || eqb y 45) refl 1 bs j) k
    go true i false j k = begun_size 1 bs n (test_there [] (λ y. eqb y 101 || eqb y 69) refl 0 bs i) k
    go false i u j k = let z : 0 ≡ n = cc in omega arith

-- The sign of a number.
abbrev pub sign : List ℕ → ℕ
sign bs = choose (eqb (byte 0 bs) 45) 1 0

pub sign_size : (bs : List ℕ) → sign bs ≤ length bs
sign_size bs = go (eqb (byte 0 bs) 45) refl
  where
    go : (t : Bool) → eqb (byte 0 bs) 45 ≡ t → choose t 1 0 ≤ length bs
    go true e = test_there [] (λ y. eqb y 45) refl 0 bs e
    go false e = omega arith

-- A number whose sign and digits end at i.
abbrev pub number_from : ℕ → List ℕ → Lexeme
number_from i bs =
    found (fraction (drop i bs)) (λ f. found (exponent (drop (i + f) bs)) (λ e. number_of (choose (eqb (f + e) 0) 14 15) (i + f + e) bs) unreadable)
    unreadable

module _ (b : List ℕ) where
  from_same : (i : ℕ) (bs : List ℕ) → i ≤ length bs → number_from i (glue b bs) ≡ number_from i bs
  from_same i bs h = rw (drop_same b i bs h, fraction_same b (drop i bs)) (go (fraction (drop i bs)) refl)
    where
      go :
          (o : Option ℕ) → fraction (drop i bs) ≡ o →
          found o (λ f. found (exponent (drop (i + f) (glue b bs))) (λ e. number_of (choose (eqb (f + e) 0) 14 15) (i + f + e) (glue b bs)) unreadable)
          unreadable ≡ found o (λ f. found (exponent (drop (i + f) bs)) (λ e. number_of (choose (eqb (f + e) 0) 14 15) (i + f + e) bs) unreadable)
          unreadable
      go none k = refl
      go (some f) k =
          let l : i + f ≤ length bs = omega (arith, fraction_size (drop i bs) f k, length-drop i bs) in
          rw (drop_same b (i + f) bs l, exponent_same b (drop (i + f) bs)) (next l (exponent (drop (i + f) bs)) refl)
        where
          next :
              i + f ≤ length bs → (p : Option ℕ) → exponent (drop (i + f) bs) ≡ p →
              found p (λ e. number_of (choose (eqb (f + e) 0) 14 15) (i + f + e) (glue b bs)) unreadable ≡
              found p (λ e. number_of (choose (eqb (f + e) 0) 14 15) (i + f + e) bs) unreadable
          next l none j = refl
          next l (some e) j = number_of_same b _ (i + f + e) bs (omega (arith, exponent_size (drop (i + f) bs) e j, length-drop (i + f) bs))

  number_same : (bs : List ℕ) → number (glue b bs) ≡ number bs
  unfolding number
  number_same bs =
      let s = sign_size bs in
      rw (test_same b (λ y. eqb y 45) refl refl 0 bs (omega arith), drop_same b (sign bs) bs s, integer_same b (drop (sign bs) bs)) (
      ap (λ (x : Lexeme). choose (eqb (integer (drop (sign bs) bs)) 0) unreadable x)
      (from_same (sign bs + integer (drop (sign bs) bs)) bs (omega (arith, integer_size (drop (sign bs) bs), length-drop (sign bs) bs))))

-- ---- What stands at the beginning.

-- A thing that is readable, of at most so many bytes.
abbrev pub Fits : ℕ → Lexeme → Type 0
Fits m (ignored n) = n ≤ m
Fits m (lexed s n) = n ≤ m
Fits m unreadable = ⊥

module _ (b : List ℕ) where
  named_same : (bs : List ℕ) → named (glue b bs) ≡ named bs
  unfolding named is_name_byte is_name_start is_digit
  named_same bs = rw (run_same b is_name_byte refl bs, take_same b (run is_name_byte bs) bs (run_size is_name_byte bs))

  string_same : (bs : List ℕ) (m : ℕ) → byte 0 bs ≡ 34 → Fits m (string bs) → string (glue b bs) ≡ string bs
  unfolding string tripled
  string_same bs m q f = rw (tripled_same b bs) (go (tripled bs) refl f)
    where
      some_byte : 0 < length bs
      some_byte = test_there b (λ y. eqb y 34) refl 0 bs (ap (λ (y : ℕ). eqb y 34) q)

      go :
          (t : Bool) → tripled bs ≡ t →
          Fits m (choose t (found (block 0 (drop 3 bs)) (λ n. lexed 16 (3 + n)) unreadable) (found (plain 0 (drop 1 bs)) (λ n. lexed 16 (1 + n)) unreadable)) →
          choose t (found (block 0 (drop 3 (glue b bs))) (λ n. lexed 16 (3 + n)) unreadable)
          (found (plain 0 (drop 1 (glue b bs))) (λ n. lexed 16 (1 + n)) unreadable) ≡
          choose t (found (block 0 (drop 3 bs)) (λ n. lexed 16 (3 + n)) unreadable) (found (plain 0 (drop 1 bs)) (λ n. lexed 16 (1 + n)) unreadable)
      go true i f =
          let p = both (eqb (byte 0 bs) 34 && eqb (byte 1 bs) 34) (eqb (byte 2 bs) 34) i in
          let l = test_there b (λ y. eqb y 34) refl 2 bs p.1 in
          rw (drop_same b 3 bs l) (next (block 0 (drop 3 bs)) refl f)
        where
          next :
              (o : Option ℕ) → block 0 (drop 3 bs) ≡ o → Fits m (found o (λ n. lexed 16 (3 + n)) unreadable) →
              found (block 0 (glue b (drop 3 bs))) (λ n. lexed 16 (3 + n)) unreadable ≡ found o (λ n. lexed 16 (3 + n)) unreadable
          next none j f = absurd f
          next (some n) j f = rw (block_same b 0 (drop 3 bs) n j)
      go false i f = rw (drop_same b 1 bs some_byte) (next (plain 0 (drop 1 bs)) refl f)
        where
          next :
              (o : Option ℕ) → plain 0 (drop 1 bs) ≡ o → Fits m (found o (λ n. lexed 16 (1 + n)) unreadable) →
              found (plain 0 (glue b (drop 1 bs))) (λ n. lexed 16 (1 + n)) unreadable ≡ found o (λ n. lexed 16 (1 + n)) unreadable
          next none j f = absurd f
          next (some n) j f = rw (plain_same b 0 (drop 1 bs) n j)

  -- Two bytes that are asked for, where they are there.
  two_same :
      (p q m : ℕ) (bs : List ℕ) (good : Lexeme) → eqb 0 p ≡ false → eqb 0 q ≡ false →
      Fits m (choose (eqb (byte 1 bs) p && eqb (byte 2 bs) q) good unreadable) →
      choose (eqb (byte 1 (glue b bs)) p && eqb (byte 2 (glue b bs)) q) good unreadable ≡ choose (eqb (byte 1 bs) p && eqb (byte 2 bs) q) good unreadable
  two_same p q m bs good y z f = go (eqb (byte 1 bs) p && eqb (byte 2 bs) q) refl f
    where
      go :
          (t : Bool) → (eqb (byte 1 bs) p && eqb (byte 2 bs) q) ≡ t → Fits m (choose t good unreadable) →
          choose (eqb (byte 1 (glue b bs)) p && eqb (byte 2 (glue b bs)) q) good unreadable ≡ choose t good unreadable
      go true i f =
          let e = both (eqb (byte 1 bs) p) (eqb (byte 2 bs) q) i in
          let l = test_there b (λ x. eqb x q) z 2 bs e.1 in
          rw (byte_same b 1 bs (omega arith), byte_same b 2 bs l, i)
      go false i f = absurd f

-- What stands at the beginning, by the tests on the first byte.
abbrev pub lexeme_by : ℕ → Bool → Bool → Bool → Bool → Bool → Bool → Bool → List ℕ → Lexeme
lexeme_by x t1 t2 t3 t4 t5 t6 t7 cs =
    choose t1 (ignored 1)
    (choose t2 (named cs)
    (choose t3 (number cs)
    (choose t4 (string cs)
    (choose t5 (ignored (1 + comment 0 (drop 1 cs)))
    (choose t6 (choose (eqb (byte 1 cs) 46 && eqb (byte 2 cs) 46) (lexed 5 3) unreadable)
    (choose t7 (choose (eqb (byte 1 cs) 187 && eqb (byte 2 cs) 191) (ignored 3) unreadable)
    (punctuator x punctuators)))))))

pub lexeme_same : (b : List ℕ) (x : ℕ) (bs : List ℕ) (m : ℕ) → Fits m (lexeme (x ∷ bs)) → lexeme (glue b (x ∷ bs)) ≡ lexeme (x ∷ bs)
unfolding lexeme
lexeme_same b x bs m f =
    go (eqb x 9 || eqb x 32 || ends_line x || eqb x 44) (is_name_start x) (is_digit x || eqb x 45) (eqb x 34) refl (eqb x 35) (eqb x 46) (eqb x 239) f
  where
    go :
        (t1 t2 t3 t4 : Bool) → eqb x 34 ≡ t4 → (t5 t6 t7 : Bool) → Fits m (lexeme_by x t1 t2 t3 t4 t5 t6 t7 (x ∷ bs)) →
        lexeme_by x t1 t2 t3 t4 t5 t6 t7 (glue b (x ∷ bs)) ≡ lexeme_by x t1 t2 t3 t4 t5 t6 t7 (x ∷ bs)
    go true t2 t3 t4 i t5 t6 t7 f = refl
    go false true t3 t4 i t5 t6 t7 f = named_same b (x ∷ bs)
    go false false true t4 i t5 t6 t7 f = number_same b (x ∷ bs)
    go false false false true i t5 t6 t7 f = string_same b (x ∷ bs) m (eqb-true x 34 i) f
    go false false false false i true t6 t7 f = ap (λ (n : ℕ). ignored (1 + n)) (comment_same b 0 bs (omega arith))
    go false false false false i false true t7 f = two_same b 46 46 m (x ∷ bs) (lexed 5 3) refl refl f
    go false false false false i false false true f = two_same b 187 191 m (x ∷ bs) (ignored 3) refl refl f
    go false false false false i false false false f = refl

-- ---- Nothing has bytes past the end.

abbrev pub Small : ℕ → Lexeme → Type 0
Small m (ignored n) = n ≤ m
Small m (lexed s n) = n ≤ m
Small m unreadable = Unit {0}

number_of_small : (s n m : ℕ) (bs : List ℕ) → n ≤ m → Small m (number_of s n bs)
unfolding number_of
number_of_small s n m bs h = go (is_digit (byte n bs) || eqb (byte n bs) 46 || is_name_start (byte n bs))
  where
    go : (t : Bool) → Small m (choose t unreadable (lexed s n))
    go true = tt
    go false = h

number_small : (bs : List ℕ) → Small (length bs) (number bs)
unfolding number
number_small bs = go (eqb (integer (drop (sign bs) bs)) 0)
  where
    fits : sign bs + integer (drop (sign bs) bs) ≤ length bs
    fits = omega (arith, sign_size bs, integer_size (drop (sign bs) bs), length-drop (sign bs) bs)

    last :
        (f : ℕ) → sign bs + integer (drop (sign bs) bs) + f ≤ length bs → (p : Option ℕ) →
        exponent (drop (sign bs + integer (drop (sign bs) bs) + f) bs) ≡ p →
        Small (length bs) (found p (λ e. number_of (choose (eqb (f + e) 0) 14 15) (sign bs + integer (drop (sign bs) bs) + f + e) bs) unreadable)
    last f l none j = tt
    last f l (some e) j =
        number_of_small _ _ (length bs) bs
        (omega (
          arith,
          exponent_size (drop (sign bs + integer (drop (sign bs) bs) + f) bs) e j,
          length-drop
              (sign bs + integer (drop (sign bs) bs) + f) bs,
        ))

    next :
        (o : Option ℕ) → fraction (drop (sign bs + integer (drop (sign bs) bs)) bs) ≡ o →
        Small (length bs) (found o (λ f. found (exponent (drop (sign bs + integer (drop (sign bs) bs) + f) bs))
        (λ e. number_of (choose (eqb (f + e) 0) 14 15) (sign bs + integer (drop (sign bs) bs) + f + e) bs) unreadable) unreadable)
    next none k = tt
    next (some f) k =
        last f (omega (
          arith,
          fits,
          fraction_size (drop (sign bs + integer (drop (sign bs) bs)) bs) f k,
          length-drop
              (sign bs + integer (drop (sign bs) bs)) bs,
        )) (exponent (drop (sign bs + integer (drop (sign bs) bs) + f) bs)) refl

    go : (t : Bool) → Small (length bs) (choose t unreadable (number_from (sign bs + integer (drop (sign bs) bs)) bs))
    go true = tt
    go false = next (fraction (drop (sign bs + integer (drop (sign bs) bs)) bs)) refl

string_small : (x : ℕ) (bs : List ℕ) → Small (suc (length bs)) (string (x ∷ bs))
unfolding string tripled
string_small x bs = go (tripled (x ∷ bs)) refl
  where
    blocked : 2 ≤ length bs → (o : Option ℕ) → block 0 (drop 2 bs) ≡ o → Small (suc (length bs)) (found o (λ n. lexed 16 (3 + n)) unreadable)
    blocked l none e = tt
    blocked l (some n) e = omega (arith, block_size 0 (drop 2 bs) n e, length-drop 2 bs)

    plained : (o : Option ℕ) → plain 0 bs ≡ o → Small (suc (length bs)) (found o (λ n. lexed 16 (1 + n)) unreadable)
    plained none e = tt
    plained (some n) e = omega (arith, plain_size 0 bs n e)

    go :
        (t : Bool) → tripled (x ∷ bs) ≡ t →
        Small (suc (length bs)) (choose t (found (block 0 (drop 2 bs)) (λ n. lexed 16 (3 + n)) unreadable)
        (found (plain 0 bs) (λ n. lexed 16 (1 + n)) unreadable))
    go true i =
        let p = both (eqb x 34 && eqb (byte 0 bs) 34) (eqb (byte 1 bs) 34) i in
        blocked (test_there [] (λ y. eqb y 34) refl 1 bs p.1) (block 0 (drop 2 bs)) refl
    go false i = plained (plain 0 bs) refl

two_small :
    (p q : ℕ) (bs : List ℕ) (good : Lexeme) → eqb 0 q ≡ false → Small 3 good → (3 ≤ suc (length bs) → Small (suc (length bs)) good) →
    Small (suc (length bs)) (choose (eqb (byte 0 bs) p && eqb (byte 1 bs) q) good unreadable)
two_small p q bs good z h f = go (eqb (byte 0 bs) p && eqb (byte 1 bs) q) refl
  where
    go : (t : Bool) → (eqb (byte 0 bs) p && eqb (byte 1 bs) q) ≡ t → Small (suc (length bs)) (choose t good unreadable)
    go true i =
        let e = both (eqb (byte 0 bs) p) (eqb (byte 1 bs) q) i in
        let l = test_there [] (λ x. eqb x q) z 1 bs e.1 in
        f (omega arith)
    go false i = tt

punctuator_small : (x m : ℕ) (ps : List (ℕ × ℕ)) → 1 ≤ m → Small m (punctuator x ps)
unfolding punctuator
punctuator_small x m [] h = tt
punctuator_small x m (p ∷ ps) h = go (eqb x p.0) (punctuator_small x m ps h)
  where
    go : (t : Bool) → Small m (punctuator x ps) → Small m (choose t (lexed p.1 1) (punctuator x ps))
    go true k = h
    go false k = k

pub lexeme_small : (x : ℕ) (bs : List ℕ) → Small (suc (length bs)) (lexeme (x ∷ bs))
unfolding lexeme named
lexeme_small x bs = go (eqb x 9 || eqb x 32 || ends_line x || eqb x 44) (is_name_start x) (is_digit x || eqb x 45) (eqb x 34) (eqb x 35) (eqb x 46) (eqb x 239)
  where
    go : (t1 t2 t3 t4 t5 t6 t7 : Bool) → Small (suc (length bs)) (lexeme_by x t1 t2 t3 t4 t5 t6 t7 (x ∷ bs))
    go true t2 t3 t4 t5 t6 t7 = omega arith
    go false true t3 t4 t5 t6 t7 = run_size is_name_byte (x ∷ bs)
    go false false true t4 t5 t6 t7 = number_small (x ∷ bs)
    go false false false true t5 t6 t7 = string_small x bs
    go false false false false true t6 t7 = let k = comment_size 0 bs in omega arith
    go false false false false false true t7 = two_small 46 46 bs (lexed 5 3) refl (omega arith) (λ l. l)
    go false false false false false false true = two_small 187 191 bs (ignored 3) refl (omega arith) (λ l. l)
    go false false false false false false false = punctuator_small x (suc (length bs)) punctuators (omega arith)

-- ---- Nothing that is read has no bytes.

abbrev pub Sized : Lexeme → Type 0
Sized (ignored n) = 1 ≤ n
Sized (lexed s n) = 1 ≤ n
Sized unreadable = Unit {0}

number_of_sized : (s n : ℕ) (bs : List ℕ) → 1 ≤ n → Sized (number_of s n bs)
unfolding number_of
number_of_sized s n bs h = go (is_digit (byte n bs) || eqb (byte n bs) 46 || is_name_start (byte n bs))
  where
    go : (t : Bool) → Sized (choose t unreadable (lexed s n))
    go true = tt
    go false = h

from_sized : (i : ℕ) (bs : List ℕ) → 1 ≤ i → Sized (number_from i bs)
from_sized i bs h = next (fraction (drop i bs))
  where
    last : (f : ℕ) (o : Option ℕ) → Sized (found o (λ e. number_of (choose (eqb (f + e) 0) 14 15) (i + f + e) bs) unreadable)
    last f none = tt
    last f (some e) = number_of_sized (choose (eqb (f + e) 0) 14 15) (i + f + e) bs (omega arith)

    next : (o : Option ℕ) →
        Sized (found o (λ f. found (exponent (drop (i + f) bs)) (λ e. number_of (choose (eqb (f + e) 0) 14 15) (i + f + e) bs) unreadable) unreadable)
    next none = tt
    next (some f) = last f (exponent (drop (i + f) bs))

number_sized : (bs : List ℕ) → Sized (number bs)
unfolding number
number_sized bs = go (eqb (integer (drop (sign bs) bs)) 0) refl
  where
    go : (t : Bool) → eqb (integer (drop (sign bs) bs)) 0 ≡ t → Sized (choose t unreadable (number_from (sign bs + integer (drop (sign bs) bs)) bs))
    go true e = tt
    go false e =
        let k = eqb-false (integer (drop (sign bs) bs)) 0 e in
        from_sized (sign bs + integer (drop (sign bs) bs)) bs (omega arith)

string_sized : (bs : List ℕ) → Sized (string bs)
unfolding string
string_sized bs = go (tripled bs) (block 0 (drop 3 bs)) (plain 0 (drop 1 bs))
  where
    go : (t : Bool) (o p : Option ℕ) → Sized (choose t (found o (λ n. lexed 16 (3 + n)) unreadable) (found p (λ n. lexed 16 (1 + n)) unreadable))
    go true none p = tt
    go true (some n) p = omega arith
    go false o none = tt
    go false o (some n) = omega arith

named_sized : (x : ℕ) (bs : List ℕ) → is_name_start x ≡ true → Sized (named (x ∷ bs))
unfolding named run is_name_byte
named_sized x bs e = rw e (omega arith)

punctuator_sized : (x : ℕ) (ps : List (ℕ × ℕ)) → Sized (punctuator x ps)
unfolding punctuator
punctuator_sized x [] = tt
punctuator_sized x (p ∷ ps) = go (eqb x p.0) (punctuator_sized x ps)
  where
    go : (t : Bool) → Sized (punctuator x ps) → Sized (choose t (lexed p.1 1) (punctuator x ps))
    go true h = omega arith
    go false h = h

pub lexeme_sized : (x : ℕ) (bs : List ℕ) → Sized (lexeme (x ∷ bs))
unfolding lexeme
lexeme_sized x bs =
    go (eqb x 9 || eqb x 32 || ends_line x || eqb x 44) (is_name_start x) refl (is_digit x || eqb x 45) (eqb x 34) (eqb x 35) (eqb x 46) (eqb x 239)
  where
    two : (t : Bool) (l : Lexeme) → Sized l → Sized (choose t l unreadable)
    two true l h = h
    two false l h = tt

    go : (t1 t2 : Bool) → is_name_start x ≡ t2 → (t3 t4 t5 t6 t7 : Bool) → Sized (lexeme_by x t1 t2 t3 t4 t5 t6 t7 (x ∷ bs))
    go true t2 i t3 t4 t5 t6 t7 = omega arith
    go false true i t3 t4 t5 t6 t7 = named_sized x bs i
    go false false i true t4 t5 t6 t7 = number_sized (x ∷ bs)
    go false false i false true t5 t6 t7 = string_sized (x ∷ bs)
    go false false i false false true t6 t7 = omega arith
    go false false i false false false true t7 = two (eqb (byte 0 bs) 46 && eqb (byte 1 bs) 46) (lexed 5 3) (omega arith)
    go false false i false false false false true = two (eqb (byte 0 bs) 187 && eqb (byte 1 bs) 191) (ignored 3) (omega arith)
    go false false i false false false false false = punctuator_sized x punctuators

-- ---- The tokens of joined texts.

-- Tokens, and then more.
abbrev pub and_then : Lexed → Lexed → Lexed
and_then l m = record { tokens = l.tokens ++ m.tokens; ends = m.ends; broken = m.broken }

-- What a text of which k bytes are passed over is followed by.
line_feed : (b : List ℕ) → lexeme (10 ∷ b) ≡ ignored 1
unfolding lexeme ends_line
line_feed b = refl

pub tokens_glue :
    (b : List ℕ) (k at : ℕ) (a : List ℕ) → k ≤ length a → (tokens_from k at a).broken ≡ false →
    tokens_from k at (glue b a) ≡ and_then (tokens_from k at a) (tokens_from 0 (1 + (at + length a)) b)
unfolding tokens_from
tokens_glue b zero at [] h e =
    let z : at ≡ at + 0 = omega arith in
    ap (lexed_by at (λ k. tokens_from k (1 + at) b)) (line_feed b) ∙ ap (λ (n : ℕ). tokens_from 0 (1 + n) b) z
tokens_glue b (suc k) at [] h e = absurd (omega arith)
tokens_glue b (suc k) at (x ∷ a) h e =
    let z : 1 + at + length a ≡ at + suc (length a) = omega arith in
    tokens_glue b k (1 + at) a (omega arith) e ∙ ap (λ (n : ℕ). and_then (tokens_from k (1 + at) a) (tokens_from 0 (1 + n) b)) z
tokens_glue b zero at (x ∷ a) h e = go (lexeme (x ∷ a)) refl (lexeme_small x a) (lexeme_same b x a (suc (length a))) e (λ k. tokens_glue b k (1 + at) a)
  where
    z : 1 + at + length a ≡ at + suc (length a)
    z = omega arith

    go :
        (l : Lexeme) → lexeme (x ∷ a) ≡ l → Small (suc (length a)) l → (Fits (suc (length a)) l → lexeme (glue b (x ∷ a)) ≡ l) →
        (lexed_by at (λ k. tokens_from k (1 + at) a) l).broken ≡ false →
        ((k : ℕ) → k ≤ length a → (tokens_from k (1 + at) a).broken ≡ false → tokens_from k (1 + at) (glue b a) ≡
        and_then (tokens_from k (1 + at) a) (tokens_from 0 (1 + (1 + at + length a)) b)) →
        lexed_by at (λ k. tokens_from k (1 + at) (glue b a)) (lexeme (glue b (x ∷ a))) ≡
        and_then (lexed_by at (λ k. tokens_from k (1 + at) a) l) (tokens_from 0 (1 + (at + suc (length a))) b)
    go (ignored n) i s f e r =
        ap (lexed_by at (λ k. tokens_from k (1 + at) (glue b a))) (f s) ∙
        r (n - 1) (omega arith) e ∙
        ap (λ (m : ℕ). and_then (tokens_from (n - 1) (1 + at) a) (tokens_from 0 (1 + m) b)) z
    go (lexed c n) i s f e r =
        ap (lexed_by at (λ k. tokens_from k (1 + at) (glue b a))) (f s) ∙
        ap (λ (q : Lexed). lexed_by at (λ k. q) (lexed c n))
        (r (n - 1) (omega arith) e ∙ ap (λ (m : ℕ). and_then (tokens_from (n - 1) (1 + at) a) (tokens_from 0 (1 + m) b)) z)
    go unreadable i s f e r = clash (sym e)

-- The statement for whole texts: the tokens of two texts with a line feed between them.
pub tokens_joined :
    (a b : List ℕ) → (tokens_from 0 0 a).broken ≡ false → tokens_from 0 0 (a ++ (10 ∷ b)) ≡ and_then (tokens_from 0 0 a) (tokens_from 0 (1 + length a) b)
tokens_joined a b e =
    let z : 0 + length a ≡ length a = omega arith in
    tokens_glue b 0 0 a (omega arith) e ∙ ap (λ (n : ℕ). and_then (tokens_from 0 0 a) (tokens_from 0 (1 + n) b)) z

-- ---- A text that begins elsewhere has the same tokens, moved.

abbrev pub moved_token : ℕ → Token → Token
moved_token d t = record { sort = t.sort; begins = d + t.begins; size = t.size }

unfoldable pub moved_tokens : ℕ → List Token → List Token
moved_tokens d [] = []
moved_tokens d (t ∷ ts) = moved_token d t ∷ moved_tokens d ts

abbrev pub moved : ℕ → Lexed → Lexed
moved d l = record { tokens = moved_tokens d l.tokens; ends = d + l.ends; broken = l.broken }

pub tokens_moved : (d k at : ℕ) (a : List ℕ) → tokens_from k (d + at) a ≡ moved d (tokens_from k at a)
unfolding tokens_from moved_tokens
tokens_moved d k at [] = refl
tokens_moved d (suc k) at (x ∷ a) =
    let z : 1 + (d + at) ≡ d + (1 + at) = omega arith in
    ap (λ (n : ℕ). tokens_from k n a) z ∙ tokens_moved d k (1 + at) a
tokens_moved d zero at (x ∷ a) = go (lexeme (x ∷ a)) (λ k. tokens_moved d k (1 + at) a)
  where
    z : 1 + (d + at) ≡ d + (1 + at)
    z = omega arith

    go :
        (l : Lexeme) → ((k : ℕ) → tokens_from k (d + (1 + at)) a ≡ moved d (tokens_from k (1 + at) a)) →
        lexed_by (d + at) (λ k. tokens_from k (1 + (d + at)) a) l ≡ moved d (lexed_by at (λ k. tokens_from k (1 + at) a) l)
    go (ignored n) r = ap (λ (m : ℕ). tokens_from (n - 1) m a) z ∙ r (n - 1)
    go (lexed c n) r = ap (λ (q : Lexed). lexed_by (d + at) (λ k. q) (lexed c n)) (ap (λ (m : ℕ). tokens_from (n - 1) m a) z ∙ r (n - 1))
    go unreadable r = refl
