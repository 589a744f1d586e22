-- A text cut between two tokens: the tokens of both pieces are the tokens of the whole.
use mathlib.Core.Path.{◌≡◌, refl, sym, ap, ◌∙◌, subst}
use mathlib.Core.List.{List, [], ◌∷◌, ◌++◌}
use mathlib.Core.Bool.{Bool, true, false, ◌&&◌, ◌||◌}
use mathlib.Core.Option.{Option, none, some}
use mathlib.Core.Logic.{◌⊎◌, inl, inr}
use Prim.Native.Nat.{ℕ, zero, suc, ◌+◌, ◌-◌, ◌≤◌, ◌<◌}
use native.Mathlib.Omega.{arith}
use borrow.Author.Tests.{eqb-true}
use lib.Dec.{eqb}
use lib.ListN.{length, take, drop, length-drop, take-append-drop}
use lib.Seq.{take-append-le, drop-append-le}
use Rattle.definition.specs.Lists.{choose, found, any, Among, here, there}
use Rattle.definition.specs.Derivation.{Token}
use Rattle.definition.specs.Names.{is_name_start, is_name_byte}
use Rattle.definition.specs.Lexical.{between, byte, continues, character, ends_line, comment, is_digit, run, integer, begun, fraction, exponent, Lexeme}
use Rattle.definition.specs.Lexical.{ignored, lexed, unreadable, number_of, number, is_hex, escape, plain, tripled, block, string}
use Rattle.definition.specs.Lexical.{named, lexeme, Lexed, lexed_by, tokens_from}
use Rattle.parser_laws.proofs.Tests.{clash, both}
use Rattle.parser_laws.proofs.Gluing.{test_there, both_false, character_size, one_more_lem, unless, sign, sign_size}
use Rattle.parser_laws.proofs.Gluing.{number_from, lexeme_by, escaped, Fits, and_then, Small, lexeme_small}

-- The size of a character by the tests on its bytes.
abbrev char_by : Bool → Bool → Bool → Bool → Bool → ℕ
char_by t u w v r = choose t 1 (choose u (choose w 2 0) (choose v (choose r 3 0) 0))

module _ (c : List ℕ) where
  byte_in : (i : ℕ) (bs : List ℕ) → i < length bs → byte i (bs ++ c) ≡ byte i bs
  byte_in i [] h = absurd (omega arith)
  byte_in zero (x ∷ bs) h = refl
  byte_in (suc i) (x ∷ bs) h = byte_in i bs (omega arith)

  -- What does not hold of a byte of the whole does not hold of it in the piece; what holds in the piece holds in the whole.
  test_cut : (p : ℕ → Bool) → p 0 ≡ false → (i : ℕ) (bs : List ℕ) → p (byte i (bs ++ c)) ≡ false → p (byte i bs) ≡ false
  test_cut p z i [] h = z
  test_cut p z zero (x ∷ bs) h = h
  test_cut p z (suc i) (x ∷ bs) h = test_cut p z i bs h

  run_cut : (p : ℕ → Bool) (bs : List ℕ) → run p (bs ++ c) ≤ length bs → run p bs ≡ run p (bs ++ c)
  unfolding run
  run_cut p [] h = omega arith
  run_cut p (x ∷ bs) h = go (p x) h (run_cut p bs)
    where
      go :
          (t : Bool) → choose t (1 + run p (bs ++ c)) 0 ≤ suc (length bs) → (run p (bs ++ c) ≤ length bs → run p bs ≡ run p (bs ++ c)) →
          choose t (1 + run p bs) 0 ≡ choose t (1 + run p (bs ++ c)) 0
      go true h f = ap (λ (n : ℕ). 1 + n) (f (omega arith))
      go false h f = refl

  none_of : (t : Bool) (n m : ℕ) → choose t n 0 ≤ m → m < n → choose t n 0 ≡ 0
  none_of true n m h k = absurd (omega arith)
  none_of false n m h k = refl

  character_cut : (x : ℕ) (bs : List ℕ) → character (x ∷ (bs ++ c)) ≤ suc (length bs) → character (x ∷ bs) ≡ character (x ∷ (bs ++ c))
  unfolding character
  character_cut x [] h =
      go (eqb x 9 || eqb x 10 || eqb x 13 || between 32 127 x) (between 194 223 x) (between 224 239 x) (continues (byte 0 c))
      (choose (eqb x 224) false (choose (eqb x 237) false false))
      (choose (eqb x 224) (between 160 191 (byte 0 c)) (choose (eqb x 237) (between 128 159 (byte 0 c)) (continues (byte 0 c))) && continues (byte 1 c)) h
    where
      go : (t u v w s r : Bool) → char_by t u w v r ≤ 1 → char_by t u false v (s && false) ≡ char_by t u w v r
      go true u v w s r h = refl
      go false true v w s r h = sym (none_of w 2 1 h (omega arith))
      go false false true w s r h = rw (both_false [] s) (sym (none_of r 3 1 h (omega arith)))
      go false false false w s r h = refl
  character_cut x (y ∷ []) h =
      go (eqb x 9 || eqb x 10 || eqb x 13 || between 32 127 x) (between 194 223 x) (between 224 239 x) (continues y)
      (choose (eqb x 224) (between 160 191 y) (choose (eqb x 237) (between 128 159 y) (continues y))) (continues (byte 0 c)) h
    where
      go : (t u v w s r : Bool) → char_by t u w v (s && r) ≤ 2 → char_by t u w v (s && false) ≡ char_by t u w v (s && r)
      go true u v w s r h = refl
      go false true v w s r h = refl
      go false false true w s r h = rw (both_false [] s) (sym (none_of (s && r) 3 2 h (omega arith)))
      go false false false w s r h = refl
  character_cut x (y ∷ z ∷ bs) h = refl
  -- ---- Comments and strings reach at least over what they pass.

comment_over : (k : ℕ) (bs : List ℕ) → k ≤ length bs → k ≤ comment k bs
unfolding comment
comment_over zero bs h = omega arith
comment_over (suc k) [] h = absurd (omega arith)
comment_over (suc k) (x ∷ bs) h = let i = comment_over k bs (omega arith) in omega arith

plain_over : (k : ℕ) (bs : List ℕ) (n : ℕ) → plain k bs ≡ some n → k < n
unfolding plain
plain_over k [] n e = let z : ◌≡◌ {A = ℕ} 0 1 = cc in absurd (omega arith)
plain_over (suc k) (x ∷ bs) n e =
    let m = one_more_lem (plain k bs) n e in
    omega (arith, plain_over k bs m.0 m.1, m.2)
plain_over zero (x ∷ bs) n e = go (eqb x 34) (eqb x 92) e
  where
    go :
        (t u : Bool) →
        choose t (some 1) (choose u (choose (eqb (escape bs) 0) none (found (plain (escape bs) bs) (λ m. some (1 + m)) none))
        (choose (ends_line x || eqb (character (x ∷ bs)) 0) none (found (plain (character (x ∷ bs) - 1) bs) (λ m. some (1 + m)) none))) ≡ some n →
        0 < n
    go true u e = let z : 1 ≡ n = cc in omega arith
    go false true e =
        let q = unless (eqb (escape bs) 0) (found (plain (escape bs) bs) (λ m. some (1 + m)) none) n e in
        let m = one_more_lem (plain (escape bs) bs) n q.1 in
        omega (arith, m.2)
    go false false e =
        let q = unless (ends_line x || eqb (character (x ∷ bs)) 0) (found (plain (character (x ∷ bs) - 1) bs) (λ m. some (1 + m)) none) n e in
        let m = one_more_lem (plain (character (x ∷ bs) - 1) bs) n q.1 in
        omega (arith, m.2)

block_over : (k : ℕ) (bs : List ℕ) (n : ℕ) → block k bs ≡ some n → k < n
unfolding block
block_over k [] n e = let z : ◌≡◌ {A = ℕ} 0 1 = cc in absurd (omega arith)
block_over (suc k) (x ∷ bs) n e =
    let m = one_more_lem (block k bs) n e in
    omega (arith, block_over k bs m.0 m.1, m.2)
block_over zero (x ∷ bs) n e = go (tripled (x ∷ bs)) (eqb x 92 && tripled bs) e
  where
    go :
        (t u : Bool) →
        choose t (some 3) (choose u (found (block 3 bs) (λ m. some (1 + m)) none)
        (choose (eqb (character (x ∷ bs)) 0) none (found (block (character (x ∷ bs) - 1) bs) (λ m. some (1 + m)) none))) ≡ some n →
        0 < n
    go true u e = let z : 3 ≡ n = cc in omega arith
    go false true e = let m = one_more_lem (block 3 bs) n e in omega (arith, m.2)
    go false false e =
        let q = unless (eqb (character (x ∷ bs)) 0) (found (block (character (x ∷ bs) - 1) bs) (λ m. some (1 + m)) none) n e in
        let m = one_more_lem (block (character (x ∷ bs) - 1) bs) n q.1 in
        omega (arith, m.2)

module _ (c : List ℕ) where
  comment_cut : (k : ℕ) (bs : List ℕ) → k ≤ length bs → comment k (bs ++ c) ≤ length bs → comment k bs ≡ comment k (bs ++ c)
  unfolding comment
  comment_cut zero [] h e = omega arith
  comment_cut (suc k) [] h e = absurd (omega arith)
  comment_cut (suc k) (x ∷ bs) h e = ap (λ (n : ℕ). 1 + n) (comment_cut k bs (omega arith) (omega arith))
  comment_cut zero (x ∷ bs) h e = go (ends_line x) (character (x ∷ (bs ++ c))) refl e (comment_cut (character (x ∷ (bs ++ c)) - 1) bs)
    where
      go :
          (t : Bool) (n : ℕ) → character (x ∷ (bs ++ c)) ≡ n → choose (t || eqb n 0) 0 (1 + comment (n - 1) (bs ++ c)) ≤ suc (length bs) →
          (n - 1 ≤ length bs → comment (n - 1) (bs ++ c) ≤ length bs → comment (n - 1) bs ≡ comment (n - 1) (bs ++ c)) →
          choose (t || eqb (character (x ∷ bs)) 0) 0 (1 + comment (character (x ∷ bs) - 1) bs) ≡ choose (t || eqb n 0) 0 (1 + comment (n - 1) (bs ++ c))
      go true n i e f = refl
      go false n i e f =
          ap (λ (m : ℕ). choose (eqb m 0) 0 (1 + comment (m - 1) bs)) (character_cut c x bs (omega (arith, i, room (eqb n 0) refl e)) ∙ i) ∙
          last (eqb n 0) refl e
        where
          s : n ≤ suc (length (bs ++ c))
          s = omega (arith, i, character_size x (bs ++ c))

          room : (u : Bool) → eqb n 0 ≡ u → choose u 0 (1 + comment (n - 1) (bs ++ c)) ≤ suc (length bs) → n ≤ suc (length bs)
          room true j e = omega (arith, eqb-true n 0 j)
          room false j e = omega (arith, comment_over (n - 1) (bs ++ c) (omega (arith, s)))

          last :
              (u : Bool) → eqb n 0 ≡ u → choose u 0 (1 + comment (n - 1) (bs ++ c)) ≤ suc (length bs) →
              choose u 0 (1 + comment (n - 1) bs) ≡ choose u 0 (1 + comment (n - 1) (bs ++ c))
          last true j e = refl
          last false j e = ap (λ (m : ℕ). 1 + m) (f (omega (arith, room false j e)) (omega arith))

  -- ---- Strings.

  any_zero : any (eqb 0) (34 ∷ 92 ∷ 47 ∷ 98 ∷ 102 ∷ 110 ∷ 114 ∷ 116 ∷ []) ≡ false
  unfolding any
  any_zero = refl

  escape_cut : (bs : List ℕ) → escape (bs ++ c) ≤ length bs → 0 < escape (bs ++ c) → escape bs ≡ escape (bs ++ c)
  unfolding escape is_hex is_digit
  escape_cut [] h k = absurd (omega arith)
  escape_cut (x ∷ bs) h k =
      go (any (eqb x) (34 ∷ 92 ∷ 47 ∷ 98 ∷ 102 ∷ 110 ∷ 114 ∷ 116 ∷ [])) (eqb x 117)
      (is_hex (byte 0 (bs ++ c)) && is_hex (byte 1 (bs ++ c)) && is_hex (byte 2 (bs ++ c)) && is_hex (byte 3 (bs ++ c))) refl h k
    where
      go :
          (t u v : Bool) → (is_hex (byte 0 (bs ++ c)) && is_hex (byte 1 (bs ++ c)) && is_hex (byte 2 (bs ++ c)) && is_hex (byte 3 (bs ++ c))) ≡ v →
          escaped t u v ≤ suc (length bs) → 0 < escaped t u v →
          escaped t u (is_hex (byte 0 bs) && is_hex (byte 1 bs) && is_hex (byte 2 bs) && is_hex (byte 3 bs)) ≡ escaped t u v
      go true u v e h k = refl
      go false false v e h k = refl
      go false true false e h k = absurd (omega arith)
      go false true true e h k =
          let r : (is_hex (byte 0 bs) && is_hex (byte 1 bs) && is_hex (byte 2 bs) && is_hex (byte 3 bs)) ≡ true =
          rw (← byte_in c 0 bs (omega arith), ← byte_in c 1 bs (omega arith), ← byte_in c 2 bs (omega arith), ← byte_in c 3 bs (omega arith)) e in
          rw r

  abbrev up : Option ℕ → Option ℕ
  up o = found o (λ m. some (1 + m)) none

  nonzero : (n : ℕ) → eqb n 0 ≡ false → 0 < n
  nonzero zero e = clash (sym e)
  nonzero (suc n) e = omega arith

  plain_cut : (k : ℕ) (bs : List ℕ) (n : ℕ) → plain k (bs ++ c) ≡ some n → n ≤ length bs → plain k bs ≡ some n
  unfolding plain
  plain_cut k [] n e h = let p = plain_over k c n e in absurd (omega arith)
  plain_cut (suc k) (x ∷ bs) n e h =
      let m = one_more_lem (plain k (bs ++ c)) n e in
      ap up (plain_cut k bs m.0 m.1 (omega (arith, m.2))) ∙ ap some (sym m.2)
  plain_cut zero (x ∷ bs) n e h = go (eqb x 34) (eqb x 92) e (λ k m. plain_cut k bs m)
    where
      go :
          (t u : Bool) →
          choose t (some 1) (choose u (choose (eqb (escape (bs ++ c)) 0) none (up (plain (escape (bs ++ c)) (bs ++ c))))
          (choose (ends_line x || eqb (character (x ∷ (bs ++ c))) 0) none (up (plain (character (x ∷ (bs ++ c)) - 1) (bs ++ c))))) ≡ some n →
          ((k m : ℕ) → plain k (bs ++ c) ≡ some m → m ≤ length bs → plain k bs ≡ some m) →
          choose t (some 1) (choose u (choose (eqb (escape bs) 0) none (up (plain (escape bs) bs)))
          (choose (ends_line x || eqb (character (x ∷ bs)) 0) none (up (plain (character (x ∷ bs) - 1) bs)))) ≡ some n
      go true u e f = e
      go false true e f =
          let q = unless (eqb (escape (bs ++ c)) 0) (up (plain (escape (bs ++ c)) (bs ++ c))) n e in
          let m = one_more_lem (plain (escape (bs ++ c)) (bs ++ c)) n q.1 in
          let o = plain_over (escape (bs ++ c)) (bs ++ c) m.0 m.1 in
          let s = escape_cut bs (omega (arith, m.2)) (nonzero (escape (bs ++ c)) q.0) in
          rw (s, q.0, f (escape (bs ++ c)) m.0 m.1 (omega (arith, m.2))) (ap some (sym m.2))
      go false false e f =
          let q = unless (ends_line x || eqb (character (x ∷ (bs ++ c))) 0) (up (plain (character (x ∷ (bs ++ c)) - 1) (bs ++ c))) n e in
          let m = one_more_lem (plain (character (x ∷ (bs ++ c)) - 1) (bs ++ c)) n q.1 in
          let o = plain_over (character (x ∷ (bs ++ c)) - 1) (bs ++ c) m.0 m.1 in
          let s = character_cut c x bs (omega (arith, m.2)) in
          rw (s, q.0, f (character (x ∷ (bs ++ c)) - 1) m.0 m.1 (omega (arith, m.2))) (ap some (sym m.2))

  -- Three quotes: in the whole where in the piece, and in the piece where they fit.
  tripled_in : (bs : List ℕ) → 3 ≤ length bs → tripled bs ≡ tripled (bs ++ c)
  unfolding tripled
  tripled_in bs h = rw (byte_in c 0 bs (omega arith), byte_in c 1 bs (omega arith), byte_in c 2 bs (omega arith))

  tripled_not : (bs : List ℕ) → tripled (bs ++ c) ≡ false → tripled bs ≡ false
  unfolding tripled
  tripled_not bs h = go (eqb (byte 0 bs) 34 && eqb (byte 1 bs) 34 && eqb (byte 2 bs) 34) refl
    where
      go : (t : Bool) → (eqb (byte 0 bs) 34 && eqb (byte 1 bs) 34 && eqb (byte 2 bs) 34) ≡ t → t ≡ false
      go true e =
          let l = test_there [] (λ y. eqb y 34) refl 2 bs (both (eqb (byte 0 bs) 34 && eqb (byte 1 bs) 34) (eqb (byte 2 bs) 34) e).1 in
          clash (sym h ∙ sym (tripled_in bs l) ∙ e)
      go false e = refl

  block_cut : (k : ℕ) (bs : List ℕ) (n : ℕ) → block k (bs ++ c) ≡ some n → n ≤ length bs → block k bs ≡ some n
  unfolding block
  block_cut k [] n e h = let p = block_over k c n e in absurd (omega arith)
  block_cut (suc k) (x ∷ bs) n e h =
      let m = one_more_lem (block k (bs ++ c)) n e in
      ap up (block_cut k bs m.0 m.1 (omega (arith, m.2))) ∙ ap some (sym m.2)
  block_cut zero (x ∷ bs) n e h = go (tripled (x ∷ (bs ++ c))) refl (eqb x 92) (tripled (bs ++ c)) refl e (λ k m. block_cut k bs m)
    where
      other :
          ((k m : ℕ) → block k (bs ++ c) ≡ some m → m ≤ length bs → block k bs ≡ some m) →
          choose (eqb (character (x ∷ (bs ++ c))) 0) none (up (block (character (x ∷ (bs ++ c)) - 1) (bs ++ c))) ≡ some n →
          choose (eqb (character (x ∷ bs)) 0) none (up (block (character (x ∷ bs) - 1) bs)) ≡ some n
      other f e =
          let q = unless (eqb (character (x ∷ (bs ++ c))) 0) (up (block (character (x ∷ (bs ++ c)) - 1) (bs ++ c))) n e in
          let m = one_more_lem (block (character (x ∷ (bs ++ c)) - 1) (bs ++ c)) n q.1 in
          let o = block_over (character (x ∷ (bs ++ c)) - 1) (bs ++ c) m.0 m.1 in
          let s = character_cut c x bs (omega (arith, m.2)) in
          rw (s, q.0, f (character (x ∷ (bs ++ c)) - 1) m.0 m.1 (omega (arith, m.2))) (ap some (sym m.2))

      go :
          (t : Bool) → tripled (x ∷ (bs ++ c)) ≡ t → (u v : Bool) → tripled (bs ++ c) ≡ v →
          choose t (some 3) (choose (u && v) (up (block 3 (bs ++ c)))
          (choose (eqb (character (x ∷ (bs ++ c))) 0) none (up (block (character (x ∷ (bs ++ c)) - 1) (bs ++ c))))) ≡ some n →
          ((k m : ℕ) → block k (bs ++ c) ≡ some m → m ≤ length bs → block k bs ≡ some m) →
          choose (tripled (x ∷ bs)) (some 3)
          (choose (u && tripled bs) (up (block 3 bs)) (choose (eqb (character (x ∷ bs)) 0) none (up (block (character (x ∷ bs) - 1) bs)))) ≡ some n
      go true i u v j e f =
          let z : 3 ≡ n = cc in
          rw (tripled_in (x ∷ bs) (omega arith) ∙ i) e
      go false i true true j e f =
          let m = one_more_lem (block 3 (bs ++ c)) n e in
          let o = block_over 3 (bs ++ c) m.0 m.1 in
          rw (tripled_not (x ∷ bs) i, tripled_in bs (omega (arith, m.2)) ∙ j, f 3 m.0 m.1 (omega (arith, m.2))) (ap some (sym m.2))
      go false i true false j e f = rw (tripled_not (x ∷ bs) i, tripled_not bs j) (other f e)
      go false i false v j e f = rw (tripled_not (x ∷ bs) i) (other f e)

  drop_in : (n : ℕ) (bs : List ℕ) → n ≤ length bs → drop n (bs ++ c) ≡ drop n bs ++ c
  drop_in n bs h = drop-append-le n bs c h

  string_cut : (x : ℕ) (bs : List ℕ) (s n : ℕ) → string (x ∷ (bs ++ c)) ≡ lexed s n → n ≤ suc (length bs) → string (x ∷ bs) ≡ lexed s n
  unfolding string
  string_cut x bs s n e h = go (tripled (x ∷ (bs ++ c))) refl e
    where
      go :
          (t : Bool) → tripled (x ∷ (bs ++ c)) ≡ t →
          choose t (found (block 0 (drop 2 (bs ++ c))) (λ n. lexed 16 (3 + n)) unreadable)
          (found (plain 0 (bs ++ c)) (λ n. lexed 16 (1 + n)) unreadable) ≡ lexed s n →
          choose (tripled (x ∷ bs)) (found (block 0 (drop 2 bs)) (λ n. lexed 16 (3 + n)) unreadable)
          (found (plain 0 bs) (λ n. lexed 16 (1 + n)) unreadable) ≡ lexed s n
      go true i e = next (block 0 (drop 2 (bs ++ c))) refl e
        where
          next :
              (o : Option ℕ) → block 0 (drop 2 (bs ++ c)) ≡ o → found o (λ n. lexed 16 (3 + n)) unreadable ≡ lexed s n →
              choose (tripled (x ∷ bs)) (found (block 0 (drop 2 bs)) (λ n. lexed 16 (3 + n)) unreadable)
              (found (plain 0 bs) (λ n. lexed 16 (1 + n)) unreadable) ≡ lexed s n
          next none j e = let z : ◌≡◌ {A = ℕ} 0 1 = cc in absurd (omega arith)
          next (some m) j e =
              let z : 3 + m ≡ n = cc in
              let l : m ≤ length (drop 2 bs) = rw (length-drop 2 bs) (omega arith) in
              let k = block_cut 0 (drop 2 bs) m (ap (block 0) (sym (drop_in 2 bs (omega arith))) ∙ j) l in
              rw (tripled_in (x ∷ bs) (omega arith) ∙ i, k) e
      go false i e = next (plain 0 (bs ++ c)) refl e
        where
          next :
              (o : Option ℕ) → plain 0 (bs ++ c) ≡ o → found o (λ n. lexed 16 (1 + n)) unreadable ≡ lexed s n →
              choose (tripled (x ∷ bs)) (found (block 0 (drop 2 bs)) (λ n. lexed 16 (3 + n)) unreadable)
              (found (plain 0 bs) (λ n. lexed 16 (1 + n)) unreadable) ≡ lexed s n
          next none j e = let z : ◌≡◌ {A = ℕ} 0 1 = cc in absurd (omega arith)
          next (some m) j e =
              let z : 1 + m ≡ n = cc in
              rw (tripled_not (x ∷ bs) i, plain_cut 0 bs m j (omega arith)) e

  -- ---- Names and numbers.

  named_cut : (bs : List ℕ) → run is_name_byte (bs ++ c) ≤ length bs → named bs ≡ named (bs ++ c)
  unfolding named
  named_cut bs h = rw (run_cut c is_name_byte bs h, ← take-append-le (run is_name_byte (bs ++ c)) bs c h)

  integer_cut : (bs : List ℕ) → 0 < length bs → integer (bs ++ c) ≤ length bs → integer bs ≡ integer (bs ++ c)
  unfolding integer
  integer_cut bs k h = go (eqb (byte 0 (bs ++ c)) 48) refl h
    where
      go :
          (t : Bool) → eqb (byte 0 (bs ++ c)) 48 ≡ t → choose t 1 (run is_digit (bs ++ c)) ≤ length bs →
          choose (eqb (byte 0 bs) 48) 1 (run is_digit bs) ≡ choose t 1 (run is_digit (bs ++ c))
      go true e h = rw (← byte_in c 0 bs k, e)
      go false e h = rw (← byte_in c 0 bs k, e) (run_cut c is_digit bs h)

  begun_cut : (m : ℕ) (bs : List ℕ) (n : ℕ) → m ≤ length bs → begun m (bs ++ c) ≡ some n → n ≤ length bs → begun m bs ≡ some n
  unfolding begun
  begun_cut m bs n k e h =
      let d = drop_in m bs k in
      let q = unless (eqb (run is_digit (drop m (bs ++ c))) 0) (some (m + run is_digit (drop m (bs ++ c)))) n e in
      let z : m + run is_digit (drop m (bs ++ c)) ≡ n = cc in
      let y : run is_digit (drop m (bs ++ c)) ≡ run is_digit (drop m bs ++ c) = ap (run is_digit) d in
      let l : run is_digit (drop m bs ++ c) ≤ length (drop m bs) = rw (length-drop m bs) (omega arith) in
      let r : run is_digit (drop m bs) ≡ run is_digit (drop m (bs ++ c)) = run_cut c is_digit (drop m bs) l ∙ sym y in
      rw r e

  begun_more : (m : ℕ) (bs : List ℕ) (n : ℕ) → begun m bs ≡ some n → m < n
  unfolding begun
  begun_more m bs n e =
      let q = unless (eqb (run is_digit (drop m bs)) 0) (some (m + run is_digit (drop m bs))) n e in
      let z : m + run is_digit (drop m bs) ≡ n = cc in
      omega (arith, nonzero (run is_digit (drop m bs)) q.0)

  fraction_cut : (bs : List ℕ) (n : ℕ) → fraction (bs ++ c) ≡ some n → n ≤ length bs → fraction bs ≡ some n
  unfolding fraction
  fraction_cut bs n e h = go (eqb (byte 0 (bs ++ c)) 46) refl e
    where
      go :
          (t : Bool) → eqb (byte 0 (bs ++ c)) 46 ≡ t → choose t (begun 1 (bs ++ c)) (some 0) ≡ some n →
          choose (eqb (byte 0 bs) 46) (begun 1 bs) (some 0) ≡ some n
      go true i e =
          let o = begun_more 1 (bs ++ c) n e in
          rw (← byte_in c 0 bs (omega arith), i) (begun_cut 1 bs n (omega arith) e h)
      go false i e = rw (test_cut c (λ y. eqb y 46) refl 0 bs i) e

  exponent_cut : (bs : List ℕ) (n : ℕ) → exponent (bs ++ c) ≡ some n → n ≤ length bs → exponent bs ≡ some n
  unfolding exponent
  exponent_cut bs n e h = go (eqb (byte 0 (bs ++ c)) 101 || eqb (byte 0 (bs ++ c)) 69) refl (eqb (byte 1 (bs ++ c)) 43 || eqb (byte 1 (bs ++ c)) 45) refl e
    where
      go :
          (t : Bool) → (eqb (byte 0 (bs ++ c)) 101 || eqb (byte 0 (bs ++ c)) 69) ≡ t → (u : Bool) →
          (eqb (byte 1 (bs ++ c)) 43 || eqb (byte 1 (bs ++ c)) 45) ≡ u →
          choose t (choose u (begun 2 (bs ++ c)) (begun 1 (bs ++ c))) (some 0) ≡ some n →
          choose (eqb (byte 0 bs) 101 || eqb (byte 0 bs) 69) (choose (eqb (byte 1 bs) 43 || eqb (byte 1 bs) 45) (begun 2 bs) (begun 1 bs)) (some 0) ≡ some n
      go true i true j e =
          let o = begun_more 2 (bs ++ c) n e in
          rw (← byte_in c 0 bs (omega arith), ← byte_in c 1 bs (omega arith), i, j) (begun_cut 2 bs n (omega arith) e h)
      go true i false j e =
          let o = begun_more 1 (bs ++ c) n e in
          rw (← byte_in c 0 bs (omega arith), ← byte_in c 1 bs (omega arith), i, j) (begun_cut 1 bs n (omega arith) e h)
      go false i u j e = rw (test_cut c (λ y. eqb y 101 || eqb y 69) refl 0 bs i) e

  ends_so : (t : Bool) (a m s n : ℕ) → choose t unreadable (lexed a m) ≡ lexed s n → (t ≡ false) × (m ≡ n)
  ends_so true a m s n e = let z : ◌≡◌ {A = ℕ} 0 1 = cc in absurd (omega arith)
  ends_so false a m s n e = (refl, cc)

  number_of_cut : (a m : ℕ) (bs : List ℕ) (s n : ℕ) → number_of a m (bs ++ c) ≡ lexed s n → (m ≡ n) × (number_of a m bs ≡ lexed s n)
  unfolding number_of is_digit is_name_start
  number_of_cut a m bs s n e =
      let q = ends_so (is_digit (byte m (bs ++ c)) || eqb (byte m (bs ++ c)) 46 || is_name_start (byte m (bs ++ c))) a m s n e in
      let t = test_cut c (λ y. is_digit y || eqb y 46 || is_name_start y) refl m bs q.0 in
      let u : choose (is_digit (byte m (bs ++ c)) || eqb (byte m (bs ++ c)) 46 || is_name_start (byte m (bs ++ c))) unreadable (lexed a m) ≡ lexed a m =
      rw q.0 in
      (q.1, rw t (sym u ∙ e))

  from_over : (i : ℕ) (bs : List ℕ) (s n : ℕ) → number_from i (bs ++ c) ≡ lexed s n → i ≤ n
  from_over i bs s n e = go (fraction (drop i (bs ++ c))) e
    where
      go :
          (o : Option ℕ) →
          found o (λ f. found (exponent (drop (i + f) (bs ++ c))) (λ e. number_of (choose (eqb (f + e) 0) 14 15) (i + f + e) (bs ++ c)) unreadable)
          unreadable ≡ lexed s n →
          i ≤ n
      go none e = let z : ◌≡◌ {A = ℕ} 0 1 = cc in absurd (omega arith)
      go (some f) e = next (exponent (drop (i + f) (bs ++ c))) e
        where
          next : (o : Option ℕ) → found o (λ e. number_of (choose (eqb (f + e) 0) 14 15) (i + f + e) (bs ++ c)) unreadable ≡ lexed s n → i ≤ n
          next none e = let z : ◌≡◌ {A = ℕ} 0 1 = cc in absurd (omega arith)
          next (some g) e = let q = number_of_cut _ (i + f + g) bs s n e in omega (arith, q.0)

  from_cut : (i : ℕ) (bs : List ℕ) (s n : ℕ) → number_from i (bs ++ c) ≡ lexed s n → n ≤ length bs → number_from i bs ≡ lexed s n
  from_cut i bs s n e h = go (fraction (drop i (bs ++ c))) refl e
    where
      l : i ≤ length bs
      l = omega (arith, from_over i bs s n e)

      go :
          (o : Option ℕ) → fraction (drop i (bs ++ c)) ≡ o →
          found o (λ f. found (exponent (drop (i + f) (bs ++ c))) (λ e. number_of (choose (eqb (f + e) 0) 14 15) (i + f + e) (bs ++ c)) unreadable)
          unreadable ≡ lexed s n →
          number_from i bs ≡ lexed s n
      go none k e = let z : ◌≡◌ {A = ℕ} 0 1 = cc in absurd (omega arith)
      go (some f) k e = next (exponent (drop (i + f) (bs ++ c))) refl e
        where
          next :
              (o : Option ℕ) → exponent (drop (i + f) (bs ++ c)) ≡ o →
              found o (λ e. number_of (choose (eqb (f + e) 0) 14 15) (i + f + e) (bs ++ c)) unreadable ≡ lexed s n → number_from i bs ≡ lexed s n
          next none j e = let z : ◌≡◌ {A = ℕ} 0 1 = cc in absurd (omega arith)
          next (some g) j e =
              let q = number_of_cut (choose (eqb (f + g) 0) 14 15) (i + f + g) bs s n e in
              let a : f ≤ length (drop i bs) = rw (length-drop i bs) (omega (arith, q.0)) in
              let b : g ≤ length (drop (i + f) bs) = rw (length-drop (i + f) bs) (omega (arith, q.0)) in
              let x = fraction_cut (drop i bs) f (ap fraction (sym (drop_in i bs l)) ∙ k) a in
              let y = exponent_cut (drop (i + f) bs) g (ap exponent (sym (drop_in (i + f) bs (omega (arith, q.0)))) ∙ j) b in
              rw (x, y) q.1

  number_cut : (x : ℕ) (bs : List ℕ) (s n : ℕ) → number (x ∷ (bs ++ c)) ≡ lexed s n → n ≤ suc (length bs) → number (x ∷ bs) ≡ lexed s n
  unfolding number
  number_cut x bs s n e h = go (eqb (integer (drop (sign (x ∷ bs)) ((x ∷ bs) ++ c))) 0) refl e
    where
      go :
          (t : Bool) → eqb (integer (drop (sign (x ∷ bs)) ((x ∷ bs) ++ c))) 0 ≡ t →
          choose t unreadable (number_from (sign (x ∷ bs) + integer (drop (sign (x ∷ bs)) ((x ∷ bs) ++ c))) ((x ∷ bs) ++ c)) ≡ lexed s n →
          choose (eqb (integer (drop (sign (x ∷ bs)) (x ∷ bs))) 0) unreadable
          (number_from (sign (x ∷ bs) + integer (drop (sign (x ∷ bs)) (x ∷ bs))) (x ∷ bs)) ≡ lexed s n
      go true i e = let z : ◌≡◌ {A = ℕ} 0 1 = cc in absurd (omega arith)
      go false i e =
          let w = integer (drop (sign (x ∷ bs)) ((x ∷ bs) ++ c)) in
          let p = nonzero (integer (drop (sign (x ∷ bs)) ((x ∷ bs) ++ c))) i in
          let o = from_over (sign (x ∷ bs) + integer (drop (sign (x ∷ bs)) ((x ∷ bs) ++ c))) (x ∷ bs) s n e in
          let d = drop_in (sign (x ∷ bs)) (x ∷ bs) (sign_size (x ∷ bs)) in
          let y : integer (drop (sign (x ∷ bs)) ((x ∷ bs) ++ c)) ≡ integer (drop (sign (x ∷ bs)) (x ∷ bs) ++ c) = ap integer d in
          let g = length-drop (sign (x ∷ bs)) (x ∷ bs) in
          let r : integer (drop (sign (x ∷ bs)) (x ∷ bs)) ≡ integer (drop (sign (x ∷ bs)) ((x ∷ bs) ++ c)) =
          integer_cut (drop (sign (x ∷ bs)) (x ∷ bs)) (omega arith) (omega arith) ∙ sym y in
          rw (r, i) (from_cut (sign (x ∷ bs) + integer (drop (sign (x ∷ bs)) ((x ∷ bs) ++ c))) (x ∷ bs) s n e h)

-- A number and a string are tokens or nothing.
abbrev NoBlank : Lexeme → Type 0
NoBlank (ignored n) = ⊥
NoBlank (lexed s n) = Unit {0}
NoBlank unreadable = Unit {0}

number_no_blank : (bs : List ℕ) → NoBlank (number bs)
unfolding number number_of
number_no_blank bs = go (eqb (integer (drop (sign bs) bs)) 0) (fraction (drop (sign bs + integer (drop (sign bs) bs)) bs))
  where
    by_test : (t : Bool) (s n : ℕ) → NoBlank (choose t unreadable (lexed s n))
    by_test true s n = tt
    by_test false s n = tt

    next :
        (f : ℕ) (o : Option ℕ) →
        NoBlank (found o (λ e. number_of (choose (eqb (f + e) 0) 14 15) (sign bs + integer (drop (sign bs) bs) + f + e) bs) unreadable)
    next f none = tt
    next f (some e) =
        by_test (is_digit (byte (sign bs + integer (drop (sign bs) bs) + f + e) bs) || eqb (byte (sign bs + integer (drop (sign bs) bs) + f + e) bs)
        46 || is_name_start (byte (sign bs + integer (drop (sign bs) bs) + f + e) bs)) _ _

    go :
        (t : Bool) (o : Option ℕ) →
        NoBlank (choose t unreadable (found o
        (λ f. found (exponent (drop (sign bs + integer (drop (sign bs) bs) + f) bs))
        (λ e. number_of (choose (eqb (f + e) 0) 14 15) (sign bs + integer (drop (sign bs) bs) + f + e) bs) unreadable) unreadable))
    go true o = tt
    go false none = tt
    go false (some f) = next f (exponent (drop (sign bs + integer (drop (sign bs) bs) + f) bs))

string_no_blank : (bs : List ℕ) → NoBlank (string bs)
unfolding string
string_no_blank bs = go (tripled bs) (block 0 (drop 3 bs)) (plain 0 (drop 1 bs))
  where
    go : (t : Bool) (o p : Option ℕ) → NoBlank (choose t (found o (λ n. lexed 16 (3 + n)) unreadable) (found p (λ n. lexed 16 (1 + n)) unreadable))
    go true none p = tt
    go true (some n) p = tt
    go false o none = tt
    go false o (some n) = tt

module _ (c : List ℕ) where
  two_cut :
      (p q : ℕ) (bs : List ℕ) (good : Lexeme) → (Fits (suc (length bs)) good → 2 ≤ length bs) →
      Fits (suc (length bs)) (choose (eqb (byte 0 (bs ++ c)) p && eqb (byte 1 (bs ++ c)) q) good unreadable) →
      choose (eqb (byte 0 bs) p && eqb (byte 1 bs) q) good unreadable ≡ choose (eqb (byte 0 (bs ++ c)) p && eqb (byte 1 (bs ++ c)) q) good unreadable
  two_cut p q bs good k f = go (eqb (byte 0 (bs ++ c)) p && eqb (byte 1 (bs ++ c)) q) refl f
    where
      go :
          (t : Bool) → (eqb (byte 0 (bs ++ c)) p && eqb (byte 1 (bs ++ c)) q) ≡ t → Fits (suc (length bs)) (choose t good unreadable) →
          choose (eqb (byte 0 bs) p && eqb (byte 1 bs) q) good unreadable ≡ choose t good unreadable
      go true i f =
          let l = k f in
          rw (← byte_in c 0 bs (omega arith), ← byte_in c 1 bs (omega arith), i)
      go false i f = absurd f

  pub lexeme_cut : (x : ℕ) (bs : List ℕ) → Fits (suc (length bs)) (lexeme (x ∷ (bs ++ c))) → lexeme (x ∷ bs) ≡ lexeme (x ∷ (bs ++ c))
  unfolding lexeme named
  lexeme_cut x bs f = go (eqb x 9 || eqb x 32 || ends_line x || eqb x 44) (is_name_start x) (is_digit x || eqb x 45) (eqb x 34) (eqb x 35) (eqb x 46) (eqb x 239) f
    where
      of_number : (l : Lexeme) → number (x ∷ (bs ++ c)) ≡ l → NoBlank l → Fits (suc (length bs)) l → number (x ∷ bs) ≡ l
      of_number (ignored n) e b f = absurd b
      of_number (lexed s n) e b f = number_cut c x bs s n e f
      of_number unreadable e b f = absurd f

      of_string : (l : Lexeme) → string (x ∷ (bs ++ c)) ≡ l → NoBlank l → Fits (suc (length bs)) l → string (x ∷ bs) ≡ l
      of_string (ignored n) e b f = absurd b
      of_string (lexed s n) e b f = string_cut c x bs s n e f
      of_string unreadable e b f = absurd f

      go :
          (t1 t2 t3 t4 t5 t6 t7 : Bool) → Fits (suc (length bs)) (lexeme_by x t1 t2 t3 t4 t5 t6 t7 (x ∷ (bs ++ c))) →
          lexeme_by x t1 t2 t3 t4 t5 t6 t7 (x ∷ bs) ≡ lexeme_by x t1 t2 t3 t4 t5 t6 t7 (x ∷ (bs ++ c))
      go true t2 t3 t4 t5 t6 t7 f = refl
      go false true t3 t4 t5 t6 t7 f = named_cut c (x ∷ bs) f
      go false false true t4 t5 t6 t7 f = of_number (number (x ∷ (bs ++ c))) refl (number_no_blank (x ∷ (bs ++ c))) f
      go false false false true t5 t6 t7 f = of_string (string (x ∷ (bs ++ c))) refl (string_no_blank (x ∷ (bs ++ c))) f
      go false false false false true t6 t7 f = ap (λ (n : ℕ). ignored (1 + n)) (comment_cut c 0 bs (omega arith) (omega arith))
      go false false false false false true t7 f = two_cut 46 46 bs (lexed 5 3) (λ l. omega arith) f
      go false false false false false false true f = two_cut 187 191 bs (ignored 3) (λ l. omega arith) f
      go false false false false false false false f = refl

-- ---- The cut.

-- What stands at a place ends where g says so of the bytes after the first.
abbrev pub boundary_by : (ℕ → Type 0) → Lexeme → Type 0
boundary_by g (ignored n) = g (n - 1)
boundary_by g (lexed s n) = g (n - 1)
boundary_by g unreadable = ⊥

-- The text a ++ c, of which k bytes are passed over, has nothing that reaches over the end of a.
unfoldable pub Boundary : ℕ → List ℕ → List ℕ → Type 0
Boundary zero [] c = Unit {0}
Boundary (suc k) [] c = ⊥
Boundary (suc k) (x ∷ a) c = Boundary k a c
Boundary zero (x ∷ a) c = boundary_by (λ k. Boundary k a c) (lexeme (x ∷ (a ++ c)))

boundary_size : (k : ℕ) (a c : List ℕ) → Boundary k a c → k ≤ length a
unfolding Boundary
boundary_size zero a c h = omega arith
boundary_size (suc k) [] c h = absurd h
boundary_size (suc k) (x ∷ a) c h = let i = boundary_size k a c h in omega arith

-- Where nothing reaches over the cut, the tokens of the whole are those of the first piece, which is read to its end, and then those of the second.
pub record Cut (k at : ℕ) (a c : List ℕ) : Type 0 where
  pub readable : (tokens_from k at a).broken ≡ false
  pub joined : tokens_from k at (a ++ c) ≡ and_then (tokens_from k at a) (tokens_from 0 (at + length a) c)

pub tokens_cut : (k at : ℕ) (a c : List ℕ) → Boundary k a c → Cut k at a c
unfolding tokens_from Boundary
tokens_cut zero at [] c h = let z : at ≡ at + 0 = omega arith in record { readable = refl; joined = ap (λ (n : ℕ). tokens_from 0 n c) z }
tokens_cut (suc k) at [] c h = absurd h
tokens_cut (suc k) at (x ∷ a) c h =
    let z : 1 + at + length a ≡ at + suc (length a) = omega arith in
    let r = tokens_cut k (1 + at) a c h in
    record { readable = r.readable; joined = r.joined ∙ ap (λ (n : ℕ). and_then (tokens_from k (1 + at) a) (tokens_from 0 n c)) z }
tokens_cut zero at (x ∷ a) c h = go (lexeme (x ∷ (a ++ c))) refl h (λ k. tokens_cut k (1 + at) a c)
  where
    z : 1 + at + length a ≡ at + suc (length a)
    z = omega arith

    by_lexeme : (l : Lexeme) → lexeme (x ∷ (a ++ c)) ≡ l → Fits (suc (length a)) l → lexeme (x ∷ a) ≡ l
    by_lexeme l e f = lexeme_cut c x a (subst (λ (m : Lexeme). Fits (suc (length a)) m) (sym e) f) ∙ e

    go : (l : Lexeme) → lexeme (x ∷ (a ++ c)) ≡ l → boundary_by (λ k. Boundary k a c) l → ((k : ℕ) → Boundary k a c → Cut k (1 + at) a c) → Cut zero at (x ∷ a) c
    go (ignored n) e h f =
        let s = boundary_size (n - 1) a c h in
        let r = f (n - 1) h in
        let m = by_lexeme (ignored n) e (omega arith) in
        record {
          readable = ap (λ (l : Lexeme). (lexed_by at (λ k. tokens_from k (1 + at) a) l).broken) m ∙ r.readable;
          joined =
              ap (lexed_by at (λ k. tokens_from k (1 + at) (a ++ c))) e ∙ r.joined ∙
              ap (λ (i : ℕ). and_then (tokens_from (n - 1) (1 + at) a) (tokens_from 0 i c)) z ∙
              ap (λ (l : Lexeme). and_then (lexed_by at (λ k. tokens_from k (1 + at) a) l) (tokens_from 0 (at + suc (length a)) c)) (sym m);
        }
    go (lexed t n) e h f =
        let s = boundary_size (n - 1) a c h in
        let r = f (n - 1) h in
        let m = by_lexeme (lexed t n) e (omega arith) in
        record {
          readable = ap (λ (l : Lexeme). (lexed_by at (λ k. tokens_from k (1 + at) a) l).broken) m ∙ r.readable;
          joined =
              ap (lexed_by at (λ k. tokens_from k (1 + at) (a ++ c))) e ∙
              ap (λ (l : Lexed). lexed_by at (λ k. l) (lexed t n)) (r.joined ∙ ap (λ (i : ℕ). and_then (tokens_from (n - 1) (1 + at) a) (tokens_from 0 i c)) z) ∙
              ap (λ (l : Lexeme). and_then (lexed_by at (λ k. tokens_from k (1 + at) a) l) (tokens_from 0 (at + suc (length a)) c)) (sym m);
        }
    go unreadable e h f = absurd h

-- ---- A text can be cut where a token begins.

some_among : {t : Token} {ts : List Token} → Among t ts → 0 < length ts
some_among here = omega arith
some_among (there a) = omega arith

nothing_among : {A : Type 0} {t : Token} → Among t [] → A
nothing_among a = let h = some_among a in absurd (omega arith)

head_or_tail : {t u : Token} {ts : List Token} → Among t (u ∷ ts) → (t ≡ u) ⊎ Among t ts
head_or_tail here = inl refl
head_or_tail (there a) = inr a

-- Every token begins after what is passed over.
pub later : (k at : ℕ) (text : List ℕ) {t : Token} → Among t (tokens_from k at text).tokens → at + k ≤ t.begins
unfolding tokens_from
later k at [] a = nothing_among a
later (suc k) at (x ∷ bs) a = let h = later k (1 + at) bs a in omega arith
later zero at (x ∷ bs) {t} a = go (lexeme (x ∷ bs)) a (λ k. later k (1 + at) bs)
  where
    go :
        (l : Lexeme) → Among t (lexed_by at (λ k. tokens_from k (1 + at) bs) l).tokens →
        ((k : ℕ) → Among t (tokens_from k (1 + at) bs).tokens → 1 + at + k ≤ t.begins) → at + 0 ≤ t.begins
    go (ignored n) a f = let h = f (n - 1) a in omega arith
    go (lexed s n) a f = which (head_or_tail a)
      where
        which : (t ≡ record { sort = s; begins = at; size = n }) ⊎ Among t (tokens_from (n - 1) (1 + at) bs).tokens → at + 0 ≤ t.begins
        which (inl e) = let z : at ≡ t.begins = sym (ap (λ (u : Token). u.begins) e) in omega arith
        which (inr b) = let h = f (n - 1) b in omega arith
    go unreadable a f = nothing_among a

-- Every token begins before the end of its text.
pub earlier : (k at : ℕ) (text : List ℕ) {t : Token} → Among t (tokens_from k at text).tokens → t.begins < at + length text
unfolding tokens_from
earlier k at [] a = nothing_among a
earlier (suc k) at (x ∷ bs) a = let h = earlier k (1 + at) bs a in omega arith
earlier zero at (x ∷ bs) {t} a = go (lexeme (x ∷ bs)) a (λ k. earlier k (1 + at) bs)
  where
    go :
        (l : Lexeme) → Among t (lexed_by at (λ k. tokens_from k (1 + at) bs) l).tokens →
        ((k : ℕ) → Among t (tokens_from k (1 + at) bs).tokens → t.begins < 1 + at + length bs) → t.begins < at + suc (length bs)
    go (ignored n) a f = let h = f (n - 1) a in omega arith
    go (lexed s n) a f = which (head_or_tail a)
      where
        which : (t ≡ record { sort = s; begins = at; size = n }) ⊎ Among t (tokens_from (n - 1) (1 + at) bs).tokens → t.begins < at + suc (length bs)
        which (inl e) = let z : t.begins ≡ at = ap (λ (u : Token). u.begins) e in omega arith
        which (inr b) = let h = f (n - 1) b in omega arith
    go unreadable a f = nothing_among a

-- The piece before a token and the piece from it on.
pub cut_before :
    (k at : ℕ) (text : List ℕ) (t : Token) → Among t (tokens_from k at text).tokens →
    Boundary k (take (t.begins - at) text) (drop (t.begins - at) text)
unfolding tokens_from Boundary
cut_before k at [] t a = nothing_among a
cut_before (suc k) at (x ∷ bs) t a =
    let h = later k (1 + at) bs a in
    let z : t.begins - at ≡ suc (t.begins - (1 + at)) = omega arith in
    rw z (cut_before k (1 + at) bs t a)
cut_before zero at (x ∷ bs) t a = go (lexeme (x ∷ bs)) refl a (λ k. cut_before k (1 + at) bs t)
  where
    step :
        (k : ℕ) → Among t (tokens_from k (1 + at) bs).tokens → (l : Lexeme) → lexeme (x ∷ bs) ≡ l →
        boundary_by (λ j. Boundary j (take (t.begins - (1 + at)) bs) (drop (t.begins - (1 + at)) bs)) l →
        Boundary zero (take (t.begins - at) (x ∷ bs)) (drop (t.begins - at) (x ∷ bs))
    step k b l e g =
        let h = later k (1 + at) bs b in
        let z : t.begins - at ≡ suc (t.begins - (1 + at)) = omega arith in
        let y : lexeme (x ∷ (take (t.begins - (1 + at)) bs ++ drop (t.begins - (1 + at)) bs)) ≡ l =
        ap (λ (r : List ℕ). lexeme (x ∷ r)) (take-append-drop (t.begins - (1 + at)) bs) ∙ e in
        rw z (subst (λ (m : Lexeme). boundary_by (λ j. Boundary j (take (t.begins - (1 + at)) bs) (drop (t.begins - (1 + at)) bs)) m) (sym y) g)

    go :
        (l : Lexeme) → lexeme (x ∷ bs) ≡ l → Among t (lexed_by at (λ k. tokens_from k (1 + at) bs) l).tokens →
        ((k : ℕ) → Among t (tokens_from k (1 + at) bs).tokens → Boundary k (take (t.begins - (1 + at)) bs) (drop (t.begins - (1 + at)) bs)) →
        Boundary zero (take (t.begins - at) (x ∷ bs)) (drop (t.begins - at) (x ∷ bs))
    go (ignored n) e b f = step (n - 1) b (ignored n) e (f (n - 1) b)
    go (lexed s n) e b f = which (head_or_tail b)
      where
        which :
            (t ≡ record { sort = s; begins = at; size = n }) ⊎ Among t (tokens_from (n - 1) (1 + at) bs).tokens →
            Boundary zero (take (t.begins - at) (x ∷ bs)) (drop (t.begins - at) (x ∷ bs))
        which (inl i) =
            let q : t.begins ≡ at = ap (λ (u : Token). u.begins) i in
            let z : t.begins - at ≡ 0 = omega arith in
            rw z tt
        which (inr d) = step (n - 1) d (lexed s n) e (f (n - 1) d)
    go unreadable e b f = nothing_among b

-- The piece up to a token's end and the piece after it.
all_passed : (k : ℕ) (bs : List ℕ) → k ≤ length bs → Boundary k (take k bs) (drop k bs)
unfolding Boundary
all_passed zero bs h = tt
all_passed (suc k) [] h = absurd (omega arith)
all_passed (suc k) (x ∷ bs) h = all_passed k bs (omega arith)

pub cut_after :
    (k at : ℕ) (text : List ℕ) (t : Token) → Among t (tokens_from k at text).tokens →
    Boundary k (take (t.begins + t.size - at) text) (drop (t.begins + t.size - at) text)
unfolding tokens_from Boundary
cut_after k at [] t a = nothing_among a
cut_after (suc k) at (x ∷ bs) t a =
    let h = later k (1 + at) bs a in
    let z : t.begins + t.size - at ≡ suc (t.begins + t.size - (1 + at)) = omega arith in
    rw z (cut_after k (1 + at) bs t a)
cut_after zero at (x ∷ bs) t a = go (lexeme (x ∷ bs)) refl a (lexeme_small x bs) (λ k. cut_after k (1 + at) bs t)
  where
    whole :
        (m : ℕ) (l : Lexeme) → lexeme (x ∷ bs) ≡ l → boundary_by (λ j. Boundary j (take m bs) (drop m bs)) l →
        Boundary zero (take (suc m) (x ∷ bs)) (drop (suc m) (x ∷ bs))
    whole m l e g =
        let y : lexeme (x ∷ (take m bs ++ drop m bs)) ≡ l = ap (λ (r : List ℕ). lexeme (x ∷ r)) (take-append-drop m bs) ∙ e in
        subst (λ (k : Lexeme). boundary_by (λ j. Boundary j (take m bs) (drop m bs)) k) (sym y) g

    step :
        (k : ℕ) → Among t (tokens_from k (1 + at) bs).tokens → (l : Lexeme) → lexeme (x ∷ bs) ≡ l →
        boundary_by (λ j. Boundary j (take (t.begins + t.size - (1 + at)) bs) (drop (t.begins + t.size - (1 + at)) bs)) l →
        Boundary zero (take (t.begins + t.size - at) (x ∷ bs)) (drop (t.begins + t.size - at) (x ∷ bs))
    step k b l e g =
        let h = later k (1 + at) bs b in
        let z : t.begins + t.size - at ≡ suc (t.begins + t.size - (1 + at)) = omega arith in
        rw z (whole (t.begins + t.size - (1 + at)) l e g)

    go :
        (l : Lexeme) → lexeme (x ∷ bs) ≡ l → Among t (lexed_by at (λ k. tokens_from k (1 + at) bs) l).tokens → Small (suc (length bs)) l →
        ((k : ℕ) → Among t (tokens_from k (1 + at) bs).tokens →
        Boundary k (take (t.begins + t.size - (1 + at)) bs) (drop (t.begins + t.size - (1 + at)) bs)) →
        Boundary zero (take (t.begins + t.size - at) (x ∷ bs)) (drop (t.begins + t.size - at) (x ∷ bs))
    go (ignored n) e b s f = step (n - 1) b (ignored n) e (f (n - 1) b)
    go (lexed s zero) e b k f = which (head_or_tail b)
      where
        which :
            (t ≡ record { sort = s; begins = at; size = zero }) ⊎ Among t (tokens_from (zero - 1) (1 + at) bs).tokens →
            Boundary zero (take (t.begins + t.size - at) (x ∷ bs)) (drop (t.begins + t.size - at) (x ∷ bs))
        which (inl i) =
            let p : t.begins ≡ at = ap (λ (u : Token). u.begins) i in
            let q : t.size ≡ 0 = ap (λ (u : Token). u.size) i in
            let z : t.begins + t.size - at ≡ 0 = omega arith in
            rw z tt
        which (inr d) = step (zero - 1) d (lexed s zero) e (f (zero - 1) d)
    go (lexed s (suc n)) e b k f = which (head_or_tail b)
      where
        w : suc n - 1 ≡ n
        w = omega arith

        which :
            (t ≡ record { sort = s; begins = at; size = suc n }) ⊎ Among t (tokens_from (suc n - 1) (1 + at) bs).tokens →
            Boundary zero (take (t.begins + t.size - at) (x ∷ bs)) (drop (t.begins + t.size - at) (x ∷ bs))
        which (inl i) =
            let p : t.begins ≡ at = ap (λ (u : Token). u.begins) i in
            let q : t.size ≡ suc n = ap (λ (u : Token). u.size) i in
            let z : t.begins + t.size - at ≡ suc n = omega arith in
            rw z (whole n (lexed s (suc n)) e (rw w (all_passed n bs (omega arith))))
        which (inr d) = step (suc n - 1) d (lexed s (suc n)) e (f (suc n - 1) d)
    go unreadable e b s f = nothing_among b
