-- The laws of strings: first of what both kinds share, then one for each answer.
use mathlib.Core.Path.{◌≡◌, refl, sym, ap, ◌∙◌}
use mathlib.Core.Bool.{Bool, true, false, not, ◌&&◌, ◌||◌}
use mathlib.Core.List.{List, [], ◌∷◌}
use mathlib.Core.Logic.{inl, inr}
use mathlib.Core.Option.{Option, none, some}
use Prim.Native.Nat.{ℕ, zero, suc, ◌+◌, ◌-◌, ◌<◌, ◌≤◌}
use native.Mathlib.Nat.{add_assoc, zero-add}
use native.Mathlib.Omega.{arith}
use borrow.Author.Tests.{eq-eqb, ne_eqb, eqb-true, eqb-false, leb-true, le-leb}
use lib.Dec.{eqb, leb}
use lib.ListN.{length, get_or, drop, length-drop}
use types.Run.{OneOf}
use Rattle.definition.specs.Lists.{choose, found, any}
use Rattle.definition.specs.Lexical.{byte, between, character, ends_line, is_digit, is_hex, escape, plain, tripled, block, lexed, unreadable, string}
use Rattle.parser_laws.proofs.Tests.{both, clash}
use Rattle.parser_laws.proofs.Gluing.{test_there, character_size}
use Rattle.std.specs.Prelude.{Some, None}
use Rattle.parser_lexer.specs.Measures.{counted}
use Rattle.parser_lexer.specs.Strings.{Goes, is_simple, is_code, later, PlainPart, BlockPart, string_token}
use Rattle.parser_lexer.proofs.CharacterLaws.{by_three, of_one}

-- ---- Bytes that are passed over.

pub later_zero : (o : Option ℕ) → o ≡ later 0 o
later_zero none = refl
later_zero (some n) = ap some (sym (zero-add n))

pub later_later : (j k : ℕ) (o : Option ℕ) → later j (later k o) ≡ later (j + k) o
later_later j k none = refl
later_later j k (some n) = ap some (sym (add_assoc j k n))

-- A function that counts down the bytes to pass over measures what stands after them.
module _ (f : ℕ → List ℕ → Option ℕ) (ends : (k : ℕ) → f k [] ≡ none) (goes : (k b : ℕ) (bs : List ℕ) → f (suc k) (b ∷ bs) ≡ later 1 (f k bs)) where
  passes : (k : ℕ) (bs : List ℕ) → f k bs ≡ later k (f 0 (drop k bs))
  passes zero bs = later_zero (f 0 bs)
  passes (suc k) [] = ends (suc k) ∙ sym (ap (later (suc k)) (ends 0))
  passes (suc k) (b ∷ bs) =
      let e : 1 + k ≡ suc k = omega arith in
      goes k b bs ∙ ap (later 1) (passes k bs) ∙ later_later 1 k (f 0 (drop k bs)) ∙ ap (λ (j : ℕ). later j (f 0 (drop k bs))) e

  onward : (n : ℕ) → (n ≡ 0 → ⊥) → (b : ℕ) (bs : List ℕ) → later 1 (f (n - 1) bs) ≡ later n (f 0 (drop n (b ∷ bs)))
  onward zero h b bs = absurd (h refl)
  onward (suc n) h b bs = let e : suc n - 1 ≡ n = omega arith in rw e (sym (goes n b bs) ∙ passes (suc n) (b ∷ bs))

-- ---- An escape.

-- An escape lies in the bytes: none of its tests passes past the end.
pub escape_size : (bs : List ℕ) → escape bs ≤ length bs
unfolding escape any is_hex is_digit
escape_size bs =
    go (any (eqb (byte 0 bs)) (34 ∷ 92 ∷ 47 ∷ 98 ∷ 102 ∷ 110 ∷ 114 ∷ 116 ∷ [])) refl (eqb (byte 0 bs) 117)
    (is_hex (byte 1 bs) && is_hex (byte 2 bs) && is_hex (byte 3 bs) && is_hex (byte 4 bs)) refl
  where
    go : (t : Bool) → any (eqb (byte 0 bs)) (34 ∷ 92 ∷ 47 ∷ 98 ∷ 102 ∷ 110 ∷ 114 ∷ 116 ∷ []) ≡ t → (u v : Bool) →
        (is_hex (byte 1 bs) && is_hex (byte 2 bs) && is_hex (byte 3 bs) && is_hex (byte 4 bs)) ≡ v → choose t 1 (choose u (choose v 5 0) 0) ≤ length bs
    go true e u v f = let l = test_there [] (λ y. any (eqb y) (34 ∷ 92 ∷ 47 ∷ 98 ∷ 102 ∷ 110 ∷ 114 ∷ 116 ∷ [])) refl 0 bs e in omega arith
    go false e true true f =
        let p = both (is_hex (byte 1 bs) && is_hex (byte 2 bs) && is_hex (byte 3 bs)) (is_hex (byte 4 bs)) f in
        let l = test_there [] is_hex refl 4 bs p.1 in
        omega arith
    go false e true false f = omega arith
    go false e false v f = omega arith

pub and_and : (a b c : Bool) → (a && (b && c)) ≡ (a && b && c)
and_and true b c = refl
and_and false b c = refl

pub and_pairs : (a b c d : Bool) → ((a && b) && (c && d)) ≡ (a && b && c && d)
and_pairs a b c d = and_and (a && b) c d

-- Four digits don't lie in fewer than five bytes.
pub code_short : (bs : List ℕ) → length bs < 5 → false ≡ is_code bs
unfolding is_hex is_digit
code_short bs l = go (is_code bs) refl
  where
    go : (t : Bool) → is_code bs ≡ t → false ≡ t
    go true e =
        let p = both (is_hex (byte 1 bs) && is_hex (byte 2 bs) && is_hex (byte 3 bs)) (is_hex (byte 4 bs)) e in
        let m = test_there [] is_hex refl 4 bs p.1 in
        absurd (omega arith)
    go false e = refl

pub escape_one : (bs : List ℕ) → OneOf (34 ∷ 47 ∷ 92 ∷ 98 ∷ 102 ∷ 110 ∷ 114 ∷ 116 ∷ []) (get_or bs 0 0) → 1 ≡ escape bs
unfolding escape any
escape_one bs (inl h) = rw h
escape_one bs (inr (inl h)) = rw h
escape_one bs (inr (inr (inl h))) = rw h
escape_one bs (inr (inr (inr (inl h)))) = rw h
escape_one bs (inr (inr (inr (inr (inl h))))) = rw h
escape_one bs (inr (inr (inr (inr (inr (inl h)))))) = rw h
escape_one bs (inr (inr (inr (inr (inr (inr (inl h))))))) = rw h
escape_one bs (inr (inr (inr (inr (inr (inr (inr h))))))) = rw h

pub escape_code : (bs : List ℕ) → get_or bs 0 0 ≡ 117 → escape bs ≡ choose (is_code bs) 5 0
unfolding escape any
escape_code bs h = rw h

pub escape_none : (bs : List ℕ) (b : ℕ) → b ≡ get_or bs 0 0 → (OneOf (34 ∷ 47 ∷ 92 ∷ 98 ∷ 102 ∷ 110 ∷ 114 ∷ 116 ∷ []) b → ⊥) → (b ≡ 117 → ⊥) → 0 ≡ escape bs
unfolding escape any
escape_none bs b e n u = rw (
  ← e,
  ne_eqb b 34 (λ h. n (inl h)),
  ne_eqb b 92 (λ h. n (inr (inr (inl h)))),
  ne_eqb b 47 (λ h. n (inr (inl h))),
  ne_eqb b 98 (λ h. n (inr (inr (inr (inl h))))),
  ne_eqb b 102 (λ h. n (inr (inr (inr (inr (inl h)))))),
  ne_eqb b 110 (λ h. n (inr (inr (inr (inr (inr (inl h))))))),
  ne_eqb b 114 (λ h. n (inr (inr (inr (inr (inr (inr (inl h)))))))),
  ne_eqb b 116 (λ h. n (inr (inr (inr (inr (inr (inr (inr h)))))))),
  ne_eqb b 117 u,
)

-- ---- ASCII has one byte.

pub ascii : (bs : List ℕ) → 32 ≤ get_or bs 0 0 → get_or bs 0 0 ≤ 127 → character bs ≡ 1
ascii bs h k = by_three bs ∙ of_one _ _ _ h k

most : (bs : List ℕ) → 0 < length bs → character bs ≤ length bs
most [] l = absurd (omega arith)
most (b ∷ bs) l = character_size b bs

-- ---- What goes on a string.

-- How many bytes of a plain string stand for one character, or for an escape with its `\`; 0 where neither stands.
unfoldable plain_part : List ℕ → ℕ
plain_part bs =
    let e = escape (drop 1 bs) in
    let escaped : ℕ = choose (eqb e 0) 0 (1 + e) in
    let other : ℕ = choose (ends_line (byte 0 bs)) 0 (character bs) in
    choose (eqb (byte 0 bs) 92) escaped other

no_line : (b : ℕ) → (b ≡ 10 → ⊥) → (b ≡ 13 → ⊥) → ends_line b ≡ false
unfolding ends_line
no_line b e f = simp (ne_eqb b 10 e, ne_eqb b 13 f)

part_ascii : (bs : List ℕ) → (get_or bs 0 0 ≡ 92 → ⊥) → 32 ≤ get_or bs 0 0 → get_or bs 0 0 ≤ 127 → 1 ≡ plain_part bs
unfolding plain_part
part_ascii bs n h k = rw (ne_eqb _ _ n, no_line (get_or bs 0 0) (omega arith) (omega arith)) (sym (ascii bs h k))

part_size : (bs : List ℕ) → 0 < length bs → plain_part bs ≤ length bs
unfolding plain_part
part_size bs l = go (eqb (get_or bs 0 0) 92) (ends_line (get_or bs 0 0)) (eqb (escape (drop 1 bs)) 0)
  where
    go : (t u v : Bool) → choose t (choose v 0 (1 + escape (drop 1 bs))) (choose u 0 (character bs)) ≤ length bs
    go true u true = omega arith
    go true u false = omega (arith, escape_size (drop 1 bs), length-drop 1 bs)
    go false true v = omega arith
    go false false v = omega (arith, most bs l)

-- ---- A turn along a string.

as_some : (f : List ℕ → Option ℕ) (bs : List ℕ) (n : ℕ) → 0 < n → Goes f bs (counted n) → Goes f bs (Some n)
as_some f bs n p g = rw (ne_eqb n 0 (λ e. omega arith)) at g

plain_onward : (n : ℕ) → (n ≡ 0 → ⊥) → (b : ℕ) (bs : List ℕ) → later 1 (plain (n - 1) bs) ≡ later n (plain 0 (drop n (b ∷ bs)))
unfolding plain
plain_onward = onward plain (λ k. refl) (λ k b bs. refl)

plain_none : (b : ℕ) (bs : List ℕ) → eqb b 34 ≡ false → plain_part (b ∷ bs) ≡ 0 → plain 0 (b ∷ bs) ≡ none
unfolding plain plain_part
plain_none b bs q z = rw q (go (eqb b 92) (ends_line b) (eqb (escape bs) 0) z)
  where
    go : (t u v : Bool) → choose t (choose v 0 (1 + escape bs)) (choose u 0 (character (b ∷ bs))) ≡ 0 →
        choose t (choose v none (later 1 (plain (escape bs) bs))) (choose (u || eqb (character (b ∷ bs)) 0) none
        (later 1 (plain (character (b ∷ bs) - 1) bs))) ≡ none
    go true u true z = refl
    go true u false z = absurd (omega arith)
    go false true v z = refl
    go false false v z = rw (eq-eqb _ _ z)

plain_some : (b : ℕ) (bs : List ℕ) (n : ℕ) → eqb b 34 ≡ false → n ≡ plain_part (b ∷ bs) → (n ≡ 0 → ⊥) → plain 0 (b ∷ bs) ≡ later n (plain 0 (drop n (b ∷ bs)))
unfolding plain plain_part
plain_some b bs n q m z = rw q (go (eqb b 92) (ends_line b) (eqb (escape bs) 0) m)
  where
    go : (t u v : Bool) → n ≡ choose t (choose v 0 (1 + escape bs)) (choose u 0 (character (b ∷ bs))) →
        choose t (choose v none (later 1 (plain (escape bs) bs))) (choose (u || eqb (character (b ∷ bs)) 0) none
        (later 1 (plain (character (b ∷ bs) - 1) bs))) ≡ later n (plain 0 (drop n (b ∷ bs)))
    go true u true m = absurd (z m)
    go true u false m = let e : escape bs ≡ n - 1 = omega arith in rw e (plain_onward n z b bs)
    go false true v m = absurd (z m)
    go false false v m = rw (← m, ne_eqb n 0 z) (plain_onward n z b bs)

pub plain_closes : (bs : List ℕ) → 0 < length bs → get_or bs 0 0 ≡ 34 → plain 0 bs ≡ some 1
unfolding plain
plain_closes [] l e = absurd (omega arith)
plain_closes (b ∷ bs) l e = rw e

-- One character, or an escape.
one_plain : (bs : List ℕ) (n : ℕ) → 0 < length bs → eqb (get_or bs 0 0) 34 ≡ false → n ≡ plain_part bs → PlainPart bs (counted n)
one_plain [] n l q p = absurd (omega arith)
one_plain (b ∷ bs) n l q p = go (eqb n 0) refl
  where
    go : (t : Bool) → eqb n 0 ≡ t → PlainPart (b ∷ bs) (choose t None (Some n))
    go true e = plain_none b bs q (sym p ∙ eqb-true n 0 e)
    go false e =
        let z = eqb-false n 0 e in
        let w : n ≤ length (b ∷ bs) = rw p (part_size (b ∷ bs) l) in
        (omega arith, w, plain_some b bs n q p z)

module _ (bs : List ℕ) (l : 0 < length bs) (more : eqb (get_or bs 0 0) 34 ≡ false) where
  module _ (e : ℕ) (measured : e ≡ escape (drop 1 bs)) (begun : get_or bs 0 0 ≡ 92) where
    pub plain_no_escape : e ≡ 0 → PlainPart bs None
    unfolding plain_part
    plain_no_escape z = one_plain bs 0 l more (rw (eq-eqb _ _ begun, ← measured, eq-eqb _ _ z))

    pub plain_escape : (e ≡ 0 → ⊥) → PlainPart bs (Some (1 + e))
    unfolding plain_part
    plain_escape z = as_some (plain 0) bs (1 + e) (omega arith) (one_plain bs (1 + e) l more (rw (eq-eqb _ _ begun, ← measured, ne_eqb _ _ z)))

  pub plain_line : OneOf (10 ∷ 13 ∷ []) (get_or bs 0 0) → PlainPart bs None
  unfolding plain_part ends_line
  plain_line (inl e) = one_plain bs 0 l more (rw e)
  plain_line (inr e) = one_plain bs 0 l more (rw e)

  pub plain_character : (get_or bs 0 0 ≡ 92 → ⊥) → (OneOf (10 ∷ 13 ∷ []) (get_or bs 0 0) → ⊥) → PlainPart bs (counted (character bs))
  unfolding plain_part
  plain_character n o = one_plain bs (character bs) l more (rw (ne_eqb _ _ n, no_line (get_or bs 0 0) (λ e. o (inl e)) (λ e. o (inr e))))

pub plain_end : (bs : List ℕ) → length bs ≡ 0 → plain 0 bs ≡ none
unfolding plain
plain_end [] l = refl
plain_end (b ∷ bs) l = absurd (omega arith)

-- ---- A turn along a block string.

block_onward : (n : ℕ) → (n ≡ 0 → ⊥) → (b : ℕ) (bs : List ℕ) → later 1 (block (n - 1) bs) ≡ later n (block 0 (drop n (b ∷ bs)))
unfolding block
block_onward = onward block (λ k. refl) (λ k b bs. refl)

-- How many bytes of a block string stand for one character, or for three quotes.
unfoldable block_part : List ℕ → ℕ
block_part bs = let c = character bs in choose (eqb (byte 0 bs) 92 && tripled (drop 1 bs)) 4 c

block_none : (b : ℕ) (bs : List ℕ) → tripled (b ∷ bs) ≡ false → block_part (b ∷ bs) ≡ 0 → block 0 (b ∷ bs) ≡ none
unfolding block block_part
block_none b bs q z = rw q (go (eqb b 92 && tripled bs) z)
  where
    go : (t : Bool) → choose t 4 (character (b ∷ bs)) ≡ 0 → choose t (later 1 (block 3 bs))
        (choose (eqb (character (b ∷ bs)) 0) none (later 1 (block (character (b ∷ bs) - 1) bs))) ≡ none
    go true z = absurd (omega arith)
    go false z = rw (eq-eqb _ _ z)

block_some : (b : ℕ) (bs : List ℕ) (n : ℕ) → tripled (b ∷ bs) ≡ false → n ≡ block_part (b ∷ bs) → (n ≡ 0 → ⊥) →
    block 0 (b ∷ bs) ≡ later n (block 0 (drop n (b ∷ bs)))
unfolding block block_part
block_some b bs n q m z = rw q (go (eqb b 92 && tripled bs) m)
  where
    go : (t : Bool) → n ≡ choose t 4 (character (b ∷ bs)) → choose t (later 1 (block 3 bs))
        (choose (eqb (character (b ∷ bs)) 0) none (later 1 (block (character (b ∷ bs) - 1) bs))) ≡ later n (block 0 (drop n (b ∷ bs)))
    go true m = let e : 3 ≡ n - 1 = omega arith in ap (λ (k : ℕ). later 1 (block k bs)) e ∙ block_onward n z b bs
    go false m = rw (← m, ne_eqb n 0 z) (block_onward n z b bs)

pub block_closes : (bs : List ℕ) → tripled bs ≡ true → block 0 bs ≡ some 3
unfolding block tripled
block_closes [] q = clash q
block_closes (b ∷ bs) q = rw q

pub triple_size : (bs : List ℕ) → tripled bs ≡ true → 3 ≤ length bs
unfolding tripled
triple_size bs e =
    let p = both (eqb (byte 0 bs) 34 && eqb (byte 1 bs) 34) (eqb (byte 2 bs) 34) e in
    let l = test_there [] (λ y. eqb y 34) refl 2 bs p.1 in
    omega arith

-- Three quotes, where the first is known.
pub tripled_then : (bs : List ℕ) → get_or bs 0 0 ≡ 34 → (eqb (get_or bs 1 0) 34 && eqb (get_or bs 2 0) 34) ≡ tripled bs
unfolding tripled
tripled_then bs e = rw e

-- Three quotes, however the code has told them.
pub tripled_told : (bs : List ℕ) → get_or bs 0 0 ≡ 34 → get_or bs 1 0 ≡ 34 → get_or bs 2 0 ≡ 34 → true ≡ tripled bs
unfolding tripled
tripled_told bs e f g = rw (e, f, g)

pub no_triple : (bs : List ℕ) → (get_or bs 0 0 ≡ 34 → get_or bs 1 0 ≡ 34 → get_or bs 2 0 ≡ 34 → ⊥) → false ≡ tripled bs
unfolding tripled
no_triple bs h = go (eqb (get_or bs 0 0) 34) refl (eqb (get_or bs 1 0) 34) refl (eqb (get_or bs 2 0) 34) refl
  where
    go : (t : Bool) → eqb (get_or bs 0 0) 34 ≡ t → (u : Bool) → eqb (get_or bs 1 0) 34 ≡ u → (v : Bool) → eqb (get_or bs 2 0) 34 ≡ v → false ≡ (t && u && v)
    go true a true b true c = absurd (h (eqb-true _ 34 a) (eqb-true _ 34 b) (eqb-true _ 34 c))
    go true a true b false c = refl
    go true a false b v c = refl
    go false a u b v c = refl

pub too_short : (bs : List ℕ) → length bs < 3 → false ≡ tripled bs
too_short bs l = go (tripled bs) refl
  where
    go : (t : Bool) → tripled bs ≡ t → false ≡ t
    go true e = absurd (let m = triple_size bs e in omega arith)
    go false e = refl

part_within : (bs : List ℕ) → 0 < length bs → block_part bs ≤ length bs
unfolding block_part
part_within bs l = go (eqb (byte 0 bs) 92) (tripled (drop 1 bs)) refl
  where
    go : (t u : Bool) → tripled (drop 1 bs) ≡ u → choose (t && u) 4 (character bs) ≤ length bs
    go true true e = omega (arith, triple_size (drop 1 bs) e, length-drop 1 bs)
    go true false e = most bs l
    go false u e = most bs l

-- One character, or three quotes behind a backslash.
one_part : (bs : List ℕ) (n : ℕ) → 0 < length bs → tripled bs ≡ false → n ≡ block_part bs → BlockPart bs (counted n)
one_part [] n l q p = absurd (omega arith)
one_part (b ∷ bs) n l q p = go (eqb n 0) refl
  where
    go : (t : Bool) → eqb n 0 ≡ t → BlockPart (b ∷ bs) (choose t None (Some n))
    go true e = block_none b bs q (sym p ∙ eqb-true n 0 e)
    go false e =
        let z = eqb-false n 0 e in
        let w : n ≤ length (b ∷ bs) = rw p (part_within (b ∷ bs) l) in
        (omega arith, w, block_some b bs n q p z)

module _ (bs : List ℕ) (l : 0 < length bs) (more : tripled bs ≡ false) where
  pub block_escape : get_or bs 0 0 ≡ 92 → tripled (drop 1 bs) ≡ true → BlockPart bs (Some 4)
  unfolding block_part
  block_escape e t = one_part bs 4 l more (rw (eq-eqb _ _ e, t))

  pub block_backslash : get_or bs 0 0 ≡ 92 → tripled (drop 1 bs) ≡ false → BlockPart bs (Some 1)
  unfolding block_part
  block_backslash e t = one_part bs 1 l more (rw (eq-eqb _ _ e, t) (sym (ascii bs (omega arith) (omega arith))))

  pub block_ascii : (get_or bs 0 0 ≡ 92 → ⊥) → 32 ≤ get_or bs 0 0 → get_or bs 0 0 ≤ 127 → BlockPart bs (Some 1)
  unfolding block_part
  block_ascii e h k = one_part bs 1 l more (rw (ne_eqb _ _ e) (sym (ascii bs h k)))

  pub block_character : (get_or bs 0 0 ≡ 92 → ⊥) → BlockPart bs (counted (character bs))
  unfolding block_part
  block_character e = one_part bs (character bs) l more (rw (ne_eqb _ _ e))

-- ---- A byte that stands for itself.

-- What such a byte is not.
pub record Simple (b : ℕ) : Type 0 where
  pub ascii_least : 32 ≤ b
  pub ascii_most : b ≤ 127
  pub quote : eqb b 34 ≡ false
  pub backslash : eqb b 92 ≡ false

simple : (b : ℕ) → is_simple b ≡ true → Simple b
simple b e =
    let p = both (between 32 127 b && not (eqb b 34)) (not (eqb b 92)) e in
    let q = both (between 32 127 b) (not (eqb b 34)) p.0 in
    let r = both (leb 32 b) (leb b 127) q.0 in
    record {
      ascii_least = leb-true 32 b r.0;
      ascii_most = leb-true b 127 r.1;
      quote = no_test (eqb b 34) q.1;
      backslash = no_test (eqb b 92) p.1;
    }
  where
    no_test : (t : Bool) → not t ≡ true → t ≡ false
    no_test true e = clash e
    no_test false e = refl

-- What is none of that stands for itself.
pub simple_first : (b : ℕ) → 32 ≤ b → b ≤ 127 → (b ≡ 34 → ⊥) → (b ≡ 92 → ⊥) → is_simple b ≡ true
simple_first b h k q s = rw (le-leb 32 b h, le-leb b 127 k, ne_eqb b 34 q, ne_eqb b 92 s)

plain_one : (bs : List ℕ) → 0 < length bs → is_simple (get_or bs 0 0) ≡ true → plain 0 bs ≡ later 1 (plain 0 (drop 1 bs))
plain_one [] l e = absurd (omega arith)
plain_one (b ∷ bs) l e =
    let s = simple b e in
    plain_some b bs 1 s.quote (part_ascii (b ∷ bs) (eqb-false b 92 s.backslash) s.ascii_least s.ascii_most) (omega arith)

pub plain_simple : (bs : List ℕ) → 0 < length bs → is_simple (get_or bs 0 0) ≡ true → PlainPart bs (Some 1)
plain_simple bs l e = (omega arith, omega arith, plain_one bs l e)

pub block_end : (bs : List ℕ) → length bs ≡ 0 → block 0 bs ≡ none
unfolding block
block_end [] l = refl
block_end (b ∷ bs) l = absurd (omega arith)

-- ---- A loop along a string of which k bytes are opened: the bytes before `rest` are read.

abbrev pub read_to : (List ℕ → Option ℕ) → ℕ → List ℕ → List ℕ → Type 0
read_to f k bs rest = (length rest ≤ length bs) × (later k (f (drop k bs)) ≡ later (length bs - length rest) (f rest))

pub at_first : (f : List ℕ → Option ℕ) (k : ℕ) (bs : List ℕ) → k ≤ length bs → read_to f k bs (drop k bs)
at_first f k bs l =
    let d = length-drop k bs in
    let z : length bs - length (drop k bs) ≡ k = omega arith in
    (omega arith, rw z)

pub reads_on : (f : List ℕ → Option ℕ) (k : ℕ) (bs rest : List ℕ) (n : ℕ) → read_to f k bs rest → n ≤ length rest → f rest ≡ later n (f (drop n rest)) →
    read_to f k bs (drop n rest)
reads_on f k bs rest n h l e =
    let d = length-drop n rest in
    let z : length bs - length rest + n ≡ length bs - length (drop n rest) = omega arith in
    (omega arith, h.1 ∙ ap (later (length bs - length rest)) e ∙ later_later _ n (f (drop n rest)) ∙ ap (λ (m : ℕ). later m (f (drop n rest))) z)

-- ---- The whole.

token_later : (k : ℕ) (o : Option ℕ) → string_token (later k o) ≡ found o (λ n. lexed 16 (k + n)) unreadable
token_later k none = refl
token_later k (some n) = refl

pub string_block : (bs : List ℕ) → tripled bs ≡ true → string_token (later 3 (block 0 (drop 3 bs))) ≡ string bs
unfolding string
string_block bs e = rw e (token_later 3 (block 0 (drop 3 bs)))

pub string_plain : (bs : List ℕ) → tripled bs ≡ false → string_token (later 1 (plain 0 (drop 1 bs))) ≡ string bs
unfolding string
string_plain bs e = rw e (token_later 1 (plain 0 (drop 1 bs)))
