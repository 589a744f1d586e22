-- The laws of a comment.
use mathlib.Core.Path.{◌≡◌, refl, sym, ◌∙◌}
use mathlib.Core.List.{List, [], ◌∷◌}
use mathlib.Core.Logic.{inl, inr}
use mathlib.Core.Bool.{Bool, true, false, ◌||◌}
use Prim.Native.Nat.{ℕ, zero, suc, ◌+◌, ◌-◌, ◌≤◌, ◌<◌}
use native.Mathlib.Omega.{arith}
use borrow.Author.Tests.{ne_eqb, eqb-true, eqb-false, leb-true}
use lib.Dec.{eqb, leb}
use lib.ListN.{length, get_or, drop, length-drop}
use lib.Seq.{drop-drop}
use types.Run.{OneOf}
use Rattle.definition.specs.Lists.{choose}
use Rattle.definition.specs.Lexical.{between, character, ends_line, comment}
use Rattle.parser_laws.proofs.Gluing.{character_size}
use Rattle.parser_laws.proofs.Tests.{both}
use Rattle.std.specs.Prelude.{Some, None}
use Rattle.parser_lexer.specs.Comments.{CommentPart}
use Rattle.parser_lexer.specs.Measures.{counted}
use Rattle.parser_lexer.proofs.CharacterLaws.{by_three, of_one}

-- ---- The bytes that a character takes.

line_ends : (b : ℕ) → OneOf (10 ∷ 13 ∷ []) b → ends_line b ≡ true
unfolding ends_line
line_ends b (inl e) = rw e
line_ends b (inr e) = rw e

no_end : (b : ℕ) → (b ≡ 10 → ⊥) → (b ≡ 13 → ⊥) → ends_line b ≡ false
unfolding ends_line
no_end b f r = rw (ne_eqb b 10 f, ne_eqb b 13 r)

-- ---- What is left of a comment after a character.

passing : (k : ℕ) (bs : List ℕ) → k ≤ length bs → comment k bs ≡ k + comment 0 (drop k bs)
unfolding comment
passing zero bs h = omega arith
passing (suc k) [] h = absurd (omega arith)
passing (suc k) (x ∷ bs) h = let g = passing k bs (omega arith) in omega arith

abbrev taken : List ℕ → ℕ
taken bs = choose (ends_line (get_or bs 0 0)) 0 (character bs)

one_of_ascii : (bs : List ℕ) → 32 ≤ get_or bs 0 0 → get_or bs 0 0 ≤ 127 → 1 ≡ taken bs
one_of_ascii bs h k = rw (no_end (get_or bs 0 0) (omega arith) (omega arith), by_three bs, of_one (get_or bs 0 0) (get_or bs 1 0) (get_or bs 2 0) h k)

-- A character that ends the comment, and one that goes it on.
here : (bs : List ℕ) → 0 < length bs → comment 0 bs ≡ choose (eqb (taken bs) 0) 0 (1 + comment (taken bs - 1) (drop 1 bs))
unfolding comment
here [] l = absurd (omega arith)
here (b ∷ bs) l = go (ends_line b)
  where
    n : ℕ
    n = character (b ∷ bs)

    go : (t : Bool) → choose (t || eqb n 0) 0 (1 + comment (n - 1) bs) ≡ choose (eqb (choose t 0 n) 0) 0 (1 + comment (choose t 0 n - 1) bs)
    go true = refl
    go false = refl

taken_size : (bs : List ℕ) → 0 < length bs → taken bs ≤ length bs
taken_size [] l = absurd (omega arith)
taken_size (b ∷ bs) l = go (ends_line b) (character_size b bs)
  where
    go : (t : Bool) → character (b ∷ bs) ≤ suc (length bs) → choose t 0 (character (b ∷ bs)) ≤ suc (length bs)
    go true h = omega arith
    go false h = h

comment_stops : (bs : List ℕ) → 0 < length bs → taken bs ≡ 0 → comment 0 bs ≡ 0
comment_stops bs l e = here bs l ∙ rw e

comment_on : (bs : List ℕ) (n : ℕ) → 0 < length bs → n ≡ taken bs → (n ≡ 0 → ⊥) → (n ≤ length bs) × (comment 0 bs ≡ n + comment 0 (drop n bs))
comment_on bs n l e z =
    let most : n ≤ length bs = rw e (taken_size bs l) in
    let m : n - 1 ≤ length (drop 1 bs) = rw (length-drop 1 bs) (omega arith) in
    let q : 1 + (n - 1) ≡ n = omega arith in
    let g : comment 0 bs ≡ n + comment 0 (drop n bs) = here bs l ∙
    rw (← e, ne_eqb n 0 z, passing (n - 1) (drop 1 bs) m, drop-drop (n - 1) 1 bs, q) (omega arith) in
    (most, g)

-- A part is one character.
one_taken : (bs : List ℕ) (n : ℕ) → 0 < length bs → n ≡ taken bs → CommentPart bs (counted n)
one_taken bs n l p = go (eqb n 0) refl
  where
    go : (t : Bool) → eqb n 0 ≡ t → CommentPart bs (choose t None (Some n))
    go true e = comment_stops bs l (sym p ∙ eqb-true n 0 e)
    go false e =
        let z = eqb-false n 0 e in
        let m = comment_on bs n l p z in
        (omega arith, m.0, m.1)

pub line_taken : (bs : List ℕ) → 0 < length bs → OneOf (10 ∷ 13 ∷ []) (get_or bs 0 0) → CommentPart bs None
line_taken bs l o = one_taken bs 0 l (rw (line_ends (get_or bs 0 0) o))

pub other_taken : (bs : List ℕ) → 0 < length bs → (OneOf (10 ∷ 13 ∷ []) (get_or bs 0 0) → ⊥) → CommentPart bs (counted (character bs))
other_taken bs l n = one_taken bs (character bs) l (rw (no_end (get_or bs 0 0) (λ e. n (inl e)) (λ e. n (inr e))))

-- A byte of ASCII goes it on by one.
pub one_on : (bs : List ℕ) → 0 < length bs → between 32 127 (get_or bs 0 0) ≡ true → comment 0 bs ≡ 1 + comment 0 (drop 1 bs)
one_on bs l e =
    let p = both (leb 32 (get_or bs 0 0)) (leb (get_or bs 0 0) 127) e in
    (comment_on bs 1 l (one_of_ascii bs (leb-true 32 _ p.0) (leb-true _ 127 p.1)) (omega arith)).1

-- ---- A turn.

pub comment_ends : (bs : List ℕ) → length bs ≡ 0 → comment 0 bs ≡ 0
unfolding comment
comment_ends [] e = refl
comment_ends (b ∷ bs) e = absurd (omega arith)
