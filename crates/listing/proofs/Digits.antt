-- Laws of the switches.
use Rattle.std.proofs.Common.{◌≡◌, refl, sym, ap, ◌∙◌, List, [], ◌∷◌, ℕ, ◌<◌, ◌≤◌, true, false, None, length, get_or, drop, arith}
use Rattle.std.specs.Prelude.{◌==◌}
use Rattle.std.specs.Cmp.Lexicographic.{pointwise}
use Rattle.std.proofs.lemmas.Bool.Decides.{Decides-eqb}
use Rattle.std.proofs.lemmas.Slice.Eq.{slice_eq-Decides}
use borrow.Author.Tests.{eq-eqb, ne_eqb, eqb-true}
use lib.Dec.{eqb}
use Rattle.listing.specs.Digits.{both, digit_of, switches_of}

-- The switches of two digits and what stands behind them: nothing, a line feed, or something else.
pub too_short : (s : List ℕ) → length s < 2 → None ≡ switches_of s
unfolding switches_of
too_short [] h = refl
too_short (a ∷ []) h = refl
too_short (a ∷ b ∷ s) h = absurd (omega arith)

pub two_digits : (s rest : List ℕ) → 2 ≤ length s → rest ≡ drop 2 s → true ≡ (length rest == 0)
    → both (digit_of (get_or s 0 0)) (digit_of (get_or s 1 0)) ≡ switches_of s
unfolding switches_of
two_digits [] rest h e k = absurd (omega arith)
two_digits (a ∷ []) rest h e k = absurd (omega arith)
two_digits (a ∷ b ∷ []) rest h e k = refl
two_digits (a ∷ b ∷ c ∷ s) rest h e k =
    let n = eqb-true (length rest) 0 (sym k) in let m = ap length e in absurd (omega arith)

pub with_line_feed : (s rest p : List ℕ) → 2 ≤ length s → rest ≡ drop 2 s → p ≡ 10 ∷ [] → true ≡ pointwise eqb rest p
    → both (digit_of (get_or s 0 0)) (digit_of (get_or s 1 0)) ≡ switches_of s
unfolding switches_of
with_line_feed [] rest p h e f k = absurd (omega arith)
with_line_feed (a ∷ []) rest p h e f k = absurd (omega arith)
with_line_feed (a ∷ b ∷ []) rest p h e f k = refl
with_line_feed (a ∷ b ∷ c ∷ []) rest p h e f k =
    let same : c ∷ [] ≡ 10 ∷ [] = sym e ∙ (slice_eq-Decides Decides-eqb rest p true k).0 refl ∙ f in
    let d : c ≡ 10 = cc in rw (eq-eqb c 10 d)
with_line_feed (a ∷ b ∷ c ∷ d ∷ s) rest p h e f k =
    let same : c ∷ d ∷ s ≡ 10 ∷ [] = sym e ∙ (slice_eq-Decides Decides-eqb rest p true k).0 refl ∙ f in absurd cc

pub something_else : (s rest p : List ℕ) → 2 ≤ length s → rest ≡ drop 2 s → p ≡ 10 ∷ [] → false ≡ (length rest == 0) → false ≡ pointwise eqb rest p → None ≡ switches_of s
unfolding switches_of
something_else [] rest p h e f k l = absurd (omega arith)
something_else (a ∷ []) rest p h e f k l = absurd (omega arith)
something_else (a ∷ b ∷ []) rest p h e f k l =
    let t : true ≡ (length rest == 0) = (rw e) in absurd cc
something_else (a ∷ b ∷ c ∷ []) rest p h e f k l =
    let ne : c ≡ 10 → ⊥ = (λ q. let t : false ≡ true = (slice_eq-Decides Decides-eqb rest p false l).1 (e ∙ ap (λ (x : ℕ). x ∷ []) q ∙ sym f) in absurd cc) in
    rw (ne_eqb c 10 ne)
something_else (a ∷ b ∷ c ∷ d ∷ s) rest p h e f k l = refl
