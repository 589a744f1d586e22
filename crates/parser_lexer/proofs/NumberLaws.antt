-- The laws of a number, one for each answer of a function that reads a part of it.
use mathlib.Core.Path.{◌≡◌, refl, ◌∙◌}
use mathlib.Core.Bool.{true, false, ◌||◌}
use mathlib.Core.List.{List, []}
use mathlib.Core.Option.{none, some}
use Prim.Native.Nat.{ℕ, ◌+◌, ◌-◌, ◌≤◌}
use native.Mathlib.Omega.{arith}
use borrow.Author.Tests.{eq-eqb, ne_eqb}
use lib.Dec.{eqb}
use lib.ListN.{length, get_or, drop, length-drop}
use Rattle.std.specs.Char.{is_ascii_digit}
use Rattle.std.specs.List.{prefix_len}
use Rattle.definition.specs.Lists.{choose}
use Rattle.definition.specs.Lexical.{is_digit, run, integer, begun, fraction, exponent, unreadable, lexed, number_of, number}
use Rattle.parser_laws.proofs.Gluing.{test_there, integer_size, fraction_size, exponent_size, sign_size}
use Rattle.parser_lexer.specs.Numbers.{is_attached, number_from}
use Rattle.parser_lexer.proofs.NameLaws.{run_prefix}

pub run_digits : (bs : List ℕ) → run is_digit bs ≡ prefix_len is_ascii_digit bs
unfolding is_digit
run_digits bs = run_prefix is_ascii_digit bs

module _ (bs : List ℕ) where
  pub integer_zero : get_or bs 0 0 ≡ 48 → integer bs ≡ 1
  unfolding integer
  integer_zero e = rw e

  pub integer_more : (get_or bs 0 0 ≡ 48 → ⊥) → integer bs ≡ run is_digit bs
  unfolding integer
  integer_more e = rw (ne_eqb _ _ e)

  -- ---- Parts that are begun.

  module _ (mark n : ℕ) (digits : n ≡ run is_digit (drop mark bs)) where
    pub begun_none : n ≡ 0 → begun mark bs ≡ none
    unfolding begun
    begun_none e = rw (← digits, e)

    pub begun_some : (n ≡ 0 → ⊥) → begun mark bs ≡ some (mark + n)
    unfolding begun
    begun_some e = rw (← digits, ne_eqb n 0 e)

  pub fraction_there : get_or bs 0 0 ≡ 46 → (fraction bs ≡ begun 1 bs) × (1 ≤ length bs)
  unfolding fraction
  fraction_there e = let l = test_there [] (λ y. eqb y 46) refl 0 bs (eq-eqb _ _ e) in (rw e, omega arith)

  pub fraction_none : (get_or bs 0 0 ≡ 46 → ⊥) → fraction bs ≡ some 0
  unfolding fraction
  fraction_none e = rw (ne_eqb _ _ e)

  pub exponent_none : (eqb (get_or bs 0 0) 101 || eqb (get_or bs 0 0) 69) ≡ false → exponent bs ≡ some 0
  unfolding exponent
  exponent_none e = rw e

  module _ (marked : (eqb (get_or bs 0 0) 101 || eqb (get_or bs 0 0) 69) ≡ true) where
    pub exponent_signed : (eqb (get_or bs 1 0) 43 || eqb (get_or bs 1 0) 45) ≡ true → (exponent bs ≡ begun 2 bs) × (2 ≤ length bs)
    unfolding exponent
    exponent_signed e = let l = test_there [] (λ y. eqb y 43 || eqb y 45) refl 1 bs e in (rw (marked, e), omega arith)

    pub exponent_unsigned : (eqb (get_or bs 1 0) 43 || eqb (get_or bs 1 0) 45) ≡ false → (exponent bs ≡ begun 1 bs) × (1 ≤ length bs)
    unfolding exponent
    exponent_unsigned e = let l = test_there [] (λ y. eqb y 101 || eqb y 69) refl 0 bs marked in (rw (marked, e), omega arith)

  -- ---- The whole.

  pub from_broken : (i : ℕ) → fraction (drop i bs) ≡ none → number_from i bs ≡ unreadable
  from_broken i e = rw e

  pub from_fraction : (i f : ℕ) → fraction (drop i bs) ≡ some f → exponent (drop (i + f) bs) ≡ none → number_from i bs ≡ unreadable
  from_fraction i f e x = rw (e, x)

  module _ (i f k : ℕ) (there : fraction (drop i bs) ≡ some f) (raised : exponent (drop (i + f) bs) ≡ some k) where
    from_exponent : number_from i bs ≡ number_of (choose (eqb (f + k) 0) 14 15) (i + f + k) bs
    from_exponent = rw (there, raised)

    pub from_attached : is_attached (get_or bs (i + f + k) 0) ≡ true → number_from i bs ≡ unreadable
    unfolding number_of
    from_attached e = from_exponent ∙ rw e

    pub from_ends : is_attached (get_or bs (i + f + k) 0) ≡ false → number_from i bs ≡ lexed (choose (eqb (f + k) 0) 14 15) (i + f + k)
    unfolding number_of
    from_ends e = from_exponent ∙ rw e

    pub from_fits : i ≤ length bs → i + f + k ≤ length bs
    from_fits l =
        let l1 : f ≤ length bs - i = omega (arith, fraction_size (drop i bs) f there, length-drop i bs) in
        omega (arith, exponent_size (drop (i + f) bs) k raised, length-drop (i + f) bs)

  pub fraction_fits : (i f : ℕ) → fraction (drop i bs) ≡ some f → i ≤ length bs → i + f ≤ length bs
  fraction_fits i f there l = omega (arith, fraction_size (drop i bs) f there, length-drop i bs)

  module _ (sign whole : ℕ) (signed : sign ≡ choose (eqb (get_or bs 0 0) 45) 1 0) (digits : whole ≡ integer (drop sign bs)) where
    pub number_none : whole ≡ 0 → number bs ≡ unreadable
    unfolding number
    number_none e = rw (← signed, ← digits, e)

    pub number_some : (whole ≡ 0 → ⊥) → number bs ≡ number_from (sign + whole) bs
    unfolding number
    number_some e = rw (← signed, ← digits, ne_eqb whole 0 e)

    pub whole_fits : sign + whole ≤ length bs
    whole_fits =
        let s : sign ≤ length bs = rw signed (sign_size bs) in
        omega (arith, rw (← digits) at (integer_size (drop sign bs)), length-drop sign bs)
