-- Parts of what Lexical says of a number, by names.
use Rattle.std.specs.Prelude.{List, Bool, ◌||◌, ℕ, ◌+◌, eqb, drop}
use Rattle.definition.specs.Lists.{choose, found}
use Rattle.definition.specs.Names.{is_name_start}
use Rattle.definition.specs.Lexical.{is_digit, fraction, exponent, number_of, Lexeme, unreadable}

-- What may not follow a number.
abbrev pub is_attached : ℕ → Bool
is_attached b = is_digit b || eqb b 46 || is_name_start b

-- A number whose sign and digits are i bytes.
abbrev pub number_from : ℕ → List ℕ → Lexeme
number_from i bs =
    found (fraction (drop i bs)) (λ f. found (exponent (drop (i + f) bs)) (λ e. number_of (choose (eqb (f + e) 0) 14 15) (i + f + e) bs) unreadable) unreadable
