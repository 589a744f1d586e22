-- What the program makes of the file `switches`.
use Rattle.std.specs.Prelude.{◌≡◌, refl, List, [], ◌∷◌, true, false, Bool, ℕ, eqb, Option, Some, None}
use Rattle.definition.specs.Lists.{choose}
use Rattle.definition.specs.Names.{bytes}
use Rattle.listing.specs.declared.switches.Switches.{Switches}

-- A digit, 0 or 1.
abbrev pub digit_of : ℕ → Option Bool
digit_of d = choose (eqb d 48) (Some false) (choose (eqb d 49) (Some true) None)

abbrev pub both : Option Bool → Option Bool → Option Switches
both None i = None
both (Some a) None = None
both (Some a) (Some i) = Some (record { adopt = a; ignore = i })

-- Two digits, behind which a line feed may stand.
unfoldable pub switches_of : List ℕ → Option Switches
switches_of [] = None
switches_of (a ∷ []) = None
switches_of (a ∷ b ∷ []) = both (digit_of a) (digit_of b)
switches_of (a ∷ b ∷ c ∷ []) = choose (eqb c 10) (both (digit_of a) (digit_of b)) None
switches_of (a ∷ b ∷ c ∷ d ∷ bs) = None

-- Examples.
adopting : switches_of (bytes "10\n") ≡ Some (record { adopt = true; ignore = false })
unfolding switches_of bytes
adopting = refl

three_digits : switches_of (bytes "100") ≡ None
unfolding switches_of bytes
three_digits = refl
