-- Which origins are extensions that are listed.
use Rattle.std.specs.Prelude.{List, Bool, ◌&&◌, not, ℕ, eqb}
use Rattle.definition.specs.Lists.{any}
use Rattle.definition.specs.Lookups.{is_card}

-- An extension that is not among those seen.
unfoldable pub is_new : List ℕ → ℕ → Bool
is_new seen origin = is_card origin && not (any (eqb origin) seen)
