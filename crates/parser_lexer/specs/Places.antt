-- The places of a token ahead of a place.
use Rattle.std.specs.Prelude.{ℕ, ◌≤◌, ◌<◌}

-- They lie in a text of a size, in order; a token has a byte at least; and there are no more cards than bytes read.
abbrev pub Lies : (size sort begins ends last cards : ℕ) → Type 0
Lies size sort begins ends last cards =
    (last ≤ begins) ×
    (begins ≤ ends) ×
    (ends ≤ size) ×
    (cards ≤ last) ×
    (sort ≤ 54 → begins < ends)
