-- The order of rows: where a row stands, and which may follow it.
use Rattle.std.specs.Prelude.{Bool, true, ◌&&◌, ◌||◌, ℕ, eqb, leb, ltb, length, Option, Some, None}
use Rattle.definition.specs.Lists.{choose}
use Rattle.definition.specs.Cards.{is_type}
use Rattle.definition.specs.LentRows.{row_order, row_place, in_place}

-- A row stands under a row of a kind, 4 to 10, after a place of that kind's order; before the row 4 the kind is 0.

unfoldable pub is_standing : ℕ → Bool
is_standing k = eqb k 0 || (leb 4 k && leb k 10)

unfoldable pub fits : ℕ → ℕ → ℕ → Bool
fits k p w = choose (eqb k 0) (eqb w 4) (choose (is_type w) true (in_place k p w))

-- Where the row after it stands.
unfoldable pub kind_after : ℕ → ℕ → ℕ
kind_after k w = choose (eqb k 0) w (choose (is_type w) w k)

unfoldable pub place_after : ℕ → ℕ → ℕ
place_after k w = choose (eqb k 0) 0 (choose (is_type w) 0 (row_place k w))

-- The place of a row of kind w in the order under a row of kind k, if its kind has one there.
unfoldable pub place_told : ℕ → ℕ → Option ℕ
place_told k w = choose (ltb (row_place k w) (length (row_order k))) (Some (row_place k w)) None
