-- Where the next row stands, as numbers: before the row 4 the kind is 0.
use Rattle.std.specs.Prelude.{ℕ, Option, Some, None}
use Rattle.schema_rows.specs.declared.order.RowPlace.{RowPlace}

abbrev pub kind_of : Option RowPlace → ℕ
kind_of (Some p) = p.kind
kind_of None = 0

abbrev pub place_of : Option RowPlace → ℕ
place_of (Some p) = p.place
place_of None = 0
