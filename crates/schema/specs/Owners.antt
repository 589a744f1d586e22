-- The type row that an interface stands under, and whether the interface counts.
use Rattle.std.specs.Prelude.{◌≡◌, List, Bool, true, false, ◌&&◌, not, ℕ, ◌+◌, ◌*◌, ◌≤◌, ◌<◌, ltb, take, drop, get_or}
use Rattle.definition.specs.Lists.{choose, any}
use Rattle.definition.specs.Cards.{is_type}
use Rattle.definition.specs.Headings.{NamedCard}
use Rattle.definition.specs.Catalogue.{Row}
use Rattle.definition.specs.LentRows.{name_numbered, lent_rows, is_type_row, is_type_row_named}
use Rattle.definition.specs.Lookups.{is_part_named}
use Rattle.store_reader.specs.Stored.{stored_parts}
use Rattle.schema_rows.specs.Rows.{row_at}
use Rattle.std.specs.Prelude.{Option, IfSome}
use Rattle.std.specs.Prelude.{Some, None}

-- The name of a row's card.
abbrev pub named : List NamedCard → Row → List ℕ
named cs r = name_numbered cs r.card

-- A type row at the place i, if it is the first of its name.
unfoldable pub first_type : List NamedCard → List Row → Row → ℕ → Option ℕ
first_type cs rs r i = choose (any (is_type_row_named cs (named cs r)) (take i rs)) None (Some i)

-- The type row t, where at the row i it is one that was seen and is the first of its name.
unfoldable pub owner_of : List NamedCard → List ℕ → ℕ → ℕ → Option ℕ
owner_of cs rows t i = choose (is_type (get_or rows (3 * t) 0) && ltb t i) (first_type cs (lent_rows rows) (row_at rows t) t) None

-- A type row that is the first of its name, with no other between it and the row i.
pub record OwnerAt (cs : List NamedCard) (rows : List ℕ) (t i : ℕ) : Type 0 where
  pub before : t < i
  pub type : is_type (get_or rows (3 * t) 0) ≡ true
  pub first : any (is_type_row_named cs (named cs (row_at rows t))) (take t (lent_rows rows)) ≡ false
  pub between : any is_type_row (drop (t + 1) (take i (lent_rows rows))) ≡ false

-- The last type row before the row i; where there is none, any row.
pub record LastType (rows : List ℕ) (t i : ℕ) : Type 0 where
  pub before : t ≤ i
  pub outside : is_type (get_or rows (3 * t) 0) ≡ false → any is_type_row (take i (lent_rows rows)) ≡ false
  pub between : any is_type_row (drop (t + 1) (take i (lent_rows rows))) ≡ false

-- The same where one was seen.
abbrev pub LastSeen : List ℕ → Option ℕ → ℕ → Type 0
LastSeen rows o i = IfSome o (λ t. LastType rows t i)

-- The type row that was seen last, if it is the first of its name.
abbrev pub owner_seen : List NamedCard → List ℕ → Option ℕ → ℕ → Option ℕ
owner_seen cs rows (Some t) i = owner_of cs rows t i
owner_seen cs rows None i = None

-- Whether the interface at the row i counts.
abbrev pub is_listed : List NamedCard → List ℕ → Option ℕ → ℕ → Bool
is_listed cs rows (Some t) i = not (any (is_part_named cs 21 (named cs (row_at rows i))) (drop (t + 1) (take i (lent_rows rows))))
is_listed cs rows None i = false

-- The same of the last type row t before it, by the words of a store and of lent rows.
abbrev pub is_listed_under : List ℕ → List ℕ → List ℕ → ℕ → ℕ → Bool
is_listed_under text words rows t i = is_listed (stored_parts text words) rows (owner_of (stored_parts text words) rows t i) i
