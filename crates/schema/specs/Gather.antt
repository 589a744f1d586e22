-- `all_implementing` as one walk over the rows finds it, and its words.
use Rattle.std.specs.Prelude.{List, [], ◌∷◌, ◌++◌, map, Bool, ◌&&◌, not, ℕ, ◌+◌, ◌*◌, take, drop}
use Rattle.std.proofs.Math.Option.{Option, none, some}
use Rattle.definition.specs.Lists.{choose, found, any, flat_map}
use Rattle.definition.specs.Headings.{NamedCard}
use Rattle.definition.specs.Catalogue.{Row, row}
use Rattle.definition.specs.Refusals.{card_capacity}
use Rattle.definition.specs.LentRows.{lent_rows, is_type_row, is_type_row_named}
use Rattle.definition.specs.Lookups.{is_row_of, is_part_named, Implementing, implementing, all_implementing}
use Rattle.definition.specs.Outcomes.{words_of_row}
use Rattle.store_reader.specs.Stored.{stored_parts}
use Rattle.schema_rows.specs.Rows.{row_at}
use Rattle.schema.specs.Owners.{named}
use Rattle.std.specs.Prelude.{Option as Place}
use Rattle.std.specs.Prelude.{Some, None}

-- The elements that are like none before them, where the elements of `pre` stand before the list: unlike in `firsts`, all of them do, kept or not.
unfoldable pub news : {A : Type 0} → (A → A → Bool) → List A → List A → List A
news alike pre [] = []
news alike pre (x ∷ xs) =
    let more = news alike (pre ++ (x ∷ [])) xs in
    choose (any (alike x) pre) more (x ∷ more)

-- A 21 counts under a type row that is the first of its name, and there where it is the first of its own name.
-- `pre` are the rows before, `mid` those of them under the type row.
unfoldable pub gather : List NamedCard → List Row → List Row → Option Row → List Row → List Implementing
gather cs pre mid o [] = []
gather cs pre mid o (r ∷ rs) =
    let first : Option Row = choose (any (is_type_row_named cs (named cs r)) pre) none (some r) in
    let type = gather cs (pre ++ (r ∷ [])) [] first rs in
    let outside = gather cs (pre ++ (r ∷ [])) [] none rs in
    let under = gather cs (pre ++ (r ∷ [])) (mid ++ (r ∷ [])) o rs in
    let new = is_row_of 21 r && not (any (is_part_named cs 21 (named cs r)) mid) in
    choose (is_type_row r) type (found o (λ t. choose new (implementing t r ∷ under) under) outside)

-- The type row that rows stand under, and the rows between it and the row i.
abbrev pub owner_row : List ℕ → Place ℕ → Option Row
owner_row rows (Some t) = some (row_at rows t)
owner_row rows None = none

abbrev pub under_owner : List Row → Place ℕ → ℕ → List Row
under_owner rs (Some t) i = drop (t + 1) (take i rs)
under_owner rs None i = []

-- An interface with the type that lists it as three words: the type's kind, the interface's card, the type's card.
unfoldable pub as_row : Implementing → Row
as_row i = row i.type.what i.interface.card i.type.card

unfoldable pub pair_words : List Implementing → List ℕ
pair_words is = flat_map words_of_row (map as_row is)

-- At most one interface a card.
abbrev pub pairs_capacity : ℕ
pairs_capacity = 3 * card_capacity

-- The words of the pairs, by those of a store and of lent rows.
abbrev pub pairs_in : List ℕ → List ℕ → List ℕ → List ℕ
pairs_in text words rows = pair_words (all_implementing (stored_parts text words) (lent_rows rows))

-- What is left to be written at the row i.
unfoldable pub pairs_left : List NamedCard → List ℕ → Place ℕ → ℕ → List ℕ
pairs_left cs rows owner i =
    pair_words (gather cs (take i (lent_rows rows)) (under_owner (lent_rows rows) owner i) (owner_row rows owner) (drop i (lent_rows rows)))
