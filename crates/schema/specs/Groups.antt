-- Groups over the pairs, which are read as rows: what is the type's kind, card the interface's, origin the type's.
use Rattle.std.specs.Prelude.{List, [], ◌∷◌, map, Bool, not, ℕ, length, take}
use Rattle.definition.specs.Lists.{any, filter, flat_map}
use Rattle.definition.specs.Headings.{NamedCard}
use Rattle.definition.specs.Catalogue.{Row}
use Rattle.definition.specs.LentRows.{lent_rows, is_row_named}
use Rattle.definition.specs.Lookups.{is_row_of, origin_of, same_interface}
use Rattle.store_reader.specs.Stored.{stored_parts}
use Rattle.schema_rows.specs.Rows.{row_at, found_from}
use Rattle.std.specs.Prelude.{Option}
use Rattle.schema.specs.Gather.{news}
use Rattle.schema.specs.Owners.{named}

-- The types that list the interface of a name.
unfoldable pub implementers_named : List NamedCard → List Row → List ℕ → List ℕ
implementers_named cs ps n = map origin_of (filter (is_row_named cs n) ps)

-- The words of the group that a pair opens.
unfoldable pub pair_group : List NamedCard → List Row → Row → List ℕ
pair_group cs ps r =
    let same = filter (is_row_named cs (named cs r)) ps in
    r.card ∷ length (filter (is_row_of 6) same) ∷ length (filter (is_row_of 7) same) ∷ implementers_named cs ps (named cs r)

unfoldable pub pair_groups : List NamedCard → List Row → List ℕ
pair_groups cs ps = flat_map (pair_group cs ps) (news (same_interface cs) [] ps)

-- ---- The same by the words of a store and of pairs.

-- The first pair whose interface has the name.
abbrev pub pair_found : List ℕ → List ℕ → List ℕ → List ℕ → Option ℕ
pair_found text words pairs name = found_from (is_row_named (stored_parts text words) name) 0 (lent_rows pairs)

-- How many types of a kind list the interface of a name.
abbrev pub kind_count : List ℕ → List ℕ → List ℕ → List ℕ → ℕ → ℕ
kind_count text words pairs name kind = length (filter (is_row_of kind) (filter (is_row_named (stored_parts text words) name) (lent_rows pairs)))

abbrev pub implementers_in : List ℕ → List ℕ → List ℕ → List ℕ → List ℕ
implementers_in text words pairs name = implementers_named (stored_parts text words) (lent_rows pairs) name

abbrev pub group_at : List ℕ → List ℕ → List ℕ → ℕ → List ℕ
group_at text words pairs i = pair_group (stored_parts text words) (lent_rows pairs) (row_at pairs i)

-- The pairs that open a group, each the first of its interface's name.
abbrev pub is_opener : List ℕ → List ℕ → List ℕ → ℕ → Bool
is_opener text words pairs i = not (any (same_interface (stored_parts text words) (row_at pairs i)) (take i (lent_rows pairs)))

abbrev pub openers_over : List ℕ → List ℕ → List ℕ → List Row
openers_over text words pairs = news (same_interface (stored_parts text words)) [] (lent_rows pairs)

abbrev pub groups_over : List ℕ → List ℕ → List ℕ → List ℕ
groups_over text words pairs = pair_groups (stored_parts text words) (lent_rows pairs)
