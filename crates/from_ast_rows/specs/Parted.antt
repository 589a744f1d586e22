-- What building the defined types asks of the arrays that tell where among all extensions those of a type stand: with its part a defined type has the
-- rows that it has with all. proofs/Parts has it from what `from_ast_index` says of these arrays.
use Rattle.std.specs.Prelude.{◌≡◌, List, ℕ, ◌≤◌, ◌<◌, length, get_or}
use Rattle.definition.specs.Store.{cards_used_of}
use Rattle.from_ast_index.specs.Index.{own_extensions}
use Rattle.component.specs.RowsByCards.{type_rows_at}

pub record Parted (text words types extensions starts ends : List ℕ) : Type 0 where
  pub starts_length : cards_used_of words ≤ length starts
  pub ends_length : cards_used_of words ≤ length ends
  pub part_builds :
      (k : ℕ) → k < length types →
      type_rows_at text words (own_extensions extensions starts ends (get_or types k 0)) (get_or types k 0)
      ≡ type_rows_at text words extensions (get_or types k 0)
