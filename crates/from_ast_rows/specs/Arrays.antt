-- What building the rows asks of the arrays that it is lent: all but the owners of the index. proofs/Catalogue has it from what the index says.
use Rattle.std.specs.Prelude.{◌≡◌, List, [], map, ℕ}
use Rattle.definition.specs.Lists.{filter, firsts}
use Rattle.definition.specs.Headings.{defined_types, orphans, same_named, is_type_extension}
use Rattle.store_reader.specs.Stored.{stored_headings}
use Rattle.from_ast_index.specs.Index.{Hashed, heading_number}
use Rattle.component.specs.RowsByCards.{Stored}

pub record Arrays (text words headings hashes types orphan_cards extensions : List ℕ) : Type 0 where
  pub hashed : Hashed text words hashes
  pub headings_stored : Stored words headings
  pub types_stored : Stored words types
  pub orphans_stored : Stored words orphan_cards
  pub extensions_stored : Stored words extensions
  pub headings_are : headings ≡ map heading_number (stored_headings text words)
  pub types_are : types ≡ map heading_number (defined_types (stored_headings text words))
  pub orphans_are : orphan_cards ≡ map heading_number (firsts same_named [] (orphans (stored_headings text words)))
  pub extensions_are : extensions ≡ map heading_number (filter is_type_extension (stored_headings text words))
