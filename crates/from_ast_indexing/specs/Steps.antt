-- What filling the arrays asks, and what the headings' array holds then.
use Rattle.std.specs.Prelude.{◌≡◌, List, map, ℕ, ◌≤◌, length}
use Rattle.definition.specs.Store.{cards_used_of}
use Rattle.store_reader.specs.Stored.{stored_headings}
use Rattle.from_ast_index.specs.Index.{heading_number}
use Rattle.from_ast_indexing.specs.declared.Arrays.{Arrays}

-- Room for n cards in each array.
pub record HasRoom (n : ℕ) (a : Arrays) : Type 0 where
  pub headings_room : n ≤ length a.headings.now
  pub hashes_room : n ≤ length a.hashes.now
  pub owners_room : n ≤ length a.owners.now
  pub types_room : n ≤ length a.types.now
  pub orphans_room : n ≤ length a.orphans.now
  pub extensions_room : n ≤ length a.extensions.now
  pub starts_room : n ≤ length a.starts.now
  pub ends_room : n ≤ length a.ends.now

-- A list of the headings' cards.
pub record HeadingsAre (words headings : List ℕ) : Type 0 where
  pub headings_are : (text : List ℕ) → headings ≡ map heading_number (stored_headings text words)
  pub headings_most : length headings ≤ cards_used_of words
