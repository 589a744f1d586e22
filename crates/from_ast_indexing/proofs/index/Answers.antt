-- What each step leaves is what the next one asks, and all of it is the index.
use native.Mathlib.Omega.{arith}
use Rattle.store_reader.proofs.Laws.{cards_fit_lem}
use Rattle.from_ast_indexing.proofs.Headings.{cards_ready}
use Rattle.from_ast_indexing.proofs.Owners.{extensions_stored, extensions_owned, owners_done}
use Rattle.from_ast_indexing.proofs.Told.{indexed}
use Rattle.from_ast_indexing.proofs.index.Goals as goal

pub index_orphans-orphans-requires-clause-extensions : goal.index_orphans-orphans-requires-clause-extensions
index_orphans-orphans-requires-clause-extensions c =
    extensions_stored _ _ _ _ (cards_ready _ _ _ _ c.hash_names.ensures c.index_headings-headings.ensures) _ c.index_types.new.types _ _
    (rw c.known.ensures.cards at c.index_extensions-extensions.ensures.extensions)

pub index_starts-requires-clause-stored : goal.index_starts-requires-clause-stored
index_starts-requires-clause-stored c =
    extensions_owned _ _ _ _ (cards_ready _ _ _ _ c.hash_names.ensures c.index_headings-headings.ensures) _ c.index_types.new.types _ _
    (rw c.known.ensures.cards at c.index_extensions-extensions.ensures.extensions) (omega (arith, c.requires.room.owners_room))

pub index_ends-requires-clause-stored : goal.index_ends-requires-clause-stored
index_ends-requires-clause-stored c =
    extensions_owned _ _ _ _ (cards_ready _ _ _ _ c.hash_names.ensures c.index_headings-headings.ensures) _ c.index_types.new.types _ _
    (rw c.known.ensures.cards at c.index_extensions-extensions.ensures.extensions) (omega (arith, c.requires.room.owners_room))

pub invariant_of-result : goal.invariant_of-result
invariant_of-result c =
    let a = cards_ready _ _ _ _ c.hash_names.ensures c.index_headings-headings.ensures in
    record {
      listed =
          indexed _ _ _ (cards_fit_lem _ _ c.requires.sound) c.index_headings-headings.ensures _ _ _ _
          (owners_done _ _ _ _ a _ c.index_types.new.types _ _ (rw c.known.ensures.cards at c.index_extensions-extensions.ensures.extensions) c.index_types.ensures.types _
          c.index_orphans-orphans.ensures.orphans c.index_extensions-extensions.ensures.most c.index_orphans-orphans.ensures.most)
          (omega (arith, c.requires.room.owners_room));
      spanned = record {
        starts_are = c.index_starts.ensures;
        ends_are = c.index_ends.ensures;
        starts_length = omega (arith, c.requires.room.starts_room);
        ends_length = omega (arith, c.requires.room.ends_room);
      };
    }
