use Prim.Native.Nat.{◌≤◌}
use lib.ListN.{length}
use Rattle.definition.specs.Store.{cards_used_of}
use Rattle.word_list.specs.Listed.{listed_in}
use Rattle.from_ast_indexing.specs.Extensions.{ExtensionsAre}
use Rattle.from_ast_indexing.proofs.extensions.index_extensions.Given as goal

-- The extensions and owners that the headings before `card` make.
abbrev pub invariant-loop-card : goal.invariant-loop-card
invariant-loop-card l = record {
  extensions :
      ExtensionsAre l.collection.text.now l.collection.words.now l.headings l.types.cards.now l.initial.owners l.owners (listed_in l.list) l.card-index;
  len_most : l.list.len ≤ l.card-index;
  room : cards_used_of l.collection.words.now ≤ length l.list.words.now;
}
