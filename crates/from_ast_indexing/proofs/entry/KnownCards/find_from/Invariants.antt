use mathlib.Core.Path.{◌≡◌}
use mathlib.Core.List.{map}
use Rattle.definition.specs.Lists.{find}
use Rattle.from_ast_index.specs.Index.{same_cards, card_hash}
use Rattle.from_ast_indexing.specs.Entering.{entry_of}
use Rattle.from_ast_indexing.proofs.entry.KnownCards.find_from.Given as goal

-- What is sought among all cards is what is sought among those left, and their hashes are left beside them.
abbrev pub invariant-loop-other : goal.invariant-loop-other
invariant-loop-other l = record {
  left :
      entry_of (find (same_cards l.collection.text.now l.collection.words.now l.card) l.self.cards.now)
      ≡ entry_of (find (same_cards l.collection.text.now l.collection.words.now l.card) l.other-iterator.a.rest.now);
  beside : l.other-iterator.b.rest.now ≡ map (card_hash l.collection.text.now l.collection.words.now) l.other-iterator.a.rest.now;
}
