-- The reader stays over the same words. The first heading from the reader's card on is the one that is sought.
use Rattle.std.proofs.Common.{◌≡◌, ◌-◌}
use Rattle.definition.specs.Store.{cards_used_of}
use Rattle.store_reader.specs.Stored.{heading_from, next_heading}
use Rattle.store_reader.proofs.reader.next_heading.Given as goal

abbrev pub invariant-loop-reader : goal.invariant-loop-reader
invariant-loop-reader l = record {
  same : l.reader.words.now ≡ l.words;
  sought : heading_from l.words l.reader.card ≡ next_heading l.words l.card;
}

abbrev pub decreases-loop-reader : goal.decreases-loop-reader
decreases-loop-reader l = cards_used_of l.words - l.reader.card
