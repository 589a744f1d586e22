use mathlib.Core.Path.{◌≡◌}
use Rattle.store_reader.specs.Stored.{card_at}
use Rattle.from_ast_collisions.specs.Earlier.{stands_for, earlier_in}
use Rattle.from_ast_collisions.specs.Views.{cards}
use Rattle.from_ast_collisions.proofs.merging.find_earlier.Given as goal

abbrev pub invariant-loop-row : goal.invariant-loop-row
invariant-loop-row l =
    let test = stands_for (cards l.collection) (card_at l.collection.text.now l.collection.words.now l.part) in
    (l.row-iterator.size ≡ 3) × (earlier_in test l.under ≡ earlier_in test l.row-iterator.rest.now)
