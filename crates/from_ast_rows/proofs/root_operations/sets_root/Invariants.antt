use mathlib.Core.Path.{◌≡◌}
use lib.ListN.{drop}
use Rattle.definition.specs.Lists.{any, take_until}
use Rattle.definition.specs.Store.{stored_cards}
use Rattle.store_reader.specs.Stored.{is_heading_card}
use Rattle.component.specs.RowsByCards.{is_root_card, sets_root}
use Rattle.from_ast_rows.proofs.root_operations.sets_root.Given as goal

-- A root is among the parts from `part` on exactly where one is among all.
abbrev pub invariant-loop-part : goal.invariant-loop-part
invariant-loop-part l =
    sets_root l.collection.words.now l.card ≡ any is_root_card (take_until is_heading_card (drop l.part (stored_cards l.collection.words.now)))
