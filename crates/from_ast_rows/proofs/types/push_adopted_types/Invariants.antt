use Rattle.component.specs.RowsByCards.{type_rows_at}
use Rattle.component.proofs.Loops.{Pushes}
use Rattle.from_ast_rows.proofs.types.push_adopted_types.Given as goal

-- The types from `card` on are left.
abbrev pub invariant-loop-card : goal.invariant-loop-card
invariant-loop-card l =
    Pushes (type_rows_at l.lists.collection.text.now l.lists.collection.words.now l.lists.extensions.now) l.lists.orphans.now l.initial.rows l.rows l.card-index
