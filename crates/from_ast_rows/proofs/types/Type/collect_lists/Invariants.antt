use Rattle.definition.specs.Catalogue.{under_type}
use Rattle.component.specs.RowsByCards.{list_at}
use Rattle.component.proofs.Loops.{Pushes}
use Rattle.from_ast_rows.proofs.types.Type.collect_lists.Given as goal

-- The lists from `kind` on are left.
abbrev pub invariant-loop-kind : goal.invariant-loop-kind
invariant-loop-kind l =
    Pushes (list_at l.self.collection.text.now l.self.collection.words.now l.self.extensions.now l.self.card) under_type l.initial.rows l.rows l.kind-index
