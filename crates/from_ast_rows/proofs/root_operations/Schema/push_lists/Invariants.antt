use Rattle.std.specs.Option.{unwrap_or}
use Rattle.definition.specs.Answers.{absent}
use Rattle.definition.specs.Catalogue.{under_schema}
use Rattle.component.specs.RowsByCards.{schema_list_at}
use Rattle.component.proofs.Loops.{Pushes}
use Rattle.from_ast_rows.proofs.root_operations.Schema.push_lists.Given as goal

-- The lists from `kind` on are left.
abbrev pub invariant-loop-kind : goal.invariant-loop-kind
invariant-loop-kind l =
    Pushes (schema_list_at l.self.collection.text.now l.self.collection.words.now l.self.adopt l.self.headings.now (unwrap_or l.self.card absent) l.self.implicit)
    under_schema l.initial.rows l.rows l.kind-index
