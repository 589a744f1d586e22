use Rattle.from_ast_index.specs.Index.{same_stored}
use Rattle.component.specs.RowsByCards.{schema_extension_at}
use Rattle.component.proofs.Loops.{Extends}
use Rattle.from_ast_rows.proofs.root_operations.Schema.extend_by_extensions.Given as goal

-- The headings from `card` on are left to extend the list by.
abbrev pub invariant-loop-card : goal.invariant-loop-card
invariant-loop-card l =
    Extends (same_stored l.self.collection.text.now l.self.collection.words.now) l.start
    (schema_extension_at l.self.collection.text.now l.self.collection.words.now l.kind) l.self.headings.now l.initial.rows l.rows l.card-index
