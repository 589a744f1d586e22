use Rattle.from_ast_index.specs.Index.{same_stored}
use Rattle.component.specs.RowsByCards.{extension_rows_at}
use Rattle.component.proofs.Loops.{Extends}
use Rattle.from_ast_rows.proofs.extensions.type_extensions.Given as goal

-- The extensions from `card` on are left to extend the list by.
abbrev pub invariant-loop-card : goal.invariant-loop-card
invariant-loop-card l =
    Extends (same_stored l.collection.text.now l.collection.words.now) l.start
    (extension_rows_at l.collection.text.now l.collection.words.now l.kind) l.extensions l.initial.rows l.rows l.card-index
