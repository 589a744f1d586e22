use mathlib.Core.Path.{sym, ap, ◌∙◌}
use mathlib.Core.Bool.{not}
use Rattle.from_ast_index.proofs.Cards.{word_absent}
use Rattle.from_ast_collisions.proofs.Push.{both_pushed}
use Rattle.from_ast_collisions.proofs.Branches.{drawing_both}
use Rattle.from_ast_errors.proofs.building.drawing_errors.Goals as goal

pub returns-then-is_none : goal.returns-then-is_none
returns-then-is_none c =
    both_pushed _ _ _ _ _ (drawing_both c.args.adopt _ _ c.args.finished.now.owners.now c.args.finished.now.rows.rows.now _ _ _ _
    (sym c.schema-schema.ensures.card ∙ word_absent _ _ c.card_in.ensures.word (c.is_none.ensures ∙ ap not c.if-is_none.true))) _ c.all_orphan_errors.ensures
    (rw c.schema-schema.ensures.rows at c.no_schema_errors.ensures)
