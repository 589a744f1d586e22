use mathlib.Core.Path.{sym, ◌∙◌}
use native.Mathlib.Nat.{add-sub_cancel_left}
use Rattle.definition.specs.Store.{document_count}
use Rattle.ast_check.proofs.Told.{refused_some, passed_none}
use Rattle.store_reader.specs.Rows.{row_of}
use Rattle.store_check.proofs.Sound.{rows_held}
use Rattle.store_check.proofs.Cards.{cleared_none, cleared_row, faulty_row}
use Rattle.store_check.proofs.cards_sound.Goals as goal

pub loop-document-init : goal.loop-document-init
loop-document-init c = cleared_none _ _ (rows_held _ c.requires.rows).counted

pub returns-then-is_err : goal.returns-then-is_err
unfolding document_count
returns-then-is_err c =
    let e = refused_some c.check_cards.result (sym c.is_err.ensures.value ∙ c.if-is_err.true) in
    faulty_row _ _ _ _ (row_of c.at-row.result) c.at-row.ensures c.loop-document-test.true c.loop-document.invariant c.requires _
    (sym (simp add-sub_cancel_left at c.check_cards.ensures) ∙ e.1)

pub loop-document-preserved : goal.loop-document-preserved
unfolding document_count
loop-document-preserved c =
    cleared_row _ _ _ _ (row_of c.at-row.result) c.at-row.ensures c.loop-document-test.true c.loop-document.invariant c.requires
    (sym (simp add-sub_cancel_left at c.check_cards.ensures) ∙ passed_none c.check_cards.result (sym c.is_err.ensures.value ∙ c.if-is_err.false))
