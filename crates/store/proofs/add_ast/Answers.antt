use mathlib.Core.Path.{sym, ◌∙◌}
use Rattle.ast_check.proofs.Told.{answer_of}
use Rattle.store_check.proofs.Checked.{sound_store}
use Rattle.store.proofs.Allowed.{same_refusal, fits}
use Rattle.store.proofs.Entries.{add_refused, add_done}
use Rattle.store.proofs.add_ast.Goals as goal

pub check_filing-requires : goal.check_filing-requires
check_filing-requires c =
    let s = sound_store _ _ _ c.check_store.ensures c.in_ok-check_store.was in
    (s.counts.text, s.counts.cards)

pub returns-in_err-check_filing : goal.returns-in_err-check_filing
returns-in_err-check_filing c =
    let e = c.args in
    let s = sound_store _ _ _ c.check_store.ensures c.in_ok-check_store.was in
    add_refused e.text.now e.words.now e.lent.text.now e.lent.cards.now s.unrefused _ _ (answer_of _ _ c.from_residual-in_err-check_filing.ensures.1)
    (same_refusal e.text.now e.words.now e.lent.text.now e.lent.cards.now s ∙ sym c.in_err-check_filing.ensures)

pub file-requires : goal.file-requires
file-requires c =
    let e = c.args in
    fits e.text.now e.words.now e.lent.text.now e.lent.cards.now
    (sound_store _ _ _ c.check_store.ensures c.in_ok-check_store.was)
    (sym c.in_ok-check_filing.ensures)

pub returns : goal.returns
returns c =
    let e = c.args in
    let s = sound_store _ _ _ c.check_store.ensures c.in_ok-check_store.was in
    add_done e.text.now e.words.now e.lent.text.now e.lent.cards.now s.unrefused _ _
    (same_refusal e.text.now e.words.now e.lent.text.now e.lent.cards.now s ∙ sym c.in_ok-check_filing.ensures)
    c.file.ensures.text_after c.file.ensures.words_after
