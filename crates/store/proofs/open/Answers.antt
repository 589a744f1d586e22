use mathlib.Core.Path.{sym}
use Rattle.ast_check.proofs.Told.{answer_of}
use Rattle.store.proofs.Allowed.{opening_faulty, opening_barred, opening_capacity}
use Rattle.store.proofs.Entries.{open_refused}
use Rattle.store.proofs.open.Goals as goal

pub returns-in_err-check : goal.returns-in_err-check
returns-in_err-check c =
    let e = c.args in
    open_refused e.text.now e.words.now e.built_ins.text.now e.built_ins.cards.now c.if-text-lt-TEXT_CAPACITY.false c.if-words-lt-WORDS_CAPACITY.false _ _
    (answer_of _ _ c.from_residual.ensures.1)
    (opening_faulty _ _ _ (sym c.in_err-check.ensures))

pub returns-in_err-check_built_in : goal.returns-in_err-check_built_in
returns-in_err-check_built_in c =
    let e = c.args in
    open_refused e.text.now e.words.now e.built_ins.text.now e.built_ins.cards.now c.if-text-lt-TEXT_CAPACITY.false c.if-words-lt-WORDS_CAPACITY.false _ _
    (answer_of _ _ c.from_residual-in_err-check_built_in.ensures.1)
    (opening_barred _ _ (sym c.in_ok-check.ensures) _ (sym c.in_err-check_built_in.ensures))

pub returns-in_err-check_capacity : goal.returns-in_err-check_capacity
returns-in_err-check_capacity c =
    let e = c.args in
    open_refused e.text.now e.words.now e.built_ins.text.now e.built_ins.cards.now c.if-text-lt-TEXT_CAPACITY.false c.if-words-lt-WORDS_CAPACITY.false _ _
    (answer_of _ _ c.from_residual-in_err-check_capacity.ensures.1)
    (opening_capacity _ _ (sym c.in_ok-check.ensures) _ (sym c.in_ok-check_built_in.ensures) c.in_err-check_capacity.ensures)
