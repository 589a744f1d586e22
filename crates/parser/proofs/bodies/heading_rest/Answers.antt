use native.Mathlib.Omega.{arith}
use borrow.Author.Tests.{le-leb, lt-leb}
use Rattle.parser_items.proofs.Items.{no_cards}
use Rattle.parser.specs.Symbols.{rest_of, directive_rest}
use Rattle.parser.proofs.bodies.heading_rest.Goals as goal

pub returns-in-0-to-3 : goal.returns-in-0-to-3
unfolding rest_of
returns-in-0-to-3 c =
    let a = c.args in
    let e = c.directive_rest in
    rw (le-leb a.kind 3 (omega arith)) (no_cards a.c.text.now directive_rest a.cards.now e.ensures)

pub returns-in-4-to-10 : goal.returns-in-4-to-10
unfolding rest_of
returns-in-4-to-10 c =
    let k = c.args.kind in
    rw (lt-leb k 3 (omega arith), le-leb k 10 (omega arith)) c.body.ensures

pub returns-in-11 : goal.returns-in-11
unfolding rest_of
returns-in-11 c =
    let k = c.args.kind in
    rw (lt-leb k 3 (omega arith), lt-leb k 10 (omega arith), le-leb k 11 (omega arith)) c.more.ensures

pub returns-in_default : goal.returns-in_default
unfolding rest_of
returns-in_default c =
    let k = c.args.kind in
    rw (lt-leb k 3 (omega arith), lt-leb k 10 (omega arith), lt-leb k 11 (omega arith)) c.more-in_default.ensures
