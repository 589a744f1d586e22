use mathlib.Core.Path.{refl}
use mathlib.Core.List.{[], ◌∷◌}
use native.Mathlib.Omega.{arith}
use borrow.Author.Tests.{le-leb, lt-leb}
use Rattle.definition.specs.Grammar.{part, Roots}
use Rattle.parser_values.proofs.Joining.{reads_none}
use Rattle.parser_items.proofs.Items.{may_list, no_cards}
use Rattle.parser.specs.Symbols.{last_of}
use Rattle.parser.proofs.bodies.last_part.Goals as goal

pub returns-in-0-to-4 : goal.returns-in-0-to-4
unfolding last_of
returns-in-0-to-4 c =
    let e = c.roots in
    rw (le-leb c.args.kind 4 (omega arith)) (may_list c.args.c.text.now (part Roots ∷ []) e.result e.ensures)

pub returns-in-5 : goal.returns-in-5
unfolding last_of
returns-in-5 c =
    let a = c.args in
    rw c.in-5.is (no_cards a.c.text.now [] a.cards.now (reads_none a.c.text.now 0 a.c, (refl, omega arith)))

pub returns-in-6-to-7 : goal.returns-in-6-to-7
unfolding last_of
returns-in-6-to-7 c =
    let k = c.args.kind in
    rw (lt-leb k 4 (omega arith), lt-leb k 5 (omega arith), le-leb k 7 (omega arith)) c.fields.ensures

pub returns-in-8 : goal.returns-in-8
unfolding last_of
returns-in-8 c = rw c.in-8.is c.members.ensures

pub returns-in-9 : goal.returns-in-9
unfolding last_of
returns-in-9 c = rw c.in-9.is c.enum_values.ensures

pub returns-in-10 : goal.returns-in-10
unfolding last_of
returns-in-10 c = rw c.in-10.is c.input_fields.ensures

pub returns-in_default : goal.returns-in_default
unfolding last_of
returns-in_default c =
    let k = c.args.kind in
    rw (
      lt-leb k 4 (omega arith),
      lt-leb k 5 (omega arith),
      lt-leb k 7 (omega arith),
      lt-leb k 8 (omega arith),
      lt-leb k 9 (omega arith),
      lt-leb k 10 (omega arith),
    ) c.optional_roots.ensures
