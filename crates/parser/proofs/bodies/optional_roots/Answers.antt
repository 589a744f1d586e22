use mathlib.Core.Path.{refl}
use mathlib.Core.List.{[], ◌∷◌}
use native.Mathlib.Omega.{arith}
use Rattle.definition.specs.Lists.{here, there}
use Rattle.definition.specs.Grammar.{part, Roots, Roots?, rule, within}
use Rattle.definition.specs.GrammarSets.{first, nullable}
use Rattle.definition.specs.Machine.{has, first_set_of}
use Rattle.parser_lexer.proofs.SortLaws.{is, is_other}
use Rattle.parser_values.proofs.Readers.{not_there}
use Rattle.parser_items.proofs.Items.{may_list, no_cards, chosen}
use Rattle.parser.proofs.bodies.optional_roots.Goals as goal

pub returns-then-eq : goal.returns-then-eq
unfolding rule has first_set_of first nullable within
returns-then-eq c =
    let text = c.args.c.text.now in
    let e = c.roots in
    chosen text Roots? (part Roots ∷ []) 11 here refl (omega arith) (is c.args.c.sort c.eq.ensures c.if-eq.true) (may_list text (part Roots ∷ []) e.result e.ensures)

pub returns : goal.returns
unfolding rule first
returns c =
    let a = c.args in
    no_cards a.c.text.now (part Roots? ∷ []) a.cards.now (not_there Roots? 11 (there here) refl (is_other c.args.c.sort c.eq.ensures c.if-eq.false) refl)
