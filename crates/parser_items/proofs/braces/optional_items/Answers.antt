use mathlib.Core.Path.{refl}
use mathlib.Core.List.{[], ◌∷◌}
use native.Mathlib.Omega.{arith}
use Rattle.definition.specs.Grammar.{part}
use Rattle.parser_lexer.proofs.SortLaws.{differs, differs_not}
use Rattle.parser_values.proofs.Readers.{not_there}
use Rattle.parser_items.proofs.Items.{may_list, no_cards, chosen}
use Rattle.parser_items.proofs.braces.optional_items.Goals as goal

pub returns-then-ne : goal.returns-then-ne
returns-then-ne g c =
    let a = c.args in
    let r = g.met.B.Braced.rules in
    let o = g.B.Braced.optional in
    no_cards a.c.text.now (part o ∷ []) a.cards.now (not_there o 11 r.absent r.opener (differs a.c.sort c.ne.ensures c.if-ne.true) refl)

pub returns : goal.returns
returns g c =
    let a = c.args in
    let r = g.met.B.Braced.rules in
    let l = part g.B.Braced.list ∷ [] in
    chosen a.c.text.now g.B.Braced.optional l 11 r.standing r.begins (omega arith)
    (differs_not a.c.sort c.ne.ensures c.if-ne.false) (may_list a.c.text.now l c.items.result c.items.ensures)
