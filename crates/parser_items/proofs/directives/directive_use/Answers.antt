use mathlib.Core.Path.{refl, sym, ◌∙◌}
use mathlib.Core.List.{List, [], ◌∷◌}
use Prim.Native.Nat.{◌+◌}
use native.Mathlib.Omega.{arith}
use Rattle.definition.specs.Lists.{here}
use Rattle.definition.specs.Grammar.{Symbol, part, mark, item, named, at, name, item_ends, rule, DirectiveUse, Arguments?}
use Rattle.definition.specs.GrammarSets.{nullable}
use Rattle.definition.specs.ItemCards.{begun, named_by}
use Rattle.parser_laws.proofs.Ahead.{token_of}
use Rattle.parser_lexer.specs.Sorts.{sort_number}
use Rattle.parser_lexer.specs.declared.cursor.Cursor.{Cursor}
use Rattle.std.specs.Prelude.{Ok}
use Rattle.parser_values.specs.Reads.{Flat}
use Rattle.parser_values.proofs.Readers.{handed}
use Rattle.parser_items.proofs.Beginning.{wanting, covers, Sole}
use Rattle.parser_items.proofs.Items.{InItem, must, taken, starts, called, past, on, fails, ends, alone}
use Rattle.parser_items.proofs.directives.directive_use.Goals as goal

abbrev symbols : List Symbol
symbols = mark (item 20) ∷ at ∷ mark named ∷ name ∷ part Arguments? ∷ mark item_ends ∷ []

sole : Sole DirectiveUse symbols
unfolding rule nullable wanting covers
sole = record { among = here; never_empty = refl; wants_token = refl; covered = refl }

module _ {b : Cursor} where
  at_sign : InItem b.last symbols b.text.now b (at ∷ mark named ∷ name ∷ part Arguments? ∷ mark item_ends ∷ []) b (begun 20 b.begins)
  unfolding wanting
  at_sign = starts b.text.now 20 _ refl refl

  module _ {n : Cursor} (f : Flat (at ∷ []) b.text.now b (Ok n)) where
    at_name : InItem (b.last + 1) symbols b.text.now b (name ∷ part Arguments? ∷ mark item_ends ∷ []) n
        (named_by (token_of (sort_number n.sort) n.begins n.ends) (begun 20 b.begins))
    unfolding wanting
    at_name = called b.text.now symbols _ refl (past b.text.now symbols (at ∷ []) _ at_sign (must b.text.now (at ∷ []) f))

    at-arguments : {k : Cursor} → Flat (name ∷ []) n.text.now n (Ok k) →
        InItem (b.last + 1 + 1) symbols b.text.now b (part Arguments? ∷ mark item_ends ∷ []) k
        (named_by (token_of (sort_number n.sort) n.begins n.ends) (begun 20 b.begins))
    at-arguments g = past b.text.now symbols (name ∷ []) _ at_name (must b.text.now (name ∷ []) g)

pub returns-in_err-name : goal.returns-in_err-name
returns-in_err-name c =
    let a = c.args in
    let text = a.c.text.now in
    rw (handed _ _ c.from_residual.ensures)
    (alone text DirectiveUse symbols sole (fails text a.cards.now symbols (at ∷ []) _ at_sign (taken text (at ∷ []) _ c.in_err-name.ensures)))

pub returns-in_err-k : goal.returns-in_err-k
returns-in_err-k c =
    let a = c.args in
    let text = a.c.text.now in
    rw (handed _ _ c.from_residual-in_err-k.ensures)
    (alone text DirectiveUse symbols sole
    (fails text a.cards.now symbols (name ∷ []) _ (at_name c.in_ok-name.ensures) (taken text (name ∷ []) _ c.in_err-k.ensures)))

pub returns-in_err-j : goal.returns-in_err-j
returns-in_err-j c =
    let a = c.args in
    let text = a.c.text.now in
    rw (handed _ _ c.from_residual-in_err-j.ensures)
    (alone text DirectiveUse symbols sole
    (fails text a.cards.now symbols (part Arguments? ∷ []) _ (at-arguments c.in_ok-name.ensures c.in_ok-k.ensures) c.in_err-j.ensures))

pub end_item-requires : goal.end_item-requires
end_item-requires c =
    let n = c.in_ok-name.ensures.1 in
    let k = c.in_ok-k.ensures.1 in
    let j = c.in_ok-j.ensures.1 in
    let e = j.0 ∙ k.0 in
    (rw (e ∙ n.0) c.requires, sym (e ∙ n.0), sym e, omega (arith, n.1, k.1, j.1))

pub returns : goal.returns
returns c =
    let text = c.args.c.text.now in
    let i = at-arguments c.in_ok-name.ensures c.in_ok-k.ensures in
    let j = on text symbols (part Arguments? ∷ []) _ i c.in_ok-j.ensures in
    alone text DirectiveUse symbols sole (ends text symbols 20 c.in_ok-name.name j (omega arith) c.end_item.ensures)
