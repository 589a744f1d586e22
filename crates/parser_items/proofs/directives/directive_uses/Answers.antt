use mathlib.Core.Path.{◌≡◌, refl}
use mathlib.Core.List.{List, [], ◌∷◌}
use Prim.Native.Nat.{ℕ}
use native.Mathlib.Omega.{arith}
use Rattle.definition.specs.Lists.{here, there}
use Rattle.definition.specs.Grammar.{Symbol, part, rule, within, DirectiveUse, DirectiveUse*}
use Rattle.definition.specs.GrammarSets.{nullable, first}
use Rattle.definition.specs.Machine.{has, first_set_of}
use Rattle.parser_lexer.specs.Sorts.{sort_number}
use Rattle.parser_lexer.proofs.SortLaws.{is, is_other}
use Rattle.parser_lexer.specs.declared.cursor.Cursor.{Cursor}
use Rattle.std.specs.Prelude.{Ok, Err}
use Rattle.parser_values.proofs.Readers.{handed, not_there, step_falls}
use Rattle.parser_items.proofs.Items.{InList, may_list, cardless, begins, list_on, list_ends, list_fails, list_chosen}
use Rattle.parser_items.proofs.directives.directive_uses.Goals as goal

abbrev uses : List Symbol
uses = part DirectiveUse* ∷ []

-- One more stands there.
another : (text : List ℕ) {b c : Cursor} {before after : List ℕ} → sort_number c.sort ≡ 8 → InList uses text b before uses c after →
    InList uses text b before (part DirectiveUse ∷ uses) c after
unfolding rule first first_set_of nullable has within
another text s i = list_chosen text uses [] DirectiveUse* (part DirectiveUse ∷ uses) 8 here refl (omega arith) s i

pub loop-k-init : goal.loop-k-init
loop-k-init c = let a = c.args in begins a.c.text.now uses a.cards.now refl

pub directive_use-requires : goal.directive_use-requires
directive_use-requires c = rw c.loop-k.invariant.1 c.requires

pub returns-in_err-j : goal.returns-in_err-j
returns-in_err-j c =
    let text = c.args.c.text.now in
    rw (handed _ _ c.from_residual.ensures)
    (list_fails text uses (part DirectiveUse ∷ []) uses (another text (is c.loop-k.k.sort c.eq.ensures c.loop-k-test.true) c.loop-k.invariant)
    (may_list c.loop-k.k.text.now (part DirectiveUse ∷ []) (Err _) c.in_err-j.ensures))

pub loop-k-smaller : goal.loop-k-smaller
loop-k-smaller c = step_falls c.args.c.text.now c.loop-k.k c.in_ok-j.j c.loop-k.invariant.1 c.in_ok-j.ensures.1

pub loop-k-preserved : goal.loop-k-preserved
loop-k-preserved c =
    let text = c.args.c.text.now in
    list_on text uses (part DirectiveUse ∷ []) uses (another text (is c.loop-k.k.sort c.eq.ensures c.loop-k-test.true) c.loop-k.invariant)
    (may_list c.loop-k.k.text.now (part DirectiveUse ∷ []) (Ok _) c.in_ok-j.ensures)

pub returns : goal.returns
unfolding rule first
returns c =
    let text = c.args.c.text.now in
    list_ends text uses uses (Ok c.loop-k.k) c.loop-k.invariant
    (cardless text uses c.loop-k.cards (not_there DirectiveUse* 8 (there here) refl (is_other c.loop-k.k.sort c.eq.ensures c.loop-k-test.false) refl))
