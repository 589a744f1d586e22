use mathlib.Core.Path.{◌≡◌, refl, sym, ◌∙◌}
use mathlib.Core.Bool.{true, false}
use Prim.Native.Nat.{◌-◌}
use borrow.Author.Rules.{rules}
use borrow.Author.Tests.{tests}
use Rattle.std.proofs.lemmas.Iterator.{cases_from_any, YieldsList-from_range}
use Rattle.ast.specs.Cards.{card_of}
use Rattle.definition.specs.Headings.{name_of}
use Rattle.store_built_in.specs.Fails.{type_named}
use Rattle.store_built_in.proofs.Fails.{numbered_card, any_told, any_all}
use Rattle.store_built_in.proofs.card_errors.type_before.Goals as goal

pub returns : goal.returns
returns c =
    let ws = c.args.document.cards.now in
    let p = (type_named c.args.document.text.now (name_of c.args.document.text.now (card_of c.args.card))) in
    any_told p ws 0 c.args.to (c.args.to - 0) _ refl
    (cases_from_any _ _ _ (λ i. p (numbered_card ws i) ≡ true) (λ i. p (numbered_card ws i) ≡ false) c.any.ensures.ran
    (YieldsList-from_range 0 c.args.to (c.args.to - 0) (cc) refl) (λ x q k. search (rules, tests)) (λ x q k. search (rules, tests)))
    ∙ sym (any_all p ws c.args.to)
