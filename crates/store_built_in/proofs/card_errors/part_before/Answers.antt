use mathlib.Core.Path.{◌≡◌, refl}
use mathlib.Core.Bool.{true, false}
use Prim.Native.Nat.{◌-◌}
use borrow.Author.Rules.{rules}
use borrow.Author.Tests.{tests}
use Rattle.std.proofs.lemmas.Iterator.{cases_from_any, YieldsList-from_range}
use Rattle.ast.specs.Cards.{card_of}
use Rattle.store_built_in.specs.Fails.{alike_cards}
use Rattle.store_built_in.proofs.Fails.{numbered_card, any_told}
use Rattle.store_built_in.proofs.card_errors.part_before.Goals as goal

pub returns : goal.returns
returns c =
    let ws = c.args.document.cards.now in
    let p = (alike_cards c.args.document.text.now (card_of c.args.card)) in
    any_told p ws c.args.from c.args.to (c.args.to - c.args.from) _ refl
    (cases_from_any _ _ _ (λ i. p (numbered_card ws i) ≡ true) (λ i. p (numbered_card ws i) ≡ false) c.any.ensures.ran
    (YieldsList-from_range c.args.from c.args.to (c.args.to - c.args.from) (cc) refl) (λ x q k. search (rules, tests)) (λ x q k. search (rules, tests)))
