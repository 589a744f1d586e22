use mathlib.Core.Path.{◌≡◌}
use mathlib.Core.Bool.{true, false}
use borrow.Author.Rules.{rules}
use borrow.Author.Tests.{tests}
use Rattle.std.proofs.lemmas.Iterator.{first_from_Range}
use Rattle.definition.specs.Refusals.{is_barred}
use Rattle.store_built_in.proofs.Fails.{numbered_card}
use Rattle.store_built_in.proofs.Searches.{barred_told}
use Rattle.store_built_in.proofs.first_barred.Goals as goal

pub returns : goal.returns
returns c =
    let ws = c.args.cards.now in
    barred_told ws _
    (first_from_Range _ _ _ _ (λ i. is_barred (numbered_card ws i).kind ≡ true) (λ i. is_barred (numbered_card ws i).kind ≡ false) c.find.ensures.ran
    (λ x q k. search (rules, tests)) (λ x q k. search (rules, tests)))
