use mathlib.Core.Bool.{true, false}
use mathlib.Core.Path.{◌≡◌}
use borrow.Author.Rules.{rules}
use borrow.Author.Tests.{tests}
use Rattle.std.proofs.lemmas.Iterator.{first_from_Range}
use Rattle.definition.specs.LentRows.{is_row_named}
use Rattle.schema_rows.specs.Rows.{row_at, cards_of}
use Rattle.schema_rows.proofs.Rows.{first_found, row_named}
use Rattle.schema.proofs.implementers.Pairs.find.Goals as goal

pub returns : goal.returns
returns c =
    let pairs = c.args.self.schema.rows.now in
    let named = is_row_named (cards_of c.args.self.schema) c.args.name.now in
    first_found named pairs _ _ c.row_count.ensures
    (first_from_Range _ _ _ _ (λ i. named (row_at pairs i) ≡ true) (λ i. named (row_at pairs i) ≡ false) c.find.ensures.ran
    (λ x q k. search (rules, tests, row_named))
    (λ x q k. search (rules, tests, row_named)))
