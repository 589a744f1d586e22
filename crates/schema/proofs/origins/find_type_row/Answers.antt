use mathlib.Core.Bool.{true, false}
use mathlib.Core.Path.{◌≡◌}
use borrow.Author.Rules.{rules}
use borrow.Author.Tests.{tests}
use Rattle.std.proofs.lemmas.Iterator.{first_from_Range}
use Rattle.definition.specs.LentRows.{is_type_row}
use Rattle.schema_rows.specs.Rows.{row_at}
use Rattle.schema_rows.proofs.Rows.{first_found}
use Rattle.schema.proofs.origins.find_type_row.Goals as goal

pub returns : goal.returns
unfolding is_type_row
returns c =
    let rows = c.args.schema.rows.now in
    first_found is_type_row rows _ _ c.row_count.ensures
    (first_from_Range _ _ _ _ (λ i. is_type_row (row_at rows i) ≡ true) (λ i. is_type_row (row_at rows i) ≡ false) c.find.ensures.ran
    (λ x q k. search (rules, tests))
    (λ x q k. search (rules, tests)))
