use mathlib.Core.Bool.{true, false}
use mathlib.Core.Path.{◌≡◌}
use borrow.Author.Rules.{rules}
use borrow.Author.Tests.{tests}
use Rattle.std.proofs.lemmas.Iterator.{first_from_Range}
use Rattle.definition.specs.LentRows.{is_type_row_named}
use Rattle.schema_rows.specs.Rows.{row_at, cards_of}
use Rattle.schema_rows.proofs.Rows.{first_found, found_inside}
use Rattle.schema_rows.proofs.Schema.find_type.Goals as goal

pub returns : goal.returns
returns c =
    let rows = c.args.self.rows.now in
    let named = is_type_row_named (cards_of c.args.self) c.args.name.now in
    let found = first_found named rows _ _ c.row_count.ensures
    (first_from_Range _ _ _ _ (λ i. named (row_at rows i) ≡ true) (λ i. named (row_at rows i) ≡ false) c.find.ensures.ran
    (λ x q k. search (rules, tests))
    (λ x q k. search (rules, tests))) in
    record { found = found; inside = found_inside _ rows _ found }
