use native.Mathlib.Omega.{arith}
use borrow.Author.Rules.{rules}
use borrow.Author.Tests.{tests}
use Prim.Native.Nat.{◌/◌}
use lib.ListN.{length}
use Rattle.std.proofs.lemmas.Iterator.{YieldsList-from_range}
use Rattle.std.proofs.lemmas.Iterator.Consumers.{YieldsList-from_filter, count_from_yields_List}
use Rattle.definition.specs.Lookups.{is_part_named}
use Rattle.schema_rows.specs.Rows.{row_at, cards_of}
use Rattle.schema.proofs.Groups.{counted}
use Rattle.schema.proofs.implementers.Pairs.count_kind.Goals as goal

pub returns : goal.returns
returns c =
    let pairs = c.args.self.schema.rows.now in
    let test = is_part_named (cards_of c.args.self.schema) c.args.kind c.args.name.now in
    counted _ _ _ _ _
    (count_from_yields_List c.filter.result _ c.count.ensures.ran
    (YieldsList-from_filter _ (λ i. test (row_at pairs i)) (YieldsList-from_range 0 _ (length pairs / 3) c.filter.ensures.source (omega arith))
    c.filter.ensures.closure (λ x r q k. search (rules, tests))))
