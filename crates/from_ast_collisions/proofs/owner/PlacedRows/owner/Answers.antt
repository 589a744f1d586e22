use native.Mathlib.Omega.{arith}
use mathlib.Core.Path.{◌∙◌, ap}
use lib.ListN.{drop, length-drop}
use lib.Seq.{take_all}
use Rattle.from_ast_collisions.specs.Earlier.{rows_under}
use Rattle.from_ast_collisions.proofs.Places.{search_from}
use Rattle.from_ast_collisions.proofs.owner.PlacedRows.owner.Goals as goal

pub invariant_of-result : goal.invariant_of-result
invariant_of-result c =
    let a = c.args in
    record {
      under_it =
          c.rows_under.ensures
          ∙ (ap (rows_under a.kind a.card) (take_all _ (drop c.word-from.result a.self.now.rows.now) (rw length-drop (omega arith)))
          ∙ search_from _ _ _ _ _ a.self.now.placed c.requires c.word-from.ensures);
    }
