use native.Mathlib.Omega.{arith}
use mathlib.Core.Path.{sym, ◌∙◌, ap}
use Rattle.definition.specs.Cards.{is_part}
use Rattle.from_ast_collisions.proofs.Push.{next_on}
use Rattle.from_ast_collisions.proofs.Merge.{merge_next}
use Rattle.from_ast_collisions.proofs.merging.merge_errors.Goals as goal

pub loop-part-preserved : goal.loop-part-preserved
loop-part-preserved c =
    next_on _ _ _ _ _ _ _ (merge_next _ _ _ _ _ c.loop-part.part (omega (arith, c.cards_used-part-end.ensures))
    (ap is_part (sym c.kind.ensures) ∙ (sym c.is_part.ensures ∙ c.if-not-is_part.false)))
    c.push_collision.ensures c.loop-part.invariant
