use mathlib.Core.Path.{sym, ◌∙◌}
use Rattle.ast_check.proofs.Walk.{faults_hit}
use Rattle.ast_check.proofs.Told.{numbered}
use Rattle.ast_check.proofs.check_cards.Goals as goal

pub returns-in-Err : goal.returns-in-Err
returns-in-Err c =
    let hit = faults_hit _ _ _ _ _ _ _ _ c.loop-place-test.true c.card_at-card.ensures c.in-Err.ensures (numbered c.in-Err.refusal) in
    sym (c.loop-place.invariant ∙ hit)
