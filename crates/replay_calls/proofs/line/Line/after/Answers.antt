use Rattle.std.proofs.Common.{sym, ◌∙◌}
use Rattle.replay_calls.proofs.LineWords.{after_none, after_more}
use Rattle.replay_calls.proofs.line.Line.after.Goals as goal

pub loop-k-init : goal.loop-k-init
loop-k-init c = sym (after_none c.args.self.now.bytes.now)

pub loop-k-preserved : goal.loop-k-preserved
loop-k-preserved c = c.cut_word.ensures.rest ∙ after_more c.loop-k._k c.args.self.now.bytes.now c.loop-k.rest.now c.loop-k.invariant
