use Rattle.std.proofs.Common.{◌∙◌}
use Rattle.replay_calls.proofs.LineWords.{word_after}
use Rattle.replay_calls.proofs.line.Line.word.Goals as goal

pub returns : goal.returns
returns c = c.cut_word.ensures.word ∙ word_after c.args.k c.args.self.now.bytes.now c.after.result.now c.after.ensures
