use Rattle.std.proofs.Common.{◌≡◌}
use Rattle.replay_calls.specs.LineWords.{after_words}
use Rattle.replay_calls.proofs.line.Line.after.Given as goal

abbrev pub invariant-loop-k : goal.invariant-loop-k
invariant-loop-k l = l.rest ≡ after_words l._k l.self.bytes.now
