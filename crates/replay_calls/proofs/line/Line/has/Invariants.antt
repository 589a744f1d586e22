use Rattle.std.proofs.Common.{◌≡◌, ℕ, ◌<◌, get_or, Some}
use Rattle.replay_calls.specs.LineWords.{after_words, number_of, word_of}
use Rattle.replay_calls.proofs.line.Line.has.Given as goal

abbrev pub invariant-loop-expected : goal.invariant-loop-expected
invariant-loop-expected l = record {
  at : l.rest ≡ after_words l.expected-index (after_words l.from l.self.bytes.now);
  read : (i : ℕ) → i < l.expected-index → number_of (word_of i (after_words l.from l.self.bytes.now)) ≡ Some (get_or l.list i 0);
}
