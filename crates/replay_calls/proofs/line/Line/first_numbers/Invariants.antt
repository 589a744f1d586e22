use Rattle.std.proofs.Common.{◌≡◌, ℕ, ◌<◌, ◌+◌, length, get_or, Some}
use Rattle.replay_calls.specs.LineWords.{after_words, number_of, word_of}
use Rattle.replay_calls.proofs.line.Line.first_numbers.Given as goal

abbrev pub invariant-loop-number : goal.invariant-loop-number
invariant-loop-number g l = record {
  at : l.rest ≡ after_words (l.from + l.number-index) l.self.bytes.now;
  size : length l.number-items ≡ g.row.N;
  read : (i : ℕ) → i < l.number-index → number_of (word_of (l.from + i) l.self.bytes.now) ≡ Some (get_or l.number-items i 0);
}
