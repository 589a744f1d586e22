use Rattle.std.proofs.Common.{◌≡◌, drop}
use Rattle.replay_calls.specs.LineWords.{digits_from}
use Rattle.replay_calls.proofs.line.digits.Given as goal

abbrev pub invariant-loop-b : goal.invariant-loop-b
invariant-loop-b l = digits_from l.n (drop l.b-index l.word) ≡ digits_from 0 l.word
