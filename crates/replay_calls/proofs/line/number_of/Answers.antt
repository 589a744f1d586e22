use Rattle.std.proofs.Common.{◌∙◌}
use Rattle.replay_calls.proofs.LineWords.{number_empty, number_dash, number_digits}
use Rattle.replay_calls.proofs.line.number_of.Goals as goal

pub returns-then-eq : goal.returns-then-eq
returns-then-eq c = number_dash c.args.word.now c.as_slice.result.now c.as_slice.ensures c.if-eq.ensures

pub returns-then-is_empty : goal.returns-then-is_empty
returns-then-is_empty c = number_empty c.args.word.now c.if-is_empty.ensures

pub returns : goal.returns
returns c = c.digits.ensures ∙ number_digits c.args.word.now c.as_slice.result.now c.as_slice.ensures c.if-eq.ensures c.if-is_empty.ensures
