use Rattle.std.proofs.Common.{rules}
use Rattle.replay_calls.proofs.LineWords.{spaces_count}
use Rattle.replay_calls.proofs.line.Line.count_words.Goals as goal

pub returns : goal.returns
returns c = rw (spaces_count c.args.self.now.bytes.now) (search rules)
