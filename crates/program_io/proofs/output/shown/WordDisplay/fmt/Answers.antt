use Rattle.std.proofs.Common.{rules, arith}
use Rattle.program_io.proofs.Text.{word_absent, word_number}
use Rattle.program_io.proofs.output.shown.WordDisplay.fmt.Goals as goal

pub returns-then-word-clause-writes : goal.returns-then-word-clause-writes
returns-then-word-clause-writes g c = rw (word_absent c.args.self.now.0 c.if-word.true) (search rules)

pub returns-clause-writes : goal.returns-clause-writes
returns-clause-writes g c = rw (word_number c.args.self.now.0 (omega arith) c.if-word.false) (search rules)
