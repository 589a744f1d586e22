use Rattle.std.proofs.Common.{rules, arith}
use Rattle.program_io.proofs.Text.{refused_printed}
use Rattle.program_io.proofs.output.shown.RefusalLineDisplay.fmt.Goals as goal

pub returns-clause-writes : goal.returns-clause-writes
returns-clause-writes g c =
    rw (← c.number-number.ensures, refused_printed c.number-number.result c.args.self.now.0.place (omega arith) (omega arith)) (search rules)
