use Rattle.std.proofs.Common.{rules, arith}
use Rattle.program_io.proofs.Text.{refusal_shown, drawn_shown}
use Rattle.program_io.proofs.output.shown.ListingDisplay.fmt.Goals as goal

pub returns-in-Err-clause-writes : goal.returns-in-Err-clause-writes
returns-in-Err-clause-writes g c =
    rw (refusal_shown c.args.self.now.drawing c.in-Err.refusal c.args.self.now.rows.now c.args.self.now.errors.now c.in-Err.is) (search rules)

pub returns-clause-writes : goal.returns-clause-writes
returns-clause-writes g c =
    rw (drawn_shown c.args.self.now.drawing c.in-Ok.drawn c.args.self.now.rows.now c.args.self.now.errors.now c.first_rows.result.now c.first_rows-2.result.now
    c.in-Ok.is (omega arith) (omega arith) (omega arith) c.first_rows.ensures c.first_rows-2.ensures)
    (search rules)
