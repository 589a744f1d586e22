use native.Mathlib.Omega.{arith}
use Rattle.program_io.proofs.Put.{left_turn, left_none, lines_more, lines_end}
use Rattle.program_io.proofs.output.put.put_lines.Goals as goal

pub loop-i-preserved : goal.loop-i-preserved
loop-i-preserved c =
    let a = c.loop-i in
    let rows = c.args.rows.now in
    let w = c.put_line-end.ensures in
    (omega arith, omega arith, omega arith, left_turn (rw (lines_more rows a.i (omega arith)) at a.invariant.3) w.put)

pub returns-clause-put : goal.returns-clause-put
returns-clause-put c =
    let a = c.loop-i in
    left_none (rw (lines_end c.args.rows.now a.i (omega arith)) at a.invariant.3)
