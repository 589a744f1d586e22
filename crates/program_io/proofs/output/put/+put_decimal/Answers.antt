use mathlib.Core.Path.{ap}
use native.Mathlib.Omega.{arith}
use lib.ListN.{length, length-append}
use Rattle.program_io.proofs.Put.{then, decimal_one, decimal_more}
use Rattle.program_io.proofs.output.put.+put_decimal.Goals as goal

pub put_byte-requires : goal.put_byte-requires
put_byte-requires t c = let e = ap length (decimal_one c.args.n c.if-n-lt10.true) in omega arith

pub returns-then-n-lt10 : goal.returns-then-n-lt10
returns-then-n-lt10 t c = rw (decimal_one c.args.n c.if-n-lt10.true) c.put_byte.ensures

pub put_decimal-next-requires : goal.put_decimal-next-requires
put_decimal-next-requires t c =
    let e = simp length-append at (ap length (decimal_more c.args.n c.if-n-lt10.false)) in
    (omega arith, omega arith)

pub put_byte-requires-2 : goal.put_byte-requires-2
put_byte-requires-2 t c =
    let e = simp length-append at (ap length (decimal_more c.args.n c.if-n-lt10.false)) in
    let f = c.put_decimal-next.ensures.place in
    omega arith

pub returns : goal.returns
returns t c =
    rw (decimal_more c.args.n c.if-n-lt10.false)
    (then c.put_decimal-next.ensures c.put_byte-2.ensures)
