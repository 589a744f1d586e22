use native.Mathlib.Omega.{arith}
use Rattle.program_io.proofs.Put.{decimal_32, word_absent, word_number}
use Rattle.program_io.proofs.output.put.put_word.Goals as goal

pub returns-then-w-eq-ABSENT-clause-put : goal.returns-then-w-eq-ABSENT-clause-put
returns-then-w-eq-ABSENT-clause-put c = rw (word_absent c.args.w c.if-w-eq-ABSENT.true) c.put_byte.ensures

pub put_decimal-requires : goal.put_decimal-requires
put_decimal-requires c = let b = decimal_32 c.args.w c.ranges.w.fits in omega arith

pub returns-clause-put : goal.returns-clause-put
returns-clause-put c = rw (word_number c.args.w c.if-w-eq-ABSENT.false) c.put_decimal.ensures

pub returns-clause-upper_bound : goal.returns-clause-upper_bound
returns-clause-upper_bound c =
    let b = decimal_32 c.args.w c.ranges.w.fits in
    let p = c.put_decimal.ensures.place in
    omega arith
