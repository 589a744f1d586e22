use native.Mathlib.Omega.{arith}
use Rattle.program_io.specs.Listing.{counts}
use Rattle.program_io.proofs.Put.{then, decimal_64}
use Rattle.program_io.proofs.output.put.put_counts.Goals as goal

pub put_decimal-at-requires : goal.put_decimal-at-requires
put_decimal-at-requires c =
    let p = c.put_bytes-at.ensures.place in
    let l = decimal_64 c.args.a c.ranges.a.fits in
    omega arith

pub put_byte-at-requires : goal.put_byte-at-requires
put_byte-at-requires c =
    let p = c.put_bytes-at.ensures.place in
    let q = c.put_decimal-at.ensures.place in
    let l = decimal_64 c.args.a c.ranges.a.fits in
    omega arith

pub put_decimal-at-requires-2 : goal.put_decimal-at-requires-2
put_decimal-at-requires-2 c =
    let p = c.put_bytes-at.ensures.place in
    let q = c.put_decimal-at.ensures.place in
    let r = c.put_byte-at.ensures.place in
    let l = decimal_64 c.args.a c.ranges.a.fits in
    let m = decimal_64 c.args.b c.ranges.b.fits in
    omega arith

pub put_byte-requires : goal.put_byte-requires
put_byte-requires c =
    let p = c.put_bytes-at.ensures.place in
    let q = c.put_decimal-at.ensures.place in
    let r = c.put_byte-at.ensures.place in
    let s = c.put_decimal-at-2.ensures.place in
    let l = decimal_64 c.args.a c.ranges.a.fits in
    let m = decimal_64 c.args.b c.ranges.b.fits in
    omega arith

pub returns-clause-put : goal.returns-clause-put
unfolding counts
returns-clause-put c =
    let e = c.put_bytes-at.ensures in
    let f = c.put_decimal-at.ensures in
    let g = c.put_byte-at.ensures in
    let h = c.put_decimal-at-2.ensures in
    let i = c.put_byte.ensures in
    then e (then f (then g (then h i)))

pub returns-clause-upper_bound : goal.returns-clause-upper_bound
returns-clause-upper_bound c =
    let l = decimal_64 c.args.a c.ranges.a.fits in
    let m = decimal_64 c.args.b c.ranges.b.fits in
    let p = c.put_bytes-at.ensures.place in
    let q = c.put_decimal-at.ensures.place in
    let r = c.put_byte-at.ensures.place in
    let s = c.put_decimal-at-2.ensures.place in
    let t = c.put_byte.ensures.place in
    omega arith
