use native.Mathlib.Omega.{arith}
use Rattle.program_io.specs.Listing.{file_name}
use Rattle.program_io.proofs.Put.{then, decimal_64}
use Rattle.program_io.proofs.output.put.put_name.Goals as goal

pub put_decimal-at-requires : goal.put_decimal-at-requires
put_decimal-at-requires c =
    let p = c.put_bytes-at.ensures.place in
    let q = c.put_bytes-at-2.ensures.place in
    let l = decimal_64 c.args.n c.ranges.n.fits in
    omega arith

pub put_bytes-requires : goal.put_bytes-requires
put_bytes-requires c =
    let p = c.put_bytes-at.ensures.place in
    let q = c.put_bytes-at-2.ensures.place in
    let s = c.put_decimal-at.ensures.place in
    let l = decimal_64 c.args.n c.ranges.n.fits in
    omega arith

pub returns-clause-put : goal.returns-clause-put
unfolding file_name
returns-clause-put c =
    let d = c.put_bytes-at.ensures in
    let e = c.put_bytes-at-2.ensures in
    let f = c.put_decimal-at.ensures in
    let g = c.put_bytes.ensures in
    then d (then e (then f g))

pub returns-clause-upper_bound : goal.returns-clause-upper_bound
returns-clause-upper_bound c =
    let l = decimal_64 c.args.n c.ranges.n.fits in
    let o = c.put_bytes-at.ensures.place in
    let p = c.put_bytes-at-2.ensures.place in
    let q = c.put_decimal-at.ensures.place in
    let r = c.put_bytes.ensures.place in
    omega arith
