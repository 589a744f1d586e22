use Prim.Native.Nat.{◌*◌}
use native.Mathlib.Omega.{arith}
use Rattle.program_io.specs.Listing.{rows_shown}
use Rattle.program_io.proofs.Put.{then, decimal_64, part_short}
use Rattle.program_io.proofs.output.put.put_rows.Goals as goal

pub put_decimal-at-requires : goal.put_decimal-at-requires
put_decimal-at-requires c =
    let p = c.put_bytes-at.ensures.place in
    let l = decimal_64 c.args.count c.ranges.count.fits in
    omega arith

pub put_byte-at-requires : goal.put_byte-at-requires
put_byte-at-requires c =
    let p = c.put_bytes-at.ensures.place in
    let q = c.put_decimal-at.ensures.place in
    let l = decimal_64 c.args.count c.ranges.count.fits in
    omega arith

pub put_lines-requires : goal.put_lines-requires
put_lines-requires c =
    let p = c.put_bytes-at.ensures.place in
    let q = c.put_decimal-at.ensures.place in
    let r = c.put_byte-at.ensures.place in
    let l = decimal_64 c.args.count c.ranges.count.fits in
    let s = part_short (3 * c.args.count) c.args.rows.now _ c.first_rows.ensures in
    omega arith

pub returns-clause-put : goal.returns-clause-put
unfolding rows_shown
returns-clause-put c =
    let e = c.put_bytes-at.ensures in
    let f = c.put_decimal-at.ensures in
    let g = c.put_byte-at.ensures in
    let h = c.put_lines.ensures in
    then e (then f (then g (rw c.first_rows.ensures at h.put)))

pub returns-clause-upper_bound : goal.returns-clause-upper_bound
returns-clause-upper_bound c =
    let l = decimal_64 c.args.count c.ranges.count.fits in
    let s = part_short (3 * c.args.count) c.args.rows.now _ c.first_rows.ensures in
    let p = c.put_bytes-at.ensures.place in
    let q = c.put_decimal-at.ensures.place in
    let r = c.put_byte-at.ensures.place in
    omega arith
