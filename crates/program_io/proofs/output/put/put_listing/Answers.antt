use Rattle.program_io.proofs.Put.{then, listing_refused, listing_built}
use Rattle.program_io.proofs.output.put.put_listing.Goals as goal

pub returns-then-number-ne0 : goal.returns-then-number-ne0
returns-then-number-ne0 c =
    let a = c.args in
    rw (listing_refused a.d a.rows.now a.errors.now c.if-number-ne0.true) c.put_refusal.ensures

pub returns : goal.returns
returns c =
    let a = c.args in
    rw (listing_built a.d a.rows.now a.errors.now
    c.if-number-ne0.false)
    (then c.put_rows-at.ensures.put c.put_errors.ensures)
