use Rattle.program_io.specs.Listing.{errors_shown}
use Rattle.program_io.proofs.Put.{then}
use Rattle.program_io.proofs.output.put.put_errors.Goals as goal

pub returns : goal.returns
unfolding errors_shown
returns c =
    then c.put_counts-at.ensures.put (rw c.first_rows.ensures at c.put_lines.ensures.put)
