use Rattle.program_io.specs.Listing.{refused}
use Rattle.program_io.proofs.output.put.put_refusal.Goals as goal

pub returns : goal.returns
unfolding refused
returns c = c.put_counts.ensures.put
