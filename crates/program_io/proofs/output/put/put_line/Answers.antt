use Rattle.program_io.specs.Listing.{line}
use Rattle.program_io.proofs.Put.{then}
use Rattle.program_io.proofs.output.put.put_line.Goals as goal

pub returns-clause-put : goal.returns-clause-put
unfolding line
returns-clause-put c =
    then
    c.put_word-at.ensures.put
    (then c.put_byte-at.ensures
    (then c.put_word-at-2.ensures.put
    (then c.put_byte-at-2.ensures (then c.put_word-at-3.ensures.put c.put_byte.ensures))))
