use Rattle.std.proofs.Common.{rules}
use Rattle.std.proofs.lemmas.Grind.{put_two}
use Rattle.program_io.specs.Listing.{line}
use Rattle.program_io.proofs.Text.{more_lines, all_lines}
use Rattle.program_io.proofs.output.shown.LinesDisplay.fmt.Goals as goal

pub loop-a-preserved : goal.loop-a-preserved
unfolding line
loop-a-preserved g c =
    λ p. put_two _ _ _ _ _ _ _ (c.loop-a.invariant p) (search rules) (more_lines c.as_chunks.result.0.now c.loop-a.a-index c.loop-a-test.true)

pub returns-clause-writes : goal.returns-clause-writes
returns-clause-writes g c =
    λ p _. rw (all_lines c.args.self.now.0.now c.as_chunks.result.0.now c.loop-a.a-index c.as_chunks.ensures.front c.loop-a-test.false) (c.loop-a.invariant p)
