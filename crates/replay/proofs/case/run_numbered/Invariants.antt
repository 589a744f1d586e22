use Rattle.std.proofs.Common.{◌≤◌, ◌+◌}
use Rattle.replay.proofs.case.run_numbered.Given as goal

-- What is counted stands for lines that have passed.
abbrev pub invariant-loop-number : goal.invariant-loop-number
invariant-loop-number g l =
    let lines = goal.iterator-loop-number g in
    lines.can_next l.number-iterator × lines.is_finite l.number-iterator
    × (l.tally.calls + lines.remaining l.number-iterator ≤ lines.remaining l.initial.number-iterator)
    × (l.tally.failures + lines.remaining l.number-iterator ≤ lines.remaining l.initial.number-iterator)
