use Prim.Native.Nat.{◌≤◌, ◌+◌, ◌-◌, ◌*◌}
use mathlib.Core.Path.{◌≡◌}
use lib.ListN.{length, drop}
use Rattle.program_io.specs.Listing.{lines}
use Rattle.program_io.proofs.Put.{Left}
use Rattle.program_io.proofs.output.put.put_lines.Given as goal

abbrev pub invariant-loop-i : goal.invariant-loop-i
invariant-loop-i l =
    (l.i ≤ length l.rows) × (length l.out ≡ length l.initial.out) × (l.end ≤ l.at + 11 * l.i) × Left l.initial.out l.at (lines l.rows) l.out l.end (lines (drop l.i l.rows))

abbrev pub decreases-loop-i : goal.decreases-loop-i
decreases-loop-i l = length l.rows - l.i
