use Prim.Native.Nat.{ℕ, ◌+◌, ◌<◌}
use Rattle.numbering.specs.Named.{named}
use Rattle.numbering.specs.Table.{Other}
use Rattle.numbering.proofs.table.probe.Given as goal

abbrev pub invariant-loop-d : goal.invariant-loop-d
invariant-loop-d l = (e : ℕ) → e < l.d → Other (named l.hashed.names) l.table l.sought.name.now (l.start + e)
