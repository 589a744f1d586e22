-- How much a case counts at most: a line has at least one byte.
use Rattle.std.specs.Prelude.{ℕ, ◌≤◌}
use Rattle.replay.specs.declared.report.Tally.{Tally}

-- The bytes that a file of calls may have, `FILE_CAPACITY` of src/case.rt.
abbrev pub calls_capacity : ℕ
calls_capacity = 262144

pub record Few (most : ℕ) (t : Tally) : Type 0 where
  pub calls : t.calls ≤ most
  pub failures : t.failures ≤ most
