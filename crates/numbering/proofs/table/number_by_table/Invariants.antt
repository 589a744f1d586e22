use Prim.Native.Nat.{ℕ, ◌<◌, ◌-◌}
use mathlib.Core.Path.{◌≡◌}
use lib.ListN.{length, get_or}
use Rattle.numbering.specs.Named.{named, count}
use Rattle.numbering.specs.Numbers.{representative, Rest}
use Rattle.numbering.specs.Table.{most_probes, Held}
use Rattle.numbering.proofs.table.number_by_table.Given as goal

abbrev pub invariant-loop-card : goal.invariant-loop-card
invariant-loop-card l =
    (length l.table ≡ length l.initial.table)
    × Held (named l.hashed.names) (length l.table - most_probes) l.card l.table
    × ((i : ℕ) → i < l.card → get_or l.numbers i 0 ≡ representative (named l.hashed.names) i)
    × Rest (count l.hashed.names) l.initial.numbers l.numbers
