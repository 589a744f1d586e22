use mathlib.Core.Path.{◌≡◌}
use mathlib.Core.List.{[]}
use Prim.Native.Nat.{◌+◌, ◌≤◌}
use lib.ListN.{length}
use Rattle.definition.specs.Lookups.{same_interface}
use Rattle.schema_rows.specs.Rows.{cards_of, rows_of}
use Rattle.schema.specs.Gather.{news}
use Rattle.schema.specs.Groups.{pair_groups}
use Rattle.word_list.proofs.Filling.{Filling}
use Rattle.schema.proofs.AllGroups.{groups_left, count_left}
use Rattle.schema.proofs.implementers.Pairs.write_groups.Given as goal

-- What is written, and then the groups that pairs from i on open, are all groups.
abbrev pub invariant-loop-i : goal.invariant-loop-i
invariant-loop-i l =
    let cs = cards_of l.self.schema in
    let pairs = l.self.schema.rows.now in
    (l.count ≤ l.i)
    × (l.count + count_left cs pairs l.i ≡ length (news (same_interface cs) [] (rows_of l.self.schema)))
    × Filling l.initial.groups l.groups (groups_left cs pairs l.i) (pair_groups cs (rows_of l.self.schema))
