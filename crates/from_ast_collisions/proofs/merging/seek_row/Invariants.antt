use Prim.Native.Nat.{◌+◌, ◌*◌, ◌≤◌}
use mathlib.Core.Path.{◌≡◌}
use lib.ListN.{length, drop}
use Rattle.from_ast_collisions.specs.Earlier.{row_offset}
use Rattle.from_ast_collisions.proofs.merging.seek_row.Given as goal

-- The row begins in what is left where it begins among all rows, or behind the rows that were passed.
abbrev pub invariant-loop-n : goal.invariant-loop-n
invariant-loop-n l =
    (l.n-iterator.iter.size ≡ 3)
    × (3 * l.n-iterator.count ≤ length l.left)
    × (l.n-iterator.iter.rest.now ≡ drop (3 * l.n-iterator.count) l.left)
    × (row_offset l.what l.card l.left ≡ 3 * l.n-iterator.count + row_offset l.what l.card l.n-iterator.iter.rest.now)
