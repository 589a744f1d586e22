use Prim.Native.Nat.{◌*◌, ◌≤◌}
use lib.ListN.{length}
use Rattle.from_ast_collisions.specs.Placing.{PlacedFrom}
use Rattle.from_ast_collisions.proofs.placing.place_rows.Given as goal

abbrev pub invariant-loop-n : goal.invariant-loop-n
invariant-loop-n l = (3 * l.n ≤ length l.rows) × PlacedFrom l.rows l.places (3 * l.n)
