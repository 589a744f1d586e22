use mathlib.Core.Path.{◌≡◌}
use Prim.Native.Nat.{◌<◌, ◌/◌}
use lib.ListN.{length, drop}
use Rattle.std.specs.Prelude.{None, IfSome}
use Rattle.definition.specs.LentRows.{is_type_row_named}
use Rattle.definition.specs.Lookups.{is_part_named}
use Rattle.schema_rows.specs.Rows.{cards_of, rows_of}
use Rattle.schema_rows.specs.Search.{part_from, located_from}
use Rattle.schema_rows.proofs.SearchLaws.{located}
use Rattle.schema_rows.proofs.Schema.find_part.Given as goal

-- Both loops' invariants: what is sought in all rows is what is sought from the row at hand on.
abbrev pub invariant-loop-j : goal.invariant-loop-j
invariant-loop-j l =
    let meant = is_type_row_named (cards_of l.self) l.owner_name in
    let hit = is_part_named (cards_of l.self) l.kind l.part_name in
    (l.part ≡ None)
    × IfSome l.owner (λ i. i < length l.self.rows.now / 3)
    × (located_from meant hit 0 (rows_of l.self) ≡ located l.owner (part_from hit l.j (drop l.j (rows_of l.self))))

abbrev pub invariant-search : goal.invariant-search
invariant-search l =
    let meant = is_type_row_named (cards_of l.self) l.owner_name in
    let hit = is_part_named (cards_of l.self) l.kind l.part_name in
    (l.owner ≡ None)
    × (l.part ≡ None)
    × (located_from meant hit 0 (rows_of l.self) ≡ located_from meant hit l.i (drop l.i (rows_of l.self)))
