use Prim.Native.Nat.{◌-◌}
use mathlib.Core.Path.{◌≡◌}
use Rattle.component.specs.Pushed.{place_of, alike_rows, rows_from, row_of}
use Rattle.from_ast_index.specs.Index.{same_stored}
use Rattle.component.proofs.Rows.find_alike.Given as goal

abbrev pub invariant-loop-place : goal.invariant-loop-place
invariant-loop-place l =
    place_of (alike_rows (same_stored l.collection.text.now l.collection.words.now) (row_of l.row)) l.start (rows_from l.self.words.now l.start (l.self.used - l.start)) ≡
    place_of (alike_rows (same_stored l.collection.text.now l.collection.words.now) (row_of l.row)) l.place (rows_from l.self.words.now l.place (l.self.used - l.place))
