use mathlib.Core.Path.{◌≡◌}
use lib.ListN.{take, drop}
use Rattle.definition.specs.Store.{account_in}
use Rattle.definition.specs.LentRows.{rows_refusal}
use Rattle.schema_rows.specs.Places.{kind_of, place_of}
use Rattle.schema_rows.specs.Rows.{cards_of, rows_of}
use Rattle.schema_rows.specs.Walk.{rest_passes, Marked}
use Rattle.schema_rows.proofs.Walk.{walk_number}
use Rattle.schema_rows.proofs.Schema.check_rows.Given as goal

-- All rows pass exactly where those from row i on do, and the marks tell the cards of the rows before.
abbrev pub invariant-loop-i : goal.invariant-loop-i
invariant-loop-i l =
    Marked l.marks.marks (take l.i (rows_of l.self))
    × (rows_refusal (account_in l.self.text.now l.self.words.now).documents l.self.rows.now
    ≡ walk_number (rest_passes (cards_of l.self) (rows_of l.self) (kind_of l.place) (place_of l.place) (take l.i (rows_of l.self)) (drop l.i (rows_of l.self))))
