use mathlib.Core.List.{[]}
use lib.ListN.{take, drop}
use Rattle.from_ast_collisions.specs.ErrorsByCards.{reading_errors_at}
use Rattle.from_ast_collisions.proofs.Push.{Going}
use Rattle.from_ast_errors.specs.Views.{owned_view}
use Rattle.from_ast_errors.specs.Written.{schema_card}
use Rattle.from_ast_errors.proofs.reading.reading_errors.Given as goal

abbrev pub invariant-loop-k : goal.invariant-loop-k
invariant-loop-k l =
    Going l.initial.errors l.errors
    (reading_errors_at (owned_view l.finished.collection l.finished.owners.now) l.finished.rows.rows.now (schema_card l.finished.rows.rows.now) l.extensions.all.now [] l.headings)
    (reading_errors_at (owned_view l.finished.collection l.finished.owners.now) l.finished.rows.rows.now (schema_card l.finished.rows.rows.now) l.extensions.all.now
    (take l.k l.headings) (drop l.k l.headings))
