use mathlib.Core.Path.{◌≡◌}
use lib.ListN.{drop}
use Rattle.component.specs.Pushed.{filled_of, pushed}
use Rattle.from_ast_index.specs.Index.{same_stored}
use Rattle.component.specs.RowsByCards.{directive_rows_of, directive_rows_at}
use Rattle.component.proofs.Sticky.{Extending}
use Rattle.from_ast_rows.proofs.directives.directive_definitions.Given as goal

-- The headings from `card` on are left to extend the list by.
abbrev pub invariant-loop-card : goal.invariant-loop-card
invariant-loop-card l = record {
  same_slice : l.rows.words.ghost_name ≡ l.initial.rows.words.ghost_name;
  left : Extending (same_stored l.collection.text.now l.collection.words.now) l.start
      (directive_rows_of l.collection.text.now l.collection.words.now l.headings) (drop l.card-index l.headings) (filled_of l.rows)
      (pushed (directive_rows_at l.collection.text.now l.collection.words.now l.headings) (filled_of l.initial.rows));
}
