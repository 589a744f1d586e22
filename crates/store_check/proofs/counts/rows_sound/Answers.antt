use mathlib.Core.Path.{sym, ◌∙◌}
use native.Mathlib.Omega.{arith}
use Rattle.definition.specs.Store.{document_count}
use Rattle.store_reader.specs.Rows.{row_of}
use Rattle.store_check.proofs.Rows.{follows}
use Rattle.store_check.proofs.counts.rows_sound.Goals as goal

pub loop-document-preserved : goal.loop-document-preserved
unfolding document_count
loop-document-preserved c = record {
  few_bytes = omega arith;
  few_cards = omega arith;
  passed = follows _ _ _ _ _ (row_of c.at-row.result) c.at-row.ensures (omega arith) c.loop-document.invariant.passed
      (sym c.row_follows.ensures ∙ c.if-not-row_follows.false);
}
