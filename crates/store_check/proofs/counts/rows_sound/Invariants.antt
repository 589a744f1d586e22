use Prim.Native.Nat.{◌*◌, ◌^◌, ◌≤◌}
use Rattle.store_check.proofs.Rows.{Passed}
use Rattle.store_check.proofs.counts.rows_sound.Given as goal

abbrev pub invariant-loop-document : goal.invariant-loop-document
invariant-loop-document l = record {
  few_bytes : l.at ≤ 2 ^ 32 * l.document;
  few_cards : l.cards ≤ 2 ^ 32 * l.document;
  passed : Passed l.words l.at l.cards l.ignored l.document;
}
