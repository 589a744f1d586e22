use Prim.Native.Nat.{◌≤◌}
use Rattle.from_ast_indexing.specs.Entering.{cards_of, FirstsAre, SameSlices}
use Rattle.from_ast_indexing.specs.Extensions.{OrphansAre}
use Rattle.from_ast_indexing.proofs.extensions.first_orphans.Given as goal

-- The first orphans that the extensions before `card` make.
abbrev pub invariant-loop-card : goal.invariant-loop-card
invariant-loop-card l = record {
  orphans : OrphansAre l.collection.text.now l.collection.words.now l.owners l.extensions (cards_of l.firsts) l.card-index;
  len_most : l.firsts.len ≤ l.card-index;
  firsts : FirstsAre l.collection.text.now l.collection.words.now l.firsts;
  same : SameSlices l.initial.firsts l.firsts;
}
