use Rattle.from_ast_indexing.specs.Entering.{FirstsAre, SameSlices}
use Rattle.from_ast_indexing.specs.Types.{TypesAre}
use Rattle.from_ast_indexing.proofs.types.index_types.Given as goal

-- The types and owners that the headings before `card` make.
abbrev pub invariant-loop-card : goal.invariant-loop-card
invariant-loop-card l = record {
  types : TypesAre l.collection.text.now l.collection.words.now l.headings l.owners l.types l.card-index;
  firsts : FirstsAre l.collection.text.now l.collection.words.now l.types;
  same : SameSlices l.initial.types l.types;
}
