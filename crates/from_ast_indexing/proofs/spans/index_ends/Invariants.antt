use Rattle.from_ast_index.specs.Index.{EndsAre}
use Rattle.from_ast_indexing.proofs.spans.index_ends.Given as goal

-- The first `i` extensions stand before their owners' ends.
abbrev pub invariant-loop-i : goal.invariant-loop-i
invariant-loop-i l = EndsAre l.owners l.extensions l.ends l.i
