use Rattle.from_ast_index.specs.Index.{StartsAre}
use Rattle.from_ast_indexing.proofs.spans.index_starts.Given as goal

-- The extensions from `i` on stand at or after their owners' starts.
abbrev pub invariant-loop-i : goal.invariant-loop-i
invariant-loop-i l = StartsAre l.owners l.extensions l.starts l.i
