use mathlib.Core.Path.{◌≡◌}
use lib.ListN.{drop}
use Rattle.definition.specs.Store.{document_rows}
use Rattle.store_reader.specs.Stored.{ignored_at, ignored_in}
use Rattle.store_reader.proofs.documents.ignored_at.Given as goal

-- The answer is that of the rows from this one on for the cards that are left.
abbrev pub invariant-loop-document : goal.invariant-loop-document
invariant-loop-document l = ignored_at l.words l.n ≡ ignored_in (drop l.document (document_rows l.words)) l.left
