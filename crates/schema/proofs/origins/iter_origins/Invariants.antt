use Rattle.definition.specs.Lookups.{origin_list}
use Rattle.schema_rows.specs.Rows.{rows_of}
use Rattle.word_list.proofs.Filling.{Filling}
use Rattle.schema.proofs.OriginsLaws.{origins_left}
use Rattle.schema.proofs.origins.iter_origins.Given as goal

-- What is listed, and then the origins from row i on, are all origins.
abbrev pub invariant-loop-i : goal.invariant-loop-i
invariant-loop-i l = Filling l.initial.origins l.origins (origins_left l.block.rows.now l.i) (origin_list (rows_of l.schema))
