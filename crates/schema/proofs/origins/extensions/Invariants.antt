use lib.Dec.{eqb}
use Rattle.definition.specs.Lists.{filter, firsts}
use Rattle.definition.specs.Lookups.{is_card, extension_list}
use Rattle.schema_rows.specs.Rows.{rows_of}
use Rattle.word_list.specs.Listed.{listed_in}
use Rattle.word_list.proofs.Filling.{Filling}
use Rattle.schema.proofs.OriginsLaws.{origins_left}
use Rattle.schema.proofs.origins.extensions.Given as goal

-- What is listed, and then the new ones among the origins from row i on, are all extensions.
abbrev pub invariant-loop-i : goal.invariant-loop-i
invariant-loop-i l =
    Filling l.initial.extensions l.extensions (firsts eqb (listed_in l.extensions) (filter is_card (origins_left l.block.rows.now l.i))) (extension_list (rows_of l.schema))
