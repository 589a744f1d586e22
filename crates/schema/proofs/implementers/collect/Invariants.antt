use Rattle.definition.specs.Lookups.{all_implementing}
use Rattle.schema_rows.specs.Rows.{cards_of, rows_of}
use Rattle.word_list.proofs.Filling.{Filling}
use Rattle.schema.specs.Gather.{pair_words, pairs_left}
use Rattle.schema.specs.Owners.{LastSeen, owner_seen}
use Rattle.schema.proofs.implementers.collect.Given as goal

-- What is written, and then what is gathered from row i on, is all that is gathered.
abbrev pub invariant-loop-i : goal.invariant-loop-i
invariant-loop-i l =
    let cs = cards_of l.schema in
    let rows = l.schema.rows.now in
    LastSeen rows l.owner l.i
    × Filling l.initial.pairs l.pairs (pairs_left cs rows (owner_seen cs rows l.owner l.i) l.i) (pair_words (all_implementing cs (rows_of l.schema)))
