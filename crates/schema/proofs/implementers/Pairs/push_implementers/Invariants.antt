use lib.ListN.{drop}
use Rattle.schema_rows.specs.Rows.{cards_of, rows_of}
use Rattle.schema.specs.Groups.{implementers_named}
use Rattle.word_list.proofs.Filling.{Filling}
use Rattle.schema.proofs.implementers.Pairs.push_implementers.Given as goal

-- What was added, and then the types from pair i on, are all types.
abbrev pub invariant-loop-i : goal.invariant-loop-i
invariant-loop-i l =
    let cs = cards_of l.self.schema in
    let pairs = rows_of l.self.schema in
    Filling l.initial.groups l.groups (implementers_named cs (drop l.i pairs) l.name) (implementers_named cs pairs l.name)
