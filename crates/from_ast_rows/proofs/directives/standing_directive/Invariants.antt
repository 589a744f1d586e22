use mathlib.Core.Path.{◌≡◌}
use lib.ListN.{drop}
use Rattle.std.specs.Option.{unwrap_or}
use Rattle.definition.specs.Lists.{filter}
use Rattle.definition.specs.Answers.{absent}
use Rattle.store_reader.specs.Stored.{built_in_at}
use Rattle.component.specs.RowsByCards.{standing_card, names_directive, standing_at}
use Rattle.from_ast_rows.proofs.directives.standing_directive.Given as goal

-- What stands of all headings is what stands of those left, after the one that stands so far.
abbrev pub invariant-loop-other : goal.invariant-loop-other
invariant-loop-other l =
    standing_at l.collection.text.now l.collection.words.now l.headings l.card
    ≡ standing_card (built_in_at l.collection.words.now) (unwrap_or l.standing absent)
    (filter (names_directive l.collection.text.now l.collection.words.now l.card) (drop l.other-index l.headings))
