use mathlib.Core.Path.{sym, ◌∙◌}
use Rattle.parser_lexer.specs.Sorts.{sort_number}
use Rattle.parser_values.proofs.Readers.{takes, lacks}
use Rattle.parser_values.proofs.take.Goals as goal

pub returns-then-is_within : goal.returns-then-is_within
returns-then-is_within c =
    takes (sort_number c.args.lo) (sort_number c.args.hi) c.args.c c.next.result c.requires (sym c.is_within.ensures ∙ c.if-is_within.true) c.next.ensures

pub returns-else-is_within : goal.returns-else-is_within
returns-else-is_within c = lacks (sort_number c.args.lo) (sort_number c.args.hi) c.args.c (sym c.is_within.ensures ∙ c.if-is_within.false)
