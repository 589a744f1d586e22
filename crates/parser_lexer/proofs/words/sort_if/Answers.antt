use mathlib.Core.Path.{sym, ◌∙◌}
use Rattle.parser_lexer.proofs.NameLaws.{same_as}
use Rattle.parser_lexer.proofs.words.sort_if.Goals as goal

pub returns-then-eq : goal.returns-then-eq
returns-then-eq c = rw (sym (same_as c.args.name.now c.args.word.now) ∙ sym c.eq.ensures ∙ c.if-eq.true)

pub returns-else-eq : goal.returns-else-eq
returns-else-eq c = rw (sym (same_as c.args.name.now c.args.word.now) ∙ sym c.eq.ensures ∙ c.if-eq.false)
