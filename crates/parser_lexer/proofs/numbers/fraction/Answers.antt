use mathlib.Core.Path.{sym, ◌∙◌}
use Rattle.parser_lexer.proofs.NumberLaws.{fraction_there, fraction_none}
use Rattle.parser_lexer.proofs.numbers.fraction.Goals as goal

pub returns-then-byte_at-eq46 : goal.returns-then-byte_at-eq46
returns-then-byte_at-eq46 c = c.begun.ensures ∙ sym (fraction_there c.args.bytes.now (sym c.byte_at.ensures ∙ c.if-byte_at-eq46.true)).0

pub returns-else-byte_at-eq46 : goal.returns-else-byte_at-eq46
returns-else-byte_at-eq46 c = sym (fraction_none c.args.bytes.now (λ e. c.if-byte_at-eq46.false (c.byte_at.ensures ∙ e)))
