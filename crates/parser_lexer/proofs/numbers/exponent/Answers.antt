use mathlib.Core.Path.{sym, ◌∙◌}
use Rattle.parser_lexer.proofs.NumberLaws.{exponent_none, exponent_signed, exponent_unsigned}
use Rattle.parser_lexer.proofs.numbers.exponent.Goals as goal

pub returns-then-not-is_either : goal.returns-then-not-is_either
returns-then-not-is_either c = sym (exponent_none c.args.bytes.now (sym c.is_either.ensures ∙ c.if-not-is_either.true))

pub returns-then-is_either : goal.returns-then-is_either
returns-then-is_either c = c.begun.ensures ∙ sym (exponent_signed c.args.bytes.now (sym c.is_either.ensures ∙ c.if-not-is_either.false)
    (sym c.is_either-else-not-is_either.ensures ∙ c.if-is_either.true)).0

pub returns-else-is_either : goal.returns-else-is_either
returns-else-is_either c = c.begun-else-is_either.ensures ∙ sym (exponent_unsigned c.args.bytes.now (sym c.is_either.ensures ∙ c.if-not-is_either.false)
    (sym c.is_either-else-not-is_either.ensures ∙ c.if-is_either.false)).0
