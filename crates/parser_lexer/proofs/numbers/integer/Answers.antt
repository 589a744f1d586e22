use mathlib.Core.Path.{sym, ◌∙◌}
use Rattle.definition.specs.Lexical.{run, is_digit, integer}
use Rattle.parser_lexer.proofs.CharacterLaws.{same_count}
use Rattle.parser_lexer.proofs.NumberLaws.{integer_zero, integer_more}
use Rattle.parser_lexer.proofs.numbers.integer.Goals as goal

pub returns-then-byte_at-eq48 : goal.returns-then-byte_at-eq48
returns-then-byte_at-eq48 c = same_count 1 (integer c.args.bytes.now) (sym (integer_zero c.args.bytes.now (sym c.byte_at.ensures ∙ c.if-byte_at-eq48.true)))

pub returns-else-byte_at-eq48 : goal.returns-else-byte_at-eq48
returns-else-byte_at-eq48 c = c.digits.ensures ∙ same_count (run is_digit c.args.bytes.now) (integer c.args.bytes.now)
    (sym (integer_more c.args.bytes.now (λ e. c.if-byte_at-eq48.false (c.byte_at.ensures ∙ e))))
