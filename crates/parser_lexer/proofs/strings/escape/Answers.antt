use borrow.Author.Rules.{rules}
use mathlib.Core.Path.{sym, ◌∙◌}
use Rattle.definition.specs.Lexical.{escape}
use Rattle.parser_lexer.proofs.CharacterLaws.{same_count}
use Rattle.parser_lexer.proofs.StringLaws.{escape_one, escape_code, escape_none}
use Rattle.parser_lexer.proofs.strings.escape.Goals as goal

pub returns-in-34 : goal.returns-in-34
returns-in-34 c = same_count 1 (escape c.args.bytes.now) (escape_one c.args.bytes.now (rw c.byte_at.ensures at c.in-34.is))

pub returns-in-117 : goal.returns-in-117
returns-in-117 c = same_count 5 (escape c.args.bytes.now) (sym (escape_code c.args.bytes.now (sym c.byte_at.ensures ∙ c.in-117.is) ∙ rw (sym c.is_code.ensures ∙ c.if-is_code.true)))

pub returns-in_default : goal.returns-in_default
returns-in_default c = same_count 0 (escape c.args.bytes.now) (sym (escape_code c.args.bytes.now (sym c.byte_at.ensures ∙ c.in-117.is) ∙ rw (sym c.is_code.ensures ∙ c.if-is_code.false)))

pub returns-in_default-2 : goal.returns-in_default-2
returns-in_default-2 c = same_count 0 (escape c.args.bytes.now) (escape_none c.args.bytes.now _ c.byte_at.ensures (search rules) (search rules))
