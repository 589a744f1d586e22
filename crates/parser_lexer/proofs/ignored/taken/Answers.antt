use borrow.Author.Rules.{rules}
use mathlib.Core.Path.{sym, ◌∙◌}
use native.Mathlib.Omega.{arith}
use Rattle.parser_lexer.proofs.CommentLaws.{one_on, other_taken, line_taken}
use Rattle.parser_lexer.proofs.ignored.taken.Goals as goal

pub returns-then-is_plain : goal.returns-then-is_plain
returns-then-is_plain c = (omega arith, omega arith, one_on c.args.bytes.now c.requires (sym c.is_plain.ensures ∙ c.if-is_plain.true))

pub returns-in-10 : goal.returns-in-10
returns-in-10 c = line_taken c.args.bytes.now c.requires c.in-10.is

pub returns-in_default : goal.returns-in_default
returns-in_default c = rw c.character.ensures (other_taken c.args.bytes.now c.requires (search rules))
