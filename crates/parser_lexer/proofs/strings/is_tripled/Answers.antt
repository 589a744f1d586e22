use mathlib.Core.Path.{sym, ◌∙◌}
use native.Mathlib.Omega.{arith}
use borrow.Author.Tests.{ne_eqb}
use Rattle.parser_lexer.proofs.StringLaws.{tripled_told, no_triple, too_short}
use Rattle.parser_lexer.proofs.strings.is_tripled.Goals as goal

pub returns-in-34 : goal.returns-in-34
returns-in-34 c = tripled_told c.args.bytes.now (sym c.byte_at.ensures ∙ c.if-byte_at-eq34.true) (omega arith) (omega arith)

pub returns-in_default : goal.returns-in_default
returns-in_default c = too_short c.args.bytes.now (omega arith)

pub returns-in_default-2 : goal.returns-in_default-2
returns-in_default-2 c = no_triple c.args.bytes.now (λ e f g. omega arith)

pub returns-in_default-3 : goal.returns-in_default-3
returns-in_default-3 c = no_triple c.args.bytes.now (λ e f g. omega arith)

pub returns-else-byte_at-eq34 : goal.returns-else-byte_at-eq34
returns-else-byte_at-eq34 c = ne_eqb _ _ c.if-byte_at-eq34.false ∙ no_triple c.args.bytes.now (λ e f g. c.if-byte_at-eq34.false (c.byte_at.ensures ∙ e))
