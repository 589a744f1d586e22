use native.Mathlib.Omega.{arith}
use Rattle.parser_lexer.proofs.StringLaws.{code_short}
use Rattle.parser_lexer.proofs.strings.is_code.Goals as goal

pub returns-in_default : goal.returns-in_default
returns-in_default c = code_short c.args.bytes.now (omega arith)
