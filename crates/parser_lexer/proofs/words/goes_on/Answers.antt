use mathlib.Core.Path.{sym}
use native.Mathlib.Omega.{arith}
use Rattle.parser_lexer.proofs.NameLaws.{below_digits, letters_told}
use Rattle.parser_lexer.proofs.words.goes_on.Goals as goal

pub returns-in-97-to-255 : goal.returns-in-97-to-255
returns-in-97-to-255 c = letters_told _ (omega arith)

pub returns-in-0-to-47 : goal.returns-in-0-to-47
returns-in-0-to-47 c = sym (below_digits _ (omega arith))
