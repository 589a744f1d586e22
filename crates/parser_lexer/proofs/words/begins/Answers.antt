use mathlib.Core.Path.{sym, ◌∙◌}
use native.Mathlib.Omega.{arith}
use borrow.Author.Tests.{le-leb}
use Rattle.name.proofs.Laws.{start_lower}
use Rattle.parser_lexer.proofs.NameLaws.{below_letters}
use Rattle.parser_lexer.proofs.words.begins.Goals as goal

pub returns-in-97-to-122 : goal.returns-in-97-to-122
returns-in-97-to-122 c = sym (start_lower c.args.b (omega arith) ∙ le-leb c.args.b 122 (omega arith))

pub returns-in-0-to-64 : goal.returns-in-0-to-64
returns-in-0-to-64 c = sym (below_letters c.args.b (omega arith))
