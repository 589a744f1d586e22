use mathlib.Core.Path.{refl}
use Rattle.parser_lexer.proofs.SortLaws.{differs, differs_not}
use Rattle.parser_values.proofs.Readers.{may}
use Rattle.parser_values.proofs.Parts.{no_default, a_default}
use Rattle.parser_values.proofs.values.default_value.Goals as goal

pub returns-then-ne : goal.returns-then-ne
returns-then-ne c = no_default (differs c.args.c.sort c.ne.ensures c.if-ne.true) refl

pub returns : goal.returns
returns c = a_default (differs_not c.args.c.sort c.ne.ensures c.if-ne.false) refl c.next-k.ensures (may (rw c.full.ensures at c.value.ensures))
