use mathlib.Core.Path.{sym, ◌∙◌}
use Rattle.std.proofs.lemmas.List.{take_rest}
use native.Mathlib.Omega.{arith}
use Rattle.parser_lexer.proofs.StringLaws.{block_escape, block_backslash, block_ascii, block_character}
use Rattle.parser_lexer.proofs.strings.block_part.Goals as goal

pub returns-in-92 : goal.returns-in-92
returns-in-92 c = block_escape c.args.bytes.now c.requires.0 c.requires.1 c.in-92.is
    (sym (rw (take_rest c.args.bytes.now 1) at c.is_tripled.ensures) ∙ c.if-is_tripled.true)

pub returns-in-32-to-127 : goal.returns-in-32-to-127
returns-in-32-to-127 c = block_backslash c.args.bytes.now c.requires.0 c.requires.1 c.in-92.is
    (sym (rw (take_rest c.args.bytes.now 1) at c.is_tripled.ensures) ∙ c.if-is_tripled.false)

pub returns-in-32-to-127-2 : goal.returns-in-32-to-127-2
returns-in-32-to-127-2 c = block_ascii c.args.bytes.now c.requires.0 c.requires.1 (omega arith) (omega arith) (omega arith)

pub returns-in_default : goal.returns-in_default
returns-in_default c = rw c.character.ensures (block_character c.args.bytes.now c.requires.0 c.requires.1 (omega arith))
