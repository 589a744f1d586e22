use mathlib.Core.Path.{sym, ap, ◌∙◌}
use native.Mathlib.Omega.{arith}
use Rattle.parser_lexer.specs.Strings.{later}
use Rattle.parser_lexer.proofs.StringLaws.{block_closes, block_end}
use Rattle.parser_lexer.proofs.strings.block_string.Goals as goal

pub returns-then-is_tripled : goal.returns-then-is_tripled
returns-then-is_tripled c = sym (c.loop-rest.invariant.1 ∙
    ap (later _) (block_closes c.loop-rest.rest.now (sym c.is_tripled.ensures ∙ c.if-is_tripled.true)))

pub returns : goal.returns
returns c = sym (c.loop-rest.invariant.1 ∙ ap (later _) (block_end c.loop-rest.rest.now (omega arith)))
