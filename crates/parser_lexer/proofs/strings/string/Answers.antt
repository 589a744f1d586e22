use mathlib.Core.Path.{sym, ap, ◌∙◌}
use Rattle.parser_lexer.specs.Strings.{string_token}
use Rattle.parser_lexer.proofs.StringLaws.{triple_size, string_block, string_plain}
use Rattle.parser_lexer.proofs.strings.string.Goals as goal

pub block_string-requires : goal.block_string-requires
block_string-requires c = triple_size c.args.bytes.now (sym c.is_tripled.ensures ∙ c.if-is_tripled.true)

pub returns-then-is_tripled : goal.returns-then-is_tripled
returns-then-is_tripled c = c.token.ensures ∙ ap string_token c.block_string.ensures ∙
    string_block c.args.bytes.now (sym c.is_tripled.ensures ∙ c.if-is_tripled.true)

pub returns-else-is_tripled : goal.returns-else-is_tripled
returns-else-is_tripled c = c.token-else-is_tripled.ensures ∙ ap string_token c.plain_string.ensures ∙
    string_plain c.args.bytes.now (sym c.is_tripled.ensures ∙ c.if-is_tripled.false)
