use Rattle.definition.specs.Lexical.{is_hex, is_digit}
use Rattle.parser_lexer.proofs.strings.is_hex.Goals as goal

pub returns : goal.returns
unfolding is_hex is_digit
returns c = c.is_ascii_hexdigit.ensures.value
