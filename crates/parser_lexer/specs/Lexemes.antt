-- What the lexer's functions say of bytes, as Lexical has it.
use Rattle.definition.specs.Lexical.{ignored, lexed, unreadable}
use Rattle.definition.specs.Lexical.{Lexeme as LexemeOf}
use Rattle.parser_lexer.specs.Sorts.{sort_number}
use Rattle.parser_lexer.specs.declared.lexeme.Lexeme.{Lexeme}
use Rattle.parser_lexer.specs.declared.lexeme.Lexeme.TheVariants.{Ignored, Token, Unreadable}

abbrev pub told : Lexeme → LexemeOf
told (Ignored n) = ignored n
told (Token s n) = lexed (sort_number s) n
told Unreadable = unreadable
