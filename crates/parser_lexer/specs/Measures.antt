-- What a measurement says, as Lexical has it.
use Rattle.std.proofs.Math.Option as math
use Rattle.std.specs.Prelude.{ℕ, eqb, Option, Some, None}
use Rattle.definition.specs.Lists.{choose}
use Rattle.definition.specs.Lexical.{Lexeme, lexed, unreadable}
use Rattle.parser_lexer.specs.Sorts.{sort_number}
use Rattle.parser_lexer.specs.declared.sorts.Sort.{Sort}

-- So many bytes; or none, where what was begun is broken.
abbrev pub measured : Option ℕ → math.Option ℕ
measured (Some n) = math.some n
measured None = math.none

-- So many bytes, as Lexical counts them; or none, where it counts 0.
abbrev pub counted : ℕ → Option ℕ
counted n = choose (eqb n 0) None (Some n)

-- A number of a sort with so many bytes, or nothing readable.
abbrev pub numbered : Option (Sort × ℕ) → Lexeme
numbered (Some (sort, size)) = lexed (sort_number sort) size
numbered None = unreadable
