-- A part of what Lexical says of a character, by a name.
use Rattle.std.specs.Prelude.{Bool, ℕ, eqb}
use Rattle.definition.specs.Lists.{choose}
use Rattle.definition.specs.Lexical.{between, continues}

-- Whether c may follow b, the first byte of a character of three.
abbrev pub second_of : ℕ → ℕ → Bool
second_of b c = choose (eqb b 224) (between 160 191 c) (choose (eqb b 237) (between 128 159 c) (continues c))
