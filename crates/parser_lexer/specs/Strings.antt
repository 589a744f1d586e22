-- Parts of what Lexical says of a string, by names.
use Rattle.std.specs.Prelude.{◌≡◌, List, Bool, ◌&&◌, not, ℕ, ◌+◌, ◌≤◌, ◌<◌, eqb, drop, length, Some, None}
use Rattle.std.specs.Prelude.{Option as Lent}
use Rattle.std.proofs.Math.Option.{Option, none, some}
use Rattle.definition.specs.Lists.{found}
use Rattle.definition.specs.Lexical.{byte, between, is_hex, plain, block, Lexeme, lexed, unreadable}

-- What code answers, where Lexical has an option.
abbrev pub Size : Type 0
Size = Lent ℕ

-- Whether four hexadecimal digits follow the first byte.
abbrev pub is_code : List ℕ → Bool
is_code bs = is_hex (byte 1 bs) && is_hex (byte 2 bs) && is_hex (byte 3 bs) && is_hex (byte 4 bs)

-- A byte of a string that stands for itself alone, whatever comes after it.
abbrev pub is_simple : ℕ → Bool
is_simple b = between 32 127 b && not (eqb b 34) && not (eqb b 92)

-- A measure of what stands k bytes on, from here.
abbrev pub later : ℕ → Option ℕ → Option ℕ
later k o = found o (λ n. some (k + n)) none

-- A string of so many bytes, or nothing readable.
abbrev pub string_token : Option ℕ → Lexeme
string_token o = found o (λ n. lexed 16 n) unreadable

-- So many bytes go on what f measures, one at least; none where it is broken.
abbrev pub Goes : (List ℕ → Option ℕ) → List ℕ → Size → Type 0
Goes f bs (Some n) = (0 < n) × (n ≤ length bs) × (f bs ≡ later n (f (drop n bs)))
Goes f bs None = f bs ≡ none

-- So many bytes go on a block string, or a plain one, that does not close there.
abbrev pub BlockPart : List ℕ → Size → Type 0
BlockPart bs o = Goes (block 0) bs o

abbrev pub PlainPart : List ℕ → Size → Type 0
PlainPart bs o = Goes (plain 0) bs o
