-- The tokens of a text: specification of October 2021, section 2.1 and the values of 2.9, over bytes of UTF-8.
-- A function that measures what bytes begin with gives a number of bytes. Bytes that were measured and are to be passed over are counted down in
-- the first argument of the functions that walk along a text.
use Rattle.std.specs.Prelude.{List, [], ◌∷◌, Bool, true, false, ◌&&◌, ◌||◌, ℕ, zero, suc, ◌+◌, ◌-◌, eqb, leb, get_or, take, drop}
use Rattle.std.proofs.Math.Option.{Option, none, some}
use Rattle.definition.specs.Lists.{choose, found, any}
use Rattle.definition.specs.Names.{is_name_start, is_name_byte}
use Rattle.definition.specs.Grammar.{sort_of_name}
use Rattle.definition.specs.Derivation.{Token}

abbrev pub between : ℕ → ℕ → ℕ → Bool
between lo hi b = leb lo b && leb b hi

-- The byte at a place, 0 past the end. No rule below asks for the byte 0.
abbrev pub byte : ℕ → List ℕ → ℕ
byte i bs = get_or bs i 0

-- ---- 2.1.1 SourceCharacter: U+0009, U+000A, U+000D, U+0020 to U+FFFF, in well-formed UTF-8 (so no surrogate and nothing overlong).

-- A byte that goes on a character.
abbrev pub continues : ℕ → Bool
continues b = between 128 191 b

-- How many bytes the character has that the bytes begin with; 0 where they begin with none.
unfoldable pub character : List ℕ → ℕ
character bs =
    let b = byte 0 bs in
    let c = byte 1 bs in
    let two : ℕ = choose (continues c) 2 0 in
    let second = choose (eqb b 224) (between 160 191 c) (choose (eqb b 237) (between 128 159 c) (continues c)) in
    let three : ℕ = choose (second && continues (byte 2 bs)) 3 0 in
    choose (eqb b 9 || eqb b 10 || eqb b 13 || between 32 127 b) 1
    (choose (between 194 223 b) two
    (choose (between 224 239 b) three 0))

-- 2.1.3 LineTerminator: a line feed or a carriage return (or both, which are two bytes to ignore).
unfoldable pub ends_line : ℕ → Bool
ends_line b = eqb b 10 || eqb b 13

-- ---- 2.1.4 Comment: `#` and every character up to the end of the line. The bytes after `#`:
unfoldable pub comment : ℕ → List ℕ → ℕ
comment k [] = 0
comment (suc k) (b ∷ bs) = 1 + comment k bs
comment zero (b ∷ bs) =
    let n = character (b ∷ bs) in
    let more = 1 + comment (n - 1) bs in
    choose (ends_line b || eqb n 0) 0 more

-- ---- 2.1.9 Name.
unfoldable pub is_digit : ℕ → Bool
is_digit b = between 48 57 b

-- How many bytes from the first on pass the test.
unfoldable pub run : (ℕ → Bool) → List ℕ → ℕ
run p [] = 0
run p (b ∷ bs) = let more = 1 + run p bs in choose (p b) more 0

-- ---- 2.9.1 IntValue and 2.9.2 FloatValue.

-- The digits of an IntegerPart after its sign: `0`, or digits that do not begin with 0; none where there are none.
unfoldable pub integer : List ℕ → ℕ
integer bs = let n = run is_digit bs in choose (eqb (byte 0 bs) 48) 1 n

-- A part that is begun must have a digit: the bytes of its mark and its digits, or none where it is broken.
unfoldable pub begun : ℕ → List ℕ → Option ℕ
begun mark bs = let n = run is_digit (drop mark bs) in choose (eqb n 0) none (some (mark + n))

-- FractionalPart: `.` and digits. ExponentPart: `e` or `E`, a sign or none, and digits. 0 where it is not there.
unfoldable pub fraction : List ℕ → Option ℕ
fraction bs = let f = begun 1 bs in choose (eqb (byte 0 bs) 46) f (some 0)

unfoldable pub exponent : List ℕ → Option ℕ
exponent bs =
    let signed = begun 2 bs in
    let unsigned = begun 1 bs in
    let e = choose (eqb (byte 1 bs) 43 || eqb (byte 1 bs) 45) signed unsigned in
    choose (eqb (byte 0 bs) 101 || eqb (byte 0 bs) 69) e (some 0)

-- What stands at the beginning of bytes: so many bytes to ignore, or a token of a sort with so many bytes, or nothing readable.
pub data Lexeme : Type 0 where
  ignored : ℕ → Lexeme
  lexed : ℕ → ℕ → Lexeme
  unreadable : Lexeme

-- A number of n bytes: no digit, `.` or NameStart may follow it.
unfoldable pub number_of : ℕ → ℕ → List ℕ → Lexeme
number_of sort n bs = let b = byte n bs in choose (is_digit b || eqb b 46 || is_name_start b) unreadable (lexed sort n)

unfoldable pub number : List ℕ → Lexeme
number bs =
    let sign : ℕ = choose (eqb (byte 0 bs) 45) 1 0 in
    let whole = integer (drop sign bs) in
    let i = sign + whole in
    let rest = found (fraction (drop i bs)) (λ f. found (exponent (drop (i + f) bs))
    (λ e. number_of (choose (eqb (f + e) 0) 14 15) (i + f + e) bs) unreadable) unreadable in
    choose (eqb whole 0) unreadable rest

-- ---- 2.9.4 StringValue.

unfoldable pub is_hex : ℕ → Bool
is_hex b = is_digit b || between 65 70 b || between 97 102 b

-- An escape after its `\`: EscapedCharacter, one of `" \ / b f n r t`, or `u` and four hexadecimal digits; 0 where there is none.
unfoldable pub escape : List ℕ → ℕ
escape bs =
    let u : ℕ = choose (is_hex (byte 1 bs) && is_hex (byte 2 bs) && is_hex (byte 3 bs) && is_hex (byte 4 bs)) 5 0 in
    choose (any (eqb (byte 0 bs)) (34 ∷ 92 ∷ 47 ∷ 98 ∷ 102 ∷ 110 ∷ 114 ∷ 116 ∷ [])) 1
    (choose (eqb (byte 0 bs) 117) u 0)

-- What stands before the end of a string: characters that do not end a line, and escapes. The bytes up to its closing quote and with it; none
-- where it does not close.
unfoldable pub plain : ℕ → List ℕ → Option ℕ
plain k [] = none
plain (suc k) (b ∷ bs) = found (plain k bs) (λ n. some (1 + n)) none
plain zero (b ∷ bs) =
    let e = escape bs in
    let escaped = choose (eqb e 0) none (found (plain e bs) (λ n. some (1 + n)) none) in
    let c = character (b ∷ bs) in
    let other = choose (ends_line b || eqb c 0) none (found (plain (c - 1) bs) (λ n. some (1 + n)) none) in
    choose (eqb b 34) (some 1) (choose (eqb b 92) escaped other)

-- Whether the bytes begin with three quotes.
unfoldable pub tripled : List ℕ → Bool
tripled bs = eqb (byte 0 bs) 34 && eqb (byte 1 bs) 34 && eqb (byte 2 bs) 34

-- The same of a block string: any characters, `\"""` for three quotes.
unfoldable pub block : ℕ → List ℕ → Option ℕ
block k [] = none
block (suc k) (b ∷ bs) = found (block k bs) (λ n. some (1 + n)) none
block zero (b ∷ bs) =
    let c = character (b ∷ bs) in
    let escaped = found (block 3 bs) (λ n. some (1 + n)) none in
    let other = choose (eqb c 0) none (found (block (c - 1) bs) (λ n. some (1 + n)) none) in
    choose (tripled (b ∷ bs)) (some 3) (choose (eqb b 92 && tripled bs) escaped other)

-- A string, `"` first. `""` with no third quote is the empty string.
unfoldable pub string : List ℕ → Lexeme
string bs =
    let blocked = found (block 0 (drop 3 bs)) (λ n. lexed 16 (3 + n)) unreadable in
    let plained = found (plain 0 (drop 1 bs)) (λ n. lexed 16 (1 + n)) unreadable in
    choose (tripled bs) blocked plained

-- ---- 2.1.6, 2.1.8 and 2.1.2 to 2.1.7: tokens, and what is ignored between them.

-- The sorts of the punctuators of one byte.
unfoldable pub punctuators : List (ℕ × ℕ)
punctuators =
    (33, 0) ∷ (36, 1) ∷ (38, 2) ∷ (40, 3) ∷ (41, 4) ∷ (58, 6) ∷ (61, 7) ∷ (64, 8) ∷ (91, 9) ∷ (93, 10) ∷ (123, 11) ∷ (124, 12) ∷ (125, 13) ∷ []

unfoldable pub punctuator : ℕ → List (ℕ × ℕ) → Lexeme
punctuator b [] = unreadable
punctuator b (p ∷ ps) = let r = punctuator b ps in choose (eqb b p.0) (lexed p.1 1) r

unfoldable pub named : List ℕ → Lexeme
named bs = let n = run is_name_byte bs in lexed (sort_of_name (take n bs)) n

unfoldable pub lexeme : List ℕ → Lexeme
lexeme bs =
    let b = byte 0 bs in
    let name = named bs in
    let num = number bs in
    let str = string bs in
    let note = ignored (1 + comment 0 (drop 1 bs)) in
    let dots = choose (eqb (byte 1 bs) 46 && eqb (byte 2 bs) 46) (lexed 5 3) unreadable in
    let mark = choose (eqb (byte 1 bs) 187 && eqb (byte 2 bs) 191) (ignored 3) unreadable in
    let sign = punctuator b punctuators in
    -- 2.1.2 WhiteSpace, 2.1.3 LineTerminator, 2.1.5 commas
    choose (eqb b 9 || eqb b 32 || ends_line b || eqb b 44) (ignored 1)
    (choose (is_name_start b) name
    (choose (is_digit b || eqb b 45) num
    (choose (eqb b 34) str
    (choose (eqb b 35) note
    (choose (eqb b 46) dots
    -- 2.1.1 UnicodeBOM, U+FEFF
    (choose (eqb b 239) mark sign))))))

-- The tokens of a text, up to its end or to the first place where nothing readable stands.
pub record Lexed : Type 0 where
  pub tokens : List Token
  pub ends : ℕ
  pub broken : Bool

-- After what stands at a place: f gives the tokens after the next byte, with so many bytes to pass over first.
abbrev pub lexed_by : ℕ → (ℕ → Lexed) → Lexeme → Lexed
lexed_by at f (ignored n) = f (n - 1)
lexed_by at f (lexed s n) =
    let r = f (n - 1) in
    record { tokens = record { sort = s; begins = at; size = n } ∷ r.tokens; ends = r.ends; broken = r.broken }
lexed_by at f unreadable = record { tokens = []; ends = at; broken = true }

unfoldable pub tokens_from : ℕ → ℕ → List ℕ → Lexed
tokens_from k at [] = record { tokens = []; ends = at; broken = false }
tokens_from (suc k) at (b ∷ bs) = tokens_from k (1 + at) bs
tokens_from zero at (b ∷ bs) = lexed_by at (λ k. tokens_from k (1 + at) bs) (lexeme (b ∷ bs))

unfoldable pub tokens_in : List ℕ → Lexed
unfolding tokens_from lexeme named punctuator punctuators string block tripled plain escape is_hex number number_of exponent fraction begun integer run
    is_name_byte is_digit is_name_start comment ends_line character sort_of_name
tokens_in text = tokens_from 0 0 text
