-- Closed examples: what the reader makes of a text, lent a slice of 11,500 words that all are 7. Each is one that a definition with a likely
-- mistake would fail.
use Rattle.std.specs.Prelude.{◌≡◌, refl, List, [], ◌∷◌, ◌++◌, ℕ, zero, suc, replicate, take}
use Rattle.definition.specs.Names.{bytes}
use Rattle.definition.specs.Outcomes.{ListOutcome, parse}
use Rattle.definition.specs.Unfolded.{unfolded}

-- The two numbers returned, and the slice's first n words.
abbrev shown : ℕ → ListOutcome → List ℕ
shown n o = o.answer.number ∷ o.answer.card ∷ take n o.list

abbrev reads : ℕ → List ℕ → List ℕ
reads n text = shown n (parse text (replicate 11500 7))

-- So many times these bytes.
abbrev times : ℕ → List ℕ → List ℕ
times zero bs = []
times (suc n) bs = bs ++ times n bs

-- ---- Cards: one for each item of 01, from its first token to its last.

-- P1 of 01, and the word after its cards.
p1 : reads 26 (bytes "type A{n:Int n:Int}extend type A{m:Int}") ≡
    0 ∷ 5 ∷
    6 ∷ 0 ∷ 19 ∷ 5 ∷ 1 ∷
    22 ∷ 7 ∷ 5 ∷ 7 ∷ 1 ∷
    22 ∷ 13 ∷ 5 ∷ 13 ∷ 1 ∷
    13 ∷ 19 ∷ 20 ∷ 31 ∷ 1 ∷
    22 ∷ 33 ∷ 5 ∷ 33 ∷ 1 ∷
    7 ∷ []
unfolding unfolded
p1 = refl

-- A description belongs to its item; leading `&` and what is ignored do not; a use on a field has no card, nor has an argument.
described : reads 25 (bytes "\"d\" type A implements & B @u { \"e\" n(x: [Int!] = [1 {a: B}]): Int! @v }") ≡
    0 ∷ 4 ∷
    6 ∷ 0 ∷ 71 ∷ 9 ∷ 1 ∷
    21 ∷ 24 ∷ 1 ∷ 24 ∷ 1 ∷
    20 ∷ 26 ∷ 2 ∷ 27 ∷ 1 ∷
    22 ∷ 31 ∷ 38 ∷ 35 ∷ 1 ∷
    7 ∷ 7 ∷ 7 ∷ 7 ∷ 7 ∷ []
unfolding unfolded
described = refl

-- A schema has no name; the name of a root is its type.
schema_root : reads 10 (bytes "schema{query:Q}") ≡ 0 ∷ 2 ∷ 4 ∷ 0 ∷ 15 ∷ 0 ∷ 0 ∷ 26 ∷ 7 ∷ 7 ∷ 13 ∷ 1 ∷ []
unfolding unfolded
schema_root = refl

-- A heading's item ends at its last token, here a use, not at its name and not behind the comment.
heading_ends_lem : reads 11 (bytes "type A @d #x") ≡ 0 ∷ 2 ∷ 6 ∷ 0 ∷ 9 ∷ 5 ∷ 1 ∷ 20 ∷ 7 ∷ 2 ∷ 8 ∷ 1 ∷ 7 ∷ []
unfolding unfolded
heading_ends_lem = refl

-- A member's item is its name, without `|`, leading or not.
members : reads 16 (bytes "union U=|A|B") ≡
    0 ∷ 3 ∷
    8 ∷ 0 ∷ 12 ∷ 6 ∷ 1 ∷
    23 ∷ 9 ∷ 1 ∷ 9 ∷ 1 ∷
    23 ∷ 11 ∷ 1 ∷ 11 ∷ 1 ∷
    7 ∷ []
unfolding unfolded
members = refl

-- A use on a field has no card of its own and belongs to the field's item.
field_use : reads 11 (bytes "type A{a:B@d}") ≡ 0 ∷ 2 ∷ 6 ∷ 0 ∷ 13 ∷ 5 ∷ 1 ∷ 22 ∷ 7 ∷ 5 ∷ 7 ∷ 1 ∷ 7 ∷ []
unfolding unfolded
field_use = refl

-- A default value belongs to its input field; a comma is no token.
input_default : reads 11 (bytes "input A{a:S=\"x\",}") ≡ 0 ∷ 2 ∷ 10 ∷ 0 ∷ 17 ∷ 6 ∷ 1 ∷ 25 ∷ 8 ∷ 7 ∷ 8 ∷ 1 ∷ 7 ∷ []
unfolding unfolded
input_default = refl

enum_commas : reads 16 (bytes "enum E{A,B}") ≡ 0 ∷ 3 ∷ 9 ∷ 0 ∷ 11 ∷ 5 ∷ 1 ∷ 24 ∷ 7 ∷ 1 ∷ 7 ∷ 1 ∷ 24 ∷ 9 ∷ 1 ∷ 9 ∷ 1 ∷ 7 ∷ []
unfolding unfolded
enum_commas = refl

-- The arguments of a directive have no cards, nor have uses on them.
directive_arguments : reads 6 (bytes "directive @d(x:S@u) on ENUM") ≡ 0 ∷ 1 ∷ 3 ∷ 0 ∷ 27 ∷ 11 ∷ 1 ∷ 7 ∷ []
unfolding unfolded
directive_arguments = refl

-- A byte order mark is ignored between tokens, its three bytes counted, and joins nothing.
byte_order_mark : reads 5 (239 ∷ 187 ∷ 191 ∷ bytes "scalar A") ≡ 0 ∷ 1 ∷ 5 ∷ 3 ∷ 8 ∷ 10 ∷ 1 ∷ []
unfolding unfolded
byte_order_mark = refl

mark_inside : reads 0 (bytes "ty" ++ (239 ∷ 187 ∷ 191 ∷ bytes "pe A")) ≡ 29 ∷ 0 ∷ []
unfolding unfolded
mark_inside = refl

-- ---- 29, and the slice stays.

-- The empty text; an end of text that no text has there, behind what is ignored.
empty_text : reads 2 [] ≡ 29 ∷ 0 ∷ 7 ∷ 7 ∷ []
unfolding unfolded
empty_text = refl

ended_early : reads 2 (bytes "type A{n:Int #x") ≡ 29 ∷ 15 ∷ 7 ∷ 7 ∷ []
unfolding unfolded
ended_early = refl

ended_blank : reads 0 (bytes "type " ++ (10 ∷ 32 ∷ [])) ≡ 29 ∷ 7 ∷ []
unfolding unfolded
ended_blank = refl

-- A token that no text has there: the first place after which nothing can follow, not the beginning of the definition.
bare_extension : reads 0 (bytes "extend type A type B") ≡ 29 ∷ 14 ∷ []
unfolding unfolded
bare_extension = refl

described_extension : reads 0 (bytes "\"d\" extend type A{a:B}") ≡ 29 ∷ 4 ∷ []
unfolding unfolded
described_extension = refl

described_query : reads 0 (bytes "\"d\" query") ≡ 29 ∷ 4 ∷ []
unfolding unfolded
described_query = refl

executable : reads 0 (bytes "type A{a:B}{c}") ≡ 29 ∷ 11 ∷ []
unfolding unfolded
executable = refl

extended_directive : reads 0 (bytes "extend directive @d on ENUM") ≡ 29 ∷ 7 ∷ []
unfolding unfolded
extended_directive = refl

two_interfaces : reads 0 (bytes "type A implements B, C") ≡ 29 ∷ 21 ∷ []
unfolding unfolded
two_interfaces = refl

two_descriptions : reads 0 (bytes "type A{\"a\"\"b\" c:D}") ≡ 29 ∷ 10 ∷ []
unfolding unfolded
two_descriptions = refl

-- Braces and parentheses without entries; as values they are fine.
empty_body : reads 0 (bytes "type A{}") ≡ 29 ∷ 7 ∷ []
unfolding unfolded
empty_body = refl

empty_arguments : reads 0 (bytes "scalar A @d()") ≡ 29 ∷ 12 ∷ []
unfolding unfolded
empty_arguments = refl

empty_values : reads 0 (bytes "scalar A @d(x:[{}])") ≡ 0 ∷ 2 ∷ []
unfolding unfolded
empty_values = refl

-- A token is a whole one, and its own bytes count.
half_a_word : reads 0 (bytes "typ") ≡ 29 ∷ 0 ∷ []
unfolding unfolded
half_a_word = refl

enum_true : reads 0 (bytes "enum E{true}") ≡ 29 ∷ 7 ∷ []
unfolding unfolded
enum_true = refl

wrong_location : reads 0 (bytes "directive @d on FEILD") ≡ 29 ∷ 16 ∷ []
unfolding unfolded
wrong_location = refl

wrong_root : reads 0 (bytes "schema{quary:Q}") ≡ 29 ∷ 7 ∷ []
unfolding unfolded
wrong_root = refl

-- A broken number is told at its start; one before a byte that may stand behind it is a token.
broken_number : reads 0 (bytes "scalar A @d(x:01)") ≡ 29 ∷ 14 ∷ []
unfolding unfolded
broken_number = refl

number_letter : reads 0 (bytes "scalar A @d(x:1a)") ≡ 29 ∷ 14 ∷ []
unfolding unfolded
number_letter = refl

number_dot : reads 0 (bytes "scalar A @d(x:1.)") ≡ 29 ∷ 14 ∷ []
unfolding unfolded
number_dot = refl

number_byte : reads 0 (bytes "scalar A @d(x:1" ++ (255 ∷ [])) ≡ 29 ∷ 15 ∷ []
unfolding unfolded
number_byte = refl

-- A broken string is told at its start, wherever the trouble is: no end, a line's end, an escape of a later edition, a character of four bytes.
broken_string : reads 0 (bytes "type A{\"abc") ≡ 29 ∷ 7 ∷ []
unfolding unfolded
broken_string = refl

line_in_string : reads 0 (bytes "type A{\"a" ++ (10 ∷ bytes "\" b:C}")) ≡ 29 ∷ 7 ∷ []
unfolding unfolded
line_in_string = refl

braces_in_escape : reads 0 (bytes "type A{\"\\u{41}\" b:C}") ≡ 29 ∷ 7 ∷ []
unfolding unfolded
braces_in_escape = refl

wide_in_string : reads 0 (bytes "type A{\"a" ++ (240 ∷ 159 ∷ 152 ∷ 128 ∷ bytes "\" b:C}")) ≡ 29 ∷ 7 ∷ []
unfolding unfolded
wide_in_string = refl

-- In a comment it is the byte with which no character begins: four bytes, a surrogate, an overlong and a cut_off character.
wide_in_comment : reads 0 (35 ∷ 97 ∷ 240 ∷ 159 ∷ 152 ∷ 128 ∷ []) ≡ 29 ∷ 2 ∷ []
unfolding unfolded
wide_in_comment = refl

broken_comment : reads 0 (35 ∷ 237 ∷ 160 ∷ 128 ∷ []) ≡ 29 ∷ 1 ∷ []
unfolding unfolded
broken_comment = refl

overlong : reads 0 (35 ∷ 192 ∷ 128 ∷ []) ≡ 29 ∷ 1 ∷ []
unfolding unfolded
overlong = refl

overlong_three : reads 0 (35 ∷ 224 ∷ 159 ∷ 191 ∷ []) ≡ 29 ∷ 1 ∷ []
unfolding unfolded
overlong_three = refl

cut_off : reads 0 (35 ∷ 226 ∷ 130 ∷ []) ≡ 29 ∷ 1 ∷ []
unfolding unfolded
cut_off = refl

-- ---- 30 at the opener of a 33rd level, 29 where it is not wanted at all.

-- 32 levels pass, of a value, of a list type, and of two values one after the other.
levels_32 : reads 0 (bytes "scalar A @d(x:" ++ replicate 32 91 ++ replicate 32 93 ++ bytes ")") ≡ 0 ∷ 2 ∷ []
unfolding unfolded
levels_32 = refl

types_32 : reads 0 (bytes "type A{a:" ++ replicate 32 91 ++ bytes "B" ++ replicate 32 93 ++ bytes "}") ≡ 0 ∷ 2 ∷ []
unfolding unfolded
types_32 = refl

levels_anew :
    reads 0 (bytes "scalar A @d(x:" ++ replicate 32 91 ++ replicate 32 93 ++ bytes "y:" ++ replicate 32 91 ++ replicate 32 93 ++ bytes ")") ≡ 0 ∷ 2 ∷ []
unfolding unfolded
levels_anew = refl

-- The 33rd, closed or not; lists and objects count together; behind it nothing is looked at.
levels_33 : reads 0 (bytes "scalar A @d(x:" ++ replicate 33 91) ≡ 30 ∷ 46 ∷ []
unfolding unfolded
levels_33 = refl

closed_33 : reads 0 (bytes "scalar A @d(x:" ++ replicate 33 91 ++ replicate 33 93 ++ bytes ")") ≡ 30 ∷ 46 ∷ []
unfolding unfolded
closed_33 = refl

types_33 : reads 0 (bytes "type A{a:" ++ replicate 32 91 ++ bytes "[") ≡ 30 ∷ 41 ∷ []
unfolding unfolded
types_33 = refl

mixed_33 : reads 0 (bytes "scalar A @d(x:" ++ times 16 (bytes "[{a:") ++ bytes "[") ≡ 30 ∷ 78 ∷ []
unfolding unfolded
mixed_33 = refl

objects_33 : reads 0 (bytes "scalar A @d(x:" ++ times 32 (bytes "{a:") ++ bytes "{{") ≡ 30 ∷ 110 ∷ []
unfolding unfolded
objects_33 = refl

unread_behind : reads 0 (bytes "scalar A @d(x:" ++ replicate 33 91 ++ (255 ∷ [])) ≡ 30 ∷ 46 ∷ []
unfolding unfolded
unread_behind = refl

-- An opener that no text has there is 29, as a 33rd too; and so is a 29 before the 33rd.
type_brace : reads 0 (bytes "type A{a:" ++ replicate 32 91 ++ bytes "{") ≡ 29 ∷ 41 ∷ []
unfolding unfolded
type_brace = refl

objects_29 : reads 0 (bytes "scalar A @d(x:" ++ times 31 (bytes "{a:") ++ bytes "{{") ≡ 29 ∷ 108 ∷ []
unfolding unfolded
objects_29 = refl

before_33 : reads 0 (bytes "scalar A @d(:" ++ replicate 33 91) ≡ 29 ∷ 12 ∷ []
unfolding unfolded
before_33 = refl

-- ---- 31 before 24 before 29.

short_slice : shown 0 (parse (bytes "scalar A") (replicate 11499 7)) ≡ 31 ∷ 0 ∷ []
unfolding unfolded
short_slice = refl

short_slice_long_text : shown 0 (parse (replicate 65537 255) (replicate 11499 7)) ≡ 31 ∷ 0 ∷ []
unfolding unfolded
short_slice_long_text = refl

long_text_lem : reads 0 (replicate 65537 255) ≡ 24 ∷ 0 ∷ []
unfolding unfolded
long_text_lem = refl

longest_text : reads 0 (replicate 65536 255) ≡ 29 ∷ 0 ∷ []
unfolding unfolded
longest_text = refl

-- ---- 29 before 25: a text with 2,301 items and then a token that no text has there.

many_items : reads 0 (bytes "enum E{" ++ times 2300 (bytes "a ") ++ bytes "]") ≡ 29 ∷ 4607 ∷ []
unfolding unfolded
many_items = refl
