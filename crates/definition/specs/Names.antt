-- 01, "Names and spans"; specification, section 2.1.9.
use Rattle.std.specs.Prelude.{List, [], ◌∷◌, Bool, false, ◌&&◌, ◌||◌, ℕ, eqb, leb, ltb, take, drop}
use Prim.Native.Char.{code}
use Prim.Native.String.{String, [] as [·], ◌∷◌ as ◌∷·◌}
use Rattle.std.specs.declared.cmp.Ordering.{Ordering}
use Rattle.std.specs.declared.cmp.Ordering.TheVariants.{Less, Equal, Greater}
use Rattle.std.specs.Ordering.{is_eq}
use Rattle.definition.specs.Lists.{choose, all}

-- NameStart: a letter `A` to `Z` or `a` to `z`, or an underscore.
unfoldable pub is_name_start : ℕ → Bool
is_name_start b = (leb 65 b && leb b 90) || (leb 97 b && leb b 122) || eqb b 95

-- NameContinue: those and the digits `0` to `9`.
unfoldable pub is_name_byte : ℕ → Bool
is_name_byte b = is_name_start b || (leb 48 b && leb b 57)

-- Name: one NameStart, then any number of NameContinue.
unfoldable pub is_name : List ℕ → Bool
is_name [] = false
is_name (b ∷ bs) = is_name_start b && all is_name_byte bs

-- The bytes of a span, which is an offset and a length in a text.
unfoldable pub bytes_at : List ℕ → ℕ → ℕ → List ℕ
bytes_at text at size = take size (drop at text)

-- "Names compare by bytes only." Two names compare "before, equal or after by byte order, a shorter beginning being before" (2.4). A byte is a number from 0
-- to 255, so the order is that of unsigned bytes.
unfoldable pub compare_names : List ℕ → List ℕ → Ordering
compare_names [] [] = Equal
compare_names [] (b ∷ ys) = Less
compare_names (a ∷ xs) [] = Greater
compare_names (a ∷ xs) (b ∷ ys) =
    let r = compare_names xs ys in
    choose (ltb a b) Less (choose (ltb b a) Greater r)

-- Names are the same where they compare equal.
unfoldable pub same_name : List ℕ → List ℕ → Bool
same_name m n = is_eq (compare_names m n)

-- The bytes of a quoted text, for the names and the examples that are written out. Only ASCII is quoted, so a character is one byte.
unfoldable pub bytes : String → List ℕ
bytes [·] = []
bytes (c ∷· s) = code c ∷ bytes s
