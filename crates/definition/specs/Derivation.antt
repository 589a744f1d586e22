-- What a text of the grammar is: one whose tokens can be derived from `Document` by the table.
use Rattle.std.specs.Prelude.{◌≡◌, List, [], ◌∷◌, ◌++◌, true, ℕ}
use Rattle.definition.specs.Lists.{Among}
use Rattle.definition.specs.Grammar.{Mark, Symbol, one, part, mark, Part, Document, rule, within}

-- A token: its sort, where it begins and how many bytes it has.
pub record Token : Type 0 where
  pub sort : ℕ
  pub begins : ℕ
  pub size : ℕ

-- What a reading comes by, in order: tokens and marks.
pub data Seen : Type 0 where
  token : Token → Seen
  marked : Mark → Seen

-- What the symbols of a list can come by: a token of a fitting sort for a token, a mark for a mark, for a part of the grammar whatever one of its
-- alternatives can come by.
pub data Derives : List Symbol → List Seen → Type 0 where
  nothing : Derives [] []
  reads : {lo hi : ℕ} {t : Token} {ss : List Symbol} {es : List Seen} → within lo hi t.sort ≡ true → Derives ss es → Derives (one lo hi ∷ ss) (token t ∷ es)
  marks : {m : Mark} {ss : List Symbol} {es : List Seen} → Derives ss es → Derives (mark m ∷ ss) (marked m ∷ es)
  expands : {n : Part} {r ss : List Symbol} {es : List Seen} → Among r (rule n) → Derives (r ++ ss) es → Derives (part n ∷ ss) es

-- The tokens among what was seen.
unfoldable pub tokens_of : List Seen → List Token
tokens_of [] = []
tokens_of (token t ∷ es) = t ∷ tokens_of es
tokens_of (marked m ∷ es) = tokens_of es

-- The tokens are those of a text of the grammar, which comes by es.
pub record Comes (ts : List Token) (es : List Seen) : Type 0 where
  pub derived : Derives (part Document ∷ []) es
  pub read : tokens_of es ≡ ts
