-- What a function promises that reads a part of the grammar, or several symbols, from the token ahead on.
use Rattle.std.specs.Prelude.{Result, Ok, Err, ◌≡◌, List, [], ◌∷◌, ◌++◌, ℕ, ◌≤◌, ◌<◌, length}
use Rattle.definition.specs.Lists.{Among}
use Rattle.definition.specs.Grammar.{Symbol, one, part, Part, rule}
use Rattle.definition.specs.GrammarSets.{first}
use Rattle.definition.specs.Cards.{Card}
use Rattle.parser_laws.specs.Verdict.{Verdict, fails}
use Rattle.parser_laws.specs.Standing.{standing}
use Rattle.parser_lexer.specs.Ahead.{Ahead}
use Rattle.parser_lexer.specs.declared.cursor.Cursor.{Cursor}
use Rattle.parser_values.specs.declared.error.SyntaxError.{SyntaxError}
use Rattle.parser_values.specs.Errors.{number, place}

-- Where a part of the grammar ends, with the token ahead there; or why it is refused, and where.
abbrev pub End : Type 0
End = Result Cursor SyntaxError

-- What the end of a part means for the reading that it stands in.
abbrev pub goes_on : List ℕ → End → List Symbol → ℕ → List Card → ℕ → Verdict
goes_on text (Ok k) ss level cs h = standing text k.last ss level cs h
goes_on text (Err e) ss level cs h = fails (number e) (place e)

-- The cursor at the end tells the token ahead there, and the number of cards.
abbrev pub Ready : List ℕ → ℕ → End → Type 0
Ready text n (Ok k) = Ahead text k × (k.cards ≡ n)
Ready text n (Err e) = Unit {0}

-- Whatever symbols come after ps, and whatever cards there are: the reading from c on, by ps and then by them, ends as the reading by them from the end
-- on, or in the refusal.
pub record Reads (ps : List Symbol) (text : List ℕ) (c : Cursor) (level : ℕ) (r : End) : Type 0 where
  pub goes : (ss : List Symbol) (cs : List Card) (h : ℕ) → standing text c.last (ps ++ ss) level cs h ≡ goes_on text r ss level cs h
  pub ready : Ready text c.cards r

-- The end is a place of the same text, no sooner than the beginning; and behind it, where a token must have been read.
abbrev pub Stays : List ℕ → Cursor → End → Type 0
Stays text c (Ok k) = (k.text.now ≡ text) × (c.last ≤ k.last)
Stays text c (Err e) = place e ≤ length text

abbrev pub Moves : List ℕ → Cursor → End → Type 0
Moves text c (Ok k) = (k.text.now ≡ text) × (c.last < k.last)
Moves text c (Err e) = place e ≤ length text

-- What is promised of the symbols ps from c on: `Must` where a token must be read, `May` where none need be. That the cursor tells what stands ahead is a
-- premise of what is promised of the reading, and none of what is promised of places.
abbrev pub Must : List Symbol → List ℕ → Cursor → ℕ → End → Type 0
Must ps text c level e = (Ahead text c → Reads ps text c level e) × Moves text c e

abbrev pub May : List Symbol → List ℕ → Cursor → ℕ → End → Type 0
May ps text c level e = (Ahead text c → Reads ps text c level e) × Stays text c e

-- The same where no level is opened, of every level.
abbrev pub Flat : List Symbol → List ℕ → Cursor → End → Type 0
Flat ps text c e = (Ahead text c → (level : ℕ) → level ≤ 32 → Reads ps text c level e) × Moves text c e

-- The same of a cursor's own text, as contracts say it.
abbrev pub MustRead : List Symbol → Cursor → ℕ → End → Type 0
MustRead ps c level e = Must ps c.text.now c level e

abbrev pub MayRead : List Symbol → Cursor → ℕ → End → Type 0
MayRead ps c level e = May ps c.text.now c level e

abbrev pub FlatRead : List Symbol → Cursor → End → Type 0
FlatRead ps c e = Flat ps c.text.now c e

-- In the middle of reading ps from b on: it has come to c, and the symbols qs are left of ps.
pub record Within (ps : List Symbol) (text : List ℕ) (b : Cursor) (level : ℕ) (qs : List Symbol) (c : Cursor) : Type 0 where
  pub goes : (ss : List Symbol) (cs : List Card) (h : ℕ) → standing text b.last (ps ++ ss) level cs h ≡ standing text c.last (qs ++ ss) level cs h
  pub ahead : Ahead text c
  pub cards : c.cards ≡ b.cards

-- A part that is a token of one sort, or empty.
abbrev pub Optional : Part → ℕ → Type 0
Optional n x = Among (one x x ∷ []) (rule n) × Among [] (rule n) × (first n ≡ (x, x) ∷ [])

-- Any part that is a token of one sort, or empty.
abbrev pub OptionalRead : ℕ → Cursor → Cursor → Type 0
OptionalRead x c k =
    (Ahead c.text.now c → (level : ℕ) → level ≤ 32 → (n : Part) → Optional n x → Reads (part n ∷ []) c.text.now c level (Ok k)) ×
    Stays c.text.now c (Ok k)
