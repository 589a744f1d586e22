-- What a function promises that reads a definition, and what it goes by in the middle of one.
use Rattle.std.specs.Prelude.{Result, Ok, Err, ◌≡◌, List, [], ◌∷◌, ◌++◌, ℕ, ◌+◌, ◌≤◌, length}
use Rattle.definition.specs.Grammar.{Symbol, part, Definition, Document}
use Rattle.definition.specs.Cards.{Card}
use Rattle.definition.specs.ItemCards.{cards_read}
use Rattle.definition.specs.Derivation.{Seen}
use Rattle.definition.specs.Reading.{accepted, refused, reading}
use Rattle.definition.specs.Refusals.{card_capacity}
use Rattle.parser_laws.specs.Standing.{standing}
use Rattle.parser_lexer.specs.Ahead.{Ahead}
use Rattle.parser_lexer.specs.declared.cursor.Cursor.{Cursor}
use Rattle.parser_values.specs.declared.error.SyntaxError.{SyntaxError}
use Rattle.parser_values.specs.Errors.{number, place}
use Rattle.parser_values.specs.Reads.{End, goes_on, Ready, Stays}
use Rattle.parser_items.specs.Lists.{put_cards}

-- In the middle of a definition that began at b, and whose card so far is x: it has come to c, and the symbols qs are left of it. Its card's number is
-- how many cards there were before it. No part of it has a card yet, and nothing is written.
pub record Heading (text : List ℕ) (b : Cursor) (qs : List Symbol) (c : Cursor) (x : Card) : Type 0 where
  pub goes : (ss : List Symbol) (cs : List Card) (h : ℕ) → standing text b.last (part Definition ∷ ss) 0 cs h ≡
      standing text c.last (qs ++ ss) 0 (cs ++ (x ∷ [])) (length cs)
  pub ahead : Ahead text c

-- The words hold new cards from a number on. Where the reading was refused, nothing is said of them.
abbrev pub Written : End → List ℕ → ℕ → List Card → List ℕ → Type 0
Written (Ok k) before n cs after = after ≡ put_cards before card_capacity n cs
Written (Err e) before n cs after = Unit {0}

-- A definition: whatever symbols come after it, and whatever cards there are, the reading ends as the reading by them from the end on, with the new
-- cards behind those there were, of which the first is the newest heading's; or in the refusal.
pub record Defines (text : List ℕ) (b : Cursor) (r : End) (before after : List ℕ) : Type 0 where
  pub cards : List Card
  pub written : Written r before b.cards cards after
  pub goes : (ss : List Symbol) (cs : List Card) (h : ℕ) → standing text b.last (part Definition ∷ ss) 0 cs h ≡ goes_on text r ss 0 (cs ++ cards) (length cs)
  pub ready : Ready text (b.cards + length cards) r

-- What is promised from c on, in the middle of a definition that began at b: if the symbols us are left of it there, and its card so far is x, it is read to
-- its end or refused. As in parser_values, the premise is none of what is promised of places.
abbrev pub ReadOn : Cursor → List Symbol → Cursor → Card → End → List ℕ → List ℕ → Type 0
ReadOn b us c x r before after = (Heading c.text.now b us c x → Defines c.text.now b r before after) × Stays c.text.now c r

-- The cursor stands behind the keyword of a definition that began at `first`, and its card is counted.
abbrev pub Behind : Cursor → Cursor → Type 0
Behind first c = (first.begins ≤ c.last) × (c.cards ≡ first.cards + 1)

-- In the middle of a text: it has come to c, and the symbols qs are left of `Document`.
pub record Definitions (text before : List ℕ) (qs : List Symbol) (c : Cursor) (after : List ℕ) : Type 0 where
  pub cards : List Card
  pub head : ℕ
  pub written : after ≡ put_cards before card_capacity 0 cards
  pub goes : standing text 0 (part Document ∷ []) 0 [] 0 ≡ standing text c.last qs 0 cards head
  pub ahead : Ahead text c
  pub counted : c.cards ≡ length cards

-- What the reading of a whole text promises: it is Reading's. Where the text is accepted, with so many cards, their words are written, as far as there is
-- room.
abbrev pub Told : List ℕ → Result ℕ SyntaxError → List ℕ → List ℕ → Type 0
Told text (Ok n) before after = (es : List Seen) × (reading text ≡ accepted es) × (n ≡ length (cards_read es)) × (after ≡
    put_cards before card_capacity 0 (cards_read es))
Told text (Err e) before after = reading text ≡ refused (number e) (place e)
