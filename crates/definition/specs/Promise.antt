-- What is promised of a reading, said of texts, which are lists of bytes: request 2.2. parser_laws/proofs/Promised.antt proves it.
use Rattle.std.specs.Prelude.{◌≡◌, List, [], ◌∷◌, ◌++◌, true, false, ◌↔◌, ℕ, ◌+◌, ◌≤◌, ◌<◌, length, take, drop}
use Rattle.std.proofs.Math.Option.{none, some}
use Rattle.definition.specs.Lists.{Among, flat_map}
use Rattle.definition.specs.Derivation.{Token, Seen, Comes}
use Rattle.definition.specs.Lexical.{unreadable, lexeme, tokens_in}
use Rattle.definition.specs.ItemCards.{cards_read, too_deep}
use Rattle.definition.specs.Cards.{words_of_card}
use Rattle.definition.specs.Reading.{Reading, accepted, refused, reading}
use Rattle.definition.specs.Refusals.{text_capacity, card_capacity, read_cards_capacity}
use Rattle.definition.specs.Outcomes.{listed_in, parse}

-- ---- Texts of the grammar.

-- A text of the grammar (2.2): bytes that are read to their end and whose tokens come from `Document`; es is what they come by.
pub record TextOf (text : List ℕ) (es : List Seen) : Type 0 where
  pub readable : (tokens_in text).broken ≡ false
  pub comes : Comes (tokens_in text).tokens es

-- Some text of the grammar begins with these bytes: they, a line feed, and what is added.
pub record GoesOn (begun : List ℕ) : Type 0 where
  pub added : List ℕ
  pub seen : List Seen
  pub is : TextOf (begun ++ (10 ∷ added)) seen

-- The sorts of tokens, which are all that the grammar asks of them.
unfoldable pub sorts : List Token → List ℕ
sorts [] = []
sorts (t ∷ ts) = t.sort ∷ sorts ts

-- Some text of the grammar has tokens of these sorts and no others, whatever stands between them.
pub record SomeText (ss : List ℕ) : Type 0 where
  pub text : List ℕ
  pub seen : List Seen
  pub is : TextOf text seen
  pub sorted : sorts (tokens_in text).tokens ≡ ss

-- ---- 29, 30, or accepted.

-- What 29 tells of (2.2): a token, a byte with which nothing readable begins (of a broken string or number the first), or the end of the text stands
-- at a place, and no text of the grammar has it after tokens of the same sorts as those before it.
pub data NoneHas (text : List ℕ) (place : ℕ) : Type 0 where
  -- a token, after those before it
  no_token_lem :
      (before : List Token) (t : Token) (after : List Token) → (tokens_in text).tokens ≡ before ++ (t ∷ after) → t.begins ≡ place →
      ((more : List ℕ) → SomeText (sorts before ++ (t.sort ∷ more)) → ⊥) → NoneHas text place
  -- nothing readable
  no_reading :
      (tokens_in text).broken ≡ true → (tokens_in text).ends ≡ place → place < length text → lexeme (drop place text) ≡ unreadable → NoneHas text place
  -- the end of the text, after all its tokens
  no_end : (tokens_in text).broken ≡ false → length text ≡ place → (SomeText (sorts (tokens_in text).tokens) → ⊥) → NoneHas text place

-- What a text is read as (2.2): accepted, 29 or 30, whichever of the two comes first in the text.
pub data Promised (text : List ℕ) : Reading → Type 0 where
  -- A text of the grammar with no 33rd level.
  accepts : {es : List Seen} → TextOf text es → too_deep 0 es ≡ none → Promised text (accepted es)
  -- 29 at the first place with something that no text of the grammar has there: up to it some text of the grammar begins with the same bytes, and
  -- opens no 33rd level before it.
  refuses_29 :
      {place : ℕ} (c : GoesOn (take place text)) → ((deep : ℕ) → too_deep 0 c.seen ≡ some deep → place ≤ deep) → NoneHas text place →
      Promised text (refused 29 place)
  -- 30 at the opener of a 33rd level: through it some text of the grammar begins with the same bytes, and it is the first that opens one.
  refuses_30 :
      {place : ℕ} (t : Token) → Among t (tokens_in text).tokens → t.begins ≡ place → (c : GoesOn (take (place + t.size) text)) →
      too_deep 0 c.seen ≡ some place → Promised text (refused 30 place)

-- ---- The call.

-- None of 24, 25, 30 and 31 refuses the text, which is one of the grammar (2.2).
pub record Passes (text slice : List ℕ) : Type 0 where
  pub seen : List Seen
  pub is : TextOf text seen
  pub no30 : too_deep 0 seen ≡ none
  pub no24 : length text ≤ text_capacity
  pub no25 : length (cards_read seen) ≤ card_capacity
  pub no31 : read_cards_capacity ≤ length slice

-- ---- The promise, whole.

pub record ReadingPromised : Type 0 where
  -- What the function makes of a text is promised of it, and nothing else is.
  pub kept : (text : List ℕ) → Promised text (reading text)
  pub alone : (text : List ℕ) (r : Reading) → Promised text r → r ≡ reading text
  -- Accepted are the texts of the grammar with no 33rd level, and no others; and a text of the grammar comes by one thing alone, so its cards are
  -- those and no others.
  pub accepting : (text : List ℕ) (es : List Seen) → (reading text ≡ accepted es) ↔ (TextOf text es × (too_deep 0 es ≡ none))
  pub one_way : (text : List ℕ) (es fs : List Seen) → TextOf text es → TextOf text fs → es ≡ fs
  -- 29 at a token, said of bytes: no text of the grammar begins with the same bytes through that token and has a token there, of as many bytes.
  pub no_such_text :
      (text more : List ℕ) (t u : Token) (es : List Seen) → reading text ≡ refused 29 t.begins → Among t (tokens_in text).tokens →
      TextOf (take (t.begins + t.size) text ++ more) es → Among u (tokens_in (take (t.begins + t.size) text ++ more)).tokens →
      u.begins ≡ t.begins → u.size ≡ t.size → ⊥
  -- The call returns 0 just where nothing refuses the text, and then its card count and its cards; a refused call leaves the slice as it was.
  pub passing : (text slice : List ℕ) → ((parse text slice).answer.number ≡ 0) ↔ Passes text slice
  pub carded :
      (text slice : List ℕ) (p : Passes text slice) →
      parse text slice ≡ listed_in slice (length (cards_read p.seen)) (flat_map words_of_card (cards_read p.seen))
  pub leaving : (text slice : List ℕ) → ((parse text slice).answer.number ≡ 0 → ⊥) → (parse text slice).list ≡ slice
