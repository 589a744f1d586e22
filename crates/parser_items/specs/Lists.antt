-- What a function promises that reads symbols with cards and writes the cards' words.
use Rattle.std.specs.Prelude.{◌≡◌, List, [], ◌∷◌, ◌++◌, ℕ, ◌+◌, ◌-◌, ◌*◌, ◌≤◌, leb, length, set}
use Rattle.definition.specs.Lists.{choose}
use Rattle.definition.specs.Grammar.{Symbol}
use Rattle.definition.specs.Cards.{Card}
use Rattle.definition.specs.Refusals.{card_capacity, text_capacity}
use Rattle.parser_laws.specs.Standing.{standing}
use Rattle.parser_lexer.specs.Ahead.{Ahead}
use Rattle.parser_lexer.specs.declared.cursor.Cursor.{Cursor}
use Rattle.parser_values.specs.Reads.{End, goes_on, Ready, Stays, Moves}
use Rattle.parser_items.specs.declared.cards.ItemEnd.{ItemEnd}

abbrev pub card_of : ℕ → ℕ → ℕ → ℕ → ℕ → Card
card_of k at size name n = record { kind = k; item_at = at; item_len = size; name_at = name; name_len = n }

-- The card of an item of a kind whose first token stands ahead of `first` and whose name ahead of `name`, and that ends at a place.
abbrev pub item_card : ℕ → Cursor → Cursor → ℕ → Card
item_card k first name end = card_of k first.begins (end - first.begins) name.begins (name.ends - name.begins)

-- What is told behind an item: what c tells, with one card more than where the item began.
abbrev pub one_more : Cursor → Cursor → ItemEnd
one_more first c = record { sort = c.sort; begins = c.begins; ends = c.ends; last = c.last; cards = first.cards + 1 }

-- The cursor k behind an item: that of c, with one card more than where the item began.
abbrev pub OneMore : Cursor → Cursor → Cursor → Type 0
OneMore first c k =
    (k.text.now ≡ c.text.now) ×
    (k.sort ≡ c.sort) ×
    (k.begins ≡ c.begins) ×
    (k.ends ≡ c.ends) ×
    (k.last ≡ c.last) ×
    (k.cards ≡ first.cards + 1)

-- The text is short enough for a store, so that its places are words of a card. Readers of values and of tokens take any text, so no cursor says this of
-- itself.
abbrev pub Short : Cursor → Type 0
Short c = length c.text.now ≤ text_capacity

-- Words with card n written, where n is below the room.
unfoldable pub put_card : List ℕ → ℕ → ℕ → Card → List ℕ
put_card ws room n c =
    choose (leb room n) ws (set (set (set (set (set ws (n * 5) c.kind) (n * 5 + 1) c.item_at) (n * 5 + 2) c.item_len) (n * 5 + 3) c.name_at)
    (n * 5 + 4) c.name_len)

-- Cards from n on.
unfoldable pub put_cards : List ℕ → ℕ → ℕ → List Card → List ℕ
put_cards ws room n [] = ws
put_cards ws room n (c ∷ cs) = put_cards (put_card ws room n c) room (n + 1) cs

-- Whatever symbols come after ps, and whatever cards there are: the reading from c on, by ps and then by them, ends as the reading by them from the end
-- on, with the new cards behind those there were, or in the refusal. The new cards' words are written, as far as there is room.
pub record Lists (ps : List Symbol) (text : List ℕ) (c : Cursor) (r : End) (before after : List ℕ) : Type 0 where
  pub cards : List Card
  pub written : after ≡ put_cards before card_capacity c.cards cards
  pub goes : (ss : List Symbol) (cs : List Card) (h : ℕ) → standing text c.last (ps ++ ss) 0 cs h ≡ goes_on text r ss 0 (cs ++ cards) h
  pub ready : Ready text (c.cards + length cards) r

-- What is promised of the symbols ps from c on: where a token must be read, and where none need be. As in parser_values, that the cursor tells what stands
-- ahead is a premise of what is promised of the reading, and none of what is promised of places.
abbrev pub MustList : List Symbol → List ℕ → Cursor → End → List ℕ → List ℕ → Type 0
MustList ps text c e before after = (Ahead text c → Lists ps text c e before after) × Moves text c e

abbrev pub MayList : List Symbol → List ℕ → Cursor → End → List ℕ → List ℕ → Type 0
MayList ps text c e before after = (Ahead text c → Lists ps text c e before after) × Stays text c e

-- The same of a cursor's own text, as contracts say it.
abbrev pub MustListed : List Symbol → Cursor → End → List ℕ → List ℕ → Type 0
MustListed ps c e before after = MustList ps c.text.now c e before after

abbrev pub MayListed : List Symbol → Cursor → End → List ℕ → List ℕ → Type 0
MayListed ps c e before after = MayList ps c.text.now c e before after

-- In the middle of reading ps from b on: it has come to c, and the symbols qs are left of ps.
pub record Listing (ps : List Symbol) (text : List ℕ) (b : Cursor) (before : List ℕ) (qs : List Symbol) (c : Cursor) (after : List ℕ) : Type 0 where
  pub cards : List Card
  pub written : after ≡ put_cards before card_capacity b.cards cards
  pub goes : (ss : List Symbol) (cs : List Card) (h : ℕ) → standing text b.last (ps ++ ss) 0 cs h ≡ standing text c.last (qs ++ ss) 0 (cs ++ cards) h
  pub ahead : Ahead text c
  pub counted : c.cards ≡ b.cards + length cards

-- In the middle of an item that began at b, and whose card so far is x: it has come to c, and the symbols qs are left of ps. Nothing is written yet.
pub record Item (ps : List Symbol) (text : List ℕ) (b : Cursor) (qs : List Symbol) (c : Cursor) (x : Card) : Type 0 where
  pub goes : (ss : List Symbol) (cs : List Card) (h : ℕ) → standing text b.last (ps ++ ss) 0 cs h ≡ standing text c.last (qs ++ ss) 0 (cs ++ (x ∷ [])) h
  pub ahead : Ahead text c
  pub counted : c.cards ≡ b.cards
