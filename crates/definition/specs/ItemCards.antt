-- The cards of a text, from what its reading comes by: 01, "Cards", and 2.2: one card for each item, spanned from its first token (description
-- included) to its last.
use Rattle.std.specs.Prelude.{List, [], ◌∷◌, ◌++◌, ℕ, zero, suc, ◌+◌, ◌-◌, leb, length}
use Rattle.std.proofs.Math.Option.{Option, none, some}
use Rattle.definition.specs.Lists.{choose}
use Rattle.definition.specs.Cards.{Card}
use Rattle.definition.specs.Grammar.{Mark, heading, kind, heading_ends, item, item_ends, named, deeper, shallower}
use Rattle.definition.specs.Derivation.{Token, Seen, token, marked}

-- The list with the element at a place changed.
unfoldable pub amend : (Card → Card) → ℕ → List Card → List Card
amend f i [] = []
amend f zero (c ∷ cs) = f c ∷ cs
amend f (suc i) (c ∷ cs) = c ∷ amend f i cs

-- The cards so far, the number of the newest heading's card, and where the token just read ends.
pub record Listing : Type 0 where
  pub cards : List Card
  pub head : ℕ
  pub end : ℕ

-- A card whose item begins at a place.
unfoldable pub begun : ℕ → ℕ → Card
begun k at = record { kind = k; item_at = at; item_len = 0; name_at = 0; name_len = 0 }

unfoldable pub of_kind : ℕ → Card → Card
of_kind k c = record { kind = k; item_at = c.item_at; item_len = c.item_len; name_at = c.name_at; name_len = c.name_len }

-- With an item that ends at a place.
unfoldable pub ended : ℕ → Card → Card
ended end c = record { kind = c.kind; item_at = c.item_at; item_len = end - c.item_at; name_at = c.name_at; name_len = c.name_len }

unfoldable pub named_by : Token → Card → Card
named_by t c = record { kind = c.kind; item_at = c.item_at; item_len = c.item_len; name_at = t.begins; name_len = t.size }

-- What a mark does before the token `next`.
unfoldable pub noting : Mark → Token → Listing → Listing
noting heading next l = record { cards = l.cards ++ (begun 0 next.begins ∷ []); head = length l.cards; end = l.end }
noting (kind k) next l = record { cards = amend (of_kind k) l.head l.cards; head = l.head; end = l.end }
noting heading_ends next l = record { cards = amend (ended l.end) l.head l.cards; head = l.head; end = l.end }
noting (item k) next l = record { cards = l.cards ++ (begun k next.begins ∷ []); head = l.head; end = l.end }
noting item_ends next l = record { cards = amend (ended l.end) (length l.cards - 1) l.cards; head = l.head; end = l.end }
noting named next l = record { cards = amend (named_by next) (length l.cards - 1) l.cards; head = l.head; end = l.end }
noting deeper next l = l
noting shallower next l = l

-- After a token.
unfoldable pub passed : Token → Listing → Listing
passed t l = record { cards = l.cards; head = l.head; end = t.begins + t.size }

-- The next token; a token of no size at 0 where there is none.
abbrev pub no_token : Token
no_token = record { sort = 0; begins = 0; size = 0 }

unfoldable pub next : List Seen → Token
next [] = no_token
next (token t ∷ es) = t
next (marked m ∷ es) = next es

unfoldable pub listed : Listing → List Seen → Listing
listed l [] = l
listed l (token t ∷ es) = listed (passed t l) es
listed l (marked m ∷ es) = listed (noting m (next es) l) es

unfoldable pub nothing_listed : Listing
nothing_listed = record { cards = []; head = 0; end = 0 }

unfoldable pub cards_read : List Seen → List Card
cards_read es = (listed nothing_listed es).cards

-- ---- Levels: 2.2, "a value or list type nested deeper than 32".

abbrev pub levels : ℕ
levels = 32

unfoldable pub level_after : Mark → ℕ → ℕ
level_after heading l = l
level_after (kind k) l = l
level_after heading_ends l = l
level_after (item k) l = l
level_after item_ends l = l
level_after named l = l
level_after deeper l = l + 1
level_after shallower l = l - 1

-- Where the first token begins at which more levels are open: it opens the 33rd. l are open before what is seen.
unfoldable pub too_deep : ℕ → List Seen → Option ℕ
too_deep l [] = none
too_deep l (token t ∷ es) = let r = too_deep l es in choose (leb l levels) r (some t.begins)
too_deep l (marked m ∷ es) = too_deep (level_after m l) es
