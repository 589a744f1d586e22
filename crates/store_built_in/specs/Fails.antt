-- Which cards give an error in a document without barred kinds that stands alone.
use Rattle.std.specs.Prelude.{List, Bool, false, ◌&&◌, ◌||◌, not, ℕ, eqb, leb, Option as Lent, Some, None}
use Rattle.std.proofs.Math.Option.{Option, none, some}
use Rattle.definition.specs.Lists.{choose, found, any}
use Rattle.definition.specs.Names.{same_name}
use Rattle.definition.specs.Cards.{Card, is_part, is_type}
use Rattle.definition.specs.Headings.{name_of, named_card, alike}
use Rattle.ast.specs.Cards.{cards_between}

-- The card defines a type of the name.
unfoldable pub type_named : List ℕ → List ℕ → Card → Bool
type_named text name c = is_type c.kind && same_name name (name_of text c)

-- Two parts of which a list holds only the first; their numbers don't count.
unfoldable pub alike_cards : List ℕ → Card → Card → Bool
alike_cards text c d = alike (named_card text 0 c) (named_card text 0 d)

-- A heading that gives an error itself, after the cards `before`. A directive never does: the one before it is built-in and gives way.
unfoldable pub heading_fails : List ℕ → List Card → Card → Bool
heading_fails text before c = leb c.kind 2 || (not (eqb c.kind 3) && any (type_named text (name_of text c)) before)

-- A card that gives an error, `seen` being the parts before it under the same type, if it stands under a type.
unfoldable pub card_fails : List ℕ → List Card → Option (List Card) → Card → Bool
card_fails text before seen c = choose (is_part c.kind) (found seen (any (alike_cards text c)) false) (heading_fails text before c)

-- The parts under the same type before the card i, where the first of them is known.
abbrev pub seen_of : List ℕ → Lent ℕ → ℕ → Option (List Card)
seen_of ws (Some from) i = some (cards_between ws from i)
seen_of ws None i = none
