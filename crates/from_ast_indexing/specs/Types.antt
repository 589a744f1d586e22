-- What each step of listing the types does, by the cards' numbers alone.
use Rattle.std.specs.Prelude.{◌≡◌, List, [], Bool, true, ℕ, ◌+◌, ◌≤◌, ◌<◌, take, get_or, set}
use Rattle.definition.specs.Lists.{choose, filter, firsts}
use Rattle.definition.specs.Cards.{is_type}
use Rattle.store_reader.specs.Stored.{card_kind}
use Rattle.from_ast_index.specs.Index.{same_cards}
use Rattle.from_ast_indexing.specs.declared.entry.FirstCards.{FirstCards}
use Rattle.from_ast_indexing.specs.Entering.{first_card, entered_in, first_entered, cards_of}

unfoldable pub is_type_card : List ℕ → ℕ → Bool
is_type_card words c = is_type (card_kind words c)

-- What one heading does to the owners and the types.
pub record TypeTurn (text words : List ℕ) (card : ℕ) (owners₀ owners : List ℕ) (types₀ types : FirstCards) : Type 0 where
  pub owners_are : owners ≡ choose (is_type_card words card) (set owners₀ card (first_entered (same_cards text words) card (cards_of types₀))) owners₀
  pub types_are : cards_of types ≡ choose (is_type_card words card) (entered_in (same_cards text words) card (cards_of types₀)) (cards_of types₀)
  pub len_most : types.len ≤ types₀.len + 1

-- What the first k headings did.
pub record TypesAre (text words headings owners : List ℕ) (types : FirstCards) (k : ℕ) : Type 0 where
  pub types_are : cards_of types ≡ firsts (same_cards text words) [] (filter (is_type_card words) (take k headings))
  pub owners_are :
      (j : ℕ) → j < k → is_type_card words (get_or headings j 0) ≡ true →
      get_or owners (get_or headings j 0) 0 ≡ first_card (same_cards text words) (get_or headings j 0) (filter (is_type_card words) headings)
  pub types_most : types.len ≤ k
