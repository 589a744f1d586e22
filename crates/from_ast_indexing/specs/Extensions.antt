-- What each step of listing the extensions and the orphans does, by the cards' numbers alone.
use Rattle.std.specs.Prelude.{◌≡◌, List, [], ◌∷◌, ◌++◌, Bool, true, false, ℕ, ◌+◌, ◌≤◌, ◌<◌, eqb, take, get_or, set}
use Rattle.definition.specs.Lists.{choose, filter, firsts}
use Rattle.definition.specs.Answers.{absent}
use Rattle.store_reader.specs.Stored.{card_kind}
use Rattle.from_ast_index.specs.Index.{same_cards, is_type_extension_kind}
use Rattle.word_list.specs.Listed.{listed_in}
use Rattle.word_list.specs.declared.WordList.{WordList}
use Rattle.from_ast_indexing.specs.declared.entry.FirstCards.{FirstCards}
use Rattle.from_ast_indexing.specs.Entering.{first_card, entered_in, cards_of}

unfoldable pub is_extension_card : List ℕ → ℕ → Bool
is_extension_card words c = is_type_extension_kind (card_kind words c)

-- Whether an array of owners has none for a card.
unfoldable pub is_unowned : List ℕ → ℕ → Bool
is_unowned owners c = eqb (get_or owners c 0) absent

-- What one heading does to the owners and the extensions.
pub record ExtensionTurn (text words types : List ℕ) (card : ℕ) (owners₀ owners : List ℕ) (extensions₀ extensions : WordList) : Type 0 where
  pub owners_are : owners ≡ choose (is_extension_card words card) (set owners₀ card (first_card (same_cards text words) card types)) owners₀
  pub extensions_are : listed_in extensions ≡ choose (is_extension_card words card) (listed_in extensions₀ ++ (card ∷ [])) (listed_in extensions₀)
  pub len_most : extensions.len ≤ extensions₀.len + 1

-- What the first k headings did; the owners of other cards stay.
pub record ExtensionsAre (text words headings types owners₀ owners extensions : List ℕ) (k : ℕ) : Type 0 where
  pub extensions_are : extensions ≡ filter (is_extension_card words) (take k headings)
  pub owners_are :
      (j : ℕ) → j < k → is_extension_card words (get_or headings j 0) ≡ true →
      get_or owners (get_or headings j 0) 0 ≡ first_card (same_cards text words) (get_or headings j 0) types
  pub others_stay : (c : ℕ) → is_extension_card words c ≡ false → get_or owners c 0 ≡ get_or owners₀ c 0

-- What one extension does to the orphans.
pub record OrphanTurn (text words owners : List ℕ) (card : ℕ) (orphans₀ orphans : FirstCards) : Type 0 where
  pub orphans_are : cards_of orphans ≡ choose (is_unowned owners card) (entered_in (same_cards text words) card (cards_of orphans₀)) (cards_of orphans₀)
  pub len_most : orphans.len ≤ orphans₀.len + 1

-- What the first k extensions did.
abbrev pub OrphansAre : (text words owners extensions orphans : List ℕ) (k : ℕ) → Type 0
OrphansAre text words owners extensions orphans k = orphans ≡ firsts (same_cards text words) [] (filter (is_unowned owners) (take k extensions))
