-- What 26 asks of a row by itself, and the marks.
use Rattle.std.specs.Prelude.{List, Bool, true, false, ◌||◌, not, ℕ, eqb, ltb, get_or, set}
use Rattle.definition.specs.Lists.{choose}
use Rattle.definition.specs.Answers.{absent}
use Rattle.definition.specs.Cards.{is_extension}
use Rattle.definition.specs.Headings.{NamedCard}
use Rattle.definition.specs.Catalogue.{Row}
use Rattle.definition.specs.Store.{cards_used_of}
use Rattle.definition.specs.LentRows.{is_default_root, wanted_kind, card_passes, origin_passes, default_root_passes}
use Rattle.store_reader.specs.Stored.{card_kind}

-- ---- A row by itself.

-- `card_passes` by the store's words.
unfoldable pub card_fits : List ℕ → Row → Bool
card_fits words r =
    choose (eqb r.card absent) (eqb r.what 4 || is_default_root r)
    (choose (ltb r.card (cards_used_of words)) (eqb (card_kind words r.card) (wanted_kind r)) false)

-- `origin_passes` by the store's words: a card that is not stored is no extension.
unfoldable pub origin_fits : List ℕ → ℕ → Bool
origin_fits words origin = eqb origin absent || is_extension (card_kind words origin)

unfoldable pub row_passes : List NamedCard → List Row → Row → Bool
row_passes cs rs r = choose (card_passes cs r) (choose (origin_passes cs r) (default_root_passes cs rs r) false) false

-- ---- Marks: one for each stored card, whether a row had it.

unfoldable pub is_free : List Bool → ℕ → Bool
is_free marks card = eqb card absent || not (get_or marks card false)

unfoldable pub marked : List Bool → ℕ → List Bool
marked marks card = choose (eqb card absent) marks (set marks card true)
