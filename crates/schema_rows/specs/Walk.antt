-- Refusal 26 as one walk over the rows asks it.
use Rattle.std.specs.Prelude.{List, [], Bool, false, ◌≡◌, ℕ, ◌<◌, eqb, length, get_or}
use Rattle.definition.specs.Lists.{choose, any, all, is_empty, repeats}
use Rattle.definition.specs.Headings.{NamedCard}
use Rattle.definition.specs.Catalogue.{Row}
use Rattle.definition.specs.Refusals.{card_capacity}
use Rattle.definition.specs.LentRows.{in_order, order_passes, same_card}
use Rattle.schema_rows.specs.Passing.{row_passes}

-- The rows that are left, after those seen.

unfoldable pub ordered_from : ℕ → ℕ → List Row → Bool
ordered_from k p rs = choose (eqb k 0) (order_passes [] rs) (in_order k p rs)

unfoldable pub once_from : List Row → List Row → Bool
once_from seen rs = is_empty (repeats same_card seen rs)

unfoldable pub rest_passes : List NamedCard → List Row → ℕ → ℕ → List Row → List Row → Bool
rest_passes cs rs k p seen xs = choose (ordered_from k p xs) (choose (once_from seen xs) (all (row_passes cs rs) xs) false) false

unfoldable pub has_card : ℕ → Row → Bool
has_card c r = eqb c r.card

-- The marks after the rows seen.
pub record Marked (marks : List Bool) (seen : List Row) : Type 0 where
  pub size : length marks ≡ card_capacity
  pub told : (c : ℕ) → c < card_capacity → get_or marks c false ≡ any (has_card c) seen
