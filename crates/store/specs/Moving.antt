-- What moving a card's spans asks.
use Rattle.std.specs.Prelude.{ℕ, ◌≤◌}
use Rattle.definition.specs.Cards.{Card}

-- A card whose offsets are at most n, so that they can be moved.
abbrev pub Within : ℕ → Card → Type 0
Within n c = (c.item_at ≤ n) × (c.name_at ≤ n)
