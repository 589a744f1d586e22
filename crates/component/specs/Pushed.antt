-- Rows pushed one after another into a lent slice: what stands in it so far, and how many of its rows are used.
use Rattle.std.specs.Prelude.{◌≡◌, Option, Some, None, List, [], ◌∷◌, map, Bool, ◌&&◌, ◌||◌, not, ℕ, zero, suc, ◌+◌, ◌-◌, ◌*◌, ◌≤◌, eqb, length, get_or}
use Rattle.std.specs.Option.{unwrap_or}
use Rattle.definition.specs.Answers.{absent}
use Rattle.definition.specs.Lists.{choose, filter, flat_map, firsts, written}
use Rattle.definition.specs.Cards.{is_root}
use Rattle.definition.specs.Catalogue.{Component, Row, row, component_row, is_component_of}
use Rattle.definition.specs.Outcomes.{words_of_row}
use Rattle.component.specs.declared.Row.{Row as CodeRow}
use Rattle.component.specs.declared.Rows.{Rows}

pub record Filled : Type 0 where
  pub rows : List ℕ
  pub used : ℕ

abbrev pub filled : List ℕ → ℕ → Filled
filled rows used = record { rows = rows; used = used }

-- A slice is long enough for the rows that are used then.
abbrev pub Fits : List ℕ → Filled → Type 0
Fits rows s = 3 * s.used ≤ length rows

-- These rows pushed after the used ones; all other words stay.
unfoldable pub pushed : List Row → Filled → Filled
pushed rs s = filled (written s.rows (3 * s.used) (flat_map words_of_row rs)) (s.used + length rs)

-- ---- The code's rows: what they hold, whether a step has room, and what a step makes of them, in the slice that was lent.

abbrev pub row_of : CodeRow → Row
row_of r = row r.what (unwrap_or r.card absent) (unwrap_or r.origin absent)

abbrev pub filled_of : Rows → Filled
filled_of r = filled r.words.now r.used

abbrev pub HasRoom : Rows → (Filled → Filled) → Type 0
HasRoom r step = Fits r.words.now (step (filled_of r))

pub record Becomes (before after : Rows) (step : Filled → Filled) : Type 0 where
  pub same_slice : after.words.ghost_name ≡ before.words.ghost_name
  pub rows_are : filled_of after ≡ step (filled_of before)

-- The row at a place, n rows from a place on, and the used rows from a place on.
unfoldable pub row_in : List ℕ → ℕ → Row
row_in ws i = row (get_or ws (3 * i) 0) (get_or ws (3 * i + 1) 0) (get_or ws (3 * i + 2) 0)

unfoldable pub rows_from : List ℕ → ℕ → ℕ → List Row
rows_from ws i zero = []
rows_from ws i (suc n) = row_in ws i ∷ rows_from ws (i + 1) n

unfoldable pub used_from : ℕ → Filled → List Row
used_from start s = rows_from s.rows start (s.used - start)

-- The place of the first of these rows that passes, where the first of them has the place i.
unfoldable pub place_of : (Row → Bool) → ℕ → List Row → Option ℕ
place_of p i [] = None
place_of p i (r ∷ rs) = let next = place_of p (i + 1) rs in choose (p r) (Some i) next

-- ---- The first of a name stays, asked of rows: `same` says of two cards, by their numbers, whether they have one name.

unfoldable pub alike_rows : (ℕ → ℕ → Bool) → Row → Row → Bool
alike_rows same r s = eqb r.what s.what && (is_root r.what || (not (eqb r.what 20) && same r.card s.card))

-- Those of these rows pushed that are like none of the list that begins at `start`.
unfoldable pub extend_sticky : (ℕ → ℕ → Bool) → ℕ → List Row → Filled → Filled
extend_sticky same start rs s = pushed (firsts (alike_rows same) (used_from start s) rs) s

-- The rows of the components of one kind, each of them.
unfoldable pub rows_of_kind : ℕ → List Component → List Row
rows_of_kind k cs = map component_row (filter (is_component_of k) cs)
