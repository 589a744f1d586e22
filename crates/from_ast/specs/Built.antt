-- What a build asks: a sound store, and slices that 7 does not refuse. What it leaves: the defined catalogue.
use Rattle.std.specs.Prelude.{◌≡◌, List, true, ℕ, ◌≤◌, length, Ok}
use Rattle.definition.specs.Merge.{merge}
use Rattle.definition.specs.Numbers.{drawing_answer}
use Rattle.definition.specs.Refusals.{rows_capacity, errors_capacity}
use Rattle.definition.specs.Store.{words_capacity, sound, account_in}
use Rattle.definition.specs.Outcomes.{merged_into}
use Rattle.definition.specs.declared.Drawn.{Drawn}
use Rattle.from_ast_errors.specs.declared.ErrorCounts.{ErrorCounts}

-- A build that is not refused, with n rows and the errors that r counts.
abbrev pub drawn : ℕ → ErrorCounts → Drawn
drawn n r = record { rows = n; reading_errors = r.reading; drawing_errors = r.drawing; tallies = r.tallies }

pub record BuildAsked (text words rows errors : List ℕ) : Type 0 where
  pub store_sound : sound text words ≡ true
  pub words_length : words_capacity ≤ length words
  pub rows_length : rows_capacity ≤ length rows
  pub errors_length : errors_capacity ≤ length errors

abbrev pub Built : (text words rows₀ errors₀ : List ℕ) (r : Drawn) (rows errors : List ℕ) → Type 0
Built text words rows₀ errors₀ r rows errors =
    record { drawing = drawing_answer (Ok r); rows = rows; errors = errors }
    ≡ merged_into rows₀ errors₀ (merge (account_in text words).adopt (account_in text words).documents)
