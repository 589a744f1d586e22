-- What pushing errors does to the errors slice and to the tallies.
use Rattle.std.specs.Prelude.{List, [], ◌∷◌, ℕ, ◌+◌, ◌-◌, ◌*◌, ◌≤◌, ◌<◌, length, get_or, set, replicate}
use Rattle.std.specs.Borrow.{MutBor}
use Rattle.definition.specs.Lists.{written}
use Rattle.definition.specs.Errors.{Error}
use Rattle.definition.specs.Merge.{error_numbers}
use Rattle.definition.specs.Refusals.{card_capacity}
use Rattle.definition.specs.Outcomes.{words_of_error}
use Rattle.from_ast_collisions.specs.declared.pushing.Errors.{Errors}

-- No errors yet, and the slice that they will be written into.
abbrev pub no_errors : MutBor (List ℕ) → Errors
no_errors words = record { words = words; tallies = record { counts = replicate error_numbers 0; total = 0 } }

-- One more of a number.
unfoldable pub counted_in : List ℕ → ℕ → List ℕ
counted_in counts n = set counts (n - 1) (get_or counts (n - 1) 0 + 1)

-- The errors pushed so far are as many as the total, and each has its three words in the slice.
unfoldable pub push : Errors → Error → Errors
push l e = record {
  words = record l.words { now = written l.words.now (3 * l.tallies.total) (words_of_error e) };
  tallies = record { counts = counted_in l.tallies.counts e.number; total = l.tallies.total + 1 };
}

unfoldable pub push_all : Errors → List Error → Errors
push_all l [] = l
push_all l (e ∷ es) = push_all (push l e) es

-- There is room for an error: three words past those used, and counts that stay below 2 to the 32nd, for no store gives more errors than cards.
pub record ErrorFits (l : Errors) (e : Error) : Type 0 where
  pub words : 3 * l.tallies.total + 3 ≤ length l.words.now
  pub total : l.tallies.total < card_capacity
  pub count : get_or l.tallies.counts (e.number - 1) 0 < card_capacity
  pub least : 1 ≤ e.number
  pub most : e.number ≤ error_numbers

-- There is room for errors pushed one after another.
unfoldable pub Capacity : Errors → List Error → Type 0
Capacity l [] = Unit {0}
Capacity l (e ∷ es) = ErrorFits l e × Capacity (push l e) es
