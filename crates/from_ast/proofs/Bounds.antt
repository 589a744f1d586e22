-- There is room for a sound store's rows and errors, and what was built is the defined catalogue.
use mathlib.Core.Path.{◌≡◌, refl, sym, ap, ◌∙◌}
use mathlib.Core.List.{List, []}
use mathlib.Core.Bool.{Bool, true}
use Prim.Native.Nat.{ℕ, ◌*◌, ◌≤◌}
use native.Mathlib.Omega.{arith}
use lib.Dec.{eqb}
use lib.ListN.{length, take, drop, length-take}
use lib.Seq.{take_at}
use Rattle.definition.specs.Lists.{flat_map, written}
use Rattle.definition.specs.Headings.{Heading}
use Rattle.definition.specs.Catalogue.{Row, rows}
use Rattle.definition.specs.Errors.{reading_errors, drawing_errors}
use Rattle.definition.specs.Merge.{Merged, merge}
use Rattle.definition.specs.Refusals.{rows_capacity, errors_capacity}
use Rattle.definition.specs.Store.{adopt_word, sound, account_in}
use Rattle.definition.specs.Numbers.{drawing_answer}
use Rattle.std.specs.Prelude.{Ok}
use Rattle.definition.specs.Outcomes.{BuildOutcome, words_of_row, merged_into}
use Rattle.definition.proofs.StoreLayout.{written_at}
use Rattle.definition.proofs.BuiltWords.{words_length}
use Rattle.store_reader.specs.Stored.{stored_headings}
use Rattle.store_reader.proofs.Laws.{headings_stored}
use Rattle.from_ast_index.specs.declared.Collection.{Collection}
use Rattle.from_ast_errors.specs.declared.ErrorCounts.{ErrorCounts}
use Rattle.from_ast_errors.specs.Written.{all_errors, ErrorsWritten}
use Rattle.from_ast_errors.proofs.Fits.{rows_fit_lem, errors_fit_lem}
use Rattle.from_ast.specs.Built.{drawn, Built}

-- The catalogue of headings.
unfoldable built_headings : Bool → List Heading → Merged
built_headings a hs = record { rows = rows a hs; reading_errors = reading_errors [] hs; drawing_errors = drawing_errors a hs }

-- A build's answer and slices.
abbrev outcome : ℕ → ErrorCounts → List ℕ → List ℕ → BuildOutcome
outcome n r rows errors = record { drawing = drawing_answer (Ok (drawn n r)); rows = rows; errors = errors }

module _ (text words : List ℕ) (ok : sound text words ≡ true) where
  built_is : (a : Bool) → merge a (account_in text words).documents ≡ built_headings a (stored_headings text words)
  unfolding merge built_headings
  built_is a = ap (built_headings a) (headings_stored text words ok)

  pub rows_capacity_lem : (a : Bool) (out : List ℕ) → rows_capacity ≤ length out → 3 * length (rows a (stored_headings text words)) ≤ length out
  rows_capacity_lem a out l = let f = rows_fit_lem text words ok a in omega arith

  -- They are few.
  pub rows_few : (a : Bool) (n : ℕ) → n ≡ length (rows a (stored_headings text words)) → 3 * n ≤ rows_capacity
  rows_few a n e = let f = rows_fit_lem text words ok a in omega arith

  pub errors_capacity_lem : (a : Bool) (out : List ℕ) → errors_capacity ≤ length out → 3 * length (all_errors a (stored_headings text words)) ≤ length out
  errors_capacity_lem a out l = let f = errors_fit_lem text words ok a in omega arith

-- What was written of a collection was written of one that equals it.
module _ {k l : Collection} (same : k ≡ l) (a : Bool) where
  pub rows_alike : (before after : List ℕ) → after ≡ written before 0 (flat_map words_of_row (rows a (stored_headings k.text.now k.words.now))) →
      after ≡ written before 0 (flat_map words_of_row (rows a (stored_headings l.text.now l.words.now)))
  rows_alike before after e = e ∙ ap (λ (c : Collection). written before 0 (flat_map words_of_row (rows a (stored_headings c.text.now c.words.now)))) same

  pub count_alike : {n : ℕ} → n ≡ length (rows a (stored_headings k.text.now k.words.now)) → n ≡ length (rows a (stored_headings l.text.now l.words.now))
  count_alike e = e ∙ ap (λ (c : Collection). length (rows a (stored_headings c.text.now c.words.now))) same

-- The rows that were written stand at the front.
pub rows_stand : (xs : List ℕ) (rs : List Row) (n : ℕ) (out : List ℕ) → n ≡ length rs → out ≡ written xs 0 (flat_map words_of_row rs) →
    take (3 * n) out ≡ flat_map words_of_row rs
rows_stand xs rs n out k e =
    ap (take (3 * n)) (e ∙ written_at [] xs (flat_map words_of_row rs) 0 refl)
    ∙ take_at (flat_map words_of_row rs) (drop (length (flat_map words_of_row rs)) xs) (3 * n) (omega (arith, words_length rs))

-- They lie within the slice.
pub rows_within : (xs : List ℕ) (rs : List Row) (n : ℕ) (out : List ℕ) → n ≡ length rs → out ≡ written xs 0 (flat_map words_of_row rs) → 3 * n ≤ length out
rows_within xs rs n out k e =
    omega (arith, ap length (rows_stand xs rs n out k e), words_length rs, length-take (3 * n) out)

-- What the rows and the errors leave is the outcome of the build.
module _ (text words : List ℕ) (ok : sound text words ≡ true) (before told : List ℕ) where
  abbrev stored : List Heading
  stored = stored_headings text words

  of_headings : (a : Bool) (n : ℕ) (r : ErrorCounts) (after said : List ℕ) →
      after ≡ written before 0 (flat_map words_of_row (rows a stored)) → n ≡ length (rows a stored) → ErrorsWritten a stored told said r →
      outcome n r after said ≡ merged_into before told (built_headings a stored)
  unfolding merged_into built_headings all_errors
  of_headings a n r after said p q e = λ i. record {
    drawing = record {
      number = 0;
      rows = q i;
      reading_errors = e.reading_count i;
      drawing_errors = e.drawing_count i;
      tallies = record { counts = e.tallies_are i; total = e.total_is i };
    };
    rows = p i;
    errors = e.errors_are i;
  }

  pub built : (n : ℕ) (r : ErrorCounts) (after said : List ℕ) →
      after ≡ written before 0 (flat_map words_of_row (rows (eqb (adopt_word words) 1) stored)) → n ≡ length (rows (eqb (adopt_word words) 1) stored) →
      ErrorsWritten (eqb (adopt_word words) 1) stored told said r → Built text words before told (drawn n r) after said
  unfolding account_in
  built n r after said p q e =
      of_headings (eqb (adopt_word words) 1) n r after said p q e
      ∙ ap (merged_into before told) (sym (built_is text words ok (eqb (adopt_word words) 1)))
