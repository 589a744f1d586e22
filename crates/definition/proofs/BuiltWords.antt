-- What an unrefused drawing writes: its rows and errors as words, read back, and that they fit into slices that 7 does not refuse.
use mathlib.Core.Path.{◌≡◌, refl, sym, ◌∙◌, ap}
use mathlib.Core.List.{List, [], ◌∷◌, ◌++◌, append_assoc, append-nil}
use mathlib.Core.Bool.{Bool, true, false, ◌||◌}
use Prim.Native.Nat.{ℕ, ◌+◌, ◌*◌, ◌/◌, ◌%◌, ◌≤◌}
use native.Mathlib.Omega.{arith}
use native.Mathlib.Nat.{mul-mod_left, mul-div_cancel}
use lib.ListN.{length, length-append, take, drop}
use lib.Seq.{take_all, take-append_seam, length-paste}
use borrow.Author.Tests.{ltb-false}
use Rattle.definition.specs.Lists.{flat_map, chunks, written}
use Rattle.definition.specs.Catalogue.{Row}
use Rattle.definition.specs.Errors.{Error, error}
use Rattle.definition.specs.Merge.{Merged, merge, tallies}
use Rattle.definition.specs.Account.{Account}
use Rattle.definition.specs.Refusals.{rows_capacity, errors_capacity, cards_held, card_capacity}
use Rattle.definition.specs.LentRows.{lent_row, lent_rows}
use Rattle.definition.specs.Outcomes.{words_of_row, words_of_error, unbuilt, merged_into, is_short, build_of}
use Rattle.definition.specs.Growth.{rows_of, reading_errors_of}
use Rattle.definition.specs.Demands.{error_from, error_rows, Bounded, has_card, is_error_of}
use Rattle.definition.proofs.Tests.{or_false}
use Rattle.definition.proofs.Lists.{flat_map_append}
use Rattle.definition.proofs.Bounds.{built_rows_lem, built_errors, built_row_once, built_error_once}

-- ---- Rows and errors as words and back.

pub words_length : (rs : List Row) → length (flat_map words_of_row rs) ≡ length rs * 3
unfolding flat_map words_of_row
words_length [] = refl
words_length (r ∷ rs) = omega (arith, words_length rs)

chunks_back : (rs : List Row) → chunks 3 lent_row (length rs) (flat_map words_of_row rs) ≡ rs
unfolding chunks flat_map words_of_row lent_row
chunks_back [] = refl
chunks_back (r ∷ rs) = ap (λ l. r ∷ l) (chunks_back rs)

pub rows_back : (rs : List Row) → lent_rows (flat_map words_of_row rs) ≡ rs
unfolding lent_rows
rows_back rs = ap (λ n. chunks 3 lent_row n (flat_map words_of_row rs)) (ap (λ n. n / 3) (words_length rs) ∙ mul-div_cancel (length rs) (omega arith))
    ∙ chunks_back rs

pub words_whole : (rs : List Row) → length (flat_map words_of_row rs) % 3 ≡ 0
words_whole rs = ap (λ n. n % 3) (words_length rs) ∙ mul-mod_left (length rs) 3

errors_length : (es : List Error) → length (flat_map words_of_error es) ≡ length es * 3
unfolding flat_map words_of_error
errors_length [] = refl
errors_length (e ∷ es) = omega (arith, errors_length es)

errors_back : (es : List Error) (rest : List ℕ) → chunks 3 error_from (length es) (flat_map words_of_error es ++ rest) ≡ es
unfolding chunks flat_map words_of_error error_from error
errors_back [] rest = refl
errors_back (e ∷ es) rest = ap (λ l. e ∷ l) (errors_back es rest)

-- ---- Written at the beginning of a slice.

pub written_starts : (xs ys : List ℕ) → written xs 0 ys ≡ ys ++ drop (0 + length ys) xs
unfolding written
written_starts xs ys = ap (λ l. l ++ drop (0 + length ys) xs) (take_all (length ys) ys (omega arith))

written_first : (xs ys zs : List ℕ) → take (length ys) (written xs 0 (ys ++ zs)) ≡ ys
written_first xs ys zs =
    ap (take (length ys)) (written_starts xs (ys ++ zs) ∙ append_assoc ys zs (drop (0 + length (ys ++ zs)) xs))
    ∙ take-append_seam ys (zs ++ drop (0 + length (ys ++ zs)) xs)

length_written : (xs ys : List ℕ) → length ys ≤ length xs → length (written xs 0 ys) ≡ length xs
unfolding written
length_written xs ys h = length-paste xs 0 ys (length ys) (omega arith) (omega arith)

-- ---- A catalogue written into slices.

module _ (rows errors : List ℕ) (c : Merged) where
  rows_into : rows_of (merged_into rows errors c) ≡ flat_map words_of_row c.rows
  unfolding rows_of merged_into
  rows_into =
      ap (λ n. take n (written rows 0 (flat_map words_of_row c.rows))) (sym (words_length c.rows))
      ∙ (ap (λ l. take (length (flat_map words_of_row c.rows)) (written rows 0 l)) (sym (append-nil (flat_map words_of_row c.rows)))
      ∙ written_first rows (flat_map words_of_row c.rows) [])

  reading_into : reading_errors_of (merged_into rows errors c) ≡ flat_map words_of_error c.reading_errors
  unfolding reading_errors_of merged_into
  reading_into =
      ap (λ n. take n (written errors 0 (flat_map words_of_error (c.reading_errors ++ c.drawing_errors)))) (sym (errors_length c.reading_errors))
      ∙ (ap (λ l. take (length (flat_map words_of_error c.reading_errors)) (written errors 0 l))
      (flat_map_append words_of_error c.reading_errors c.drawing_errors)
      ∙ written_first errors (flat_map words_of_error c.reading_errors) (flat_map words_of_error c.drawing_errors))

  pub errors_into : error_rows (merged_into rows errors c) ≡ c.reading_errors ++ c.drawing_errors
  unfolding error_rows merged_into
  errors_into =
      let es = c.reading_errors ++ c.drawing_errors in
      ap (λ n. chunks 3 error_from n (written errors 0 (flat_map words_of_error es))) (sym (length-append c.reading_errors c.drawing_errors))
      ∙ ap (chunks 3 error_from (length es)) (written_starts errors (flat_map words_of_error es))
      ∙ errors_back es (drop (0 + length (flat_map words_of_error es)) errors)

-- ---- An account's drawing.

unfoldable pub row_words_of : Account → List ℕ
row_words_of a = flat_map words_of_row (merge a.adopt a.documents).rows

unfoldable pub reading_words_of : Account → List ℕ
reading_words_of a = flat_map words_of_error (merge a.adopt a.documents).reading_errors

module _ (a : Account) (rows errors : List ℕ) (done : (build_of a rows errors).drawing.number ≡ 0) where
  long : (is_short rows_capacity rows || is_short errors_capacity errors) ≡ false
  long = go (is_short rows_capacity rows || is_short errors_capacity errors) refl
    where
      go : (b : Bool) → (is_short rows_capacity rows || is_short errors_capacity errors) ≡ b → (is_short rows_capacity rows || is_short errors_capacity errors) ≡ false
      go true q = let z : ◌≡◌ {A = ℕ} 7 0 = unfold build_of unbuilt in (rw q at done) in absurd (omega arith)
      go false q = q

  pub built_done : build_of a rows errors ≡ merged_into rows errors (merge a.adopt a.documents)
  unfolding build_of
  built_done = rw long

  pub rows_written : rows_of (build_of a rows errors) ≡ row_words_of a
  unfolding row_words_of
  rows_written = ap rows_of built_done ∙ rows_into rows errors (merge a.adopt a.documents)

  pub reading_written : reading_errors_of (build_of a rows errors) ≡ reading_words_of a
  unfolding reading_words_of
  reading_written = ap reading_errors_of built_done ∙ reading_into rows errors (merge a.adopt a.documents)

  rows_long : rows_capacity ≤ length rows
  unfolding is_short
  rows_long = ltb-false _ _ (or_false (is_short rows_capacity rows) (is_short errors_capacity errors) long).0

  errors_long : errors_capacity ≤ length errors
  unfolding is_short
  errors_long = ltb-false _ _ (or_false (is_short rows_capacity rows) (is_short errors_capacity errors) long).1

  -- ---- Its bounds.
  module _ (few : cards_held a.documents ≤ card_capacity) where
    c : Merged
    c = merge a.adopt a.documents

    into : build_of a rows errors ≡ merged_into rows errors c
    unfolding c
    into = built_done

    bounded_into : Bounded rows errors (merged_into rows errors c)
    unfolding merged_into c has_card is_error_of
    bounded_into =
        let es = c.reading_errors ++ c.drawing_errors in
        let read : error_rows (merged_into rows errors c) ≡ es = errors_into rows errors c in
        let count = built_errors a.adopt a.documents in
        let rows_are : lent_rows (rows_of (merged_into rows errors c)) ≡ c.rows = ap lent_rows (rows_into rows errors c) ∙ rows_back c.rows in
        record {
          row_count = rw rows_are (omega (arith, built_rows_lem a.adopt a.documents, few));
          error_count = rw read (omega (arith, count, few));
          rows_fit = length_written rows (flat_map words_of_row c.rows)
              (omega (arith, words_length c.rows, built_rows_lem a.adopt a.documents, few, rows_long));
          errors_fit = length_written errors (flat_map words_of_error es) (omega (arith, errors_length es, count, few, errors_long));
          row_once = λ k n. rw rows_are (built_row_once a.adopt a.documents k n);
          error_once = λ k. rw read (built_error_once a.adopt a.documents k);
          counted = ap length (sym rows_are);
          tallied = ap tallies (sym read);
          total = ap length (sym read);
        }

    pub bounded : Bounded rows errors (build_of a rows errors)
    bounded = rw into bounded_into
