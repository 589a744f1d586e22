-- How many rows and errors a sound store gives: they fit into the slices that 7 does not refuse.
use mathlib.Core.Path.{◌≡◌, ap}
use mathlib.Core.List.{List}
use mathlib.Core.Bool.{Bool, true}
use Prim.Native.Nat.{ℕ, ◌*◌, ◌≤◌}
use native.Mathlib.Omega.{arith}
use lib.ListN.{length}
use Rattle.definition.specs.Headings.{Heading, headings}
use Rattle.definition.specs.Catalogue.{rows}
use Rattle.definition.specs.Refusals.{cards_held, card_capacity, rows_capacity}
use Rattle.definition.specs.Store.{sound, account_in}
use Rattle.definition.proofs.Bounds.{rows_count, errors_count}
use Rattle.definition.proofs.DocumentHeadings.{headings_count, held_length}
use Rattle.store_reader.specs.Stored.{stored_headings}
use Rattle.store_reader.proofs.Laws.{held_stored, headings_stored, cards_fit_lem}
use Rattle.store_reader.proofs.Words.{length_stored}
use Rattle.from_ast_errors.specs.Written.{all_errors}

module _ (text words : List ℕ) (ok : sound text words ≡ true) where
  abbrev held : List Heading
  held = headings (account_in text words).documents

  abbrev stored : List Heading
  stored = stored_headings text words

  held_cards : cards_held (account_in text words).documents ≤ card_capacity
  held_cards =
      omega (arith, held_length (account_in text words).documents, ap length (held_stored text words ok), length_stored text words, cards_fit_lem text words ok)

  pub rows_fit_lem : (a : Bool) → 3 * length (rows a stored) ≤ rows_capacity
  rows_fit_lem a =
      let h = held_cards in
      let e : length (rows a held) ≡ length (rows a stored) = ap (λ (l : List Heading). length (rows a l)) (headings_stored text words ok) in
      omega (arith, e, rows_count a held, headings_count (account_in text words).documents)

  pub errors_fit_lem : (a : Bool) → length (all_errors a stored) ≤ card_capacity
  unfolding all_errors
  errors_fit_lem a =
      let h = held_cards in
      let e : length (all_errors a held) ≡ length (all_errors a stored) = ap (λ (l : List Heading). length (all_errors a l)) (headings_stored text words ok) in
      omega (arith, e, errors_count a held, headings_count (account_in text words).documents)
