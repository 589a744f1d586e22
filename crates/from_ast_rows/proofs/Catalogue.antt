-- All rows: by the numbers of cards they are those of the definition, for the headings of the store.
use mathlib.Core.Path.{◌≡◌, sym, ap, ◌∙◌}
use mathlib.Core.Bool.{Bool, true, false}
use mathlib.Core.List.{List, [], ◌++◌, map, append-nil}
use Prim.Native.Nat.{ℕ, ◌*◌, ◌≤◌}
use native.Mathlib.Nat.{zero-add}
use native.Mathlib.Omega.{arith}
use lib.ListN.{length}
use Rattle.definition.specs.Lists.{choose, flat_map, filter, firsts, written}
use Rattle.definition.specs.Headings.{defined_types, orphans, same_named, is_type_extension}
use Rattle.definition.specs.Catalogue.{Row, rows, type_rows, adopted, adopted_rows}
use Rattle.definition.specs.Outcomes.{words_of_row}
use Rattle.definition.specs.Refusals.{card_capacity}
use Rattle.definition.specs.Store.{cards_used_of}
use Rattle.store_reader.specs.Stored.{stored_headings}
use Rattle.store_reader.proofs.Words.{headings_at}
use Rattle.from_ast_index.specs.Index.{Hashed, Listed, heading_number}
use Rattle.component.specs.Pushed.{Filled, filled, Fits, pushed}
use Rattle.component.specs.RowsByCards.{types_rows_at, all_types_rows_at, type_rows_at, directive_rows_at, schema_rows_at}
use Rattle.from_ast_rows.specs.Arrays.{Arrays}
use Rattle.component.proofs.Pushing.{Rest, rest_begin}
use Rattle.component.proofs.Blocks.{types_rows, orphans_rows}
use Rattle.component.proofs.Directives.{directives_rows}
use Rattle.component.proofs.SchemaLists.{schema_rows_lem}

-- ---- The arrays of the index serve.

pub listed_arrays : {text words hashes headings owners types orphan_cards extensions : List ℕ} → Hashed text words hashes →
    Listed text words headings owners types orphan_cards extensions → Arrays text words headings hashes types orphan_cards extensions
listed_arrays h x = record {
  hashed = h;
  headings_stored = record { stored = x.headings_stored };
  types_stored = record { stored = x.types_stored };
  orphans_stored = record { stored = x.orphans_stored };
  extensions_stored = record { stored = x.extensions_stored };
  headings_are = x.headings_are;
  types_are = x.types_are;
  orphans_are = x.orphans_are;
  extensions_are = x.extensions_are;
}

-- ---- All rows.

first_capacity : (ws : List ℕ) (rs : List Row) → 3 * length rs ≤ length ws → Fits ws (pushed rs (filled ws 0))
unfolding pushed
first_capacity ws rs h = omega arith

-- By what the lists hold, whoever says it.
module _ (text words : List ℕ) {headings types orphan_cards extensions : List ℕ}
    (headings_are : headings ≡ map heading_number (stored_headings text words))
    (types_are : types ≡ map heading_number (defined_types (stored_headings text words)))
    (orphans_are : orphan_cards ≡ map heading_number (firsts same_named [] (orphans (stored_headings text words))))
    (extensions_are : extensions ≡ map heading_number (filter is_type_extension (stored_headings text words)))
    (most : cards_used_of words ≤ card_capacity) (adopt : Bool) where
  types_built : types_rows_at text words types extensions ≡ flat_map (type_rows (stored_headings text words)) (defined_types (stored_headings text words))
  types_built =
      (λ i. flat_map (type_rows_at text words (extensions_are i)) (types_are i)) ∙ types_rows text words (stored_headings text words) (headings_at text words)

  orphans_built : types_rows_at text words orphan_cards extensions
      ≡ flat_map (adopted_rows (stored_headings text words)) (firsts same_named [] (orphans (stored_headings text words)))
  orphans_built =
      (λ i. flat_map (type_rows_at text words (extensions_are i)) (orphans_are i))
      ∙ orphans_rows text words (stored_headings text words) (headings_at text words)

  built_cut : rows adopt (stored_headings text words) ≡
      schema_rows_at text words adopt headings ++ (directive_rows_at text words headings ++ all_types_rows_at text words adopt types orphan_cards extensions)
  unfolding rows adopted
  built_cut =
      sym (λ i.
      (ap (schema_rows_at text words adopt) headings_are ∙ schema_rows_lem text words (stored_headings text words) (headings_at text words) most adopt) i
      ++ ((ap (directive_rows_at text words) headings_are ∙ directives_rows text words (stored_headings text words) (headings_at text words)) i
      ++ (types_built i
      ++ choose adopt (orphans_built i) [])))

cut_rest : (rs parts : List Row) → rs ≡ parts → (ws : List ℕ) → 3 * length rs ≤ length ws → Rest parts (filled ws 0) (pushed rs (filled ws 0))
cut_rest rs parts cut ws h = rest_begin _ (filled ws 0) _ (ap (λ (l : List Row). pushed l (filled ws 0)) (sym cut)) (first_capacity ws rs h)

-- All of them are left at the beginning of the slice, by what the index lists of a store that is not too large.
module _ {text words headings owners types orphan_cards extensions : List ℕ} (x : Listed text words headings owners types orphan_cards extensions)
    (most : cards_used_of words ≤ card_capacity) (adopt : Bool) where
  pub built_rest : (ws : List ℕ) → 3 * length (rows adopt (stored_headings text words)) ≤ length ws → Rest
      (schema_rows_at text words adopt headings ++ (directive_rows_at text words headings ++ all_types_rows_at text words adopt types orphan_cards extensions))
      (filled ws 0) (pushed (rows adopt (stored_headings text words)) (filled ws 0))
  built_rest = cut_rest _ _ (built_cut _ _ x.headings_are x.types_are x.orphans_are x.extensions_are most adopt)

-- The same by the arrays.
module _ {text words headings hashes types orphan_cards extensions : List ℕ} (x : Arrays text words headings hashes types orphan_cards extensions)
    (adopt : Bool) where
  pub arrays_rest : (ws : List ℕ) → 3 * length (rows adopt (stored_headings text words)) ≤ length ws → Rest
      (schema_rows_at text words adopt headings ++ (directive_rows_at text words headings ++ all_types_rows_at text words adopt types orphan_cards extensions))
      (filled ws 0) (pushed (rows adopt (stored_headings text words)) (filled ws 0))
  arrays_rest = cut_rest _ _ (built_cut _ _ x.headings_are x.types_are x.orphans_are x.extensions_are x.hashed.cards_most adopt)

-- From the beginning of the slice.
pub pushed_first : (ws : List ℕ) (rs : List Row) (out : List ℕ) (r : ℕ) → filled out r ≡ pushed rs (filled ws 0) →
    (out ≡ written ws 0 (flat_map words_of_row rs)) × (r ≡ length rs)
unfolding pushed
pushed_first ws rs out r e = (ap (λ (s : Filled). s.rows) e, ap (λ (s : Filled). s.used) e ∙ zero-add (length rs))

pub choose_left : (b : Bool) (rs : List Row) → b ≡ true → choose b rs [] ≡ rs ++ []
choose_left b rs e = rw e (sym (append-nil rs))

pub choose_right : (b : Bool) (rs : List Row) → b ≡ false → choose b rs [] ≡ []
choose_right b rs e = rw e
