-- What is_subtype answers, by the cases that the code tells apart.
use mathlib.Core.Path.{◌≡◌, sym, ◌∙◌, ap}
use mathlib.Core.List.{List}
use mathlib.Core.Bool.{Bool, true, false}
use mathlib.Core.Option.{none, some}
use Prim.Native.Nat.{ℕ, ◌*◌}
use borrow.Author.Tests.{ne_eqb}
use lib.ListN.{get_or}
use Rattle.definition.specs.Lists.{found}
use Rattle.definition.specs.Headings.{NamedCard}
use Rattle.definition.specs.Catalogue.{Row}
use Rattle.definition.specs.Store.{account_in, sound}
use Rattle.definition.specs.LentRows.{held, lent_rows, is_type_row_named}
use Rattle.definition.specs.Lookups.{Block, type_named, is_row_of, is_part_named, lists, subtype_of, is_subtype_of}
use Rattle.store_reader.specs.Stored.{stored_parts}
use Rattle.store_reader.proofs.Laws.{held_stored}
use Rattle.schema_rows.specs.Rows.{row_at}
use Rattle.std.specs.Prelude.{Some, None}
use Rattle.schema_rows.specs.declared.search.Located.{Located}
use Rattle.std.specs.Prelude.{is_some}
use Rattle.schema_rows.specs.Search.{located_from}
use Rattle.schema_rows.proofs.SearchLaws.{block_after, TypeAt, located_none, located_type, listed}

module _ (cs : List NamedCard) (rs : List Row) (general other : List ℕ) where
  no_general : type_named cs rs general ≡ none → is_subtype_of cs rs general other ≡ false
  unfolding is_subtype_of
  no_general e = rw e

  module _ (b : Block) (e : type_named cs rs general ≡ some b) where
    of_interface : b.head.what ≡ 7 → is_subtype_of cs rs general other ≡ found (type_named cs rs other) (lists cs 21 general) false
    unfolding is_subtype_of subtype_of is_row_of
    of_interface k = rw (e, k)

    of_union : b.head.what ≡ 8 → is_subtype_of cs rs general other ≡ found (type_named cs rs general) (lists cs 23 other) false
    unfolding is_subtype_of subtype_of is_row_of
    of_union k = rw (e, k)

    of_neither : (b.head.what ≡ 7 → ⊥) → (b.head.what ≡ 8 → ⊥) → is_subtype_of cs rs general other ≡ false
    unfolding is_subtype_of subtype_of is_row_of
    of_neither k m = rw (e, ne_eqb b.head.what 7 k, ne_eqb b.head.what 8 m)

module _ (text words rows : List ℕ) (general other : List ℕ) (ok : sound text words ≡ true) (l : Located)
    (e : l ≡ located_from (is_type_row_named (stored_parts text words) general) (is_part_named (stored_parts text words) 23 other) 0 (lent_rows rows)) where
  told : (b : Bool) → is_subtype_of (stored_parts text words) (lent_rows rows) general other ≡ b →
      b ≡ is_subtype_of (held (account_in text words).documents) (lent_rows rows) general other
  told b k = sym k ∙ ap (λ (cs : List NamedCard). is_subtype_of cs (lent_rows rows) general other) (sym (held_stored text words ok))

  pub subtype_none : l.owner ≡ None → false ≡ is_subtype_of (held (account_in text words).documents) (lent_rows rows) general other
  subtype_none o = told false (no_general (stored_parts text words) (lent_rows rows) general other (located_none (stored_parts text words) rows general _ l e o))

  module _ (t : ℕ) (o : l.owner ≡ Some t) where
    general_at : TypeAt (stored_parts text words) rows general t
    general_at = located_type (stored_parts text words) rows general (is_part_named (stored_parts text words) 23 other) l e t o

    general_block : Block
    general_block = block_after (row_at rows t) (lent_rows rows) t

    pub subtype_interface : get_or rows (3 * t) 0 ≡ 7 → (m : Located) →
        m ≡ located_from (is_type_row_named (stored_parts text words) other) (is_part_named (stored_parts text words) 21 general) 0 (lent_rows rows) →
        is_some m.part ≡ is_subtype_of (held (account_in text words).documents) (lent_rows rows) general other
    unfolding general_block
    subtype_interface k m f =
        told (is_some m.part)
        (of_interface (stored_parts text words) (lent_rows rows) general other general_block general_at.block k
        ∙ sym (listed (stored_parts text words) other 21 general rows m f))

    pub subtype_union : get_or rows (3 * t) 0 ≡ 8 →
        is_some l.part ≡ is_subtype_of (held (account_in text words).documents) (lent_rows rows) general other
    unfolding general_block
    subtype_union k =
        told (is_some l.part)
        (of_union (stored_parts text words) (lent_rows rows) general other general_block general_at.block k
        ∙ sym (listed (stored_parts text words) general 23 other rows l e))

    pub subtype_neither : (get_or rows (3 * t) 0 ≡ 7 → ⊥) → (get_or rows (3 * t) 0 ≡ 8 → ⊥) →
        false ≡ is_subtype_of (held (account_in text words).documents) (lent_rows rows) general other
    unfolding general_block
    subtype_neither k m = told false (of_neither (stored_parts text words) (lent_rows rows) general other general_block general_at.block k m)
