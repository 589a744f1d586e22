-- What type_field answers, by the cases that the code tells apart.
use mathlib.Core.Path.{◌≡◌, refl, sym, ◌∙◌, ap}
use mathlib.Core.List.{List}
use mathlib.Core.Bool.{true}
use mathlib.Core.Option.{Option, none, some}
use Prim.Native.Nat.{ℕ, suc, ◌+◌, ◌*◌}
use lib.ListN.{drop, get_or}
use Rattle.definition.specs.declared.FieldFound.TheVariants.{Explicit}
use Rattle.definition.specs.Answers.{Found, NoSuchType, NoSuchField}
use Rattle.definition.specs.Lists.{found, find}
use Rattle.definition.specs.Headings.{NamedCard}
use Rattle.definition.specs.Catalogue.{Row}
use Rattle.definition.specs.Store.{account_in, sound}
use Rattle.definition.specs.LentRows.{held, lent_rows, is_type_row_named}
use Rattle.definition.specs.Lookups.{Block, blocks, type_named, is_part_named, meta_field, field_of, field_named}
use Rattle.store_reader.specs.Stored.{stored_parts}
use Rattle.store_reader.proofs.Laws.{held_stored}
use Rattle.schema_rows.specs.Rows.{row_at}
use Rattle.std.specs.Prelude.{Some, None, ok_or}
use Rattle.definition.specs.declared.FieldFound.{FieldFound}
use Rattle.definition.specs.declared.FieldLookupError.TheVariants as X
use Rattle.definition.specs.Numbers.{field_lookup}
use Rattle.schema_rows.proofs.Rows.{Hit, hit_row}
use Rattle.schema_rows.specs.declared.search.Located.{Located}
use Rattle.schema_rows.specs.Search.{located_from}
use Rattle.schema_rows.proofs.SearchLaws.{block_after, TypeAt, located_none, located_type, located_no_part, located_part}

-- What becomes of a meta field, or of none.
pub meta_told : (m : Option FieldFound) (card : ℕ) → field_lookup (ok_or (found m (λ f. Some f) None) (X.NoSuchField card)) ≡ found m (λ f. Found f) (NoSuchField card)
meta_told none card = refl
meta_told (some f) card = refl

-- ---- type_field.

module _ (cs : List NamedCard) (rs : List Row) (type field : List ℕ) where
  no_type : type_named cs rs type ≡ none → NoSuchType ≡ field_named cs rs type field
  unfolding field_named
  no_type e = rw e

  module _ (b : Block) (e : type_named cs rs type ≡ some b) where
    other_field : find (is_part_named cs 22 field) b.parts ≡ none →
        found (meta_field cs rs b.head.what type field) (λ m. Found m) (NoSuchField b.head.card) ≡ field_named cs rs type field
    unfolding field_named field_of
    other_field f = rw (e, f)

    explicit_field_lem : (r : Row) → find (is_part_named cs 22 field) b.parts ≡ some r → Found (Explicit r.card) ≡ field_named cs rs type field
    unfolding field_named field_of
    explicit_field_lem r f = rw (e, f)

module _ (text words rows : List ℕ) (type field : List ℕ) (ok : sound text words ≡ true) (l : Located)
    (e : l ≡ located_from (is_type_row_named (stored_parts text words) type) (is_part_named (stored_parts text words) 22 field) 0 (lent_rows rows)) where
  of_held : field_named (stored_parts text words) (lent_rows rows) type field ≡ field_named (held (account_in text words).documents) (lent_rows rows) type field
  of_held = ap (λ (cs : List NamedCard). field_named cs (lent_rows rows) type field) (sym (held_stored text words ok))

  pub field_no_type : l.owner ≡ None → NoSuchType ≡ field_named (held (account_in text words).documents) (lent_rows rows) type field
  field_no_type o = no_type (stored_parts text words) (lent_rows rows) type field (located_none (stored_parts text words) rows type _ l e o) ∙ of_held

  module _ (t : ℕ) (o : l.owner ≡ Some t) where
    type_at : TypeAt (stored_parts text words) rows type t
    type_at = located_type (stored_parts text words) rows type (is_part_named (stored_parts text words) 22 field) l e t o

    pub field_other : l.part ≡ None →
        found (meta_field (stored_parts text words) (lent_rows rows) (get_or rows (3 * t) 0) type field) (λ m. Found m) (NoSuchField (get_or rows (3 * t + 1) 0)) ≡
        field_named (held (account_in text words).documents) (lent_rows rows) type field
    field_other p =
        other_field (stored_parts text words) (lent_rows rows) type field (block_after (row_at rows t) (lent_rows rows) t) type_at.block
        (located_no_part (stored_parts text words) rows type (is_part_named (stored_parts text words) 22 field) l e t o p)
        ∙ of_held

    module _ (i : ℕ) (p : l.part ≡ Some i) where
      field_at : Hit 0 (lent_rows rows) (find (is_part_named (stored_parts text words) 22 field) (blocks (drop (suc t) (lent_rows rows))).0) i
      field_at = located_part (stored_parts text words) rows type (is_part_named (stored_parts text words) 22 field) l e t o i p

      pub field_explicit : Found (Explicit (get_or rows (3 * i + 1) 0)) ≡ field_named (held (account_in text words).documents) (lent_rows rows) type field
      field_explicit =
          explicit_field_lem (stored_parts text words) (lent_rows rows) type field (block_after (row_at rows t) (lent_rows rows) t) type_at.block (row_at rows i)
          (hit_row rows _ i field_at)
          ∙ of_held
