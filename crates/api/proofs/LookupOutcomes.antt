-- Every lookup's outcome by the one number that is refused.
use mathlib.Core.Path.{◌≡◌, refl, ap}
use mathlib.Core.List.{List}
use mathlib.Core.Bool.{Bool, true, false}
use Prim.Native.Nat.{ℕ}
use lib.Dec.{eqb}
use lib.ListN.{length}
use borrow.Author.Tests.{ne_eqb}
use Rattle.definition.specs.declared.OperationType.{OperationType}
use Rattle.definition.specs.Answers.{FieldLookup, SubtypeLookup, Subtype, NotSubtype}
use Rattle.definition.specs.Lists.{choose, flat_map}
use Rattle.definition.specs.Names.{bytes_at}
use Rattle.definition.specs.Answers.{answer, field_refusal, field_number, field_meta, field_card, subtype_refusal, subtype_number}
use Rattle.definition.specs.Refusals.{groups_capacity, origins_capacity}
use Rattle.definition.specs.Store.{account_in, store_refusal}
use Rattle.definition.specs.LentRows.{held, lent_rows, rows_refusal}
use Rattle.definition.specs.Lookups.{Span, span, root_span, field_named, is_subtype_of, origin_list, extension_list, groups, group_words}
use Rattle.definition.specs.Outcomes.{check_of, check_rows, no_root, root_bytes, part_of, root_of, root_operation, field_of_type, type_field}
use Rattle.definition.specs.Outcomes.{subtype_answer, is_subtype, unlisted, listed_in, is_short, unless_refused, origins_of, extensions_in}
use Rattle.definition.specs.Outcomes.{implementers_of, iter_origins, extensions, implementers_map}
use Rattle.api.specs.LookupRefusal.{lookup_refusal}
use Rattle.std.specs.Prelude.{Ok}
use Rattle.definition.specs.Numbers.{subtype_lookup}
use Rattle.api.specs.Promised.{SameField, SameSubtype}

-- ---- Each lookup's outcome.

-- Two refusals, one asked after the other, are one number.
pub one_number : {A : Type 0} (n m : ℕ) (done : A) (refused : ℕ → A) →
    choose (eqb n 0) (choose (eqb m 0) done (refused m)) (refused n) ≡ choose (eqb (choose (eqb n 0) m n) 0) done (refused (choose (eqb n 0) m n))
one_number n m done refused = go (eqb n 0) refl
  where
    go : (b : Bool) → eqb n 0 ≡ b → choose b (choose (eqb m 0) done (refused m)) (refused n) ≡ choose (eqb (choose b m n) 0) done (refused (choose b m n))
    go true s = refl
    go false s = rw s

module _ (text words rows : List ℕ) where
  pub check_rows_by : check_rows text words rows ≡ answer (lookup_refusal text words rows) 0
  unfolding check_rows check_of lookup_refusal
  check_rows_by = go (eqb (store_refusal text words) 0)
    where
      go : (b : Bool) → choose b (answer (rows_refusal (account_in text words).documents rows) 0) (answer (store_refusal text words) 0)
          ≡ answer (choose b (rows_refusal (account_in text words).documents rows) (store_refusal text words)) 0
      go true = refl
      go false = refl

  pub root_operation_by : (op : OperationType) →
      root_operation text words rows op ≡
      choose (eqb (lookup_refusal text words rows) 0)
      (part_of text (root_span (account_in text words).documents (held (account_in text words).documents) (lent_rows rows) op)) no_root
  unfolding root_operation root_of no_root span part_of bytes_at lookup_refusal
  root_operation_by op = go (eqb n 0) (eqb m 0) refl refl
    where
      n : ℕ
      n = store_refusal text words

      m : ℕ
      m = rows_refusal (account_in text words).documents rows

      s : Span
      s = root_span (account_in text words).documents (held (account_in text words).documents) (lent_rows rows) op

      bytes : List ℕ
      bytes = root_bytes (held (account_in text words).documents) (lent_rows rows) op

      go : (b c : Bool) → eqb n 0 ≡ b → eqb m 0 ≡ c →
          choose b (part_of text (choose c (record { bytes = bytes; part = s }) no_root).part) no_root ≡ choose (eqb (choose b m n) 0) (part_of text s) no_root
      go true true e f = rw f
      go true false e f = rw f
      go false c e f = rw e

  pub type_field_by : (type field : List ℕ) →
      type_field text words rows type field ≡
      choose (eqb (lookup_refusal text words rows) 0) (field_named (held (account_in text words).documents) (lent_rows rows) type field)
      (FieldLookup.Refused (lookup_refusal text words rows))
  unfolding type_field field_of_type lookup_refusal
  type_field_by type field = one_number (store_refusal text words) (rows_refusal (account_in text words).documents rows) _ FieldLookup.Refused

  pub is_subtype_by : (general other : List ℕ) →
      is_subtype text words rows general other ≡
      choose (eqb (lookup_refusal text words rows) 0)
      (choose (is_subtype_of (held (account_in text words).documents) (lent_rows rows) general other) Subtype NotSubtype)
      (SubtypeLookup.Refused (lookup_refusal text words rows))
  unfolding is_subtype subtype_answer lookup_refusal
  is_subtype_by general other = one_number (store_refusal text words) (rows_refusal (account_in text words).documents rows) _ SubtypeLookup.Refused

  -- The lookups that fill a slice: 7 after the others.
  module _ (lent : List ℕ) where
    pub iter_origins_by :
        iter_origins text words rows lent ≡
        choose (eqb (lookup_refusal text words rows) 0)
        (choose (is_short origins_capacity lent) (unlisted lent 7) (listed_in lent (length (origin_list (lent_rows rows))) (origin_list (lent_rows rows))))
        (unlisted lent (lookup_refusal text words rows))
    unfolding iter_origins origins_of unless_refused lookup_refusal
    iter_origins_by = one_number (store_refusal text words) (rows_refusal (account_in text words).documents rows) _ (unlisted lent)

    pub extensions_by :
        extensions text words rows lent ≡
        choose (eqb (lookup_refusal text words rows) 0)
        (choose (is_short origins_capacity lent) (unlisted lent 7) (listed_in lent (length (extension_list (lent_rows rows))) (extension_list (lent_rows rows))))
        (unlisted lent (lookup_refusal text words rows))
    unfolding extensions extensions_in unless_refused lookup_refusal
    extensions_by = one_number (store_refusal text words) (rows_refusal (account_in text words).documents rows) _ (unlisted lent)

    pub implementers_map_by :
        implementers_map text words rows lent ≡
        choose (eqb (lookup_refusal text words rows) 0)
        (choose (is_short groups_capacity lent) (unlisted lent 7)
        (listed_in lent (length (groups (held (account_in text words).documents) (lent_rows rows)))
        (flat_map group_words (groups (held (account_in text words).documents) (lent_rows rows)))))
        (unlisted lent (lookup_refusal text words rows))
    unfolding implementers_map implementers_of unless_refused lookup_refusal
    implementers_map_by = one_number (store_refusal text words) (rows_refusal (account_in text words).documents rows) _ (unlisted lent)

-- ---- An outcome by its number, return by return. r is the number that was computed.

module _ {A : Type 0} (n r : ℕ) (e : r ≡ n) (done : A) (refused : ℕ → A) (outcome : A) (by : outcome ≡ choose (eqb n 0) done (refused n)) where
  pub outcome_refused : (r ≡ 0 → ⊥) → refused r ≡ outcome
  outcome_refused z = rw (by, ← e, ne_eqb r 0 z)

  pub outcome_done : (a : A) → r ≡ 0 → a ≡ done → a ≡ outcome
  outcome_done a z d = rw (by, ← e, z, d)

-- ---- An answer that is the outcome has its numbers.

pub finds_field : (r outcome : FieldLookup) → r ≡ outcome → (r ≡ outcome) × SameField r outcome
finds_field r outcome e = (e, (ap field_refusal e, ap field_number e, ap field_meta e, ap field_card e))

pub tells_subtype : (r outcome : SubtypeLookup) → r ≡ outcome → (r ≡ outcome) × SameSubtype r outcome
tells_subtype r outcome e = (e, (ap subtype_refusal e, ap subtype_number e))

pub subtype_told : (b : Bool) → subtype_lookup (Ok b) ≡ choose b Subtype NotSubtype
subtype_told true = refl
subtype_told false = refl
