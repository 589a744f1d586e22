-- The numbers and values of each answer's cases: 01's where it gives them, else chosen here (docs/DECISIONS.md, 37).
use Rattle.std.specs.Prelude.{ℕ}
use Rattle.definition.specs.declared.Answer.{Answer}
use Rattle.std.specs.declared.cmp.Ordering.{Ordering}
use Rattle.std.specs.declared.cmp.Ordering.TheVariants.{Less, Equal, Greater}
use Rattle.definition.specs.declared.OperationType.{OperationType}
use Rattle.definition.specs.declared.OperationType.TheVariants.{Query, Mutation, Subscription}
use Rattle.definition.specs.declared.FieldFound.{FieldFound}
use Rattle.definition.specs.declared.FieldFound.TheVariants.{Explicit, Typename, Schema, «Type» as MetaType}

-- The word that 01 writes `-`.
abbrev pub absent : ℕ
absent = 4294967295

-- What `type_field` answers. `NoSuchField` has the card of the type's row, `Refused` the refusal's number.
pub data FieldLookup : Type 0 where
  Found : FieldFound → FieldLookup
  NoSuchType : FieldLookup
  NoSuchField : ℕ → FieldLookup
  Refused : ℕ → FieldLookup

-- What `is_subtype` answers.
pub data SubtypeLookup : Type 0 where
  Subtype : SubtypeLookup
  NotSubtype : SubtypeLookup
  Refused : ℕ → SubtypeLookup

-- A refusal's number, or 0, and a card's number or a count.
abbrev pub answer : ℕ → ℕ → Answer
answer n c = record { number = n; card = c }

-- How a name stands to another: 0 before, 1 equal, 2 after.
abbrev pub order_number : Ordering → ℕ
order_number Less = 0
order_number Equal = 1
order_number Greater = 2

-- "26 query, 27 mutation, 28 subscription"
abbrev pub root_kind : OperationType → ℕ
root_kind Query = 26
root_kind Mutation = 27
root_kind Subscription = 28

-- A found field's number: "1 `__typename`, 2 `__schema`, 3 `__type`"; 0 for an explicit one.
abbrev pub meta_number : FieldFound → ℕ
meta_number (Explicit c) = 0
meta_number Typename = 1
meta_number Schema = 2
meta_number MetaType = 3

-- The card of an explicit field; a meta field has none.
abbrev pub explicit_card : FieldFound → ℕ
explicit_card (Explicit c) = c
explicit_card Typename = absent
explicit_card Schema = absent
explicit_card MetaType = absent

-- Four numbers for `type_field`'s answer: the refusal, or 0; then 1 found, 2 no such type, 3 no such field, 0 refused; then the found field's
-- number, else `-`; and the card: the explicit field's, or with no such field the type's, else `-`.
abbrev pub field_refusal : FieldLookup → ℕ
field_refusal (Found f) = 0
field_refusal NoSuchType = 0
field_refusal (NoSuchField c) = 0
field_refusal (Refused n) = n

abbrev pub field_number : FieldLookup → ℕ
field_number (Found f) = 1
field_number NoSuchType = 2
field_number (NoSuchField c) = 3
field_number (Refused n) = 0

abbrev pub field_meta : FieldLookup → ℕ
field_meta (Found f) = meta_number f
field_meta NoSuchType = absent
field_meta (NoSuchField c) = absent
field_meta (Refused n) = absent

abbrev pub field_card : FieldLookup → ℕ
field_card (Found f) = explicit_card f
field_card NoSuchType = absent
field_card (NoSuchField c) = c
field_card (Refused n) = absent

-- Two numbers for `is_subtype`'s answer: the refusal, or 0; then 1 for yes, else 0.
abbrev pub subtype_refusal : SubtypeLookup → ℕ
subtype_refusal Subtype = 0
subtype_refusal NotSubtype = 0
subtype_refusal (Refused n) = n

abbrev pub subtype_number : SubtypeLookup → ℕ
subtype_number Subtype = 1
subtype_number NotSubtype = 0
subtype_number (Refused n) = 0
