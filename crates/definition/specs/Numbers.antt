-- 01 tells refusals and errors by number; code tells them by name. Here is which name has which number, and what an entry's result is as 01's answer.
use Rattle.std.specs.Prelude.{ℕ, Bool, true, false, Result, Ok, Err, replicate}
use Rattle.definition.specs.declared.Answer.{Answer}
use Rattle.definition.specs.declared.Drawing.{Drawing}
use Rattle.definition.specs.declared.Drawn.{Drawn}
use Rattle.definition.specs.declared.FieldFound.{FieldFound}
use Rattle.definition.specs.declared.FieldLookupError.{FieldLookupError}
use Rattle.definition.specs.declared.FieldLookupError.TheVariants as X
use Rattle.definition.specs.declared.refusal.Refusal.{Refusal}
use Rattle.definition.specs.declared.refusal.Refusal.TheVariants as R
use Rattle.definition.specs.declared.refusal.Refused.{Refused}
use Rattle.definition.specs.declared.build_error.BuildError.{BuildError}
use Rattle.definition.specs.declared.build_error.BuildError.TheVariants as E
use Rattle.definition.specs.Answers.{answer, FieldLookup, SubtypeLookup, Found, NoSuchType, NoSuchField, Subtype, NotSubtype}
use Rattle.definition.specs.Errors as errors
use Rattle.definition.specs.Merge.{error_numbers}

abbrev pub refusal_number : Refusal → ℕ
refusal_number R.CardsNotWhole = 1
refusal_number R.UnknownKind = 2
refusal_number R.ItemMisplaced = 3
refusal_number R.NameMisplaced = 4
refusal_number R.PartMisplaced = 5
refusal_number R.BuiltInsFaulty = 6
refusal_number R.SliceTooShort = 7
refusal_number R.StoreTooShort = 21
refusal_number R.StoreUnsound = 22
refusal_number R.DocumentsFull = 23
refusal_number R.TextFull = 24
refusal_number R.CardsFull = 25
refusal_number R.RowsUnsound = 26
refusal_number R.NamePresence = 27
refusal_number R.NameBytes = 28
refusal_number R.NotInGrammar = 29
refusal_number R.NestedTooDeep = 30
refusal_number R.CardSliceTooShort = 31

abbrev pub error_number : BuildError → ℕ
error_number E.ExecutableDefinition = errors.executable_definition
error_number E.SchemaDefinitionCollision = errors.schema_definition_collision
error_number E.DirectiveDefinitionCollision = errors.directive_definition_collision
error_number E.TypeDefinitionCollision = errors.type_definition_collision
error_number E.BuiltInScalarTypeRedefinition = errors.built_in_scalar_type_redefinition
error_number E.OrphanSchemaExtension = errors.orphan_schema_extension
error_number E.OrphanTypeExtension = errors.orphan_type_extension
error_number E.TypeExtensionKindMismatch = errors.type_extension_kind_mismatch
error_number E.DuplicateRootOperation = errors.duplicate_root_operation
error_number E.DuplicateImplementsInterfaceInObject = errors.duplicate_implements_interface_in_object
error_number E.DuplicateImplementsInterfaceInInterface = errors.duplicate_implements_interface_in_interface
error_number E.ObjectFieldNameCollision = errors.object_field_name_collision
error_number E.InterfaceFieldNameCollision = errors.interface_field_name_collision
error_number E.EnumValueNameCollision = errors.enum_value_name_collision
error_number E.UnionMemberNameCollision = errors.union_member_name_collision
error_number E.InputFieldNameCollision = errors.input_field_name_collision

-- A refused call answers the refusal's number and its place.
abbrev pub refused_answer : Refused → Answer
refused_answer r = answer (refusal_number r.refusal) r.place

-- An accepted call answers 0 and 0; one that fills a slice 0 and how many things it wrote.
abbrev pub done_answer : Result Unit Refused → Answer
done_answer (Ok _) = answer 0 0
done_answer (Err r) = refused_answer r

abbrev pub count_answer : Result ℕ Refused → Answer
count_answer (Ok n) = answer 0 n
count_answer (Err r) = refused_answer r

-- The refusal's number, 0 where nothing is refused.
abbrev pub told_number : Result Unit Refusal → ℕ
told_number (Ok _) = 0
told_number (Err r) = refusal_number r

-- Drawn: 0 and the counts; refused: the number, and all counts 0.
abbrev pub drawing_answer : Result Drawn Refusal → Drawing
drawing_answer (Ok d) =
    record { number = 0; rows = d.rows; reading_errors = d.reading_errors; drawing_errors = d.drawing_errors; tallies = d.tallies }
drawing_answer (Err r) = record {
  number = refusal_number r;
  rows = 0;
  reading_errors = 0;
  drawing_errors = 0;
  tallies = record { counts = replicate error_numbers 0; total = 0 };
}

-- The lookups that answer with more than a number.
abbrev pub field_lookup : Result FieldFound FieldLookupError → FieldLookup
field_lookup (Ok f) = Found f
field_lookup (Err X.NoSuchType) = NoSuchType
field_lookup (Err (X.NoSuchField c)) = NoSuchField c
field_lookup (Err (X.Refused r)) = FieldLookup.Refused (refusal_number r)

abbrev pub subtype_lookup : Result Bool Refusal → SubtypeLookup
subtype_lookup (Ok true) = Subtype
subtype_lookup (Ok false) = NotSubtype
subtype_lookup (Err r) = SubtypeLookup.Refused (refusal_number r)
