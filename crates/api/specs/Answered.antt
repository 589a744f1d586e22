-- What an answer that is an enum is told as: the four numbers of `type_field`'s, and the two of `is_subtype`'s, are Answers' numbers of the outcome.
use Rattle.std.specs.Prelude.{◌≡◌}
use Rattle.definition.specs.Answers.{FieldLookup, SubtypeLookup, field_refusal, field_number, field_meta, field_card, subtype_refusal, subtype_number}
use Rattle.api.specs.declared.answers.FieldAnswer.{FieldAnswer}
use Rattle.api.specs.declared.answers.SubtypeAnswer.{SubtypeAnswer}

abbrev pub FieldNumbers : FieldLookup → FieldAnswer → Type 0
FieldNumbers a r =
    (r.refusal ≡ field_refusal a) ×
    (r.number ≡ field_number a) ×
    (r.meta ≡ field_meta a) ×
    (r.card ≡ field_card a)

abbrev pub SubtypeNumbers : SubtypeLookup → SubtypeAnswer → Type 0
SubtypeNumbers a r = (r.refusal ≡ subtype_refusal a) × (r.yes ≡ subtype_number a)
