use mathlib.Core.Path.{◌∙◌, ap}
use Rattle.definition.specs.declared.FieldFound.TheVariants.{Explicit}
use Rattle.definition.specs.Answers.{Found}
use Rattle.definition.specs.Catalogue.{Row}
use Rattle.std.specs.Prelude.{ok_or}
use Rattle.definition.specs.declared.FieldLookupError.TheVariants.{NoSuchField}
use Rattle.definition.specs.Numbers.{field_lookup}
use Rattle.schema_rows.specs.Rows.{cards_of, rows_of}
use Rattle.schema.specs.InStore.{meta_field_in}
use Rattle.schema.proofs.Fields.{field_no_type, field_explicit, field_other, meta_told}
use Rattle.schema.proofs.lookup.type_field.Goals as goal

-- The search finds the type's row and the field's row.
pub returns-in_default : goal.returns-in_default
returns-in_default c = field_no_type _ _ _ _ _ c.requires _ c.find_part-located.ensures.found c.in_default.is

pub returns-in-Some-part : goal.returns-in-Some-part
returns-in-Some-part c =
    ap (λ (r : Row). Found (Explicit r.card)) c.row.ensures
    ∙ field_explicit _ _ _ _ _ c.requires _ c.find_part-located.ensures.found _ c.in-Some.is _ c.in-Some-part.is

pub returns : goal.returns
returns c =
    let e = c.args.schema in
    let cs = cards_of e in
    let same = c.row-owner.ensures in
    let meta = c.meta_field.ensures ∙ ap (λ (r : Row). meta_field_in cs (rows_of e) r.what c.args.type_name.now c.args.field.now) same in
    ap field_lookup c.ok_or.ensures.value
    ∙ (λ j. field_lookup (ok_or (meta j) (NoSuchField (same j).card)))
    ∙ meta_told _ _
    ∙ field_other _ _ _ _ _ c.requires _ c.find_part-located.ensures.found _ c.in-Some.is c.in_default-part.is
