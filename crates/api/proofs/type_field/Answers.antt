use mathlib.Core.Path.{◌∙◌, ap}
use Rattle.definition.specs.Store.{sound}
use Rattle.schema_rows.specs.declared.Schema.{Schema}
use Rattle.api.proofs.LookupRefusal.{unrefused}
use Rattle.api.proofs.type_field.Goals as goal

pub type_field-requires : goal.type_field-requires
type_field-requires c =
    let e = c.in_ok-checked.ensures in
    ap (λ (s : Schema). sound s.text.now s.words.now) e.1 ∙ (unrefused _ _ _ e.0).sound
