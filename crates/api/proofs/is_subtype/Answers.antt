use mathlib.Core.Path.{◌∙◌, ap}
use Rattle.definition.specs.Store.{sound}
use Rattle.schema_rows.specs.declared.Schema.{Schema}
use Rattle.api.proofs.LookupRefusal.{unrefused}
use Rattle.api.proofs.is_subtype.Goals as goal

pub is_subtype-requires : goal.is_subtype-requires
is_subtype-requires c =
    let e = c.in_ok-schema.ensures in
    ap (λ (s : Schema). sound s.text.now s.words.now) e.1 ∙ (unrefused _ _ _ e.0).sound
