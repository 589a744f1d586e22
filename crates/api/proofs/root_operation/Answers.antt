use mathlib.Core.Path.{refl, ◌∙◌, ap}
use native.Mathlib.Nat.{add_comm}
use Rattle.definition.specs.Store.{sound, too_short}
use Rattle.schema_rows.specs.declared.Schema.{Schema}
use Rattle.api.proofs.LookupRefusal.{unrefused, numbered}
use Rattle.api.proofs.RootOutcomes.{root_refused}
use Rattle.api.proofs.root_operation.Goals as goal

pub root_operation-requires : goal.root_operation-requires
root_operation-requires c =
    let e = c.in-Ok.ensures in
    let u = unrefused _ _ _ e.0 in
    (ap (λ (s : Schema). sound s.text.now s.words.now) e.1 ∙ u.sound, ap (λ (s : Schema). too_short s.text.now s.words.now) e.1 ∙ u.long)

pub returns-in-Err : goal.returns-in-Err
returns-in-Err c = root_refused c.args.text (record { ref_ptr = _; now = _ }) _ _ _ _ c.in-Err.ensures (numbered _) refl (add_comm _ _) refl
