use mathlib.Core.Path.{refl, sym, ◌∙◌, ap}
use lib.ListN.{length}
use Rattle.definition.specs.Lists.{written, flat_map}
use Rattle.definition.specs.Lookups.{group_words}
use Rattle.schema_rows.specs.declared.Schema.{Schema}
use Rattle.schema.specs.InStore.{groups_in}
use Rattle.api.proofs.ListOutcomes.{implementers_map_listed, list_done}
use Rattle.api.proofs.implementers_map.Goals as goal

pub returns : goal.returns
returns c =
    let e = c.in_ok-schema.ensures in
    let told = c.implementers_map.ensures in
    list_done _ _ (sym e.0) _ _ _ _ (implementers_map_listed _ _ _ _) _ _ refl
    (told.0 ∙ ap (λ (s : Schema). length (groups_in s.text.now s.words.now s.rows.now)) e.1)
    (told.1 ∙ ap (λ (s : Schema). written c.args.list.now 0 (flat_map group_words (groups_in s.text.now s.words.now s.rows.now))) e.1)
