use mathlib.Core.Path.{refl, sym, ◌∙◌, ap}
use lib.ListN.{length}
use Rattle.definition.specs.Lists.{written}
use Rattle.definition.specs.Lookups.{extension_list}
use Rattle.schema_rows.specs.declared.Schema.{Schema}
use Rattle.schema_rows.specs.Rows.{rows_of}
use Rattle.api.proofs.ListOutcomes.{extensions_listed, list_done}
use Rattle.api.proofs.extensions.Goals as goal

pub returns : goal.returns
returns c =
    let e = c.in_ok-schema.ensures in
    let told = c.extensions.ensures in
    list_done _ _ (sym e.0) _ _ _ _ (extensions_listed _ _ _ _) _ _ refl
    (told.0 ∙ ap (λ (s : Schema). length (extension_list (rows_of s))) e.1) (told.1 ∙ ap (λ (s : Schema). written c.args.list.now 0 (extension_list (rows_of s))) e.1)
