use mathlib.Core.Path.{refl, sym, ◌∙◌, ap}
use lib.ListN.{length}
use Rattle.definition.specs.Lists.{written}
use Rattle.definition.specs.Lookups.{origin_list}
use Rattle.schema_rows.specs.declared.Schema.{Schema}
use Rattle.schema_rows.specs.Rows.{rows_of}
use Rattle.api.proofs.ListOutcomes.{iter_origins_listed, list_done}
use Rattle.api.proofs.iter_origins.Goals as goal

pub returns : goal.returns
returns c =
    let e = c.in_ok-schema.ensures in
    let told = c.iter_origins.ensures in
    list_done _ _ (sym e.0) _ _ _ _ (iter_origins_listed _ _ _ _) _ _ refl
    (told.0 ∙ ap (λ (s : Schema). length (origin_list (rows_of s))) e.1) (told.1 ∙ ap (λ (s : Schema). written c.args.list.now 0 (origin_list (rows_of s))) e.1)
