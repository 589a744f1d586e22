use mathlib.Core.Path.{◌∙◌, sym, ap}
use lib.Dec.{eqb}
use Rattle.definition.specs.Catalogue.{Row}
use Rattle.schema_rows.specs.Rows.{row_of, cards_of}
use Rattle.schema_rows.proofs.Passing.{default_root_lem, root_plain, root_missing, root_object}
use Rattle.schema_rows.proofs.Schema.default_root_passes.Goals as goal

pub returns-then-not-is_default_root : goal.returns-then-not-is_default_root
returns-then-not-is_default_root c = root_plain _ _ _ (sym c.is_default_root.ensures ∙ c.if-not-is_default_root.true)

pub find_default_root-requires : goal.find_default_root-requires
find_default_root-requires c = default_root_lem _ _ _ (sym c.is_default_root.ensures ∙ c.if-not-is_default_root.false)

pub returns-in_default : goal.returns-in_default
returns-in_default c =
    root_missing (cards_of c.args.self) c.args.self.rows.now (row_of c.args.row)
    (sym c.is_default_root.ensures ∙ c.if-not-is_default_root.false)
    (sym c.find_default_root.ensures.found ∙ c.in_default.is)

pub returns : goal.returns
returns c =
    ap (λ (r : Row). eqb r.what 6) c.row.ensures
    ∙ root_object (cards_of c.args.self) c.args.self.rows.now (row_of c.args.row)
    (sym c.is_default_root.ensures ∙ c.if-not-is_default_root.false) _
    (sym c.find_default_root.ensures.found ∙ c.in-Some.is)
