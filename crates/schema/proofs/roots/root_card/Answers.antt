use mathlib.Core.Path.{◌∙◌, sym, ap}
use Rattle.definition.specs.Catalogue.{Row}
use Rattle.schema_rows.specs.Rows.{row_of, cards_of}
use Rattle.schema.proofs.RootsLaws.{card_own, card_none, card_object}
use Rattle.schema.proofs.roots.root_card.Goals as goal

-- A root's own card, or that of the first type row of its default name.
pub returns-then-root-ne-ABSENT : goal.returns-then-root-ne-ABSENT
returns-then-root-ne-ABSENT c = card_own (cards_of c.args.schema) c.args.schema.rows.now (row_of c.args.root) c.if-root-ne-ABSENT.true

pub returns-in_default : goal.returns-in_default
returns-in_default c =
    card_none (cards_of c.args.schema) c.args.schema.rows.now (row_of c.args.root) c.if-root-ne-ABSENT.false
    (sym c.find_default_root.ensures.found ∙ c.in_default.is)

pub returns : goal.returns
returns c =
    ap (λ (r : Row). r.card) c.row.ensures
    ∙ card_object (cards_of c.args.schema) c.args.schema.rows.now (row_of c.args.root) c.if-root-ne-ABSENT.false _
    (sym c.find_default_root.ensures.found ∙ c.in-Some.is)
