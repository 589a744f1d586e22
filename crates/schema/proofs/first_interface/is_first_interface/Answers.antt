use mathlib.Core.Path.{◌∙◌, refl, ap}
use Rattle.definition.specs.Catalogue.{Row}
use Rattle.store_reader.specs.Stored.{card_name}
use Rattle.schema.proofs.SearchStops.{interface_told}
use Rattle.schema.proofs.first_interface.is_first_interface.Goals as goal

-- What was found is the row itself exactly where no interface before it under the type has the name.
pub returns : goal.returns
returns c =
    let p = c.requires in
    let named = λ (r : Row). card_name c.args.schema.text.now c.args.schema.words.now r.card in
    c.eq.ensures
    ∙ interface_told _ _ _ _ _ p.0 p.1 _ _
    (c.card_name-owner.ensures ∙ ap named c.row.ensures) (c.card_name-name.ensures ∙ ap named c.row-2.ensures)
    _ c.find_part-located.ensures.found p.2 _ refl
