use mathlib.Core.Path.{◌∙◌, ap}
use Rattle.definition.specs.Catalogue.{Row}
use Rattle.store_reader.specs.Stored.{card_name}
use Rattle.schema.proofs.Groups.{pair_told}
use Rattle.schema.proofs.implementers.Pairs.is_first.Goals as goal

-- What was found is the pair itself exactly where no pair before has the name.
pub returns : goal.returns
returns c =
    let named = λ (r : Row). card_name c.args.self.schema.text.now c.args.self.schema.words.now r.card in
    c.eq.ensures ∙ pair_told _ _ _ _ _ (c.card_name-name.ensures ∙ ap named c.row.ensures) c.requires _ c.find.ensures
