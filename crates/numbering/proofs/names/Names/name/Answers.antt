use mathlib.Core.Path.{◌∙◌}
use Rattle.ast.specs.Cards.{card_of}
use Rattle.numbering.proofs.NameLaws.{name_span}
use Rattle.numbering.proofs.names.Names.name.Goals as goal

pub returns : goal.returns
returns c = c.bytes_at.ensures.bytes ∙ name_span _ _ _ (card_of c.card_at-card.result) c.card_at-card.ensures
