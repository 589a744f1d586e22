use Rattle.definition.specs.ItemCards.{ended}
use Rattle.parser.proofs.definitions.end_heading.Goals as goal

pub returns : goal.returns
unfolding ended
returns c = c.put_card.ensures
