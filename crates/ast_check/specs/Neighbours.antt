-- The neighbours of a card.
use Rattle.std.specs.Prelude.{Option as Lent, Some, None}
use Rattle.std.proofs.Math.Option.{Option, none, some}
use Rattle.definition.specs.Cards.{Card as DefinedCard}
use Rattle.ast.specs.declared.Card.{Card}
use Rattle.ast.specs.Cards.{card_of}

abbrev pub neighbour_of : Lent Card → Option DefinedCard
neighbour_of (Some c) = some (card_of c)
neighbour_of None = none
