use mathlib.Core.Path.{◌≡◌}
use mathlib.Core.List.{[]}
use mathlib.Core.Option.{none}
use Rattle.definition.specs.Cards.{cards_of}
use Rattle.store_built_in.specs.Alone.{fails_from}
use Rattle.store_built_in.proofs.Searches.{Within, errors_from}
use Rattle.store_built_in.proofs.first_error.Given as goal

abbrev pub invariant-loop-i : goal.invariant-loop-i
invariant-loop-i l =
    Within l.under l.i
    × (fails_from l.document.text.now [] none 0 (cards_of l.document.cards.now) ≡ errors_from l.document.text.now l.document.cards.now l.i l.under)
