-- What a card is judged by, and what the checks answer.
use Rattle.std.proofs.Math.Option.{Option, none, some}
use Rattle.std.specs.Prelude.{List, ℕ, Some, None, Result, Ok, Err}
use Rattle.definition.specs.declared.Answer.{Answer}
use Rattle.definition.specs.declared.refusal.Refused.{Refused}
use Rattle.definition.specs.Numbers.{refused_answer}
use Rattle.definition.specs.Lists.{choose}
use Rattle.definition.specs.Cards.{Place, is_part, place_after}
use Rattle.ast.specs.declared.Card.{Card}
use Rattle.ast.specs.Cards.{card_of}
use Rattle.ast_check.specs.declared.faults.Neighbours.{Neighbours}
use Rattle.ast_check.specs.Neighbours.{neighbour_of}

-- A place with these neighbours.
abbrev pub place_of : List ℕ → ℕ → ℕ → Neighbours → Place
place_of bytes base size n = record { bytes = bytes; base = base; size = size; heading = neighbour_of n.heading; sibling = neighbour_of n.sibling }

-- Where a card stands that comes after these.
abbrev pub place_with : List ℕ → ℕ → ℕ → Neighbours → Card → Place
place_with bytes base size before c = place_after bytes base size (neighbour_of before.heading) (neighbour_of before.sibling) (card_of c)

-- What a card is judged by, and what stands before the card after it.
unfoldable pub judged_of : Neighbours → Card → Neighbours
judged_of n c = choose (is_part c.kind) n (record { heading = None; sibling = n.heading })

unfoldable pub next_of : Neighbours → Card → Neighbours
next_of n c = choose (is_part c.kind) (record { heading = n.heading; sibling = Some c }) (record { heading = Some c; sibling = None })

-- The refusal that a check answers.
abbrev pub check_option : Result Unit Refused → Option Answer
check_option (Ok _) = none
check_option (Err r) = some (refused_answer r)
