-- Which card of a document 0 without barred kinds gives the first error, told card by card: all its headings are built-in and there is nothing
-- before it, so an error is a type whose name a type before it has, or a part that comes again under its type.
use Rattle.std.specs.Prelude.{List, [], ◌∷◌, ◌++◌, ℕ, ◌+◌, Option as Lent, Some, None}
use Rattle.std.proofs.Math.Option.{Option, none, some}
use Rattle.definition.specs.declared.Answer.{Answer}
use Rattle.definition.specs.Lists.{choose, found}
use Rattle.definition.specs.Answers.{answer}
use Rattle.definition.specs.Cards.{Card, is_part, is_type}
use Rattle.store_built_in.specs.Fails.{card_fails}

-- The parts under the same type as the card after c.
unfoldable pub seen_after : Option (List Card) → Card → Option (List Card)
seen_after seen c = choose (is_part c.kind) (found seen (λ ps. some (ps ++ (c ∷ []))) none) (choose (is_type c.kind) (some []) none)

-- The first card that gives an error, among cards numbered from i on.
unfoldable pub fails_from : List ℕ → List Card → Option (List Card) → ℕ → List Card → Option ℕ
fails_from text before seen i [] = none
fails_from text before seen i (c ∷ cs) =
    let rest = fails_from text (before ++ (c ∷ [])) (seen_after seen c) (i + 1) cs in
    choose (card_fails text before seen c) (some i) rest

-- The refusal of a card.
unfoldable pub six_at : Option ℕ → Option Answer
six_at o = found o (λ i. some (answer 6 i)) none

-- The first part under the type that the card after one of kind k stands under, `next` being its number.
unfoldable pub under_after : Lent ℕ → ℕ → ℕ → Lent ℕ
under_after u k next = choose (is_part k) u (choose (is_type k) (Some next) None)

-- What a search over cards finds.
abbrev pub found_at : Lent ℕ → Option ℕ
found_at (Some i) = some i
found_at None = none
