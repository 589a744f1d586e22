-- How a reading ends, as a function of the tokens from a place on, the symbols still to come, the levels open and the cards so far.
use Rattle.std.specs.Prelude.{List, [], ◌∷◌, ℕ}
use Rattle.definition.specs.Lists.{choose, found}
use Rattle.definition.specs.Grammar.{Symbol}
use Rattle.definition.specs.Derivation.{Token, Seen}
use Rattle.definition.specs.Lexical.{Lexed}
use Rattle.definition.specs.Machine.{Ending, whole, stops, Walked, walk}
use Rattle.definition.specs.ItemCards.{Listing, listed, no_token, too_deep}
use Rattle.definition.specs.Reading.{place_at}

pub data Verdict : Type 0 where
  passes : Listing → Verdict
  fails : ℕ → ℕ → Verdict

abbrev pub ended_by : Lexed → Listing → List Seen → Ending → Verdict
ended_by l c es whole = choose l.broken (fails 29 l.ends) (passes (listed c es))
ended_by l c es (stops ts) = fails 29 (place_at ts l.ends)

unfoldable pub verdict_of : Lexed → ℕ → Listing → Walked → Verdict
verdict_of l level c w = let r = ended_by l c w.seen w.ending in found (too_deep level w.seen) (λ p. fails 30 p) r

-- From tokens on, by symbols, with so many levels open and these cards.
unfoldable pub verdict : Lexed → List Symbol → ℕ → Listing → Verdict
verdict l ss level c = verdict_of l level c (walk l.tokens ss)

-- Tokens with one more before them.
abbrev pub before : Token → Lexed → Lexed
before t l = record { tokens = t ∷ l.tokens; ends = l.ends; broken = l.broken }

abbrev pub next_of : List Token → Token
next_of [] = no_token
next_of (t ∷ ts) = t
