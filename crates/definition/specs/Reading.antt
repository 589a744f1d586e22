-- What a text is read as: request 2.2. Outcomes has the call.
use Rattle.std.specs.Prelude.{List, [], ◌∷◌, ℕ}
use Rattle.definition.specs.Lists.{choose, found}
use Rattle.definition.specs.Grammar.{part, Document}
use Rattle.definition.specs.Derivation.{Token, Seen}
use Rattle.definition.specs.Lexical.{Lexed, tokens_in}
use Rattle.definition.specs.Machine.{whole, stops, Walked, walk}
use Rattle.definition.specs.ItemCards.{too_deep}

-- Accepted, with what the text comes by; or refused with a number and a place.
pub data Reading : Type 0 where
  accepted : List Seen → Reading
  refused : ℕ → ℕ → Reading

-- ---- What a text is read as, by the machine. Promise says what is promised of it, and parser_laws proves that it is promised, and nothing else.

-- Where the first of some tokens begins, or else the end.
abbrev pub place_at : List Token → ℕ → ℕ
place_at [] end = end
place_at (t ∷ ts) end = t.begins

-- 30 where what was read opens a 33rd level; else 29 where the machine stops, or where nothing readable stands; else accepted.
unfoldable pub judged : Lexed → Walked → Reading
judged l w =
    let done : Reading = elim w.ending [
      | whole ↦ choose l.broken (refused 29 l.ends) (accepted w.seen)
      | stops ts ↦ refused 29 (place_at ts l.ends)
    ] in
    found (too_deep 0 w.seen) (λ p. refused 30 p) done

unfoldable pub reading : List ℕ → Reading
reading text = let l = tokens_in text in judged l (walk l.tokens (part Document ∷ []))
