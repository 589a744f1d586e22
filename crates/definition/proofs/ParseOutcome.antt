-- What reading a text can answer.
use mathlib.Core.List.{List, [], ◌∷◌}
use mathlib.Core.Bool.{Bool, true, false}
use mathlib.Core.Option.{Option, none, some}
use Prim.Native.Nat.{ℕ}
use lib.Dec.{ltb}
use lib.ListN.{length}
use Rattle.definition.specs.Lists.{choose, found, flat_map}
use Rattle.definition.specs.Cards.{words_of_card}
use Rattle.definition.specs.Answers.{answer}
use Rattle.definition.specs.Derivation.{Seen}
use Rattle.definition.specs.Lexical.{Lexed, tokens_in}
use Rattle.definition.specs.Grammar.{part, Document}
use Rattle.definition.specs.Machine.{Ending, whole, stops, Walked, walk}
use Rattle.definition.specs.ItemCards.{cards_read, too_deep}
use Rattle.definition.specs.Reading.{Reading, accepted, refused, place_at, judged, reading}
use Rattle.definition.specs.Refusals.{text_capacity, card_capacity, read_cards_capacity}
use Rattle.definition.specs.Outcomes.{ListOutcome, unlisted, listed_in, is_short, parsed, parse}

-- A text is accepted, or refused with 29 or 30.
pub reading_is : (text : List ℕ) (P : Reading → Type 0) → ((es : List Seen) → P (accepted es)) → ((p : ℕ) → P (refused 29 p)) → ((p : ℕ) → P (refused 30 p)) →
    P (reading text)
unfolding reading judged
reading_is text P f g h =
    let l = tokens_in text in
    let w = walk l.tokens (part Document ∷ []) in
    go l w (too_deep 0 w.seen) w.ending l.broken
  where
    go : (l : Lexed) (w : Walked) (o : Option ℕ) (e : Ending) (b : Bool) →
        P (found o (λ p. refused 30 p) (elim e [
          | whole ↦ choose b (refused 29 l.ends) (accepted w.seen)
          | stops ts ↦ refused 29 (place_at ts l.ends)
        ]))
    go l w (some p) e b = h p
    go l w none whole true = g l.ends
    go l w none whole false = f w.seen
    go l w none (stops ts) b = g (place_at ts l.ends)

-- Its outcome is that of an acceptance, which fills the slice, or of one of five refusals, which leave it as it was.
pub parse_is : (text lent : List ℕ) (P : ListOutcome → Type 0) → ((n : ℕ) (ws : List ℕ) → P (listed_in lent n ws)) →
    P (unlisted lent 31) → P (unlisted lent 24) → P (unlisted lent 25) →
    ((p : ℕ) → P (record { answer = answer 29 p; list = lent })) → ((p : ℕ) → P (record { answer = answer 30 p; list = lent })) →
    P (parse text lent)
unfolding parse
parse_is text lent P done short long many bad deep = go (is_short read_cards_capacity lent) (ltb text_capacity (length text))
  where
    counted : (es : List Seen) (b : Bool) → P (choose b (unlisted lent 25) (listed_in lent (length (cards_read es)) (flat_map words_of_card (cards_read es))))
    counted es true = many
    counted es false = done (length (cards_read es)) (flat_map words_of_card (cards_read es))

    go : (b c : Bool) → P (choose b (unlisted lent 31) (choose c (unlisted lent 24) (parsed lent (reading text))))
    go true c = short
    go false true = long
    go false false = reading_is text (λ r. P (parsed lent r)) (λ es. counted es (ltb card_capacity (length (cards_read es)))) bad deep
