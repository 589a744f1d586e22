-- The room that there is, and the refusals 6, 23, 24 and 25. (1 to 5: Cards; 7: Outcomes; 21 and 22: Store; 26: LentRows.)
use Rattle.std.specs.Prelude.{List, [], ◌∷◌, ◌++◌, Bool, false, ◌||◌, ℕ, ◌+◌, ◌*◌, eqb, leb, ltb, length}
use Rattle.std.proofs.Math.Option.{Option, none, some}
use Rattle.definition.specs.declared.Answer.{Answer}
use Rattle.definition.specs.Lists.{choose, found, first, or_else}
use Rattle.definition.specs.Answers.{answer}
use Rattle.definition.specs.Cards.{Card, card_words, cards_of, document_fault, is_extension}
use Rattle.definition.specs.Headings.{Document}
use Rattle.definition.specs.Merge.{merge}
use Rattle.definition.specs.Account.{Account}

-- ---- Room.

-- In the store: "65,536 text bytes", "64 rows" of documents, "2,300 cards".
abbrev pub text_capacity : ℕ
text_capacity = 65536

abbrev pub document_capacity : ℕ
document_capacity = 64

abbrev pub card_capacity : ℕ
card_capacity = 2300

-- In the slice that a text's cards are read into: "a card slice under 11,500 words" (2.2) has no room for them all.
abbrev pub read_cards_capacity : ℕ
read_cards_capacity = card_capacity * card_words

-- In slices to be written: "rows shorter than 6,912 words, errors than 6,900, groups than 9,200, a list of origins than 2,304".
abbrev pub rows_capacity : ℕ
rows_capacity = 6912

abbrev pub errors_capacity : ℕ
errors_capacity = 6900

abbrev pub groups_capacity : ℕ
groups_capacity = 9200

abbrev pub origins_capacity : ℕ
origins_capacity = 2304

-- Text and cards held.
unfoldable pub text_held : List Document → ℕ
text_held [] = 0
text_held (d ∷ ds) = length d.text + text_held ds

unfoldable pub cards_held : List Document → ℕ
cards_held [] = 0
cards_held (d ∷ ds) = length d.cards + cards_held ds

-- ---- "6: document 0 holds kind 1, 2, 4 or 11 to 17, or alone gives an error."

-- The kinds that document 0 may not hold: 1, 2, 4 and 11 to 17.
unfoldable pub is_barred : ℕ → Bool
is_barred k = eqb k 1 || eqb k 2 || eqb k 4 || is_extension k

-- The first heading of a barred kind, among cards numbered from i on.
unfoldable pub barred_from : ℕ → List Card → Option Answer
barred_from i [] = none
barred_from i (c ∷ cs) = let r = barred_from (i + 1) cs in choose (is_barred c.kind) (some (answer 6 i)) r

-- The card of the first error that document 0 alone gives.
unfoldable pub error_alone : Document → Option Answer
error_alone d =
    let drawn = merge false (d ∷ []) in
    found (first (drawn.reading_errors ++ drawn.drawing_errors)) (λ e. some (answer 6 e.card)) none

-- "for 6 that is the first heading of a barred kind, or if none, the first error's card"
unfoldable pub zero_fault : Document → Option Answer
zero_fault d = let e = error_alone d in or_else (barred_from 0 d.cards) e

-- ---- 23, 24, 25, and all refusals of a lent document in 01's order.

-- A refusal whose second number is 0.
unfoldable pub refuse : ℕ → Bool → Option Answer
refuse n b = choose b (some (answer n 0)) none

-- The document that a text and card words are.
unfoldable pub document : Bool → List ℕ → List ℕ → Document
document ignored text ws = record { text = text; cards = cards_of ws; ignored = ignored }

-- "24: text would pass 65,536. 25: cards would pass 2,300."
unfoldable pub capacity_refusal : List Document → Document → Option Answer
capacity_refusal ds d =
    let n25 = refuse 25 (ltb card_capacity (cards_held ds + length d.cards)) in
    or_else (refuse 24 (ltb text_capacity (text_held ds + length d.text))) n25

-- Opening: 1, the first faulty card, 6, 24, 25.
unfoldable pub opening_refusal : List ℕ → List ℕ → Option Answer
opening_refusal text ws =
    let d = document false text ws in
    let n24 = capacity_refusal [] d in
    let n6 = or_else (zero_fault d) n24 in
    or_else (document_fault text ws) n6

-- Filing: 1, the first faulty card, "23: 64 documents held", 24, 25.
unfoldable pub filing_refusal : Account → List ℕ → List ℕ → Option Answer
filing_refusal a text ws =
    let n24 = capacity_refusal a.documents (document false text ws) in
    let n23 = or_else (refuse 23 (leb document_capacity (length a.documents))) n24 in
    or_else (document_fault text ws) n23
