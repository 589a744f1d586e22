-- 01, "Store": where things stand in it, 21 and 22, what it holds, and what opening, filing and turning a switch on write.
-- A store is a slice of text bytes and a slice of words. It is decoded, never trusted.
use Rattle.std.specs.Prelude.{List, [], ◌∷◌, map, Bool, true, false, ◌&&◌, ◌||◌, ℕ, ◌+◌, ◌-◌, ◌*◌, eqb, leb, ltb, length, take, drop, get_or, set}
use Rattle.std.proofs.Math.Option.{Option, none, some}
use Rattle.std.proofs.lemmas.List.Edits.{sets}
use Rattle.definition.specs.Lists.{choose, found, first, flat_map, chunks, written}
use Rattle.definition.specs.Names.{bytes_at}
use Rattle.definition.specs.Cards.{Card, card_words, cards_from, words_of_card, is_unnamed, card_fault}
use Rattle.definition.specs.Headings.{Document}
use Rattle.definition.specs.Account.{Account}
use Rattle.definition.specs.Refusals.{text_capacity, document_capacity, card_capacity, zero_fault}

-- ---- Positions: "documents, adopt switch, ignore switch, text used, cards used; 64 rows of text offset, text length, card count, ignore switch when
-- filed; 2,300 cards".

abbrev pub documents_at : ℕ
documents_at = 5

abbrev pub document_words : ℕ
document_words = 4

abbrev pub cards_at : ℕ
cards_at = documents_at + document_words * document_capacity

abbrev pub words_capacity : ℕ
words_capacity = cards_at + card_words * card_capacity

unfoldable pub document_count : List ℕ → ℕ
document_count words = get_or words 0 0

unfoldable pub adopt_word : List ℕ → ℕ
adopt_word words = get_or words 1 0

unfoldable pub ignore_word : List ℕ → ℕ
ignore_word words = get_or words 2 0

unfoldable pub text_used_of : List ℕ → ℕ
text_used_of words = get_or words 3 0

unfoldable pub cards_used_of : List ℕ → ℕ
cards_used_of words = get_or words 4 0

-- A document's row: where its text begins and how long it is, how many cards it has, and the ignore switch when it was filed.
pub record DocumentRow : Type 0 where
  pub text_at : ℕ
  pub text_len : ℕ
  pub card_count : ℕ
  pub ignored : ℕ

unfoldable pub document_row_from : List ℕ → DocumentRow
document_row_from ws = record { text_at = get_or ws 0 0; text_len = get_or ws 1 0; card_count = get_or ws 2 0; ignored = get_or ws 3 0 }

unfoldable pub document_rows : List ℕ → List DocumentRow
document_rows words = chunks document_words document_row_from (document_count words) (drop documents_at words)

unfoldable pub stored_cards : List ℕ → List Card
stored_cards words = cards_from (cards_used_of words) (drop cards_at words)

-- ---- What a store holds.

-- "Stored spans are moved by the document's offset, absent names not."
unfoldable pub moved : ℕ → Card → Card
moved base c = record {
  kind = c.kind;
  item_at = c.item_at + base;
  item_len = c.item_len;
  name_at = choose (is_unnamed c) c.name_at (c.name_at + base);
  name_len = c.name_len;
}

unfoldable pub unmoved : ℕ → Card → Card
unmoved base c = record {
  kind = c.kind;
  item_at = c.item_at - base;
  item_len = c.item_len;
  name_at = choose (is_unnamed c) c.name_at (c.name_at - base);
  name_len = c.name_len;
}

unfoldable pub stored_document : List ℕ → DocumentRow → List Card → Document
stored_document text r cs = record {
  text = bytes_at text r.text_at r.text_len;
  cards = map (unmoved r.text_at) cs;
  ignored = eqb r.ignored 1;
}

-- The documents of the rows; cs are the cards not yet given to a row.
unfoldable pub documents_from : List ℕ → List DocumentRow → List Card → List Document
documents_from text [] cs = []
documents_from text (r ∷ rs) cs = stored_document text r (take r.card_count cs) ∷ documents_from text rs (drop r.card_count cs)

unfoldable pub account_in : List ℕ → List ℕ → Account
account_in text words = record {
  documents = documents_from text (document_rows words) (stored_cards words);
  adopt = eqb (adopt_word words) 1;
  ignore = eqb (ignore_word words) 1;
}

-- ---- "21: store shorter than stated."
unfoldable pub too_short : List ℕ → List ℕ → Bool
too_short text words = ltb (length text) text_capacity || ltb (length words) words_capacity

-- ---- "22: counts, switches or rows that filing can't leave, or stored cards that 2 to 6 refuse." Only the used part is asked. 27 and 28 "count within 22" (2.1).

-- The counts and switches: 1 to 64 documents, each switch 0 or 1, no more text and cards than there is room for.
unfoldable pub counts_sound : List ℕ → Bool
counts_sound words =
    leb 1 (document_count words) && leb (document_count words) document_capacity &&
    leb (adopt_word words) 1 && leb (ignore_word words) 1 &&
    leb (text_used_of words) text_capacity && leb (cards_used_of words) card_capacity

-- "Rows are sorted by offset and touch", from 0 on to the text used;
unfoldable pub rows_touch : ℕ → ℕ → List DocumentRow → Bool
rows_touch used at [] = eqb at used
rows_touch used at (r ∷ rs) = eqb r.text_at at && rows_touch used (at + r.text_len) rs

-- their card counts come to the cards used;
unfoldable pub cards_counted : ℕ → ℕ → List DocumentRow → Bool
cards_counted used n [] = eqb n used
cards_counted used n (r ∷ rs) = cards_counted used (n + r.card_count) rs

-- their ignore switches never fall, and end no higher than the switch is: "A switch can be turned on at any time and never off";
unfoldable pub switches_rise : ℕ → ℕ → List DocumentRow → Bool
switches_rise switch last [] = leb last switch
switches_rise switch last (r ∷ rs) = leb last r.ignored && switches_rise switch r.ignored rs

-- and document 0 was filed with the switch 0.
unfoldable pub zero_unignored : List DocumentRow → Bool
zero_unignored rs = found (first rs) (λ r. eqb r.ignored 0) false

unfoldable pub rows_sound : List ℕ → List DocumentRow → Bool
rows_sound words rs =
    rows_touch (text_used_of words) 0 rs && cards_counted (cards_used_of words) 0 rs && switches_rise (ignore_word words) 0 rs && zero_unignored rs

-- Every document's cards pass 2 to 5, 27 and 28 against its own text,
unfoldable pub cards_sound : List ℕ → List DocumentRow → List Card → Bool
cards_sound text [] cs = true
cards_sound text (r ∷ rs) cs =
    let rest = cards_sound text rs (drop r.card_count cs) in
    found (card_fault text r.text_at r.text_len (take r.card_count cs)) (λ f. false) rest

-- and document 0 passes 6.
unfoldable pub zero_sound : List Document → Bool
zero_sound ds = found (first ds) (λ d. found (zero_fault d) (λ f. false) true) false

-- Each test is asked only where those before it hold: a count is read after its range.
unfoldable pub sound : List ℕ → List ℕ → Bool
sound text words =
    let zero = zero_sound (account_in text words).documents in
    let cards = choose (cards_sound text (document_rows words) (stored_cards words)) zero false in
    let rows = choose (rows_sound words (document_rows words)) cards false in
    choose (counts_sound words) rows false

-- The account of a store: none exactly where 22 holds.
unfoldable pub decode : List ℕ → List ℕ → Option Account
decode text words = let a = some (account_in text words) in choose (sound text words) a none

-- 21, then 22, else 0.
unfoldable pub store_refusal : List ℕ → List ℕ → ℕ
store_refusal text words =
    let n22 : ℕ = choose (sound text words) 0 22 in
    choose (too_short text words) 21 n22

-- ---- What is written.

-- A document's cards as they are stored, where its text begins at `base`.
unfoldable pub moved_words : ℕ → List Card → List ℕ
moved_words base cs = flat_map words_of_card (map (moved base) cs)

-- "Opening files document 0 with both switches 0." All other words and bytes stay.
unfoldable pub opened_words : List ℕ → Document → List ℕ
opened_words words d =
    written
    (sets words 0 (1 ∷ 0 ∷ 0 ∷ length d.text ∷ length d.cards ∷ 0 ∷ length d.text ∷ length d.cards ∷ 0 ∷ []))
    cards_at (moved_words 0 d.cards)

unfoldable pub opened_text : List ℕ → Document → List ℕ
opened_text text d = written text 0 d.text

-- "Filing writes its row, cards, text and counts into the unused part; all else stays."
unfoldable pub filed_row : List ℕ → Document → List ℕ
filed_row words d = text_used_of words ∷ length d.text ∷ length d.cards ∷ ignore_word words ∷ []

unfoldable pub filed_counts : List ℕ → Document → List ℕ
filed_counts words d =
    sets (set words 0 (document_count words + 1)) 3 ((text_used_of words + length d.text) ∷ (cards_used_of words + length d.cards) ∷ [])

unfoldable pub filed_words : List ℕ → Document → List ℕ
filed_words words d =
    written
    (sets (filed_counts words d) (documents_at + document_words * document_count words) (filed_row words d))
    (cards_at + card_words * cards_used_of words) (moved_words (text_used_of words) d.cards)

unfoldable pub filed_text : List ℕ → List ℕ → Document → List ℕ
filed_text text words d = written text (text_used_of words) d.text

-- Turning a switch on writes that word alone.
unfoldable pub adopting_words : List ℕ → List ℕ
adopting_words words = set words 1 1

unfoldable pub ignoring_words : List ℕ → List ℕ
ignoring_words words = set words 2 1
