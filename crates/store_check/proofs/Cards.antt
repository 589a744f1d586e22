-- The stored cards, document by document: what a pass over the documents has shown so far of their cards, and what each turn adds.
use mathlib.Core.Path.{◌≡◌, refl, sym, ap, ◌∙◌}
use mathlib.Core.List.{List, ◌∷◌}
use mathlib.Core.Bool.{true, false}
use mathlib.Core.Option.{none, some}
use Prim.Native.Nat.{ℕ, zero, suc, ◌+◌, ◌-◌, ◌*◌, ◌/◌, ◌<◌, ◌≤◌}
use native.Mathlib.Nat.{sub-zero, le_of_suc-le-suc}
use native.Mathlib.Omega.{arith}
use lib.ListN.{length, take, drop, length-drop}
use lib.Seq.{drop-drop, length-take-le}
use Rattle.definition.specs.declared.Answer.{Answer}
use Rattle.definition.specs.Lists.{chunks, found}
use Rattle.definition.specs.Cards.{Card, card_words, card_from, cards_from, cards_of, card_fault}
use Rattle.definition.specs.Refusals.{card_capacity}
use Rattle.definition.specs.Store.{documents_at, document_words, document_row_from, cards_at, words_capacity, document_count, cards_used_of}
use Rattle.definition.specs.Store.{DocumentRow, document_rows, stored_cards, cards_counted, cards_sound}
use Rattle.ast.proofs.Walk.{card_front}
use Rattle.store_reader.proofs.Lists.{drop_take}
use Rattle.store_reader.proofs.Sound.{counted_le}
use Rattle.store_reader.proofs.Words.{rows_over}
use Rattle.store_check.proofs.Sound.{counts_held}
use Rattle.store_check.specs.Check.{SoundRows}
use Rattle.store_check.proofs.Rows.{row_at, row_from, rows_next}

-- ---- Parts of a list of cards are the cards of parts of the words.

cards_taken : (k : ℕ) (ws : List ℕ) → cards_from k (take (card_words * k) ws) ≡ cards_from k ws
unfolding cards_from chunks
cards_taken zero ws = refl
cards_taken (suc k) ws =
    let n : card_words * suc k - card_words ≡ card_words * k = omega arith in
    rw (card_front (card_words * suc k) ws (omega arith), drop_take card_words (card_words * suc k) ws, n)
    (ap (λ (l : List Card). card_from ws ∷ l) (cards_taken k (drop card_words ws)))

cards_of_part : (k : ℕ) (ws : List ℕ) → card_words * k ≤ length ws → cards_of (take (card_words * k) ws) ≡ cards_from k ws
unfolding cards_of
cards_of_part k ws h =
    let n : length (take (card_words * k) ws) / card_words ≡ k = omega (arith, length-take-le (card_words * k) ws h) in
    rw n (cards_taken k ws)

take_cards : (k m : ℕ) (ws : List ℕ) → k ≤ m → take k (cards_from m ws) ≡ cards_from k ws
unfolding cards_from chunks
take_cards zero m ws h = refl
take_cards (suc k) zero ws h = absurd (omega arith)
take_cards (suc k) (suc m) ws h = ap (λ (l : List Card). card_from ws ∷ l) (take_cards k m (drop card_words ws) (le_of_suc-le-suc h))

drop_cards : (k m : ℕ) (ws : List ℕ) → k ≤ m → drop k (cards_from m ws) ≡ cards_from (m - k) (drop (card_words * k) ws)
unfolding cards_from chunks
drop_cards zero m ws h = ap (λ (n : ℕ). cards_from n ws) (sym (sub-zero m))
drop_cards (suc k) zero ws h = absurd (omega arith)
drop_cards (suc k) (suc m) ws h =
    let e : card_words + card_words * k ≡ card_words * suc k = omega arith in
    let n : m - k ≡ suc m - suc k = omega arith in
    drop_cards k m (drop card_words ws) (le_of_suc-le-suc h) ∙ rw (drop-drop (card_words * k) card_words ws, e, n)

-- The words of k cards from the card n on.
abbrev pub words_at : List ℕ → ℕ → ℕ → List ℕ
words_at words n k = take (card_words * k) (drop (cards_at + card_words * n) words)

module _ (words : List ℕ) (n k : ℕ) (h : n + k ≤ cards_used_of words) where
  pub here_cards : cards_at + card_words * (n + k) ≤ length words → take k (drop n (stored_cards words)) ≡ cards_of (words_at words n k)
  unfolding stored_cards
  here_cards l =
      ap (take k) (drop_cards n (cards_used_of words) (drop cards_at words) (omega arith))
      ∙ take_cards k (cards_used_of words - n) (drop (card_words * n) (drop cards_at words)) (omega arith)
      ∙ ap (cards_from k) (drop-drop (card_words * n) cards_at words)
      ∙ sym (cards_of_part k (drop (cards_at + card_words * n) words) (omega (arith, length-drop (cards_at + card_words * n) words)))

-- ---- The pass.

-- The documents before `row`, which have n cards, are cleared: the others decide.
pub record Cleared (text words : List ℕ) (n row : ℕ) : Type 0 where
  pub counted : cards_counted (cards_used_of words) n (drop row (document_rows words)) ≡ true
  pub cards : cards_sound text (document_rows words) (stored_cards words) ≡ cards_sound text (drop row (document_rows words)) (drop n (stored_cards words))

pub cleared_none : (text words : List ℕ) → cards_counted (cards_used_of words) 0 (document_rows words) ≡ true → Cleared text words 0 0
cleared_none text words e = record { counted = e; cards = refl }

pub cleared_all : (text words : List ℕ) (n row : ℕ) → document_count words ≤ row → Cleared text words n row →
    true ≡ cards_sound text (document_rows words) (stored_cards words)
unfolding cards_sound
cleared_all text words n row h p =
    sym (p.cards ∙ ap (λ (rs : List DocumentRow). cards_sound text rs (drop n (stored_cards words))) (rows_over words row h))

module _ (text words : List ℕ) (n row : ℕ) (h : row < document_count words) (p : Cleared text words n row) where
  abbrev here : DocumentRow
  here = row_at words row

  counted_next : cards_counted (cards_used_of words) (n + here.card_count) (drop (row + 1) (document_rows words)) ≡ true
  unfolding cards_counted
  counted_next = rw (rows_next words row h) at p.counted

  pub fits_here : n + here.card_count ≤ cards_used_of words
  fits_here = counted_le (cards_used_of words) (n + here.card_count) (drop (row + 1) (document_rows words)) counted_next

  module _ (l : words_capacity ≤ length words) (u : cards_used_of words ≤ card_capacity) where
    step : cards_sound text (document_rows words) (stored_cards words) ≡
        found (card_fault text here.text_at here.text_len (cards_of (words_at words n here.card_count))) (λ f. false)
        (cards_sound text (drop (row + 1) (document_rows words)) (drop (n + here.card_count) (stored_cards words)))
    unfolding cards_sound
    step =
        p.cards
        ∙ rw (
          rows_next words row h,
          here_cards words n here.card_count fits_here (omega (arith, fits_here)),
          drop-drop here.card_count n (stored_cards words),
        )

    pub cleared_next : card_fault text here.text_at here.text_len (cards_of (words_at words n here.card_count)) ≡ none →
        Cleared text words (n + here.card_count) (row + 1)
    cleared_next e = record { counted = counted_next; cards = step ∙ rw e }

    pub faulty_here : (a : Answer) → card_fault text here.text_at here.text_len (cards_of (words_at words n here.card_count)) ≡ some a →
        false ≡ cards_sound text (document_rows words) (stored_cards words)
    faulty_here a e = sym (step ∙ rw e)

-- The same where r is the row that was read, in a store with sound rows.
module _ (text words : List ℕ) (n row : ℕ) (r : DocumentRow) (f : r ≡ document_row_from (drop (documents_at + document_words * row) words))
    (h : row < document_count words) (p : Cleared text words n row) (k : SoundRows words) where
  same : r ≡ row_at words row
  same = f ∙ row_from words row

  used : cards_used_of words ≤ card_capacity
  used = (counts_held words k.counts).cards

  pub room : n + r.card_count ≤ card_capacity
  room = rw same (omega (arith, fits_here text words n row h p, used))

  pub cleared_row : card_fault text r.text_at r.text_len (cards_of (words_at words n r.card_count)) ≡ none → Cleared text words (n + r.card_count) (row + 1)
  cleared_row e = rw same (cleared_next text words n row h p k.long used (rw same at e))

  pub faulty_row : (a : Answer) → card_fault text r.text_at r.text_len (cards_of (words_at words n r.card_count)) ≡ some a →
      false ≡ cards_sound text (document_rows words) (stored_cards words)
  faulty_row a e = faulty_here text words n row h p k.long used a (rw same at e)
