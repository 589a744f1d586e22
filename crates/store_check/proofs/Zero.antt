-- Document 0 of a store: it stands at the front of the text and of the cards, unmoved.
use mathlib.Core.Path.{◌≡◌, refl, sym, ap, ◌∙◌}
use mathlib.Core.List.{List, [], ◌∷◌, map}
use mathlib.Core.Bool.{true, false}
use mathlib.Core.Option.{none, some}
use Prim.Native.Nat.{ℕ, ◌+◌, ◌*◌, ◌≤◌, ◌<◌}
use native.Mathlib.Nat.{sub-zero}
use native.Mathlib.Omega.{arith}
use lib.ListN.{take, drop}
use borrow.Author.Tests.{eqb-true}
use Rattle.std.specs.Prelude.{Result, Ok, Err}
use Rattle.std.specs.Result.{is_ok}
use Rattle.definition.specs.declared.refusal.Refused.{Refused}
use Rattle.ast_check.specs.Checks.{check_option}
use Rattle.definition.specs.declared.Answer.{Answer}
use Rattle.definition.specs.Lists.{found}
use Rattle.definition.specs.Names.{bytes_at}
use Rattle.definition.specs.Cards.{Card, is_unnamed}
use Rattle.definition.specs.Refusals.{text_capacity, card_capacity, document, zero_fault}
use Rattle.definition.specs.Store.{documents_at, document_words, document_row_from, DocumentRow, document_rows, stored_cards, stored_document, documents_from, account_in, document_count, text_used_of}
use Rattle.definition.specs.Store.{rows_touch, zero_unignored, zero_sound, unmoved}
use Rattle.store_reader.proofs.Sound.{counts_held, rows_held, touch_step, touch_le}
use Rattle.store_built_in.proofs.Alone.{choose_same}
use Rattle.store_check.specs.Check.{SoundRows}
use Rattle.store_check.proofs.Rows.{row_at, row_from, rows_next}
use Rattle.store_check.proofs.Cards.{words_at, here_cards, Cleared, cleared_none, fits_here}

-- ---- Where document 0 stands.

unmoved_none : (c : Card) → unmoved 0 c ≡ c
unfolding unmoved
unmoved_none c = rw (sub-zero c.item_at, sub-zero c.name_at, choose_same (is_unnamed c) c.name_at)

all_unmoved : (cs : List Card) → map (unmoved 0) cs ≡ cs
all_unmoved [] = refl
all_unmoved (c ∷ cs) = rw (unmoved_none c, all_unmoved cs)

module _ (text words : List ℕ) (k : SoundRows words) where
  -- Its row, and the words of its cards.
  abbrev zero : DocumentRow
  zero = row_at words 0

  abbrev zero_words : List ℕ
  zero_words = words_at words 0 zero.card_count

  some_row : 0 < document_count words
  some_row = omega (arith, (counts_held words k.counts).some)

  touching : (zero.text_at ≡ 0) × (rows_touch (text_used_of words) (0 + zero.text_len) (drop 1 (document_rows words)) ≡ true)
  touching =
      touch_step (text_used_of words) 0 zero (drop 1 (document_rows words))
      (sym (ap (rows_touch (text_used_of words) 0) (rows_next words 0 some_row)) ∙ (rows_held words k.rows).touch)

  zero_text : zero.text_len ≤ text_capacity
  zero_text =
      omega (arith, touch_le (text_used_of words) (0 + zero.text_len) (drop 1 (document_rows words)) touching.1, (counts_held words k.counts).text)

  zero_flag : zero.ignored ≡ 0
  unfolding zero_unignored
  zero_flag = eqb-true _ _ (rw (rows_next words 0 some_row) at (rows_held words k.rows).zero)

  started : Cleared text words 0 0
  started = cleared_none text words (rows_held words k.rows).counted

  zero_cards : zero.card_count ≤ card_capacity
  zero_cards = omega (arith, fits_here text words 0 0 some_row started, (counts_held words k.counts).cards)

  zero_document : (account_in text words).documents ≡
      document false (take zero.text_len text) zero_words ∷ documents_from text (drop 1 (document_rows words)) (drop zero.card_count (stored_cards words))
  unfolding account_in documents_from stored_document document bytes_at
  zero_document =
      let own = here_cards words 0 zero.card_count (fits_here text words 0 0 some_row started) (omega (arith, zero_cards, k.long)) in
      rw (rows_next words 0 some_row, touching.0, zero_flag, all_unmoved (take zero.card_count (stored_cards words)), own)

  -- What 22 asks of document 0.
  asked : zero_sound (account_in text words).documents ≡ found (zero_fault (document false (take zero.text_len text) zero_words)) (λ f. false) true
  unfolding zero_sound
  asked = ap zero_sound zero_document

  zero_sound_lem : zero_fault (document false (take zero.text_len text) zero_words) ≡ none → true ≡ zero_sound (account_in text words).documents
  zero_sound_lem e = sym (asked ∙ rw e)

  zero_faulty : (a : Answer) → zero_fault (document false (take zero.text_len text) zero_words) ≡ some a →
      false ≡ zero_sound (account_in text words).documents
  zero_faulty a e = sym (asked ∙ rw e)

  -- The same where r is the row that was read, and t the result of the check.
  module _ (r : DocumentRow) (f : r ≡ document_row_from (drop (documents_at + document_words * 0) words)) where
    read : r ≡ zero
    read = f ∙ row_from words 0

    pub zero_lengths : (r.text_len ≤ text_capacity) × (r.card_count ≤ card_capacity)
    zero_lengths = rw read (zero_text, zero_cards)

    pub zero_told : (t : Result Unit Refused) → check_option t ≡ zero_fault (document false (take r.text_len text) (words_at words 0 r.card_count)) →
        is_ok t ≡ zero_sound (account_in text words).documents
    zero_told (Ok u) e = zero_sound_lem (sym (rw read at e))
    zero_told (Err x) e = zero_faulty _ (sym (rw read at e))
