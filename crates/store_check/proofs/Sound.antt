-- The counts of a sound store are those of the documents that it holds; and what a store has that is not refused.
use mathlib.Core.Path.{◌≡◌, refl, sym, ap, ◌∙◌}
use mathlib.Core.List.{List, [], ◌∷◌, map}
use mathlib.Core.Bool.{Bool, true, false}
use mathlib.Core.Option.{some}
use Prim.Native.Nat.{ℕ, suc, ◌+◌, ◌≤◌}
use native.Mathlib.Nat.{zero-add}
use native.Mathlib.Omega.{arith}
use lib.Dec.{eqb}
use lib.ListN.{length, take, drop, length-map, length-drop}
use lib.Seq.{length-take-le}
use borrow.Author.Tests.{eqb-true}
use Rattle.definition.specs.Lists.{choose}
use Rattle.definition.specs.Names.{bytes_at}
use Rattle.definition.specs.Cards.{Card}
use Rattle.definition.specs.Refusals.{text_capacity, text_held, cards_held}
use Rattle.definition.specs.Store.{documents_at, document_words, document_count, text_used_of, cards_used_of, unmoved}
use Rattle.definition.specs.Store.{DocumentRow, document_row_from, document_rows, stored_cards, stored_document, documents_from, account_in}
use Rattle.definition.specs.Store.{rows_touch, cards_counted, too_short, sound, decode, store_refusal}
use Rattle.store_reader.proofs.Lists.{and_true, length_chunks}
use Rattle.store_reader.proofs.Laid.{length_stored_cards}
-- Those of 22's parts, and of 21, are passed on.
pub use Rattle.store_reader.proofs.Sound.{long, Sounds, sounds, Counts, counts_held, Rows, rows_held, touch_le, counted_le}

-- ---- What is held.

length_documents : (text : List ℕ) (rs : List DocumentRow) (cs : List Card) → length (documents_from text rs cs) ≡ length rs
unfolding documents_from
length_documents text [] cs = refl
length_documents text (r ∷ rs) cs = ap suc (length_documents text rs (drop r.card_count cs))

text_from : (text : List ℕ) (used at : ℕ) (rs : List DocumentRow) (cs : List Card) → used ≤ length text → rows_touch used at rs ≡ true →
    at + text_held (documents_from text rs cs) ≡ used
unfolding rows_touch documents_from text_held stored_document bytes_at
text_from text used at [] cs h e = omega (arith, eqb-true at used e)
text_from text used at (r ∷ rs) cs h e =
    let a = and_true (eqb r.text_at at) (rows_touch used (at + r.text_len) rs) e in
    let s = eqb-true r.text_at at a.0 in
    let k = touch_le used (at + r.text_len) rs a.1 in
    let n : length (take r.text_len (drop r.text_at text))
    ≡ r.text_len = length-take-le r.text_len (drop r.text_at text) (omega (arith, length-drop r.text_at text)) in
    let m = text_from text used (at + r.text_len) rs (drop r.card_count cs) h a.1 in
    omega arith

cards_from_lem : (text : List ℕ) (used n : ℕ) (rs : List DocumentRow) (cs : List Card) → n + length cs ≡ used → cards_counted used n rs ≡ true →
    n + cards_held (documents_from text rs cs) ≡ used
unfolding cards_counted documents_from cards_held stored_document
cards_from_lem text used n [] cs h e = omega (arith, eqb-true n used e)
cards_from_lem text used n (r ∷ rs) cs h e =
    let k = counted_le used (n + r.card_count) rs e in
    let l : length (map (unmoved r.text_at) (take r.card_count cs)) ≡ r.card_count = length-map (take r.card_count cs) (unmoved r.text_at)
    ∙ length-take-le r.card_count cs (omega arith) in
    let m = cards_from_lem text used (n + r.card_count) rs (drop r.card_count cs) (omega (arith, length-drop r.card_count cs)) e in
    omega arith

module _ (text words : List ℕ) where
  pub documents_held : length (account_in text words).documents ≡ document_count words
  unfolding account_in document_rows
  documents_held =
      length_documents text (document_rows words) (stored_cards words)
      ∙ length_chunks document_words document_row_from (document_count words) (drop documents_at words)

  pub text_held_lem : text_capacity ≤ length text → sound text words ≡ true → text_held (account_in text words).documents ≡ text_used_of words
  unfolding account_in
  text_held_lem h e =
      let s = sounds text words e in
      let c = counts_held words s.counts in
      let r = rows_held words s.rows in
      sym (zero-add _) ∙ text_from text (text_used_of words) 0 (document_rows words) (stored_cards words) (omega arith) r.touch

  pub cards_held_lem : sound text words ≡ true → cards_held (account_in text words).documents ≡ cards_used_of words
  unfolding account_in
  cards_held_lem e =
      let s = sounds text words e in
      let r = rows_held words s.rows in
      sym (zero-add _) ∙ cards_from_lem text (cards_used_of words) 0 (document_rows words) (stored_cards words) (zero-add _ ∙ length_stored_cards words) r.counted

-- ---- 21 and 22.

neither : (a b : Bool) → choose {A = ℕ} a 21 (choose b 0 22) ≡ 0 → (a ≡ false) × (b ≡ true)
neither true b e = absurd (omega arith)
neither false true e = (refl, refl)
neither false false e = absurd (omega arith)

module _ (text words : List ℕ) where
  -- Where a store is not refused it has the stated size, and is sound.
  pub accepted : store_refusal text words ≡ 0 → (too_short text words ≡ false) × (sound text words ≡ true)
  unfolding store_refusal
  accepted e = neither (too_short text words) (sound text words) e

  pub decoded : sound text words ≡ true → decode text words ≡ some (account_in text words)
  unfolding decode
  decoded e = rw e
