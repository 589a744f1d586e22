-- What filing and opening have written, step by step, is what the definitions say.
use mathlib.Core.Path.{◌≡◌, refl, ap, ◌∙◌}
use mathlib.Core.List.{List, [], ◌∷◌, ◌++◌}
use mathlib.Core.Bool.{false}
use Prim.Native.Nat.{ℕ, ◌+◌, ◌*◌, ◌/◌, ◌≤◌}
use native.Mathlib.Nat.{zero-add}
use native.Mathlib.Omega.{arith}
use lib.ListN.{length, set, take, drop, replicate, length-set, length-drop}
use lib.Seq.{sets, length-take-le}
use Rattle.definition.specs.Lists.{written}
use Rattle.definition.specs.Cards.{card_words, cards_from, cards_of}
use Rattle.definition.specs.Refusals.{document}
use Rattle.definition.specs.Store.{documents_at, document_words, cards_at, document_count, ignore_word, text_used_of, cards_used_of}
use Rattle.definition.specs.Store.{moved_words, filed_row, filed_counts, filed_words, filed_text, opened_words, opened_text}
use Rattle.store_reader.proofs.Lists.{length_chunks}
use Rattle.store.specs.Filing.{FilingFits, OpeningFits}

-- A word that is written leaves as many.
pub ruleset set_lengths = (length-set)

pub count_cards : (ws : List ℕ) → length (cards_of ws) ≡ length ws / card_words
unfolding cards_of cards_from
count_cards ws = length_chunks card_words _ (length ws / card_words) ws

module _ (text words lent cards : List ℕ) where
  pub text_filed : (t : List ℕ) → t ≡ written text (text_used_of words) lent → t ≡ filed_text text words (document false lent cards)
  unfolding filed_text document
  text_filed t e = e

  pub words_filed : (w₁ w₂ w₃ : List ℕ) →
      w₁ ≡ sets (set words 0 (document_count words + 1)) 3 ((text_used_of words + length lent) ∷ (cards_used_of words + length cards / card_words) ∷ []) →
      w₂ ≡ sets w₁ (documents_at + document_words * document_count words) (text_used_of words ∷ length lent ∷ (length cards / card_words) ∷ ignore_word words ∷ []) →
      w₃ ≡ written w₂ (cards_at + card_words * cards_used_of words) (moved_words (text_used_of words) (cards_of cards)) →
      w₃ ≡ filed_words words (document false lent cards)
  unfolding filed_words filed_counts filed_row document
  words_filed w₁ w₂ w₃ a b c = rw (c, b, a, count_cards cards)

-- What stands before the rows of a store that holds nothing, both switches off.
abbrev pub cleared : List ℕ → List ℕ
cleared words = 0 ∷ 0 ∷ 0 ∷ 0 ∷ 0 ∷ drop 5 words

length_cleared : (words : List ℕ) → documents_at ≤ length words → length (cleared words) ≡ length words
length_cleared words h = omega (arith, length-drop 5 words)

-- Document 0 is filed into it as opening says.
front_filed : (t c : ℕ) (words : List ℕ) → documents_at ≤ length words →
    sets (sets (set (cleared words) 0 1) 3 (t ∷ c ∷ [])) 5 (0 ∷ t ∷ c ∷ 0 ∷ []) ≡ sets words 0 (1 ∷ 0 ∷ 0 ∷ t ∷ c ∷ 0 ∷ t ∷ c ∷ 0 ∷ [])
front_filed t c [] h = absurd (omega arith)
front_filed t c (v ∷ []) h = absurd (omega arith)
front_filed t c (v ∷ w ∷ []) h = absurd (omega arith)
front_filed t c (v ∷ w ∷ x ∷ []) h = absurd (omega arith)
front_filed t c (v ∷ w ∷ x ∷ y ∷ []) h = absurd (omega arith)
front_filed t c (v ∷ w ∷ x ∷ y ∷ z ∷ words) h = refl

-- The same where `zeros` stand in the place of those words.
module _ (text words lent cards zeros : List ℕ) (p : OpeningFits text words lent cards) (z : zeros ≡ replicate (length (take documents_at words)) 0) where
  cleared_lem : zeros ++ drop documents_at words ≡ cleared words
  cleared_lem = rw (z, length-take-le documents_at words (omega (arith, p.words_long)))

  pub opening_fits : FilingFits text (zeros ++ drop documents_at words) lent cards
  unfolding document_count text_used_of cards_used_of
  opening_fits = rw cleared_lem (record {
    text_long = p.text_long;
    words_long = rw (length_cleared words (omega (arith, p.words_long))) p.words_long;
    few = omega arith;
    text_fits = omega (arith, p.text_fits);
    cards_fit = omega (arith, p.cards_fit);
    whole = p.whole;
    within = p.within;
  })

  pub text_opened : (t : List ℕ) → t ≡ filed_text text (zeros ++ drop documents_at words) (document false lent cards) →
      t ≡ opened_text text (document false lent cards)
  unfolding filed_text opened_text document text_used_of
  text_opened t e = e ∙ rw cleared_lem

  pub words_opened : (w : List ℕ) → w ≡ filed_words (zeros ++ drop documents_at words) (document false lent cards) →
      w ≡ opened_words words (document false lent cards)
  unfolding filed_words filed_counts filed_row opened_words document document_count text_used_of cards_used_of ignore_word
  words_opened w e =
      let n : ℕ = length (cards_of cards) in
      let front = front_filed (length lent) n words (omega (arith, p.words_long)) in
      e ∙ rw (cleared_lem, zero-add (length lent), zero-add n) (ap (λ (l : List ℕ). written l cards_at (moved_words 0 (cards_of cards))) front)
