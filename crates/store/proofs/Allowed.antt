-- What may be filed: the refusals of a lent document, one after the other, and what is known where none holds.
use mathlib.Core.Path.{◌≡◌, refl, sym, ◌∙◌}
use mathlib.Core.List.{List, [], ◌∷◌}
use mathlib.Core.Bool.{Bool, true, false}
use mathlib.Core.Option.{Option, none, some}
use Prim.Native.Nat.{ℕ, ◌+◌, ◌/◌, ◌%◌, ◌≤◌}
use native.Mathlib.Omega.{arith}
use lib.ListN.{length}
use borrow.Author.Tests.{eqb-true, not-false}
use Rattle.definition.specs.declared.Answer.{Answer}
use Rattle.definition.specs.Lists.{All}
use Rattle.definition.specs.Answers.{answer}
use Rattle.definition.specs.Cards.{Card, card_words, cards_of, is_part, fault_from, card_fault, broken_cards, document_fault}
use Rattle.definition.specs.Headings.{Document}
use Rattle.definition.specs.Refusals.{text_capacity, text_held, cards_held, document, zero_fault, capacity_refusal, opening_refusal, filing_refusal}
use Rattle.definition.specs.Store.{words_capacity, account_in}
use Rattle.store_check.proofs.Sound.{documents_held, text_held_lem, cards_held_lem}
use Rattle.definition.proofs.Tests.{chosen_some}
use Rattle.definition.proofs.CleanCards.{clean_part, clean_heading}
use Rattle.store.proofs.Clean.{item_in_text, name_in_text}
use Rattle.store_check.proofs.Checked.{SoundStore}
use Rattle.store.specs.Moving.{Within}
use Rattle.store.specs.Filing.{FilingFits, OpeningFits}
use Rattle.store_filing_check.specs.FilingRefusal.{capacity_for, lent_refusal}
use Rattle.store_filing_check.proofs.Enough.{capacity_left, unrefused}
use Rattle.store.proofs.Filed.{count_cards}

-- ---- A document that passes 1 to 5.

fine_within : (bytes : List ℕ) (size n i : ℕ) (h s : Option Card) (cs : List Card) → size ≤ n → fault_from bytes 0 size i h s cs ≡ none → All (Within n) cs
fine_within bytes size n i h s [] l e = tt
fine_within bytes size n i h s (c ∷ cs) l e =
    go (is_part c.kind) refl (fine_within bytes size n (i + 1) h (some c) cs l) (fine_within bytes size n (i + 1) (some c) none cs l)
  where
    go : (b : Bool) → is_part c.kind ≡ b →
        (fault_from bytes 0 size (i + 1) h (some c) cs ≡ none → All (Within n) cs) →
        (fault_from bytes 0 size (i + 1) (some c) none cs ≡ none → All (Within n) cs) →
        All (Within n) (c ∷ cs)
    go true p under new =
        let q = clean_part bytes 0 size i h s c cs p e in
        ((omega (arith, item_in_text bytes size h s c q.0), omega (arith, name_in_text bytes size h s c q.0)), under q.1)
    go false p under new =
        let q = clean_heading bytes 0 size i h s c cs p e in
        ((omega (arith, item_in_text bytes size none h c q.0), omega (arith, name_in_text bytes size none h c q.0)), new q.1)

module _ (lent cards : List ℕ) (e : document_fault lent cards ≡ none) where
  parts : (broken_cards cards ≡ false) × (card_fault lent 0 (length lent) (cards_of cards) ≡ none)
  unfolding document_fault
  parts = chosen_some (broken_cards cards) _ (answer 1 0) e

  whole_cards : length cards % card_words ≡ 0
  unfolding broken_cards
  whole_cards = eqb-true _ _ (not-false _ parts.0)

  within_text : (n : ℕ) → length lent ≤ n → All (Within n) (cards_of cards)
  unfolding card_fault
  within_text n l = fine_within lent (length lent) n 0 none none (cards_of cards) l parts.1

-- ---- 24 and 25.

capacity_for_lem : (ds : List Document) (lent cards : List ℕ) →
    capacity_refusal ds (document false lent cards) ≡ capacity_for (text_held ds) (cards_held ds) (length lent) (length cards / card_words)
unfolding capacity_refusal capacity_for document
capacity_for_lem ds lent cards = rw (count_cards cards)

-- ---- Opening.

module _ (lent cards : List ℕ) where
  pub opening_faulty : (a : Answer) → document_fault lent cards ≡ some a → opening_refusal lent cards ≡ some a
  unfolding opening_refusal
  opening_faulty a e = rw e

  module _ (f : document_fault lent cards ≡ none) where
    pub opening_barred : (a : Answer) → zero_fault (document false lent cards) ≡ some a → opening_refusal lent cards ≡ some a
    unfolding opening_refusal
    opening_barred a e = rw (f, e)

    pub opening_capacity : (o : Option Answer) → zero_fault (document false lent cards) ≡ none →
        o ≡ capacity_for 0 0 (length lent) (length cards / card_words) → opening_refusal lent cards ≡ o
    unfolding opening_refusal text_held cards_held
    opening_capacity o z e = rw (f, z) (capacity_for_lem [] lent cards ∙ sym e)

    pub opens : (text words : List ℕ) → text_capacity ≤ length text → words_capacity ≤ length words →
        none ≡ capacity_for 0 0 (length lent) (length cards / card_words) → OpeningFits text words lent cards
    opens text words t w e =
        let q = capacity_left 0 0 (length lent) (length cards / card_words) (sym e) in
        record {
          text_long = t;
          words_long = w;
          text_fits = omega arith;
          cards_fit = omega arith;
          whole = whole_cards lent cards f;
          within = within_text lent cards f text_capacity (omega arith);
        }

-- ---- Filing.

module _ (text words lent cards : List ℕ) (s : SoundStore text words) where
  pub same_refusal : filing_refusal (account_in text words) lent cards ≡ lent_refusal words lent cards
  unfolding filing_refusal lent_refusal
  same_refusal =
      rw (
        capacity_for_lem (account_in text words).documents lent cards,
        documents_held text words,
        text_held_lem text words s.text_long
            s.sound,
        cards_held_lem text words s.sound,
      )

  pub fits : lent_refusal words lent cards ≡ none → FilingFits text words lent cards
  fits e =
      let q = unrefused words lent cards e in
      record {
        text_long = s.text_long;
        words_long = s.words_long;
        few = q.few;
        text_fits = q.text_fits;
        cards_fit = q.cards_fit;
        whole = whole_cards lent cards q.sound;
        within = within_text lent cards q.sound text_capacity (omega (arith, q.text_fits));
      }
