-- One law for each answer of the two checks, and what is known where none refuses.
use mathlib.Core.Path.{◌≡◌}
use mathlib.Core.List.{List}
use mathlib.Core.Option.{Option, none, some}
use Prim.Native.Nat.{ℕ, ◌+◌, ◌/◌, ◌<◌, ◌≤◌}
use lib.Dec.{ltb, leb}
use lib.ListN.{length}
use borrow.Author.Tests.{ltb-false, leb-false, lt-ltb, le-ltb, le-leb, lt-leb}
use Rattle.definition.specs.declared.Answer.{Answer}
use Rattle.definition.specs.Answers.{answer}
use Rattle.definition.specs.Cards.{card_words, document_fault}
use Rattle.definition.specs.Refusals.{text_capacity, document_capacity, card_capacity, refuse}
use Rattle.definition.specs.Store.{document_count, text_used_of, cards_used_of}
use Rattle.definition.proofs.Tests.{or_else_none, refuse_none}
use Rattle.store_filing_check.specs.FilingRefusal.{capacity_for, lent_refusal}

-- ---- 24 and 25.

module _ (t c l k : ℕ) where
  pub text_full : text_capacity < t + l → some (answer 24 0) ≡ capacity_for t c l k
  unfolding capacity_for refuse
  text_full h = rw (lt-ltb text_capacity (t + l) h)

  pub cards_full : t + l ≤ text_capacity → card_capacity < c + k → some (answer 25 0) ≡ capacity_for t c l k
  unfolding capacity_for refuse
  cards_full h q = rw (le-ltb text_capacity (t + l) h, lt-ltb card_capacity (c + k) q)

  pub enough : t + l ≤ text_capacity → c + k ≤ card_capacity → none ≡ capacity_for t c l k
  unfolding capacity_for refuse
  enough h q = rw (le-ltb text_capacity (t + l) h, le-ltb card_capacity (c + k) q)

  pub capacity_left : capacity_for t c l k ≡ none → (t + l ≤ text_capacity) × (c + k ≤ card_capacity)
  unfolding capacity_for
  capacity_left e =
      let q = or_else_none (refuse 24 (ltb text_capacity (t + l))) _ e in
      (ltb-false _ _ (refuse_none 24 _ q.0), ltb-false _ _ (refuse_none 25 _ q.1))

-- ---- A lent document.

module _ (words lent cards : List ℕ) where
  pub lent_faulty : (a : Answer) → some a ≡ document_fault lent cards → some a ≡ lent_refusal words lent cards
  unfolding lent_refusal
  lent_faulty a e = rw (← e)

  module _ (f : none ≡ document_fault lent cards) where
    pub lent_full : document_capacity ≤ document_count words → some (answer 23 0) ≡ lent_refusal words lent cards
    unfolding lent_refusal refuse
    lent_full h = rw (← f, le-leb document_capacity (document_count words) h)

    pub lent_capacity : (o : Option Answer) → document_count words < document_capacity →
        o ≡ capacity_for (text_used_of words) (cards_used_of words) (length lent) (length cards / card_words) → o ≡ lent_refusal words lent cards
    unfolding lent_refusal refuse
    lent_capacity o h e = rw (← f, lt-leb document_capacity (document_count words) h) e

-- What is known of a document that none refuses.
pub record Unrefused (words lent cards : List ℕ) : Type 0 where
  pub sound : document_fault lent cards ≡ none
  pub few : document_count words < document_capacity
  pub text_fits : text_used_of words + length lent ≤ text_capacity
  pub cards_fit : cards_used_of words + length cards / card_words ≤ card_capacity

pub unrefused : (words lent cards : List ℕ) → lent_refusal words lent cards ≡ none → Unrefused words lent cards
unfolding lent_refusal
unrefused words lent cards e =
    let q = or_else_none (document_fault lent cards) _ e in
    let r = or_else_none (refuse 23 (leb document_capacity (document_count words))) _ q.1 in
    let s = capacity_left (text_used_of words) (cards_used_of words) (length lent) (length cards / card_words) r.1 in
    record { sound = q.0; few = leb-false _ _ (refuse_none 23 _ r.0); text_fits = s.0; cards_fit = s.1 }
