-- The outcome of each entry, return by return.
use mathlib.Core.Path.{◌≡◌}
use mathlib.Core.List.{List}
use mathlib.Core.Bool.{false}
use mathlib.Core.Option.{none, some}
use Prim.Native.Nat.{ℕ, ◌<◌, ◌≤◌}
use lib.Dec.{eqb}
use lib.ListN.{length}
use borrow.Author.Tests.{lt-ltb, le-ltb}
use Rattle.definition.specs.declared.Answer.{Answer}
use Rattle.definition.specs.Answers.{answer}
use Rattle.definition.specs.Refusals.{text_capacity, document, opening_refusal, filing_refusal}
use Rattle.definition.specs.Store.{words_capacity, account_in, too_short, store_refusal, opened_text, opened_words, filed_text, filed_words}
use Rattle.definition.specs.Outcomes.{StoreOutcome, unchanged, accepted, open_store, add_ast, turned}

abbrev pub left : Answer → List ℕ → List ℕ → StoreOutcome
left a text words = record { answer = a; text = text; words = words }

-- ---- Opening.

module _ (text words lent cards : List ℕ) where
  pub open_short_text : (a : Answer) → a ≡ answer 21 0 → length text < text_capacity → left a text words ≡ open_store text words lent cards
  unfolding open_store unchanged too_short
  open_short_text a d h = rw (d, lt-ltb (length text) text_capacity h)

  module _ (t : text_capacity ≤ length text) where
    pub open_short_words : (a : Answer) → a ≡ answer 21 0 → length words < words_capacity → left a text words ≡ open_store text words lent cards
    unfolding open_store unchanged too_short
    open_short_words a d h = rw (d, le-ltb (length text) text_capacity t, lt-ltb (length words) words_capacity h)

    module _ (w : words_capacity ≤ length words) where
      pub open_refused : (a b : Answer) → a ≡ b → opening_refusal lent cards ≡ some b → left a text words ≡ open_store text words lent cards
      unfolding open_store unchanged too_short
      open_refused a b d e = rw (d, le-ltb (length text) text_capacity t, le-ltb (length words) words_capacity w, e)

      pub open_done : (text' words' : List ℕ) → opening_refusal lent cards ≡ none →
          text' ≡ opened_text text (document false lent cards) → words' ≡ opened_words words (document false lent cards) →
          left (answer 0 0) text' words' ≡ open_store text words lent cards
      unfolding open_store accepted too_short
      open_done text' words' e p q = rw (le-ltb (length text) text_capacity t, le-ltb (length words) words_capacity w, e, p, q)

  -- ---- Filing.

  pub add_unsound : (a : Answer) (n : ℕ) → a ≡ answer n 0 → eqb (store_refusal text words) 0 ≡ false → n ≡ store_refusal text words →
      left a text words ≡ add_ast text words lent cards
  unfolding add_ast unchanged
  add_unsound a n d u e = rw (d, u, e)

  module _ (s : store_refusal text words ≡ 0) where
    pub add_refused : (a b : Answer) → a ≡ b → filing_refusal (account_in text words) lent cards ≡ some b → left a text words ≡ add_ast text words lent cards
    unfolding add_ast unchanged
    add_refused a b d e = rw (d, s, e)

    pub add_done : (text' words' : List ℕ) → filing_refusal (account_in text words) lent cards ≡ none →
        text' ≡ filed_text text words (document false lent cards) → words' ≡ filed_words words (document false lent cards) →
        left (answer 0 0) text' words' ≡ add_ast text words lent cards
    unfolding add_ast accepted
    add_done text' words' e p q = rw (s, e, p, q)

-- ---- Turning on.

module _ (text words on : List ℕ) where
  pub turned_unsound : (a : Answer) (n : ℕ) → a ≡ answer n 0 → eqb (store_refusal text words) 0 ≡ false → n ≡ store_refusal text words →
      left a text words ≡ turned text words on
  unfolding turned unchanged
  turned_unsound a n d u e = rw (d, u, e)

  pub turned_done : store_refusal text words ≡ 0 → left (answer 0 0) text on ≡ turned text words on
  unfolding turned accepted
  turned_done s = rw s
