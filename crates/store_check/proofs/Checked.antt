-- What each answer of the check tells.
use mathlib.Core.Path.{◌≡◌, sym, ap, ◌∙◌}
use mathlib.Core.List.{List}
use mathlib.Core.Bool.{true, false}
use Prim.Native.Nat.{ℕ, ◌<◌, ◌≤◌}
use native.Mathlib.Omega.{arith}
use lib.Dec.{eqb}
use lib.ListN.{length}
use borrow.Author.Tests.{lt-ltb, le-ltb, ne_eqb}
use Rattle.definition.specs.Refusals.{text_capacity}
use Rattle.definition.specs.Store.{words_capacity, document_rows, stored_cards, account_in}
use Rattle.definition.specs.Store.{too_short, counts_sound, rows_sound, cards_sound, zero_sound, sound, store_refusal}
use Rattle.std.specs.Prelude.{Result, Ok, Err}
use Rattle.definition.specs.declared.refusal.Refusal.{Refusal}
use Rattle.definition.specs.declared.refusal.Refusal.TheVariants.{StoreTooShort, StoreUnsound}
use Rattle.definition.specs.Numbers.{refusal_number, told_number}
use Rattle.ast_check.proofs.Told.{numbered}
use Rattle.store_check.specs.Check.{Checked}
use Rattle.store_check.proofs.Sound.{sounds, Counts, counts_held, Rows, rows_held, accepted, long, decoded}

module _ (text words : List ℕ) where
  refused : (n : Refusal) → refusal_number n ≡ store_refusal text words → Checked (Err n) text words
  refused n e = record { number = e; decoded = λ q. absurd (let z : ◌≡◌ {A = ℕ} 0 1 = cc in omega arith) }

  pub short_text : length text < text_capacity → Checked (Err StoreTooShort) text words
  unfolding store_refusal too_short
  short_text h = refused StoreTooShort (rw (lt-ltb (length text) text_capacity h))

  module _ (t : text_capacity ≤ length text) where
    pub short_words : length words < words_capacity → Checked (Err StoreTooShort) text words
    unfolding store_refusal too_short
    short_words h = refused StoreTooShort (rw (le-ltb (length text) text_capacity t, lt-ltb (length words) words_capacity h))

    module _ (w : words_capacity ≤ length words) where
      long_enough : too_short text words ≡ false
      unfolding too_short
      long_enough = rw (le-ltb (length text) text_capacity t, le-ltb (length words) words_capacity w)

      unsound : sound text words ≡ false → Checked (Err StoreUnsound) text words
      unfolding store_refusal
      unsound e = refused StoreUnsound (rw (long_enough, e))

      pub counts_unsound : counts_sound words ≡ false → Checked (Err StoreUnsound) text words
      unfolding sound
      counts_unsound e = unsound (rw e)

      module _ (c : counts_sound words ≡ true) where
        pub rows_unsound : rows_sound words (document_rows words) ≡ false → Checked (Err StoreUnsound) text words
        unfolding sound
        rows_unsound e = unsound (rw (c, e))

        module _ (r : rows_sound words (document_rows words) ≡ true) where
          pub cards_unsound : cards_sound text (document_rows words) (stored_cards words) ≡ false → Checked (Err StoreUnsound) text words
          unfolding sound
          cards_unsound e = unsound (rw (c, r, e))

          module _ (k : cards_sound text (document_rows words) (stored_cards words) ≡ true) where
            pub zero_unsound : zero_sound (account_in text words).documents ≡ false → Checked (Err StoreUnsound) text words
            unfolding sound
            zero_unsound e = unsound (rw (c, r, k, e))

            all_sound : zero_sound (account_in text words).documents ≡ true → sound text words ≡ true
            unfolding sound
            all_sound e = rw (c, r, k, e)

            pub found_sound : zero_sound (account_in text words).documents ≡ true → Checked (Ok tt) text words
            unfolding store_refusal
            found_sound e = record {
              number = rw (long_enough, all_sound e);
              decoded = λ q. decoded text words (all_sound e);
            }

-- ---- What a caller learns.

-- A store that is not refused.
pub record SoundStore (text words : List ℕ) : Type 0 where
  pub unrefused : store_refusal text words ≡ 0
  pub text_long : text_capacity ≤ length text
  pub words_long : words_capacity ≤ length words
  pub sound : sound text words ≡ true
  pub counts : Counts words
  pub rows : Rows words

module _ (text words : List ℕ) (r : Result Unit Refusal) (k : Checked r text words) where
  pub sound_store : {u : _} → r ≡ Ok u → SoundStore text words
  sound_store e =
      let z : store_refusal text words ≡ 0 = sym k.number ∙ ap told_number e in
      let a = accepted text words z in
      let l = long text words a.0 in
      let s = sounds text words a.1 in
      record {
        unrefused = z;
        text_long = l.0;
        words_long = l.1;
        sound = a.1;
        counts = counts_held words s.counts;
        rows = rows_held words s.rows;
      }

  pub refused_number : (n : Refusal) → r ≡ Err n → refusal_number n ≡ store_refusal text words
  refused_number n e = sym (ap told_number e) ∙ k.number

  pub refused_store : (n : Refusal) → r ≡ Err n → eqb (store_refusal text words) 0 ≡ false
  refused_store n e = rw (← refused_number n e) (ne_eqb _ 0 (numbered n))
