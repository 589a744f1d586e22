-- What a sound store has: each part of 22 holds, its counts are in range, and its rows come to them.
use mathlib.Core.Path.{◌≡◌}
use mathlib.Core.List.{List, [], ◌∷◌}
use mathlib.Core.Bool.{true, false}
use Prim.Native.Nat.{ℕ, ◌+◌, ◌≤◌}
use native.Mathlib.Omega.{arith}
use lib.Dec.{eqb, leb, ltb}
use lib.ListN.{length}
use borrow.Author.Tests.{eqb-true, leb-true, ltb-false}
use Rattle.definition.specs.Refusals.{text_capacity, document_capacity, card_capacity}
use Rattle.definition.specs.Store.{DocumentRow, document_rows, stored_cards, account_in, words_capacity}
use Rattle.definition.specs.Store.{document_count, adopt_word, ignore_word, text_used_of, cards_used_of}
use Rattle.definition.specs.Store.{rows_touch, cards_counted, switches_rise, zero_unignored}
use Rattle.definition.specs.Store.{too_short, counts_sound, rows_sound, cards_sound, zero_sound, sound}
use Rattle.store_reader.proofs.Lists.{and_true, or_false, chosen_true}

-- ---- 21.

pub long : (text words : List ℕ) → too_short text words ≡ false → (text_capacity ≤ length text) × (words_capacity ≤ length words)
unfolding too_short
long text words e =
    let a = or_false (ltb (length text) text_capacity) (ltb (length words) words_capacity) e in (ltb-false _ _ a.0, ltb-false _ _ a.1)

-- ---- The parts of 22.

pub record Sounds (text words : List ℕ) : Type 0 where
  pub counts : counts_sound words ≡ true
  pub rows : rows_sound words (document_rows words) ≡ true
  pub cards : cards_sound text (document_rows words) (stored_cards words) ≡ true
  pub zero : zero_sound (account_in text words).documents ≡ true

pub sounds : (text words : List ℕ) → sound text words ≡ true → Sounds text words
unfolding sound
sounds text words e =
    let a = chosen_true (counts_sound words) _ e in
    let b = chosen_true (rows_sound words (document_rows words)) _ a.1 in
    let c = chosen_true (cards_sound text (document_rows words) (stored_cards words)) _ b.1 in
    record { counts = a.0; rows = b.0; cards = c.0; zero = c.1 }

-- ---- The counts.

pub record Counts (words : List ℕ) : Type 0 where
  pub some : 1 ≤ document_count words
  pub few : document_count words ≤ document_capacity
  pub adopt : adopt_word words ≤ 1
  pub ignore : ignore_word words ≤ 1
  pub text : text_used_of words ≤ text_capacity
  pub cards : cards_used_of words ≤ card_capacity

pub counts_held : (words : List ℕ) → counts_sound words ≡ true → Counts words
unfolding counts_sound
counts_held words e =
    let a = and_true _ (leb (cards_used_of words) card_capacity) e in
    let b = and_true _ (leb (text_used_of words) text_capacity) a.0 in
    let c = and_true _ (leb (ignore_word words) 1) b.0 in
    let d = and_true _ (leb (adopt_word words) 1) c.0 in
    let f = and_true (leb 1 (document_count words)) (leb (document_count words) document_capacity) d.0 in
    record {
      some = leb-true _ _ f.0;
      few = leb-true _ _ f.1;
      adopt = leb-true _ _ d.1;
      ignore = leb-true _ _ c.1;
      text = leb-true _ _ b.1;
      cards = leb-true _ _ a.1;
    }

-- ---- The rows.

pub record Rows (words : List ℕ) : Type 0 where
  pub touch : rows_touch (text_used_of words) 0 (document_rows words) ≡ true
  pub counted : cards_counted (cards_used_of words) 0 (document_rows words) ≡ true
  pub rise : switches_rise (ignore_word words) 0 (document_rows words) ≡ true
  pub zero : zero_unignored (document_rows words) ≡ true

pub rows_held : (words : List ℕ) → rows_sound words (document_rows words) ≡ true → Rows words
unfolding rows_sound
rows_held words e =
    let a = and_true _ (zero_unignored (document_rows words)) e in
    let b = and_true _ (switches_rise (ignore_word words) 0 (document_rows words)) a.0 in
    let c = and_true (rows_touch (text_used_of words) 0 (document_rows words)) (cards_counted (cards_used_of words) 0 (document_rows words)) b.0 in
    record { touch = c.0; counted = c.1; rise = b.1; zero = a.1 }

-- One row more.
pub touch_step : (used at : ℕ) (r : DocumentRow) (rs : List DocumentRow) → rows_touch used at (r ∷ rs) ≡ true →
    (r.text_at ≡ at) × (rows_touch used (at + r.text_len) rs ≡ true)
unfolding rows_touch
touch_step used at r rs e =
    let q = and_true (eqb r.text_at at) (rows_touch used (at + r.text_len) rs) e in (eqb-true _ _ q.0, q.1)

pub counted_step : (used n : ℕ) (r : DocumentRow) (rs : List DocumentRow) → cards_counted used n (r ∷ rs) ≡ true →
    cards_counted used (n + r.card_count) rs ≡ true
unfolding cards_counted
counted_step used n r rs e = e

-- The rows before end within what is used.
pub touch_le : (used at : ℕ) (rs : List DocumentRow) → rows_touch used at rs ≡ true → at ≤ used
touch_le used at [] e = omega (arith, eqb-true at used (unfold rows_touch in e))
touch_le used at (r ∷ rs) e = omega (arith, touch_le used (at + r.text_len) rs (touch_step used at r rs e).1)

pub counted_le : (used n : ℕ) (rs : List DocumentRow) → cards_counted used n rs ≡ true → n ≤ used
counted_le used n [] e = omega (arith, eqb-true n used (unfold cards_counted in e))
counted_le used n (r ∷ rs) e = omega (arith, counted_le used (n + r.card_count) rs (counted_step used n r rs e))
