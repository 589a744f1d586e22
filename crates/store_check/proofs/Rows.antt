-- The documents' rows of a store, read one after the other: what a pass over them has shown so far, and what each turn adds.
use mathlib.Core.Path.{◌≡◌, refl, sym, ap, ◌∙◌}
use mathlib.Core.List.{List, ◌∷◌}
use mathlib.Core.Bool.{Bool, true, false, ◌&&◌, and-false, and-true as and-all}
use Prim.Native.Nat.{ℕ, ◌+◌, ◌*◌, ◌<◌, ◌≤◌}
use lib.Dec.{eqb, leb}
use lib.ListN.{drop, get_or}
use lib.Seq.{get_or-drop}
use borrow.Author.Tests.{eq-eqb, ne_eqb, eqb-true, eqb-false, le-leb, lt-leb, leb-true, leb-false}
use Rattle.definition.specs.Store.{documents_at, document_words, document_count, text_used_of, cards_used_of, ignore_word}
use Rattle.definition.specs.Store.{DocumentRow, document_row_from, document_rows}
use Rattle.definition.specs.Store.{rows_touch, cards_counted, switches_rise, zero_unignored, rows_sound}
use Rattle.definition.proofs.Tests.{and_true}
use Rattle.store_reader.proofs.Words.{row_at_lem, rows_over}
use Rattle.store_check.specs.Check.{row_follows, sums_sound}

-- ---- The rows from one on.

abbrev pub row_at : List ℕ → ℕ → DocumentRow
row_at words row = record {
  text_at = get_or words (documents_at + document_words * row + 0) 0;
  text_len = get_or words (documents_at + document_words * row + 1) 0;
  card_count = get_or words (documents_at + document_words * row + 2) 0;
  ignored = get_or words (documents_at + document_words * row + 3) 0;
}

pub row_from : (words : List ℕ) (row : ℕ) → document_row_from (drop (documents_at + document_words * row) words) ≡ row_at words row
unfolding document_row_from
row_from words row = simp get_or-drop

pub rows_next : (words : List ℕ) (row : ℕ) → row < document_count words →
    drop row (document_rows words) ≡ row_at words row ∷ drop (row + 1) (document_rows words)
rows_next words row h = row_at_lem words row h ∙ ap (λ (r : DocumentRow). r ∷ drop (row + 1) (document_rows words)) (row_from words row)

-- ---- The pass.

-- What the rows before `row` leave to be asked of the others: the text begins at `at`, `cards` are counted, the last ignore switch is `ignored`.
pub record Passed (words : List ℕ) (at cards ignored row : ℕ) : Type 0 where
  pub touch : rows_touch (text_used_of words) 0 (document_rows words) ≡ rows_touch (text_used_of words) at (drop row (document_rows words))
  pub counted : cards_counted (cards_used_of words) 0 (document_rows words) ≡ cards_counted (cards_used_of words) cards (drop row (document_rows words))
  pub rise : switches_rise (ignore_word words) 0 (document_rows words) ≡ switches_rise (ignore_word words) ignored (drop row (document_rows words))

pub passed_none : (words : List ℕ) → Passed words 0 0 0 0
passed_none words = record { touch = refl; counted = refl; rise = refl }

touch_same : (used at : ℕ) (r : DocumentRow) (rs : List DocumentRow) → r.text_at ≡ at → rows_touch used at (r ∷ rs) ≡ rows_touch used (at + r.text_len) rs
unfolding rows_touch
touch_same used at r rs e = rw (eq-eqb r.text_at at e)

touch_other : (used at : ℕ) (r : DocumentRow) (rs : List DocumentRow) → (r.text_at ≡ at → ⊥) → rows_touch used at (r ∷ rs) ≡ false
unfolding rows_touch
touch_other used at r rs e = rw (ne_eqb r.text_at at e)

counted_next : (used n : ℕ) (r : DocumentRow) (rs : List DocumentRow) → cards_counted used n (r ∷ rs) ≡ cards_counted used (n + r.card_count) rs
unfolding cards_counted
counted_next used n r rs = refl

rise_kept : (switch last : ℕ) (r : DocumentRow) (rs : List DocumentRow) → last ≤ r.ignored →
    switches_rise switch last (r ∷ rs) ≡ switches_rise switch r.ignored rs
unfolding switches_rise
rise_kept switch last r rs h = rw (le-leb last r.ignored h)

rise_fallen : (switch last : ℕ) (r : DocumentRow) (rs : List DocumentRow) → r.ignored < last → switches_rise switch last (r ∷ rs) ≡ false
unfolding switches_rise
rise_fallen switch last r rs h = rw (lt-leb last r.ignored h)

passed_next : (words : List ℕ) (at cards ignored row : ℕ) → row < document_count words → (row_at words row).text_at ≡ at → ignored ≤ (row_at words row).ignored →
    Passed words at cards ignored row →
    Passed words (at + (row_at words row).text_len) (cards + (row_at words row).card_count) (row_at words row).ignored (row + 1)
passed_next words at cards ignored row h e k p =
    let r : DocumentRow = row_at words row in
    let rs : List DocumentRow = drop (row + 1) (document_rows words) in
    let s = rows_next words row h in
    record {
      touch = p.touch ∙ ap (rows_touch (text_used_of words) at) s ∙ touch_same (text_used_of words) at r rs e;
      counted = p.counted ∙ ap (cards_counted (cards_used_of words) cards) s ∙ counted_next (cards_used_of words) cards r rs;
      rise = p.rise ∙ ap (switches_rise (ignore_word words) ignored) s ∙ rise_kept (ignore_word words) ignored r rs k;
    }

-- ---- What the pass answers.

module _ (words : List ℕ) (rs : List DocumentRow) where
  touch_fails : rows_touch (text_used_of words) 0 rs ≡ false → rows_sound words rs ≡ false
  unfolding rows_sound
  touch_fails e = rw e

  rise_fails : switches_rise (ignore_word words) 0 rs ≡ false → rows_sound words rs ≡ false
  unfolding rows_sound
  rise_fails e = rw (e, and-false)

  zero_fails : zero_unignored rs ≡ false → rows_sound words rs ≡ false
  unfolding rows_sound
  zero_fails e = rw (e, and-false)

module _ (words : List ℕ) where
  untouched : (at cards ignored row : ℕ) → row < document_count words → ((row_at words row).text_at ≡ at → ⊥) → Passed words at cards ignored row →
      rows_sound words (document_rows words) ≡ false
  untouched at cards ignored row h e p =
      touch_fails words (document_rows words)
      (p.touch ∙ ap (rows_touch (text_used_of words) at) (rows_next words row h)
      ∙ touch_other (text_used_of words) at (row_at words row) (drop (row + 1) (document_rows words)) e)

  fallen : (at cards ignored row : ℕ) → row < document_count words → (row_at words row).ignored < ignored → Passed words at cards ignored row →
      rows_sound words (document_rows words) ≡ false
  fallen at cards ignored row h k p =
      rise_fails words (document_rows words)
      (p.rise ∙ ap (switches_rise (ignore_word words) ignored) (rows_next words row h)
      ∙ rise_fallen (ignore_word words) ignored (row_at words row) (drop (row + 1) (document_rows words)) k)

  module _ (at cards ignored row : ℕ) (r : DocumentRow) (f : r ≡ document_row_from (drop (documents_at + document_words * row) words))
      (h : row < document_count words) (p : Passed words at cards ignored row) where
    same : r ≡ row_at words row
    same = f ∙ row_from words row

    pub misfollows : row_follows r at ignored ≡ false → rows_sound words (document_rows words) ≡ false
    unfolding row_follows
    misfollows e = go (eqb (row_at words row).text_at at) refl (rw same at e)
      where
        go : (b : Bool) → eqb (row_at words row).text_at at ≡ b → (b && leb ignored (row_at words row).ignored) ≡ false →
            rows_sound words (document_rows words) ≡ false
        go true q k = fallen at cards ignored row h (leb-false _ _ k) p
        go false q k = untouched at cards ignored row h (eqb-false _ _ q) p

    pub follows : row_follows r at ignored ≡ true → Passed words (at + r.text_len) (cards + r.card_count) r.ignored (row + 1)
    unfolding row_follows
    follows e =
        let q = and_true (eqb (row_at words row).text_at at) (leb ignored (row_at words row).ignored) (rw same at e) in
        rw same (passed_next words at cards ignored row h (eqb-true _ _ q.0) (leb-true _ _ q.1) p)

  zero_row : 0 < document_count words → zero_unignored (document_rows words) ≡ eqb (get_or words (documents_at + 3) 0) 0
  unfolding zero_unignored
  zero_row h = ap zero_unignored (rows_next words 0 h)

  pub zero_ignored : 0 < document_count words → (get_or words (documents_at + 3) 0 ≡ 0 → ⊥) → rows_sound words (document_rows words) ≡ false
  zero_ignored h e = zero_fails words (document_rows words) (zero_row h ∙ ne_eqb (get_or words (documents_at + 3) 0) 0 e)

  module _ (at cards ignored row : ℕ) (h : document_count words ≤ row) (p : Passed words at cards ignored row) where
    touch_end : rows_touch (text_used_of words) 0 (document_rows words) ≡ eqb at (text_used_of words)
    unfolding rows_touch
    touch_end = p.touch ∙ ap (rows_touch (text_used_of words) at) (rows_over words row h)

    counted_end : cards_counted (cards_used_of words) 0 (document_rows words) ≡ eqb cards (cards_used_of words)
    unfolding cards_counted
    counted_end = p.counted ∙ ap (cards_counted (cards_used_of words) cards) (rows_over words row h)

    rise_end : switches_rise (ignore_word words) 0 (document_rows words) ≡ leb ignored (ignore_word words)
    unfolding switches_rise
    rise_end = p.rise ∙ ap (switches_rise (ignore_word words) ignored) (rows_over words row h)

    pub all_passed : 0 < document_count words → get_or words (documents_at + 3) 0 ≡ 0 → sums_sound words at cards ignored ≡ rows_sound words (document_rows words)
    unfolding rows_sound sums_sound
    all_passed d z = sym (rw (touch_end, counted_end, rise_end, zero_row d ∙ eq-eqb (get_or words (documents_at + 3) 0) 0 z) (and-all _))
