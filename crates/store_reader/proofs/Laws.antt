-- For a sound store: what is read by positions in its one text is what the definitions say of its documents.
-- (Laws of a loop's turn, which hold for every store, are in Group and Words.)
use mathlib.Core.Path.{◌≡◌, refl, sym, ◌∙◌, ap}
use mathlib.Core.List.{List, [], ◌∷◌}
use mathlib.Core.Bool.{Bool, true, false, ◌||◌}
use Prim.Native.Nat.{ℕ, zero, suc, ◌+◌, ◌*◌, ◌≤◌, ◌<◌}
use native.Mathlib.Omega.{arith}
use lib.Dec.{ltb}
use lib.ListN.{drop}
use lib.Seq.{get_or-drop}
use borrow.Author.Tests.{ltb-true, ltb-false}
use Rattle.definition.specs.Lists.{chunks, All}
use Rattle.definition.specs.Names.{is_name, bytes_at}
use Rattle.definition.specs.Cards.{Card, card_words, card_from, is_heading, is_part, is_unnamed}
use Rattle.definition.specs.Headings.{headings_from, headings}
use Rattle.definition.specs.Refusals.{text_capacity, document_capacity, card_capacity}
use Rattle.definition.specs.Store.{documents_at, document_words, cards_at, document_count, text_used_of, cards_used_of}
use Rattle.definition.specs.Store.{DocumentRow, document_row_from, document_rows, stored_cards, documents_from, account_in, too_short, sound}
use Rattle.definition.specs.LentRows.{held, name_numbered}
use Rattle.definition.specs.Lookups.{Span, span, span_in}
use Rattle.definition.specs.Outcomes.{part_of}
use Rattle.definition.proofs.CleanCards.{unnamed_parts}
use Rattle.store_reader.specs.Stored.{stored_parts, card_kind, name_start, name_size, card_name, may_lack_name, built_in_count, built_in_at}
use Rattle.store_reader.specs.Stored.{ignored_in, ignored_at, headings_of, stored_headings, parts_from}
use Rattle.store_reader.proofs.Lists.{all_get, bytes_none}
use Rattle.store_reader.proofs.Sound.{long, sounds, counts_held}
use Rattle.store_reader.proofs.Laid.{Laid, laid, length_stored_cards}
use Rattle.store_reader.proofs.DocumentsLaws.{held_rows, headings_rows, ordered_rows, Ordered}
use Rattle.store_reader.proofs.Spans.{Sound, sound_cards, Standing, span_stands, span_none}
use Rattle.store_reader.proofs.Words.{stored_card, card_kind_lem, card_name_at, card_name_len, name_past, name_stored, parts_next}
use Rattle.store_reader.proofs.Group.{headings_parts}

-- ---- Room.

module _ (text words : List ℕ) (ok : sound text words ≡ true) where
  pub cards_fit_lem : cards_used_of words ≤ card_capacity
  cards_fit_lem = (counts_held words (sounds text words ok).counts).cards

  pub text_fits_lem : text_used_of words ≤ text_capacity
  text_fits_lem = (counts_held words (sounds text words ok).counts).text

  pub documents_fit : (1 ≤ document_count words) × (document_count words ≤ document_capacity)
  documents_fit = let c = counts_held words (sounds text words ok).counts in (c.some, c.few)

-- ---- The cards held and the headings.

pub held_stored : (text words : List ℕ) → sound text words ≡ true → held (account_in text words).documents ≡ stored_parts text words
unfolding held account_in stored_parts
held_stored text words ok = held_rows text (text_used_of words) 0 0 (document_rows words) (stored_cards words) (laid text words ok)

-- The first row is document 0's.
pub record FirstRow (words : List ℕ) : Type 0 where
  pub row : DocumentRow
  pub later : List DocumentRow
  pub rows : document_rows words ≡ row ∷ later
  pub count : row.card_count ≡ built_in_count words

first_row : (words : List ℕ) → 1 ≤ document_count words → FirstRow words
unfolding document_rows chunks document_row_from built_in_count
first_row words h = go (document_count words) refl h
  where
    go : (n : ℕ) → document_count words ≡ n → 1 ≤ n → FirstRow words
    go zero e h = absurd (omega arith)
    go (suc n) e h = record {
      row = document_row_from (drop documents_at words);
      later = chunks document_words document_row_from n (drop document_words (drop documents_at words));
      rows = ap (λ (m : ℕ). chunks document_words document_row_from m (drop documents_at words)) e;
      count = get_or-drop documents_at words 2 0;
    }

pub headings_stored : (text words : List ℕ) → sound text words ≡ true → headings (account_in text words).documents ≡ stored_headings text words
unfolding headings account_in stored_headings stored_parts
headings_stored text words ok =
    let f = first_row words (counts_held words (sounds text words ok).counts).some in
    let cs = stored_cards words in
    let l : Laid text (text_used_of words) 0 (f.row ∷ f.later) cs = rw f.rows at (laid text words ok) in
    let new : (m : ℕ) → built_in_at words m ≡ ltb m (0 + f.row.card_count) =
    λ m. (unfold built_in_at in ap (ltb m) (let e = f.count in omega arith)) in
    let ign : (m : ℕ) → ignored_at words (0 + m) ≡ ignored_in (f.row ∷ f.later) m =
    λ m. (unfold ignored_at in (ap (ignored_in (document_rows words)) (omega arith) ∙ ap (λ (rs : List DocumentRow). ignored_in rs m) f.rows)) in
    ap (λ (rs : List DocumentRow). headings_from true 0 (documents_from text rs cs)) f.rows
    ∙ sym (headings_rows (built_in_at words) (ignored_at words) text (text_used_of words) 0 0 f.row f.later cs l new ign)

-- A heading's kind is 1 to 17; its parts are parts of kinds that its own kind allows, in order.
pub headings_ordered : (text words : List ℕ) → sound text words ≡ true → All Ordered (stored_headings text words)
unfolding stored_headings stored_parts
headings_ordered text words ok =
    (ordered_rows (built_in_at words) (ignored_at words) text (text_used_of words) 0 0 (document_rows words) (stored_cards words) (laid text words ok)).1

-- The first stored card is a heading.
none_before : (text words : List ℕ) → sound text words ≡ true → (headings_of (built_in_at words) (ignored_at words) (stored_parts text words)).0 ≡ []
unfolding stored_parts
none_before text words ok =
    (ordered_rows (built_in_at words) (ignored_at words) text (text_used_of words) 0 0 (document_rows words) (stored_cards words) (laid text words ok)).0

pub heading_first : (text words : List ℕ) → sound text words ≡ true → 0 < cards_used_of words → is_part (card_kind words 0) ≡ false
heading_first text words ok h = go (is_part (card_kind words 0)) refl
  where
    e : parts_from (stored_parts text words) 0 ≡ []
    e = sym (headings_parts (built_in_at words) (ignored_at words) (stored_parts text words)) ∙ none_before text words ok

    go : (b : Bool) → is_part (card_kind words 0) ≡ b → b ≡ false
    go false p = refl
    go true p = let q = sym e ∙ parts_next text words 0 h p in let z : ◌≡◌ {A = ℕ} 0 1 = cc in absurd (omega arith)

-- ---- Each card.

module _ (text words : List ℕ) (ok : sound text words ≡ true) (n : ℕ) (h : n < cards_used_of words) where
  card : Card
  card = card_from (drop (cards_at + card_words * n) words)

  card_sound : Sound text (text_used_of words) card
  unfolding card
  card_sound =
      all_get (Sound text (text_used_of words)) (stored_cards words)
      (sound_cards text (text_used_of words) 0 (document_rows words) (stored_cards words) (laid text words ok)) n
      (card_from (drop (cards_at + card_words * n) words)) (stored_card words n h)

  pub kind_known : (is_heading (card_kind words n) || is_part (card_kind words n)) ≡ true
  unfolding card
  kind_known = rw (card_kind_lem words n h) at card_sound.known

  pub name_inside : name_start words n + name_size words n ≤ text_used_of words
  unfolding card
  name_inside = rw (card_name_at words n h, card_name_len words n h) at card_sound.inside

  present : may_lack_name (card_kind words n) ≡ false → is_unnamed card ≡ false
  unfolding card may_lack_name
  present k = card_sound.named (rw (card_kind_lem words n h) k)

  named_is : card_name text words n ≡ bytes_at text (name_start words n) (name_size words n)
  unfolding card_name
  named_is = refl

  pub name_is_name_lem : may_lack_name (card_kind words n) ≡ false → is_name (card_name text words n) ≡ true
  unfolding card
  name_is_name_lem k = rw (named_is) (rw (card_name_at words n h, card_name_len words n h) at (card_sound.name (present k)))

  -- ---- Where its name stands in the store's text.

  module _ (big : too_short text words ≡ false) where
    standing : Standing (span_in 0 (account_in text words).documents n) card
    unfolding card account_in
    standing =
        span_stands text (text_used_of words) (let a = text_fits_lem text words ok in let b = (long text words big).0 in omega arith) 0 (document_rows words)
        (stored_cards words) n
        (card_from (drop (cards_at + card_words * n) words)) (laid text words ok) (stored_card words n h)

    span_named : is_unnamed card ≡ false → span_in 0 (account_in text words).documents n ≡ span (name_start words n) (name_size words n)
    unfolding card
    span_named u =
        standing.stands
        ∙ ap (λ (j : ℕ). span j card.name_len) (standing.same u ∙ card_name_at words n h)
        ∙ ap (span (name_start words n)) (card_name_len words n h)

    -- Of a kind that has a name, and of any card whose name is not empty.
    pub span_stored : may_lack_name (card_kind words n) ≡ false → span_in 0 (account_in text words).documents n ≡ span (name_start words n) (name_size words n)
    span_stored k = span_named (present k)

    pub span_present : 0 < name_size words n → span_in 0 (account_in text words).documents n ≡ span (name_start words n) (name_size words n)
    unfolding card
    span_present l = span_named (go (is_unnamed card) refl)
      where
        go : (b : Bool) → is_unnamed card ≡ b → b ≡ false
        go false u = refl
        go true u = let e = unnamed_parts card u in let q = card_name_len words n h in absurd (omega arith)

    span_of : bytes_at text (span_in 0 (account_in text words).documents n).at (span_in 0 (account_in text words).documents n).size ≡ card_name text words n
    unfolding card
    span_of = spelled ∙ sym named_is
      where
        s : Span
        s = span_in 0 (account_in text words).documents n

        len : card.name_len ≡ name_size words n
        len = card_name_len words n h

        go : (b : Bool) → is_unnamed card ≡ b → bytes_at text standing.start card.name_len ≡ bytes_at text (name_start words n) (name_size words n)
        go true u =
            let e : card.name_len ≡ 0 = (unnamed_parts card u).0 in
            let z : name_size words n ≡ 0 = sym len ∙ e in
            ap (bytes_at text standing.start) e ∙ bytes_none text standing.start ∙ sym (bytes_none text (name_start words n))
            ∙ ap (bytes_at text (name_start words n)) (sym z)
        go false u =
            ap (λ (j : ℕ). bytes_at text j card.name_len) (standing.same u ∙ card_name_at words n h) ∙ ap (bytes_at text (name_start words n)) len

        spelled : bytes_at text s.at s.size ≡ bytes_at text (name_start words n) (name_size words n)
        spelled = ap (λ (t : Span). bytes_at text t.at t.size) standing.stands ∙ (unfold span in go (is_unnamed card) refl)

module _ (text words : List ℕ) (ok : sound text words ≡ true) (big : too_short text words ≡ false) (n : ℕ) where
  pub span_past : cards_used_of words ≤ n → span_in 0 (account_in text words).documents n ≡ span 0 0
  unfolding account_in
  span_past h =
      span_none text (text_used_of words) (let a = text_fits_lem text words ok in let b = (long text words big).0 in omega arith) 0 (document_rows words)
      (stored_cards words) n
      (laid text words ok) (let l = length_stored_cards words in omega arith)

  -- The bytes of the span are the name, also of a card that has none or that is not stored.
  pub span_bytes :
      bytes_at text (span_in 0 (account_in text words).documents n).at (span_in 0 (account_in text words).documents n).size ≡ card_name text words n
  span_bytes = go (ltb n (cards_used_of words)) refl
    where
      go : (b : Bool) → ltb n (cards_used_of words) ≡ b →
          bytes_at text (span_in 0 (account_in text words).documents n).at (span_in 0 (account_in text words).documents n).size ≡ card_name text words n
      go true t = span_of text words ok n (ltb-true n (cards_used_of words) t) big
      go false t =
          let none : card_name text words n ≡ [] = name_past text words n (ltb-false n (cards_used_of words) t) in
          let empty : bytes_at text (span 0 0).at (span 0 0).size ≡ [] = unfold span in bytes_none text 0 in
          ap (λ (s : Span). bytes_at text s.at s.size) (span_past (ltb-false n (cards_used_of words) t)) ∙ empty ∙ sym none

  -- The same as `root_operation` is defined by it.
  pub part_bytes : (part_of text (span_in 0 (account_in text words).documents n)).bytes ≡ name_numbered (stored_parts text words) n
  unfolding part_of
  part_bytes = span_bytes ∙ sym (name_stored text words n)

  pub part_stored : n < cards_used_of words → may_lack_name (card_kind words n) ≡ false →
      part_of text (span_in 0 (account_in text words).documents n) ≡ record { bytes = card_name text words n; part = span (name_start words n) (name_size words n) }
  unfolding part_of
  part_stored h k = λ i. record { bytes = span_bytes i; part = span_stored text words ok n h big k i }
