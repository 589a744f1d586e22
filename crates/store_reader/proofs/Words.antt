-- What the words say of a card by its number: for every store, sound or not.
use mathlib.Core.Path.{◌≡◌, refl, sym, ◌∙◌, ap}
use mathlib.Core.List.{List, [], ◌∷◌}
use mathlib.Core.Bool.{Bool, true, false, not}
use mathlib.Core.Option.{Option, none, some}
use Prim.Native.Nat.{ℕ, suc, ◌+◌, ◌-◌, ◌*◌, ◌≤◌, ◌<◌}
use native.Mathlib.Omega.{arith}
use lib.Dec.{eqb, ltb}
use lib.ListN.{length, drop, get_or, get_elem?, length-drop, drop_of_length-le}
use lib.Seq.{get_or-drop, drop-drop}
use borrow.Author.Tests.{ltb-true, ltb-false, lt-ltb, le-ltb}
use Rattle.definition.specs.Lists.{choose, found, take_until, chunks, All}
use Rattle.definition.specs.Names.{bytes_at}
use Rattle.definition.specs.Cards.{Card, card_words, card_from, cards_from, is_part}
use Rattle.definition.specs.Headings.{NamedCard, Heading, name_of, named_card}
use Rattle.definition.specs.Store.{DocumentRow, document_row_from, documents_at, document_words, cards_at, document_count, cards_used_of, document_rows, stored_cards}
use Rattle.ast.specs.Cards.{kind_word, name_at_word, name_len_word}
use Rattle.definition.specs.LentRows.{cards_named, name_numbered}
use Rattle.store_reader.specs.Stored.{stored_parts, kind_numbered, card_word, card_kind, name_start, name_size, card_name, card_at}
use Rattle.store_reader.specs.Stored.{built_in_count, built_in_at, ignored_in, ignored_at, heading_with, headings_of, stored_headings}
use Rattle.store_reader.specs.Stored.{is_heading_item, parts_from, stored_headings_from, heading_at, is_heading_card, part_run, heading_from}
use Rattle.store_reader.specs.Stored.{next_card, next_heading}
use Rattle.store_reader.proofs.Lists.{all_to, bytes_none, drop_get, get_inside, get_past, length_chunks, chunk_at}
use Rattle.store_reader.proofs.Laid.{length_stored_cards}
use Rattle.store_reader.proofs.DocumentsLaws.{named_length, named_get, named_drop}
use Rattle.store_reader.proofs.Group.{parts_at_part, parts_at_heading, parts_at_end, parts_inside, parts_later, parts_get}
use Rattle.store_reader.proofs.Group.{headings_at_heading, headings_at_part, headings_at_end, HeadAt, headings_are}

-- ---- Runs of parts.

length_run : (text : List ℕ) (n : ℕ) (cs : List Card) → length (take_until is_heading_item (cards_named text n cs)) ≡ length (take_until is_heading_card cs)
unfolding take_until cards_named is_heading_item is_heading_card named_card
length_run text n [] = refl
length_run text n (c ∷ cs) = go (is_part c.kind) (length_run text (n + 1) cs)
  where
    go : (b : Bool) → length (take_until is_heading_item (cards_named text (n + 1) cs)) ≡ length (take_until is_heading_card cs) →
        length (choose (not b) [] (named_card text n c ∷ take_until is_heading_item (cards_named text (n + 1) cs)))
        ≡ length (choose (not b) [] (c ∷ take_until is_heading_card cs))
    go true ih = ap suc ih
    go false ih = refl

pub run_stored : (text words : List ℕ) (i : ℕ) → part_run words i ≡ length (parts_from (stored_parts text words) i)
unfolding part_run parts_from stored_parts
run_stored text words i =
    sym
    (ap (λ (l : List NamedCard). length (take_until is_heading_item l)) (named_drop text 0 (stored_cards words) i)
    ∙ length_run text (0 + i) (drop i (stored_cards words)))

-- ---- One card.

pub stored_card : (words : List ℕ) (n : ℕ) → n < cards_used_of words → get_elem? (stored_cards words) n ≡ some (card_from (drop (cards_at + card_words * n) words))
unfolding stored_cards cards_from
stored_card words n h =
    chunk_at card_words card_from (cards_used_of words) (drop cards_at words) n h ∙ ap (λ (l : List ℕ). some (card_from l)) (drop-drop (card_words * n) cards_at words)

card_word_lem : (words : List ℕ) (n k : ℕ) → n < cards_used_of words → get_or (drop (cards_at + card_words * n) words) k 0 ≡ card_word words n k
unfolding card_word
card_word_lem words n k h = rw (lt-ltb n (cards_used_of words) h) (get_or-drop (cards_at + card_words * n) words k 0)

pub word_past : (words : List ℕ) (n k : ℕ) → cards_used_of words ≤ n → card_word words n k ≡ 0
unfolding card_word
word_past words n k h = rw (le-ltb n (cards_used_of words) h)

module _ (words : List ℕ) (n : ℕ) (h : n < cards_used_of words) where
  pub card_kind_lem : (card_from (drop (cards_at + card_words * n) words)).kind ≡ card_kind words n
  unfolding card_from card_kind
  card_kind_lem = card_word_lem words n kind_word h

  pub card_name_at : (card_from (drop (cards_at + card_words * n) words)).name_at ≡ name_start words n
  unfolding card_from name_start
  card_name_at = card_word_lem words n name_at_word h

  pub card_name_len : (card_from (drop (cards_at + card_words * n) words)).name_len ≡ name_size words n
  unfolding card_from name_size
  card_name_len = card_word_lem words n name_len_word h

-- A card that is not stored has the kind 0 and no name.
pub kind_past : (words : List ℕ) (n : ℕ) → cards_used_of words ≤ n → card_kind words n ≡ 0
unfolding card_kind
kind_past words n h = word_past words n kind_word h

pub name_past : (text words : List ℕ) (n : ℕ) → cards_used_of words ≤ n → card_name text words n ≡ []
unfolding card_name name_size
name_past text words n h = ap (bytes_at text (name_start words n)) (word_past words n name_len_word h) ∙ bytes_none text (name_start words n)

module _ (text words : List ℕ) where
  pub length_stored : length (stored_parts text words) ≡ cards_used_of words
  unfolding stored_parts
  length_stored = named_length text 0 (stored_cards words) ∙ length_stored_cards words

  module _ (n : ℕ) where
    pub stored_at : n < cards_used_of words → get_elem? (stored_parts text words) n ≡ some (card_at text words n)
    unfolding stored_parts card_name named_card name_of
    stored_at h =
        let c : Card = card_from (drop (cards_at + card_words * n) words) in
        let z : 0 + n ≡ n = omega arith in
        named_get text 0 (stored_cards words) n c (stored_card words n h)
        ∙ (λ i. some (record { number = z i; kind = card_kind_lem words n h i; name = bytes_at text (card_name_at words n h i) (card_name_len words n h i) }))

    pub stored_past : cards_used_of words ≤ n → get_elem? (stored_parts text words) n ≡ none
    stored_past h = get_past (stored_parts text words) n (let l = length_stored in omega arith)

    pub stored_inside : (c : NamedCard) → get_elem? (stored_parts text words) n ≡ some c → n < cards_used_of words
    stored_inside c e = let h = get_inside (stored_parts text words) n c e in let l = length_stored in omega arith

    pub stored_is : (c : NamedCard) → get_elem? (stored_parts text words) n ≡ some c → c ≡ card_at text words n
    stored_is c e = let q : some c ≡ some (card_at text words n) = sym e ∙ stored_at (stored_inside c e) in cc

    pub number_stored : (c : NamedCard) → get_elem? (stored_parts text words) n ≡ some c → c.number ≡ n
    number_stored c e = ap (λ (p : NamedCard). p.number) (stored_is c e)

    -- Whatever is asked of a card by its number.
    pub found_stored : {A : Type 0} (f : NamedCard → A) (z : A) →
        found (get_elem? (stored_parts text words) n) f z ≡ choose (ltb n (cards_used_of words)) (f (card_at text words n)) z
    found_stored {A} f z = go (ltb n (cards_used_of words)) refl
      where
        go : (b : Bool) → ltb n (cards_used_of words) ≡ b → found (get_elem? (stored_parts text words) n) f z ≡ choose b (f (card_at text words n)) z
        go true t = ap (λ (o : Option NamedCard). found o f z) (stored_at (ltb-true n (cards_used_of words) t))
        go false t = ap (λ (o : Option NamedCard). found o f z) (stored_past (ltb-false n (cards_used_of words) t))

    -- The kind and the name of a card by its number.
    pub kind_stored : kind_numbered (stored_parts text words) n ≡ card_kind words n
    unfolding kind_numbered
    kind_stored = go (ltb n (cards_used_of words)) refl
      where
        go : (b : Bool) → ltb n (cards_used_of words) ≡ b → kind_numbered (stored_parts text words) n ≡ card_kind words n
        go true t = rw (stored_at (ltb-true n (cards_used_of words) t))
        go false t =
            let h = ltb-false n (cards_used_of words) t in
            rw (stored_past h) (sym (kind_past words n h))

    pub name_stored : name_numbered (stored_parts text words) n ≡ card_name text words n
    unfolding name_numbered
    name_stored = go (ltb n (cards_used_of words)) refl
      where
        go : (b : Bool) → ltb n (cards_used_of words) ≡ b → name_numbered (stored_parts text words) n ≡ card_name text words n
        go true t = rw (stored_at (ltb-true n (cards_used_of words) t))
        go false t =
            let h = ltb-false n (cards_used_of words) t in
            rw (stored_past h) (sym (name_past text words n h))

  -- ---- A turn of a loop over the cards.

  module _ (i : ℕ) where
    pub parts_next : i < cards_used_of words → is_part (card_kind words i) ≡ true →
        parts_from (stored_parts text words) i ≡ card_at text words i ∷ parts_from (stored_parts text words) (i + 1)
    parts_next h p = parts_at_part (stored_parts text words) i (card_at text words i) (stored_at i h) p

    pub parts_stop : i < cards_used_of words → is_part (card_kind words i) ≡ false → parts_from (stored_parts text words) i ≡ []
    parts_stop h p = parts_at_heading (stored_parts text words) i (card_at text words i) (stored_at i h) p

    pub parts_end : cards_used_of words ≤ i → parts_from (stored_parts text words) i ≡ []
    parts_end h = parts_at_end (stored_parts text words) i (let l = length_stored in omega arith)

    -- NamedCard k of the run from a position on is the card k positions on.
    pub part_at : (k : ℕ) (p : NamedCard) → get_elem? (parts_from (stored_parts text words) i) k ≡ some p → p ≡ card_at text words (i + k)
    part_at k p e = stored_is (i + k) p (parts_get (stored_parts text words) i k p e)

    run_part : i < cards_used_of words → is_part (card_kind words i) ≡ true → part_run words i ≡ suc (part_run words (i + 1))
    run_part h p = run_stored text words i ∙ ap length (parts_next h p) ∙ ap suc (sym (run_stored text words (i + 1)))

    -- The headings from a position on.
    pub headings_next : i < cards_used_of words → is_part (card_kind words i) ≡ false →
        stored_headings_from text words i ≡ heading_at text words i ∷ stored_headings_from text words (next_heading words i)
    unfolding stored_headings_from next_heading
    headings_next h p =
        let cs : List NamedCard = stored_parts text words in
        let t : ltb i (cards_used_of words) ≡ true = lt-ltb i (cards_used_of words) h in
        let next : length (parts_from cs (i + 1)) ≡ part_run words (i + 1) = sym (run_stored text words (i + 1)) in
        headings_at_heading (built_in_at words) (ignored_at words) cs i (card_at text words i) (stored_at i h) p
        ∙ rw t (λ j.
        heading_with (built_in_at words i) (ignored_at words i) (card_at text words i) (parts_from cs (i + 1))
        ∷ (headings_of (built_in_at words) (ignored_at words) (drop (i + 1 + next j) cs)).1)

    pub headings_skip : i < cards_used_of words → is_part (card_kind words i) ≡ true → stored_headings_from text words i ≡ stored_headings_from text words (i + 1)
    unfolding stored_headings_from
    headings_skip h p =
        headings_at_part (built_in_at words) (ignored_at words) (stored_parts text words) i (card_at text words i) (stored_at i h) p

    pub headings_end : cards_used_of words ≤ i → stored_headings_from text words i ≡ []
    unfolding stored_headings_from
    headings_end h = headings_at_end (built_in_at words) (ignored_at words) (stored_parts text words) i (let l = length_stored in omega arith)

  pub headings_start : stored_headings text words ≡ stored_headings_from text words 0
  unfolding stored_headings stored_headings_from
  headings_start = refl

  -- Each heading is the one at the position that its number is.
  at_of : (h : Heading) → HeadAt (built_in_at words) (ignored_at words) (stored_parts text words) h →
      (h.number < cards_used_of words) × (is_part (card_kind words h.number) ≡ false) × (h ≡ heading_at text words h.number)
  at_of h a =
      let n = h.number in
      let is = stored_is n a.card a.held in (
        stored_inside n a.card a.held,
        ap is_part (sym (ap (λ (p : NamedCard). p.kind) is)) ∙ a.heading,
        a.same ∙ ap (λ (p : NamedCard). heading_with (built_in_at words n) (ignored_at words n) p (parts_from (stored_parts text words) (n + 1))) is,
      )

  pub headings_at : All (λ h. (h.number < cards_used_of words) × (is_part (card_kind words h.number) ≡ false) × (h ≡ heading_at text words h.number))
      (stored_headings text words)
  unfolding stored_headings
  headings_at =
      all_to (HeadAt (built_in_at words) (ignored_at words) (stored_parts text words))
      (λ h. (h.number < cards_used_of words) × (is_part (card_kind words h.number) ≡ false) × (h ≡ heading_at text words h.number)) at_of
      (headings_of (built_in_at words) (ignored_at words) (stored_parts text words)).1
      (headings_are (built_in_at words) (ignored_at words) (stored_parts text words) number_stored)

-- ---- The next heading.

module _ (words : List ℕ) (n : ℕ) where
  next_of : n < cards_used_of words → next_heading words n ≡ n + 1 + part_run words (n + 1)
  unfolding next_heading
  next_of h = rw (lt-ltb n (cards_used_of words) h)

  pub next_stored : (text : List ℕ) → n < cards_used_of words → next_heading words n ≡ n + 1 + length (parts_from (stored_parts text words) (n + 1))
  next_stored text h = next_of h ∙ ap (λ (m : ℕ). n + 1 + m) (run_stored text words (n + 1))

  pub next_after : n < cards_used_of words → n < next_heading words n
  next_after h = let e = next_of h in omega arith

  pub next_inside : next_heading words n ≤ cards_used_of words
  next_inside = go (ltb n (cards_used_of words)) refl
    where
      go : (b : Bool) → ltb n (cards_used_of words) ≡ b → next_heading words n ≤ cards_used_of words
      go true t =
          let h = ltb-true n (cards_used_of words) t in
          let e = next_stored [] h in
          let l = length_stored [] words in
          let q = parts_inside (stored_parts [] words) (n + 1) (omega arith) in
          omega arith
      go false t = let e : next_heading words n ≡ cards_used_of words = unfold next_heading in rw t in omega arith

  pub next_none : cards_used_of words ≤ n → next_heading words n ≡ cards_used_of words
  unfolding next_heading
  next_none h = rw (le-ltb n (cards_used_of words) h)

  -- A turn of the search for it.
  pub run_next : n < cards_used_of words → is_part (card_kind words n) ≡ true → n + part_run words n ≡ n + 1 + part_run words (n + 1)
  run_next h p = let e = run_part [] words n h p in omega arith

  pub run_stop : n < cards_used_of words → is_part (card_kind words n) ≡ false → n + part_run words n ≡ n
  run_stop h p = let e : part_run words n ≡ 0 = run_stored [] words n ∙ ap length (parts_stop [] words n h p) in omega arith

  pub run_end : cards_used_of words ≤ n → n + part_run words n ≡ n
  run_end h = let e : part_run words n ≡ 0 = run_stored [] words n ∙ ap length (parts_end [] words n h) in omega arith

-- Between a position and the next heading there are parts alone.
parts_done_at : (text words : List ℕ) (n : ℕ) → n < cards_used_of words → parts_from (stored_parts text words) (next_heading words n) ≡ []
parts_done_at text words n h =
    let cs = stored_parts text words in
    let k = length (parts_from cs (n + 1)) in
    ap (parts_from cs) (next_stored words n text h) ∙ parts_later cs (n + 1) k (omega arith) ∙ drop_of_length-le (parts_from cs (n + 1)) {i = k} (omega arith)

pub parts_done : (text words : List ℕ) (n : ℕ) → parts_from (stored_parts text words) (next_heading words n) ≡ []
parts_done text words n = go (ltb n (cards_used_of words)) refl
  where
    go : (b : Bool) → ltb n (cards_used_of words) ≡ b → parts_from (stored_parts text words) (next_heading words n) ≡ []
    go true t = parts_done_at text words n (ltb-true n (cards_used_of words) t)
    go false t =
        ap (parts_from (stored_parts text words)) (next_none words n (ltb-false n (cards_used_of words) t)) ∙ parts_end text words (cards_used_of words) (omega arith)

pub next_is_heading : (words : List ℕ) (n : ℕ) → next_heading words n < cards_used_of words → is_part (card_kind words (next_heading words n)) ≡ false
next_is_heading words n l = go (is_part (card_kind words (next_heading words n))) refl
  where
    go : (b : Bool) → is_part (card_kind words (next_heading words n)) ≡ b → b ≡ false
    go false p = refl
    go true p = let q = sym (parts_done [] words n) ∙ parts_next [] words (next_heading words n) l p in let z : ◌≡◌ {A = ℕ} 0 1 = cc in absurd (omega arith)

pub part_between : (words : List ℕ) (n m : ℕ) → n < m → m < next_heading words n → is_part (card_kind words m) ≡ true
part_between words n m a b = go (is_part (card_kind words m)) refl
  where
    cs : List NamedCard
    cs = stored_parts [] words

    inside : next_heading words n ≤ cards_used_of words
    inside = next_inside words n

    run : next_heading words n ≡ n + 1 + length (parts_from cs (n + 1))
    run = next_stored words n [] (omega (arith, inside))

    left : length (parts_from cs m) ≡ length (parts_from cs (n + 1)) - (m - (n + 1))
    left =
        let k : n + 1 + (m - (n + 1)) ≡ m = omega arith in
        ap (λ (j : ℕ). length (parts_from cs j)) (sym k)
        ∙ ap length (parts_later cs (n + 1) (m - (n + 1)) (omega (arith, run)))
        ∙ length-drop (m - (n + 1)) (parts_from cs (n + 1))

    go : (b : Bool) → is_part (card_kind words m) ≡ b → b ≡ true
    go true p = refl
    go false p = let q = ap length (parts_stop [] words m (omega (arith, inside)) p) in absurd (omega (arith, run, left))

pub parts_between : (text words : List ℕ) (n m : ℕ) → n < m → m < next_heading words n →
    parts_from (stored_parts text words) m ≡ card_at text words m ∷ parts_from (stored_parts text words) (m + 1)
parts_between text words n m a b = let u = next_inside words n in parts_next text words m (omega arith) (part_between words n m a b)

-- The next card, and the first heading from there on.
pub next_from : (words : List ℕ) (n : ℕ) → heading_from words (next_card words n) ≡ next_heading words n
unfolding heading_from next_card next_heading
next_from words n = go (ltb n (cards_used_of words))
  where
    go : (b : Bool) →
        choose b (n + 1) (cards_used_of words) + part_run words (choose b (n + 1) (cards_used_of words)) ≡ choose b (n + 1 + part_run words (n + 1)) (cards_used_of words)
    go true = refl
    go false = run_end words (cards_used_of words) (omega arith)

-- A reader's way there: from a part it goes on, and elsewhere it stands still.
part_zero : is_part 0 ≡ false
unfolding is_part
part_zero = refl

module _ (words : List ℕ) (i : ℕ) where
  part_inside : is_part (card_kind words i) ≡ true → i < cards_used_of words
  part_inside p = go (ltb i (cards_used_of words)) refl
    where
      go : (b : Bool) → ltb i (cards_used_of words) ≡ b → i < cards_used_of words
      go true t = ltb-true i (cards_used_of words) t
      go false t =
          let q : false ≡ true = sym part_zero ∙ sym (ap is_part (kind_past words i (ltb-false i (cards_used_of words) t))) ∙ p in
          absurd (let z : ◌≡◌ {A = ℕ} 0 1 = cc in omega arith)

  next_is : is_part (card_kind words i) ≡ true → next_card words i ≡ i + 1
  unfolding next_card
  next_is p = rw (lt-ltb i (cards_used_of words) (part_inside p))

  pub goes_on_lem : is_part (card_kind words i) ≡ true → heading_from words (next_card words i) ≡ heading_from words i
  unfolding heading_from
  goes_on_lem p = ap (heading_from words) (next_is p) ∙ sym (run_next words i (part_inside p) p)

  pub goes_nearer : (j : ℕ) → j ≡ next_card words i → is_part (card_kind words i) ≡ true → cards_used_of words - j < cards_used_of words - i
  goes_nearer j e p = let n = next_is p in let h = part_inside p in omega arith

  pub stands_still : is_part (card_kind words i) ≡ false → heading_from words i ≡ i
  unfolding heading_from
  stands_still p = go (ltb i (cards_used_of words)) refl
    where
      go : (b : Bool) → ltb i (cards_used_of words) ≡ b → i + part_run words i ≡ i
      go true t = run_stop words i (ltb-true i (cards_used_of words) t) p
      go false t = run_end words i (ltb-false i (cards_used_of words) t)

-- ---- The rows of the documents.

pub row_at_lem : (words : List ℕ) (i : ℕ) → i < document_count words →
    drop i (document_rows words) ≡ document_row_from (drop (documents_at + document_words * i) words) ∷ drop (i + 1) (document_rows words)
unfolding document_rows
row_at_lem words i h =
    drop_get (chunks document_words document_row_from (document_count words) (drop documents_at words)) i
    (document_row_from (drop (documents_at + document_words * i) words))
    (chunk_at document_words document_row_from (document_count words) (drop documents_at words) i h
    ∙ ap (λ (l : List ℕ). some (document_row_from l)) (drop-drop (document_words * i) documents_at words))

pub rows_over : (words : List ℕ) (i : ℕ) → document_count words ≤ i → drop i (document_rows words) ≡ []
unfolding document_rows
rows_over words i h =
    let l = length_chunks document_words document_row_from (document_count words) (drop documents_at words) in
    drop_of_length-le (chunks document_words document_row_from (document_count words) (drop documents_at words)) {i = i} (omega arith)

pub ignored_start : (words : List ℕ) (n : ℕ) → ignored_at words n ≡ ignored_in (drop 0 (document_rows words)) n
unfolding ignored_at
ignored_start words n = refl

-- A turn of the walk over the rows: r is the row of the number i.
module _ (words : List ℕ) (rows i n : ℕ) (r : DocumentRow) (e : rows ≡ document_count words) where
  module _ (f : r ≡ document_row_from (drop (documents_at + document_words * i) words)) (h : i < rows) where
    here : drop i (document_rows words) ≡ r ∷ drop (i + 1) (document_rows words)
    here = row_at_lem words i (omega arith) ∙ rw (← f) refl

    pub ignored_found : n < r.card_count → ignored_in (drop i (document_rows words)) n ≡ eqb r.ignored 1
    unfolding ignored_in
    ignored_found l = rw (here, lt-ltb n r.card_count l)

    pub ignored_passed : r.card_count ≤ n → ignored_in (drop i (document_rows words)) n ≡ ignored_in (drop (i + 1) (document_rows words)) (n - r.card_count)
    unfolding ignored_in
    ignored_passed l = rw (here, le-ltb n r.card_count l)

pub ignored_over : (words : List ℕ) (rows i n : ℕ) → rows ≡ document_count words → rows ≤ i → ignored_in (drop i (document_rows words)) n ≡ false
unfolding ignored_in
ignored_over words rows i n e h = ap (λ (rs : List DocumentRow). ignored_in rs n) (rows_over words i (omega arith))

pub built_in_is : (words : List ℕ) (n : ℕ) → built_in_at words n ≡ ltb n (built_in_count words)
unfolding built_in_at
built_in_is words n = refl
