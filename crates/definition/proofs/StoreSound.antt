-- A store that neither 21 nor 22 refuses holds the account that it decodes to, laid out as opening and filing lay it out.
use mathlib.Core.Path.{◌≡◌, refl, sym, ◌∙◌, ap}
use mathlib.Core.List.{List, [], ◌∷◌, ◌++◌, map}
use mathlib.Core.Bool.{Bool, true, false}
use mathlib.Core.Option.{none}
use Prim.Native.Nat.{ℕ, zero, suc, ◌+◌, ◌-◌, ◌*◌, ◌≤◌}
use lib.Dec.{eqb, leb, ltb}
use lib.ListN.{length, take, drop, get_or, length-drop, length-map, take-append-drop}
use lib.Seq.{length-take-le, take-add, drop-drop}
use native.Mathlib.Nat.{mul-suc, mul-zero, sub-zero}
use native.Mathlib.Omega.{arith}
use borrow.Author.Tests.{eqb-true, leb-true, ltb-false}
use Rattle.definition.specs.Lists.{All, choose, flat_map, chunks}
use Rattle.definition.specs.Names.{bytes_at}
use Rattle.definition.specs.Cards.{Card, card_words, card_from, cards_from, words_of_card, card_fault, fault_from}
use Rattle.definition.specs.Headings.{Document}
use Rattle.definition.specs.Account.{Account}
use Rattle.definition.specs.Refusals.{text_held, cards_held, text_capacity, document_capacity, card_capacity}
use Rattle.definition.specs.Store.{documents_at, document_words, cards_at, words_capacity, DocumentRow, document_row_from, moved, unmoved, document_count}
use Rattle.definition.specs.Store.{adopt_word, ignore_word, text_used_of, cards_used_of, document_rows, stored_cards, stored_document, documents_from, account_in}
use Rattle.definition.specs.Store.{too_short, counts_sound, rows_touch, cards_counted, switches_rise, zero_unignored, rows_sound, cards_sound, zero_sound, sound}
use Rattle.definition.specs.Store.{store_refusal}
use Rattle.definition.proofs.Tests.{and_true, or_false, chosen_zero, unfound}
use Rattle.definition.proofs.Lists.{flat_map_nil, flat_map_cons}
use Rattle.definition.proofs.CleanCards.{Faultless}
use Rattle.definition.proofs.MovedCards.{faults_moved, moved_all}
use Rattle.definition.proofs.StoreLayout.{bit, row_of, rows_of, words_of_rows, stored_of, text_of, length_text_of, length_stored, bytes_inside}
use Rattle.definition.proofs.StoreHolds.{LaidOut, laid, laid_of}

-- ---- Words in pieces of one length.

module _ {ℓ} {B : Type ℓ} (k : ℕ) (f : List ℕ → B) where
  length_chunks : (n : ℕ) (ws : List ℕ) → length (chunks k f n ws) ≡ n
  unfolding chunks
  length_chunks zero ws = refl
  length_chunks (suc n) ws = ap suc (length_chunks n (drop k ws))

  -- What each piece is read as has its words: then all have all words.
  words_back : (g : B → List ℕ) → ((ws : List ℕ) → k ≤ length ws → g (f ws) ≡ take k ws) → (n : ℕ) (ws : List ℕ) → k * n ≤ length ws →
      flat_map g (chunks k f n ws) ≡ take (k * n) ws
  unfolding chunks
  words_back g back zero ws h = flat_map_nil g ∙ ap (λ m. take m ws) (sym (mul-zero k))
  words_back g back (suc n) ws h =
      let s : k * suc n ≡ k + k * n = mul-suc k n ∙ omega arith in
      let here : g (f ws) ≡ take k ws = back ws (omega arith) in
      let later : flat_map g (chunks k f n (drop k ws)) ≡ take (k * n) (drop k ws) = words_back g back n (drop k ws) (omega (arith, length-drop k ws)) in
      flat_map_cons g (f ws) (chunks k f n (drop k ws))
      ∙ (λ i. here i ++ later i)
      ∙ sym (take-add k (k * n) ws)
      ∙ ap (λ m. take m ws) (sym s)

words_of_stored : DocumentRow → List ℕ
words_of_stored r = r.text_at ∷ r.text_len ∷ r.card_count ∷ r.ignored ∷ []

row_words_lem : (ws : List ℕ) → document_words ≤ length ws → words_of_stored (document_row_from ws) ≡ take document_words ws
unfolding words_of_stored document_row_from
row_words_lem [] h = absurd (omega arith)
row_words_lem (a ∷ []) h = absurd (omega arith)
row_words_lem (a ∷ b ∷ []) h = absurd (omega arith)
row_words_lem (a ∷ b ∷ c ∷ []) h = absurd (omega arith)
row_words_lem (a ∷ b ∷ c ∷ d ∷ ws) h = refl

card_words_lem : (ws : List ℕ) → card_words ≤ length ws → words_of_card (card_from ws) ≡ take card_words ws
unfolding words_of_card card_from
card_words_lem [] h = absurd (omega arith)
card_words_lem (a ∷ []) h = absurd (omega arith)
card_words_lem (a ∷ b ∷ []) h = absurd (omega arith)
card_words_lem (a ∷ b ∷ c ∷ []) h = absurd (omega arith)
card_words_lem (a ∷ b ∷ c ∷ d ∷ []) h = absurd (omega arith)
card_words_lem (a ∷ b ∷ c ∷ d ∷ e ∷ ws) h = refl

head_words : (ws : List ℕ) → documents_at ≤ length ws → ws ≡ get_or ws 0 0 ∷ get_or ws 1 0 ∷ get_or ws 2 0 ∷ get_or ws 3 0 ∷ get_or ws 4 0 ∷ drop documents_at ws
head_words [] h = absurd (omega arith)
head_words (a ∷ []) h = absurd (omega arith)
head_words (a ∷ b ∷ []) h = absurd (omega arith)
head_words (a ∷ b ∷ c ∷ []) h = absurd (omega arith)
head_words (a ∷ b ∷ c ∷ d ∷ []) h = absurd (omega arith)
head_words (a ∷ b ∷ c ∷ d ∷ e ∷ ws) h = refl

rows_words : (at : ℕ) (ds : List Document) → words_of_rows at ds ≡ flat_map words_of_stored (rows_of at ds)
unfolding words_of_stored
rows_words at [] = sym (flat_map_nil words_of_stored)
rows_words at (d ∷ ds) =
    ap (λ l. at ∷ length d.text ∷ length d.cards ∷ bit d.ignored ∷ l) (rows_words (at + length d.text) ds)
    ∙ sym (flat_map_cons words_of_stored (row_of at d) (rows_of (at + length d.text) ds))

length_rows_of : (at : ℕ) (ds : List Document) → length (rows_of at ds) ≡ length ds
length_rows_of at [] = refl
length_rows_of at (d ∷ ds) = ap suc (length_rows_of (at + length d.text) ds)

-- ---- Rows and cards that 22 does not refuse.

bit_of : (n : ℕ) → n ≤ 1 → bit (eqb n 1) ≡ n
bit_of zero h = refl
bit_of (suc zero) h = refl
bit_of (suc (suc n)) h = absurd (omega arith)

touch_le : (used at : ℕ) (rs : List DocumentRow) → rows_touch used at rs ≡ true → at ≤ used
unfolding rows_touch
touch_le used at [] e = omega (arith, eqb-true at used e)
touch_le used at (r ∷ rs) e = omega (arith, touch_le used (at + r.text_len) rs (and_true (eqb r.text_at at) (rows_touch used (at + r.text_len) rs) e).1)

counted_le : (used n : ℕ) (rs : List DocumentRow) → cards_counted used n rs ≡ true → n ≤ used
unfolding cards_counted
counted_le used n [] e = omega (arith, eqb-true n used e)
counted_le used n (r ∷ rs) e = omega (arith, counted_le used (n + r.card_count) rs e)

rise_le : (switch last : ℕ) (rs : List DocumentRow) → switches_rise switch last rs ≡ true → last ≤ switch
unfolding switches_rise
rise_le switch last [] e = leb-true last switch e
rise_le switch last (r ∷ rs) e =
    let q = and_true (leb last r.ignored) (switches_rise switch r.ignored rs) e in
    omega (arith, leb-true last r.ignored q.0, rise_le switch r.ignored rs q.1)

module _ (text : List ℕ) (used many switch : ℕ) (fits : used ≤ length text) (low : switch ≤ 1) where
  -- The rows rs and the cards cs are left: texts begin at `at`, n cards stand before, the row before has the switch `last`.
  record Left (at n last : ℕ) (rs : List DocumentRow) (cs : List Card) : Type 0 where
    touch : rows_touch used at rs ≡ true
    counted : cards_counted many n rs ≡ true
    enough : n + length cs ≡ many
    rise : switches_rise switch last rs ≡ true
    clean : cards_sound text rs cs ≡ true

  -- The first of them.
  record First (at : ℕ) (r : DocumentRow) (cs : List Card) : Type 0 where
    here : r.text_at ≡ at
    in_text : at + r.text_len ≤ length text
    enough : r.card_count ≤ length cs
    flag : r.ignored ≤ 1
    clean : fault_from text r.text_at r.text_len 0 none none (take r.card_count cs) ≡ none

  module _ (at n last : ℕ) (r : DocumentRow) (rs : List DocumentRow) (cs : List Card) (l : Left at n last (r ∷ rs) cs) where
    next : First at r cs × Left (at + r.text_len) (n + r.card_count) r.ignored rs (drop r.card_count cs)
    unfolding rows_touch cards_counted switches_rise cards_sound card_fault
    next =
        let t = and_true (eqb r.text_at at) (rows_touch used (at + r.text_len) rs) l.touch in
        let s = and_true (leb last r.ignored) (switches_rise switch r.ignored rs) l.rise in
        let c = unfound (fault_from text r.text_at r.text_len 0 none none (take r.card_count cs)) (cards_sound text rs (drop r.card_count cs))
        l.clean in
        let e = l.enough in
        let m = counted_le many (n + r.card_count) rs l.counted in (
          record {
            here = eqb-true r.text_at at t.0;
            in_text = omega (arith, touch_le used (at + r.text_len) rs t.1);
            enough = omega (arith, e, m);
            flag = omega (arith, rise_le switch r.ignored rs s.1);
            clean = c.0;
          },
          record {
            touch = t.1;
            counted = l.counted;
            enough = omega (arith, e, m, length-drop r.card_count cs);
            rise = s.1;
            clean = c.1;
          },
        )

  -- The document of the first row.
  module _ (at : ℕ) (r : DocumentRow) (cs : List Card) (f : First at r cs) where
    doc : Document
    doc = stored_document text r (take r.card_count cs)

    text_of_lem : doc.text ≡ take r.text_len (drop at text)
    unfolding doc stored_document bytes_at
    text_of_lem = ap (λ n. take r.text_len (drop n text)) f.here

    length_text : length doc.text ≡ r.text_len
    unfolding doc stored_document bytes_at
    length_text = length-take-le r.text_len (drop r.text_at text) (omega (arith, length-drop r.text_at text, f.here, f.in_text))

    length_cards : length doc.cards ≡ r.card_count
    unfolding doc stored_document
    length_cards = length-map (take r.card_count cs) (unmoved r.text_at) ∙ length-take-le r.card_count cs f.enough

    row_read : row_of at doc ≡ r
    unfolding doc stored_document
    row_read = λ i. record { text_at = sym f.here i; text_len = length_text i; card_count = length_cards i; ignored = bit_of r.ignored f.flag i }

    pieces : text ≡ take at text ++ (doc.text ++ drop r.text_len (drop at text))
    pieces =
        sym (take-append-drop at text)
        ∙ ap (λ l. take at text ++ l) (sym (take-append-drop r.text_len (drop at text)))
        ∙ ap (λ l. take at text ++ (l ++ drop r.text_len (drop at text))) (sym text_of_lem)

    -- The text of the document lies in the store's at its offset.
    lies : (n m : ℕ) → n + m ≤ length doc.text → bytes_at text (n + at) m ≡ bytes_at doc.text n m
    lies n m h =
        ap (λ l. bytes_at l (n + at) m) pieces
        ∙ bytes_inside (take at text) doc.text (drop r.text_len (drop at text)) at n m (length-take-le at text (omega (arith, f.in_text))) h

    own_cards : map (moved at) doc.cards ≡ take r.card_count cs
    unfolding doc stored_document
    own_cards =
        ap (λ n. map (moved n) (map (unmoved r.text_at) (take r.card_count cs))) (sym f.here)
        ∙ moved_all text r.text_at r.text_len 0 none none (take r.card_count cs) f.clean

    clean_read : Faultless doc
    unfolding card_fault
    clean_read =
        sym (faults_moved text doc.text at lies 0 none none doc.cards)
        ∙ ap (λ l. fault_from text at (length doc.text) 0 none none l) own_cards
        ∙ (λ i. fault_from text (sym f.here i) (length_text i) 0 none none (take r.card_count cs))
        ∙ f.clean

  -- All of them.
  text_read : (at n last : ℕ) (rs : List DocumentRow) (cs : List Card) → Left at n last rs cs →
      text_of (documents_from text rs cs) ≡ take (used - at) (drop at text)
  unfolding documents_from rows_touch doc
  text_read at n last [] cs l = let z : used - at ≡ 0 = omega (arith, eqb-true at used l.touch) in rw z
  text_read at n last (r ∷ rs) cs l =
      let q = next at n last r rs cs l in
      let b = at + r.text_len in
      let m : b ≤ used = touch_le used b rs q.1.touch in
      let s : r.text_len + (used - b) ≡ used - at = omega arith in
      let ih = text_read b (n + r.card_count) r.ignored rs (drop r.card_count cs) q.1 in
      ap (λ l. l ++ text_of (documents_from text rs (drop r.card_count cs))) (text_of_lem at r cs q.0)
      ∙ ap (λ l. take r.text_len (drop at text) ++ l) (ih ∙ ap (take (used - b)) (sym (drop-drop r.text_len at text)))
      ∙ sym (take-add r.text_len (used - b) (drop at text))
      ∙ ap (λ k. take k (drop at text)) s

  rows_read : (at n last : ℕ) (rs : List DocumentRow) (cs : List Card) → Left at n last rs cs → rows_of at (documents_from text rs cs) ≡ rs
  unfolding documents_from doc
  rows_read at n last [] cs l = refl
  rows_read at n last (r ∷ rs) cs l =
      let q = next at n last r rs cs l in
      let ih = rows_read (at + r.text_len) (n + r.card_count) r.ignored rs (drop r.card_count cs) q.1 in
      (λ i. row_read at r cs q.0 i ∷ rows_of (at + length_text at r cs q.0 i) (documents_from text rs (drop r.card_count cs)))
      ∙ ap (λ x. r ∷ x) ih

  cards_read_lem : (at n last : ℕ) (rs : List DocumentRow) (cs : List Card) → Left at n last rs cs → stored_of at (documents_from text rs cs) ≡ cs
  unfolding documents_from cards_counted doc
  cards_read_lem at n last [] [] l = refl
  cards_read_lem at n last [] (c ∷ cs) l = let e = l.enough in absurd (omega (arith, eqb-true n many l.counted))
  cards_read_lem at n last (r ∷ rs) cs l =
      let q = next at n last r rs cs l in
      let ih = cards_read_lem (at + r.text_len) (n + r.card_count) r.ignored rs (drop r.card_count cs) q.1 in
      (λ i. own_cards at r cs q.0 i ++ stored_of (at + length_text at r cs q.0 i) (documents_from text rs (drop r.card_count cs)))
      ∙ ap (λ x. take r.card_count cs ++ x) ih
      ∙ take-append-drop r.card_count cs

  clean_all : (at n last : ℕ) (rs : List DocumentRow) (cs : List Card) → Left at n last rs cs → All Faultless (documents_from text rs cs)
  unfolding documents_from doc
  clean_all at n last [] cs l = tt
  clean_all at n last (r ∷ rs) cs l =
      let q = next at n last r rs cs l in
      (clean_read at r cs q.0, clean_all (at + r.text_len) (n + r.card_count) r.ignored rs (drop r.card_count cs) q.1)

-- ---- The store.

chosen_true : (b r : Bool) → choose b r false ≡ true → (b ≡ true) × (r ≡ true)
chosen_true true r e = (refl, e)
chosen_true false r e = (e, cc)

record Counts (words : List ℕ) : Type 0 where
  some : 1 ≤ document_count words
  few : document_count words ≤ document_capacity
  adopt : adopt_word words ≤ 1
  ignore : ignore_word words ≤ 1
  text : text_used_of words ≤ text_capacity
  cards : cards_used_of words ≤ card_capacity

counts_of : (words : List ℕ) → counts_sound words ≡ true → Counts words
unfolding counts_sound
counts_of words e =
    let q5 = and_true _ (leb (cards_used_of words) card_capacity) e in
    let q4 = and_true _ (leb (text_used_of words) text_capacity) q5.0 in
    let q3 = and_true _ (leb (ignore_word words) 1) q4.0 in
    let q2 = and_true _ (leb (adopt_word words) 1) q3.0 in
    let q1 = and_true (leb 1 (document_count words)) (leb (document_count words) document_capacity) q2.0 in
    record {
      some = leb-true _ _ q1.0;
      few = leb-true _ _ q1.1;
      adopt = leb-true _ _ q2.1;
      ignore = leb-true _ _ q3.1;
      text = leb-true _ _ q4.1;
      cards = leb-true _ _ q5.1;
    }

module _ (text words : List ℕ) (long : too_short text words ≡ false) (good : sound text words ≡ true) where
  a : Account
  a = account_in text words

  ds : List Document
  ds = documents_from text (document_rows words) (stored_cards words)

  long_text : text_capacity ≤ length text
  unfolding too_short
  long_text = ltb-false _ _ (or_false (ltb (length text) text_capacity) (ltb (length words) words_capacity) long).0

  long_words : words_capacity ≤ length words
  unfolding too_short
  long_words = ltb-false _ _ (or_false (ltb (length text) text_capacity) (ltb (length words) words_capacity) long).1

  record Passed : Type 0 where
    counts : Counts words
    touch : rows_touch (text_used_of words) 0 (document_rows words) ≡ true
    counted : cards_counted (cards_used_of words) 0 (document_rows words) ≡ true
    rise : switches_rise (ignore_word words) 0 (document_rows words) ≡ true
    zero : zero_unignored (document_rows words) ≡ true
    clean : cards_sound text (document_rows words) (stored_cards words) ≡ true
    passes : zero_sound ds ≡ true

  passed : Passed
  unfolding sound rows_sound account_in ds
  passed =
      let p = chosen_true (counts_sound words) _ good in
      let q = chosen_true (rows_sound words (document_rows words)) _ p.1 in
      let r = chosen_true (cards_sound text (document_rows words) (stored_cards words)) _ q.1 in
      let s3 = and_true _ (zero_unignored (document_rows words)) q.0 in
      let s2 = and_true _ (switches_rise (ignore_word words) 0 (document_rows words)) s3.0 in
      let s1 = and_true (rows_touch (text_used_of words) 0 (document_rows words)) (cards_counted (cards_used_of words) 0 (document_rows words)) s2.0 in
      record { counts = counts_of words p.0; touch = s1.0; counted = s1.1; rise = s2.1; zero = s3.1; clean = r.0; passes = r.1 }

  fits : text_used_of words ≤ length text
  fits = omega (arith, passed.counts.text, long_text)

  left : Left text (text_used_of words) (cards_used_of words) (ignore_word words) fits passed.counts.ignore 0 0 0 (document_rows words) (stored_cards words)
  unfolding stored_cards cards_from
  left = record {
    touch = passed.touch;
    counted = passed.counted;
    enough = omega (arith, length_chunks card_words card_from (cards_used_of words) (drop cards_at words));
    rise = passed.rise;
    clean = passed.clean;
  }

  n : ℕ
  n = document_count words

  rows_all : rows_of 0 ds ≡ document_rows words
  unfolding ds
  rows_all = rows_read text (text_used_of words) (cards_used_of words) (ignore_word words) fits passed.counts.ignore 0 0 0 (document_rows words) (stored_cards words)
      left

  cards_all : stored_of 0 ds ≡ stored_cards words
  unfolding ds
  cards_all = cards_read_lem text (text_used_of words) (cards_used_of words) (ignore_word words) fits passed.counts.ignore 0 0 0 (document_rows words)
      (stored_cards words) left

  text_all : text_of ds ≡ take (text_used_of words) text
  unfolding ds
  text_all =
      text_read text (text_used_of words) (cards_used_of words) (ignore_word words) fits passed.counts.ignore 0 0 0 (document_rows words) (stored_cards words) left
      ∙ ap (λ m. take m text) (sub-zero (text_used_of words))

  faultless_all : All Faultless ds
  unfolding ds
  faultless_all = clean_all text (text_used_of words) (cards_used_of words) (ignore_word words) fits passed.counts.ignore 0 0 0 (document_rows words)
      (stored_cards words) left

  count_read : length ds ≡ n
  unfolding n document_rows
  count_read = sym (length_rows_of 0 ds) ∙ ap length rows_all ∙ length_chunks document_words document_row_from (document_count words) (drop documents_at words)

  text_count : text_held ds ≡ text_used_of words
  text_count = sym (length_text_of ds) ∙ ap length text_all ∙ length-take-le (text_used_of words) text fits

  cards_count : cards_held ds ≡ cards_used_of words
  unfolding stored_cards cards_from
  cards_count = sym (length_stored 0 ds) ∙ ap length cards_all ∙ length_chunks card_words card_from (cards_used_of words) (drop cards_at words)

  row_region : words_of_rows 0 ds ≡ take (document_words * n) (drop documents_at words)
  unfolding n document_rows
  row_region =
      rows_words 0 ds
      ∙ ap (flat_map words_of_stored) rows_all
      ∙ words_back document_words document_row_from words_of_stored row_words_lem (document_count words) (drop documents_at words)
      (omega (arith, length-drop documents_at words, long_words, passed.counts.few))

  card_region : flat_map words_of_card (stored_of 0 ds) ≡ take (card_words * cards_used_of words) (drop cards_at words)
  unfolding stored_cards cards_from
  card_region =
      ap (flat_map words_of_card) cards_all
      ∙ words_back card_words card_from words_of_card card_words_lem (cards_used_of words) (drop cards_at words)
      (omega (arith, length-drop cards_at words, long_words, passed.counts.cards))

  -- What lies between the rows and the cards.
  between : List ℕ
  between = take (document_words * document_capacity - document_words * n) (drop (document_words * n) (drop documents_at words))

  few_rows : document_words * n ≤ document_words * document_capacity
  unfolding n
  few_rows = omega (arith, passed.counts.few)

  rows_region : words_of_rows 0 ds ++ between ≡ take (document_words * document_capacity) (drop documents_at words)
  unfolding between
  rows_region =
      let m = few_rows in
      let s : document_words * n + (document_words * document_capacity - document_words * n) ≡ document_words * document_capacity = omega arith in
      ap (λ l. l ++ between) row_region
      ∙ sym (take-add (document_words * n) (document_words * document_capacity - document_words * n) (drop documents_at words))
      ∙ ap (λ m. take m (drop documents_at words)) s

  cards_region : flat_map words_of_card (stored_of 0 ds) ++ drop (card_words * cards_used_of words) (drop cards_at words) ≡ drop cards_at words
  cards_region = ap (λ l. l ++ drop (card_words * cards_used_of words) (drop cards_at words)) card_region
      ∙ take-append-drop (card_words * cards_used_of words) (drop cards_at words)

  adopt_read : bit a.adopt ≡ adopt_word words
  unfolding a account_in
  adopt_read = bit_of (adopt_word words) passed.counts.adopt

  ignore_read : bit a.ignore ≡ ignore_word words
  unfolding a account_in
  ignore_read = bit_of (ignore_word words) passed.counts.ignore

  words_laid_lem : words ≡ laid_of ds a.adopt a.ignore between (drop (card_words * cards_used_of words) (drop cards_at words))
  unfolding document_count adopt_word ignore_word text_used_of cards_used_of n
  words_laid_lem =
      head_words words (omega (arith, long_words))
      ∙ ap (λ l. get_or words 0 0 ∷ get_or words 1 0 ∷ get_or words 2 0 ∷ get_or words 3 0 ∷ get_or words 4 0 ∷ l)
      (sym (take-append-drop (document_words * document_capacity) (drop documents_at words))
      ∙ ap (λ l. take (document_words * document_capacity) (drop documents_at words) ++ l) (drop-drop (document_words * document_capacity) documents_at words))
      ∙ sym (λ i. laid (count_read i) (adopt_read i) (ignore_read i) (text_count i) (cards_count i) (rows_region i) (cards_region i))

  holds : LaidOut text words ds a.adopt a.ignore
  holds = record {
    gap = between;
    rest = drop (card_words * cards_used_of words) (drop cards_at words);
    after = drop (text_used_of words) text;
    text_laid = sym (take-append-drop (text_used_of words) text) ∙ ap (λ l. l ++ drop (text_used_of words) text) (sym text_all);
    words_laid = words_laid_lem;
    rows_fit = ap length rows_region ∙ length-take-le (document_words * document_capacity) (drop documents_at words)
        (omega (arith, length-drop documents_at words, long_words));
    text_long = long_text;
    words_long = long_words;
    rise = rw (rows_all, ignore_read) passed.rise;
    zero_bare = rw rows_all passed.zero;
    admitted = record {
      faultless = faultless_all;
      zero = passed.passes;
      documents = omega (arith, count_read, passed.counts.few, n_is);
      text = omega (arith, text_count, passed.counts.text);
      cards = omega (arith, cards_count, passed.counts.cards);
    };
  }
    where
      n_is : n ≡ document_count words
      n_is = unfold n in refl

-- A store that is not refused holds the account that is read from it.
pub unrefused_holds : (text words : List ℕ) → store_refusal text words ≡ 0 →
    LaidOut text words (account_in text words).documents (account_in text words).adopt (account_in text words).ignore
unfolding store_refusal account_in a ds
unrefused_holds text words e =
    let p = chosen_zero (too_short text words) 21 (choose (sound text words) 0 22) refl e in
    holds text words p.0 (sound_of (sound text words) p.1)
  where
    sound_of : (b : Bool) → ◌≡◌ {A = ℕ} (choose b 0 22) 0 → b ≡ true
    sound_of true e = refl
    sound_of false e = absurd (omega (arith, e))
