-- That a store holds an account: what follows, and that opening, filing and turning on keep it.
use mathlib.Core.Path.{◌≡◌, refl, sym, ◌∙◌, ap}
use mathlib.Core.List.{List, [], ◌∷◌, ◌++◌, map, append_assoc, append-nil}
use mathlib.Core.Bool.{Bool, true, false}
use mathlib.Core.Option.{none}
use Prim.Native.Nat.{ℕ, ◌+◌, ◌-◌, ◌*◌, ◌≤◌, ◌<◌}
use lib.Dec.{ltb}
use lib.ListN.{length, take, drop, set, length-append, length-drop, length-set, take-append-drop}
use lib.Seq.{sets, length-sets, drop_at, drop-append-le, length-take-le}
use native.Mathlib.Nat.{add-zero, zero-add}
use native.Mathlib.Omega.{arith}
use borrow.Author.Tests.{ltb-false, le-ltb, le-leb}
use Rattle.definition.specs.Lists.{flat_map, chunks, written}
use Rattle.definition.specs.Cards.{Card, card_words, cards_from, words_of_card, cards_of}
use Rattle.definition.specs.Headings.{Document}
use Rattle.definition.specs.Account.{Account}
use Rattle.definition.specs.Refusals.{text_held, cards_held, text_capacity, document_capacity, card_capacity, document, opening_refusal, filing_refusal}
use Rattle.definition.specs.Store.{documents_at, document_words, cards_at, words_capacity, document_row_from, moved, document_count, adopt_word, ignore_word}
use Rattle.definition.specs.Store.{text_used_of, cards_used_of, document_rows, stored_cards, account_in, too_short, counts_sound, rows_sound, switches_rise}
use Rattle.definition.specs.Store.{zero_unignored, cards_sound, zero_sound, sound, store_refusal, moved_words, opened_words, opened_text, filed_row, filed_counts}
use Rattle.definition.specs.Store.{filed_words, filed_text, adopting_words, ignoring_words}
use Rattle.definition.proofs.Tests.{or_false}
use Rattle.definition.proofs.Lists.{flat_map_append}
use Rattle.definition.proofs.StoreLayout.{bit, bit_back, bit_le, rows_of, words_of_rows, stored_of, text_of, text_held_cons, text_held_nil, cards_held_cons}
use Rattle.definition.proofs.StoreLayout.{cards_held_nil, text_held_joined, cards_held_joined, length_text_of, length_rows, length_stored, text_of_joined}
use Rattle.definition.proofs.StoreLayout.{rows_joined, stored_joined, rows_back, cards_stored, documents_back, rows_touch_lem, cards_counted_lem, rise_joined}
use Rattle.definition.proofs.StoreLayout.{rise_more, cards_sound_lem, written_at, sets_at, written_long, length_words}
use Rattle.definition.proofs.Admitted.{Admitted, opening_admits, filing_admits}

abbrev pub laid : ℕ → ℕ → ℕ → ℕ → ℕ → List ℕ → List ℕ → List ℕ
laid n ad ig tu cu s q = n ∷ ad ∷ ig ∷ tu ∷ cu ∷ (s ++ q)

abbrev pub laid_of : List Document → Bool → Bool → List ℕ → List ℕ → List ℕ
laid_of ds ad ig gap rest =
    laid (length ds) (bit ad) (bit ig) (text_held ds) (cards_held ds) (words_of_rows 0 ds ++ gap) (flat_map words_of_card (stored_of 0 ds) ++ rest)

-- The store holds these documents and switches. What it has beyond them: between rows and cards, after the cards, after the text.
pub record LaidOut (text words : List ℕ) (ds : List Document) (ad ig : Bool) : Type 0 where
  pub gap : List ℕ
  pub rest : List ℕ
  pub after : List ℕ
  pub text_laid : text ≡ text_of ds ++ after
  pub words_laid : words ≡ laid_of ds ad ig gap rest
  pub rows_fit : length (words_of_rows 0 ds ++ gap) ≡ document_words * document_capacity
  pub text_long : text_capacity ≤ length text
  pub words_long : words_capacity ≤ length words
  pub rise : switches_rise (bit ig) 0 (rows_of 0 ds) ≡ true
  pub zero_bare : zero_unignored (rows_of 0 ds) ≡ true
  pub admitted : Admitted ds

-- ---- What follows: the store is sound, and its account is the one held.

some_held : (ds : List Document) → zero_sound ds ≡ true → 1 ≤ length ds
unfolding zero_sound
some_held [] e = absurd cc
some_held (d ∷ ds) e = omega arith

module _ (text words : List ℕ) (ds : List Document) (ad ig : Bool) (h : LaidOut text words ds ad ig) where
  pub count_held : document_count words ≡ length ds
  unfolding document_count
  count_held = ap document_count h.words_laid

  pub adopt_held : adopt_word words ≡ bit ad
  unfolding adopt_word
  adopt_held = ap adopt_word h.words_laid

  pub ignore_held : ignore_word words ≡ bit ig
  unfolding ignore_word
  ignore_held = ap ignore_word h.words_laid

  pub text_held_lem : text_used_of words ≡ text_held ds
  unfolding text_used_of
  text_held_lem = ap text_used_of h.words_laid

  pub cards_held_lem : cards_used_of words ≡ cards_held ds
  unfolding cards_used_of
  cards_held_lem = ap cards_used_of h.words_laid

  rows_held : document_rows words ≡ rows_of 0 ds
  unfolding document_rows document_count
  rows_held =
      ap document_rows h.words_laid
      ∙ ap (chunks document_words document_row_from (length ds)) (append_assoc (words_of_rows 0 ds) h.gap (flat_map words_of_card (stored_of 0 ds) ++ h.rest))
      ∙ rows_back 0 ds (h.gap ++ (flat_map words_of_card (stored_of 0 ds) ++ h.rest))

  pub stored_held : stored_cards words ≡ stored_of 0 ds
  unfolding stored_cards cards_used_of
  stored_held =
      ap stored_cards h.words_laid
      ∙ ap (cards_from (cards_held ds)) (drop_at (words_of_rows 0 ds ++ h.gap) (flat_map words_of_card (stored_of 0 ds) ++ h.rest)
      (document_words * document_capacity) h.rows_fit)
      ∙ cards_stored ds h.rest

  pub account_held : account_in text words ≡ record { documents = ds; adopt = ad; ignore = ig }
  unfolding account_in
  account_held = rw (rows_held, stored_held, adopt_held, ignore_held, h.text_laid, documents_back [] h.after 0 ds refl, bit_back ad, bit_back ig)

  counts_sound_lem : counts_sound words ≡ true
  unfolding counts_sound
  counts_sound_lem = rw (
    count_held,
    adopt_held,
    ignore_held,
    text_held_lem,
    cards_held_lem,
    le-leb 1 (length ds) (some_held ds h.admitted.zero),
    le-leb (length ds) document_capacity h.admitted.documents,
    le-leb (bit ad) 1 (bit_le ad),
    le-leb (bit ig) 1 (bit_le ig),
    le-leb (text_held ds) text_capacity h.admitted.text,
    le-leb (cards_held ds) card_capacity h.admitted.cards,
  )

  rows_sound_lem : rows_sound words (rows_of 0 ds) ≡ true
  unfolding rows_sound
  rows_sound_lem = rw (
    text_held_lem,
    cards_held_lem,
    ignore_held,
    rows_touch_lem 0 (text_held ds) ds (zero-add _),
    cards_counted_lem 0 (cards_held ds) 0 ds (zero-add _),
    h.rise,
    h.zero_bare,
  )

  cards_sound_held : cards_sound text (rows_of 0 ds) (stored_of 0 ds) ≡ true
  cards_sound_held = rw h.text_laid (cards_sound_lem [] h.after 0 ds refl h.admitted.faultless)

  pub sound_held : sound text words ≡ true
  unfolding sound
  sound_held = rw (counts_sound_lem, rows_held, rows_sound_lem, stored_held, cards_sound_held, account_held) h.admitted.zero

  pub long_held : too_short text words ≡ false
  unfolding too_short
  long_held = rw (le-ltb (length text) text_capacity h.text_long, le-ltb (length words) words_capacity h.words_long)

  pub refusal_held : store_refusal text words ≡ 0
  unfolding store_refusal
  refusal_held = rw (long_held, sound_held)

-- ---- Turning on.

pub adopting_held : (text words : List ℕ) (ds : List Document) (ad ig : Bool) → LaidOut text words ds ad ig → LaidOut text (adopting_words words) ds true ig
unfolding adopting_words
adopting_held text words ds ad ig h = record {
  gap = h.gap;
  rest = h.rest;
  after = h.after;
  text_laid = h.text_laid;
  words_laid = ap (λ (w : List ℕ). set w 1 1) h.words_laid;
  rows_fit = h.rows_fit;
  text_long = h.text_long;
  words_long = rw (length-set words 1 1) h.words_long;
  rise = h.rise;
  zero_bare = h.zero_bare;
  admitted = h.admitted;
}

pub ignoring_held : (text words : List ℕ) (ds : List Document) (ad ig : Bool) → LaidOut text words ds ad ig → LaidOut text (ignoring_words words) ds ad true
unfolding ignoring_words
ignoring_held text words ds ad ig h = record {
  gap = h.gap;
  rest = h.rest;
  after = h.after;
  text_laid = h.text_laid;
  words_laid = ap (λ (w : List ℕ). set w 2 1) h.words_laid;
  rows_fit = h.rows_fit;
  text_long = h.text_long;
  words_long = rw (length-set words 2 1) h.words_long;
  rise = rise_more (bit ig) 1 0 0 ds (bit_le ig) h.rise;
  zero_bare = h.zero_bare;
  admitted = h.admitted;
}

-- ---- Opening.

abbrev pub doc : Bool → List ℕ → List Card → Document
doc b text cs = record { text = text; cards = cs; ignored = b }

-- Opening writes the counts, the switches and the first row; the room of the other rows lies between them and the cards.
abbrev opened_head : ℕ
opened_head = documents_at + document_words

abbrev opened_gap : ℕ
opened_gap = document_words * document_capacity - document_words

opened_laid : (words lent : List ℕ) (cs : List Card) → words_capacity ≤ length words →
    opened_words words (doc false lent cs) ≡
    laid_of (doc false lent cs ∷ []) false false (take opened_gap (drop opened_head words))
    (drop (length (moved_words 0 cs)) (drop opened_gap (drop opened_head words)))
unfolding opened_words moved_words
opened_laid words lent cs long =
    let vs : List ℕ = 1 ∷ 0 ∷ 0 ∷ length lent ∷ length cs ∷ 0 ∷ length lent ∷ length cs ∷ 0 ∷ [] in
    let g : List ℕ = take opened_gap (drop opened_head words) in
    let q : List ℕ = drop opened_gap (drop opened_head words) in
    let mw : List ℕ = flat_map words_of_card (map (moved 0) cs) in
    let e0 : sets words 0 vs ≡ (vs ++ g) ++ q = sets_at [] words vs 0 refl (omega arith)
    ∙ ap (λ (l : List ℕ). vs ++ l) (sym (take-append-drop opened_gap (drop opened_head words))) in
    let e1 : length (vs ++ g) ≡ cards_at = length-append vs g
    ∙ ap (λ (n : ℕ). opened_head + n) (length-take-le opened_gap (drop opened_head words) (omega (arith, length-drop opened_head words))) in
    let t : length lent ≡ text_held (doc false lent cs ∷ []) =
    sym (text_held_cons (doc false lent cs) [] ∙ ap (λ (n : ℕ). length lent + n) text_held_nil ∙ add-zero (length lent)) in
    let c : length cs ≡ cards_held (doc false lent cs ∷ []) =
    sym (cards_held_cons (doc false lent cs) [] ∙ ap (λ (n : ℕ). length cs + n) cards_held_nil ∙ add-zero (length cs)) in
    let s : map (moved 0) cs ≡ map (moved 0) cs ++ [] = sym (append-nil (map (moved 0) cs)) in
    ap (λ (l : List ℕ). written l cards_at mw) e0
    ∙ written_at (vs ++ g) q mw cards_at e1
    ∙ (λ i. laid 1 0 0 (t i) (c i) (0 ∷ length lent ∷ length cs ∷ 0 ∷ g) (flat_map words_of_card (s i) ++ drop (length mw) q))

opened_long : (words : List ℕ) (d : Document) → words_capacity ≤ length words → words_capacity ≤ length (opened_words words d)
unfolding opened_words
opened_long words d long =
    let vs : List ℕ = 1 ∷ 0 ∷ 0 ∷ length d.text ∷ length d.cards ∷ 0 ∷ length d.text ∷ length d.cards ∷ 0 ∷ [] in
    let k : length (sets words 0 vs) ≡ length words = length-sets words 0 vs in
    let w = written_long (sets words 0 vs) (moved_words 0 d.cards) cards_at (omega arith) in
    omega arith

opened_held : (text words lent : List ℕ) (cs : List Card) → text_capacity ≤ length text → words_capacity ≤ length words → Admitted (doc false lent cs ∷ []) →
    LaidOut (opened_text text (doc false lent cs)) (opened_words words (doc false lent cs)) (doc false lent cs ∷ []) false false
unfolding opened_text switches_rise zero_unignored
opened_held text words lent cs long_text long_words admitted =
    let g : List ℕ = take opened_gap (drop opened_head words) in
    let q : List ℕ = drop opened_gap (drop opened_head words) in
    let laid_here = opened_laid words lent cs long_words in
    let text_here : written text 0 lent ≡ (lent ++ []) ++ drop (length lent) text =
    written_at [] text lent 0 refl ∙ ap (λ (l : List ℕ). l ++ drop (length lent) text) (sym (append-nil lent)) in
    let lg : length g ≡ opened_gap = length-take-le opened_gap (drop opened_head words) (omega (arith, length-drop opened_head words)) in
    record {
      gap = g;
      rest = drop (length (moved_words 0 cs)) q;
      after = drop (length lent) text;
      text_laid = text_here;
      words_laid = laid_here;
      rows_fit = omega arith;
      text_long = let w = written_long text lent 0 (omega arith) in omega arith;
      words_long = opened_long words (doc false lent cs) long_words;
      rise = refl;
      zero_bare = refl;
      admitted = admitted;
    }

-- ---- Filing.

regroup_before : (r row g c t : List ℕ) → r ++ (row ++ (g ++ (c ++ t))) ≡ (((r ++ row) ++ g) ++ c) ++ t
regroup_before r row g c t = simp append_assoc

regroup_after : (s c m t : List ℕ) → (s ++ c) ++ (m ++ t) ≡ s ++ ((c ++ m) ++ t)
regroup_after s c m t = simp append_assoc

filed_laid : (n ad ig tu cu : ℕ) (r gap c rest lent : List ℕ) (cs : List Card) →
    length r ≡ document_words * n → length c ≡ card_words * cu → length (r ++ gap) ≡ document_words * document_capacity → document_words ≤ length gap →
    filed_words (laid n ad ig tu cu (r ++ gap) (c ++ rest)) (doc false lent cs) ≡
    laid (n + 1) ad ig (tu + length lent) (cu + length cs) ((r ++ (tu ∷ length lent ∷ length cs ∷ ig ∷ [])) ++ drop document_words gap)
    ((c ++ moved_words tu cs) ++ drop (length (moved_words tu cs)) rest)
unfolding filed_words filed_counts filed_row document_count text_used_of ignore_word cards_used_of
filed_laid n ad ig tu cu r gap c rest lent cs hr hc hs hg =
    let row : List ℕ = tu ∷ length lent ∷ length cs ∷ ig ∷ [] in
    let mw : List ℕ = moved_words tu cs in
    let q : List ℕ = c ++ rest in
    let head : List ℕ → List ℕ = λ l. (n + 1) ∷ ad ∷ ig ∷ (tu + length lent) ∷ (cu + length cs) ∷ l in
    let e0 : sets (head ((r ++ gap) ++ q)) (documents_at + document_words * n) row ≡ head (r ++ (row ++ drop document_words (gap ++ q))) =
    ap (λ (l : List ℕ). sets (head l) (documents_at + document_words * n) row) (append_assoc r gap q)
    ∙ sets_at (head r) (gap ++ q) row (documents_at + document_words * n) (omega arith) (omega (arith, length-append gap q)) in
    let e1 : head (r ++ (row ++ drop document_words (gap ++ q))) ≡ head ((((r ++ row) ++ drop document_words gap) ++ c) ++ rest) =
    ap (λ (l : List ℕ). head (r ++ (row ++ l))) (drop-append-le document_words gap q hg)
    ∙ ap head (regroup_before r row (drop document_words gap) c rest) in
    let l0 = length-append ((r ++ row) ++ drop document_words gap) c in
    let l1 = length-append (r ++ row) (drop document_words gap) in
    let l2 = length-append r row in
    let l3 = length-drop document_words gap in
    let l4 = length-append r gap in
    let e2 : length (head (((r ++ row) ++ drop document_words gap) ++ c)) ≡ cards_at + card_words * cu = omega arith in
    ap (λ (l : List ℕ). written l (cards_at + card_words * cu) mw) (e0 ∙ e1)
    ∙ written_at (head (((r ++ row) ++ drop document_words gap) ++ c)) rest mw (cards_at + card_words * cu) e2
    ∙ ap head (regroup_after ((r ++ row) ++ drop document_words gap) c mw (drop (length mw) rest))

filed_long : (words : List ℕ) (d : Document) → words_capacity ≤ length words → cards_used_of words ≤ card_capacity → words_capacity ≤ length (filed_words words d)
unfolding filed_words filed_counts
filed_long words d long few =
    let c0 : List ℕ = set words 0 (document_count words + 1) in
    let c1 : List ℕ = sets c0 3 ((text_used_of words + length d.text) ∷ (cards_used_of words + length d.cards) ∷ []) in
    let c2 : List ℕ = sets c1 (documents_at + document_words * document_count words) (filed_row words d) in
    let k0 : length c0 ≡ length words = length-set words 0 (document_count words + 1) in
    let k1 : length c1 ≡ length c0 = length-sets c0 3 ((text_used_of words + length d.text) ∷ (cards_used_of words + length d.cards) ∷ []) in
    let k2 : length c2 ≡ length c1 = length-sets c1 (documents_at + document_words * document_count words) (filed_row words d) in
    let w = written_long c2 (moved_words (text_used_of words) d.cards) (cards_at + card_words * cards_used_of words) (omega arith) in
    omega arith

bare_joined : (ds : List Document) (d : Document) → zero_unignored (rows_of 0 ds) ≡ true → zero_unignored (rows_of 0 (ds ++ (d ∷ []))) ≡ true
unfolding zero_unignored
bare_joined [] d e = absurd cc
bare_joined (x ∷ ds) d e = e

moved_words_lem : (base : ℕ) (cs : List Card) → flat_map words_of_card (map (moved base) cs) ≡ moved_words base cs
unfolding moved_words
moved_words_lem base cs = refl

filed_held : (text words : List ℕ) (ds : List Document) (ad ig : Bool) (lent : List ℕ) (cs : List Card) → LaidOut text words ds ad ig →
    length ds < document_capacity → Admitted (ds ++ (doc ig lent cs ∷ [])) →
    LaidOut (filed_text text words (doc false lent cs)) (filed_words words (doc false lent cs)) (ds ++ (doc ig lent cs ∷ [])) ad ig
unfolding filed_text
filed_held text words ds ad ig lent cs h few admitted =
    let d : Document = doc ig lent cs in
    let r : List ℕ = words_of_rows 0 ds in
    let c : List ℕ = flat_map words_of_card (stored_of 0 ds) in
    let row : List ℕ = text_held ds ∷ length lent ∷ length cs ∷ bit ig ∷ [] in
    let mw : List ℕ = moved_words (text_held ds) cs in
    let lr : length r ≡ document_words * length ds = length_rows 0 ds in
    let lc : length c ≡ card_words * cards_held ds = length_words (stored_of 0 ds) ∙ ap (λ (n : ℕ). card_words * n) (length_stored 0 ds) in
    let lg = length-append r h.gap in
    let fit = h.rows_fit in
    let capacity : document_words ≤ length h.gap = omega arith in
    let used : cards_used_of words ≤ card_capacity = rw (cards_held_lem text words ds ad ig h) h.admitted.cards in
    let text_here : written text (text_used_of words) lent ≡ text_of (ds ++ (d ∷ [])) ++ drop (length lent) h.after =
    ap (λ (n : ℕ). written text n lent) (text_held_lem text words ds ad ig h)
    ∙ ap (λ (t : List ℕ). written t (text_held ds) lent) h.text_laid
    ∙ written_at (text_of ds) h.after lent (text_held ds) (length_text_of ds)
    ∙ sym (append_assoc (text_of ds) lent (drop (length lent) h.after))
    ∙ ap (λ (t : List ℕ). t ++ drop (length lent) h.after) (sym (text_of_joined ds d)) in
    let e-count : length ds + 1 ≡ length (ds ++ (d ∷ [])) = sym (length-append ds (d ∷ [])) in
    let e-text : text_held ds + length lent ≡ text_held (ds ++ (d ∷ [])) = sym (text_held_joined ds d) in
    let e-cards : cards_held ds + length cs ≡ cards_held (ds ++ (d ∷ [])) = sym (cards_held_joined ds d) in
    let e-rows : r ++ row ≡ words_of_rows 0 (ds ++ (d ∷ [])) =
    sym (rows_joined 0 ds d ∙ ap (λ (n : ℕ). r ++ (n ∷ length lent ∷ length cs ∷ bit ig ∷ [])) (zero-add (text_held ds))) in
    let e-stored : c ++ mw ≡ flat_map words_of_card (stored_of 0 (ds ++ (d ∷ []))) =
    sym (ap (flat_map words_of_card) (stored_joined 0 ds d ∙ ap (λ (n : ℕ). stored_of 0 ds ++ map (moved n) cs) (zero-add (text_held ds)))
    ∙ flat_map_append words_of_card (stored_of 0 ds) (map (moved (text_held ds)) cs)
    ∙ ap (λ (l : List ℕ). c ++ l) (moved_words_lem (text_held ds) cs)) in
    let e-filed = ap (λ (w : List ℕ). filed_words w (doc false lent cs)) h.words_laid
    ∙ filed_laid (length ds) (bit ad) (bit ig) (text_held ds) (cards_held ds) r h.gap c h.rest lent cs lr lc fit capacity in
    let l1 = length-append (r ++ row) (drop document_words h.gap) in
    let l2 = length-append r row in
    let l3 = length-drop document_words h.gap in
    let fit_now : length ((r ++ row) ++ drop document_words h.gap) ≡ document_words * document_capacity = omega arith in
    record {
      gap = drop document_words h.gap;
      rest = drop (length mw) h.rest;
      after = drop (length lent) h.after;
      text_laid = text_here;
      words_laid = e-filed ∙ (λ i. laid (e-count i) (bit ad) (bit ig) (e-text i) (e-cards i) (e-rows i ++ drop document_words h.gap)
          (e-stored i ++ drop (length mw) h.rest));
      rows_fit = ap (λ (l : List ℕ). length (l ++ drop document_words h.gap)) (sym e-rows) ∙ fit_now;
      text_long = let w = written_long text lent (text_used_of words) (rw (text_held_lem text words ds ad ig h) (omega (arith, h.admitted.text, h.text_long))) in
          omega (arith, h.text_long, w);
      words_long = filed_long words (doc false lent cs) h.words_long used;
      rise = rise_joined (bit ig) 0 0 ds d refl h.rise;
      zero_bare = bare_joined ds d h.zero_bare;
      admitted = admitted;
    }

-- ---- An accepted opening and an accepted filing.

pub opening_held : (text words lent ws : List ℕ) → too_short text words ≡ false → opening_refusal lent ws ≡ none →
    LaidOut (opened_text text (document false lent ws)) (opened_words words (document false lent ws)) (document false lent ws ∷ []) false false
unfolding document too_short
opening_held text words lent ws long e =
    let l = or_false (ltb (length text) text_capacity) (ltb (length words) words_capacity) long in
    opened_held text words lent (cards_of ws) (ltb-false _ _ l.0) (ltb-false _ _ l.1) (opening_admits lent ws e)

pub filing_held : (text words : List ℕ) (a : Account) (lent ws : List ℕ) → LaidOut text words a.documents a.adopt a.ignore →
    filing_refusal a lent ws ≡ none →
    LaidOut (filed_text text words (document false lent ws)) (filed_words words (document false lent ws)) (a.documents ++ (document a.ignore lent ws ∷ []))
    a.adopt a.ignore
unfolding document
filing_held text words a lent ws h e =
    let q = filing_admits a lent ws h.admitted e in
    filed_held text words a.documents a.adopt a.ignore lent (cards_of ws) h (omega (arith, q.0)) q.1
