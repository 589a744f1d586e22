-- How the documents of an account lie in a store, and that reading them back gives them.
use mathlib.Core.Path.{◌≡◌, refl, sym, ◌∙◌, ap}
use mathlib.Core.List.{List, [], ◌∷◌, ◌++◌, map, append_assoc, append-nil}
use mathlib.Core.Bool.{Bool, true, false}
use mathlib.Core.Option.{Option, none}
use Prim.Native.Nat.{ℕ, ◌+◌, ◌*◌, ◌≤◌}
use lib.Dec.{eqb, leb}
use lib.ListN.{length, take, drop, length-append, length-drop, length-map}
use lib.Seq.{sets, sets-eq, length-take-le, take_at, drop_at, take-length, take-append_seam, take-append-le, drop-append-le, drop-append-add}
use native.Mathlib.Nat.{add_assoc, add-zero}
use native.Mathlib.Omega.{arith}
use borrow.Author.Tests.{leb-true, le-leb, eq-eqb}
use Rattle.definition.specs.Lists.{All, found, flat_map, chunks, written}
use Rattle.definition.specs.Names.{bytes_at}
use Rattle.definition.specs.Cards.{Card, card_words, card_from, cards_from, words_of_card, card_fault, fault_from}
use Rattle.definition.specs.Headings.{Document}
use Rattle.definition.specs.Refusals.{text_held, cards_held}
use Rattle.definition.specs.Store.{document_words, DocumentRow, document_row_from, moved, stored_document, documents_from, rows_touch, cards_counted}
use Rattle.definition.specs.Store.{switches_rise, cards_sound}
use Rattle.definition.proofs.Tests.{and_true}
use Rattle.definition.proofs.CleanCards.{Faultless}
use Rattle.definition.proofs.MovedCards.{faults_moved, unmoved_all}

-- A switch as a word.
abbrev pub bit : Bool → ℕ
bit true = 1
bit false = 0

pub bit_back : (b : Bool) → eqb (bit b) 1 ≡ b
bit_back true = refl
bit_back false = refl

pub bit_le : (b : Bool) → bit b ≤ 1
bit_le true = omega arith
bit_le false = omega arith

-- ---- What is stored of documents whose texts begin at a place.

abbrev pub row_of : ℕ → Document → DocumentRow
row_of at d = record { text_at = at; text_len = length d.text; card_count = length d.cards; ignored = bit d.ignored }

abbrev pub rows_of : ℕ → List Document → List DocumentRow
rows_of at [] = []
rows_of at (d ∷ ds) = row_of at d ∷ rows_of (at + length d.text) ds

abbrev pub words_of_rows : ℕ → List Document → List ℕ
words_of_rows at [] = []
words_of_rows at (d ∷ ds) = at ∷ length d.text ∷ length d.cards ∷ bit d.ignored ∷ words_of_rows (at + length d.text) ds

abbrev pub stored_of : ℕ → List Document → List Card
stored_of at [] = []
stored_of at (d ∷ ds) = map (moved at) d.cards ++ stored_of (at + length d.text) ds

abbrev pub text_of : List Document → List ℕ
text_of [] = []
text_of (d ∷ ds) = d.text ++ text_of ds

pub text_held_cons : (d : Document) (ds : List Document) → text_held (d ∷ ds) ≡ length d.text + text_held ds
unfolding text_held
text_held_cons d ds = refl

pub cards_held_cons : (d : Document) (ds : List Document) → cards_held (d ∷ ds) ≡ length d.cards + cards_held ds
unfolding cards_held
cards_held_cons d ds = refl

pub text_held_nil : text_held [] ≡ 0
unfolding text_held
text_held_nil = refl

pub cards_held_nil : cards_held [] ≡ 0
unfolding cards_held
cards_held_nil = refl

pub text_held_joined : (ds : List Document) (d : Document) → text_held (ds ++ (d ∷ [])) ≡ text_held ds + length d.text
text_held_joined [] d = rw (text_held_cons d [], text_held_nil) (omega arith)
text_held_joined (x ∷ ds) d = rw (text_held_cons x (ds ++ (d ∷ [])), text_held_cons x ds, text_held_joined ds d) (omega arith)

pub cards_held_joined : (ds : List Document) (d : Document) → cards_held (ds ++ (d ∷ [])) ≡ cards_held ds + length d.cards
cards_held_joined [] d = rw (cards_held_cons d [], cards_held_nil) (omega arith)
cards_held_joined (x ∷ ds) d = rw (cards_held_cons x (ds ++ (d ∷ [])), cards_held_cons x ds, cards_held_joined ds d) (omega arith)

pub length_text_of : (ds : List Document) → length (text_of ds) ≡ text_held ds
length_text_of [] = sym text_held_nil
length_text_of (d ∷ ds) = length-append d.text (text_of ds) ∙ ap (λ (n : ℕ). length d.text + n) (length_text_of ds) ∙ sym (text_held_cons d ds)

pub length_rows : (at : ℕ) (ds : List Document) → length (words_of_rows at ds) ≡ document_words * length ds
length_rows at [] = refl
length_rows at (d ∷ ds) = let h = length_rows (at + length d.text) ds in omega arith

pub length_stored : (at : ℕ) (ds : List Document) → length (stored_of at ds) ≡ cards_held ds
length_stored at [] = sym cards_held_nil
length_stored at (d ∷ ds) =
    length-append (map (moved at) d.cards) (stored_of (at + length d.text) ds)
    ∙ ap (λ (n : ℕ). n + length (stored_of (at + length d.text) ds)) (length-map d.cards (moved at))
    ∙ ap (λ (n : ℕ). length d.cards + n) (length_stored (at + length d.text) ds)
    ∙ sym (cards_held_cons d ds)

-- ---- One more document.

pub text_of_joined : (ds : List Document) (d : Document) → text_of (ds ++ (d ∷ [])) ≡ text_of ds ++ d.text
text_of_joined [] d = append-nil d.text
text_of_joined (x ∷ ds) d = ap (λ (l : List ℕ). x.text ++ l) (text_of_joined ds d) ∙ sym (append_assoc x.text (text_of ds) d.text)

pub rows_joined : (at : ℕ) (ds : List Document) (d : Document) →
    words_of_rows at (ds ++ (d ∷ [])) ≡ words_of_rows at ds ++ ((at + text_held ds) ∷ length d.text ∷ length d.cards ∷ bit d.ignored ∷ [])
rows_joined at [] d = rw (text_held_nil, add-zero at)
rows_joined at (x ∷ ds) d =
    ap (λ (l : List ℕ). at ∷ length x.text ∷ length x.cards ∷ bit x.ignored ∷ l)
    (rows_joined (at + length x.text) ds d
    ∙ ap (λ (n : ℕ). words_of_rows (at + length x.text) ds ++ (n ∷ length d.text ∷ length d.cards ∷ bit d.ignored ∷ []))
    (add_assoc at (length x.text) (text_held ds) ∙ ap (λ (n : ℕ). at + n) (sym (text_held_cons x ds))))

pub stored_joined : (at : ℕ) (ds : List Document) (d : Document) →
    stored_of at (ds ++ (d ∷ [])) ≡ stored_of at ds ++ map (moved (at + text_held ds)) d.cards
stored_joined at [] d = append-nil (map (moved at) d.cards)
    ∙ ap (λ (n : ℕ). map (moved n) d.cards) (sym (ap (λ (n : ℕ). at + n) text_held_nil ∙ add-zero at))
stored_joined at (x ∷ ds) d =
    ap (λ (l : List Card). map (moved at) x.cards ++ l)
    (stored_joined (at + length x.text) ds d
    ∙ ap (λ (n : ℕ). stored_of (at + length x.text) ds ++ map (moved n) d.cards)
    (add_assoc at (length x.text) (text_held ds) ∙ ap (λ (n : ℕ). at + n) (sym (text_held_cons x ds))))
    ∙ sym (append_assoc (map (moved at) x.cards) (stored_of (at + length x.text) ds) (map (moved (at + text_held (x ∷ ds))) d.cards))

-- ---- Reading back.

pub rows_back : (at : ℕ) (ds : List Document) (rest : List ℕ) → chunks document_words document_row_from (length ds) (words_of_rows at ds ++ rest) ≡ rows_of at ds
unfolding chunks document_row_from
rows_back at [] rest = refl
rows_back at (d ∷ ds) rest = ap (λ (l : List DocumentRow). row_of at d ∷ l) (rows_back (at + length d.text) ds rest)

cards_back : (cs : List Card) (rest : List ℕ) → cards_from (length cs) (flat_map words_of_card cs ++ rest) ≡ cs
unfolding cards_from chunks flat_map words_of_card card_from
cards_back [] rest = refl
cards_back (c ∷ cs) rest = ap (λ (l : List Card). c ∷ l) (cards_back cs rest)

pub cards_stored : (ds : List Document) (rest : List ℕ) → cards_from (cards_held ds) (flat_map words_of_card (stored_of 0 ds) ++ rest) ≡ stored_of 0 ds
cards_stored ds rest = ap (λ (n : ℕ). cards_from n (flat_map words_of_card (stored_of 0 ds) ++ rest)) (sym (length_stored 0 ds)) ∙ cards_back (stored_of 0 ds) rest

pub bytes_inside : (pre own post : List ℕ) (at n m : ℕ) → length pre ≡ at → n + m ≤ length own → bytes_at (pre ++ (own ++ post)) (n + at) m ≡ bytes_at own n m
unfolding bytes_at
bytes_inside pre own post at n m p h =
    let e : n + at ≡ length pre + n = omega arith in
    let h0 : n ≤ length own = omega arith in
    let h1 : m ≤ length (drop n own) = omega (arith, length-drop n own) in
    ap (λ (j : ℕ). take m (drop j (pre ++ (own ++ post)))) e
    ∙ ap (take m) (drop-append-add pre (own ++ post) n)
    ∙ ap (take m) (drop-append-le n own post h0)
    ∙ take-append-le m (drop n own) post h1

pub bytes_whole : (pre own post : List ℕ) (at : ℕ) → length pre ≡ at → bytes_at (pre ++ (own ++ post)) at (length own) ≡ own
unfolding bytes_at
bytes_whole pre own post at p = ap (take (length own)) (drop_at pre (own ++ post) at p) ∙ take-append_seam own post

pub document_back : (pre post : List ℕ) (at : ℕ) (d : Document) → length pre ≡ at →
    stored_document (pre ++ (d.text ++ post)) (row_of at d) (map (moved at) d.cards) ≡ d
unfolding stored_document
document_back pre post at d p = λ i. record {
  text = bytes_whole pre d.text post at p i;
  cards = unmoved_all at d.cards i;
  ignored = bit_back d.ignored i;
}

pub text_next : (pre post : List ℕ) (d : Document) (ds : List Document) → pre ++ (text_of (d ∷ ds) ++ post) ≡ (pre ++ d.text) ++ (text_of ds ++ post)
text_next pre post d ds = simp append_assoc

pub text_here : (pre post : List ℕ) (d : Document) (ds : List Document) → pre ++ (text_of (d ∷ ds) ++ post) ≡ pre ++ (d.text ++ (text_of ds ++ post))
text_here pre post d ds = simp append_assoc

pub length_next : (pre : List ℕ) (at : ℕ) (d : Document) → length pre ≡ at → length (pre ++ d.text) ≡ at + length d.text
length_next pre at d p = length-append pre d.text ∙ ap (λ (n : ℕ). n + length d.text) p

take_stored : (at : ℕ) (d : Document) (rest : List Card) → take (length d.cards) (map (moved at) d.cards ++ rest) ≡ map (moved at) d.cards
take_stored at d rest = take_at (map (moved at) d.cards) rest (length d.cards) (length-map d.cards (moved at))

drop_stored : (at : ℕ) (d : Document) (rest : List Card) → drop (length d.cards) (map (moved at) d.cards ++ rest) ≡ rest
drop_stored at d rest = drop_at (map (moved at) d.cards) rest (length d.cards) (length-map d.cards (moved at))

pub documents_back : (pre post : List ℕ) (at : ℕ) (ds : List Document) → length pre ≡ at →
    documents_from (pre ++ (text_of ds ++ post)) (rows_of at ds) (stored_of at ds) ≡ ds
unfolding documents_from
documents_back pre post at [] p = refl
documents_back pre post at (d ∷ ds) p =
    let later = stored_of (at + length d.text) ds in
    let rs = rows_of (at + length d.text) ds in
    let text = pre ++ (text_of (d ∷ ds) ++ post) in
    let e0 : stored_document text (row_of at d) (take (length d.cards) (map (moved at) d.cards ++ later)) ≡ d =
    ap (stored_document text (row_of at d)) (take_stored at d later)
    ∙ ap (λ (t : List ℕ). stored_document t (row_of at d) (map (moved at) d.cards)) (text_here pre post d ds)
    ∙ document_back pre (text_of ds ++ post) at d p in
    let e1 : documents_from text rs (drop (length d.cards) (map (moved at) d.cards ++ later)) ≡ ds =
    ap (documents_from text rs) (drop_stored at d later)
    ∙ ap (λ (t : List ℕ). documents_from t rs later) (text_next pre post d ds)
    ∙ documents_back (pre ++ d.text) post (at + length d.text) ds (length_next pre at d p) in
    λ i. e0 i ∷ e1 i

-- ---- What is sound.

pub rows_touch_lem : (at used : ℕ) (ds : List Document) → at + text_held ds ≡ used → rows_touch used at (rows_of at ds) ≡ true
unfolding rows_touch
rows_touch_lem at used [] e = eq-eqb at used (omega (arith, text_held_nil))
rows_touch_lem at used (d ∷ ds) e = rw (eq-eqb at at refl) (rows_touch_lem (at + length d.text) used ds (omega (arith, text_held_cons d ds)))

pub cards_counted_lem : (n used at : ℕ) (ds : List Document) → n + cards_held ds ≡ used → cards_counted used n (rows_of at ds) ≡ true
unfolding cards_counted
cards_counted_lem n used at [] e = eq-eqb n used (omega (arith, cards_held_nil))
cards_counted_lem n used at (d ∷ ds) e = cards_counted_lem (n + length d.cards) used (at + length d.text) ds (omega (arith, cards_held_cons d ds))

pub rise_joined : (switch last at : ℕ) (ds : List Document) (d : Document) → bit d.ignored ≡ switch →
    switches_rise switch last (rows_of at ds) ≡ true → switches_rise switch last (rows_of at (ds ++ (d ∷ []))) ≡ true
unfolding switches_rise
rise_joined switch last at [] d b e = rw (b, e, le-leb switch switch (omega arith))
rise_joined switch last at (x ∷ ds) d b e =
    let q = and_true (leb last (bit x.ignored)) (switches_rise switch (bit x.ignored) (rows_of (at + length x.text) ds)) e in
    rw q.0 (rise_joined switch (bit x.ignored) (at + length x.text) ds d b q.1)

pub rise_more : (switch more last at : ℕ) (ds : List Document) → switch ≤ more →
    switches_rise switch last (rows_of at ds) ≡ true → switches_rise more last (rows_of at ds) ≡ true
unfolding switches_rise
rise_more switch more last at [] b e = let h = leb-true last switch e in le-leb last more (omega arith)
rise_more switch more last at (x ∷ ds) b e =
    let q = and_true (leb last (bit x.ignored)) (switches_rise switch (bit x.ignored) (rows_of (at + length x.text) ds)) e in
    rw q.0 (rise_more switch more (bit x.ignored) (at + length x.text) ds b q.1)

pub cards_sound_lem : (pre post : List ℕ) (at : ℕ) (ds : List Document) → length pre ≡ at → All Faultless ds →
    cards_sound (pre ++ (text_of ds ++ post)) (rows_of at ds) (stored_of at ds) ≡ true
unfolding cards_sound card_fault
cards_sound_lem pre post at [] p f = refl
cards_sound_lem pre post at (d ∷ ds) p f =
    let later = stored_of (at + length d.text) ds in
    let rs = rows_of (at + length d.text) ds in
    let text = pre ++ (text_of (d ∷ ds) ++ post) in
    let lies : (n m : ℕ) → n + m ≤ length d.text → bytes_at text (n + at) m ≡ bytes_at d.text n m =
    λ n m h. ap (λ (t : List ℕ). bytes_at t (n + at) m) (text_here pre post d ds) ∙ bytes_inside pre d.text (text_of ds ++ post) at n m p h in
    let e0 : fault_from text at (length d.text) 0 none none (take (length d.cards) (map (moved at) d.cards ++ later)) ≡ none =
    ap (fault_from text at (length d.text) 0 none none) (take_stored at d later)
    ∙ faults_moved text d.text at lies 0 none none d.cards ∙ f.0 in
    let e1 : cards_sound text rs (drop (length d.cards) (map (moved at) d.cards ++ later)) ≡ true =
    ap (cards_sound text rs) (drop_stored at d later)
    ∙ ap (λ (t : List ℕ). cards_sound t rs later) (text_next pre post d ds)
    ∙ cards_sound_lem (pre ++ d.text) post (at + length d.text) ds (length_next pre at d p) f.1 in
    ap (λ (o : Option _). found o (λ f. false) (cards_sound text rs (drop (length d.cards) (map (moved at) d.cards ++ later)))) e0 ∙ e1

-- ---- Writing.

module _ {ℓ} {A : Type ℓ} where
  pub written_at : (p q vs : List A) (i : ℕ) → length p ≡ i → written (p ++ q) i vs ≡ p ++ (vs ++ drop (length vs) q)
  unfolding written
  written_at p q vs i e =
      let d : i + length vs ≡ length p + length vs = omega arith in
      ap (λ (l : List A). l ++ take (length vs) vs ++ drop (i + length vs) (p ++ q)) (take_at p q i e)
      ∙ ap (λ (l : List A). p ++ l ++ drop (i + length vs) (p ++ q)) (take-length vs)
      ∙ ap (λ (n : ℕ). p ++ vs ++ drop n (p ++ q)) d
      ∙ ap (λ (l : List A). p ++ vs ++ l) (drop-append-add p q (length vs))
      ∙ append_assoc p vs (drop (length vs) q)

  pub sets_at : (p q vs : List A) (i : ℕ) → length p ≡ i → length vs ≤ length q → sets (p ++ q) i vs ≡ p ++ (vs ++ drop (length vs) q)
  sets_at p q vs i e h =
      let d : i + length vs ≡ length p + length vs = omega arith in
      sets-eq vs (p ++ q) i (omega (arith, length-append p q))
      ∙ ap (λ (l : List A). l ++ vs ++ drop (i + length vs) (p ++ q)) (take_at p q i e)
      ∙ ap (λ (n : ℕ). p ++ vs ++ drop n (p ++ q)) d
      ∙ ap (λ (l : List A). p ++ vs ++ l) (drop-append-add p q (length vs))
      ∙ append_assoc p vs (drop (length vs) q)

  pub written_long : (xs ys : List A) (i : ℕ) → i ≤ length xs → length xs ≤ length (written xs i ys)
  unfolding written
  written_long xs ys i h =
      rw take-length (omega (
        arith,
        length-append (take i xs ++ ys) (drop (i + length ys) xs),
        length-append (take i xs) ys,
        length-take-le i xs h,
        length-drop (i + length ys) xs,
      ))

pub length_words : (cs : List Card) → length (flat_map words_of_card cs) ≡ card_words * length cs
unfolding flat_map words_of_card
length_words [] = refl
length_words (c ∷ cs) = let h = length_words cs in omega arith
