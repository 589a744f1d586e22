-- The cards that a store holds, read from its own words and text: number, kind and name of each are those in its document.
use mathlib.Core.Path.{◌≡◌, refl, sym, ◌∙◌, ap}
use mathlib.Core.List.{List, [], ◌∷◌, ◌++◌, map}
use mathlib.Core.Option.{some}
use Prim.Native.Nat.{ℕ, zero, suc, ◌+◌, ◌*◌, ◌≤◌, ◌<◌}
use native.Mathlib.Nat.{add-zero, add_comm, mul-zero, mul-suc}
use native.Mathlib.Omega.{arith}
use lib.ListN.{length, drop, get_elem?, length-map}
use lib.Seq.{drop-drop}
use Rattle.definition.specs.Lists.{All, chunks}
use Rattle.definition.specs.Names.{bytes_at}
use Rattle.definition.specs.Cards.{Card, card_words, card_from, cards_from}
use Rattle.definition.specs.Headings.{Document, named_card}
use Rattle.definition.specs.Store.{cards_at, moved, cards_used_of, stored_cards, account_in, store_refusal}
use Rattle.definition.specs.LentRows.{cards_named, held_from, held}
use Rattle.definition.proofs.CleanCards.{Faultless, name_in_text}
use Rattle.definition.proofs.MovedCards.{kind_moved, name_moved}
use Rattle.definition.proofs.StoreLayout.{text_of, stored_of, bytes_inside, text_here, text_next, length_next}
use Rattle.definition.proofs.StoreHolds.{stored_held}
use Rattle.definition.proofs.StoreSound.{unrefused_holds}

-- ---- One document.

named_append : (text : List ℕ) (n : ℕ) (cs ds : List Card) → cards_named text n (cs ++ ds) ≡ cards_named text n cs ++ cards_named text (n + length cs) ds
unfolding cards_named
named_append text n [] ds = ap (λ m. cards_named text m ds) (sym (add-zero n))
named_append text n (c ∷ cs) ds =
    let e : n + 1 + length cs ≡ n + suc (length cs) = omega arith in
    ap (λ l. named_card text n c ∷ l) (named_append text (n + 1) cs ds ∙ ap (λ m. cards_named text (n + 1) cs ++ cards_named text m ds) e)

module _ (text own : List ℕ) (k : ℕ) (lies : (n m : ℕ) → n + m ≤ length own → bytes_at text (n + k) m ≡ bytes_at own n m) where
  part_moved : (n : ℕ) (c : Card) → c.name_at + c.name_len ≤ length own → named_card text n (moved k c) ≡ named_card own n c
  unfolding named_card
  part_moved n c w = λ i. record { number = n; kind = kind_moved k c i; name = name_moved text own k lies c w i }

  parts_moved : (n : ℕ) (cs : List Card) → ((j : ℕ) (c : Card) → get_elem? cs j ≡ some c → c.name_at + c.name_len ≤ length own) →
      cards_named text n (map (moved k) cs) ≡ cards_named own n cs
  unfolding cards_named
  parts_moved n [] w = refl
  parts_moved n (c ∷ cs) w =
      let here = part_moved n c (w zero c refl) in
      let later = parts_moved (n + 1) cs (λ j d e. w (suc j) d e) in
      λ i. here i ∷ later i

-- ---- All documents.

held_in : (pre post : List ℕ) (at n : ℕ) (ds : List Document) → length pre ≡ at → All Faultless ds →
    cards_named (pre ++ (text_of ds ++ post)) n (stored_of at ds) ≡ held_from n ds
unfolding held_from
held_in pre post at n [] p f = unfold cards_named in refl
held_in pre post at n (d ∷ ds) p f =
    let text = pre ++ (text_of (d ∷ ds) ++ post) in
    let lies : (j m : ℕ) → j + m ≤ length d.text → bytes_at text (j + at) m ≡ bytes_at d.text j m =
    λ j m h. ap (λ (t : List ℕ). bytes_at t (j + at) m) (text_here pre post d ds) ∙ bytes_inside pre d.text (text_of ds ++ post) at j m p h in
    let here : cards_named text n (map (moved at) d.cards) ≡ cards_named d.text n d.cards =
    parts_moved text d.text at lies n d.cards (λ j c e. name_in_text d j c f.0 e) in
    let later : cards_named text (n + length (map (moved at) d.cards)) (stored_of (at + length d.text) ds) ≡ held_from (n + length d.cards) ds =
    (λ i. cards_named (text_next pre post d ds i) (n + length-map d.cards (moved at) i) (stored_of (at + length d.text) ds))
    ∙ held_in (pre ++ d.text) post (at + length d.text) (n + length d.cards) ds (length_next pre at d p) f.1 in
    named_append text n (map (moved at) d.cards) (stored_of (at + length d.text) ds) ∙ (λ i. here i ++ later i)

-- Of a store that is not refused.
pub held_stored : (text words : List ℕ) → store_refusal text words ≡ 0 → cards_named text 0 (stored_cards words) ≡ held (account_in text words).documents
unfolding held
held_stored text words e =
    let a = account_in text words in
    let h = unrefused_holds text words e in
    (λ i. cards_named (h.text_laid i) 0 (stored_held text words a.documents a.adopt a.ignore h i))
    ∙ held_in [] h.after 0 0 a.documents refl h.admitted.faultless

-- ---- A stored card by its number.

chunk_at {ℓ} : {B : Type ℓ} (k : ℕ) (f : List ℕ → B) (n : ℕ) (ws : List ℕ) (i : ℕ) → i < n → get_elem? (chunks k f n ws) i ≡ some (f (drop (k * i) ws))
unfolding chunks
chunk_at k f zero ws i h = absurd (omega arith)
chunk_at k f (suc n) ws zero h = ap (λ m. some (f (drop m ws))) (sym (mul-zero k))
chunk_at k f (suc n) ws (suc i) h =
    chunk_at k f n (drop k ws) i (omega arith)
    ∙ ap (λ l. some (f l)) (drop-drop (k * i) k ws)
    ∙ ap (λ m. some (f (drop m ws))) (add_comm k (k * i) ∙ sym (mul-suc k i))

pub stored_card : (words : List ℕ) (i : ℕ) → i < cards_used_of words → get_elem? (stored_cards words) i ≡ some (card_from (drop (cards_at + card_words * i) words))
unfolding stored_cards cards_from
stored_card words i h = chunk_at card_words card_from (cards_used_of words) (drop cards_at words) i h
    ∙ ap (λ l. some (card_from l)) (drop-drop (card_words * i) cards_at words)
