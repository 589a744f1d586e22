-- The words of a document's cards as they are stored, card by card: what a loop that copies and moves them has made so far.
use mathlib.Core.Path.{◌≡◌, refl, sym, ap, ◌∙◌, subst}
use mathlib.Core.List.{List, [], ◌∷◌, ◌++◌, append_assoc, append-nil}
use Prim.Native.Nat.{ℕ, suc, ◌+◌, ◌*◌, ◌/◌, ◌%◌, ◌≤◌, ◌<◌}
use native.Mathlib.Omega.{arith}
use lib.ListN.{length, take, drop, length-drop, drop_of_length-le}
use lib.Seq.{drop-drop}
use Rattle.std.proofs.lemmas.List.Edits.{take-paste, drop-paste, length-paste}
use Rattle.definition.specs.Lists.{All, written, flat_map, chunks}
use Rattle.definition.specs.Cards.{card_words, card_from, cards_from, cards_of, words_of_card}
use Rattle.definition.specs.Store.{moved, moved_words}
use Rattle.ast.specs.declared.Card.{Card as ReadCard}
use Rattle.ast.specs.Cards.{card_of}
use Rattle.store.specs.Moving.{Within}
use Rattle.store.proofs.Copied.{front_written, drop_more}

-- ---- The cards from the word i on.

cards_next : (s : List ℕ) (i : ℕ) → i + card_words ≤ length s → cards_of (drop i s) ≡ card_from (drop i s) ∷ cards_of (drop (i + card_words) s)
unfolding cards_of cards_from chunks
cards_next s i h =
    let n : length (drop i s) / card_words ≡ suc (length (drop (i + card_words) s) / card_words) =
    omega (arith, length-drop i s, length-drop (i + card_words) s) in
    rw (n, drop-drop card_words i s)

cards_none : (s : List ℕ) (i : ℕ) → length s ≤ i → cards_of (drop i s) ≡ []
unfolding cards_of cards_from chunks
cards_none s i h = rw (drop_of_length-le s {i = i} h)

moved_next : (base : ℕ) (s : List ℕ) (i : ℕ) → i + card_words ≤ length s →
    moved_words base (cards_of (drop i s)) ≡ words_of_card (moved base (card_from (drop i s))) ++ moved_words base (cards_of (drop (i + card_words) s))
unfolding moved_words flat_map
moved_next base s i h = rw (cards_next s i h)

-- ---- The pass: l is what is written, l₀ what stood there, n how many cards are copied.

pub record Copying (base n : ℕ) (s l l₀ : List ℕ) (bound : ℕ) : Type 0 where
  pub within : All (Within bound) (cards_of (drop (card_words * n) s))
  pub moved : take (card_words * n) l ++ moved_words base (cards_of (drop (card_words * n) s)) ≡ moved_words base (cards_of s)
  pub kept : drop (card_words * n) l ≡ drop (card_words * n) l₀
  pub long : length l ≡ length l₀

pub copying_none : (base bound : ℕ) (s l : List ℕ) → All (Within bound) (cards_of s) → Copying base 0 s l l bound
copying_none base bound s l a = record { within = a; moved = refl; kept = refl; long = refl }

module _ (l : List ℕ) (at : ℕ) (c : ReadCard) (h : at + card_words ≤ length l) where
  take_card : take (at + card_words) (written l at (words_of_card (card_of c))) ≡ take at l ++ words_of_card (card_of c)
  unfolding written words_of_card
  take_card = take-paste l at (words_of_card (card_of c)) card_words (omega arith) (omega arith)

  drop_card : drop (at + card_words) (written l at (words_of_card (card_of c))) ≡ drop (at + card_words) l
  unfolding written words_of_card
  drop_card = drop-paste l at (words_of_card (card_of c)) card_words (omega arith) (omega arith)

  length_card : length (written l at (words_of_card (card_of c))) ≡ length l
  unfolding written words_of_card
  length_card = length-paste l at (words_of_card (card_of c)) card_words h (omega arith)

module _ (base n bound : ℕ) (s l l₀ : List ℕ) (p : Copying base n s l l₀ bound) where
  module _ (h : n < length s / card_words) where
    inside : card_words * n + card_words ≤ length s
    inside = omega arith

    here : Within bound (card_from (drop (card_words * n) s)) × All (Within bound) (cards_of (drop (card_words * n + card_words) s))
    here = rw (cards_next s (card_words * n) inside) at p.within

    module _ (c : ReadCard) (e : card_of c ≡ card_from (drop (card_words * n) s)) where
      pub within_read : (c.item_at ≤ bound) × (c.name_at ≤ bound)
      within_read = subst (Within bound) (sym e) here.0

      pub copying_next : (m : ReadCard) (l' : List ℕ) → length s ≤ length l₀ → card_of m ≡ moved base (card_of c) →
          l' ≡ written l (card_words * n) (words_of_card (card_of m)) → Copying base (n + 1) s l' l₀ bound
      copying_next m l' fits f g =
          let at : ℕ = card_words * n in
          let room : at + card_words ≤ length l = omega (arith, p.long, inside) in
          let words : words_of_card (card_of m) ≡ words_of_card (moved base (card_from (drop at s))) = ap words_of_card (f ∙ ap (moved base) e) in
          let step : at + card_words ≡ card_words * (n + 1) = omega arith in
          let front : take (at + card_words) l' ++ moved_words base (cards_of (drop (at + card_words) s)) ≡ moved_words base (cards_of s) =
          rw (g, take_card l at m room, words)
          (append_assoc (take at l) _ _ ∙ ap (λ (x : List ℕ). take at l ++ x) (sym (moved_next base s at inside)) ∙ p.moved) in
          let kept : drop (at + card_words) l' ≡ drop (at + card_words) l₀ = rw g (drop_card l at m room ∙ drop_more card_words at l l₀ p.kept) in
          record {
            within = rw step at here.1;
            moved = rw step at front;
            kept = rw step at kept;
            long = rw g (length_card l at m room ∙ p.long);
          }

  pub copied_all : length s / card_words ≤ n → n ≤ length s / card_words → length s % card_words ≡ 0 → length s ≤ length l₀ →
      l ≡ written l₀ 0 (moved_words base (cards_of s))
  unfolding moved_words flat_map
  copied_all a b whole fits =
      let at : ℕ = card_words * n in
      front_written (moved_words base (cards_of s)) l l₀ at (omega (arith, p.long))
      (sym (append-nil (take at l)) ∙ ap (λ (x : List ℕ). take at l ++ x) (sym (ap (moved_words base) (cards_none s at (omega arith)))) ∙ p.moved)
      p.kept
