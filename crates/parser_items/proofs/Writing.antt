-- What the words hold when cards were written: the words before, the words of the cards, the words after.
use mathlib.Core.Path.{◌≡◌, refl, sym, ap, ◌∙◌}
use mathlib.Core.List.{List, [], ◌∷◌, ◌++◌, append_assoc}
use mathlib.Core.Bool.{Bool, true, false}
use mathlib.Core.Logic.{◌⊎◌, inl, inr}
use Prim.Native.Nat.{ℕ, zero, suc, ◌+◌, ◌*◌, ◌≤◌, ◌<◌}
use native.Mathlib.Omega.{arith}
use native.Mathlib.Numerals.{towards_suc}
use borrow.Author.Tests.{le-leb, lt-leb}
use lib.Dec.{leb}
use Rattle.definition.specs.Lists.{choose, flat_map}
use lib.ListN.{length, take, drop, set, length-append, length-set, take-append-drop}
use lib.Seq.{sets-eq, take_at, drop_at, length-take-le, drop-drop}
use Rattle.definition.specs.Cards.{Card, words_of_card}
use Rattle.parser_items.specs.Lists.{put_card, put_cards}

pub put_none : (ws : List ℕ) (n : ℕ) (cs : List Card) → put_cards ws 0 n cs ≡ ws
unfolding put_cards put_card
put_none ws n [] = refl
put_none ws n (c ∷ cs) = rw (le-leb 0 n (omega arith)) (put_none ws (n + 1) cs)

put5 : (l : List ℕ) (n a b c d e : ℕ) → n + 5 ≤ length l → set (set (set (set (set l n a) (n + 1) b) (n + 2) c) (n + 3) d) (n + 4) e ≡
    take n l ++ ((a ∷ b ∷ c ∷ d ∷ e ∷ []) ++ drop (n + 5) l)
put5 l n a b c d e h = let g = sets-eq (a ∷ b ∷ c ∷ d ∷ e ∷ []) l n h in simp towards_suc (simp towards_suc at g ∙ append_assoc (take n l) _ _)

module _ (l l' row : List ℕ) (n : ℕ) (long : length row ≡ 5) (h : n + 5 ≤ length l) (e : l' ≡ take n l ++ (row ++ drop (n + 5) l)) where
  row_taken : take (n + 5) l' ≡ take n l ++ row
  row_taken = ap (λ (x : List ℕ). take (n + 5) x) (e ∙ sym (append_assoc (take n l) row _)) ∙
      take_at (take n l ++ row) _ (n + 5) (simp (length-append, length-take-le n l (omega arith), long))

  row_rest : drop (n + 5) l' ≡ drop (n + 5) l
  row_rest = ap (λ (x : List ℕ). drop (n + 5) x) (e ∙ sym (append_assoc (take n l) row _)) ∙
      drop_at (take n l ++ row) _ (n + 5) (simp (length-append, length-take-le n l (omega arith), long))

one_card : (ws : List ℕ) (room n : ℕ) (c : Card) → n < room → room * 5 ≤ length ws →
    put_card ws room n c ≡ take (n * 5) ws ++ (words_of_card c ++ drop (n * 5 + 5) ws)
unfolding put_card words_of_card
one_card ws room n c h k = rw (lt-leb room n h) (put5 ws (n * 5) c.kind c.item_at c.item_len c.name_at c.name_len (omega arith))

card_length : (ws : List ℕ) (room n : ℕ) (c : Card) → length (put_card ws room n c) ≡ length ws
unfolding put_card
card_length ws room n c = go (leb room n)
  where
    go : (t : Bool) → length (choose t ws (set (set (set (set (set ws (n * 5) c.kind) (n * 5 + 1) c.item_at) (n * 5 + 2) c.item_len) (n * 5 + 3)
        c.name_at) (n * 5 + 4) c.name_len)) ≡ length ws
    go true = refl
    go false = simp length-set

card_words_lem : (c : Card) → length (words_of_card c) ≡ 5
unfolding words_of_card
card_words_lem c = refl

pub put_all : (ws : List ℕ) (room n : ℕ) (cs : List Card) → n + length cs ≤ room → room * 5 ≤ length ws →
    put_cards ws room n cs ≡ take (n * 5) ws ++ (flat_map words_of_card cs ++ drop ((n + length cs) * 5) ws)
unfolding put_cards flat_map
put_all ws room n [] h k =
    let z : (n + 0) * 5 ≡ n * 5 = omega arith in
    sym (ap (λ (m : ℕ). take (n * 5) ws ++ drop m ws) z ∙ take-append-drop (n * 5) ws)
put_all ws room n (c ∷ cs) h k =
    let p = one_card ws room n c (omega arith) k in
    let i = put_all (put_card ws room n c) room (n + 1) cs (omega arith) (omega (arith, card_length ws room n c)) in
    let t = row_taken ws (put_card ws room n c) (words_of_card c) (n * 5) (card_words_lem c) (omega arith) p in
    let d = row_rest ws (put_card ws room n c) (words_of_card c) (n * 5) (card_words_lem c) (omega arith) p in
    let y : (n + 1) * 5 ≡ n * 5 + 5 = omega arith in
    let x : (n + 1 + length cs) * 5 ≡ n * 5 + 5 + length cs * 5 = omega arith in
    let z : n * 5 + 5 + length cs * 5 ≡ (n + suc (length cs)) * 5 = omega arith in
    let e : drop ((n + 1 + length cs) * 5) (put_card ws room n c) ≡ drop ((n + suc (length cs)) * 5) ws =
    ap (λ (m : ℕ). drop m (put_card ws room n c)) x ∙ sym (drop-drop (length cs * 5) (n * 5 + 5) (put_card ws room n c)) ∙
    ap (drop (length cs * 5)) d ∙ drop-drop (length cs * 5) (n * 5 + 5) ws ∙ ap (λ (m : ℕ). drop m ws) z in
    i ∙
    ap (λ (m : ℕ). take m (put_card ws room n c) ++ (flat_map words_of_card cs ++ drop ((n + 1 + length cs) * 5) (put_card ws room n c))) y ∙
    ap (λ (r : List ℕ). r ++ (flat_map words_of_card cs ++ drop ((n + 1 + length cs) * 5) (put_card ws room n c))) t ∙
    ap (λ (r : List ℕ). (take (n * 5) ws ++ words_of_card c) ++ (flat_map words_of_card cs ++ r)) e ∙
    append_assoc (take (n * 5) ws) (words_of_card c) (flat_map words_of_card cs ++ drop ((n + suc (length cs)) * 5) ws) ∙
    ap (λ (r : List ℕ). take (n * 5) ws ++ r) (sym (append_assoc (words_of_card c) (flat_map words_of_card cs) (drop ((n + suc (length cs)) * 5) ws)))

-- From the first card on: what an accepted call leaves.
pub put_from_first : (ws : List ℕ) (room : ℕ) (cs : List Card) → length cs ≤ room → room * 5 ≤ length ws →
    put_cards ws room 0 cs ≡ flat_map words_of_card cs ++ drop (length cs * 5) ws
put_from_first ws room cs h k =
    let z : 0 + length cs ≡ length cs = omega arith in
    put_all ws room 0 cs (omega arith) k ∙ ap (λ (m : ℕ). flat_map words_of_card cs ++ drop (m * 5) ws) z

-- ---- A heading's card, written after its parts' cards, is written as if before them.

set_swap : (l : List ℕ) (i j a b : ℕ) → (i ≡ j → ⊥) → set (set l i a) j b ≡ set (set l j b) i a
set_swap [] i j a b n = refl
set_swap (x ∷ l) zero zero a b n = absurd (n refl)
set_swap (x ∷ l) zero (suc j) a b n = refl
set_swap (x ∷ l) (suc i) zero a b n = refl
set_swap (x ∷ l) (suc i) (suc j) a b n = ap (λ (r : List ℕ). x ∷ r) (set_swap l i j a b (λ e. n (omega arith)))

-- Five words from n on.
abbrev five : List ℕ → ℕ → Card → List ℕ
five l n c = set (set (set (set (set l n c.kind) (n + 1) c.item_at) (n + 2) c.item_len) (n + 3) c.name_at) (n + 4) c.name_len

apart : (n j : ℕ) → (j < n) ⊎ (n + 5 ≤ j) → (k : ℕ) → k < 5 → j ≡ n + k → ⊥
apart n j (inl p) k i e = omega arith
apart n j (inr p) k i e = omega arith

five_set : (l : List ℕ) (n j a : ℕ) (c : Card) → (j < n) ⊎ (n + 5 ≤ j) → five (set l j a) n c ≡ set (five l n c) j a
five_set l n j a c h =
    let l1 = set l n c.kind in
    let l2 = set l1 (n + 1) c.item_at in
    let l3 = set l2 (n + 2) c.item_len in
    let l4 = set l3 (n + 3) c.name_at in
    ap (λ (r : List ℕ). set (set (set (set r (n + 1) c.item_at) (n + 2) c.item_len) (n + 3) c.name_at) (n + 4) c.name_len)
    (set_swap l j n a c.kind (λ e. apart n j h 0 (omega arith) (e ∙ omega arith))) ∙
    ap (λ (r : List ℕ). set (set (set r (n + 2) c.item_len) (n + 3) c.name_at) (n + 4) c.name_len)
    (set_swap l1 j (n + 1) a c.item_at (apart n j h 1 (omega arith))) ∙
    ap (λ (r : List ℕ). set (set r (n + 3) c.name_at) (n + 4) c.name_len) (set_swap l2 j (n + 2) a c.item_len (apart n j h 2 (omega arith))) ∙
    ap (λ (r : List ℕ). set r (n + 4) c.name_len) (set_swap l3 j (n + 3) a c.name_at (apart n j h 3 (omega arith))) ∙
    set_swap l4 j (n + 4) a c.name_len (apart n j h 4 (omega arith))

five_five : (l : List ℕ) (n m : ℕ) (c d : Card) → n + 5 ≤ m → five (five l m d) n c ≡ five (five l n c) m d
five_five l n m c d h =
    let l1 = set l m d.kind in
    let l2 = set l1 (m + 1) d.item_at in
    let l3 = set l2 (m + 2) d.item_len in
    let l4 = set l3 (m + 3) d.name_at in
    five_set l4 n (m + 4) d.name_len c (inr (omega arith)) ∙
    ap (λ (r : List ℕ). set r (m + 4) d.name_len) (five_set l3 n (m + 3) d.name_at c (inr (omega arith))) ∙
    ap (λ (r : List ℕ). set (set r (m + 3) d.name_at) (m + 4) d.name_len) (five_set l2 n (m + 2) d.item_len c (inr (omega arith))) ∙
    ap (λ (r : List ℕ). set (set (set r (m + 2) d.item_len) (m + 3) d.name_at) (m + 4) d.name_len)
    (five_set l1 n (m + 1) d.item_at c (inr (omega arith))) ∙
    ap (λ (r : List ℕ). set (set (set (set r (m + 1) d.item_at) (m + 2) d.item_len) (m + 3) d.name_at) (m + 4) d.name_len)
    (five_set l n m d.kind c (inr h))

card_card : (ws : List ℕ) (room n m : ℕ) (c d : Card) → n < m → put_card (put_card ws room m d) room n c ≡ put_card (put_card ws room n c) room m d
unfolding put_card
card_card ws room n m c d h = go (leb room m) (leb room n)
  where
    go : (t u : Bool) → choose u (choose t ws (five ws (m * 5) d)) (five (choose t ws (five ws (m * 5) d)) (n * 5) c) ≡
        choose t (choose u ws (five ws (n * 5) c)) (five (choose u ws (five ws (n * 5) c)) (m * 5) d)
    go true true = refl
    go true false = refl
    go false true = refl
    go false false = five_five ws (n * 5) (m * 5) c d (omega arith)

-- Code reads a heading with number n, then its parts from n + 1 on, and writes the heading's card last.
pub heading_last : (ws : List ℕ) (room n m : ℕ) (c : Card) (ks : List Card) → n < m →
    put_card (put_cards ws room m ks) room n c ≡ put_cards (put_card ws room n c) room m ks
unfolding put_cards
heading_last ws room n m c [] h = refl
heading_last ws room n m c (k ∷ ks) h =
    heading_last (put_card ws room m k) room n (m + 1) c ks (omega arith) ∙
    ap (λ (r : List ℕ). put_cards r room (m + 1) ks) (card_card ws room n m c k h)

-- Cards after cards.
pub put_append : (ws : List ℕ) (room n : ℕ) (ks ls : List Card) → put_cards ws room n (ks ++ ls) ≡ put_cards (put_cards ws room n ks) room (n + length ks) ls
unfolding put_cards
put_append ws room n [] ls = let z : n ≡ n + 0 = omega arith in ap (λ (m : ℕ). put_cards ws room m ls) z
put_append ws room n (k ∷ ks) ls =
    let z : n + 1 + length ks ≡ n + suc (length ks) = omega arith in
    put_append (put_card ws room n k) room (n + 1) ks ls ∙ ap (λ (m : ℕ). put_cards (put_cards (put_card ws room n k) room (n + 1) ks) room m ls) z
