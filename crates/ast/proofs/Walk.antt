-- The card of a number, and the cards of a document one after the other.
use mathlib.Core.Path.{◌≡◌}
use mathlib.Core.List.{List, [], ◌∷◌}
use Prim.Native.Nat.{ℕ, min, suc, ◌+◌, ◌-◌, ◌*◌, ◌<◌, ◌≤◌}
use native.Mathlib.Nat.{sub-zero}
use native.Mathlib.Omega.{arith}
use lib.ListN.{length, get_or, take, drop, length-drop}
use lib.Seq.{drop-drop, get_or-take, take_all}
use Rattle.std.proofs.lemmas.List.{drop_min}
use Rattle.definition.specs.Lists.{chunks}
use Rattle.definition.specs.Cards.{Card, card_words, card_from, cards_from}
use Rattle.ast.specs.Cards.{kind_word, item_at_word, item_len_word, name_at_word, name_len_word, cards_between}

-- ---- The card of a number.

pub card_read : (ws : List ℕ) (n from : ℕ) → from ≡ min n (length ws) → (k a b c d : ℕ) → (let rest : List ℕ = take (length ws - from) (drop from ws) in
    k ≡ get_or rest kind_word 0 → a ≡ get_or rest item_at_word 0 → b ≡ get_or rest item_len_word 0
    → c ≡ get_or rest name_at_word 0 → d ≡ get_or rest name_len_word 0
    → record { kind = k; item_at = a; item_len = b; name_at = c; name_len = d } ≡ card_from (drop n ws))
unfolding card_from
card_read ws n from h k a b c d ek ea eb ec ed =
    let all : take (length ws - from) (drop from ws) ≡ drop from ws = take_all (length ws - from) (drop from ws) (simp length-drop (omega arith)) in
    let clipped : drop from ws ≡ drop n ws = rw h (drop_min n ws) in
    rw (ek, ea, eb, ec, ed, all, clipped)

-- A card is in the first words.
pub card_front : (n : ℕ) (ws : List ℕ) → card_words ≤ n → card_from (take n ws) ≡ card_from ws
unfolding card_from
card_front n ws h =
    rw (
      get_or-take n ws kind_word 0 (omega arith),
      get_or-take n ws item_at_word 0 (omega arith),
      get_or-take n ws item_len_word 0 (omega arith),
      get_or-take n ws name_at_word 0 (omega arith),
      get_or-take n ws name_len_word 0 (omega arith),
    )

-- ---- The cards one after the other.

pub between_all : (ws : List ℕ) (to : ℕ) → cards_from to ws ≡ cards_between ws 0 to
between_all ws to = simp sub-zero

pub between_next : (ws : List ℕ) (from to : ℕ) (c : Card) → from < to → c ≡ card_from (drop (card_words * from) ws)
    → cards_between ws from to ≡ c ∷ cards_between ws (from + 1) to
unfolding cards_from chunks
between_next ws from to c h e =
    let n : to - from ≡ suc (to - (from + 1)) = omega arith in
    let k : card_words * (from + 1) ≡ card_words * from + card_words = omega arith in
    rw (n, k, e, drop-drop)

pub between_end : (ws : List ℕ) (from to : ℕ) → to ≤ from → cards_between ws from to ≡ []
unfolding cards_from chunks
between_end ws from to h = let e : to - from ≡ 0 = omega arith in rw e
