-- One law for each answer of the tests of a card, and the turns of the searches over the cards before it.
use mathlib.Core.Path.{◌≡◌, refl, sym, ap, ◌∙◌}
use mathlib.Core.Bool.{Bool, true, false}
use mathlib.Core.List.{List}
use mathlib.Core.Option.{Option, none, some}
use Prim.Native.Nat.{ℕ, zero, suc, ◌+◌, ◌-◌, ◌*◌, ◌<◌, ◌≤◌}
use native.Mathlib.Omega.{arith}
use borrow.Author.Rules.{rules}
use borrow.Author.Tests.{eqb-true, eqb-false}
use lib.Dec.{eqb}
use lib.ListN.{length, drop}
use Rattle.std.specs.Bool.{MatchBool}
use Rattle.std.specs.List.{range_with_len, AllWithin, HoldsAt}
use Rattle.std.proofs.lemmas.List.FromFn.{length-range_with_len, get_or-range_with_len}
use Rattle.definition.specs.Lists.{any}
use Rattle.definition.specs.Cards.{Card, card_words, card_from, cards_from, is_part}
use Rattle.ast.specs.Cards.{cards_between}
use Rattle.ast.proofs.Walk.{between_all, between_next, between_end}
use Rattle.store_built_in.specs.Fails.{alike_cards, heading_fails, card_fails}

-- ---- A search over the cards from the number `from` to before the number `to`.

module _ (p : Card → Bool) (ws : List ℕ) (from to : ℕ) where
  module _ (b : Bool) (c : Card) (h : from < to) (e : c ≡ card_from (drop (card_words * from) ws)) (f : b ≡ p c) where
    any_hit : b ≡ true → any p (cards_between ws from to) ≡ true
    unfolding any
    any_hit t = rw (between_next ws from to c h e, ← f, t)

    any_next : b ≡ false → any p (cards_between ws from to) ≡ any p (cards_between ws (from + 1) to)
    unfolding any
    any_next t = rw (between_next ws from to c h e, ← f, t)

  any_end : to ≤ from → any p (cards_between ws from to) ≡ false
  unfolding any
  any_end h = rw (between_end ws from to h)

-- The card of a number.
abbrev pub numbered_card : List ℕ → ℕ → Card
numbered_card ws k = card_from (drop (card_words * k) ws)

-- A card that passes is not one that fails.
later : (p : Card → Bool) (ws : List ℕ) (from k : ℕ) → from ≤ k → p (numbered_card ws k) ≡ true → p (numbered_card ws from) ≡ false → from + 1 ≤ k
later p ws from k a h q = go (eqb k from) refl
  where
    go : (t : Bool) → eqb k from ≡ t → from + 1 ≤ k
    go true e =
        let s = eqb-true k from e in
        let g : p (numbered_card ws from) ≡ true = rw s at h in
        let clash : true ≡ false = sym g ∙ q in
        absurd (search rules)
    go false e = let n = eqb-false k from e in omega arith

module _ (p : Card → Bool) (ws : List ℕ) (to : ℕ) where
  none_passes : (n from : ℕ) → to - from ≡ n → ((k : ℕ) → from ≤ k → k < to → p (numbered_card ws k) ≡ false) → any p (cards_between ws from to) ≡ false
  none_passes zero from e h = any_end p ws from to (omega arith)
  none_passes (suc n) from e h =
      let first = h from (omega arith) (omega arith) in
      any_next p ws from to false (numbered_card ws from) (omega arith) refl (sym first) refl
      ∙ none_passes n (from + 1) (omega arith) (λ k a b. h k (omega arith) b)

  one_passes : (n from k : ℕ) → to - from ≡ n → from ≤ k → k < to → p (numbered_card ws k) ≡ true → any p (cards_between ws from to) ≡ true
  one_passes zero from k e a b h = absurd (omega arith)
  one_passes (suc n) from k e a b h = go (p (numbered_card ws from)) refl (λ l. one_passes n (from + 1) k (omega arith) l b h)
    where
      go : (t : Bool) → p (numbered_card ws from) ≡ t → (from + 1 ≤ k → any p (cards_between ws (from + 1) to) ≡ true) → any p (cards_between ws from to) ≡ true
      go true q rest = any_hit p ws from to true (numbered_card ws from) (omega arith) refl (sym q) refl
      go false q rest = any_next p ws from to false (numbered_card ws from) (omega arith) refl (sym q) refl ∙ rest (later p ws from k a h q)

-- What `any` over the numbers from `from` to before `to` tells.
pub any_told : (p : Card → Bool) (ws : List ℕ) (from to n : ℕ) (r : Bool) → to - from ≡ n →
    MatchBool r ((k : ℕ) × (k < length (range_with_len from n)) × HoldsAt (λ i. p (numbered_card ws i) ≡ true) (range_with_len from n) k)
    (AllWithin (λ i. p (numbered_card ws i) ≡ false) (range_with_len from n) 0 (length (range_with_len from n)))
    → r ≡ any p (cards_between ws from to)
any_told p ws from to n true e m =
    let l = length-range_with_len from n in
    let g = get_or-range_with_len from n m.0 0 (omega arith) in
    let h = m.2 0 in
    sym (one_passes p ws to n from (from + m.0) e (omega arith) (omega arith) (rw g at h))
any_told p ws from to n false e m =
    let l = length-range_with_len from n in
    sym
    (none_passes p ws to n from e
    (λ k a b.
    let i : from + (k - from) ≡ k = omega arith in
    let g = get_or-range_with_len from n (k - from) 0 (omega arith) in
    let h = m (k - from) 0 (omega arith) (omega arith) in
    rw (g, i) at h))

-- From the first card on.
pub any_all : (p : Card → Bool) (ws : List ℕ) (to : ℕ) → any p (cards_from to ws) ≡ any p (cards_between ws 0 to)
any_all p ws to = ap (any p) (between_all ws to)

-- ---- One card.

module _ (text : List ℕ) (before : List Card) (c : Card) where
  pub fails_heading : (seen : Option (List Card)) (b : Bool) → is_part c.kind ≡ false → b ≡ heading_fails text before c → b ≡ card_fails text before seen c
  unfolding card_fails
  fails_heading seen b e f = simp (e, f)

  pub fails_other : (seen : Option (List Card)) → is_part c.kind ≡ true → seen ≡ none → card_fails text before seen c ≡ false
  unfolding card_fails
  fails_other seen e f = simp (e, f)

  pub fails_part : (seen : Option (List Card)) (ps : List Card) (b : Bool) → is_part c.kind ≡ true → seen ≡ some ps →
      b ≡ any (alike_cards text c) ps → b ≡ card_fails text before seen c
  unfolding card_fails
  fails_part seen ps b e f g = simp (e, f, g)
