-- The turns of the searches over cards.
use mathlib.Core.Path.{◌≡◌, refl, sym, ap, ◌∙◌}
use mathlib.Core.Bool.{Bool, true, false}
use mathlib.Core.List.{List, [], ◌∷◌, ◌++◌}
use mathlib.Core.Option.{Option, none, some}
use Rattle.std.specs.Prelude.{Option as Lent, Some, None}
use Prim.Native.Nat.{ℕ, zero, suc, ◌+◌, ◌-◌, ◌*◌, ◌/◌, ◌<◌, ◌≤◌}
use native.Mathlib.Nat.{sub-zero}
use native.Mathlib.Numerals.{add-one}
use native.Mathlib.Omega.{arith}
use lib.ListN.{length, drop}
use lib.Seq.{drop-drop}
use Rattle.definition.specs.declared.Answer.{Answer}
use Rattle.definition.specs.Lists.{chunks}
use Rattle.definition.specs.Cards.{Card, card_words, card_from, cards_from, cards_of, is_part, is_type}
use Rattle.definition.specs.Refusals.{is_barred, barred_from}
use Rattle.ast.specs.Cards.{cards_between}
use Rattle.ast.proofs.Walk.{between_all, between_next, between_end}
use Rattle.store_built_in.specs.Fails.{card_fails, seen_of}
use Rattle.std.specs.Option.{MatchOption}
use Rattle.store_built_in.proofs.Fails.{numbered_card}
use Rattle.store_built_in.specs.Alone.{found_at, seen_after, fails_from, six_at, under_after}

-- ---- The first barred kind.

module _ (ws : List ℕ) where
  -- The first heading of a barred kind from the card i on.
  unfoldable pub barred_at : ℕ → Option Answer
  barred_at i = barred_from i (cards_between ws i (length ws / card_words))

  barred_all : barred_from 0 (cards_of ws) ≡ barred_at 0
  unfolding barred_at cards_of
  barred_all = rw (between_all ws (length ws / card_words))

  module _ (i : ℕ) (b : Bool) (c : Card) (h : i < length ws / card_words) (e : c ≡ card_from (drop (card_words * i) ws)) (f : b ≡ is_barred c.kind) where
    barred_hit : b ≡ true → barred_at i ≡ six_at (some i)
    unfolding barred_at barred_from six_at
    barred_hit t = rw (between_next ws i (length ws / card_words) c h e, ← f, t)

    barred_next : b ≡ false → barred_at i ≡ barred_at (i + 1)
    unfolding barred_at barred_from
    barred_next t = rw (between_next ws i (length ws / card_words) c h e, ← f, t)

  barred_end : (i : ℕ) → length ws / card_words ≤ i → barred_at i ≡ six_at none
  unfolding barred_at barred_from six_at
  barred_end i h = rw (between_end ws i (length ws / card_words) h)

-- What `find` over the cards' numbers tells.
module _ (ws : List ℕ) where
  barred_passed : (i : ℕ) → i ≤ length ws / card_words → ((k : ℕ) → k < i → is_barred (numbered_card ws k).kind ≡ false) → barred_at ws 0 ≡ barred_at ws i
  barred_passed zero l h = refl
  barred_passed (suc i) l h =
      let more : i + 1 ≡ suc i = omega arith in
      barred_passed i (omega arith) (λ k b. h k (omega arith))
      ∙ barred_next ws i false (numbered_card ws i) (omega arith) refl (sym (h i (omega arith))) refl
      ∙ ap (barred_at ws) more

  pub barred_told : (r : Lent ℕ) →
      MatchOption r ((k : ℕ) → 0 ≤ k → k < length ws / card_words → is_barred (numbered_card ws k).kind ≡ false)
      (λ i. (0 ≤ i) × (i < length ws / card_words) × (is_barred (numbered_card ws i).kind ≡ true)
      × ((k : ℕ) → 0 ≤ k → k < i → is_barred (numbered_card ws k).kind ≡ false))
      → six_at (found_at r) ≡ barred_from 0 (cards_of ws)
  barred_told (Some i) m =
      sym
      (barred_all ws ∙ barred_passed i (omega (arith, m.1)) (λ k b. m.3 k (omega arith) b)
      ∙ barred_hit ws i true (numbered_card ws i) m.1 refl (sym m.2) refl)
  barred_told None m =
      sym
      (barred_all ws ∙ barred_passed (length ws / card_words) (omega arith) (λ k b. m k (omega arith) b)
      ∙ barred_end ws (length ws / card_words) (omega arith))

-- ---- The first error.

-- One card more.
cards_last : (n : ℕ) (ws : List ℕ) → cards_from (n + 1) ws ≡ cards_from n ws ++ (card_from (drop (card_words * n) ws) ∷ [])
unfolding cards_from chunks
cards_last n ws = rw add-one (go n ws)
  where
    go : (n : ℕ) (ws : List ℕ) → cards_from (suc n) ws ≡ cards_from n ws ++ (card_from (drop (card_words * n) ws) ∷ [])
    go zero ws = refl
    go (suc n) ws =
        let k : card_words + card_words * n ≡ card_words * suc n = omega arith in
        ap (λ (l : List Card). card_from ws ∷ l) (go n (drop card_words ws) ∙ rw (drop-drop, k))

-- A type's first part has at most the number i.
abbrev pub Within : Lent ℕ → ℕ → Type 0
Within (Some from) i = from ≤ i
Within None i = Unit {0}

module _ (text ws : List ℕ) where
  -- The first error from the card i on.
  unfoldable pub errors_from : ℕ → Lent ℕ → Option ℕ
  errors_from i u = fails_from text (cards_from i ws) (seen_of ws u i) i (cards_between ws i (length ws / card_words))

  pub errors_all : fails_from text [] none 0 (cards_of ws) ≡ errors_from 0 None
  unfolding errors_from cards_of cards_from chunks
  errors_all = simp sub-zero

  pub errors_end : (u : Lent ℕ) (i : ℕ) → length ws / card_words ≤ i → errors_from i u ≡ none
  unfolding errors_from fails_from
  errors_end u i h = rw (between_end ws i (length ws / card_words) h)

  module _ (c : Card) (i : ℕ) (here : c ≡ card_from (drop (card_words * i) ws)) where
    before_next : cards_from (i + 1) ws ≡ cards_from i ws ++ (c ∷ [])
    before_next = cards_last i ws ∙ rw (← here)

    seen_next : (from : ℕ) → from ≤ i → cards_between ws from i ++ (c ∷ []) ≡ cards_between ws from (i + 1)
    seen_next from h =
        let e : i + 1 - from ≡ i - from + 1 = omega arith in
        let g : card_words * from + card_words * (i - from) ≡ card_words * i = omega arith in
        rw (e, cards_last (i - from) (drop (card_words * from) ws), drop-drop, g, here)

    seen_after_lem : (u : Lent ℕ) → Within u i → seen_after (seen_of ws u i) c ≡ seen_of ws (under_after u c.kind (i + 1)) (i + 1)
    unfolding seen_after under_after cards_from chunks
    seen_after_lem u h = go u h (is_part c.kind) refl (is_type c.kind) refl
      where
        go : (v : Lent ℕ) → Within v i → (a : Bool) → is_part c.kind ≡ a → (b : Bool) → is_type c.kind ≡ b
            → seen_after (seen_of ws v i) c ≡ seen_of ws (under_after v c.kind (i + 1)) (i + 1)
        go (Some from) k true ea b eb = rw (ea, seen_next from k)
        go None k true ea b eb = rw ea
        go v k false ea true eb = let z : i + 1 - (i + 1) ≡ 0 = omega arith in rw (ea, eb, z)
        go v k false ea false eb = rw (ea, eb)

    module _ (u : Lent ℕ) (b : Bool) (inside : i < length ws / card_words) (told : b ≡ card_fails text (cards_from i ws) (seen_of ws u i) c) where
      pub errors_hit : b ≡ true → errors_from i u ≡ some i
      unfolding errors_from fails_from
      errors_hit t = rw (between_next ws i (length ws / card_words) c inside here, ← told, t)

      pub errors_next : Within u i → b ≡ false → errors_from i u ≡ errors_from (i + 1) (under_after u c.kind (i + 1))
      unfolding errors_from fails_from
      errors_next h t = rw (between_next ws i (length ws / card_words) c inside here, ← told, t, ← before_next, seen_after_lem u h)

pub within_next : (u : Lent ℕ) (k i : ℕ) → Within u i → Within (under_after u k (i + 1)) (i + 1)
unfolding under_after
within_next u k i h = go u h (is_part k) refl (is_type k) refl
  where
    go : (v : Lent ℕ) → Within v i → (a : Bool) → is_part k ≡ a → (b : Bool) → is_type k ≡ b → Within (under_after v k (i + 1)) (i + 1)
    go (Some from) h true ea b eb = rw ea (omega arith)
    go None h true ea b eb = rw ea tt
    go v h false ea true eb = rw (ea, eb) (omega arith)
    go v h false ea false eb = rw (ea, eb) tt
