-- Places of cards, given from the last row to the first.
use mathlib.Core.Path.{◌≡◌, refl, sym, ◌∙◌, ap, subst}
use mathlib.Core.List.{List}
use mathlib.Core.Bool.{Bool, true, false}
use mathlib.Core.Logic.{◌⊎◌, inl, inr, ⊎_elim}
use Prim.Native.Nat.{ℕ, zero, suc, ◌+◌, ◌≤◌, ◌<◌}
use native.Mathlib.Omega.{arith}
use lib.Dec.{eqb, ltb}
use lib.ListN.{length, get_or, set, drop, replicate, get_or-eq_default}
use lib.Seq.{get_or-set_same, get_or-set_other}
use borrow.Author.Tests.{eqb-true, eqb-false, ltb-true, ltb-false}
use Rattle.from_ast_collisions.specs.Earlier.{is_row_of, rows_under}
use Rattle.from_ast_collisions.specs.Placing.{SameEnd, PlacedFrom, Placed}
use Rattle.from_ast_collisions.proofs.Turns.{row_no_what, row_no_card, row_miss, under_from}

-- No card has a place yet.
pub no_place : (n card : ℕ) → let zero_word : ℕ = 0 in get_or (replicate n zero_word) card 0 ≡ 0
no_place zero card = refl
no_place (suc n) zero = refl
no_place (suc n) (suc card) = no_place n card

module _ (rows places : List ℕ) (i : ℕ) (h : i + 2 < length rows) (placed : PlacedFrom rows places (i + 3)) where
  -- A row of another is passed over.
  passed_over : (card : ℕ) → ((k : ℕ) → k < 20 → is_row_of k card (get_or rows i 0) (get_or rows (i + 1) 0) ≡ false) →
      (get_or places card 0 ≡ 0) ⊎ SameEnd rows i (get_or places card 0) card
  passed_over card other =
      ⊎_elim inl (λ w. inr (record { inside = w.inside; same = λ k l. omega (arith, row_miss k card rows i h (other k l), w.same k l) })) (placed card)

  -- The row of a part is no heading's.
  pub placed_part : 20 ≤ get_or rows i 0 → PlacedFrom rows places i
  placed_part l card = passed_over card (λ k b. row_no_what k card _ _ (λ e. omega arith))

  -- A card past the places has none.
  pub placed_past : length places ≤ get_or rows (i + 1) 0 → PlacedFrom rows places i
  placed_past l card = go (ltb card (length places)) refl
    where
      go : (b : Bool) → ltb card (length places) ≡ b → (get_or places card 0 ≡ 0) ⊎ SameEnd rows i (get_or places card 0) card
      go true e = let b = ltb-true card (length places) e in passed_over card (λ k m. row_no_card k card _ _ (λ q. omega arith))
      go false e = inl (get_or-eq_default places 0 (ltb-false card (length places) e))

  pub placed_here : get_or rows (i + 1) 0 < length places → PlacedFrom rows (set places (get_or rows (i + 1) 0) i) i
  placed_here l card = go (eqb card (get_or rows (i + 1) 0)) refl
    where
      goal : ℕ → Type 0
      goal p = (p ≡ 0) ⊎ SameEnd rows i p card

      go : (b : Bool) → eqb card (get_or rows (i + 1) 0) ≡ b → goal (get_or (set places (get_or rows (i + 1) 0) i) card 0)
      go true e =
          let q : get_or (set places (get_or rows (i + 1) 0) i) card 0 ≡ i =
          ap (λ j. get_or (set places (get_or rows (i + 1) 0) i) j 0) (eqb-true card (get_or rows (i + 1) 0) e)
          ∙ get_or-set_same places (get_or rows (i + 1) 0) i 0 l in
          subst goal (sym q) (inr (record { inside = omega arith; same = λ k b. refl }))
      go false e =
          let n = eqb-false card (get_or rows (i + 1) 0) e in
          subst goal (sym (get_or-set_other places (get_or rows (i + 1) 0) card i 0 n)) (passed_over card (λ k b. row_no_card k card _ _ (λ e. n (sym e))))

pub placed_all : (rows places : List ℕ) → PlacedFrom rows places 0 → Placed rows places
placed_all rows places placed card = ⊎_elim (λ e. rw e (record { inside = omega arith; same = λ k l. refl })) (λ w. w) (placed card)

-- The search for a heading's row begins at its card's place.
pub search_from : (rows places : List ℕ) (what card from : ℕ) → Placed rows places → what < 20 → from ≡ get_or places card 0 →
    rows_under what card (drop from rows) ≡ rows_under what card rows
search_from rows places what card from placed l e =
    under_from what card rows from (rw e (omega (arith, (placed card).same what l)))
