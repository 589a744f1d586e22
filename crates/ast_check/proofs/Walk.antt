-- The faults of a card asked one after the other, and the cards of a document one after the other.
use mathlib.Core.Path.{◌≡◌, refl}
use mathlib.Core.Bool.{Bool, true, false}
use mathlib.Core.List.{List, ◌∷◌}
use mathlib.Core.Option.{Option, none, some}
use Prim.Native.Nat.{ℕ, ◌+◌, ◌*◌, ◌/◌, ◌%◌, ◌<◌, ◌≤◌}
use borrow.Author.Tests.{eq-eqb, ne_eqb}
use lib.ListN.{length, drop}
use Rattle.std.specs.Prelude.{None}
use Rattle.definition.specs.declared.Answer.{Answer}
use Rattle.definition.specs.Answers.{answer}
use Rattle.definition.specs.Cards.{card_words, card_from, cards_of, is_part}
use Rattle.definition.specs.Cards.{fault_among, faults, place_after, fault_from, card_fault, broken_cards, document_fault}
use Rattle.ast.specs.declared.Card.{Card}
use Rattle.ast.specs.Cards.{card_of, cards_between}
use Rattle.ast.proofs.Walk.{between_all, between_next, between_end}
use Rattle.ast_check.specs.declared.faults.Neighbours.{Neighbours}
use Rattle.ast_check.specs.Neighbours.{neighbour_of}
use Rattle.ast_check.specs.Checks.{place_of, place_with, judged_of, next_of}

pub judged_place : (bytes : List ℕ) (base size : ℕ) (n : Neighbours) (c : Card)
    → place_of bytes base size (judged_of n c) ≡ place_with bytes base size n c
unfolding judged_of place_after
judged_place bytes base size n c = go (is_part c.kind) refl
  where
    go : (b : Bool) → is_part c.kind ≡ b → place_of bytes base size (judged_of n c) ≡ place_with bytes base size n c
    go true e = rw e
    go false e = rw e

-- ---- The cards one after the other.

module _ (bytes : List ℕ) (base size : ℕ) (ws : List ℕ) where
  -- The first faulty card from the card i on.
  unfoldable pub faults_from : ℕ → Neighbours → Option Answer
  faults_from i n = fault_from bytes base size i (neighbour_of n.heading) (neighbour_of n.sibling) (cards_between ws i (length ws / card_words))

  pub faults_all : card_fault bytes base size (cards_of ws) ≡ faults_from 0 (record { heading = None; sibling = None })
  unfolding faults_from card_fault cards_of
  faults_all = rw (between_all ws (length ws / card_words))

  pub faults_end : (i : ℕ) (n : Neighbours) → length ws / card_words ≤ i → faults_from i n ≡ none
  unfolding faults_from fault_from
  faults_end i n h = rw (between_end ws i (length ws / card_words) h)

  module _ (i : ℕ) (n : Neighbours) (c : Card) (number : ℕ) (inside : i < length ws / card_words) (here : card_of c ≡ card_from (drop (card_words * i) ws))
      (told : number ≡ fault_among (place_with bytes base size n c) (card_of c) faults) where
    next_card_lem : cards_between ws i (length ws / card_words) ≡ card_of c ∷ cards_between ws (i + 1) (length ws / card_words)
    next_card_lem = between_next ws i (length ws / card_words) (card_of c) inside here

    pub faults_hit : (number ≡ 0 → ⊥) → faults_from i n ≡ some (answer number i)
    unfolding faults_from fault_from
    faults_hit e = rw (next_card_lem, ← told, ne_eqb number 0 e)

    pub faults_next : number ≡ 0 → faults_from i n ≡ faults_from (i + 1) (next_of n c)
    unfolding faults_from fault_from next_of
    faults_next e = go (is_part c.kind) refl
      where
        go : (b : Bool) → is_part c.kind ≡ b → faults_from i n ≡ faults_from (i + 1) (next_of n c)
        go true f = rw (next_card_lem, ← told, e, f)
        go false f = rw (next_card_lem, ← told, e, f)

-- ---- A lent document.

pub broken : (text ws : List ℕ) → (length ws % card_words ≡ 0 → ⊥) → document_fault text ws ≡ some (answer 1 0)
unfolding document_fault broken_cards
broken text ws h = rw (ne_eqb (length ws % card_words) 0 h)

pub unbroken : (text ws : List ℕ) → length ws % card_words ≡ 0 → document_fault text ws ≡ card_fault text 0 (length text) (cards_of ws)
unfolding document_fault broken_cards
unbroken text ws h = rw (eq-eqb (length ws % card_words) 0 h)
