-- What the refusals admit: documents without a faulty card, within the store's room, of which the first passes 6.
use mathlib.Core.Path.{◌≡◌}
use mathlib.Core.List.{List, [], ◌∷◌, ◌++◌}
use mathlib.Core.Bool.{Bool, true, false}
use mathlib.Core.Option.{none}
use Prim.Native.Nat.{ℕ, ◌+◌, ◌≤◌}
use native.Mathlib.Omega.{arith}
use lib.Dec.{leb, ltb}
use lib.ListN.{length, length-append}
use borrow.Author.Tests.{ltb-false, leb-false}
use Rattle.definition.specs.Lists.{All}
use Rattle.definition.specs.Answers.{answer}
use Rattle.definition.specs.Cards.{cards_of, card_fault, document_fault, broken_cards}
use Rattle.definition.specs.Headings.{Document}
use Rattle.definition.specs.Account.{Account}
use Rattle.definition.specs.Refusals.{text_held, cards_held, text_capacity, document_capacity, card_capacity, zero_fault, refuse, document, capacity_refusal}
use Rattle.definition.specs.Refusals.{opening_refusal, filing_refusal}
use Rattle.definition.specs.Store.{zero_sound}
use Rattle.definition.proofs.Tests.{chosen_some, or_else_none, refuse_none}
use Rattle.definition.proofs.All.{all_append}
use Rattle.definition.proofs.CleanCards.{Faultless}
use Rattle.definition.proofs.StoreLayout.{text_held_joined, cards_held_joined}

pub record Admitted (ds : List Document) : Type 0 where
  pub faultless : All Faultless ds
  pub zero : zero_sound ds ≡ true
  pub documents : length ds ≤ document_capacity
  pub text : text_held ds ≤ text_capacity
  pub cards : cards_held ds ≤ card_capacity

no_fault : (i : Bool) (text ws : List ℕ) → document_fault text ws ≡ none → Faultless (document i text ws)
unfolding document_fault document
no_fault i text ws e = (chosen_some (broken_cards ws) (card_fault text 0 (length text) (cards_of ws)) (answer 1 0) e).1

capacity : (ds : List Document) (d : Document) → capacity_refusal ds d ≡ none →
    (text_held ds + length d.text ≤ text_capacity) × (cards_held ds + length d.cards ≤ card_capacity)
unfolding capacity_refusal
capacity ds d e =
    let long = ltb text_capacity (text_held ds + length d.text) in
    let many = ltb card_capacity (cards_held ds + length d.cards) in
    let q = or_else_none (refuse 24 long) (refuse 25 many) e in
    (ltb-false _ _ (refuse_none 24 long q.0), ltb-false _ _ (refuse_none 25 many q.1))

pub opening_admits : (text ws : List ℕ) → opening_refusal text ws ≡ none → Admitted (document false text ws ∷ [])
unfolding opening_refusal zero_sound
opening_admits text ws e =
    let d = document false text ws in
    let q = or_else_none (document_fault text ws) _ e in
    let r = or_else_none (zero_fault d) _ q.1 in
    let m = capacity [] d r.1 in
    record {
      faultless = (no_fault false text ws q.0, tt);
      zero = rw r.0;
      documents = omega arith;
      text = omega (arith, m.0, text_held_joined [] d);
      cards = omega (arith, m.1, cards_held_joined [] d);
    }

zero_joined : (ds es : List Document) → zero_sound ds ≡ true → zero_sound (ds ++ es) ≡ true
unfolding zero_sound
zero_joined [] es e = absurd cc
zero_joined (d ∷ ds) es e = e

pub filing_admits : (a : Account) (text ws : List ℕ) → Admitted a.documents → filing_refusal a text ws ≡ none →
    (1 + length a.documents ≤ document_capacity) × Admitted (a.documents ++ (document a.ignore text ws ∷ []))
unfolding filing_refusal document
filing_admits a text ws s e =
    let ds = a.documents in
    let d = document a.ignore text ws in
    let q = or_else_none (document_fault text ws) _ e in
    let r = or_else_none (refuse 23 (leb document_capacity (length ds))) _ q.1 in
    let m = capacity ds (document false text ws) r.1 in
    let n = leb-false document_capacity (length ds) (refuse_none 23 _ r.0) in (
      omega arith,
      record {
        faultless = all_append Faultless ds (d ∷ []) s.faultless (no_fault a.ignore text ws q.0, tt);
        zero = zero_joined ds (d ∷ []) s.zero;
        documents = omega (arith, length-append ds (d ∷ []));
        text = omega (arith, m.0, text_held_joined ds d);
        cards = omega (arith, m.1, cards_held_joined ds d);
      },
    )
