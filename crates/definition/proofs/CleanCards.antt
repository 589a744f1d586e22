-- A card without fault: what follows for it from each fault that it lacks, card by card through a document.
use mathlib.Core.Path.{◌≡◌, refl}
use mathlib.Core.List.{List, [], ◌∷◌}
use mathlib.Core.Bool.{Bool, true, false}
use mathlib.Core.Option.{Option, none, some}
use Prim.Native.Nat.{ℕ, zero, suc, ◌+◌, ◌≤◌}
use lib.Dec.{eqb, ltb}
use lib.ListN.{length, get_elem?}
use native.Mathlib.Omega.{arith}
use borrow.Author.Tests.{ltb-false, eqb-true}
use Rattle.definition.specs.Lists.{choose}
use Rattle.definition.specs.Answers.{answer}
use Rattle.definition.specs.Cards.{Card, Place, is_part, is_unnamed, item_end, name_end, unknown_kind, empty_item, item_outside_text, item_before_sibling_end}
use Rattle.definition.specs.Cards.{item_outside_heading, name_amiss, name_outside_item, name_no_name, name_not_item, misplaced, fault, faults, fault_among}
use Rattle.definition.specs.Cards.{place_after, fault_from, card_fault}
use Rattle.definition.specs.Headings.{Document}
use Rattle.definition.proofs.Tests.{and_true, or_false, chosen_none, chosen_zero}

-- A document whose cards have none of the faults 2 to 5, 27 and 28.
abbrev pub Faultless : Document → Type 0
Faultless d = card_fault d.text 0 (length d.text) d.cards ≡ none

-- ---- One card.

pub record Clean (p : Place) (c : Card) : Type 0 where
  pub known : unknown_kind p c ≡ false
  pub filled : empty_item p c ≡ false
  pub in_text : item_outside_text p c ≡ false
  pub after_sibling : item_before_sibling_end p c ≡ false
  pub in_heading : item_outside_heading p c ≡ false
  pub name_in_item : name_outside_item p c ≡ false
  pub name_is_item : name_not_item p c ≡ false
  pub name_fits : name_amiss p c ≡ false
  pub name_is_name : name_no_name p c ≡ false
  pub in_place : misplaced p c ≡ false

clean_of : (p : Place) (c : Card) → fault_among p c faults ≡ 0 → Clean p c
unfolding fault_among faults fault
clean_of p c e0 =
    let q1 = chosen_zero (unknown_kind p c) 2 _ refl e0 in
    let q2 = chosen_zero (empty_item p c) 3 _ refl q1.1 in
    let q3 = chosen_zero (item_outside_text p c) 3 _ refl q2.1 in
    let q4 = chosen_zero (item_before_sibling_end p c) 3 _ refl q3.1 in
    let q5 = chosen_zero (item_outside_heading p c) 3 _ refl q4.1 in
    let q6 = chosen_zero (name_outside_item p c) 4 _ refl q5.1 in
    let q7 = chosen_zero (name_not_item p c) 4 _ refl q6.1 in
    let q8 = chosen_zero (name_amiss p c) 27 _ refl q7.1 in
    let q9 = chosen_zero (name_no_name p c) 28 _ refl q8.1 in
    let q10 = chosen_zero (misplaced p c) 5 _ refl q9.1 in
    record {
      known = q1.0;
      filled = q2.0;
      in_text = q3.0;
      after_sibling = q4.0;
      in_heading = q5.0;
      name_in_item = q6.0;
      name_is_item = q7.0;
      name_fits = q8.0;
      name_is_name = q9.0;
      in_place = q10.0;
    }

abbrev pub placed : List ℕ → ℕ → ℕ → Option Card → Option Card → Place
placed bytes base size h s = record { bytes = bytes; base = base; size = size; heading = h; sibling = s }

-- Its item lies in its document, and its name in its item.
pub item_within : (bytes : List ℕ) (base size : ℕ) (h s : Option Card) (c : Card) → item_outside_text (placed bytes base size h s) c ≡ false →
    (base ≤ c.item_at) × (c.item_at + c.item_len ≤ base + size)
unfolding item_outside_text item_end
item_within bytes base size h s c e =
    let q = or_false (ltb c.item_at base) (ltb (base + size) (c.item_at + c.item_len)) e in
    (ltb-false _ _ q.0, ltb-false _ _ q.1)

pub name_within_item : (p : Place) (c : Card) → is_unnamed c ≡ false → name_outside_item p c ≡ false →
    (c.item_at ≤ c.name_at) × (c.name_at + c.name_len ≤ c.item_at + c.item_len)
unfolding name_outside_item item_end name_end
name_within_item p c u e =
    let q = or_false (ltb c.name_at c.item_at) (ltb (c.item_at + c.item_len) (c.name_at + c.name_len)) (rw u at e) in
    (ltb-false _ _ q.0, ltb-false _ _ q.1)

pub unnamed_parts : (c : Card) → is_unnamed c ≡ true → (c.name_len ≡ 0) × (c.name_at ≡ 0)
unfolding is_unnamed
unnamed_parts c e =
    let q = and_true (eqb c.name_len 0) (eqb c.name_at 0) e in
    (eqb-true _ _ q.0, eqb-true _ _ q.1)

pub name_within : (bytes : List ℕ) (size : ℕ) (h s : Option Card) (c : Card) → item_outside_text (placed bytes 0 size h s) c ≡ false →
    name_outside_item (placed bytes 0 size h s) c ≡ false → c.name_at + c.name_len ≤ size
name_within bytes size h s c t i = go (is_unnamed c) refl
  where
    go : (b : Bool) → is_unnamed c ≡ b → c.name_at + c.name_len ≤ size
    go true u = let q = unnamed_parts c u in omega arith
    go false u =
        let q = name_within_item (placed bytes 0 size h s) c u i in
        let r = item_within bytes 0 size h s c t in
        omega arith

-- ---- A list of cards.

module _ (bytes : List ℕ) (base size i : ℕ) (h s : Option Card) (c : Card) (cs : List Card) where
  pub place_part : is_part c.kind ≡ true → place_after bytes base size h s c ≡ placed bytes base size h s
  unfolding place_after
  place_part e = rw e

  pub place_heading : is_part c.kind ≡ false → place_after bytes base size h s c ≡ placed bytes base size none h
  unfolding place_after
  place_heading e = rw e

  pub fault_step : fault_from bytes base size i h s (c ∷ cs) ≡
      choose (eqb (fault_among (place_after bytes base size h s c) c faults) 0)
      (choose (is_part c.kind) (fault_from bytes base size (i + 1) h (some c) cs) (fault_from bytes base size (i + 1) (some c) none cs))
      (some (answer (fault_among (place_after bytes base size h s c) c faults) i))
  unfolding fault_from
  fault_step = refl

  pub clean_part : is_part c.kind ≡ true → fault_from bytes base size i h s (c ∷ cs) ≡ none →
      Clean (placed bytes base size h s) c × (fault_from bytes base size (i + 1) h (some c) cs ≡ none)
  clean_part e f =
      let n = fault_among (placed bytes base size h s) c faults in
      let q = chosen_none (eqb n 0) (fault_from bytes base size (i + 1) h (some c) cs) (answer n i) (rw (fault_step, place_part e, e) at f) in
      (clean_of (placed bytes base size h s) c (eqb-true _ _ q.0), q.1)

  pub clean_heading : is_part c.kind ≡ false → fault_from bytes base size i h s (c ∷ cs) ≡ none →
      Clean (placed bytes base size none h) c × (fault_from bytes base size (i + 1) (some c) none cs ≡ none)
  clean_heading e f =
      let n = fault_among (placed bytes base size none h) c faults in
      let q = chosen_none (eqb n 0) (fault_from bytes base size (i + 1) (some c) none cs) (answer n i) (rw (fault_step, place_heading e, e) at f) in
      (clean_of (placed bytes base size none h) c (eqb-true _ _ q.0), q.1)

-- Each card's name lies in its document's text.
names_within : (own : List ℕ) (size i : ℕ) (h s : Option Card) (cs : List Card) → fault_from own 0 size i h s cs ≡ none →
    (n : ℕ) (c : Card) → get_elem? cs n ≡ some c → c.name_at + c.name_len ≤ size
names_within own size i h s [] e n c g = absurd cc
names_within own size i h s (c ∷ cs) e n d g = go n g (is_part c.kind) refl (names_within own size (i + 1) h (some c) cs)
    (names_within own size (i + 1) (some c) none cs)
  where
    go : (n : ℕ) → get_elem? (c ∷ cs) n ≡ some d → (b : Bool) → is_part c.kind ≡ b →
        (fault_from own 0 size (i + 1) h (some c) cs ≡ none → (n : ℕ) (d : Card) → get_elem? cs n ≡ some d → d.name_at + d.name_len ≤ size) →
        (fault_from own 0 size (i + 1) (some c) none cs ≡ none → (n : ℕ) (d : Card) → get_elem? cs n ≡ some d → d.name_at + d.name_len ≤ size) →
        d.name_at + d.name_len ≤ size
    go zero g true p under new =
        let q = (clean_part own 0 size i h s c cs p e).0 in
        let same : c ≡ d = cc in
        rw (← same) (name_within own size h s c q.in_text q.name_in_item)
    go zero g false p under new =
        let q = (clean_heading own 0 size i h s c cs p e).0 in
        let same : c ≡ d = cc in
        rw (← same) (name_within own size none h c q.in_text q.name_in_item)
    go (suc n) g true p under new = under (clean_part own 0 size i h s c cs p e).1 n d g
    go (suc n) g false p under new = new (clean_heading own 0 size i h s c cs p e).1 n d g

pub name_in_text : (d : Document) (n : ℕ) (c : Card) → Faultless d → get_elem? d.cards n ≡ some c → c.name_at + c.name_len ≤ length d.text
unfolding card_fault
name_in_text d n c f e = names_within d.text (length d.text) 0 none none d.cards f n c e
