-- What is known of cards in which no fault is found.
use mathlib.Core.Path.{◌≡◌, refl}
use mathlib.Core.List.{List, [], ◌∷◌}
use mathlib.Core.Bool.{Bool, true, false, ◌||◌, not}
use mathlib.Core.Option.{Option, none, some}
use Prim.Native.Nat.{ℕ, ◌+◌, ◌≤◌, ◌<◌}
use native.Mathlib.Omega.{arith}
use lib.Dec.{eqb, ltb}
use lib.ListN.{length}
use borrow.Author.Tests.{ltb-true, ltb-false, not-false}
use Rattle.definition.specs.Lists.{found, All}
use Rattle.definition.specs.Names.{is_name, bytes_at}
use Rattle.definition.specs.Cards.{Card, Place, is_heading, is_part, is_unnamed, definition_of, part_order, place_in, unknown_kind, name_amiss}
use Rattle.definition.specs.Cards.{name_no_name, misplaced_under, misplaced, fault_from}
use Rattle.definition.proofs.CleanCards.{Clean, placed, item_within, name_within_item, clean_part, clean_heading}
use Rattle.store_reader.proofs.Lists.{or_false, and_left_false}

-- ---- What each card keeps, whatever stands before it.

-- A kind is known; a name that is present is a Name and lies in the document's part of the text; it is present in all kinds but 1, 4 and 11.
pub record Stands (text : List ℕ) (base size : ℕ) (c : Card) : Type 0 where
  pub known : (is_heading c.kind || is_part c.kind) ≡ true
  pub named : (eqb c.kind 1 || eqb c.kind 4 || eqb c.kind 11) ≡ false → is_unnamed c ≡ false
  pub low : is_unnamed c ≡ false → base ≤ c.name_at
  pub high : is_unnamed c ≡ false → c.name_at + c.name_len ≤ base + size
  pub name : is_unnamed c ≡ false → is_name (bytes_at text c.name_at c.name_len) ≡ true

known_of : (p : Place) (c : Card) → unknown_kind p c ≡ false → (is_heading c.kind || is_part c.kind) ≡ true
unfolding unknown_kind
known_of p c e = not-false _ e

named_of : (p : Place) (c : Card) → name_amiss p c ≡ false → (eqb c.kind 1 || eqb c.kind 4 || eqb c.kind 11) ≡ false → is_unnamed c ≡ false
unfolding name_amiss
named_of p c e k =
    let q = or_false (eqb c.kind 1 || eqb c.kind 4) (eqb c.kind 11) k in
    let r = or_false (eqb c.kind 1) (eqb c.kind 4) q.0 in
    rw (r.1, q.1, r.0) at e

name_is_name_lem : (bytes : List ℕ) (base size : ℕ) (h s : Option Card) (c : Card) → is_unnamed c ≡ false → name_no_name (placed bytes base size h s) c ≡ false →
    is_name (bytes_at bytes c.name_at c.name_len) ≡ true
unfolding name_no_name
name_is_name_lem bytes base size h s c u e = not-false _ (rw u at e)

stands_of : (bytes : List ℕ) (base size : ℕ) (h s : Option Card) (c : Card) → Clean (placed bytes base size h s) c → Stands bytes base size c
stands_of bytes base size h s c k = record {
  known = known_of (placed bytes base size h s) c k.known;
  named = named_of (placed bytes base size h s) c k.name_fits;
  low = λ u.
      let q = name_within_item (placed bytes base size h s) c u k.name_in_item in
      let r = item_within bytes base size h s c k.in_text in
      omega arith;
  high = λ u.
      let q = name_within_item (placed bytes base size h s) c u k.name_in_item in
      let r = item_within bytes base size h s c k.in_text in
      omega arith;
  name = λ u. name_is_name_lem bytes base size h s c u k.name_is_name;
}

pub fine_stands : (bytes : List ℕ) (base size i : ℕ) (h s : Option Card) (cs : List Card) → fault_from bytes base size i h s cs ≡ none →
    All (Stands bytes base size) cs
fine_stands bytes base size i h s [] e = tt
fine_stands bytes base size i h s (c ∷ cs) e =
    go (is_part c.kind) refl (fine_stands bytes base size (i + 1) h (some c) cs) (fine_stands bytes base size (i + 1) (some c) none cs)
  where
    go : (b : Bool) → is_part c.kind ≡ b →
        (fault_from bytes base size (i + 1) h (some c) cs ≡ none → All (Stands bytes base size) cs) →
        (fault_from bytes base size (i + 1) (some c) none cs ≡ none → All (Stands bytes base size) cs) →
        Stands bytes base size c × All (Stands bytes base size) cs
    go true p under new = let q = clean_part bytes base size i h s c cs p e in (stands_of bytes base size h s c q.0, under q.1)
    go false p under new = let q = clean_heading bytes base size i h s c cs p e in (stands_of bytes base size none h c q.0, new q.1)

-- ---- A part stands under a heading, in the order of its kinds.

pub part_placed : (bytes : List ℕ) (base size : ℕ) (h : Card) (s : Option Card) (c : Card) → is_part c.kind ≡ true →
    Clean (placed bytes base size (some h) s) c →
    (place_in (part_order (definition_of h.kind)) c.kind < length (part_order (definition_of h.kind))) ×
    (found s (λ t. place_in (part_order (definition_of h.kind)) t.kind) 0 ≤ place_in (part_order (definition_of h.kind)) c.kind)
part_placed bytes base size h s c p k = go s (inside s k.in_place)
  where
    order : List (List ℕ)
    order = part_order (definition_of h.kind)

    inside : (s : Option Card) → misplaced (placed bytes base size (some h) s) c ≡ false →
        (not (ltb (place_in order c.kind) (length order)) || found s (λ t. ltb (place_in order c.kind) (place_in order t.kind)) false) ≡ false
    inside s e = and_left_false (is_part c.kind) _ p (unfold misplaced misplaced_under in e)

    go : (s : Option Card) →
        (not (ltb (place_in order c.kind) (length order)) || found s (λ t. ltb (place_in order c.kind) (place_in order t.kind)) false) ≡ false →
        (place_in order c.kind < length order) × (found s (λ t. place_in order t.kind) 0 ≤ place_in order c.kind)
    go none e = (ltb-true _ _ (not-false _ (or_false (not (ltb (place_in order c.kind) (length order))) false e).0), omega arith)
    go (some t) e =
        let q = or_false (not (ltb (place_in order c.kind) (length order))) (ltb (place_in order c.kind) (place_in order t.kind)) e in
        (ltb-true _ _ (not-false _ q.0), ltb-false _ _ q.1)

pub no_heading : (bytes : List ℕ) (base size : ℕ) (s : Option Card) (c : Card) → is_part c.kind ≡ true → Clean (placed bytes base size none s) c → ⊥
no_heading bytes base size s c p k =
    let e : true ≡ false = and_left_false (is_part c.kind) true p (unfold misplaced in k.in_place) in
    let z : ◌≡◌ {A = ℕ} 0 1 = cc in
    omega arith
