-- A document's cards moved into the store, and back: they have the same faults in the store's text as in their own, and moving back undoes it.
use mathlib.Core.Path.{◌≡◌, refl, sym, ◌∙◌, ap}
use mathlib.Core.List.{List, [], ◌∷◌, map}
use mathlib.Core.Bool.{Bool, true, false, ◌&&◌}
use mathlib.Core.Option.{Option, none, some}
use Prim.Native.Nat.{ℕ, zero, suc, ◌+◌, ◌-◌, ◌≤◌}
use lib.Dec.{eqb, eqb-suc-zero}
use lib.ListN.{length}
use native.Mathlib.Nat.{suc-add}
use native.Mathlib.Omega.{arith}
use borrow.Author.Tests.{eqb-true}
use Rattle.definition.specs.Lists.{choose}
use Rattle.definition.specs.Names.{is_name, bytes_at}
use Rattle.definition.specs.Cards.{Card, Place, is_part, is_unnamed, item_end, name_end, unknown_kind, empty_item, item_outside_text, item_before_sibling_end}
use Rattle.definition.specs.Cards.{item_outside_heading, name_amiss, name_outside_item, name_no_name, name_not_item, misplaced_under, misplaced, fault, faults}
use Rattle.definition.specs.Cards.{fault_among, fault_from}
use Rattle.definition.specs.Headings.{name_of}
use Rattle.definition.specs.Store.{moved, unmoved}
use Rattle.definition.proofs.Tests.{choices, eqb_shift, ltb_shift}
use Rattle.definition.proofs.CleanCards.{Clean, placed, item_within, name_within_item, unnamed_parts, name_within, place_part, place_heading, fault_step}
use Rattle.definition.proofs.CleanCards.{clean_part, clean_heading}

-- ---- A moved card.

unnamed_tests : (k n m : ℕ) → (eqb m 0 && eqb (choose (eqb m 0 && eqb n 0) n (n + k)) 0) ≡ (eqb m 0 && eqb n 0)
unnamed_tests k n (suc m) = rw (eqb-suc-zero m)
unnamed_tests k zero zero = refl
unnamed_tests k (suc n) zero = rw (eqb-suc-zero n, suc-add n k, eqb-suc-zero (n + k))

pub unnamed_moved : (k : ℕ) (c : Card) → is_unnamed (moved k c) ≡ is_unnamed c
unfolding moved is_unnamed
unnamed_moved k c = unnamed_tests k c.name_at c.name_len

module _ (k : ℕ) (c : Card) where
  pub kind_moved : (moved k c).kind ≡ c.kind
  unfolding moved
  kind_moved = refl

  item_at_moved : (moved k c).item_at ≡ c.item_at + k
  unfolding moved
  item_at_moved = refl

  item_len_moved : (moved k c).item_len ≡ c.item_len
  unfolding moved
  item_len_moved = refl

  pub name_len_moved : (moved k c).name_len ≡ c.name_len
  unfolding moved
  name_len_moved = refl

  pub name_at_named : is_unnamed c ≡ false → (moved k c).name_at ≡ c.name_at + k
  unfolding moved
  name_at_named e = rw e

-- ---- Its faults.

abbrev pub shift : ℕ → Option Card → Option Card
shift k none = none
shift k (some c) = some (moved k c)

-- Where a card stands in its own text, and where it stands once moved.
abbrev here : List ℕ → Option Card → Option Card → Place
here own h s = placed own 0 (length own) h s

abbrev there : List ℕ → List ℕ → ℕ → Option Card → Option Card → Place
there text own k h s = placed text k (length own) (shift k h) (shift k s)

module _ (text own : List ℕ) (k : ℕ) (lies : (n m : ℕ) → n + m ≤ length own → bytes_at text (n + k) m ≡ bytes_at own n m) where
  kind_same : (h s : Option Card) (c : Card) → unknown_kind (there text own k h s) (moved k c) ≡ unknown_kind (here own h s) c
  unfolding unknown_kind moved
  kind_same h s c = refl

  empty_same : (h s : Option Card) (c : Card) → empty_item (there text own k h s) (moved k c) ≡ empty_item (here own h s) c
  unfolding empty_item moved
  empty_same h s c = refl

  text_same : (h s : Option Card) (c : Card) → item_outside_text (there text own k h s) (moved k c) ≡ item_outside_text (here own h s) c
  unfolding item_outside_text item_end moved
  text_same h s c =
      rw (
        ltb_shift c.item_at 0 (c.item_at + k) k k refl (omega arith),
        ltb_shift (0 + length own) (c.item_at + c.item_len) (k + length own) (c.item_at + k + c.item_len) k (omega arith) (omega arith),
      )

  sibling_same : (h s : Option Card) (c : Card) → item_before_sibling_end (there text own k h s) (moved k c) ≡ item_before_sibling_end (here own h s) c
  unfolding item_before_sibling_end item_end moved
  sibling_same h none c = refl
  sibling_same h (some s) c = ltb_shift c.item_at (s.item_at + s.item_len) (c.item_at + k) (s.item_at + k + s.item_len) k refl (omega arith)

  heading_same : (h s : Option Card) (c : Card) → item_outside_heading (there text own k h s) (moved k c) ≡ item_outside_heading (here own h s) c
  unfolding item_outside_heading item_end moved
  heading_same none s c = refl
  heading_same (some h) s c =
      rw (
        ltb_shift c.item_at h.item_at (c.item_at + k) (h.item_at + k) k refl refl,
        ltb_shift (h.item_at + h.item_len) (c.item_at + c.item_len) (h.item_at + k + h.item_len) (c.item_at + k + c.item_len) k (omega arith) (omega arith),
      )

  amiss_same : (h s : Option Card) (c : Card) → name_amiss (there text own k h s) (moved k c) ≡ name_amiss (here own h s) c
  unfolding name_amiss
  amiss_same h s c = rw (unnamed_moved k c, kind_moved k c)

  outside_same : (h s : Option Card) (c : Card) → name_outside_item (there text own k h s) (moved k c) ≡ name_outside_item (here own h s) c
  unfolding name_outside_item item_end name_end
  outside_same h s c = go (is_unnamed c) refl
    where
      go : (b : Bool) → is_unnamed c ≡ b → name_outside_item (there text own k h s) (moved k c) ≡ name_outside_item (here own h s) c
      go true u = rw (unnamed_moved k c, u)
      go false u =
          rw (
            unnamed_moved k c,
            u,
            name_at_named k c u,
            item_at_moved k c,
            item_len_moved k c,
            name_len_moved k c,
            ltb_shift c.name_at c.item_at (c.name_at + k) (c.item_at + k) k refl refl,
            ltb_shift (c.item_at + c.item_len) (c.name_at + c.name_len) (c.item_at + k + c.item_len) (c.name_at + k + c.name_len) k (omega arith) (omega arith),
          )

  name_same : (h s : Option Card) (c : Card) → c.name_at + c.name_len ≤ length own → name_no_name (there text own k h s) (moved k c) ≡ name_no_name (here own h s) c
  unfolding name_no_name
  name_same h s c w = go (is_unnamed c) refl
    where
      go : (b : Bool) → is_unnamed c ≡ b → name_no_name (there text own k h s) (moved k c) ≡ name_no_name (here own h s) c
      go true u = rw (unnamed_moved k c, u)
      go false u = rw (unnamed_moved k c, u, name_at_named k c u, name_len_moved k c, lies c.name_at c.name_len w)

  item_same : (h s : Option Card) (c : Card) → name_not_item (there text own k h s) (moved k c) ≡ name_not_item (here own h s) c
  unfolding name_not_item
  item_same h s c = go (is_unnamed c) refl
    where
      go : (b : Bool) → is_unnamed c ≡ b → name_not_item (there text own k h s) (moved k c) ≡ name_not_item (here own h s) c
      go true u = rw (unnamed_moved k c, u)
      go false u =
          rw (
            unnamed_moved k c,
            u,
            kind_moved k c,
            name_len_moved k c,
            item_len_moved k c,
            name_at_named k c u,
            item_at_moved k c,
            eqb_shift c.name_at c.item_at k,
          )

  place_same : (h s : Option Card) (c : Card) → misplaced (there text own k h s) (moved k c) ≡ misplaced (here own h s) c
  unfolding misplaced misplaced_under moved
  place_same none s c = refl
  place_same (some h) none c = refl
  place_same (some h) (some s) c = refl

  pub fault_moved : (h s : Option Card) (c : Card) → fault_among (there text own k h s) (moved k c) faults ≡ fault_among (here own h s) c faults
  unfolding fault_among faults fault
  fault_moved h s c =
      choices _ (unknown_kind (here own h s) c) 2 _ _ (kind_same h s c) (λ q1.
      choices _ (empty_item (here own h s) c) 3 _ _ (empty_same h s c) (λ q2.
      choices _ (item_outside_text (here own h s) c) 3 _ _ (text_same h s c) (λ q3.
      choices _ (item_before_sibling_end (here own h s) c) 3 _ _ (sibling_same h s c) (λ q4.
      choices _ (item_outside_heading (here own h s) c) 3 _ _ (heading_same h s c) (λ q5.
      choices _ (name_outside_item (here own h s) c) 4 _ _ (outside_same h s c) (λ q6.
      choices _ (name_not_item (here own h s) c) 4 _ _ (item_same h s c) (λ q7.
      choices _ (name_amiss (here own h s) c) 27 _ _ (amiss_same h s c) (λ q8.
      choices _ (name_no_name (here own h s) c) 28 _ _ (name_same h s c (name_within own (length own) h s c q3 q6)) (λ q9.
      choices _ (misplaced (here own h s) c) 5 _ _ (place_same h s c) (λ q10. refl))))))))))

-- The first faulty card, its number and its fault are the same: in the document's own text and, moved by k, in a text that has it at k.
pub faults_moved : (text own : List ℕ) (k : ℕ) → ((n m : ℕ) → n + m ≤ length own → bytes_at text (n + k) m ≡ bytes_at own n m) →
    (i : ℕ) (h s : Option Card) (cs : List Card) →
    fault_from text k (length own) i (shift k h) (shift k s) (map (moved k) cs) ≡ fault_from own 0 (length own) i h s cs
faults_moved text own k lies i h s [] = unfold fault_from in refl
faults_moved text own k lies i h s (c ∷ cs) =
    go (is_part c.kind) refl (faults_moved text own k lies (i + 1) h (some c) cs) (faults_moved text own k lies (i + 1) (some c) none cs)
  where
    go : (b : Bool) → is_part c.kind ≡ b →
        fault_from text k (length own) (i + 1) (shift k h) (some (moved k c)) (map (moved k) cs) ≡ fault_from own 0 (length own) (i + 1) h (some c) cs →
        fault_from text k (length own) (i + 1) (some (moved k c)) none (map (moved k) cs) ≡ fault_from own 0 (length own) (i + 1) (some c) none cs →
        fault_from text k (length own) i (shift k h) (shift k s) (moved k c ∷ map (moved k) cs) ≡ fault_from own 0 (length own) i h s (c ∷ cs)
    go true p under new =
        let q : is_part (moved k c).kind ≡ true = ap is_part (kind_moved k c) ∙ p in
        rw (
          fault_step text k (length own) i (shift k h) (shift k s) (moved k c) (map (moved k) cs),
          fault_step own 0 (length own) i h s c cs,
          place_part text k (length own) i (shift k h) (shift k s) (moved k c) (map (moved k) cs) q,
          place_part own 0 (length own) i h s c cs p,
          q,
          p,
          fault_moved text own k lies h s c,
          under,
        )
    go false p under new =
        let q : is_part (moved k c).kind ≡ false = ap is_part (kind_moved k c) ∙ p in
        rw (
          fault_step text k (length own) i (shift k h) (shift k s) (moved k c) (map (moved k) cs),
          fault_step own 0 (length own) i h s c cs,
          place_heading text k (length own) i (shift k h) (shift k s) (moved k c) (map (moved k) cs) q,
          place_heading own 0 (length own) i h s c cs p,
          q,
          p,
          fault_moved text own k lies none h c,
          new,
        )

-- ---- Its name.

no_bytes : (text own : List ℕ) (n m : ℕ) → bytes_at text n 0 ≡ bytes_at own m 0
unfolding bytes_at
no_bytes text own n m = refl

pub name_moved : (text own : List ℕ) (k : ℕ) → ((n m : ℕ) → n + m ≤ length own → bytes_at text (n + k) m ≡ bytes_at own n m) →
    (c : Card) → c.name_at + c.name_len ≤ length own → name_of text (moved k c) ≡ name_of own c
unfolding name_of
name_moved text own k lies c w = go (is_unnamed c) refl
  where
    go : (b : Bool) → is_unnamed c ≡ b → bytes_at text (moved k c).name_at (moved k c).name_len ≡ bytes_at own c.name_at c.name_len
    go true u =
        let z : c.name_len ≡ 0 = (unnamed_parts c u).0 in
        ap (bytes_at text (moved k c).name_at) (name_len_moved k c ∙ z) ∙ no_bytes text own (moved k c).name_at c.name_at ∙ ap (bytes_at own c.name_at) (sym z)
    go false u = rw (name_at_named k c u, name_len_moved k c) (lies c.name_at c.name_len w)

-- ---- Moved and back, an absent name included.

name_back : (base n m : ℕ) →
    choose (eqb m 0 && eqb (choose (eqb m 0 && eqb n 0) n (n + base)) 0)
    (choose (eqb m 0 && eqb n 0) n (n + base))
    (choose (eqb m 0 && eqb n 0) n (n + base) - base)
    ≡ n
name_back base n (suc m) = rw (eqb-suc-zero m) (omega arith)
name_back base zero zero = refl
name_back base (suc n) zero = rw (eqb-suc-zero n, suc-add n base, eqb-suc-zero (n + base)) (omega arith)

unmoved_moved : (base : ℕ) (c : Card) → unmoved base (moved base c) ≡ c
unfolding unmoved moved is_unnamed
unmoved_moved base c = λ i. record {
  kind = c.kind;
  item_at = back i;
  item_len = c.item_len;
  name_at = name_back base c.name_at c.name_len i;
  name_len = c.name_len;
}
  where
    back : c.item_at + base - base ≡ c.item_at
    back = omega arith

pub unmoved_all : (at : ℕ) (cs : List Card) → map (unmoved at) (map (moved at) cs) ≡ cs
unmoved_all at [] = refl
unmoved_all at (c ∷ cs) = λ i. unmoved_moved at c i ∷ unmoved_all at cs i

-- ---- Back and moved: of a card that has no fault where it is stored.

no_empty_name : (p : Place) (c : Card) → is_unnamed c ≡ false → name_no_name p c ≡ false → eqb c.name_len 0 ≡ false
unfolding name_no_name bytes_at is_name
no_empty_name p c u e = go (eqb c.name_len 0) refl
  where
    go : (b : Bool) → eqb c.name_len 0 ≡ b → eqb c.name_len 0 ≡ false
    go true q =
        let z : c.name_len ≡ 0 = eqb-true _ _ q in
        let y : true ≡ false = rw (u, z) at e in cc
    go false q = q

name_forth : (k n m : ℕ) (b : Bool) → (eqb m 0 && eqb n 0) ≡ b → (b ≡ false → (eqb m 0 ≡ false) × (k ≤ n)) →
    choose (eqb m 0 && eqb (choose (eqb m 0 && eqb n 0) n (n - k)) 0)
    (choose (eqb m 0 && eqb n 0) n (n - k))
    (choose (eqb m 0 && eqb n 0) n (n - k) + k)
    ≡ n
name_forth k n m true e f = rw (e, e)
name_forth k n m false e f = let q = f refl in rw (e, q.0) (omega arith)

moved_unmoved : (text : List ℕ) (k size : ℕ) (h s : Option Card) (c : Card) → Clean (placed text k size h s) c → moved k (unmoved k c) ≡ c
unfolding moved unmoved is_unnamed
moved_unmoved text k size h s c q = λ i. record {
  kind = c.kind;
  item_at = forth i;
  item_len = c.item_len;
  name_at = name_forth k c.name_at c.name_len (is_unnamed c) refl named i;
  name_len = c.name_len;
}
  where
    low : k ≤ c.item_at
    low = (item_within text k size h s c q.in_text).0

    forth : c.item_at - k + k ≡ c.item_at
    forth = omega (arith, low)

    named : is_unnamed c ≡ false → (eqb c.name_len 0 ≡ false) × (k ≤ c.name_at)
    named u = (no_empty_name (placed text k size h s) c u q.name_is_name, omega (arith, low, (name_within_item (placed text k size h s) c u q.name_in_item).0))

pub moved_all : (text : List ℕ) (k size i : ℕ) (h s : Option Card) (cs : List Card) → fault_from text k size i h s cs ≡ none →
    map (moved k) (map (unmoved k) cs) ≡ cs
moved_all text k size i h s [] e = refl
moved_all text k size i h s (c ∷ cs) e = go (is_part c.kind) refl (moved_all text k size (i + 1) h (some c) cs)
    (moved_all text k size (i + 1) (some c) none cs)
  where
    go : (b : Bool) → is_part c.kind ≡ b →
        (fault_from text k size (i + 1) h (some c) cs ≡ none → map (moved k) (map (unmoved k) cs) ≡ cs) →
        (fault_from text k size (i + 1) (some c) none cs ≡ none → map (moved k) (map (unmoved k) cs) ≡ cs) →
        map (moved k) (map (unmoved k) (c ∷ cs)) ≡ c ∷ cs
    go true p under new = let q = clean_part text k size i h s c cs p e in λ j. moved_unmoved text k size h s c q.0 j ∷ under q.1 j
    go false p under new = let q = clean_heading text k size i h s c cs p e in λ j. moved_unmoved text k size none h c q.0 j ∷ new q.1 j
