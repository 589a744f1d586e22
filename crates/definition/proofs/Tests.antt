-- What follows from a test's value: conjunctions, disjunctions, choices, and refusals that do not hold.
use mathlib.Core.Path.{◌≡◌, refl}
use mathlib.Core.Bool.{Bool, true, false, ◌&&◌, ◌||◌}
use mathlib.Core.Option.{Option, none, some}
use Prim.Native.Nat.{ℕ, ◌+◌, ◌<◌}
use native.Mathlib.Omega.{arith}
use lib.Dec.{eqb, ltb}
use borrow.Author.Tests.{eqb-true, eqb-false, eq-eqb, ne_eqb, ltb-true, ltb-false, lt-ltb, le-ltb}
use Rattle.definition.specs.Lists.{choose, found, or_else}
use Rattle.definition.specs.Refusals.{refuse}

-- `cc` proves 0 ≡ 1 from facts that contradict each other.
pub zero_one : ◌≡◌ {A = ℕ} 0 1 → ⊥
zero_one e = omega arith

pub and_true : (b c : Bool) → (b && c) ≡ true → (b ≡ true) × (c ≡ true)
and_true true c h = (refl, h)
and_true false c h = (h, cc)

pub or_false : (b c : Bool) → (b || c) ≡ false → (b ≡ false) × (c ≡ false)
or_false true c e = (e, cc)
or_false false c e = (refl, e)

pub chosen_none : {A : Type 0} (b : Bool) (r : Option A) (x : A) → choose b r (some x) ≡ none → (b ≡ true) × (r ≡ none)
chosen_none true r x e = (refl, e)
chosen_none false r x e = (cc, cc)

pub chosen_some : {A : Type 0} (b : Bool) (r : Option A) (x : A) → choose b (some x) r ≡ none → (b ≡ false) × (r ≡ none)
chosen_some true r x e = (cc, cc)
chosen_some false r x e = (refl, e)

pub chosen_zero : (b : Bool) (n r : ℕ) → ltb 0 n ≡ true → choose b n r ≡ 0 → (b ≡ false) × (r ≡ 0)
chosen_zero true n r p e = absurd (let h : 0 < n = ltb-true 0 n p in omega arith)
chosen_zero false n r p e = (refl, e)

-- Two choices are one where the tests are, and what is chosen else.
pub choices : (b c : Bool) (n r s : ℕ) → b ≡ c → (c ≡ false → r ≡ s) → choose b n r ≡ choose c n s
choices true true n r s e f = refl
choices true false n r s e f = cc
choices false true n r s e f = cc
choices false false n r s e f = f refl

pub or_else_none {ℓ} : {A : Type ℓ} (o p : Option A) → or_else o p ≡ none → (o ≡ none) × (p ≡ none)
or_else_none none p e = (refl, e)
or_else_none (some x) p e = absurd cc

pub refuse_none : (n : ℕ) (b : Bool) → refuse n b ≡ none → b ≡ false
unfolding refuse
refuse_none n true e = cc
refuse_none n false e = refl

pub unfound {ℓ} : {A : Type ℓ} (o : Option A) (r : Bool) → found o (λ f. false) r ≡ true → (o ≡ none) × (r ≡ true)
unfound none r e = (refl, e)
unfound (some x) r e = absurd cc

-- Tests on numbers of which both are raised.
pub eqb_shift : (a b k : ℕ) → eqb (a + k) (b + k) ≡ eqb a b
eqb_shift a b k = go (eqb a b) refl
  where
    go : (t : Bool) → eqb a b ≡ t → eqb (a + k) (b + k) ≡ t
    go true e = let h : a ≡ b = eqb-true a b e in eq-eqb (a + k) (b + k) (omega arith)
    go false e = ne_eqb (a + k) (b + k) (λ q. eqb-false a b e (omega arith))

pub ltb_shift : (a b c d k : ℕ) → c ≡ a + k → d ≡ b + k → ltb c d ≡ ltb a b
ltb_shift a b c d k p q = go (ltb a b) refl
  where
    go : (t : Bool) → ltb a b ≡ t → ltb c d ≡ t
    go true e = let h = ltb-true a b e in lt-ltb c d (omega arith)
    go false e = let h = ltb-false a b e in le-ltb c d (omega arith)
