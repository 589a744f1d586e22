-- The laws of the numbers of names.
use mathlib.Core.Path.{◌≡◌, refl, sym, ◌∙◌, ap, ap₂}
use mathlib.Core.List.{List}
use mathlib.Core.Bool.{Bool, true, false}
use Prim.Native.Nat.{ℕ, zero, suc, ◌+◌, ◌≤◌, ◌<◌}
use native.Mathlib.Omega.{arith}
use lib.Dec.{eqb, ltb}
use lib.ListN.{length, drop, get_or, set}
use lib.Seq.{get_or-set_same, get_or-set_other, drop-set-lt}
use borrow.Author.Tests.{eq-eqb, ne_eqb, eqb-true, eqb-false, ltb-true, ltb-false}
use Rattle.definition.specs.Lists.{choose}
use Rattle.definition.specs.Names.{same_name}
use Rattle.definition.proofs.Lists.{same_name_eq, same_name_refl}
use Rattle.numbering.specs.Numbers.{first_from, one_name, representative}

-- ---- The first number that passes a test.

module _ (p : ℕ → Bool) where
  first_hit : (j k : ℕ) → p j ≡ true → first_from p j (suc k) ≡ j
  unfolding first_from
  first_hit j k e = rw e

  first_miss : (j k : ℕ) → p j ≡ false → first_from p j (suc k) ≡ first_from p (suc j) k
  unfolding first_from
  first_miss j k e = rw e

  first_zero : (j : ℕ) → first_from p j 0 ≡ j
  unfolding first_from
  first_zero j = refl

  first_most : (j k : ℕ) → first_from p j k ≤ j + k
  first_most j zero = omega (arith, first_zero j)
  first_most j (suc k) = go (p j) refl (first_most (suc j) k)
    where
      go : (b : Bool) → p j ≡ b → first_from p (suc j) k ≤ suc j + k → first_from p j (suc k) ≤ j + suc k
      go true e h = omega (arith, first_hit j k e)
      go false e h = omega (arith, first_miss j k e)

  first_passes : (j k : ℕ) → p (j + k) ≡ true → p (first_from p j k) ≡ true
  first_passes j zero e = let z : j + 0 ≡ j = omega arith in ap p (first_zero j ∙ sym z) ∙ e
  first_passes j (suc k) e =
      let z : j + suc k ≡ suc j + k = omega arith in
      go (p j) refl (first_passes (suc j) k (ap p (sym z) ∙ e))
    where
      go : (b : Bool) → p j ≡ b → p (first_from p (suc j) k) ≡ true → p (first_from p j (suc k)) ≡ true
      go true f h = ap p (first_hit j k f) ∙ f
      go false f h = ap p (first_miss j k f) ∙ h

  first_least : (j k i : ℕ) → j ≤ i → i < first_from p j k → p i ≡ false
  first_least j zero i l h = absurd (omega (arith, first_zero j))
  first_least j (suc k) i l h = go (p j) refl (eqb i j) refl (λ m n. first_least (suc j) k i m n)
    where
      go : (b : Bool) → p j ≡ b → (d : Bool) → eqb i j ≡ d → (suc j ≤ i → i < first_from p (suc j) k → p i ≡ false) → p i ≡ false
      go true e d f r = absurd (omega (arith, first_hit j k e))
      go false e true f r = ap p (eqb-true i j f) ∙ e
      go false e false f r =
          let ne = eqb-false i j f in
          let m = first_miss j k e in
          r (omega (arith, ne)) (omega arith)

-- ---- Representatives.

module _ (named : ℕ → List ℕ) where
  pub one_refl : (i : ℕ) → one_name named i i ≡ true
  unfolding one_name
  one_refl i = same_name_refl (named i)

  pub one_named : (i j : ℕ) → one_name named i j ≡ true → named i ≡ named j
  unfolding one_name
  one_named i j e = same_name_eq (named i) (named j) e

  pub named_one : (i j : ℕ) → named i ≡ named j → one_name named i j ≡ true
  unfolding one_name
  named_one i j e = ap (same_name (named i)) (sym e) ∙ same_name_refl (named i)

  -- It is no later card.
  pub rep_most : (i : ℕ) → representative named i ≤ i
  unfolding representative
  rep_most i = omega (arith, first_most (one_name named i) 0 i)

  -- It has the name.
  pub rep_one : (i : ℕ) → one_name named i (representative named i) ≡ true
  unfolding representative
  rep_one i = let z : 0 + i ≡ i = omega arith in first_passes (one_name named i) 0 i (ap (one_name named i) z ∙ one_refl i)

  pub rep_named : (i : ℕ) → named i ≡ named (representative named i)
  rep_named i = one_named i (representative named i) (rep_one i)

  -- No card before it has it.
  pub rep_least : (i j : ℕ) → j < representative named i → one_name named i j ≡ false
  unfolding representative
  rep_least i j h = first_least (one_name named i) 0 i j (omega arith) h

  below_rep : (i j : ℕ) → named i ≡ named j → representative named i ≤ j
  below_rep i j e = go (ltb j (representative named i)) refl
    where
      go : (b : Bool) → ltb j (representative named i) ≡ b → representative named i ≤ j
      go true f = let q : true ≡ false = sym (named_one i j e) ∙ rep_least i j (ltb-true j (representative named i) f) in absurd cc
      go false f = omega (arith, ltb-false j (representative named i) f)

  -- It is the only such card: this is what code shows.
  pub rep_unique : (i r : ℕ) → named i ≡ named r → ((j : ℕ) → j < r → one_name named i j ≡ false) → r ≡ representative named i
  rep_unique i r e h = go (ltb (representative named i) r) refl
    where
      go : (b : Bool) → ltb (representative named i) r ≡ b → r ≡ representative named i
      go true f =
          let q : true ≡ false = sym (rep_one i) ∙ h (representative named i) (ltb-true (representative named i) r f) in
          absurd cc
      go false f = omega (arith, ltb-false (representative named i) r f, below_rep i r e)

  -- Cards have one name where they have one representative.
  pub numbers_one : (i j : ℕ) → named i ≡ named j → representative named i ≡ representative named j
  numbers_one i j e =
      let a = below_rep i (representative named j) (e ∙ rep_named j) in
      let b = below_rep j (representative named i) (sym e ∙ rep_named i) in
      omega arith

  pub names_one : (i j : ℕ) → representative named i ≡ representative named j → named i ≡ named j
  names_one i j e = rep_named i ∙ ap named e ∙ sym (rep_named j)

  pub one_numbers : (i j : ℕ) → one_name named i j ≡ eqb (representative named i) (representative named j)
  one_numbers i j = go (one_name named i j) refl
    where
      go : (b : Bool) → one_name named i j ≡ b → one_name named i j ≡ eqb (representative named i) (representative named j)
      go true e = e ∙ sym (eq-eqb (representative named i) (representative named j) (numbers_one i j (one_named i j e)))
      go false e =
          e ∙ sym (ne_eqb (representative named i) (representative named j)
          (λ q. let f : true ≡ false = sym (named_one i j (names_one i j q)) ∙ e in (cc)))

  -- The representative of a representative is itself.
  pub rep_rep : (i : ℕ) → representative named (representative named i) ≡ representative named i
  rep_rep i = sym (numbers_one i (representative named i) (rep_named i))

  -- A card is the first of its name exactly where it is its own representative.
  pub first_own : (i : ℕ) → ((j : ℕ) → j < i → one_name named i j ≡ false) → representative named i ≡ i
  first_own i h = sym (rep_unique i i refl h)

  pub own_first : (i : ℕ) → representative named i ≡ i → (j : ℕ) → j < i → one_name named i j ≡ false
  own_first i e j h = rep_least i j (omega arith)

-- Names that agree up to a card give it the same representative.
first_agree : (p q : ℕ → Bool) (j k : ℕ) → ((i : ℕ) → i < j + k → p i ≡ q i) → first_from p j k ≡ first_from q j k
unfolding first_from
first_agree p q j zero e = refl
first_agree p q j (suc k) e =
    let here = e j (omega arith) in
    let later = first_agree p q (suc j) k (λ i h. e i (omega arith)) in
    ap₂ (λ (b : Bool) (r : ℕ). choose b j r) here later

pub rep_agree : (named named₂ : ℕ → List ℕ) (i : ℕ) → ((j : ℕ) → j ≤ i → named j ≡ named₂ j) → representative named i ≡ representative named₂ i
unfolding representative one_name
rep_agree named named₂ i e =
    first_agree (one_name named i) (one_name named₂ i) 0 i (λ j h. ap₂ same_name (e i (omega arith)) (e j (omega arith)))

-- ---- One more number.

module _ (named : ℕ → List ℕ) (numbers : List ℕ) (k v : ℕ) (all : (i : ℕ) → i < k → get_or numbers i 0 ≡ representative named i) (room : k < length numbers) (e : v ≡ representative named k) where
  pub numbers_more : (i : ℕ) → i < k + 1 → get_or (set numbers k v) i 0 ≡ representative named i
  numbers_more i h = go (eqb i k) refl
    where
      go : (b : Bool) → eqb i k ≡ b → get_or (set numbers k v) i 0 ≡ representative named i
      go true f = let q = eqb-true i k f in ap (λ (m : ℕ). get_or (set numbers k v) m 0) q ∙ get_or-set_same numbers k v 0 room ∙ e ∙ ap (representative named) (sym q)
      go false f = let ne = eqb-false i k f in get_or-set_other numbers k i v 0 ne ∙ all i (omega (arith, ne))

-- Words from n on stay where a word before is set.
pub rest_more : (n k v : ℕ) (numbers₀ numbers : List ℕ) → k < n → drop n numbers ≡ drop n numbers₀ → drop n (set numbers k v) ≡ drop n numbers₀
rest_more n k v numbers₀ numbers h e = drop-set-lt n numbers k v h ∙ e
