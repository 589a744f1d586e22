-- The laws of the table.
use mathlib.Core.Path.{◌≡◌, refl, sym, ◌∙◌, ap}
use mathlib.Core.List.{List}
use mathlib.Core.Bool.{Bool, true, false}
use Prim.Native.Nat.{ℕ, ◌+◌, ◌-◌, ◌*◌, ◌/◌, ◌≤◌, ◌<◌}
use native.Mathlib.Nat.{mul-lt-mul_of_pos_right, mul_comm, div-lt_iff_lt-mul}
use native.Mathlib.Omega.{arith}
use lib.Dec.{eqb, ltb}
use lib.ListN.{length, get_or, set, length-set}
use lib.Seq.{get_or-set_same, get_or-set_other}
use borrow.Author.Tests.{eqb-true, eqb-false, ltb-true, ltb-false}
use Rattle.definition.specs.Names.{same_name}
use Rattle.definition.proofs.Lists.{same_name_eq, same_name_refl}
use Rattle.name.specs.Hashes.{hash_of}
use Rattle.numbering.specs.Numbers.{representative}
use Rattle.numbering.specs.Table.{most_probes, home, home_of, Other, Probed, Placed, Held, Turned}
use Rattle.numbering.proofs.Laws.{rep_most, rep_named, rep_rep, numbers_one}

module _ (named : ℕ → List ℕ) (slots : ℕ) where
  module _ (table : List ℕ) (n : ℕ) (h : Held named slots n table) (name : List ℕ) (start d : ℕ) (at : start ≡ home_of slots name)
      (p : Probed named table name start d) where
    -- The word is of a card: that is the first of the name.
    pub found_own : d < most_probes → (j : ℕ) → get_or table (start + d) 0 ≡ j + 1 → (j < n) × (representative named j ≡ j) × (name ≡ named j)
    found_own few j e =
        let o = h.entries (start + d) j e in
        (o.0, o.1, same_name_eq name (named j) (p.here few j e))

    -- Where a first card of the name stands.
    stands : (r : ℕ) → name ≡ named r → (w : Placed named slots table r) → get_or table (start + w.steps) 0 ≡ r + 1
    stands r e w = ap (λ (m : ℕ). get_or table (m + w.steps) 0) (at ∙ ap (home_of slots) e) ∙ w.placed_here

    -- A search that went past it would have ended there.
    not_passed : (r : ℕ) → name ≡ named r → (w : Placed named slots table r) → w.steps < d → ⊥
    not_passed r e w l =
        let o = p.passed w.steps l in
        let x : o.other ≡ r = omega (arith, o.word_is, stands r e w) in
        let t : true ≡ false = sym (same_name_refl name) ∙ ap (same_name name) (e ∙ ap named (sym x)) ∙ o.other_named in
        cc

    -- The word is 0, or the search went as far as it may: no first card has the name.
    pub vacant : get_or table (start + d) 0 ≡ 0 → (r : ℕ) → r < n → representative named r ≡ r → name ≡ named r → ⊥
    vacant z r l own e = go (h.placed r l own) (ltb (h.placed r l own).steps d) refl (eqb (h.placed r l own).steps d) refl
      where
        go : (w : Placed named slots table r) → (b : Bool) → ltb w.steps d ≡ b → (c : Bool) → eqb w.steps d ≡ c → ⊥
        go w true f c g = not_passed r e w (ltb-true w.steps d f)
        go w false f true g =
            let x : get_or table (start + w.steps) 0 ≡ 0 = ap (λ (m : ℕ). get_or table (start + m) 0) (eqb-true w.steps d g) ∙ z in
            omega (arith, stands r e w)
        go w false f false g =
            let ne = eqb-false w.steps d g in
            let k = ltb-false w.steps d f in
            w.passed d (omega (arith, ne)) (ap (λ (m : ℕ). get_or table (m + d) 0) (ap (home_of slots) (sym e) ∙ sym at) ∙ z)

    pub far : d ≡ most_probes → (r : ℕ) → r < n → representative named r ≡ r → name ≡ named r → ⊥
    far q r l own e = let w = h.placed r l own in not_passed r e w (omega (arith, w.near))

  -- No first card has the name: no card has it.
  pub none_named : (n : ℕ) (name : List ℕ) → ((r : ℕ) → r < n → representative named r ≡ r → name ≡ named r → ⊥) → (i : ℕ) → i < n →
      same_name name (named i) ≡ false
  none_named n name none i l = go (same_name name (named i)) refl
    where
      go : (b : Bool) → same_name name (named i) ≡ b → same_name name (named i) ≡ false
      go true e = absurd (none (representative named i) (omega (arith, rep_most named i)) (rep_rep named i) (same_name_eq name (named i) e ∙ rep_named named i))
      go false e = e

  -- ---- The search was for the name of the card after those that are in the table.

  module _ (table : List ℕ) (n : ℕ) (h : Held named slots n table) (start d : ℕ) (at : start ≡ home_of slots (named n))
      (p : Probed named table (named n) start d) (few : d < most_probes) where
    pub found_first : (j : ℕ) → get_or table (start + d) 0 ≡ j + 1 → j ≡ representative named n
    found_first j e = let o = found_own table n h (named n) start d at p few j e in sym o.1 ∙ sym (numbers_one named n j o.2)

    module _ (z : get_or table (start + d) 0 ≡ 0) where
      pub vacant_first : representative named n ≡ n
      vacant_first = go (ltb (representative named n) n) refl
        where
          go : (b : Bool) → ltb (representative named n) n ≡ b → representative named n ≡ n
          go true f =
              absurd (vacant table n h (named n) start d at p z (representative named n)
              (ltb-true (representative named n) n f) (rep_rep named n) (rep_named named n))
          go false f = omega (arith, ltb-false (representative named n) n f, rep_most named n)

      module _ (room : start + d < length table) where
        stays : (k : ℕ) → (k ≡ start + d → ⊥) → get_or (set table (start + d) (n + 1)) k 0 ≡ get_or table k 0
        stays k ne = get_or-set_other table (start + d) k (n + 1) 0 ne

        is_new : get_or (set table (start + d) (n + 1)) (start + d) 0 ≡ n + 1
        is_new = get_or-set_same table (start + d) (n + 1) 0 room

        -- A word that is not 0 stays so.
        not_zero : (k : ℕ) → (get_or table k 0 ≡ 0 → ⊥) → get_or (set table (start + d) (n + 1)) k 0 ≡ 0 → ⊥
        not_zero k nz y = go (eqb k (start + d)) refl
          where
            go : (b : Bool) → eqb k (start + d) ≡ b → ⊥
            go true f =
                let q : get_or (set table (start + d) (n + 1)) (start + d) 0 ≡ 0 =
                ap (λ (m : ℕ). get_or (set table (start + d) (n + 1)) m 0) (sym (eqb-true k (start + d) f)) ∙ y in
                omega (arith, is_new)
            go false f = nz (sym (stays k (eqb-false k (start + d) f)) ∙ y)

        entries_more : (k j : ℕ) → get_or (set table (start + d) (n + 1)) k 0 ≡ j + 1 → (j < n + 1) × (representative named j ≡ j)
        entries_more k j w = go (eqb k (start + d)) refl
          where
            go : (b : Bool) → eqb k (start + d) ≡ b → (j < n + 1) × (representative named j ≡ j)
            go true f =
                let q : get_or (set table (start + d) (n + 1)) (start + d) 0 ≡ j + 1 =
                ap (λ (m : ℕ). get_or (set table (start + d) (n + 1)) m 0) (sym (eqb-true k (start + d) f)) ∙ w in
                let x : n ≡ j = omega (arith, is_new) in
                (omega arith, ap (representative named) (sym x) ∙ vacant_first ∙ x)
            go false f =
                let o = h.entries k j (sym (stays k (eqb-false k (start + d) f)) ∙ w) in
                (omega (arith, o.0), o.1)

        placed_old : (j : ℕ) → Placed named slots table j → Placed named slots (set table (start + d) (n + 1)) j
        placed_old j w = record {
          steps = w.steps;
          near = w.near;
          placed_here = stays (home_of slots (named j) + w.steps) (λ q.
              let x : get_or table (home_of slots (named j) + w.steps) 0 ≡ 0 = ap (λ (m : ℕ). get_or table m 0) q ∙ z in
              omega (arith, w.placed_here)) ∙ w.placed_here;
          passed = λ k l. not_zero (home_of slots (named j) + k) (w.passed k l);
        }

        placed_new : Placed named slots (set table (start + d) (n + 1)) n
        placed_new = record {
          steps = d;
          near = few;
          placed_here = ap (λ (m : ℕ). get_or (set table (start + d) (n + 1)) (m + d) 0) (sym at) ∙ is_new;
          passed = λ k l. not_zero (home_of slots (named n) + k) (λ y.
              let o = p.passed k l in
              let x : get_or table (start + k) 0 ≡ 0 = ap (λ (m : ℕ). get_or table (m + k) 0) at ∙ y in
              omega (arith, o.word_is));
        }

        pub held_new : Held named slots (n + 1) (set table (start + d) (n + 1))
        held_new = record {
          entries = entries_more;
          placed = λ j l own. go j l own (eqb j n) refl;
        }
          where
            go : (j : ℕ) → j < n + 1 → representative named j ≡ j → (b : Bool) → eqb j n ≡ b → Placed named slots (set table (start + d) (n + 1)) j
            go j l own true f = rw (eqb-true j n f) placed_new
            go j l own false f = let ne = eqb-false j n f in placed_old j (h.placed j (omega (arith, ne)) own)

    -- Another card has the name already.
    pub held_old : (j : ℕ) → get_or table (start + d) 0 ≡ j + 1 → Held named slots (n + 1) table
    held_old j e = record {
      entries = λ k i w. let o = h.entries k i w in (omega (arith, o.0), o.1);
      placed = λ i l own. go i l own (eqb i n) refl;
    }
      where
        go : (i : ℕ) → i < n + 1 → representative named i ≡ i → (b : Bool) → eqb i n ≡ b → Placed named slots table i
        go i l own true f =
            let q = eqb-true i n f in
            let x = found_first j e in
            let o = (h.entries (start + d) j e).0 in
            let y : representative named i ≡ representative named n = ap (representative named) q in
            absurd (omega arith)
        go i l own false f = let ne = eqb-false i n f in h.placed i (omega (arith, ne)) own

-- No word is above the cards.
pub words_most : (named : ℕ → List ℕ) (slots n : ℕ) (table : List ℕ) → Held named slots n table → (k : ℕ) → get_or table k 0 ≤ n
words_most named slots n table h k = go (eqb (get_or table k 0) 0) refl
  where
    go : (b : Bool) → eqb (get_or table k 0) 0 ≡ b → get_or table k 0 ≤ n
    go true f = omega (arith, eqb-true (get_or table k 0) 0 f)
    go false f =
        let ne = eqb-false (get_or table k 0) 0 f in
        let e : get_or table k 0 ≡ (get_or table k 0 - 1) + 1 = omega (arith, ne) in
        omega (arith, (h.entries k (get_or table k 0 - 1) e).0)

-- ---- A search.

module _ (named : ℕ → List ℕ) (table name : List ℕ) (start d : ℕ) (passed : (e : ℕ) → e < d → Other named table name (start + e)) where
  pub probed_zero : d < most_probes → get_or table (start + d) 0 ≡ 0 → Probed named table name start d
  probed_zero l z = record { most = omega arith; passed = passed; here = λ k j e. absurd (omega arith) }

  pub probed_same : d < most_probes → same_name name (named (get_or table (start + d) 0 - 1)) ≡ true → Probed named table name start d
  probed_same l s = record {
    most = omega arith;
    passed = passed;
    here = λ k j e. let q : j ≡ get_or table (start + d) 0 - 1 = omega arith in ap (λ (m : ℕ). same_name name (named m)) q ∙ s;
  }

-- ---- Where a search begins.

pub home_less : (a s : ℕ) → a < 4294967296 → 0 < s → a * s / 4294967296 < s
home_less a s h k =
    let m : a * s < 4294967296 * s = mul-lt-mul_of_pos_right h k in
    let n : 4294967296 * s ≡ s * 4294967296 = mul_comm 4294967296 s in
    let l : a * s < s * 4294967296 = omega arith in
    let z : 0 < 4294967296 = omega arith in
    (div-lt_iff_lt-mul z).1 l

pub start_is : (slots hash start : ℕ) (name : List ℕ) → start ≡ home slots hash → hash ≡ hash_of name → start ≡ home_of slots name
unfolding home_of
start_is slots hash start name e q = e ∙ ap (home slots) q

-- ---- One card.

pub false_true : {A : Type 0} → false ≡ true → A
false_true e = absurd cc

pub true_false : {A : Type 0} → true ≡ false → A
true_false e = absurd cc

module _ (named : ℕ → List ℕ) (table numbers : List ℕ) (n start d : ℕ) (h : Held named (length table - most_probes) n table)
    (at : start ≡ home_of (length table - most_probes) (named n)) (p : Probed named table (named n) start d) (far : d ≡ most_probes → ⊥) where
  few : d < most_probes
  few = omega (arith, p.most, far)

  pub turned_new : get_or table (start + d) 0 ≡ 0 → start + d < length table → Turned named n true (set table (start + d) (n + 1)) numbers (set numbers n n)
  turned_new e room = record {
    held = λ t. rw (length-set table (start + d) (n + 1)) (held_new named (length table - most_probes) table n h start d at p few e room);
    numbered = λ t. ap (set numbers n) (sym (vacant_first named (length table - most_probes) table n h start d at p few e));
    untouched = true_false;
  }

  pub turned_old : (get_or table (start + d) 0 ≡ 0 → ⊥) → Turned named n true table numbers (set numbers n (get_or table (start + d) 0 - 1))
  turned_old ne =
      let e : get_or table (start + d) 0 ≡ (get_or table (start + d) 0 - 1) + 1 = omega (arith, ne) in
      record {
        held = λ t. held_old named (length table - most_probes) table n h start d at p few (get_or table (start + d) 0 - 1) e;
        numbered = λ t. ap (set numbers n) (found_first named (length table - most_probes) table n h start d at p few (get_or table (start + d) 0 - 1) e);
        untouched = true_false;
      }
