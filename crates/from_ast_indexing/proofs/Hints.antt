-- Where the search for a hash may begin, and what a hash that comes next does to it.
use mathlib.Core.Path.{◌≡◌, refl, ◌∙◌, ap}
use mathlib.Core.List.{List, [], ◌∷◌, ◌++◌}
use mathlib.Core.Bool.{Bool, true, false}
use Prim.Native.Nat.{ℕ, ◌%◌, ◌≤◌, ◌<◌}
use native.Mathlib.Nat.{mod-lt}
use native.Mathlib.Omega.{arith}
use lib.Dec.{eqb, ltb}
use lib.ListN.{length, get_or, set, length-append, length-set, get_or-append}
use lib.Seq.{get_or-set_same, get_or-set_other, get_or_at}
use borrow.Author.Tests.{eqb-true, eqb-false, ltb-true, ltb-false}
use Rattle.from_ast_indexing.specs.Entering.{Hinted}

pub hint_none : (buckets : List ℕ) → 0 < length buckets → Hinted [] buckets
hint_none buckets h = record { slots = h; hinted = λ j l. absurd (omega arith) }

module _ (hashes buckets : List ℕ) (h : Hinted hashes buckets) (hash from : ℕ) (l : from ≤ get_or buckets (hash % length buckets) 0) where
  -- None before has the hash.
  pub hint_passed : (j : ℕ) → j < from → j < length hashes → get_or hashes j 0 ≡ hash → ⊥
  hint_passed j k capacity e =
      let q : get_or buckets (get_or hashes j 0 % length buckets) 0 ≡ get_or buckets (hash % length buckets) 0 =
      ap (λ (p : ℕ). get_or buckets (p % length buckets) 0) e in
      omega (arith, h.hinted j capacity)

  own_slot : get_or (set buckets (hash % length buckets) from) (hash % length buckets) 0 ≡ from
  own_slot = get_or-set_same buckets (hash % length buckets) from 0 (mod-lt hash h.slots)

  -- No word grows.
  slot_most : (s j : ℕ) → get_or buckets s 0 ≤ j → get_or (set buckets (hash % length buckets) from) s 0 ≤ j
  slot_most s j n = go (eqb s (hash % length buckets)) refl
    where
      go : (b : Bool) → eqb s (hash % length buckets) ≡ b → get_or (set buckets (hash % length buckets) from) s 0 ≤ j
      go true e =
          let q = eqb-true s (hash % length buckets) e in
          let new : get_or (set buckets (hash % length buckets) from) s 0 ≡ from =
          ap (λ (k : ℕ). get_or (set buckets (hash % length buckets) from) k 0) q ∙ own_slot in
          let old : get_or buckets s 0 ≡ get_or buckets (hash % length buckets) 0 = ap (λ (k : ℕ). get_or buckets k 0) q in
          omega arith
      go false e =
          let new = get_or-set_other buckets (hash % length buckets) s from 0 (eqb-false s (hash % length buckets) e) in
          omega arith

  kept_length : length (set buckets (hash % length buckets) from) ≡ length buckets
  kept_length = length-set buckets (hash % length buckets) from

  pub hint_kept : Hinted hashes (set buckets (hash % length buckets) from)
  hint_kept = record {
    slots = omega (arith, kept_length, h.slots);
    hinted = λ j k. rw kept_length (slot_most (get_or hashes j 0 % length buckets) j (h.hinted j k));
  }

  more_at : from ≤ length hashes → (j : ℕ) → j < length (hashes ++ (hash ∷ [])) →
      get_or (set buckets (hash % length buckets) from) (get_or (hashes ++ (hash ∷ [])) j 0 % length buckets) 0 ≤ j
  more_at capacity j k = go (ltb j (length hashes)) refl
    where
      go : (b : Bool) → ltb j (length hashes) ≡ b →
          get_or (set buckets (hash % length buckets) from) (get_or (hashes ++ (hash ∷ [])) j 0 % length buckets) 0 ≤ j
      go true e =
          let i = ltb-true j (length hashes) e in
          rw (get_or-append hashes (hash ∷ []) 0 j i) (slot_most (get_or hashes j 0 % length buckets) j (h.hinted j i))
      go false e =
          let i = ltb-false j (length hashes) e in
          let at : length hashes ≡ j = omega (arith, length-append hashes (hash ∷ [])) in
          let q : get_or (set buckets (hash % length buckets) from) (get_or (hashes ++ (hash ∷ [])) j 0 % length buckets) 0 ≡ from =
          ap (λ (p : ℕ). get_or (set buckets (hash % length buckets) from) (p % length buckets) 0) (get_or_at hashes hash [] 0 j at) ∙ own_slot in
          omega arith

  pub hint_more : from ≤ length hashes → Hinted (hashes ++ (hash ∷ [])) (set buckets (hash % length buckets) from)
  hint_more capacity = record {
    slots = omega (arith, kept_length, h.slots);
    hinted = λ j k. rw kept_length (more_at capacity j k);
  }
