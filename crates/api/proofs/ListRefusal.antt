-- 7 after 21, 22 and 26, which a lookup that fills a slice refuses.
use mathlib.Core.Path.{◌≡◌, refl}
use mathlib.Core.List.{List}
use mathlib.Core.Bool.{Bool, true, false}
use Prim.Native.Nat.{ℕ, ◌<◌, ◌≤◌}
use native.Mathlib.Omega.{arith}
use lib.Dec.{ltb}
use borrow.Author.Tests.{ne_eqb, lt-ltb, le-ltb, ltb-false}
use Rattle.definition.specs.Lists.{choose}
use Rattle.api.specs.LookupRefusal.{lookup_refusal, list_refusal}
use Rattle.api.proofs.LookupRefusal.{Unrefused, both, unrefused}

-- ---- The number, return by return. r is the number of the refusals before 7.

module _ (text words rows : List ℕ) (capacity len r : ℕ) (e : r ≡ lookup_refusal text words rows) where
  pub before_capacity : (r ≡ 0 → ⊥) → r ≡ list_refusal text words rows capacity len
  unfolding list_refusal
  before_capacity z = rw (← e, ne_eqb r 0 z)

  pub no_capacity : r ≡ 0 → len < capacity → 7 ≡ list_refusal text words rows capacity len
  unfolding list_refusal
  no_capacity z h = rw (← e, z, lt-ltb len capacity h)

  pub enough_capacity : r ≡ 0 → capacity ≤ len → 0 ≡ list_refusal text words rows capacity len
  unfolding list_refusal
  enough_capacity z h = rw (← e, z, le-ltb len capacity h)

-- ---- Nothing is refused.

module _ (text words rows : List ℕ) (capacity len : ℕ) (z : list_refusal text words rows capacity len ≡ 0) where
  parts : (lookup_refusal text words rows ≡ 0) × (choose {A = ℕ} (ltb len capacity) 7 0 ≡ 0)
  unfolding list_refusal
  parts = both (lookup_refusal text words rows) (choose (ltb len capacity) 7 0) z

  pub list_unrefused : Unrefused text words rows
  list_unrefused = unrefused text words rows parts.0

  pub list_capacity : capacity ≤ len
  list_capacity = go (ltb len capacity) refl parts.1
    where
      go : (b : Bool) → ltb len capacity ≡ b → ◌≡◌ {A = ℕ} (choose b 7 0) 0 → capacity ≤ len
      go true s e = absurd (omega arith)
      go false s e = ltb-false len capacity s
