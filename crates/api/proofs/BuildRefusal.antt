-- What a drawing refuses, return by return, and what holds where it refuses nothing. n is the number of 21 and 22 that was computed.
use mathlib.Core.Path.{◌≡◌, refl}
use mathlib.Core.List.{List}
use mathlib.Core.Bool.{Bool, true, false, ◌||◌}
use Prim.Native.Nat.{ℕ, ◌<◌, ◌≤◌}
use native.Mathlib.Omega.{arith}
use lib.Dec.{ltb}
use borrow.Author.Tests.{ne_eqb, lt-ltb, le-ltb, ltb-false}
use Rattle.definition.specs.Lists.{choose}
use Rattle.definition.specs.Refusals.{rows_capacity, errors_capacity}
use Rattle.definition.specs.Store.{too_short, sound, store_refusal}
use Rattle.store_check.proofs.Sound.{accepted}
use Rattle.api.specs.BuildRefusal.{capacity_refusal, build_refusal}
use Rattle.api.proofs.LookupRefusal.{both}

-- ---- The number, return by return.

module _ (text words : List ℕ) (rows errors n : ℕ) (e : n ≡ store_refusal text words) where
  pub before_capacity : (n ≡ 0 → ⊥) → n ≡ build_refusal text words rows errors
  unfolding build_refusal
  before_capacity z = rw (← e, ne_eqb n 0 z)

  module _ (z : n ≡ 0) where
    pub short_rows : rows < rows_capacity → 7 ≡ build_refusal text words rows errors
    unfolding build_refusal capacity_refusal
    short_rows h = rw (← e, z, lt-ltb rows rows_capacity h)

    pub short_errors : rows_capacity ≤ rows → errors < errors_capacity → 7 ≡ build_refusal text words rows errors
    unfolding build_refusal capacity_refusal
    short_errors l h = rw (← e, z, le-ltb rows rows_capacity l, lt-ltb errors errors_capacity h)

    pub enough_capacity : rows_capacity ≤ rows → errors_capacity ≤ errors → 0 ≡ build_refusal text words rows errors
    unfolding build_refusal capacity_refusal
    enough_capacity l h = rw (← e, z, le-ltb rows rows_capacity l, le-ltb errors errors_capacity h)

-- ---- Nothing is refused.

-- A store and two slices that a drawing does not refuse.
pub record Drawable (text words : List ℕ) (rows errors : ℕ) : Type 0 where
  pub long : too_short text words ≡ false
  pub sound : sound text words ≡ true
  pub rows_capacity_lem : rows_capacity ≤ rows
  pub errors_capacity_lem : errors_capacity ≤ errors

record Roomy (rows errors : ℕ) : Type 0 where
  pub rows_capacity_lem : rows_capacity ≤ rows
  pub errors_capacity_lem : errors_capacity ≤ errors

unshort : (rows errors : ℕ) → capacity_refusal rows errors ≡ 0 → Roomy rows errors
unfolding capacity_refusal
unshort rows errors e = go (ltb rows rows_capacity) (ltb errors errors_capacity) refl refl e
  where
    go : (b c : Bool) → ltb rows rows_capacity ≡ b → ltb errors errors_capacity ≡ c → ◌≡◌ {A = ℕ} (choose (b || c) 7 0) 0 → Roomy rows errors
    go true c p q e = absurd (omega arith)
    go false true p q e = absurd (omega arith)
    go false false p q e = record { rows_capacity_lem = ltb-false rows rows_capacity p; errors_capacity_lem = ltb-false errors errors_capacity q }

pub drawable : (text words : List ℕ) (rows errors : ℕ) → build_refusal text words rows errors ≡ 0 → Drawable text words rows errors
unfolding build_refusal
drawable text words rows errors e =
    let b = both (store_refusal text words) (capacity_refusal rows errors) e in
    let a = accepted text words b.0 in
    let u = unshort rows errors b.1 in
    record { long = a.0; sound = a.1; rows_capacity_lem = u.rows_capacity_lem; errors_capacity_lem = u.errors_capacity_lem }
