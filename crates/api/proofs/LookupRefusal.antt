-- What a store and lent rows that are not refused are, and the one number that every lookup refuses with.
use mathlib.Core.Path.{◌≡◌, refl, sym, ◌∙◌}
use mathlib.Core.List.{List}
use mathlib.Core.Bool.{Bool, true, false}
use Prim.Native.Nat.{ℕ}
use native.Mathlib.Omega.{arith}
use lib.Dec.{eqb}
use borrow.Author.Tests.{eqb-true, eq-eqb, ne_eqb}
use Rattle.definition.specs.Lists.{choose}
use Rattle.definition.specs.Store.{account_in, too_short, sound, store_refusal}
use Rattle.definition.specs.LentRows.{rows_refusal}
use Rattle.std.specs.Prelude.{Result, Ok, Err}
use Rattle.definition.specs.declared.refusal.Refusal.{Refusal}
use Rattle.definition.specs.declared.refusal.Refusal.TheVariants as R
use Rattle.definition.specs.Numbers.{refusal_number, told_number}
use Rattle.store_check.specs.Check.{Checked}
use Rattle.store_check.proofs.Sound.{accepted}
use Rattle.api.specs.LookupRefusal.{lookup_refusal}

-- ---- Nothing is refused.

-- A store and lent rows that no lookup refuses.
pub record Unrefused (text words rows : List ℕ) : Type 0 where
  pub kept : store_refusal text words ≡ 0
  pub long : too_short text words ≡ false
  pub sound : sound text words ≡ true
  pub passed : rows_refusal (account_in text words).documents rows ≡ 0

pub both : (n m : ℕ) → choose (eqb n 0) m n ≡ 0 → (n ≡ 0) × (m ≡ 0)
both n m e = go (eqb n 0) refl e
  where
    go : (b : Bool) → eqb n 0 ≡ b → choose b m n ≡ 0 → (n ≡ 0) × (m ≡ 0)
    go true s e = (eqb-true n 0 s, e)
    go false s e = absurd (let z : true ≡ false = sym (eq-eqb n 0 e) ∙ s in let y : ◌≡◌ {A = ℕ} 0 1 = cc in omega arith)

module _ (text words rows : List ℕ) where
  pub unrefused : lookup_refusal text words rows ≡ 0 → Unrefused text words rows
  unfolding lookup_refusal
  unrefused e =
      let b = both (store_refusal text words) (rows_refusal (account_in text words).documents rows) e in
      let a = accepted text words b.0 in
      record { kept = b.0; long = a.0; sound = a.1; passed = b.1 }

-- ---- The number, return by return.

-- No refusal has the number 0, which stands for none.
pub numbered : (r : Refusal) → refusal_number r ≡ 0 → ⊥
numbered R.CardsNotWhole e = omega arith
numbered R.UnknownKind e = omega arith
numbered R.ItemMisplaced e = omega arith
numbered R.NameMisplaced e = omega arith
numbered R.PartMisplaced e = omega arith
numbered R.BuiltInsFaulty e = omega arith
numbered R.SliceTooShort e = omega arith
numbered R.StoreTooShort e = omega arith
numbered R.StoreUnsound e = omega arith
numbered R.DocumentsFull e = omega arith
numbered R.TextFull e = omega arith
numbered R.CardsFull e = omega arith
numbered R.RowsUnsound e = omega arith
numbered R.NamePresence e = omega arith
numbered R.NameBytes e = omega arith
numbered R.NotInGrammar e = omega arith
numbered R.NestedTooDeep e = omega arith
numbered R.CardSliceTooShort e = omega arith

pub store_number : (r : Result Unit Refusal) (text words : List ℕ) → Checked r text words → told_number r ≡ store_refusal text words
store_number (Ok u) text words c = c.number
store_number (Err e) text words c = c.number

module _ (text words rows : List ℕ) where
  pub store_refused : (r : Refusal) → refusal_number r ≡ store_refusal text words → refusal_number r ≡ lookup_refusal text words rows
  unfolding lookup_refusal
  store_refused r e = rw (← e, ne_eqb (refusal_number r) 0 (numbered r))

  pub rows_told : store_refusal text words ≡ 0 → rows_refusal (account_in text words).documents rows ≡ lookup_refusal text words rows
  unfolding lookup_refusal
  rows_told s = rw s
