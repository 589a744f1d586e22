-- What the loop that makes a hash uses, and what hashes tell.
use mathlib.Core.Path.{◌≡◌, refl, ap}
use mathlib.Core.List.{List}
use mathlib.Core.Bool.{Bool, true, false}
use Prim.Native.Nat.{ℕ, ◌+◌, ◌*◌, ◌%◌, ◌≤◌, ◌<◌}
use native.Mathlib.Numerals.{add-one}
use native.Mathlib.Omega.{arith}
use lib.ListN.{length, drop, get_or, drop_of_length-le}
use lib.Seq.{drop-cons}
use Rattle.definition.specs.Names.{same_name}
use Rattle.definition.proofs.Lists.{same_name_eq}
use Rattle.name.specs.Hashes.{hash_from, hash_of}

pub hash_start : (s : List ℕ) → hash_of s ≡ hash_from 0 (drop 0 s)
unfolding hash_of
hash_start s = refl

pub hash_turn : (f : ℕ) (s : List ℕ) (i : ℕ) → i < length s →
    hash_from f (drop i s) ≡ hash_from ((f * 16777619 + get_or s i 0) % 4294967296) (drop (i + 1) s)
unfolding hash_from
hash_turn f s i h = rw (add-one, drop-cons s i 0)

pub hash_end : (f : ℕ) (s : List ℕ) (i : ℕ) → length s ≤ i → hash_from f (drop i s) ≡ f
unfolding hash_from
hash_end f s i h = rw (drop_of_length-le s h)

-- Two steps of 32 bits make the hash's one.
pub wraps : (a b : ℕ) → (a % 4294967296 + b) % 4294967296 ≡ (a + b) % 4294967296
wraps a b = omega arith

-- Names with other hashes are other names.
pub hashes_differ : (m n : List ℕ) → (hash_of m ≡ hash_of n → ⊥) → same_name m n ≡ false
hashes_differ m n d = go (same_name m n) refl
  where
    go : (b : Bool) → same_name m n ≡ b → same_name m n ≡ false
    go true e = absurd (d (ap hash_of (same_name_eq m n e)))
    go false e = e
