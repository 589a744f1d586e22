-- What hashes tell of cards.
use mathlib.Core.Path.{◌≡◌, sym, ◌∙◌}
use mathlib.Core.List.{List}
use mathlib.Core.Bool.{false}
use Prim.Native.Nat.{ℕ, ◌<◌}
use lib.ListN.{get_or}
use Rattle.definition.specs.Names.{same_name}
use Rattle.name.specs.Hashes.{hash_of}
use Rattle.name.proofs.HashLaws.{hashes_differ}
use Rattle.numbering.specs.Hashes.{HashesAre}

module _ (named : ℕ → List ℕ) (n : ℕ) (hashes : List ℕ) (p : HashesAre named n hashes) where
  pub name_differs : (i : ℕ) (name : List ℕ) (hash : ℕ) → i < n → hash ≡ hash_of name → (get_or hashes i 0 ≡ hash → ⊥) → same_name name (named i) ≡ false
  name_differs i name hash h q ne = hashes_differ name (named i) (λ e. ne (p.hashes_are i h ∙ sym e ∙ sym q))
