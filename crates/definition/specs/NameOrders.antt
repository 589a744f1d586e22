-- What is claimed of the comparison of names (2.4). `names_ordered` in proofs/NamesInOrder.antt is its proof.
use Rattle.std.specs.Prelude.{◌≡◌, List, ◌∷◌, ◌++◌, ◌⊎◌, ℕ, ◌<◌}
use Rattle.std.specs.declared.cmp.Ordering.TheVariants.{Less, Equal}
use Rattle.std.specs.Ordering.{ordering_reverse}
use Rattle.definition.specs.Names.{compare_names}

pub record NamesOrdered : Type 0 where
  -- The first byte in which they differ decides, and a shorter beginning is before.
  pub byte : (p xs ys : List ℕ) (a b : ℕ) → a < b → compare_names (p ++ (a ∷ xs)) (p ++ (b ∷ ys)) ≡ Less
  pub shorter : (p ys : List ℕ) (b : ℕ) → compare_names p (p ++ (b ∷ ys)) ≡ Less
  -- Equal exactly where the bytes are.
  pub equal : (m n : List ℕ) → compare_names m n ≡ Equal → m ≡ n
  pub itself : (n : List ℕ) → compare_names n n ≡ Equal
  -- Before and after are each other's reverse.
  pub reverse : (m n : List ℕ) → compare_names n m ≡ ordering_reverse (compare_names m n)
  pub transitive : (l m n : List ℕ) → compare_names l m ≡ Less → compare_names m n ≡ Less → compare_names l n ≡ Less
  -- One of the three holds, and no two of them.
  pub one_holds : (m n : List ℕ) → (compare_names m n ≡ Less) ⊎ ((m ≡ n) ⊎ (compare_names n m ≡ Less))
  pub no_two : (m n : List ℕ) → compare_names m n ≡ Less → (m ≡ n → ⊥) × (compare_names n m ≡ Less → ⊥)
