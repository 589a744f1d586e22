-- Which root a number names, and what is copied of its name.
use mathlib.Core.Path.{◌≡◌}
use mathlib.Core.List.{List, []}
use Prim.Native.Nat.{ℕ, ◌<◌, ◌≤◌}
use native.Mathlib.Omega.{arith}
use Rattle.definition.specs.declared.OperationType.{OperationType}
use Rattle.definition.specs.Answers.{root_kind}
use borrow.Author.Tests.{eq-eqb, ne_eqb, lt-ltb, le-ltb}
use lib.ListN.{length}
use Rattle.definition.specs.declared.OperationType.TheVariants.{Query, Mutation, Subscription}
use Rattle.definition.specs.Lists.{written}
use Rattle.definition.specs.Outcomes.{root_operation}
use Rattle.gimletaspen.specs.Exported.{root_named, copied_name}

module _ (text words rows : List ℕ) (kind : ℕ) where
  pub query_named : kind ≡ 26 → (root_operation text words rows Query).bytes ≡ root_named text words rows kind
  unfolding root_named
  query_named e = rw (eq-eqb kind 26 e)

  pub mutation_named : (kind ≡ 26 → ⊥) → kind ≡ 27 → (root_operation text words rows Mutation).bytes ≡ root_named text words rows kind
  unfolding root_named
  mutation_named a e = rw (ne_eqb kind 26 a, eq-eqb kind 27 e)

  pub subscription_named : (kind ≡ 26 → ⊥) → (kind ≡ 27 → ⊥) → kind ≡ 28 → (root_operation text words rows Subscription).bytes ≡ root_named text words rows kind
  unfolding root_named
  subscription_named a b e = rw (ne_eqb kind 26 a, ne_eqb kind 27 b, eq-eqb kind 28 e)

  pub nothing_named : (kind ≡ 26 → ⊥) → (kind ≡ 27 → ⊥) → (kind ≡ 28 → ⊥) → [] ≡ root_named text words rows kind
  unfolding root_named
  nothing_named a b c = rw (ne_eqb kind 26 a, ne_eqb kind 27 b, ne_eqb kind 28 c)

-- The root of an operation has the kind's name.
pub operation_named : (text words rows : List ℕ) (kind : ℕ) (op : OperationType) → kind ≡ root_kind op →
    (root_operation text words rows op).bytes ≡ root_named text words rows kind
operation_named text words rows kind Query e = query_named text words rows kind e
operation_named text words rows kind Mutation e = mutation_named text words rows kind (λ a. absurd (omega arith)) e
operation_named text words rows kind Subscription e = subscription_named text words rows kind (λ a. absurd (omega arith)) (λ a. absurd (omega arith)) e

pub not_copied : (lent name : List ℕ) → length lent < length name → lent ≡ copied_name lent name
unfolding copied_name
not_copied lent name h = rw (lt-ltb (length lent) (length name) h)

pub copied : (lent name : List ℕ) → length name ≤ length lent → written lent 0 name ≡ copied_name lent name
unfolding copied_name
copied lent name h = rw (le-ltb (length lent) (length name) h)
