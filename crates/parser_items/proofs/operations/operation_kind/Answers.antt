use mathlib.Core.Path.{◌≡◌, refl, sym, ap}
use mathlib.Core.Bool.{Bool, true, false}
use Prim.Native.Nat.{ℕ}
use native.Mathlib.Omega.{arith}
use Rattle.definition.specs.Grammar.{within}
use Rattle.std.specs.Prelude.{None}
use Rattle.parser_laws.proofs.Tests.{within_bounds}
use Rattle.parser_lexer.specs.declared.sorts.Sort.{Sort}
use Rattle.parser_lexer.specs.declared.sorts.Sort.TheVariants as S
use Rattle.parser_lexer.specs.Sorts.{sort_number}
use Rattle.parser_lexer.proofs.SortLaws.{one_sort}
use Rattle.parser_items.specs.Operations.{operation_kind}
use Rattle.parser_items.proofs.operations.operation_kind.Goals as goal

other : (n : ℕ) → (n ≡ 32 → ⊥) → (n ≡ 33 → ⊥) → (n ≡ 34 → ⊥) → None ≡ operation_kind n
other n p q r = go (within 32 34 n) refl
  where
    go : (t : Bool) → within 32 34 n ≡ t → None ≡ operation_kind n
    go true w = absurd (omega (arith, within_bounds 32 34 n w, p, q, r))
    go false w = rw w

pub returns-in-Query : goal.returns-in-Query
unfolding within
returns-in-Query c = ap (λ (s : Sort). operation_kind (sort_number s)) (sym c.in-Query.is)

pub returns-in-Mutation : goal.returns-in-Mutation
unfolding within
returns-in-Mutation c = ap (λ (s : Sort). operation_kind (sort_number s)) (sym c.in-Mutation.is)

pub returns-in-Subscription : goal.returns-in-Subscription
unfolding within
returns-in-Subscription c = ap (λ (s : Sort). operation_kind (sort_number s)) (sym c.in-Subscription.is)

pub returns-in_default : goal.returns-in_default
returns-in_default c =
    let s = c.args.sort in
    other (sort_number s) (λ e. c.in_default.not-Query (one_sort s S.Query e)) (λ e. c.in_default.not-Mutation (one_sort s S.Mutation e))
    (λ e. c.in_default.not-Subscription (one_sort s S.Subscription e))
