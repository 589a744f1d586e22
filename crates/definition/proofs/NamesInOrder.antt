-- The comparison of names is an order.
use mathlib.Core.Path.{◌≡◌, refl, sym, ap, ◌∙◌}
use mathlib.Core.List.{List, [], ◌∷◌, ◌++◌}
use mathlib.Core.Bool.{Bool, true, false}
use mathlib.Core.Logic.{◌⊎◌, inl, inr}
use Prim.Native.Nat.{ℕ, ◌<◌}
use native.Mathlib.Omega.{arith}
use borrow.Author.Tests.{lt-ltb, ltb-true, ltb-false, eqb-true, eqb-false}
use lib.Dec.{ltb, eqb}
use Rattle.std.proofs.Common.{Ordering, Less, Equal, Greater, nat_cmp, cond}
use Rattle.std.specs.Ordering.{ordering_reverse, ordering_then}
use Rattle.std.specs.Cmp.Lexicographic.{slice_cmp}
use Rattle.std.proofs.lemmas.Cmp.{tied_itself, nat_cmp_total, nat_list_cmp_total}
use Rattle.std.proofs.lemmas.Map.Lookups.{exact_bytes}
use Rattle.definition.specs.Lists.{choose}
use Rattle.definition.specs.Names.{compare_names}
use Rattle.definition.specs.NameOrders.{NamesOrdered}

-- The order of names is std's order of lists of numbers.
pub names_by_std : (m n : List ℕ) → compare_names m n ≡ slice_cmp nat_cmp m n
unfolding compare_names
names_by_std [] [] = refl
names_by_std [] (b ∷ ys) = refl
names_by_std (a ∷ xs) [] = refl
names_by_std (a ∷ xs) (b ∷ ys) = go (ltb a b) (ltb b a) (eqb a b) refl refl refl (names_by_std xs ys)
  where
    go : (s t u : Bool) → ltb a b ≡ s → ltb b a ≡ t → eqb a b ≡ u → compare_names xs ys ≡ slice_cmp nat_cmp xs ys →
        choose s Less (choose t Greater (compare_names xs ys)) ≡ ordering_then (cond s Less (cond u Equal Greater)) (slice_cmp nat_cmp xs ys)
    go true t u e f g ih = refl
    go false true true e f g ih = absurd (omega (arith, ltb-true b a f, eqb-true a b g))
    go false true false e f g ih = refl
    go false false true e f g ih = ih
    go false false false e f g ih = absurd (omega (arith, ltb-false a b e, ltb-false b a f, eqb-false a b g))

byte_decides : (p xs ys : List ℕ) (a b : ℕ) → a < b → slice_cmp nat_cmp (p ++ (a ∷ xs)) (p ++ (b ∷ ys)) ≡ Less
byte_decides [] xs ys a b h = rw (lt-ltb a b h)
byte_decides (c ∷ p) xs ys a b h = rw (tied_itself nat_cmp_total c) (byte_decides p xs ys a b h)

shorter_before : (p ys : List ℕ) (b : ℕ) → slice_cmp nat_cmp p (p ++ (b ∷ ys)) ≡ Less
shorter_before [] ys b = refl
shorter_before (c ∷ p) ys b = rw (tied_itself nat_cmp_total c) (shorter_before p ys b)

pub equal_names : (m n : List ℕ) → compare_names m n ≡ Equal → m ≡ n
equal_names m n e = exact_bytes m n (sym (names_by_std m n) ∙ e)

pub equal_itself : (n : List ℕ) → compare_names n n ≡ Equal
equal_itself n = names_by_std n n ∙ tied_itself nat_list_cmp_total n

reverse_names : (m n : List ℕ) → compare_names n m ≡ ordering_reverse (compare_names m n)
reverse_names m n = names_by_std n m ∙ nat_list_cmp_total.antisymm n m ∙ ap ordering_reverse (sym (names_by_std m n))

transitive_names : (l m n : List ℕ) → compare_names l m ≡ Less → compare_names m n ≡ Less → compare_names l n ≡ Less
transitive_names l m n e f = names_by_std l n ∙ nat_list_cmp_total.trans l m n (sym (names_by_std l m) ∙ e) (sym (names_by_std m n) ∙ f)

one_holds_lem : (m n : List ℕ) → (compare_names m n ≡ Less) ⊎ ((m ≡ n) ⊎ (compare_names n m ≡ Less))
one_holds_lem m n = go (compare_names m n) refl
  where
    go : (o : Ordering) → compare_names m n ≡ o → (compare_names m n ≡ Less) ⊎ ((m ≡ n) ⊎ (compare_names n m ≡ Less))
    go Less e = inl e
    go Equal e = inr (inl (equal_names m n e))
    go Greater e = inr (inr (reverse_names m n ∙ ap ordering_reverse e))

no_two_lem : (m n : List ℕ) → compare_names m n ≡ Less → (m ≡ n → ⊥) × (compare_names n m ≡ Less → ⊥)
no_two_lem m n e = (
  (λ f. let g : compare_names m n ≡ Equal = rw f (equal_itself n) in cc),
  (λ f. let g : Greater ≡ Less = ap ordering_reverse (sym e) ∙ sym (reverse_names m n) ∙ f in cc),
)

pub names_ordered : NamesOrdered
names_ordered = record {
  byte = λ p xs ys a b h. names_by_std (p ++ (a ∷ xs)) (p ++ (b ∷ ys)) ∙ byte_decides p xs ys a b h;
  shorter = λ p ys b. names_by_std p (p ++ (b ∷ ys)) ∙ shorter_before p ys b;
  equal = equal_names;
  itself = equal_itself;
  reverse = reverse_names;
  transitive = transitive_names;
  one_holds = one_holds_lem;
  no_two = no_two_lem;
}
