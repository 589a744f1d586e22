-- The faults of a name told finer: a card has one exactly where it had one before.
use mathlib.Core.Path.{◌≡◌, refl}
use mathlib.Core.Bool.{Bool, true, false, ◌&&◌, ◌||◌, not}
use Prim.Native.Nat.{ℕ}
use lib.Dec.{eqb}
use borrow.Author.Tests.{eqb-true}
use Rattle.definition.specs.Lists.{choose}
use Rattle.definition.specs.Cards.{Card, Place, is_unnamed, unknown_kind, empty_item, item_outside_text, item_before_sibling_end, item_outside_heading}
use Rattle.definition.specs.Cards.{name_amiss, name_outside_item, name_no_name, name_not_item, misplaced, fault, faults, fault_among}
use Rattle.definition.specs.NameFaults.{span_not_item, faults_of01, FaultyAsBefore}

-- The last five tests, a to be amiss, o outside, n no name, i another span, m misplaced, and u unnamed: where the span of an absent name is asked after,
-- the name is amiss.
last_five : (a o n i m u : Bool) → (u ≡ true → i ≡ true → a ≡ true) →
    eqb (choose o 4 (choose (not u && i) 4 (choose a 27 (choose n 28 (choose m 5 0))))) 0 ≡
    eqb (choose a 4 (choose o 4 (choose n 4 (choose i 4 (choose m 5 0))))) 0
last_five true true n i m u h = refl
last_five true false n true m true h = refl
last_five true false n true m false h = refl
last_five true false n false m true h = refl
last_five true false n false m false h = refl
last_five false true n i m u h = refl
last_five false false true true m true h = refl
last_five false false true true m false h = refl
last_five false false true false m true h = refl
last_five false false true false m false h = refl
last_five false false false true m true h = let q : false ≡ true = h refl refl in cc
last_five false false false true m false h = refl
last_five false false false false m true h = refl
last_five false false false false m false h = refl

-- What comes after a test that both begin with.
same_test : (b : Bool) (n r s : ℕ) → eqb r 0 ≡ eqb s 0 → eqb (choose b n r) 0 ≡ eqb (choose b n s) 0
same_test true n r s e = refl
same_test false n r s e = e

-- An interface or a member without a name lacks one that it must have.
lacking : (p : Place) (c : Card) → is_unnamed c ≡ true → span_not_item p c ≡ true → name_amiss p c ≡ true
unfolding name_amiss span_not_item is_unnamed
lacking p c u i = go (eqb c.kind 21) (eqb c.kind 23) refl refl
  where
    other : (k : ℕ) → c.kind ≡ k → eqb k 4 ≡ false → eqb k 11 ≡ false → eqb k 1 ≡ false →
        choose (eqb c.kind 4 || eqb c.kind 11) (not (is_unnamed c)) (not (eqb c.kind 1) && is_unnamed c) ≡ true
    other k e e4 e11 e1 = rw (e, e4, e11, e1, u)

    go : (a b : Bool) → eqb c.kind 21 ≡ a → eqb c.kind 23 ≡ b →
        choose (eqb c.kind 4 || eqb c.kind 11) (not (is_unnamed c)) (not (eqb c.kind 1) && is_unnamed c) ≡ true
    go true b e f = other 21 (eqb-true _ _ e) refl refl refl
    go false true e f = other 23 (eqb-true _ _ f) refl refl refl
    go false false e f = let q : false ≡ true = rw (e, f) at i in cc

pub faulty_as_before : FaultyAsBefore
unfolding fault_among faults faults_of01 fault name_not_item span_not_item
faulty_as_before p c =
    same_test (unknown_kind p c) 2 _ _ (
    same_test (empty_item p c) 3 _ _ (
    same_test (item_outside_text p c) 3 _ _ (
    same_test (item_before_sibling_end p c) 3 _ _ (
    same_test (item_outside_heading p c) 3 _ _ (
    last_five (name_amiss p c) (name_outside_item p c) (name_no_name p c) (span_not_item p c) (misplaced p c) (is_unnamed c) (lacking p c))))))
