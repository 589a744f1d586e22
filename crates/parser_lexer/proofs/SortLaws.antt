-- What `==` of two sorts says of their numbers.
use mathlib.Core.Path.{◌≡◌, refl, sym, ◌∙◌}
use mathlib.Core.Bool.{Bool, true, false, not}
use Prim.Native.Nat.{ℕ}
use denote.Enum.Declared.{tag_of}
use denote.Enum.Bare.{tag_one}
use lib.Dec.{eqb}
use borrow.Author.Tests.{eqb-true, eqb-false, not-true, not-false}
use Rattle.parser_lexer.specs.contracts.sorts.Sort.{the_type}
use Rattle.parser_lexer.specs.declared.sorts.Sort.{Sort}
use Rattle.parser_lexer.specs.declared.sorts.Sort.TheVariants as S
use Rattle.parser_lexer.specs.Sorts.{sort_number}

-- The number is the variant's place, by which code compares.
tagged : (s : Sort) → tag_of the_type s ≡ sort_number s
tagged S.Bang = refl
tagged S.Dollar = refl
tagged S.Amp = refl
tagged S.ParenOpens = refl
tagged S.ParenCloses = refl
tagged S.Dots = refl
tagged S.Colon = refl
tagged S.Equals = refl
tagged S.At = refl
tagged S.BracketOpens = refl
tagged S.BracketCloses = refl
tagged S.BraceOpens = refl
tagged S.Bar = refl
tagged S.BraceCloses = refl
tagged S.Int = refl
tagged S.Float = refl
tagged S.String = refl
tagged S.True = refl
tagged S.False = refl
tagged S.Null = refl
tagged S.Schema = refl
tagged S.Scalar = refl
tagged S.Type = refl
tagged S.Interface = refl
tagged S.Union = refl
tagged S.Enum = refl
tagged S.Input = refl
tagged S.Directive = refl
tagged S.Extend = refl
tagged S.Implements = refl
tagged S.Repeatable = refl
tagged S.On = refl
tagged S.Query = refl
tagged S.Mutation = refl
tagged S.Subscription = refl
tagged S.QueryLocation = refl
tagged S.MutationLocation = refl
tagged S.SubscriptionLocation = refl
tagged S.FieldLocation = refl
tagged S.FragmentDefinitionLocation = refl
tagged S.FragmentSpreadLocation = refl
tagged S.InlineFragmentLocation = refl
tagged S.VariableDefinitionLocation = refl
tagged S.SchemaLocation = refl
tagged S.ScalarLocation = refl
tagged S.ObjectLocation = refl
tagged S.FieldDefinitionLocation = refl
tagged S.ArgumentDefinitionLocation = refl
tagged S.InterfaceLocation = refl
tagged S.UnionLocation = refl
tagged S.EnumLocation = refl
tagged S.EnumValueLocation = refl
tagged S.InputObjectLocation = refl
tagged S.InputFieldDefinitionLocation = refl
tagged S.Name = refl
tagged S.EndOfText = refl
tagged S.Unreadable = refl

-- The number tells the sort.
pub one_sort : (s t : Sort) → sort_number s ≡ sort_number t → s ≡ t
one_sort s t e = tag_one the_type tt s t (tagged s ∙ e ∙ sym (tagged t))

module _ (s : Sort) {n : ℕ} where
  same : eqb (tag_of the_type s) n ≡ true → sort_number s ≡ n
  same e = sym (tagged s) ∙ eqb-true (tag_of the_type s) n e

  other : eqb (tag_of the_type s) n ≡ false → sort_number s ≡ n → ⊥
  other e h = eqb-false (tag_of the_type s) n e (tagged s ∙ h)

  -- Of a sort and a variant, by the variant's number.
  pub is : {r : Bool} → r ≡ eqb (tag_of the_type s) n → r ≡ true → sort_number s ≡ n
  is e p = same (sym e ∙ p)

  pub is_other : {r : Bool} → r ≡ eqb (tag_of the_type s) n → r ≡ false → sort_number s ≡ n → ⊥
  is_other e p = other (sym e ∙ p)

  -- The same of `!=`.
  pub differs : {r : Bool} → r ≡ not (eqb (tag_of the_type s) n) → r ≡ true → sort_number s ≡ n → ⊥
  differs e p = other (not-true (eqb (tag_of the_type s) n) (sym e ∙ p))

  pub differs_not : {r : Bool} → r ≡ not (eqb (tag_of the_type s) n) → r ≡ false → sort_number s ≡ n
  differs_not e p = same (not-false (eqb (tag_of the_type s) n) (sym e ∙ p))

-- Of any two.
module _ (s t : Sort) {r : Bool} where
  pub is_same : r ≡ eqb (tag_of the_type s) (tag_of the_type t) → r ≡ true → sort_number s ≡ sort_number t
  is_same e p = is s e p ∙ tagged t

  pub is_not_same : r ≡ eqb (tag_of the_type s) (tag_of the_type t) → r ≡ false → sort_number s ≡ sort_number t → ⊥
  is_not_same e p h = is_other s e p (h ∙ sym (tagged t))

  pub differ : r ≡ not (eqb (tag_of the_type s) (tag_of the_type t)) → r ≡ true → sort_number s ≡ sort_number t → ⊥
  differ e p h = differs s e p (h ∙ sym (tagged t))

  pub differ_not : r ≡ not (eqb (tag_of the_type s) (tag_of the_type t)) → r ≡ false → sort_number s ≡ sort_number t
  differ_not e p = differs_not s e p ∙ tagged t
