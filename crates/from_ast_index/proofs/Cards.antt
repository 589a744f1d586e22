-- What a word tells that has a card, or `-`: r is the card, if there is one.
use mathlib.Core.Path.{◌≡◌, sym, ap, ◌∙◌}
use mathlib.Core.Bool.{true, false}
use Prim.Native.Nat.{ℕ, ◌≤◌, ◌<◌}
use native.Mathlib.Omega.{arith}
use Rattle.std.specs.Prelude.{Option, Some, None, MatchOption, ⊤}
use Rattle.std.specs.Option.{is_some, unwrap_or}
use Rattle.definition.specs.Answers.{absent}
use Rattle.from_ast_index.proofs.Lists.{never}

pub word_absent : (r : Option ℕ) (w : ℕ) → unwrap_or r absent ≡ w → is_some r ≡ false → w ≡ absent
word_absent None w e f = sym e
word_absent (Some c) w e f = never f

pub word_present : (r : Option ℕ) (w : ℕ) → unwrap_or r absent ≡ w → MatchOption r ⊤ (λ c. c < absent) → is_some r ≡ true → w ≡ absent → ⊥
word_present None w e k f a = never (sym f)
word_present (Some c) w e k f a = omega (arith, e, k, a)

-- No number of a card is below `-`, nor below a card at or after it.
pub none_waits : (r : Option ℕ) (w h : ℕ) → unwrap_or r absent ≡ w → r ≡ None → h ≤ absent → h ≤ w
none_waits r w h e is l = let q : absent ≡ w = sym (ap (λ o. unwrap_or o absent) is) ∙ e in omega (arith, q, l)

pub some_waits : (r : Option ℕ) (w first h : ℕ) → unwrap_or r absent ≡ w → r ≡ Some first → h ≤ first → h ≤ w
some_waits r w first h e is l = let q : first ≡ w = sym (ap (λ o. unwrap_or o absent) is) ∙ e in omega (arith, q, l)
