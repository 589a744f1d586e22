-- What is told of a refusal, for callers of the checks.
use mathlib.Core.Path.{◌≡◌, refl}
use mathlib.Core.Bool.{true, false}
use mathlib.Core.Option.{Option, none, some}
use native.Mathlib.Omega.{arith}
use borrow.Author.Rules.{rules}
use Rattle.std.specs.Prelude.{Result, Ok, Err, IsErrAnd}
use Rattle.std.specs.Result.{is_err}
use Rattle.std.proofs.lemmas.Result.{err_from_is_err_and}
use Rattle.definition.specs.declared.Answer.{Answer}
use Rattle.definition.specs.declared.refusal.Refusal.{Refusal}
use Rattle.definition.specs.declared.refusal.Refusal.TheVariants as R
use Rattle.definition.specs.declared.refusal.Refused.{Refused}
use Rattle.definition.specs.Numbers.{refusal_number, refused_answer, done_answer}
use Rattle.ast_check.specs.Checks.{check_option}

-- No refusal has the number 0, which stands for none.
pub numbered : (r : Refusal) → refusal_number r ≡ 0 → ⊥
numbered R.CardsNotWhole e = omega arith
numbered R.UnknownKind e = omega arith
numbered R.ItemMisplaced e = omega arith
numbered R.NameMisplaced e = omega arith
numbered R.PartMisplaced e = omega arith
numbered R.BuiltInsFaulty e = omega arith
numbered R.SliceTooShort e = omega arith
numbered R.StoreTooShort e = omega arith
numbered R.StoreUnsound e = omega arith
numbered R.DocumentsFull e = omega arith
numbered R.TextFull e = omega arith
numbered R.CardsFull e = omega arith
numbered R.RowsUnsound e = omega arith
numbered R.NamePresence e = omega arith
numbered R.NameBytes e = omega arith
numbered R.NotInGrammar e = omega arith
numbered R.NestedTooDeep e = omega arith
numbered R.CardSliceTooShort e = omega arith

-- What a `?` hands on is the refusal that it met.
pub handed_on : (r : Result Unit Refused) (e : Refused) (a : Option Answer) → IsErrAnd r (λ y. y ≡ e) → some (refused_answer e) ≡ a → check_option r ≡ a
handed_on r e a h k = let p = err_from_is_err_and r h in rw (p.1, p.2) k

-- The answer of an entry that hands on a refusal.
pub answer_of : (r : Result Unit Refused) (e : Refused) → IsErrAnd r (λ y. y ≡ e) → done_answer r ≡ refused_answer e
answer_of r e h = let p = err_from_is_err_and r h in rw (p.1, p.2)

-- What a test of a check's result tells.
pub refused_some : (r : Result Unit Refused) → is_err r ≡ true → (e : Refused) × (check_option r ≡ some (refused_answer e))
refused_some (Ok u) h = absurd (search rules)
refused_some (Err e) h = (e, refl)

pub passed_none : (r : Result Unit Refused) → is_err r ≡ false → check_option r ≡ none
passed_none (Ok u) h = refl
passed_none (Err e) h = absurd (search rules)
