-- What demand 3 says of runs: where a run starts, the store between its calls, and what stands at a place of its list of calls.
use Rattle.std.specs.Prelude.{◌≡◌, List, [], ◌∷◌, false, ℕ, suc, ◌<◌, take}
use Rattle.std.proofs.Math.Option.{some}
use Rattle.std.proofs.Math.ListN.{get_elem?}
use Rattle.definition.specs.Answers.{answer, field_refusal, subtype_refusal}
use Rattle.definition.specs.Account.{Account}
use Rattle.definition.specs.Store.{too_short, decode}
use Rattle.definition.specs.Outcomes.{StoreOutcome, BuildOutcome, open_store}
use Rattle.definition.specs.Calls.{Call, opening, building, Reply, answered, built, named, fielded, subtyped, listed}
use Rattle.definition.specs.Calls.{opened_account, Store, leaves, step_store, run_store}

-- "Accepted filing returns 0 and 0", and so do an accepted opening and turning on.
abbrev pub Accepted : StoreOutcome → Type 0
Accepted o = o.answer ≡ answer 0 0

-- Neither 21 nor 22 refuses the store, and it decodes to the account.
abbrev pub Holds : Store → Account → Type 0
Holds s a = (too_short s.text s.words ≡ false) × (decode s.text s.words ≡ some a)

-- ---- Runs.

-- A run "starts with the store that an accepted opening left", over a text and words that held anything before.
pub record Start : Type 0 where
  pub text : List ℕ
  pub words : List ℕ
  pub lent : List ℕ
  pub cards : List ℕ
  pub accepted : Accepted (open_store text words lent cards)

abbrev pub store_left : StoreOutcome → Store
store_left o = (leaves o).0

abbrev pub first_store : Start → Store
first_store b = store_left (open_store b.text b.words b.lent b.cards)

-- The account "starts with the opening's document 0 and both switches 0".
abbrev pub first_account : Start → Account
first_account b = opened_account b.lent b.cards

-- The store as a list of calls leaves it, each call being lent it as the last one left it.
unfoldable pub store_after : Store → List Call → Store
store_after s [] = s
store_after s (c ∷ cs) = store_after (step_store s c).0 cs

-- Calls that were done one after another, each lent the store as the last one left it, with what each answered: whoever does a call, it answers and
-- leaves what the call does to a store.
abbrev pub Ran : Store → List Call → List Reply → Type 0
Ran s [] [] = Unit {0}
Ran s [] (r ∷ rs) = ⊥
Ran s (c ∷ cs) [] = ⊥
Ran s (c ∷ cs) (r ∷ rs) = (t : Store) × (◌≡◌ {A = Store × Reply} (t, r) (step_store s c)) × Ran t cs rs

-- As the call at place i left it.
abbrev pub store_at : Store → List Call → ℕ → Store
store_at s calls i = store_after s (take (suc i) calls)

-- ---- What stands at place i of a run, counted from 0.

-- A drawing that was not refused.
pub record BuiltAt (s : Store) (calls : List Call) (i : ℕ) (o : BuildOutcome) : Type 0 where
  pub rows : List ℕ
  pub errors : List ℕ
  pub call : get_elem? calls i ≡ some (building rows errors)
  pub reply : get_elem? (run_store s calls) i ≡ some (built o)
  pub unrefused : o.drawing.number ≡ 0

-- An accepted opening.
pub record OpenedAt (s : Store) (calls : List Call) (i : ℕ) : Type 0 where
  pub text : List ℕ
  pub cards : List ℕ
  pub call : get_elem? calls i ≡ some (opening text cards)
  pub reply : get_elem? (run_store s calls) i ≡ some (answered (answer 0 0))

abbrev pub NoneOpenedBetween : Store → List Call → ℕ → ℕ → Type 0
NoneOpenedBetween s calls i j = (k : ℕ) → i < k → k < j → OpenedAt s calls k → ⊥

-- ---- Replies.

-- The number of a reply's refusal, 0 where there is none. `root_operation` has no number: its refusals are told by the checking entry.
abbrev pub refusal : Reply → ℕ
refusal (answered a) = a.number
refusal (built o) = o.drawing.number
refusal (named r) = 0
refusal (fielded f) = field_refusal f
refusal (subtyped b) = subtype_refusal b
refusal (listed l) = l.answer.number

-- What a reply says of the slices that its call was lent to write into, at exit.
abbrev pub left_in : Reply → List (List ℕ)
left_in (answered a) = []
left_in (built o) = o.rows ∷ o.errors ∷ []
left_in (named r) = []
left_in (fielded f) = []
left_in (subtyped b) = []
left_in (listed l) = l.list ∷ []
