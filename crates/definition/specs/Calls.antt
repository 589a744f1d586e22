-- 01, "The plain account of a run": the calls and their replies, by the account, which is fed the calls and never the store; and by a store.
use Rattle.std.specs.Prelude.{List, [], ◌∷◌, ◌++◌, Bool, true, false, ℕ}
use Rattle.std.proofs.Math.Option.{Option, none}
use Rattle.definition.specs.declared.Answer.{Answer}
use Rattle.definition.specs.declared.OperationType.{OperationType}
use Rattle.definition.specs.Lists.{found}
use Rattle.definition.specs.Answers.{answer, FieldLookup, SubtypeLookup}
use Rattle.definition.specs.Account.{Account}
use Rattle.definition.specs.Refusals.{document, opening_refusal, filing_refusal}
use Rattle.definition.specs.Outcomes.{StoreOutcome, BuildOutcome, RootName, ListOutcome, open_store, add_ast, adopt_orphan_extensions}
use Rattle.definition.specs.Outcomes.{ignore_builtin_redefinitions, build, check_rows, root_operation, type_field, is_subtype, iter_origins, extensions}
use Rattle.definition.specs.Outcomes.{implementers_map, parse, build_of, check_of, root_of, field_of_type, subtype_answer, origins_of, extensions_in}
use Rattle.definition.specs.Outcomes.{implementers_of}

-- A call, with all that it is lent besides the store.
pub data Call : Type 0 where
  opening : List ℕ → List ℕ → Call
  filing : List ℕ → List ℕ → Call
  adopting : Call
  ignoring : Call
  building : List ℕ → List ℕ → Call
  checking : List ℕ → Call
  root_asked : List ℕ → OperationType → Call
  field_asked : List ℕ → List ℕ → List ℕ → Call
  subtype_asked : List ℕ → List ℕ → List ℕ → Call
  origins_asked : List ℕ → List ℕ → Call
  extensions_asked : List ℕ → List ℕ → Call
  implementers_asked : List ℕ → List ℕ → Call
  parsing : List ℕ → List ℕ → Call

-- What a call answers, with the contents at exit of the slices lent to be written.
pub data Reply : Type 0 where
  answered : Answer → Reply
  built : BuildOutcome → Reply
  named : RootName → Reply
  fielded : FieldLookup → Reply
  subtyped : SubtypeLookup → Reply
  listed : ListOutcome → Reply

-- ---- What calls make of the account.

-- "It starts with the opening's document 0 and both switches 0."
unfoldable pub opened_account : List ℕ → List ℕ → Account
opened_account text cards = record { documents = document false text cards ∷ []; adopt = false; ignore = false }

-- "Filing: the document joins at the end", with the ignore switch as it is.
unfoldable pub joined : Account → List ℕ → List ℕ → Account
joined a text cards = record { documents = a.documents ++ (document a.ignore text cards ∷ []); adopt = a.adopt; ignore = a.ignore }

-- "Turning on: that switch becomes 1."
unfoldable pub adopting_from : Account → Account
adopting_from a = record { documents = a.documents; adopt = true; ignore = a.ignore }

unfoldable pub ignoring_from : Account → Account
ignoring_from a = record { documents = a.documents; adopt = a.adopt; ignore = true }

-- "Any call, first: where a refusal holds for the arguments and the documents held, the first in order is the answer and the account stays; else" the
-- account is the next one, and the answer 0 and 0.
unfoldable pub or_refused : Account → Option Answer → Account → Account × Reply
or_refused a refusal next = found refusal (λ r. (a, answered r)) (next, answered (answer 0 0))

-- ---- What they make of a store.

pub record Store : Type 0 where
  pub text : List ℕ
  pub words : List ℕ

unfoldable pub store : List ℕ → List ℕ → Store
store text words = record { text = text; words = words }

unfoldable pub leaves : StoreOutcome → Store × Reply
leaves o = (store o.text o.words, answered o.answer)

-- ---- Each call: a line that says all of it.

-- A call writes the store: the account's refusal, the account where there is none, and the outcome over a store. Or it only reads the store: the account's
-- reply, the reply over a store, and the slices that it is lent to write into.
pub data Effect : Type 0 where
  writes : (Account → Option Answer) → (Account → Account) → (List ℕ → List ℕ → StoreOutcome) → Effect
  reads : (Account → Reply) → (List ℕ → List ℕ → Reply) → List (List ℕ) → Effect

-- t and w are the store's text and words. An accepted opening starts the account anew.
abbrev pub effect : Call → Effect
effect (opening text cards) = writes (λ a. opening_refusal text cards) (λ a. opened_account text cards) (λ t w. open_store t w text cards)
effect (filing text cards) = writes (λ a. filing_refusal a text cards) (λ a. joined a text cards) (λ t w. add_ast t w text cards)
effect adopting = writes (λ a. none) adopting_from adopt_orphan_extensions
effect ignoring = writes (λ a. none) ignoring_from ignore_builtin_redefinitions
effect (building rows errors) = reads (λ a. built (build_of a rows errors)) (λ t w. built (build t w rows errors)) (rows ∷ errors ∷ [])
effect (checking rows) = reads (λ a. answered (check_of a rows)) (λ t w. answered (check_rows t w rows)) []
effect (root_asked rows op) = reads (λ a. named (root_of a rows op)) (λ t w. named (root_operation t w rows op)) []
effect (field_asked rows type field) = reads (λ a. fielded (field_of_type a rows type field)) (λ t w. fielded (type_field t w rows type field)) []
effect (subtype_asked rows general other) =
    reads (λ a. subtyped (subtype_answer a rows general other)) (λ t w. subtyped (is_subtype t w rows general other)) []
effect (origins_asked rows lent) = reads (λ a. listed (origins_of a rows lent)) (λ t w. listed (iter_origins t w rows lent)) (lent ∷ [])
effect (extensions_asked rows lent) = reads (λ a. listed (extensions_in a rows lent)) (λ t w. listed (extensions t w rows lent)) (lent ∷ [])
effect (implementers_asked rows lent) =
    reads (λ a. listed (implementers_of a rows lent)) (λ t w. listed (implementers_map t w rows lent)) (lent ∷ [])
-- A text is read without a store.
effect (parsing text lent) = reads (λ a. listed (parse text lent)) (λ t w. listed (parse text lent)) (lent ∷ [])

-- The account after a call, and the reply.
abbrev pub account_step : Account → Effect → Account × Reply
account_step a (writes refusal next outcome) = or_refused a (refusal a) (next a)
account_step a (reads told reply lent) = (a, told a)

unfoldable pub step : Account → Call → Account × Reply
step a c = account_step a (effect c)

-- The store after a call, and the reply.
abbrev pub store_step : Store → Effect → Store × Reply
store_step s (writes refusal next outcome) = leaves (outcome s.text s.words)
store_step s (reads told reply lent) = (s, reply s.text s.words)

unfoldable pub step_store : Store → Call → Store × Reply
step_store s c = store_step s (effect c)

-- The slices that a call is lent to write into besides the store.
abbrev pub lent_to : Effect → List (List ℕ)
lent_to (writes refusal next outcome) = []
lent_to (reads told reply lent) = lent

-- "calls that only read the store"
abbrev pub only_reads : Effect → Bool
only_reads (writes refusal next outcome) = false
only_reads (reads told reply lent) = true

-- ---- Lists of calls, each fed the account, and lent the store, as the last one left it.

-- The replies of the account, "fed the calls and their arguments, never the store".
unfoldable pub run_account : Account → List Call → List Reply
run_account a [] = []
run_account a (c ∷ cs) = let s = step a c in s.1 ∷ run_account s.0 cs

-- The account after a list of calls.
unfoldable pub account_after : Account → List Call → Account
account_after a [] = a
account_after a (c ∷ cs) = account_after (step a c).0 cs

-- The replies over a store.
unfoldable pub run_store : Store → List Call → List Reply
run_store s [] = []
run_store s (c ∷ cs) = let r = step_store s c in r.1 ∷ run_store r.0 cs
