-- Demand 3, in 01's order: the store holds the account, the account of a run, what holds between two drawings, and the bounds of a drawing.
-- Each is a type; proofs/Demand3.antt has a proof of each.
use Rattle.std.specs.Prelude.{◌≡◌, List, ◌∷◌, ◌++◌, Bool, true, false, ◌&&◌, ◌||◌, ℕ, suc, ◌+◌, ◌*◌, ◌≤◌, ◌<◌, eqb, leb, ltb, length, get_or}
use Rattle.std.proofs.Math.Option.{none}
use Rattle.definition.specs.Lists.{All, filter, chunks}
use Rattle.definition.specs.Answers.{absent, answer}
use Rattle.definition.specs.Cards.{card_words, cards_of}
use Rattle.definition.specs.Catalogue.{Row}
use Rattle.definition.specs.Errors.{Error, error}
use Rattle.definition.specs.Merge.{tallies}
use Rattle.definition.specs.Account.{Account}
use Rattle.definition.specs.Refusals.{opening_refusal, card_capacity}
use Rattle.definition.specs.Store.{documents_at, document_words, cards_at, document_count, text_used_of, cards_used_of, store_refusal}
use Rattle.definition.specs.Outcomes.{BuildOutcome, open_store, add_ast, adopt_orphan_extensions, ignore_builtin_redefinitions, build, check_rows}
use Rattle.definition.specs.Calls.{Call, Reply, opening, answered, opened_account, joined, adopting_from, ignoring_from, run_account, Store, store, step_store}
use Rattle.definition.specs.Calls.{run_store, account_after, effect, lent_to, only_reads}
use Rattle.definition.specs.Runs.{Accepted, Holds, Start, store_left, first_store, first_account, store_after, Ran, store_at, BuiltAt, NoneOpenedBetween, refusal}
use Rattle.definition.specs.Runs.{left_in}
use Rattle.definition.specs.Growth.{rows_of, built_rows, Grown, OrderKept}

-- ==== The store holds the account. All of it holds of any text and words, not of runs alone.

-- "Opening files document 0 with both switches 0", whatever the store held before.
abbrev pub OpeningHolds : Type 0
OpeningHolds =
    (text words lent cards : List ℕ) → Accepted (open_store text words lent cards) →
    Holds (store_left (open_store text words lent cards)) (opened_account lent cards)

-- Filing: "the document joins at the end", filed under the ignore switch as it stands.
abbrev pub FilingHolds : Type 0
FilingHolds =
    (text words lent cards : List ℕ) → Accepted (add_ast text words lent cards) →
    (a : Account) × Holds (store text words) a × Holds (store_left (add_ast text words lent cards)) (joined a lent cards)

-- Turning on: "that switch becomes 1".
abbrev pub AdoptingHolds : Type 0
AdoptingHolds =
    (text words : List ℕ) → Accepted (adopt_orphan_extensions text words) →
    (a : Account) × Holds (store text words) a × Holds (store_left (adopt_orphan_extensions text words)) (adopting_from a)

abbrev pub IgnoringHolds : Type 0
IgnoringHolds =
    (text words : List ℕ) → Accepted (ignore_builtin_redefinitions text words) →
    (a : Account) × Holds (store text words) a × Holds (store_left (ignore_builtin_redefinitions text words)) (ignoring_from a)

-- Lists of one length that differ at written places alone.
abbrev pub SameBut : (ℕ → Bool) → List ℕ → List ℕ → Type 0
SameBut is_written xs ys = (length ys ≡ length xs) × ((i : ℕ) → is_written i ≡ false → get_or ys i 0 ≡ get_or xs i 0)

-- The n places from `at` on.
unfoldable pub places : ℕ → ℕ → ℕ → Bool
places at n i = leb at i && ltb i (at + n)

-- "Filing writes its row, cards, text and counts into the unused part; all else stays." Of the words these are the count of documents, the text and
-- the cards used, the row after the last one and n cards after the last one.
unfoldable pub filed_places : List ℕ → ℕ → ℕ → Bool
filed_places words n i =
    eqb i 0 || places 3 2 i ||
    places (documents_at + document_words * document_count words) document_words i ||
    places (cards_at + card_words * cards_used_of words) (card_words * n) i

abbrev pub FilingWrites : Type 0
FilingWrites =
    (text words lent cards : List ℕ) → Accepted (add_ast text words lent cards) →
    SameBut (places (text_used_of words) (length lent)) text (add_ast text words lent cards).text ×
    SameBut (filed_places words (length (cards_of cards))) words (add_ast text words lent cards).words

-- Opening writes the counts, the switches, the first row, the cards and the text; all else stays.
unfoldable pub opened_places : ℕ → ℕ → Bool
opened_places n i = places 0 (documents_at + document_words) i || places cards_at (card_words * n) i

abbrev pub OpeningWrites : Type 0
OpeningWrites =
    (text words lent cards : List ℕ) → Accepted (open_store text words lent cards) →
    SameBut (places 0 (length lent)) text (open_store text words lent cards).text ×
    SameBut (opened_places (length (cards_of cards))) words (open_store text words lent cards).words

-- Turning on writes its switch alone.
abbrev pub TurningWrites : Type 0
TurningWrites =
    (text words : List ℕ) →
    ((adopt_orphan_extensions text words).text ≡ text) × SameBut (λ i. eqb i 1) words (adopt_orphan_extensions text words).words ×
    ((ignore_builtin_redefinitions text words).text ≡ text) × SameBut (λ i. eqb i 2) words (ignore_builtin_redefinitions text words).words

-- A refused call leaves every word and byte, of the store and of all that it is lent to write into.
abbrev pub RefusedLeaves : Type 0
RefusedLeaves = (s : Store) (c : Call) → (refusal (step_store s c).1 ≡ 0 → ⊥) → ((step_store s c).0 ≡ s) × (left_in (step_store s c).1 ≡ lent_to (effect c))

-- Calls that only read leave the store.
abbrev pub ReadOnlyLeaves : Type 0
ReadOnlyLeaves = (s : Store) (c : Call) → only_reads (effect c) ≡ true → (step_store s c).0 ≡ s

-- ==== The plain account of a run: "a single claim about the whole list".

-- Which calls are refused and with what answer, the answers of accepted filings and drawings, every row and every error row, and the words past
-- them, are the account's, which "is fed the calls and their arguments, never the store".
abbrev pub Agrees : Type 0
Agrees = (b : Start) (calls : List Call) → run_store (first_store b) calls ≡ run_account (first_account b) calls

-- The same of calls that were done, whoever did them: their replies are the account's.
abbrev pub RunsAgree : Type 0
RunsAgree = (b : Start) (calls : List Call) (replies : List Reply) → Ran (first_store b) calls replies → replies ≡ run_account (first_account b) calls

-- After any list of calls the store holds the account that the same calls leave.
abbrev pub StoreHoldsAccount : Type 0
StoreHoldsAccount = (b : Start) (calls : List Call) → Holds (store_after (first_store b) calls) (account_after (first_account b) calls)

-- "21 and 22 never arise": no store of a run is refused so, and no reply says so.
abbrev pub NeverArise : Type 0
NeverArise =
    (b : Start) (calls : List Call) →
    (store_refusal (store_after (first_store b) calls).text (store_after (first_store b) calls).words ≡ 0) ×
    All (λ r. (refusal r ≡ 21 → ⊥) × (refusal r ≡ 22 → ⊥)) (run_store (first_store b) calls)

-- An accepted opening inside the list starts the account anew: what follows does not hang on what was before.
abbrev pub OpensAnew : Type 0
OpensAnew =
    (b : Start) (calls more : List Call) (lent cards : List ℕ) → opening_refusal lent cards ≡ none →
    run_store (first_store b) (calls ++ (opening lent cards ∷ more)) ≡
    run_store (first_store b) calls ++ (answered (answer 0 0) ∷ run_account (opened_account lent cards) more)

-- ==== Between two drawings of a run, neither refused, with no accepted opening between them, whatever the switches.

-- Each type that a definition had brought at the earlier keeps its place and its heading card, its lists begin with the earlier ones, its explicit
-- fields are found again, and a subtype yes among such types remains; the reading errors begin with the earlier ones.
abbrev pub Growing : Type 0
Growing =
    (b : Start) (calls : List Call) (i j : ℕ) → i < j → NoneOpenedBetween (first_store b) calls i j →
    (o p : BuildOutcome) → BuiltAt (first_store b) calls i o → BuiltAt (first_store b) calls j p →
    Grown (store_at (first_store b) calls i) (store_at (first_store b) calls j) o p

-- Groups keep their order, where the first card is a 21 of a type that a definition had brought (2.3).
abbrev pub GroupsKeepOrder : Type 0
GroupsKeepOrder =
    (b : Start) (calls : List Call) (i j : ℕ) → i < j → NoneOpenedBetween (first_store b) calls i j →
    (o p : BuildOutcome) → BuiltAt (first_store b) calls i o → BuiltAt (first_store b) calls j p →
    OrderKept (store_at (first_store b) calls i) (store_at (first_store b) calls j) o p

-- Drawn rows are never refused with 26: neither over the store as the drawing left it, nor over any store of the run after it, with no accepted
-- opening between.
abbrev pub BuiltRowsPass : Type 0
BuiltRowsPass =
    (b : Start) (calls : List Call) (i j : ℕ) → i ≤ j → NoneOpenedBetween (first_store b) calls i (suc j) →
    (o : BuildOutcome) → BuiltAt (first_store b) calls i o →
    check_rows (store_at (first_store b) calls j).text (store_at (first_store b) calls j).words (rows_of o) ≡ answer 0 0

-- ==== A drawing, of any store.

-- The error rows that a drawing wrote.
unfoldable pub error_from : List ℕ → Error
error_from ws = error (get_or ws 0 0) (get_or ws 1 0) (get_or ws 2 0)

unfoldable pub error_rows : BuildOutcome → List Error
error_rows o = chunks 3 error_from (o.drawing.reading_errors + o.drawing.drawing_errors) o.errors

unfoldable pub has_card : ℕ → Row → Bool
has_card c r = eqb r.card c

unfoldable pub is_error_of : ℕ → Error → Bool
is_error_of c e = eqb e.card c

pub record Bounded (rows errors : List ℕ) (o : BuildOutcome) : Type 0 where
  -- At most 2,304 rows and at most 2,300 errors, so that they fit into the slices.
  pub row_count : length (built_rows o) ≤ card_capacity + 4
  pub error_count : length (error_rows o) ≤ card_capacity
  pub rows_fit : length o.rows ≡ length rows
  pub errors_fit : length o.errors ≡ length errors
  -- No card is in the second word of two rows, nor of two errors.
  pub row_once : (c : ℕ) → (c ≡ absent → ⊥) → length (filter (has_card c) (built_rows o)) ≤ 1
  pub error_once : (c : ℕ) → length (filter (is_error_of c) (error_rows o)) ≤ 1
  -- The count of rows is that of the rows written; "a tally counts the error rows of its number", and the total is the number of error rows.
  pub counted : o.drawing.rows ≡ length (built_rows o)
  pub tallied : o.drawing.tallies.counts ≡ tallies (error_rows o)
  pub total : o.drawing.tallies.total ≡ length (error_rows o)

-- Where it is not refused.
abbrev pub BuildsBounded : Type 0
BuildsBounded =
    (text words rows errors : List ℕ) → (build text words rows errors).drawing.number ≡ 0 → Bounded rows errors (build text words rows errors)

-- ==== Demand 3, whole.

pub record Demand3 : Type 0 where
  pub opening_holds : OpeningHolds
  pub filing_holds : FilingHolds
  pub adopting_holds : AdoptingHolds
  pub ignoring_holds : IgnoringHolds
  pub opening_writes : OpeningWrites
  pub filing_writes : FilingWrites
  pub turning_writes : TurningWrites
  pub refused_leaves : RefusedLeaves
  pub read_only_leaves : ReadOnlyLeaves
  pub agrees : Agrees
  pub runs_agree : RunsAgree
  pub store_holds_account : StoreHoldsAccount
  pub never_arise : NeverArise
  pub opens_anew : OpensAnew
  pub growing : Growing
  pub built_rows_pass : BuiltRowsPass
  pub builds_bounded : BuildsBounded
