-- Demand 3: each statement of specs/Demands.antt is proved here or, where it stands alone, in the file that is cited.
use mathlib.Core.Path.{◌≡◌, refl, sym, ◌∙◌, ap}
use mathlib.Core.List.{List, [], ◌∷◌, ◌++◌}
use mathlib.Core.Bool.{Bool, true, false}
use mathlib.Core.Option.{Option, none, some}
use Prim.Native.Nat.{ℕ, suc, ◌≤◌, ◌<◌}
use native.Mathlib.Omega.{arith}
use lib.Dec.{eqb}
use lib.ListN.{take, get_elem?}
use borrow.Author.Tests.{eqb-true, eqb-false}
use Rattle.definition.specs.Answers.{answer}
use Rattle.definition.specs.Account.{Account}
use Rattle.definition.specs.Refusals.{opening_refusal}
use Rattle.definition.specs.Store.{account_in, decode, store_refusal, adopting_words, ignoring_words}
use Rattle.definition.specs.Outcomes.{BuildOutcome, accepted, unbuilt, open_store, add_ast, adopt_orphan_extensions, ignore_builtin_redefinitions}
use Rattle.definition.specs.Outcomes.{build_of, build}
use Rattle.definition.specs.Calls.{Call, opening, building, Reply, answered, built, opened_account, joined, adopting_from, ignoring_from, or_refused, step}
use Rattle.definition.specs.Calls.{run_account, account_after, Store, store, leaves, step_store, run_store}
use Rattle.definition.specs.Runs.{Accepted, Holds, Start, store_left, first_store, first_account, store_after, Ran, store_at, BuiltAt, NoneOpenedBetween}
use Rattle.definition.specs.Growth.{rows_of, reading_errors_of, Grown, OrderKept}
use Rattle.definition.specs.Demands.{OpeningHolds, FilingHolds, AdoptingHolds, IgnoringHolds, Agrees, RunsAgree, StoreHoldsAccount, NeverArise}
use Rattle.definition.specs.Demands.{OpensAnew, Growing, GroupsKeepOrder, BuiltRowsPass, Bounded, BuildsBounded, Demand3}
use Rattle.definition.proofs.StoreHolds.{account_held, long_held, sound_held, opening_held, filing_held, adopting_held, ignoring_held}
use Rattle.definition.proofs.StoreAgrees.{HoldsIn, agree, holds_after, same as account-same, sound as store_sound}
use Rattle.definition.proofs.StoreSound.{unrefused_holds}
use Rattle.definition.proofs.StoreWrites.{opening_done, filing_done, turned_done, opening_writes_lem, filing_writes_lem, turning_writes_lem}
use Rattle.definition.proofs.RefusalNumbers.{opening_accepted, filing_accepted, turning_accepted, replies_own}
use Rattle.definition.proofs.RefusedCalls.{refused_leaves_lem, read_only_leaves_lem}
use Rattle.definition.proofs.RunPlaces.{reply_at, account_next, later_between, Later}
use Rattle.definition.proofs.BuiltWords.{rows_written, reading_written, bounded, row_words_of, reading_words_of}
use Rattle.definition.proofs.StoreGrowth.{grown, check_store, rows_pass}

-- ==== The store holds the account.

-- The layout of StoreHolds says what Holds of specs/Runs.antt says.
held : (s : Store) (a : Account) → HoldsIn s a → Holds s a
unfolding decode
held s a h = (
  long_held s.text s.words a.documents a.adopt a.ignore h,
  rw (sound_held s.text s.words a.documents a.adopt a.ignore h, account_held s.text s.words a.documents a.adopt a.ignore h),
)

here : (text words : List ℕ) → store_refusal text words ≡ 0 → HoldsIn (store text words) (account_in text words)
unfolding store
here text words e = unrefused_holds text words e

opened_holds : (text words lent ws : List ℕ) → Accepted (open_store text words lent ws) →
    HoldsIn (store_left (open_store text words lent ws)) (opened_account lent ws)
unfolding leaves store accepted opened_account
opened_holds text words lent ws e =
    let q = opening_accepted text words lent ws e in
    rw (opening_done text words lent ws q.0 q.1) (opening_held text words lent ws q.0 q.1)

pub opening_holds_lem : OpeningHolds
opening_holds_lem text words lent ws e = held (store_left (open_store text words lent ws)) (opened_account lent ws) (opened_holds text words lent ws e)

filed_holds : (text words lent ws : List ℕ) → Accepted (add_ast text words lent ws) →
    HoldsIn (store_left (add_ast text words lent ws)) (joined (account_in text words) lent ws)
unfolding leaves store accepted joined
filed_holds text words lent ws e =
    let q = filing_accepted text words lent ws e in
    rw (filing_done text words lent ws q.0 q.1) (filing_held text words (account_in text words) lent ws (unrefused_holds text words q.0) q.1)

pub filing_holds_lem : FilingHolds
filing_holds_lem text words lent ws e =
    let a = account_in text words in (
      a,
      held (store text words) a (here text words (filing_accepted text words lent ws e).0),
      held (store_left (add_ast text words lent ws)) (joined a lent ws) (filed_holds text words lent ws e),
    )

adopted_holds : (text words : List ℕ) → store_refusal text words ≡ 0 →
    HoldsIn (store_left (adopt_orphan_extensions text words)) (adopting_from (account_in text words))
unfolding leaves store accepted adopting_from adopt_orphan_extensions
adopted_holds text words e =
    let a = account_in text words in
    rw (turned_done text words (adopting_words words) e) (adopting_held text words a.documents a.adopt a.ignore (unrefused_holds text words e))

pub adopting_holds_lem : AdoptingHolds
unfolding adopt_orphan_extensions
adopting_holds_lem text words e =
    let a = account_in text words in
    let q = turning_accepted text words (adopting_words words) e in
    (a, held (store text words) a (here text words q), held (store_left (adopt_orphan_extensions text words)) (adopting_from a) (adopted_holds text words q))

ignored_holds : (text words : List ℕ) → store_refusal text words ≡ 0 →
    HoldsIn (store_left (ignore_builtin_redefinitions text words)) (ignoring_from (account_in text words))
unfolding leaves store accepted ignoring_from ignore_builtin_redefinitions
ignored_holds text words e =
    let a = account_in text words in
    rw (turned_done text words (ignoring_words words) e) (ignoring_held text words a.documents a.adopt a.ignore (unrefused_holds text words e))

pub ignoring_holds_lem : IgnoringHolds
unfolding ignore_builtin_redefinitions
ignoring_holds_lem text words e =
    let a = account_in text words in
    let q = turning_accepted text words (ignoring_words words) e in
    (a, held (store text words) a (here text words q), held (store_left (ignore_builtin_redefinitions text words)) (ignoring_from a) (ignored_holds text words q))

-- ==== The plain account of a run.

first_holds : (b : Start) → HoldsIn (first_store b) (first_account b)
first_holds b = opened_holds b.text b.words b.lent b.cards b.accepted

pub agrees : Agrees
agrees b calls = agree calls (first_store b) (first_account b) (first_holds b)

ran : (s : Store) (cs : List Call) (rs : List Reply) → Ran s cs rs → rs ≡ run_store s cs
unfolding run_store
ran s [] [] n = refl
ran s [] (r ∷ rs) n = absurd n
ran s (c ∷ cs) [] n = absurd n
ran s (c ∷ cs) (r ∷ rs) n =
    ap (λ (x : List Reply). r ∷ x) (ran n.0 cs rs n.2) ∙ ap (λ (p : Store × Reply). p.1 ∷ run_store p.0 cs) n.1

pub runs_agree_lem : RunsAgree
runs_agree_lem b calls replies n = ran (first_store b) calls replies n ∙ agrees b calls

pub store_holds_account_lem : StoreHoldsAccount
store_holds_account_lem b calls =
    held (store_after (first_store b) calls) (account_after (first_account b) calls) (holds_after calls (first_store b) (first_account b) (first_holds b))

pub never_arise_lem : NeverArise
never_arise_lem b calls = (
  store_sound (store_after (first_store b) calls) (account_after (first_account b) calls) (holds_after calls (first_store b) (first_account b) (first_holds b)),
  rw (agrees b calls) (replies_own (first_account b) calls),
)

-- The replies to a list of calls, cut anywhere.
run_append : (a : Account) (cs ds : List Call) → run_account a (cs ++ ds) ≡ run_account a cs ++ run_account (account_after a cs) ds
unfolding run_account account_after
run_append a [] ds = refl
run_append a (c ∷ cs) ds = ap (λ l. (step a c).1 ∷ l) (run_append (step a c).0 cs ds)

anew : (a : Account) (lent ws : List ℕ) (more : List Call) → opening_refusal lent ws ≡ none →
    run_account a (opening lent ws ∷ more) ≡ answered (answer 0 0) ∷ run_account (opened_account lent ws) more
unfolding run_account step or_refused
anew a lent ws more e = rw e

pub opens_anew_lem : OpensAnew
opens_anew_lem b calls more lent ws e =
    agrees b (calls ++ (opening lent ws ∷ more))
    ∙ run_append (first_account b) calls (opening lent ws ∷ more)
    ∙ (λ i. sym (agrees b calls) i ++ anew (account_after (first_account b) calls) lent ws more e i)

-- ==== Between two drawings.

module _ (b : Start) (calls : List Call) where
  account_at : ℕ → Account
  account_at k = account_after (first_account b) (take k calls)

  holds_at : (k : ℕ) → HoldsIn (store_after (first_store b) (take k calls)) (account_at k)
  unfolding account_at
  holds_at k = holds_after (take k calls) (first_store b) (first_account b) (first_holds b)

  built_same : (s : Store) (a : Account) (h : HoldsIn s a) (rows errors : List ℕ) → build s.text s.words rows errors ≡ build_of a rows errors
  unfolding build
  built_same s a h rows errors = rw (store_sound s a h, account-same s a h)

  built_injective : (o p : BuildOutcome) → ◌≡◌ {A = Option Reply} (some (built o)) (some (built p)) → o ≡ p
  built_injective o p e = cc

  -- The drawing at place i writes the rows and the reading errors of the account, which stays.
  at : (i : ℕ) (o : BuildOutcome) → BuiltAt (first_store b) calls i o →
      (rows_of o ≡ row_words_of (account_at (suc i))) × (reading_errors_of o ≡ reading_words_of (account_at (suc i)))
  unfolding step_store step account_at
  at i o d =
      let s = store_after (first_store b) (take i calls) in
      let e : account_at i ≡ account_at (suc i) = sym (account_next (first_account b) calls i (building d.rows d.errors) d.call) in
      let q : o ≡ build_of (account_at (suc i)) d.rows d.errors =
      built_injective o (build s.text s.words d.rows d.errors)
      (sym d.reply ∙ reply_at (first_store b) calls i (building d.rows d.errors) d.call)
      ∙ built_same s (account_at i) (holds_at i) d.rows d.errors
      ∙ ap (λ a. build_of a d.rows d.errors) e in
      let n : (build_of (account_at (suc i)) d.rows d.errors).drawing.number ≡ 0 = rw q at d.unrefused in (
        ap rows_of q ∙ rows_written (account_at (suc i)) d.rows d.errors n,
        ap reading_errors_of q ∙ reading_written (account_at (suc i)) d.rows d.errors n,
      )

  later : (i j : ℕ) → i ≤ j → NoneOpenedBetween (first_store b) calls i (suc j) → Later (account_at (suc i)) (account_at (suc j))
  unfolding account_at
  later i j l n = later_between (first_store b) (first_account b) (first_holds b) calls i (suc j) (omega arith) n

  -- No drawing opens.
  none_opened : (i j : ℕ) (p : BuildOutcome) → BuiltAt (first_store b) calls j p → NoneOpenedBetween (first_store b) calls i j →
      NoneOpenedBetween (first_store b) calls i (suc j)
  none_opened i j p d n k u v q = go (eqb k j) refl
    where
      go : (t : Bool) → eqb k j ≡ t → ⊥
      go true e =
          let z : get_elem? calls j ≡ some (opening q.text q.cards) = rw (eqb-true k j e) at q.call in
          cc d.call
      go false e = let w = eqb-false k j e in n k u (omega arith) q

  between : (i j : ℕ) → i < j → NoneOpenedBetween (first_store b) calls i j →
      (o p : BuildOutcome) → BuiltAt (first_store b) calls i o → BuiltAt (first_store b) calls j p →
      Grown (store_at (first_store b) calls i) (store_at (first_store b) calls j) o p ×
      OrderKept (store_at (first_store b) calls i) (store_at (first_store b) calls j) o p
  between i j l n o p d e =
      let x = at i o d in
      let y = at j p e in
      grown (store_at (first_store b) calls i) (store_at (first_store b) calls j) (account_at (suc i)) (account_at (suc j)) (holds_at (suc i)) (holds_at (suc j))
      (later i j (omega arith) (none_opened i j p e n)) o p x.0 y.0 x.1 y.1

pub growing : Growing
growing b calls i j l n o p d e = (between b calls i j l n o p d e).0

pub groups_keep_order : GroupsKeepOrder
groups_keep_order b calls i j l n o p d e = (between b calls i j l n o p d e).1

pub built_rows_pass_lem : BuiltRowsPass
built_rows_pass_lem b calls i j l n o d =
    let x = at b calls i o d in
    let s = store_at (first_store b) calls j in
    check_store s (account_at b calls (suc j)) (holds_at b calls (suc j)) (rows_of o)
    ∙ rw x.0 (rows_pass (account_at b calls (suc i)) (holds_at b calls (suc i)).admitted (account_at b calls (suc j)) (later b calls i j l n))

-- ==== A drawing.

unbuilt_number : (rows errors : List ℕ) (n : ℕ) → (unbuilt rows errors n).drawing.number ≡ n
unfolding unbuilt
unbuilt_number rows errors n = refl

pub builds_bounded_lem : BuildsBounded
unfolding build
builds_bounded_lem text words rows errors e = go (eqb (store_refusal text words) 0) refl
  where
    go : (t : Bool) → eqb (store_refusal text words) 0 ≡ t → Bounded rows errors (build text words rows errors)
    go true q =
        let r : store_refusal text words ≡ 0 = eqb-true _ _ q in
        let h = unrefused_holds text words r in
        let n : (build_of (account_in text words) rows errors).drawing.number ≡ 0 = rw q at e in
        rw q (bounded (account_in text words) rows errors n h.admitted.cards)
    go false q = absurd (eqb-false _ _ q (sym (unbuilt_number rows errors (store_refusal text words)) ∙ (rw q at e)))

-- ==== Demand 3, whole.

pub demand3 : Demand3
demand3 = record {
  opening_holds = opening_holds_lem;
  filing_holds = filing_holds_lem;
  adopting_holds = adopting_holds_lem;
  ignoring_holds = ignoring_holds_lem;
  opening_writes = opening_writes_lem;
  filing_writes = filing_writes_lem;
  turning_writes = turning_writes_lem;
  refused_leaves = refused_leaves_lem;
  read_only_leaves = read_only_leaves_lem;
  agrees = agrees;
  runs_agree = runs_agree_lem;
  store_holds_account = store_holds_account_lem;
  never_arise = never_arise_lem;
  opens_anew = opens_anew_lem;
  growing = growing;
  built_rows_pass = built_rows_pass_lem;
  builds_bounded = builds_bounded_lem;
}
