-- The premises can be met: over every store that is long enough, `scalar Int` is opened and a list of calls is run, with two drawings, a refused
-- filing and an opening in it; the theorems of Demand3 are applied to it.
use mathlib.Core.Path.{◌≡◌, refl, sym, ◌∙◌, ap}
use mathlib.Core.List.{List, [], ◌∷◌, ◌++◌, map}
use mathlib.Core.Bool.{Bool, true, false}
use mathlib.Core.Option.{Option, none, some}
use Prim.Native.Nat.{ℕ, ◌≤◌}
use native.Mathlib.Omega.{arith}
use lib.Dec.{eqb}
use lib.ListN.{length, replicate, take, get_elem?}
use borrow.Author.Tests.{le-ltb, eqb-true, eqb-false}
use Rattle.definition.specs.declared.FieldFound.TheVariants.{Explicit}
use Rattle.definition.specs.Lists.{here, there, done, skip, keep}
use Rattle.definition.specs.Names.{bytes}
use Rattle.definition.specs.Answers.{answer, Found}
use Rattle.definition.specs.Headings.{Heading}
use Rattle.definition.specs.Account.{Account}
use Rattle.definition.specs.Refusals.{opening_refusal, text_capacity, rows_capacity, errors_capacity}
use Rattle.definition.specs.Store.{too_short, words_capacity}
use Rattle.definition.specs.Lookups.{Group, groups}
use Rattle.definition.specs.Outcomes.{BuildOutcome, open_store, accepted, build_of, type_field, check_rows}
use Rattle.definition.specs.Calls.{Call, opening, filing, adopting, building, Reply, answered, built, opened_account as opened_with, step, run_account}
use Rattle.definition.specs.Calls.{account_after, run_store}
use Rattle.definition.specs.Runs.{Accepted, Start, first_store, store_after, store_at, BuiltAt, NoneOpenedBetween}
use Rattle.definition.specs.Growth.{Brings, list_in, list_of, Names, NamesBefore, ImplementedBy, rows_of, documents_in, cards_in, built_rows, Grown}
use Rattle.definition.specs.Unfolded.{unfolded}
use Rattle.definition.specs.Shown.{Source, source, scalar_int}
use Rattle.definition.proofs.Demand3.{agrees, opens_anew_lem, growing, groups_keep_order, built_rows_pass_lem}

abbrev type_a : Source
type_a = source "type A{n:Int}" (6 ∷ 0 ∷ 13 ∷ 5 ∷ 1 ∷ 22 ∷ 7 ∷ 5 ∷ 7 ∷ 1 ∷ [])

abbrev extend_a : Source
extend_a = source "extend type A{m:Int n:Int}" (13 ∷ 0 ∷ 26 ∷ 12 ∷ 1 ∷ 22 ∷ 14 ∷ 5 ∷ 14 ∷ 1 ∷ 22 ∷ 20 ∷ 5 ∷ 20 ∷ 1 ∷ [])

-- Slices to be written, long enough for 7.
abbrev rows : List ℕ
rows = replicate rows_capacity 0

abbrev errors : List ℕ
errors = replicate errors_capacity 0

-- The third filing has a part past its heading's end.
abbrev calls : List Call
calls =
    filing type_a.text type_a.words ∷
    building rows errors ∷
    adopting ∷
    filing type_a.text (6 ∷ 0 ∷ 13 ∷ 5 ∷ 1 ∷ 22 ∷ 7 ∷ 7 ∷ 7 ∷ 1 ∷ []) ∷
    filing extend_a.text extend_a.words ∷
    building rows errors ∷
    []

no_refusal : opening_refusal scalar_int.text scalar_int.words ≡ none
unfolding unfolded
no_refusal = refl

module _ (text words : List ℕ) (long_text : text_capacity ≤ length text) (long_words : words_capacity ≤ length words) where
  accepts : Accepted (open_store text words scalar_int.text scalar_int.words)
  unfolding open_store too_short accepted
  accepts = rw (le-ltb (length text) text_capacity long_text, le-ltb (length words) words_capacity long_words, no_refusal)

  start : Start
  start = record { text = text; words = words; lent = scalar_int.text; cards = scalar_int.words; accepted = accepts }

  -- Every reply is the account's.
  account : Account
  account = opened_with scalar_int.text scalar_int.words

  earlier : BuildOutcome
  earlier = build_of (account_after account (take 1 calls)) rows errors

  later : BuildOutcome
  later = build_of (account_after account (take 5 calls)) rows errors

  replies : List Reply
  replies = answered (answer 0 0) ∷ built earlier ∷ answered (answer 0 0) ∷ answered (answer 3 1) ∷ answered (answer 0 0) ∷ built later ∷ []

  by_account : run_account account calls ≡ replies
  unfolding unfolded account replies earlier later
  by_account = refl

  by_store : run_store (first_store start) calls ≡ replies
  unfolding start account
  by_store = agrees start calls ∙ by_account

  -- The two drawings, at places 1 and 5, are not refused, and nothing is opened between them.
  earlier_built : BuiltAt (first_store start) calls 1 earlier
  unfolding unfolded account earlier replies
  earlier_built = record { rows = rows; errors = errors; call = refl; reply = ap (λ l. get_elem? l 1) by_store; unrefused = refl }

  later_built : BuiltAt (first_store start) calls 5 later
  unfolding unfolded account later replies
  later_built = record { rows = rows; errors = errors; call = refl; reply = ap (λ l. get_elem? l 5) by_store; unrefused = refl }

  none_opened : NoneOpenedBetween (first_store start) calls 1 5
  none_opened k low high o = go (eqb k 2) (eqb k 3) refl refl
    where
      no : (c : Call) → get_elem? calls k ≡ some c → ((text ws : List ℕ) → c ≡ opening text ws → ⊥) → ⊥
      no c e n = n o.text o.cards (some_injective c (opening o.text o.cards) (sym e ∙ o.call))
        where
          some_injective : (c d : Call) → ◌≡◌ {A = Option Call} (some c) (some d) → c ≡ d
          some_injective c d q = cc

      go : (b c : Bool) → eqb k 2 ≡ b → eqb k 3 ≡ c → ⊥
      go true c p q = no adopting (ap (get_elem? calls) (eqb-true k 2 p)) (λ t w e. cc e)
      go false true p q = no (filing type_a.text (6 ∷ 0 ∷ 13 ∷ 5 ∷ 1 ∷ 22 ∷ 7 ∷ 7 ∷ 7 ∷ 1 ∷ [])) (ap (get_elem? calls) (eqb-true k 3 q))
          (λ t w e. cc e)
      go false false p q =
          let u = eqb-false k 2 p in
          let v = eqb-false k 3 q in
          let w : k ≡ 4 = omega arith in
          no (filing extend_a.text extend_a.words) (ap (get_elem? calls) w) (λ t w e. cc e)

  grows : Grown (store_at (first_store start) calls 1) (store_at (first_store start) calls 5) earlier later
  grows = growing start calls 1 5 (omega arith) none_opened earlier later earlier_built later_built

  passes : check_rows (store_at (first_store start) calls 1).text (store_at (first_store start) calls 1).words (rows_of earlier) ≡ answer 0 0
  passes = built_rows_pass_lem start calls 1 1 (omega arith) (λ k low high. absurd (omega arith)) earlier earlier_built

  -- An opening in the list starts anew, whatever was filed before it.
  anew : run_store (first_store start) (calls ++ (opening scalar_int.text scalar_int.words ∷ building rows errors ∷ [])) ≡
      run_store (first_store start) calls ++ (answered (answer 0 0) ∷ built (build_of account rows errors) ∷ [])
  unfolding account run_account step
  anew = opens_anew_lem start calls (building rows errors ∷ []) scalar_int.text scalar_int.words no_refusal

-- Over a store of zeros, where all of it can be computed: `A` is brought by card 1, and the field `n` that the earlier drawing shows, card 2, is found
-- again by the later one, though the extension has an `n` too.
abbrev zeros : Start
zeros = start (replicate text_capacity 0) (replicate words_capacity 0) (omega arith) (omega arith)

abbrev heading_a : Heading
heading_a = record { number = 1; kind = 6; name = bytes "A"; built_in = false; ignored = false; parts = record { number = 2; kind = 22; name = bytes "n" } ∷ [] }

A_brought : Brings (documents_in (store_at (first_store zeros) calls 1)) (bytes "A") heading_a
unfolding unfolded store_after start
A_brought = refl

abbrev earlier_zeros : BuildOutcome
earlier_zeros = earlier (replicate text_capacity 0) (replicate words_capacity 0) (omega arith) (omega arith)

abbrev later_zeros : BuildOutcome
later_zeros = later (replicate text_capacity 0) (replicate words_capacity 0) (omega arith) (omega arith)

n_found : type_field (store_at (first_store zeros) calls 1).text (store_at (first_store zeros) calls 1).words (rows_of earlier_zeros) (bytes "A") (bytes "n") ≡
    Found (Explicit 2)
unfolding unfolded store_after start earlier account rows_of
n_found = refl

n_again : type_field (store_at (first_store zeros) calls 5).text (store_at (first_store zeros) calls 5).words (rows_of later_zeros) (bytes "A") (bytes "n") ≡
    Found (Explicit 2)
n_again =
    ((grows (replicate text_capacity 0) (replicate words_capacity 0) (omega arith) (omega arith)).types (bytes "A") heading_a A_brought).field (bytes "n") 2 n_found

-- ---- The order of groups, over the same store: adopting, `A` and `B` are types of extensions, until a definition brings `B`.

abbrev adopters : Source
adopters =
    source "type Q implements K{a:Int} extend type A implements I{a:Int} extend type B implements J{a:Int}"
    (6 ∷ 0 ∷ 26 ∷ 5 ∷ 1 ∷ 21 ∷ 18 ∷ 1 ∷ 18 ∷ 1 ∷ 22 ∷ 20 ∷ 5 ∷ 20 ∷ 1 ∷
    13 ∷ 27 ∷ 33 ∷ 39 ∷ 1 ∷ 21 ∷ 52 ∷ 1 ∷ 52 ∷ 1 ∷ 22 ∷ 54 ∷ 5 ∷ 54 ∷ 1 ∷
    13 ∷ 61 ∷ 33 ∷ 73 ∷ 1 ∷ 21 ∷ 86 ∷ 1 ∷ 86 ∷ 1 ∷ 22 ∷ 88 ∷ 5 ∷ 88 ∷ 1 ∷ [])

abbrev type_b : Source
type_b = source "type B{b:Int}" (6 ∷ 0 ∷ 13 ∷ 5 ∷ 1 ∷ 22 ∷ 7 ∷ 5 ∷ 7 ∷ 1 ∷ [])

abbrev adoptions : List Call
adoptions = adopting ∷ filing adopters.text adopters.words ∷ building rows errors ∷ filing type_b.text type_b.words ∷ building rows errors ∷ []

opened : Account
opened = opened_with scalar_int.text scalar_int.words

undefined : BuildOutcome
undefined = build_of (account_after opened (take 2 adoptions)) rows errors

defined : BuildOutcome
defined = build_of (account_after opened (take 4 adoptions)) rows errors

adoption_replies : run_store (first_store zeros) adoptions ≡
    answered (answer 0 0) ∷ answered (answer 0 0) ∷ built undefined ∷ answered (answer 0 0) ∷ built defined ∷ []
unfolding unfolded start opened undefined defined
adoption_replies = agrees zeros adoptions ∙ refl

undefined_built : BuiltAt (first_store zeros) adoptions 2 undefined
unfolding unfolded undefined opened
undefined_built = record { rows = rows; errors = errors; call = refl; reply = ap (λ l. get_elem? l 2) adoption_replies; unrefused = refl }

defined_built : BuiltAt (first_store zeros) adoptions 4 defined
unfolding unfolded defined opened
defined_built = record { rows = rows; errors = errors; call = refl; reply = ap (λ l. get_elem? l 4) adoption_replies; unrefused = refl }

abbrev groups_at : ℕ → BuildOutcome → List Group
groups_at i o = groups (cards_in (store_at (first_store zeros) adoptions i)) (built_rows o)

-- Cards 2, 5 and 8 name `K`, `I` and `J`. When `B` is brought, the groups of 5 and 8 change places,
named_first : map (λ g. g.naming) (groups_at 2 undefined) ≡ 2 ∷ 5 ∷ 8 ∷ []
unfolding unfolded store_after start undefined opened rows_of
named_first = refl

named_then : map (λ g. g.naming) (groups_at 4 defined) ≡ 2 ∷ 8 ∷ 5 ∷ []
unfolding unfolded store_after start defined opened rows_of
named_then = refl

-- and the group of 2, which stood before that of 8, stands before it again: 2 is a 21 of `Q`, which a definition had brought.
filing_opens_none : (text words lent cards : List ℕ) → ◌≡◌ {A = Option Call} (some (filing text words)) (some (opening lent cards)) → ⊥
filing_opens_none text words lent cards e = cc

none_opened_between : NoneOpenedBetween (first_store zeros) adoptions 2 4
none_opened_between k low high o =
    let w : k ≡ 3 = omega arith in
    filing_opens_none type_b.text type_b.words o.text o.cards (sym (ap (get_elem? adoptions) w) ∙ o.call)

abbrev heading_q : Heading
heading_q = record {
  number = 1;
  kind = 6;
  name = bytes "Q";
  built_in = false;
  ignored = false;
  parts = record { number = 2; kind = 21; name = bytes "K" } ∷ record { number = 3; kind = 22; name = bytes "a" } ∷ [];
}

Q_brought : Brings (documents_in (store_at (first_store zeros) adoptions 2)) (bytes "Q") heading_q
unfolding unfolded store_after start
Q_brought = refl

Q_implements : ImplementedBy (cards_in (store_at (first_store zeros) adoptions 2)) (built_rows undefined) (bytes "Q") 2
unfolding unfolded store_after start undefined opened rows_of list_of list_in
Q_implements = here

K_before_J : NamesBefore (groups_at 4 defined) 2 8
K_before_J =
    let before : NamesBefore (groups_at 2 undefined) 2 8 = rw named_first (keep (skip (keep done))) in
    let two : Names (groups_at 4 defined) 2 = rw named_then here in
    let eight : Names (groups_at 4 defined) 8 = rw named_then (there here) in
    groups_keep_order zeros adoptions 2 4 (omega arith) none_opened_between undefined defined undefined_built defined_built (bytes "Q") heading_q Q_brought 2 8
    Q_implements before two eight
