-- The numbers of the refusals that hang on the account: none is 0, so a call that answers 0 and 0 is accepted; and none is 21 or 22.
use mathlib.Core.Path.{◌≡◌, refl, ap}
use mathlib.Core.List.{List, [], ◌∷◌, ◌++◌}
use mathlib.Core.Bool.{Bool, true, false, ◌||◌}
use mathlib.Core.Option.{Option, none, some}
use Prim.Native.Nat.{ℕ, ◌+◌, ◌%◌}
use lib.Dec.{eqb, leb, ltb}
use lib.ListN.{length}
use native.Mathlib.Omega.{arith}
use borrow.Author.Tests.{eqb-true, eqb-false}
use Rattle.definition.specs.declared.Answer.{Answer}
use Rattle.definition.specs.declared.FieldFound.{FieldFound}
use Rattle.definition.specs.Answers.{Found, NoSuchType, NoSuchField, Refused, SubtypeLookup, Subtype, NotSubtype}
use Rattle.definition.specs.Lists.{All, choose, found, first, all, find, or_else}
use Rattle.definition.specs.Answers.{answer, field_refusal, subtype_refusal}
use Rattle.definition.specs.Cards.{Card, Place, Fault, is_part, fault, faults, fault_among, place_after, fault_from, card_fault, cards_of, broken_cards}
use Rattle.definition.specs.Cards.{document_fault}
use Rattle.definition.specs.Headings.{Document, NamedCard}
use Rattle.definition.specs.Catalogue.{Row}
use Rattle.definition.specs.Errors.{Error}
use Rattle.definition.specs.Merge.{merge}
use Rattle.definition.specs.Account.{Account}
use Rattle.definition.specs.Refusals.{text_held, cards_held, text_capacity, document_capacity, card_capacity, rows_capacity, errors_capacity, origins_capacity}
use Rattle.definition.specs.Refusals.{groups_capacity, is_barred, barred_from, error_alone, zero_fault, refuse, capacity_refusal, opening_refusal, filing_refusal}
use Rattle.definition.specs.Refusals.{document}
use Rattle.definition.specs.Store.{account_in, too_short, store_refusal, opened_text, opened_words, filed_text, filed_words}
use Rattle.definition.specs.LentRows.{held, lent_rows, row_clauses, passes, rows_refusal}
use Rattle.definition.specs.Lookups.{Block, type_named, is_part_named, meta_field, field_of, field_named, is_subtype_of}
use Rattle.definition.specs.Outcomes.{open_store, add_ast, turned, unchanged, accepted, unbuilt, merged_into, is_short, build_of, check_of, field_of_type}
use Rattle.definition.specs.Outcomes.{subtype_answer, parse, unlisted, listed_in, unless_refused, origins_of, extensions_in, implementers_of}
use Rattle.definition.specs.Calls.{Call, opening, filing, adopting, ignoring, building, checking, root_asked, field_asked, subtype_asked, origins_asked}
use Rattle.definition.specs.Calls.{extensions_asked, implementers_asked, parsing, Reply, or_refused, step, run_account}
use Rattle.definition.specs.Runs.{Accepted, refusal}
use Rattle.definition.proofs.Tests.{or_false}
use Rattle.definition.proofs.ParseOutcome.{parse_is}

-- ---- Neither 0 nor a number of the store.

abbrev is_of_store : ℕ → Bool
is_of_store n = eqb n 21 || eqb n 22

abbrev Numbered : Option Answer → Type 0
Numbered none = Unit {0}
Numbered (some r) = (r.number ≡ 0 → ⊥) × (is_of_store r.number ≡ false)

or_else_numbered : (x y : Option Answer) → Numbered x → Numbered y → Numbered (or_else x y)
or_else_numbered none y a b = b
or_else_numbered (some x) y a b = a

refuse_numbered : (n : ℕ) (b : Bool) → (n ≡ 0 → ⊥) → is_of_store n ≡ false → Numbered (refuse n b)
unfolding refuse
refuse_numbered n true h s = (h, s)
refuse_numbered n false h s = tt

among_numbered : (p : Place) (c : Card) (fs : List Fault) → All (λ f. is_of_store f.number ≡ false) fs → is_of_store (fault_among p c fs) ≡ false
unfolding fault_among
among_numbered p c [] a = refl
among_numbered p c (f ∷ fs) a = go (f.holds p c) (among_numbered p c fs a.1)
  where
    go : (b : Bool) → is_of_store (fault_among p c fs) ≡ false → is_of_store (choose b f.number (fault_among p c fs)) ≡ false
    go true ih = a.0
    go false ih = ih

fault_numbered : (p : Place) (c : Card) → is_of_store (fault_among p c faults) ≡ false
unfolding faults fault
fault_numbered p c = among_numbered p c faults (refl, (refl, (refl, (refl, (refl, (refl, (refl, (refl, (refl, (refl, tt))))))))))

faults_numbered : (bytes : List ℕ) (base size i : ℕ) (h s : Option Card) (cs : List Card) → Numbered (fault_from bytes base size i h s cs)
unfolding fault_from
faults_numbered bytes base size i h s [] = tt
faults_numbered bytes base size i h s (c ∷ cs) =
    go (eqb (fault_among (place_after bytes base size h s c) c faults) 0) refl (is_part c.kind) (faults_numbered bytes base size (i + 1) h (some c) cs)
    (faults_numbered bytes base size (i + 1) (some c) none cs)
  where
    n : ℕ
    n = fault_among (place_after bytes base size h s c) c faults

    go : (t : Bool) → eqb n 0 ≡ t → (b : Bool) → Numbered (fault_from bytes base size (i + 1) h (some c) cs) →
        Numbered (fault_from bytes base size (i + 1) (some c) none cs) →
        Numbered (choose t (choose b (fault_from bytes base size (i + 1) h (some c) cs) (fault_from bytes base size (i + 1) (some c) none cs))
        (some (answer n i)))
    go true e true x y = x
    go true e false x y = y
    go false e b x y = (eqb-false n 0 e, fault_numbered (place_after bytes base size h s c) c)

document_numbered : (text ws : List ℕ) → Numbered (document_fault text ws)
unfolding document_fault card_fault
document_numbered text ws = go (broken_cards ws)
  where
    go : (b : Bool) → Numbered (choose b (some (answer 1 0)) (fault_from text 0 (length text) 0 none none (cards_of ws)))
    go true = (λ e. omega arith, refl)
    go false = faults_numbered text 0 (length text) 0 none none (cards_of ws)

barred_numbered : (i : ℕ) (cs : List Card) → Numbered (barred_from i cs)
unfolding barred_from
barred_numbered i [] = tt
barred_numbered i (c ∷ cs) = go (is_barred c.kind) (barred_numbered (i + 1) cs)
  where
    go : (b : Bool) → Numbered (barred_from (i + 1) cs) → Numbered (choose b (some (answer 6 i)) (barred_from (i + 1) cs))
    go true x = (λ e. omega arith, refl)
    go false x = x

alone_numbered : (d : Document) → Numbered (error_alone d)
unfolding error_alone
alone_numbered d = go (first ((merge false (d ∷ [])).reading_errors ++ (merge false (d ∷ [])).drawing_errors))
  where
    go : (o : Option Error) → Numbered (found o (λ e. some (answer 6 e.card)) none)
    go none = tt
    go (some e) = (λ q. omega arith, refl)

zero_numbered : (d : Document) → Numbered (zero_fault d)
unfolding zero_fault
zero_numbered d = or_else_numbered (barred_from 0 d.cards) (error_alone d) (barred_numbered 0 d.cards) (alone_numbered d)

capacity_numbered : (ds : List Document) (d : Document) → Numbered (capacity_refusal ds d)
unfolding capacity_refusal
capacity_numbered ds d =
    let long = ltb text_capacity (text_held ds + length d.text) in
    let many = ltb card_capacity (cards_held ds + length d.cards) in
    or_else_numbered (refuse 24 long) (refuse 25 many) (refuse_numbered 24 long (λ e. omega arith) refl) (refuse_numbered 25 many (λ e. omega arith) refl)

opening_numbered : (text ws : List ℕ) → Numbered (opening_refusal text ws)
unfolding opening_refusal
opening_numbered text ws =
    let d = document false text ws in
    or_else_numbered (document_fault text ws) (or_else (zero_fault d) (capacity_refusal [] d)) (document_numbered text ws)
    (or_else_numbered (zero_fault d) (capacity_refusal [] d) (zero_numbered d) (capacity_numbered [] d))

filing_numbered : (a : Account) (text ws : List ℕ) → Numbered (filing_refusal a text ws)
unfolding filing_refusal
filing_numbered a text ws =
    let d = document false text ws in
    let many = leb document_capacity (length a.documents) in
    or_else_numbered (document_fault text ws) (or_else (refuse 23 many) (capacity_refusal a.documents d)) (document_numbered text ws)
    (or_else_numbered (refuse 23 many) (capacity_refusal a.documents d) (refuse_numbered 23 many (λ e. omega arith) refl) (capacity_numbered a.documents d))

-- ---- What an accepted call was asked and passed.

pub opening_accepted : (text words lent ws : List ℕ) → Accepted (open_store text words lent ws) →
    (too_short text words ≡ false) × (opening_refusal lent ws ≡ none)
unfolding open_store unchanged accepted
opening_accepted text words lent ws e = go (too_short text words) refl (opening_refusal lent ws) refl (opening_numbered lent ws) e
  where
    go : (t : Bool) → too_short text words ≡ t → (o : Option Answer) → opening_refusal lent ws ≡ o → Numbered o →
        (choose t (unchanged text words (answer 21 0))
        (found o (unchanged text words) (accepted (opened_text text (document false lent ws)) (opened_words words (document false lent ws))))).answer ≡
        answer 0 0 →
        (too_short text words ≡ false) × (opening_refusal lent ws ≡ none)
    go true p o q n e = absurd (let z : 21 ≡ 0 = ap (λ (a : Answer). a.number) e in omega arith)
    go false p none q n e = (p, q)
    go false p (some r) q n e = absurd (n.0 (ap (λ (a : Answer). a.number) e))

pub filing_accepted : (text words lent ws : List ℕ) → Accepted (add_ast text words lent ws) →
    (store_refusal text words ≡ 0) × (filing_refusal (account_in text words) lent ws ≡ none)
unfolding add_ast unchanged accepted
filing_accepted text words lent ws e = go (eqb (store_refusal text words) 0) refl (filing_refusal (account_in text words) lent ws) refl
    (filing_numbered (account_in text words) lent ws) e
  where
    go : (t : Bool) → eqb (store_refusal text words) 0 ≡ t → (o : Option Answer) → filing_refusal (account_in text words) lent ws ≡ o → Numbered o →
        (choose t (found o (unchanged text words) (accepted (filed_text text words (document false lent ws)) (filed_words words (document false lent ws))))
        (unchanged text words (answer (store_refusal text words) 0))).answer ≡ answer 0 0 →
        (store_refusal text words ≡ 0) × (filing_refusal (account_in text words) lent ws ≡ none)
    go true p none q n e = (eqb-true _ _ p, q)
    go true p (some r) q n e = absurd (n.0 (ap (λ (a : Answer). a.number) e))
    go false p o q n e = absurd (eqb-false _ _ p (ap (λ (a : Answer). a.number) e))

pub turning_accepted : (text words on : List ℕ) → Accepted (turned text words on) → store_refusal text words ≡ 0
unfolding turned unchanged accepted
turning_accepted text words on e = go (eqb (store_refusal text words) 0) refl e
  where
    go : (t : Bool) → eqb (store_refusal text words) 0 ≡ t →
        (choose t (accepted text on) (unchanged text words (answer (store_refusal text words) 0))).answer ≡ answer 0 0 → store_refusal text words ≡ 0
    go true p e = eqb-true _ _ p
    go false p e = absurd (eqb-false _ _ p (ap (λ (a : Answer). a.number) e))

-- ---- The account's replies say neither 21 nor 22.

abbrev Own : Reply → Type 0
Own r = is_of_store (refusal r) ≡ false

rows_number : (ds : List Document) (ws : List ℕ) → is_of_store (rows_refusal ds ws) ≡ false
unfolding rows_refusal
rows_number ds ws = go (eqb (length ws % 3) 0) (all (passes (held ds) (lent_rows ws)) row_clauses)
  where
    go : (b c : Bool) → is_of_store (choose b (choose c 0 26) 26) ≡ false
    go true true = refl
    go true false = refl
    go false c = refl

refused_own : (a b : Account) (o : Option Answer) → Numbered o → Own (or_refused a o b).1
unfolding or_refused
refused_own a b none n = refl
refused_own a b (some r) n = n.1

drawing_own : (a : Account) (rows errors : List ℕ) → is_of_store (build_of a rows errors).drawing.number ≡ false
unfolding build_of unbuilt merged_into
drawing_own a rows errors = go (is_short rows_capacity rows || is_short errors_capacity errors)
  where
    go : (b : Bool) → is_of_store (choose b (unbuilt rows errors 7) (merged_into rows errors (merge a.adopt a.documents))).drawing.number ≡ false
    go true = refl
    go false = refl

field_zero : (cs : List NamedCard) (rs : List Row) (type field : List ℕ) → field_refusal (field_named cs rs type field) ≡ 0
unfolding field_named field_of
field_zero cs rs type field = go (type_named cs rs type)
  where
    end : (o : Option Row) (m : Option FieldFound) (c : ℕ) →
        field_refusal (found o (λ r. Found (FieldFound.Explicit r.card)) (found m (λ f. Found f) (NoSuchField c))) ≡ 0
    end (some r) m c = refl
    end none (some f) c = refl
    end none none c = refl

    go : (o : Option Block) → field_refusal (found o (field_of cs rs type field) NoSuchType) ≡ 0
    go none = refl
    go (some b) = end (find (is_part_named cs 22 field) b.parts) (meta_field cs rs b.head.what type field) b.head.card

field_own : (a : Account) (rows type field : List ℕ) → is_of_store (field_refusal (field_of_type a rows type field)) ≡ false
unfolding field_of_type
field_own a rows type field = go (eqb (rows_refusal a.documents rows) 0)
  where
    go : (b : Bool) → is_of_store (field_refusal (choose b (field_named (held a.documents) (lent_rows rows) type field)
        (Refused (rows_refusal a.documents rows)))) ≡ false
    go true = ap is_of_store (field_zero (held a.documents) (lent_rows rows) type field)
    go false = rows_number a.documents rows

subtype_own : (a : Account) (rows general other : List ℕ) → is_of_store (subtype_refusal (subtype_answer a rows general other)) ≡ false
unfolding subtype_answer
subtype_own a rows general other = go (eqb (rows_refusal a.documents rows) 0) (is_subtype_of (held a.documents) (lent_rows rows) general other)
  where
    go : (b c : Bool) → is_of_store (subtype_refusal (choose b (choose c Subtype NotSubtype) (SubtypeLookup.Refused (rows_refusal a.documents rows)))) ≡ false
    go true true = refl
    go true false = refl
    go false c = rows_number a.documents rows

listing_own : (a : Account) (rows : List ℕ) (capacity : ℕ) (lent : List ℕ) (count : ℕ) (ws : List ℕ) →
    is_of_store (unless_refused a rows capacity lent (listed_in lent count ws)).answer.number ≡ false
unfolding unless_refused unlisted listed_in
listing_own a rows capacity lent count ws = go (eqb (rows_refusal a.documents rows) 0) (is_short capacity lent)
  where
    go : (b c : Bool) → is_of_store (choose b (choose c (unlisted lent 7) (listed_in lent count ws))
        (unlisted lent (rows_refusal a.documents rows))).answer.number ≡ false
    go true true = refl
    go true false = refl
    go false c = rows_number a.documents rows

parse_own : (text lent : List ℕ) → is_of_store (parse text lent).answer.number ≡ false
unfolding unlisted listed_in
parse_own text lent = parse_is text lent (λ o. is_of_store o.answer.number ≡ false) (λ n ws. refl) refl refl refl (λ p. refl) (λ p. refl)

step_own : (a : Account) (c : Call) → Own (step a c).1
unfolding step check_of origins_of extensions_in implementers_of
step_own a (opening text ws) = refused_own a _ (opening_refusal text ws) (opening_numbered text ws)
step_own a (filing text ws) = refused_own a _ (filing_refusal a text ws) (filing_numbered a text ws)
step_own a adopting = refused_own a _ none tt
step_own a ignoring = refused_own a _ none tt
step_own a (building rows errors) = drawing_own a rows errors
step_own a (checking rows) = rows_number a.documents rows
step_own a (root_asked rows op) = refl
step_own a (field_asked rows type field) = field_own a rows type field
step_own a (subtype_asked rows general other) = subtype_own a rows general other
step_own a (origins_asked rows lent) = listing_own a rows origins_capacity lent _ _
step_own a (extensions_asked rows lent) = listing_own a rows origins_capacity lent _ _
step_own a (implementers_asked rows lent) = listing_own a rows groups_capacity lent _ _
step_own a (parsing text lent) = parse_own text lent

abbrev pub NotOfStore : Reply → Type 0
NotOfStore r = (refusal r ≡ 21 → ⊥) × (refusal r ≡ 22 → ⊥)

not_of_store : (r : Reply) → Own r → NotOfStore r
not_of_store r e = let q = or_false (eqb (refusal r) 21) (eqb (refusal r) 22) e in (eqb-false _ _ q.0, eqb-false _ _ q.1)

pub replies_own : (a : Account) (calls : List Call) → All NotOfStore (run_account a calls)
unfolding run_account
replies_own a [] = tt
replies_own a (c ∷ cs) = (not_of_store (step a c).1 (step_own a c), replies_own (step a c).0 cs)
