-- Demand 3 said of the entries: calls that entries did, each keeping its promise and each lent the store as the last one left it, were answered as the
-- plain account answers them. proofs/EntriesAgree.antt proves it.
use Rattle.std.specs.Prelude.{◌≡◌, List, [], ◌∷◌, ℕ}
use Rattle.definition.specs.declared.Answer.{Answer}
use Rattle.definition.specs.Answers.{answer, FieldLookup, SubtypeLookup}
use Rattle.definition.specs.Outcomes.{BuildOutcome, RootName, ListOutcome}
use Rattle.definition.specs.Calls.{Call, opening, filing, adopting, ignoring, building, checking, root_asked, field_asked, subtype_asked, origins_asked}
use Rattle.definition.specs.Calls.{extensions_asked, implementers_asked, parsing, Reply, answered, built, named, fielded, subtyped, listed}
use Rattle.definition.specs.Calls.{Store, opened_account, run_account}
use Rattle.api.specs.Promised.{Opens, Files, Adopts, Ignores, Builds, ChecksRows, NamesRoot, FindsField, TellsSubtype}
use Rattle.api.specs.Promised.{ListsOrigins, ListsExtensions, MapsImplementers, Parses}

-- An entry did a call that was lent the store s, left the store t and replied: its promise holds of what it answered and left, and that is the reply. An
-- entry that only reads is lent a store that it can't write, so t is s.
abbrev pub Done : Store → Call → Store → Reply → Type 0
Done s (opening lent cards) t reply = (r : Answer) × Opens s.text s.words lent cards r t.text t.words × (reply ≡ answered r)
Done s (filing lent cards) t reply = (r : Answer) × Files s.text s.words lent cards r t.text t.words × (reply ≡ answered r)
Done s adopting t reply = (r : Answer) × Adopts s.text s.words r t.text t.words × (reply ≡ answered r)
Done s ignoring t reply = (r : Answer) × Ignores s.text s.words r t.text t.words × (reply ≡ answered r)
Done s (building rows errors) t reply =
    (o : BuildOutcome) × Builds s.text s.words rows errors o.drawing o.rows o.errors × (reply ≡ built o) × (t ≡ s)
Done s (checking rows) t reply = (r : Answer) × ChecksRows s.text s.words rows r × (reply ≡ answered r) × (t ≡ s)
Done s (root_asked rows op) t reply = (name : RootName) × NamesRoot s.text s.words rows op name × (reply ≡ named name) × (t ≡ s)
Done s (field_asked rows type field) t reply = (r : FieldLookup) × FindsField s.text s.words rows type field r × (reply ≡ fielded r) × (t ≡ s)
Done s (subtype_asked rows general other) t reply =
    (r : SubtypeLookup) × TellsSubtype s.text s.words rows general other r × (reply ≡ subtyped r) × (t ≡ s)
Done s (origins_asked rows list) t reply =
    (o : ListOutcome) × ListsOrigins s.text s.words rows list o.answer o.list × (reply ≡ listed o) × (t ≡ s)
Done s (extensions_asked rows list) t reply =
    (o : ListOutcome) × ListsExtensions s.text s.words rows list o.answer o.list × (reply ≡ listed o) × (t ≡ s)
Done s (implementers_asked rows list) t reply =
    (o : ListOutcome) × MapsImplementers s.text s.words rows list o.answer o.list × (reply ≡ listed o) × (t ≡ s)
Done s (parsing source cards) t reply = (o : ListOutcome) × Parses source cards o.answer o.list × (reply ≡ listed o) × (t ≡ s)

-- Calls that entries did one after another, each lent the store as the last one left it, with the replies.
abbrev pub AllDone : Store → List Call → List Reply → Type 0
AllDone s [] [] = Unit {0}
AllDone s [] (r ∷ rs) = ⊥
AllDone s (c ∷ cs) [] = ⊥
AllDone s (c ∷ cs) (r ∷ rs) = (t : Store) × Done s c t r × AllDone t cs rs

-- Whatever calls were so done over the store that an accepted opening left, the replies are those of the account, which "is fed the calls and their
-- arguments, never the store" and "starts with the opening's document 0 and both switches 0".
abbrev pub EntriesAgree : Type 0
EntriesAgree =
    (s t : Store) (lent cards : List ℕ) → Done s (opening lent cards) t (answered (answer 0 0)) →
    (calls : List Call) (replies : List Reply) → AllDone t calls replies → replies ≡ run_account (opened_account lent cards) calls
