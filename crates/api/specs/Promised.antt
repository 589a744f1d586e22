-- What each entry promises: its answer, with what it leaves in every slice that it is lent to write, is the entry's outcome. First comes what is lent,
-- as it was at entry, then the answer, then what is left. specs/Statements.antt ties each promise to the call that demand 3 speaks of.
use Rattle.std.specs.Prelude.{◌≡◌, List, ℕ, ◌-◌, ◌≤◌, length}
use Rattle.std.specs.Borrow.{Bor}
use Rattle.definition.specs.declared.Answer.{Answer}
use Rattle.definition.specs.declared.Drawing.{Drawing}
use Rattle.definition.specs.declared.OperationType.{OperationType}
use Rattle.definition.specs.Answers.{field_refusal, field_number, field_meta, field_card, subtype_refusal, subtype_number, FieldLookup, SubtypeLookup}
use Rattle.definition.specs.Lookups.{span}
use Rattle.definition.specs.Outcomes.{StoreOutcome, BuildOutcome, RootName, ListOutcome, open_store, add_ast, adopt_orphan_extensions}
use Rattle.definition.specs.Outcomes.{ignore_builtin_redefinitions, build}
use Rattle.definition.specs.Outcomes.{check_rows, root_operation, type_field, is_subtype, iter_origins, extensions, implementers_map, parse}

-- ---- The calls that write the store.

abbrev pub Opens : List ℕ → List ℕ → List ℕ → List ℕ → Answer → List ℕ → List ℕ → Type 0
Opens text words lent cards r text' words' = ◌≡◌ {A = StoreOutcome} (record { answer = r; text = text'; words = words' }) (open_store text words lent cards)

abbrev pub Files : List ℕ → List ℕ → List ℕ → List ℕ → Answer → List ℕ → List ℕ → Type 0
Files text words lent cards r text' words' = ◌≡◌ {A = StoreOutcome} (record { answer = r; text = text'; words = words' }) (add_ast text words lent cards)

abbrev pub Adopts : List ℕ → List ℕ → Answer → List ℕ → List ℕ → Type 0
Adopts text words r text' words' = ◌≡◌ {A = StoreOutcome} (record { answer = r; text = text'; words = words' }) (adopt_orphan_extensions text words)

abbrev pub Ignores : List ℕ → List ℕ → Answer → List ℕ → List ℕ → Type 0
Ignores text words r text' words' = ◌≡◌ {A = StoreOutcome} (record { answer = r; text = text'; words = words' }) (ignore_builtin_redefinitions text words)

-- ---- Drawing.

abbrev pub Builds : List ℕ → List ℕ → List ℕ → List ℕ → Drawing → List ℕ → List ℕ → Type 0
Builds text words rows errors r rows' errors' = ◌≡◌ {A = BuildOutcome} (record { drawing = r; rows = rows'; errors = errors' }) (build text words rows errors)

-- ---- Lookups that only read.

abbrev pub ChecksRows : List ℕ → List ℕ → List ℕ → Answer → Type 0
ChecksRows text words rows r = r ≡ check_rows text words rows

-- `root_operation` hands back a slice. Which part of the text it is: its bytes, where it begins, counted from the text's first byte, and its length.
abbrev pub part_in : Bor (List ℕ) → Bor (List ℕ) → RootName
part_in text part = record { bytes = part.now; part = span (part.ref_ptr.1 - text.ref_ptr.1) (length part.now) }

-- It lies in the text's own memory, and not before the text.
abbrev pub LiesIn : Bor (List ℕ) → Bor (List ℕ) → Type 0
LiesIn text part = (part.ref_ptr.0 ≡ text.ref_ptr.0) × (text.ref_ptr.1 ≤ part.ref_ptr.1)

abbrev pub NamesRoot : List ℕ → List ℕ → List ℕ → OperationType → RootName → Type 0
NamesRoot text words rows op name = name ≡ root_operation text words rows op

-- An answer that is an enum has numbers (definition, specs/Answers.antt), and each of them is the outcome's. specs/Statements.antt shows that they leave
-- one answer.
abbrev pub SameField : FieldLookup → FieldLookup → Type 0
SameField r outcome =
    (field_refusal r ≡ field_refusal outcome) ×
    (field_number r ≡ field_number outcome) ×
    (field_meta r ≡ field_meta outcome) ×
    (field_card r ≡ field_card outcome)

abbrev pub SameSubtype : SubtypeLookup → SubtypeLookup → Type 0
SameSubtype r outcome = (subtype_refusal r ≡ subtype_refusal outcome) × (subtype_number r ≡ subtype_number outcome)

abbrev pub FindsField : List ℕ → List ℕ → List ℕ → List ℕ → List ℕ → FieldLookup → Type 0
FindsField text words rows type field r = (r ≡ type_field text words rows type field) × SameField r (type_field text words rows type field)

abbrev pub TellsSubtype : List ℕ → List ℕ → List ℕ → List ℕ → List ℕ → SubtypeLookup → Type 0
TellsSubtype text words rows general other r =
    (r ≡ is_subtype text words rows general other) × SameSubtype r (is_subtype text words rows general other)

-- ---- Lookups that fill a slice.

abbrev pub ListsOrigins : List ℕ → List ℕ → List ℕ → List ℕ → Answer → List ℕ → Type 0
ListsOrigins text words rows list r list' = ◌≡◌ {A = ListOutcome} (record { answer = r; list = list' }) (iter_origins text words rows list)

abbrev pub ListsExtensions : List ℕ → List ℕ → List ℕ → List ℕ → Answer → List ℕ → Type 0
ListsExtensions text words rows list r list' = ◌≡◌ {A = ListOutcome} (record { answer = r; list = list' }) (extensions text words rows list)

abbrev pub MapsImplementers : List ℕ → List ℕ → List ℕ → List ℕ → Answer → List ℕ → Type 0
MapsImplementers text words rows list r list' = ◌≡◌ {A = ListOutcome} (record { answer = r; list = list' }) (implementers_map text words rows list)

-- ---- Reading a text. (2.2)

abbrev pub Parses : List ℕ → List ℕ → Answer → List ℕ → Type 0
Parses text cards r cards' = ◌≡◌ {A = ListOutcome} (record { answer = r; list = cards' }) (parse text cards)
