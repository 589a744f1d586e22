-- What the lookups find, by the text and words of a store and the words of lent rows: the definition's lookups over what these hold.
use Rattle.std.specs.Prelude.{List, Bool, ◌≡◌, ℕ, ◌+◌, length, Option, Some, None}
use Rattle.std.specs.Borrow.{Bor}
use Rattle.definition.specs.declared.OperationType.{OperationType}
use Rattle.definition.specs.Answers.{FieldLookup}
use Rattle.definition.specs.declared.FieldFound.{FieldFound}
use Rattle.definition.specs.Lists.{found, written}
use Rattle.definition.specs.Headings.{NamedCard}
use Rattle.definition.specs.Catalogue.{Row}
use Rattle.definition.specs.Store.{account_in}
use Rattle.definition.specs.LentRows.{lent_rows, held, rows_refusal}
use Rattle.definition.specs.Lookups.{Span, root_card, root_span, meta_field, field_named, is_subtype_of, Group, groups}
use Rattle.definition.specs.Outcomes.{part_of}
use Rattle.store_reader.specs.Stored.{stored_parts}
use Rattle.schema_rows.specs.Rows.{row_at}

-- The cards held, by their numbers.
abbrev cards_in : List ℕ → List ℕ → List NamedCard
cards_in text words = held (account_in text words).documents

-- The card that has the name of the root at a row.
abbrev pub root_card_at : List ℕ → List ℕ → List ℕ → ℕ → ℕ
root_card_at text words rows i = root_card (stored_parts text words) (lent_rows rows) (row_at rows i)

-- The name of a root operation: which span of the text it is, and its bytes.
abbrev pub root_span_in : List ℕ → List ℕ → List ℕ → OperationType → Span
root_span_in text words rows op = root_span (account_in text words).documents (cards_in text words) (lent_rows rows) op

abbrev pub root_name : List ℕ → List ℕ → List ℕ → OperationType → List ℕ
root_name text words rows op = (part_of text (root_span_in text words rows op)).bytes

-- What is handed back is this span of the text: it lies in the text's memory, from where the span begins, and is as long.
pub record IsSpan (text part : Bor (List ℕ)) (s : Span) : Type 0 where
  pub block : part.ref_ptr.0 ≡ text.ref_ptr.0
  pub place : part.ref_ptr.1 ≡ text.ref_ptr.1 + s.at
  pub size : length part.now ≡ s.size

-- 26 does not refuse the rows.
abbrev pub RowsPass : List ℕ → List ℕ → List ℕ → Type 0
RowsPass text words rows = rows_refusal (account_in text words).documents rows ≡ 0

-- A meta field of a type of the kind and the name, by the cards that are stored.
abbrev pub meta_field_in : List NamedCard → List Row → ℕ → List ℕ → List ℕ → Option FieldFound
meta_field_in cs rs kind type field = found (meta_field cs rs kind type field) (λ m. Some m) None

abbrev pub field_in : List ℕ → List ℕ → List ℕ → List ℕ → List ℕ → FieldLookup
field_in text words rows type field = field_named (cards_in text words) (lent_rows rows) type field

abbrev pub is_subtype_in : List ℕ → List ℕ → List ℕ → List ℕ → List ℕ → Bool
is_subtype_in text words rows general other = is_subtype_of (cards_in text words) (lent_rows rows) general other

-- The groups of implementers_map.
abbrev pub groups_in : List ℕ → List ℕ → List ℕ → List Group
groups_in text words rows = groups (cards_in text words) (lent_rows rows)

-- The words xs were written at the front of a list, all else stayed, and `count` is how many they are.
abbrev pub Fills : List ℕ → List ℕ → List ℕ → ℕ → Type 0
Fills old xs new count = (count ≡ length xs) × (new ≡ written old 0 xs)
