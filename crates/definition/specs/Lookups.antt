-- 01, "Lookups", over the documents held and rows that 26 does not refuse (schema/mod.rs): "the first type row of a name counts, and in a list the first
-- part of a name".
use Rattle.std.specs.Prelude.{List, [], ◌∷◌, map, Bool, false, ◌&&◌, ◌||◌, not, ℕ, ◌+◌, ◌-◌, eqb, leb, length}
use Rattle.std.proofs.Math.Option.{Option, none, some}
use Rattle.std.proofs.Math.ListN.{get_elem?}
use Rattle.definition.specs.declared.OperationType.{OperationType}
use Rattle.definition.specs.declared.OperationType.TheVariants.{Query}
use Rattle.definition.specs.declared.FieldFound.{FieldFound}
use Rattle.definition.specs.declared.FieldFound.TheVariants.{Explicit, Typename, Schema, «Type» as MetaType}
use Rattle.definition.specs.Lists.{choose, found, filter, any, find, flat_map, firsts}
use Rattle.definition.specs.Names.{same_name, bytes}
use Rattle.definition.specs.Answers.{absent, root_kind, FieldLookup, Found, NoSuchType, NoSuchField}
use Rattle.definition.specs.Cards.{is_root}
use Rattle.definition.specs.Headings.{Document, NamedCard}
use Rattle.definition.specs.Catalogue.{Row, default_name}
use Rattle.definition.specs.LentRows.{name_numbered, is_row_named, is_type_row, first_type_row}

-- ---- Types with their rows.

-- A type row with the rows under it.
pub record Block : Type 0 where
  pub head : Row
  pub parts : List Row

-- The rows before the first type row, and the types.
unfoldable pub blocks : List Row → List Row × List Block
blocks [] = ([], [])
blocks (r ∷ rs) =
    let b = blocks rs in
    let type : List Row × List Block = ([], record { head = r; parts = b.0 } ∷ b.1) in
    let under : List Row × List Block = (r ∷ b.0, b.1) in
    choose (is_type_row r) type under

unfoldable pub is_block_named : List NamedCard → List ℕ → Block → Bool
is_block_named cs n b = is_row_named cs n b.head

unfoldable pub same_block : List NamedCard → Block → Block → Bool
same_block cs b d = is_block_named cs (name_numbered cs b.head.card) d

-- The types, of each name the first.
unfoldable pub first_types : List NamedCard → List Row → List Block
first_types cs rs = firsts (same_block cs) [] (blocks rs).1

-- The type of a name.
unfoldable pub type_named : List NamedCard → List Row → List ℕ → Option Block
type_named cs rs n = find (is_block_named cs n) (blocks rs).1

unfoldable pub is_row_of : ℕ → Row → Bool
is_row_of k r = eqb r.what k

unfoldable pub is_part_named : List NamedCard → ℕ → List ℕ → Row → Bool
is_part_named cs k n r = is_row_of k r && is_row_named cs n r

-- ---- root_operation.

-- A part of the store's text.
pub record Span : Type 0 where
  pub at : ℕ
  pub size : ℕ

unfoldable pub span : ℕ → ℕ → Span
span at size = record { at = at; size = size }

-- Where the name of the card of a number stands in the store's text; the documents' texts stand there one after another, the first from `at` on.
unfoldable pub span_in : ℕ → List Document → ℕ → Span
span_in at [] n = span 0 0
span_in at (d ∷ ds) n =
    let later = span_in (at + length d.text) ds (n - length d.cards) in
    found (get_elem? d.cards n) (λ c. span (at + c.name_at) c.name_len) later

-- The card that has a root's name: the root's own, or "a default root's is its object row's".
unfoldable pub root_card : List NamedCard → List Row → Row → ℕ
root_card cs rs r =
    let object = found (first_type_row cs rs (default_name r.what)) (λ t. t.card) absent in
    choose (eqb r.card absent) object r.card

unfoldable pub root_row : List Row → OperationType → Option Row
root_row rs op = find (is_row_of (root_kind op)) rs

-- The part of the store's text that a root's name is, empty if there is none.
unfoldable pub root_span : List Document → List NamedCard → List Row → OperationType → Span
root_span ds cs rs op = found (root_row rs op) (λ r. span_in 0 ds (root_card cs rs r)) (span 0 0)

-- ---- type_field: "an explicit card, or a meta field 1 `__typename`, 2 `__schema`, 3 `__type`, or no such type, or no such field with the type's card".

unfoldable pub is_query_root : List NamedCard → List Row → List ℕ → Bool
is_query_root cs rs n = found (root_row rs Query) (λ r. same_name n (name_numbered cs (root_card cs rs r))) false

-- Specification, section 4: objects, interfaces and unions have `__typename`; the query root has `__schema` and `__type`, here whatever its kind.
unfoldable pub meta_field : List NamedCard → List Row → ℕ → List ℕ → List ℕ → Option FieldFound
meta_field cs rs kind type field =
    choose (leb 6 kind && leb kind 8 && same_name field (bytes "__typename")) (some Typename) (
    choose (is_query_root cs rs type && same_name field (bytes "__schema")) (some Schema) (
    choose (is_query_root cs rs type && same_name field (bytes "__type")) (some MetaType) none))

-- The explicit field comes first. Only objects and interfaces have rows 22, by 26.
unfoldable pub field_of : List NamedCard → List Row → List ℕ → List ℕ → Block → FieldLookup
field_of cs rs type field b =
    let other = found (meta_field cs rs b.head.what type field) (λ m. Found m) (NoSuchField b.head.card) in
    found (find (is_part_named cs 22 field) b.parts) (λ r. Found (Explicit r.card)) other

unfoldable pub field_named : List NamedCard → List Row → List ℕ → List ℕ → FieldLookup
field_named cs rs type field = found (type_named cs rs type) (field_of cs rs type field) NoSuchType

-- ---- is_subtype.

unfoldable pub lists : List NamedCard → ℕ → List ℕ → Block → Bool
lists cs k n b = any (is_part_named cs k n) b.parts

-- An interface that the other type lists, or a union that lists the other name, as in the Rust; "a type is no subtype of itself unless it is listed".
unfoldable pub subtype_of : List NamedCard → List Row → List ℕ → List ℕ → Block → Bool
subtype_of cs rs general other b =
    choose (is_row_of 7 b.head) (found (type_named cs rs other) (lists cs 21 general) false) (is_row_of 8 b.head && lists cs 23 other b)

unfoldable pub is_subtype_of : List NamedCard → List Row → List ℕ → List ℕ → Bool
is_subtype_of cs rs general other = found (type_named cs rs general) (subtype_of cs rs general other) false

-- ---- iter_origins and extensions of `SchemaDefinition`: an origin is one word.

unfoldable pub is_schema_part : Row → Bool
is_schema_part r = is_row_of 20 r || is_root r.what

unfoldable pub origin_of : Row → ℕ
origin_of r = r.origin

-- The origins of the directive uses and roots after the row 4.
unfoldable pub origin_list : List Row → List ℕ
origin_list rs = map origin_of (filter is_schema_part (blocks rs).0)

unfoldable pub is_card : ℕ → Bool
is_card n = not (eqb n absent)

-- The extensions among them, each once, in order of first occurrence.
unfoldable pub extension_list : List Row → List ℕ
extension_list rs = firsts eqb [] (filter is_card (origin_list rs))

-- ---- implementers_map.

-- "groups of naming card (the first), object count, interface count, then the type cards of both kinds together in catalogue order": the naming card is
-- the first 21 of the interface's name, in row order.
pub record Group : Type 0 where
  pub naming : ℕ
  pub objects : ℕ
  pub interfaces : ℕ
  pub cards : List ℕ

-- A 21 with the type that lists it.
pub record Implementing : Type 0 where
  pub interface : Row
  pub type : Row

unfoldable pub same_interface : List NamedCard → Row → Row → Bool
same_interface cs r s = is_row_named cs (name_numbered cs r.card) s

unfoldable pub implementing : Row → Row → Implementing
implementing t r = record { interface = r; type = t }

unfoldable pub implementing_of : List NamedCard → Block → List Implementing
implementing_of cs b = map (implementing b.head) (firsts (same_interface cs) [] (filter (is_row_of 21) b.parts))

unfoldable pub all_implementing : List NamedCard → List Row → List Implementing
all_implementing cs rs = flat_map (implementing_of cs) (first_types cs rs)

unfoldable pub same_group : List NamedCard → Implementing → Implementing → Bool
same_group cs i j = same_interface cs i.interface j.interface

unfoldable pub is_implementing : ℕ → Implementing → Bool
is_implementing k i = is_row_of k i.type

unfoldable pub type_card : Implementing → ℕ
type_card i = i.type.card

unfoldable pub group_of : List NamedCard → List Implementing → Implementing → Group
group_of cs is i =
    let same = filter (same_group cs i) is in
    record {
      naming = i.interface.card;
      objects = length (filter (is_implementing 6) same);
      interfaces = length (filter (is_implementing 7) same);
      cards = map type_card same;
    }

-- "Groups now stand in the order of their naming cards' rows." (2.3): of the rows, not of the cards' numbers.
unfoldable pub groups : List NamedCard → List Row → List Group
groups cs rs =
    let is = all_implementing cs rs in
    map (group_of cs is) (firsts (same_group cs) [] is)

unfoldable pub group_words : Group → List ℕ
group_words g = g.naming ∷ g.objects ∷ g.interfaces ∷ g.cards
