-- The middle layer between the definitions and the code, second part: the rows. The definitions (definition/specs/Catalogue) make the rows of headings
-- with their parts; the code has arrays of card numbers (from_ast_index/specs/Index) and reads kinds and names at them. This file says which rows come
-- of those numbers, in the steps that the code takes, and the contracts of `component` and `from_ast_rows` cite it. That all the rows are those of the
-- definitions is shown by proofs/Blocks, Directives and SchemaLists, and for the whole catalogue by proofs/Catalogue of `from_ast_rows`.
use Rattle.std.specs.Prelude.{List, [], ◌∷◌, ◌++◌, Bool, true, false, ◌&&◌, not, ℕ, ◌+◌, ◌<◌, eqb, length, drop, get_or}
use Rattle.definition.specs.Lists.{choose, found, filter, any, find, take_until, flat_map, firsts}
use Rattle.definition.specs.Answers.{absent}
use Rattle.definition.specs.Cards.{Card, is_root, is_type, definition_of}
use Rattle.definition.specs.Names.{same_name}
use Rattle.definition.specs.Headings.{is_of}
use Rattle.definition.specs.Catalogue.{Row, row, component, components, under_type, under_schema, default_name}
use Rattle.definition.specs.Store.{cards_used_of, stored_cards}
use Rattle.store_reader.specs.Stored.{card_kind, card_name, card_at, built_in_at, heading_at, is_heading_card}
use Rattle.from_ast_index.specs.Index.{same_stored, is_type_extension_kind}
use Rattle.component.specs.Pushed.{Filled, alike_rows, extend_sticky, rows_of_kind}

-- An array of numbers of stored cards.
pub record Stored (words cards : List ℕ) : Type 0 where
  pub stored : (i : ℕ) → i < length cards → get_or cards i 0 < cards_used_of words

-- ---- Lists that grow.

-- The parts of kind k under a heading card, as rows.
unfoldable pub head_rows : List ℕ → List ℕ → ℕ → ℕ → ℕ → List Row
head_rows text words origin k n = rows_of_kind k (components origin (heading_at text words n))

-- The list that begins at `start`, extended by one row,
abbrev pub extend_by_row : List ℕ → List ℕ → Row → ℕ → Filled → Filled
extend_by_row text words r start s = extend_sticky (same_stored text words) start (r ∷ []) s

-- by a card, if it is of kind k,
abbrev pub extend_by_card : List ℕ → List ℕ → ℕ → ℕ → ℕ → ℕ → Filled → Filled
extend_by_card text words origin k card start s =
    extend_sticky (same_stored text words) start (rows_of_kind k (component origin (card_at text words card) ∷ [])) s

-- by the parts of kind k under a heading.
abbrev pub extend_by_heading : List ℕ → List ℕ → ℕ → ℕ → ℕ → ℕ → Filled → Filled
extend_by_heading text words origin k heading start s = extend_sticky (same_stored text words) start (head_rows text words origin k heading) s

-- ---- The lists of a type.

-- The kind of the extensions that a type takes in: an adopted type is one of them.
unfoldable pub extension_kind : List ℕ → ℕ → ℕ
extension_kind words card = definition_of (card_kind words card) + 7

-- Whether an extension is of a kind and has the name of the owner; and those of the cards ns that a type takes in.
unfoldable pub is_matching : List ℕ → List ℕ → ℕ → ℕ → ℕ → Bool
is_matching text words ext owner n = is_of ext (card_name text words owner) (heading_at text words n)

unfoldable pub matching : List ℕ → List ℕ → List ℕ → ℕ → List ℕ
matching text words ns card = filter (is_matching text words (extension_kind words card) card) ns

-- The parts of kind k that extensions bring.
unfoldable pub extension_rows_at : List ℕ → List ℕ → ℕ → ℕ → List Row
extension_rows_at text words k n = head_rows text words n k n

unfoldable pub extension_rows : List ℕ → List ℕ → ℕ → List ℕ → List Row
extension_rows text words k ns = flat_map (extension_rows_at text words k) ns

abbrev pub extend_by_extensions : List ℕ → List ℕ → ℕ → List ℕ → ℕ → Filled → Filled
extend_by_extensions text words k ns start s = extend_sticky (same_stored text words) start (extension_rows text words k ns) s

-- The rows that a list of kind k is made from: of a definition its own parts and then its extensions', of an orphan only the extensions'. ns are
-- the extensions that the type takes in.
unfoldable pub list_rows : List ℕ → List ℕ → List ℕ → ℕ → ℕ → List Row
list_rows text words ns card k =
    let adopted = extension_rows text words k ns in
    let defined = head_rows text words absent k card ++ adopted in
    choose (is_type_extension_kind (card_kind words card)) adopted defined

unfoldable pub list_at : List ℕ → List ℕ → List ℕ → ℕ → ℕ → List Row
list_at text words ns card k = firsts (alike_rows (same_stored text words)) [] (list_rows text words ns card k)

-- All of them.
abbrev pub lists_at : List ℕ → List ℕ → List ℕ → ℕ → List Row
lists_at text words ns card = flat_map (list_at text words ns card) under_type

-- A definition has no origin; an adopted type's first extension is its origin too.
unfoldable pub type_row_at : List ℕ → ℕ → Row
type_row_at words card = row (definition_of (card_kind words card)) card (choose (is_type_extension_kind (card_kind words card)) card absent)

-- ns are all type extensions.
unfoldable pub type_rows_at : List ℕ → List ℕ → List ℕ → ℕ → List Row
type_rows_at text words ns card = type_row_at words card ∷ lists_at text words (matching text words ns card) card

-- The rows of all types of an array; and those of the defined types, then, adopting, those of the first orphans of each name.
abbrev pub types_rows_at : List ℕ → List ℕ → List ℕ → List ℕ → List Row
types_rows_at text words types ns = flat_map (type_rows_at text words ns) types

abbrev pub all_types_rows_at : List ℕ → List ℕ → Bool → List ℕ → List ℕ → List ℕ → List Row
all_types_rows_at text words adopt types orphans ns = types_rows_at text words types ns ++ choose adopt (types_rows_at text words orphans ns) []

-- ---- Directive definitions. ns are all headings' cards.

-- The first that is not built-in, else the last.
unfoldable pub standing_card : (ℕ → Bool) → ℕ → List ℕ → ℕ
standing_card built_in last [] = last
standing_card built_in last (n ∷ ns) = let r = standing_card built_in n ns in choose (built_in n) r n

unfoldable pub names_directive : List ℕ → List ℕ → ℕ → ℕ → Bool
names_directive text words card n = is_of 3 (card_name text words card) (heading_at text words n)

unfoldable pub standing_at : List ℕ → List ℕ → List ℕ → ℕ → ℕ
standing_at text words ns card = standing_card (built_in_at words) absent (filter (names_directive text words card) ns)

-- A directive definition brings the one that stands for its name.
unfoldable pub directive_rows_of : List ℕ → List ℕ → List ℕ → ℕ → List Row
directive_rows_of text words ns n =
    let rs : List Row = row 3 (standing_at text words ns n) absent ∷ [] in
    choose (eqb (card_kind words n) 3) rs []

abbrev pub extend_by_directive : List ℕ → List ℕ → List ℕ → ℕ → ℕ → Filled → Filled
extend_by_directive text words ns n start s = extend_sticky (same_stored text words) start (directive_rows_of text words ns n) s

unfoldable pub directive_rows_at : List ℕ → List ℕ → List ℕ → List Row
directive_rows_at text words ns = firsts (alike_rows (same_stored text words)) [] (flat_map (directive_rows_of text words ns) ns)

-- ---- The schema. ns are all headings' cards.

unfoldable pub is_schema_card : List ℕ → ℕ → Bool
is_schema_card words n = eqb (card_kind words n) 4

-- The card of the first schema definition, or `-`.
unfoldable pub schema_card : List ℕ → List ℕ → ℕ
schema_card words ns = found (find (is_schema_card words) ns) (λ n. n) absent

-- The parts of kind k under a schema extension, as rows.
unfoldable pub schema_extension_at : List ℕ → List ℕ → ℕ → ℕ → List Row
schema_extension_at text words k n =
    let rs = head_rows text words n k n in
    choose (eqb (card_kind words n) 11) rs []

abbrev pub extend_by_schema_extension : List ℕ → List ℕ → ℕ → ℕ → ℕ → Filled → Filled
extend_by_schema_extension text words k n start s = extend_sticky (same_stored text words) start (schema_extension_at text words k n) s

abbrev pub extend_by_schema_extensions : List ℕ → List ℕ → ℕ → List ℕ → ℕ → Filled → Filled
extend_by_schema_extensions text words k ns start s = extend_sticky (same_stored text words) start (flat_map (schema_extension_at text words k) ns) s

-- The kinds of type extensions, or those of type definitions.
abbrev pub is_type_kind : Bool → ℕ → Bool
is_type_kind true = is_type_extension_kind
is_type_kind false = is_type

-- Whether a card has such a kind and the name; and the kind of the first one, or 0.
unfoldable pub is_type_named : List ℕ → List ℕ → Bool → List ℕ → ℕ → Bool
is_type_named text words extending name n = is_type_kind extending (card_kind words n) && same_name name (card_name text words n)

unfoldable pub first_kind : List ℕ → List ℕ → List ℕ → Bool → List ℕ → ℕ
first_kind text words ns extending name = found (find (is_type_named text words extending name) ns) (card_kind words) 0

-- The kind of the type of a name: that of its definition, else, adopting, the one that its first extension extends.
unfoldable pub kind_named_at : List ℕ → List ℕ → Bool → List ℕ → List ℕ → ℕ
kind_named_at text words adopt ns name =
    let orphaned = definition_of (first_kind text words ns true name) in
    let undefined = choose adopt orphaned 0 in
    choose (eqb (first_kind text words ns false name) 0) undefined (first_kind text words ns false name)

-- Whether a default root is set, and its row in the list of its kind.
unfoldable pub has_default : List ℕ → List ℕ → Bool → List ℕ → ℕ → Bool
has_default text words adopt ns k = eqb (kind_named_at text words adopt ns (default_name k)) 6

unfoldable pub any_default : List ℕ → List ℕ → Bool → List ℕ → Bool
any_default text words adopt ns =
    let last = has_default text words adopt ns 28 in
    let later = choose (has_default text words adopt ns 27) true last in
    choose (has_default text words adopt ns 26) true later

unfoldable pub default_rows : List ℕ → List ℕ → Bool → List ℕ → ℕ → List Row
default_rows text words adopt ns k =
    let set = choose (has_default text words adopt ns k) (row k absent absent ∷ []) [] in
    choose (is_root k) set []

abbrev pub extend_by_default : List ℕ → List ℕ → Bool → List ℕ → ℕ → ℕ → Filled → Filled
extend_by_default text words adopt ns k start s = extend_sticky (same_stored text words) start (default_rows text words adopt ns k) s

-- Whether a schema extension has a root.
unfoldable pub is_root_card : Card → Bool
is_root_card c = is_root c.kind

unfoldable pub sets_root : List ℕ → ℕ → Bool
sets_root words n =
    let roots = any is_root_card (take_until is_heading_card (drop (n + 1) (stored_cards words))) in
    choose (eqb (card_kind words n) 11) roots false

-- Whether default roots have a part in the schema, where it has no definition: adopting, if no root is set; else if there are any.
unfoldable pub is_implicit : List ℕ → List ℕ → Bool → List ℕ → Bool
is_implicit text words adopt ns =
    let unset = not (any (sets_root words) ns) in
    let some = any_default text words false ns in
    choose adopt unset some

-- The rows that the schema's list of kind k is made from.
unfoldable pub schema_list_rows : List ℕ → List ℕ → Bool → List ℕ → ℕ → Bool → ℕ → List Row
schema_list_rows text words adopt ns schema implicit k =
    let extensions = flat_map (schema_extension_at text words k) ns in
    let defaults = default_rows text words adopt ns k in
    let adopted = extensions ++ choose implicit defaults [] in
    let unadopted = choose implicit (defaults ++ extensions) [] in
    let defined = head_rows text words absent k schema ++ extensions in
    choose (eqb schema absent) (choose adopt adopted unadopted) defined

unfoldable pub schema_list_at : List ℕ → List ℕ → Bool → List ℕ → ℕ → Bool → ℕ → List Row
schema_list_at text words adopt ns schema implicit k = firsts (alike_rows (same_stored text words)) [] (schema_list_rows text words adopt ns schema implicit k)

-- All of them.
abbrev pub schema_lists_at : List ℕ → List ℕ → Bool → List ℕ → ℕ → Bool → List Row
schema_lists_at text words adopt ns schema implicit = flat_map (schema_list_at text words adopt ns schema implicit) under_schema

unfoldable pub schema_rows_at : List ℕ → List ℕ → Bool → List ℕ → List Row
schema_rows_at text words adopt ns =
    row 4 (schema_card words ns) absent ∷ schema_lists_at text words adopt ns (schema_card words ns) (is_implicit text words adopt ns)
