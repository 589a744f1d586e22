-- 01, "Catalogue": the rows. The marks R1 to R14 are the Rust's choices, listed in docs/DIFFERENCES.md beside what the specification says.
use Rattle.std.specs.Prelude.{List, [], ◌∷◌, ◌++◌, map, Bool, true, false, ℕ, ◌+◌, ◌-◌, eqb}
use Rattle.std.proofs.Math.Option.{Option}
use Rattle.definition.specs.Lists.{choose, found, filter, any, is_empty, find, flat_map, firsts}
use Rattle.definition.specs.Names.{bytes}
use Rattle.definition.specs.Answers.{absent}
use Rattle.definition.specs.Cards.{is_root}
use Rattle.definition.specs.Headings.{NamedCard, Heading, alike, definition, extends_type, extensions_of, defined_types, same_named, orphans, directives}
use Rattle.definition.specs.Headings.{directive_named, schema_definition, schema_extensions, number_of}

-- ---- Components: parts with their origins (component.rs).

-- A part with its origin: "Origin is `-` for a definition or the extension's heading card."
pub record Component : Type 0 where
  pub part : NamedCard
  pub origin : ℕ

unfoldable pub component : ℕ → NamedCard → Component
component o p = record { part = p; origin = o }

unfoldable pub components : ℕ → Heading → List Component
components o h = map (component o) h.parts

unfoldable pub own_components : Heading → List Component
own_components e = components e.number e

unfoldable pub of_extensions : List Heading → List Component
of_extensions es = flat_map own_components es

unfoldable pub part_in : Component → NamedCard
part_in c = c.part

unfoldable pub alike_components : Component → Component → Bool
alike_components c d = alike c.part d.part

-- "The first card of a name in a list stays". (R1)
unfoldable pub kept : List Component → List Component
kept cs = firsts alike_components [] cs

-- ---- Rows.

-- "Rows of three words: what, card, origin."
pub record Row : Type 0 where
  pub what : ℕ
  pub card : ℕ
  pub origin : ℕ

abbrev pub row : ℕ → ℕ → ℕ → Row
row w c o = record { what = w; card = c; origin = o }

unfoldable pub component_row : Component → Row
component_row c = row c.part.kind c.part.number c.origin

unfoldable pub is_component_of : ℕ → Component → Bool
is_component_of k c = eqb c.part.kind k

-- The rows of the components of one kind.
unfoldable pub list_of_kind : List Component → ℕ → List Row
list_of_kind cs k = map component_row (filter (is_component_of k) cs)

-- "Under it: 21s, 20s, then 22 to 25", and under the row 4 "its 20s; the roots set, in the order 26, 27, 28".
unfoldable pub under_type : List ℕ
under_type = 21 ∷ 20 ∷ 22 ∷ 23 ∷ 24 ∷ 25 ∷ []

unfoldable pub under_schema : List ℕ
under_schema = 20 ∷ 26 ∷ 27 ∷ 28 ∷ []

-- A type row with its lists.
unfoldable pub block : Row → List Component → List Row
block r cs = r ∷ flat_map (list_of_kind cs) under_type

-- ---- Types.

-- A defined type: its own parts, then those of its extensions in filing order, whether filed after the definition or before it: "Extensions filed before
-- their definition are merged at it, in order. One of another kind is then dropped with no error" (R3, R4). Specification, 3.4.3: an extension adds to a
-- type that is defined elsewhere.
unfoldable pub type_components : List Heading → Heading → List Component
type_components hs d = components absent d ++ of_extensions (extensions_of (d.kind + 7) d.name hs)

unfoldable pub type_row : Heading → Row
type_row d = row d.kind d.number absent

unfoldable pub type_rows : List Heading → Heading → List Row
type_rows hs d = block (type_row d) (kept (type_components hs d))

-- An adopted type, g being the first orphan of its name, has that orphan's kind: "an adopted one has its first extension as card and as origin". (R9)
unfoldable pub adopted_row : Heading → Row
adopted_row g = row (g.kind - 7) g.number g.number

unfoldable pub adopted_rows : List Heading → Heading → List Row
adopted_rows hs g = block (adopted_row g) (kept (of_extensions (extensions_of g.kind g.name hs)))

-- "adopted ones last in order of first orphan"
unfoldable pub adopted : Bool → List Heading → List Row
adopted adopt hs = let r = flat_map (adopted_rows hs) (firsts same_named [] (orphans hs)) in choose adopt r []

-- ---- Directive definitions: at the place of the first of the name, the one that stands. (R8)

unfoldable pub directive_row : Option Heading → List Row
directive_row o = found o (λ d. row 3 d.number absent ∷ []) []

unfoldable pub directive_row_at : List Heading → Heading → List Row
directive_row_at hs h = directive_row (directive_named h.name hs)

unfoldable pub directive_rows : List Heading → List Row
directive_rows hs = flat_map (directive_row_at hs) (firsts same_named [] (directives hs))

-- ---- The schema.

-- The default root names of specification, 3.3.1.
unfoldable pub default_name : ℕ → List ℕ
default_name k = choose (eqb k 26) (bytes "Query") (choose (eqb k 27) (bytes "Mutation") (choose (eqb k 28) (bytes "Subscription") []))

-- The kind of the type of a name, 0 where there is none; an adopted type counts (R14).
unfoldable pub kind_named : Bool → List Heading → List ℕ → ℕ
kind_named adopt hs n =
    let orphaned = found (find (extends_type n) hs) (λ e. e.kind - 7) 0 in
    let undefined = choose adopt orphaned 0 in
    found (definition n hs) (λ d. d.kind) undefined

-- "roots `Query`, `Mutation`, `Subscription` are set where an object type has that name"; "A default root's card and origin are `-`." (R10)
unfoldable pub default_root : Bool → List Heading → ℕ → List Component
default_root adopt hs k =
    choose (eqb (kind_named adopt hs (default_name k)) 6) (component absent (record { number = absent; kind = k; name = default_name k }) ∷ []) []

unfoldable pub default_roots : Bool → List Heading → List Component
default_roots adopt hs = default_root adopt hs 26 ++ default_root adopt hs 27 ++ default_root adopt hs 28

unfoldable pub is_root_component : Component → Bool
is_root_component c = is_root c.part.kind

-- "Without a schema definition. Not adopting": the default roots; "if any was set, schema extensions follow". (R10)
unfoldable pub unadopted_schema : List Heading → List Component
unadopted_schema hs =
    let defaults = default_roots false hs in
    let all = defaults ++ of_extensions (schema_extensions hs) in
    choose (is_empty defaults) [] all

-- "Adopting: types, then schema extensions, then default roots only if no root is set." (R11)
unfoldable pub adopted_schema : List Heading → List Component
adopted_schema hs =
    let es = of_extensions (schema_extensions hs) in
    let all = es ++ default_roots true hs in
    choose (any is_root_component es) es all

-- What the schema is made of, in order.
unfoldable pub schema_components : Bool → List Heading → List Component
schema_components adopt hs =
    let adopted = adopted_schema hs in
    let unadopted = unadopted_schema hs in
    let undefined = choose adopt adopted unadopted in
    found (schema_definition hs) (λ s. components absent s ++ of_extensions (schema_extensions hs)) undefined

-- "First `4`, with the schema definition's card or `-`; its 20s; the roots set".
unfoldable pub schema_rows : Bool → List Heading → List Row
schema_rows adopt hs = row 4 (number_of (schema_definition hs)) absent ∷ flat_map (list_of_kind (kept (schema_components adopt hs))) under_schema

-- ---- All rows: the schema's, "Then directive definitions, then types in first-definition order, adopted ones last".
unfoldable pub rows : Bool → List Heading → List Row
rows adopt hs = schema_rows adopt hs ++ (directive_rows hs ++ (flat_map (type_rows hs) (defined_types hs) ++ adopted adopt hs))
