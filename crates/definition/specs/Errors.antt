-- 01, "Catalogue": the error rows, in the order in which the Rust pushes them (R12).
-- Errors are told by what stands before: `errors_at before h` is what reading the heading h gives after the headings `before`.
use Rattle.std.specs.Prelude.{List, [], ◌∷◌, ◌++◌, map, Bool, false, ℕ, ◌+◌, ◌-◌, eqb, leb, get_or}
use Rattle.definition.specs.Lists.{choose, found, filter, is_empty, flat_map, firsts, repeats}
use Rattle.definition.specs.Answers.{absent}
use Rattle.definition.specs.Headings.{NamedCard, Heading, alike, parts_of, is_kind, is_type_definition, definition, extensions_of, same_named, orphans}
use Rattle.definition.specs.Headings.{directive_named, schema_definition, schema_extensions}
use Rattle.definition.specs.Catalogue.{part_in, default_roots}

-- ---- Numbers and errors.

-- "Numbers 1 to 16 follow `BuildError` in order": each has the name of its variant.
abbrev pub executable_definition : ℕ
executable_definition = 1

abbrev pub schema_definition_collision : ℕ
schema_definition_collision = 2

abbrev pub directive_definition_collision : ℕ
directive_definition_collision = 3

abbrev pub type_definition_collision : ℕ
type_definition_collision = 4

abbrev pub built_in_scalar_type_redefinition : ℕ
built_in_scalar_type_redefinition = 5

abbrev pub orphan_schema_extension : ℕ
orphan_schema_extension = 6

abbrev pub orphan_type_extension : ℕ
orphan_type_extension = 7

abbrev pub type_extension_kind_mismatch : ℕ
type_extension_kind_mismatch = 8

abbrev pub duplicate_root_operation : ℕ
duplicate_root_operation = 9

abbrev pub duplicate_implements_interface_in_object : ℕ
duplicate_implements_interface_in_object = 10

abbrev pub duplicate_implements_interface_in_interface : ℕ
duplicate_implements_interface_in_interface = 11

abbrev pub object_field_name_collision : ℕ
object_field_name_collision = 12

abbrev pub interface_field_name_collision : ℕ
interface_field_name_collision = 13

abbrev pub enum_value_name_collision : ℕ
enum_value_name_collision = 14

abbrev pub union_member_name_collision : ℕ
union_member_name_collision = 15

abbrev pub input_field_name_collision : ℕ
input_field_name_collision = 16

-- "Error rows of three words: number, card, earlier card."
pub record Error : Type 0 where
  pub number : ℕ
  pub card : ℕ
  pub earlier : ℕ

unfoldable pub error : ℕ → ℕ → ℕ → Error
error n c e = record { number = n; card = c; earlier = e }

-- One error of a heading.
unfoldable pub heading_error : ℕ → ℕ → Heading → List Error
heading_error n e h = error n h.number e ∷ []

-- ---- A part that comes again: "The first card of a name in a list stays; each later one is one error."

-- The numbers by the kind of the part: 21 interfaces, 22 fields, 23 members, 24 values, 25 input fields, 26 to 28 roots.
abbrev pub collision_numbers : List ℕ
collision_numbers =
    duplicate_implements_interface_in_object ∷
    object_field_name_collision ∷
    union_member_name_collision ∷
    enum_value_name_collision ∷
    input_field_name_collision ∷
    duplicate_root_operation ∷
    duplicate_root_operation ∷
    duplicate_root_operation ∷
    []

-- The number of a part of kind p under what has kind k. An interface, 7, has the numbers that follow those of an object:
-- duplicate_implements_interface_in_interface and interface_field_name_collision.
unfoldable pub collision_number : ℕ → ℕ → ℕ
collision_number k p =
    let n : ℕ = get_or collision_numbers (p - 21) 0 in
    choose (eqb k 7) (n + 1) n

-- "The earlier card is .. the earlier part in 9 to 16 (`-` after a default root)".
unfoldable pub collision : ℕ → NamedCard × NamedCard → Error
collision k r = error (collision_number k r.0.kind) r.0.number r.1.number

-- The errors of parts that are added, in order, to a list made of the parts `seen`.
unfoldable pub collisions : ℕ → List NamedCard → List NamedCard → List Error
collisions k seen ps = map (collision k) (repeats alike seen ps)

-- ---- While reading documents.

-- A directive whose standing definition is not built-in: "A built-in directive is replaced without error, keeping its place; any other is a
-- collision." (R8)
unfoldable pub directive_errors : List Heading → Heading → List Error
directive_errors before h = found (directive_named h.name before) (λ d. choose d.built_in [] (heading_error directive_definition_collision d.number h)) []

-- A second schema definition is a collision (R5). The first one is merged with the extensions filed before it.
unfoldable pub schema_errors : List Heading → Heading → List Error
schema_errors before h =
    let new = collisions 4 [] (h.parts ++ parts_of (schema_extensions before)) in
    found (schema_definition before) (λ s. heading_error schema_definition_collision s.number h) new

-- A schema extension filed before any definition waits.
unfoldable pub schema_extension_errors : List Heading → Heading → List Error
schema_extension_errors before h =
    found (schema_definition before) (λ s. collisions 4 (s.parts ++ parts_of (schema_extensions before)) h.parts) []

-- A second type definition h after d: "With ignore on when filed and a built-in before it: no error" (R6); a scalar after a built-in type has a number
-- of its own (R7); else it is a collision.
unfoldable pub redefinition_errors : Heading → Heading → List Error
redefinition_errors h d =
    let again = heading_error type_definition_collision d.number h in
    let scalar = heading_error built_in_scalar_type_redefinition absent h in
    let after_built_in = choose h.ignored [] (choose (is_kind 5 h) scalar again) in
    choose d.built_in after_built_in again

-- A first type definition is merged with the extensions of its kind filed before it; those of another kind are dropped with no error. (R3, R4)
unfoldable pub type_errors : List Heading → Heading → List Error
type_errors before h =
    let new = collisions h.kind [] (h.parts ++ parts_of (extensions_of (h.kind + 7) h.name before)) in
    found (definition h.name before) (redefinition_errors h) new

-- A type extension filed after a definition d: one of another kind is a mismatch.
unfoldable pub late_extension_errors : List Heading → Heading → Heading → List Error
late_extension_errors before h d =
    let merged = collisions d.kind (d.parts ++ parts_of (extensions_of h.kind h.name before)) h.parts in
    choose (is_kind (d.kind + 7) h) merged (heading_error type_extension_kind_mismatch d.number h)

-- A type extension filed before its definition waits.
unfoldable pub type_extension_errors : List Heading → Heading → List Error
type_extension_errors before h = found (definition h.name before) (late_extension_errors before h) []

-- What reading the heading h gives, by its kind: 1 and 2 (R13), 3, 4, 5 to 10, 11, 12 to 17.
unfoldable pub errors_at : List Heading → Heading → List Error
errors_at before h =
    choose (leb h.kind 2) (heading_error executable_definition absent h) (
    choose (is_kind 3 h) (directive_errors before h) (
    choose (is_kind 4 h) (schema_errors before h) (
    choose (is_type_definition h) (type_errors before h) (
    choose (is_kind 11 h) (schema_extension_errors before h)
    (type_extension_errors before h)))))

-- What reading headings in order gives, after those before them.
unfoldable pub reading_errors : List Heading → List Heading → List Error
reading_errors before [] = []
reading_errors before (h ∷ hs) = errors_at before h ++ reading_errors (before ++ (h ∷ [])) hs

-- ---- While drawing.

-- What adopting the extensions of one name gives, g being the first of them: one of another kind than g is a mismatch. (R9)
unfoldable pub adoption_errors : Heading → List NamedCard → List Heading → List Error
adoption_errors g seen [] = []
adoption_errors g seen (e ∷ es) =
    let merged = collisions (g.kind - 7) seen e.parts ++ adoption_errors g (seen ++ e.parts) es in
    let dropped = heading_error type_extension_kind_mismatch g.number e ++ adoption_errors g seen es in
    choose (is_kind g.kind e) merged dropped

-- The orphans of one name, g being the first: adopted, or each an error.
unfoldable pub orphan_errors : Bool → List Heading → Heading → List Error
orphan_errors adopt os g =
    let same = filter (same_named g) os in
    let adopted = adoption_errors g [] same in
    let unadopted = flat_map (heading_error orphan_type_extension absent) same in
    choose adopt adopted unadopted

-- No schema definition: adopting, the extensions make the schema; else "if any was set, schema extensions follow, else each is error 6". (R10)
unfoldable pub no_schema_errors : Bool → List Heading → List Error
no_schema_errors adopt hs =
    let ps = parts_of (schema_extensions hs) in
    let defaults = default_roots false hs in
    let adopted = collisions 4 [] ps in
    let unmet = flat_map (heading_error orphan_schema_extension absent) (schema_extensions hs) in
    let met = collisions 4 (map part_in defaults) ps in
    let unadopted = choose (is_empty defaults) unmet met in
    choose adopt adopted unadopted

-- The orphans name by name, in the order of the first ones (R9), then the schema extensions.
unfoldable pub drawing_errors : Bool → List Heading → List Error
drawing_errors adopt hs =
    let undefined = no_schema_errors adopt hs in
    flat_map (orphan_errors adopt (orphans hs)) (firsts same_named [] (orphans hs)) ++ found (schema_definition hs) (λ s. []) undefined
