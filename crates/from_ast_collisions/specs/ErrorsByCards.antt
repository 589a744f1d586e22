-- The errors of a build by the cards' numbers and the finished rows: `headings` are the cards of all headings, `extensions` those of all type
-- extensions, `orphans` those of the first orphan of each name, each in order, and `schema` is the first schema definition's, or `-`.
-- proofs/Reading.antt and proofs/Schema.antt show that they are the definition's.
use Rattle.std.specs.Prelude.{List, [], ◌∷◌, ◌++◌, Bool, true, ◌&&◌, not, ℕ, ◌+◌, ◌-◌, eqb, leb, ltb, length, get_or}
use Rattle.definition.specs.Lists.{choose, found, find, flat_map}
use Rattle.definition.specs.Names.{same_name}
use Rattle.definition.specs.Answers.{absent}
use Rattle.definition.specs.Cards.{is_type}
use Rattle.definition.specs.Errors.{Error, error}
use Rattle.from_ast_collisions.specs.Earlier.{View, merge_errors}

-- ---- While reading documents. `before` are the cards of the headings before h.

-- A directive definition that is not built-in and has the name of h.
unfoldable pub collides : View → ℕ → ℕ → Bool
collides v h c = eqb (v.kind c) 3 && (not (v.built_in c) && same_name (v.name h) (v.name c))

unfoldable pub directive_errors_at : View → List ℕ → ℕ → List Error
directive_errors_at v before h = found (find (collides v h) before) (λ c. error 3 h c ∷ []) []

-- The parts of a schema extension, merged into the schema.
unfoldable pub schema_merge_errors : View → List ℕ → ℕ → ℕ → List Error
schema_merge_errors v rows schema c = let merged = merge_errors v rows 4 schema c in choose (eqb (v.kind c) 11) merged []

unfoldable pub schema_errors_at : View → List ℕ → ℕ → List ℕ → ℕ → List Error
schema_errors_at v rows schema before h =
    let new = merge_errors v rows 4 schema h ++ flat_map (schema_merge_errors v rows schema) before in
    choose (ltb schema h) (error 2 h schema ∷ []) new

unfoldable pub schema_extension_errors_at : View → List ℕ → ℕ → ℕ → List Error
schema_extension_errors_at v rows schema h = let merged = merge_errors v rows 4 schema h in choose (ltb schema h) merged []

unfoldable pub redefinition_errors_at : View → ℕ → List Error
redefinition_errors_at v h =
    let collision = error 4 h (v.owner h) ∷ [] in
    let after_built_in = choose (v.ignored h) [] (choose (eqb (v.kind h) 5) (error 5 h absent ∷ []) collision) in
    choose (v.built_in (v.owner h)) after_built_in collision

-- An extension before its definition h, of the kind that h has.
unfoldable pub is_early : View → ℕ → ℕ → Bool
is_early v h c = ltb c h && (eqb (v.kind c) (v.kind h + 7) && eqb (v.owner c) h)

unfoldable pub early_errors : View → List ℕ → ℕ → ℕ → List Error
early_errors v rows h c = let merged = merge_errors v rows (v.kind h) h c in choose (is_early v h c) merged []

unfoldable pub type_errors_at : View → List ℕ → List ℕ → ℕ → List Error
type_errors_at v rows extensions h =
    let new = merge_errors v rows (v.kind h) h h ++ flat_map (early_errors v rows h) extensions in
    choose (ltb (v.owner h) h) (redefinition_errors_at v h) new

unfoldable pub late_errors_at : View → List ℕ → ℕ → ℕ → List Error
late_errors_at v rows d h =
    let merged = merge_errors v rows (v.kind d) d h in
    choose (eqb (v.kind h) (v.kind d + 7)) merged (error 8 h d ∷ [])

unfoldable pub type_extension_errors_at : View → List ℕ → ℕ → List Error
type_extension_errors_at v rows h = let late = late_errors_at v rows (v.owner h) h in choose (ltb (v.owner h) h) late []

unfoldable pub errors_at_card : View → List ℕ → ℕ → List ℕ → List ℕ → ℕ → List Error
errors_at_card v rows schema extensions before h =
    let directive = directive_errors_at v before h in
    let schema_definition = schema_errors_at v rows schema before h in
    let type = type_errors_at v rows extensions h in
    let schema_extension = schema_extension_errors_at v rows schema h in
    let type_extension = type_extension_errors_at v rows h in
    let from11 = choose (eqb (v.kind h) 11) schema_extension type_extension in
    let from5 = choose (is_type (v.kind h)) type from11 in
    let from4 = choose (eqb (v.kind h) 4) schema_definition from5 in
    let from3 = choose (eqb (v.kind h) 3) directive from4 in
    choose (leb (v.kind h) 2) (error 1 h absent ∷ []) from3

unfoldable pub reading_errors_at : View → List ℕ → ℕ → List ℕ → List ℕ → List ℕ → List Error
reading_errors_at v rows schema extensions before [] = []
reading_errors_at v rows schema extensions before (h ∷ hs) =
    errors_at_card v rows schema extensions before h ++ reading_errors_at v rows schema extensions (before ++ (h ∷ [])) hs

-- ---- While building.

-- A type extension without a definition that has the name of g.
unfoldable pub is_orphan_of : View → ℕ → ℕ → Bool
is_orphan_of v g c = eqb (v.owner c) absent && same_name (v.name g) (v.name c)

unfoldable pub adoption_errors_at : View → List ℕ → ℕ → ℕ → List Error
adoption_errors_at v rows g c =
    let merged = merge_errors v rows (v.kind g - 7) g c in
    let adopted = choose (eqb (v.kind c) (v.kind g)) merged (error 8 c g ∷ []) in
    choose (is_orphan_of v g c) adopted []

unfoldable pub unadopted_errors_at : View → ℕ → ℕ → List Error
unadopted_errors_at v g c = choose (is_orphan_of v g c) (error 7 c absent ∷ []) []

unfoldable pub orphan_errors_at : Bool → View → List ℕ → List ℕ → ℕ → List Error
orphan_errors_at adopt v rows extensions g =
    let adopted = flat_map (adoption_errors_at v rows g) extensions in
    let unadopted = flat_map (unadopted_errors_at v g) extensions in
    choose adopt adopted unadopted

unfoldable pub unmet_errors : View → ℕ → List Error
unmet_errors v c = choose (eqb (v.kind c) 11) (error 6 c absent ∷ []) []

-- No part stands under the row 4: the second row is another heading's, or there is none.
unfoldable pub is_bare : List ℕ → Bool
is_bare rows = choose (ltb 3 (length rows)) (ltb (get_or rows 3 0) 20) true

-- Without a schema definition, not adopting, the schema has parts just where default roots are set.
unfoldable pub no_schema_errors_at : Bool → View → List ℕ → List ℕ → List Error
no_schema_errors_at adopt v rows headings =
    let merged = flat_map (schema_merge_errors v rows absent) headings in
    let unmet = flat_map (unmet_errors v) headings in
    let unadopted = choose (is_bare rows) unmet merged in
    choose adopt merged unadopted

unfoldable pub drawing_errors_at : Bool → View → List ℕ → ℕ → List ℕ → List ℕ → List ℕ → List Error
drawing_errors_at adopt v rows schema extensions orphans headings =
    let undefined = no_schema_errors_at adopt v rows headings in
    flat_map (orphan_errors_at adopt v rows extensions) orphans ++ choose (eqb schema absent) undefined []
