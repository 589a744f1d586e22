-- The shape of drawn rows: where a type that a definition brings stands in them, and what stands under it.
use mathlib.Core.Path.{◌≡◌, refl, sym, ◌∙◌, ap, subst}
use mathlib.Core.Logic.{◌⊎◌, inl, inr}
use mathlib.Core.List.{List, [], ◌∷◌, ◌++◌, map, append_assoc, append-nil}
use mathlib.Core.Bool.{Bool, true, false}
use mathlib.Core.Option.{Option, none, some}
use Prim.Native.Nat.{ℕ, ◌-◌}
use native.Mathlib.Omega.{arith}
use lib.Dec.{eqb, leb}
use borrow.Author.Tests.{eqb-true, leb-true, le-leb}
use Rattle.definition.specs.Lists.{All, filter, any, flat_map, firsts}
use Rattle.definition.specs.Names.{same_name}
use Rattle.definition.specs.Cards.{is_type}
use Rattle.definition.specs.Headings.{Heading, NamedCard, is_type_definition, is_type_extension, is_named, same_named, is_orphan, orphans, defined_types}
use Rattle.definition.specs.Headings.{extensions_of, directives, directive_named}
use Rattle.definition.specs.Catalogue.{Component, Row, kept, list_of_kind, component_row, is_component_of, under_type, under_schema, block, type_row}
use Rattle.definition.specs.Catalogue.{type_components, type_rows, of_extensions, adopted_row, adopted_rows, adopted, directive_row, directive_row_at}
use Rattle.definition.specs.Catalogue.{directive_rows, schema_rows, rows}
use Rattle.definition.specs.LentRows.{is_type_row, is_row_named}
use Rattle.definition.specs.Lookups.{Block, blocks, is_row_of}
use Rattle.definition.proofs.Tests.{and_true}
use Rattle.definition.proofs.Lists.{flat_map_nil, flat_map_cons, filter_nil, filter_yes, filter_no, filter_none, filter_append, none_head, same_name_eq}
use Rattle.definition.proofs.DocumentHeadings.{Named}
use Rattle.definition.proofs.All.{all_firsts, all_map, all_flat_map, all_every, all_to, filter_pass, filter_all, any_none}

-- Each list holds rows of its kind.
pub listed_kind : (cs : List Component) (k : ℕ) → All (λ r. r.what ≡ k) (list_of_kind cs k)
unfolding list_of_kind is_component_of component_row
listed_kind cs k =
    all_map (λ r. r.what ≡ k) component_row (filter (is_component_of k) cs)
    (all_to (λ c. is_component_of k c ≡ true) (λ c. c.part.kind ≡ k) (λ c e. eqb-true c.part.kind k e) (filter (is_component_of k) cs)
    (filter_pass (is_component_of k) cs))

lists_plain : (cs : List Component) (ks : List ℕ) → All (λ k. is_type k ≡ false) ks → All (λ r. is_type_row r ≡ false) (flat_map (list_of_kind cs) ks)
unfolding is_type_row
lists_plain cs ks a =
    all_flat_map (λ r. is_type_row r ≡ false) (list_of_kind cs) ks
    (all_to (λ k. is_type k ≡ false) (λ k. All (λ r. is_type_row r ≡ false) (list_of_kind cs k))
    (λ k e. all_to (λ r. r.what ≡ k) (λ r. is_type_row r ≡ false) (λ r f. ap is_type f ∙ e) (list_of_kind cs k) (listed_kind cs k)) ks a)

pub parts_plain : (cs : List Component) → any is_type_row (flat_map (list_of_kind cs) under_type) ≡ false
unfolding under_type is_type
parts_plain cs = any_none is_type_row _ (lists_plain cs under_type (refl, (refl, (refl, (refl, (refl, (refl, tt)))))))

pub schema_plain : (a : Bool) (hs : List Heading) → any is_type_row (schema_rows a hs) ≡ false
unfolding schema_rows under_schema is_type_row is_type
schema_plain a hs = any_none is_type_row _ (refl, lists_plain _ under_schema (refl, (refl, (refl, (refl, tt)))))

directive_plain : (o : Option Heading) → All (λ r. is_type_row r ≡ false) (directive_row o)
unfolding directive_row is_type_row is_type
directive_plain none = tt
directive_plain (some d) = (refl, tt)

pub directives_plain : (hs : List Heading) → any is_type_row (directive_rows hs) ≡ false
unfolding directive_rows directive_row_at
directives_plain hs =
    any_none is_type_row _ (all_flat_map (λ r. is_type_row r ≡ false) (directive_row_at hs) _
    (all_every (λ h. All (λ r. is_type_row r ≡ false) (directive_row_at hs h)) (λ h. directive_plain (directive_named h.name hs))
    (firsts same_named [] (directives hs))))

-- The rows under a type that a definition brings.
unfoldable pub part_rows : List Heading → Heading → List Row
part_rows hs d = flat_map (list_of_kind (kept (type_components hs d))) under_type

pub parts_plain_at : (hs : List Heading) (d : Heading) → any is_type_row (part_rows hs d) ≡ false
unfolding part_rows
parts_plain_at hs d = parts_plain _

pub type_rows_are : (hs : List Heading) (d : Heading) → type_rows hs d ≡ type_row d ∷ part_rows hs d
unfolding type_rows block part_rows
type_rows_are hs d = refl

type_row_lem : (d : Heading) → is_type_definition d ≡ true → is_type_row (type_row d) ≡ true
unfolding is_type_definition is_type_row type_row
type_row_lem d e = e

-- The type rows are those of the types, in order.
pub type_rows_lem : (hs ds : List Heading) → All (λ d. is_type_definition d ≡ true) ds → filter is_type_row (flat_map (type_rows hs) ds) ≡ map type_row ds
type_rows_lem hs [] a = simp (flat_map_nil, filter_nil)
type_rows_lem hs (d ∷ ds) a =
    let e : is_type_row (type_row d) ≡ true = type_row_lem d a.0 in
    let n : any is_type_row (part_rows hs d) ≡ false = parts_plain_at hs d in
    simp (flat_map_cons, type_rows_are, filter_yes, filter_append is_type_row (part_rows hs d) (flat_map (type_rows hs) ds), filter_none, type_rows_lem hs ds a.1)

-- An adopted type's row is a type row.
pub extension_row : (g : Heading) → is_type_extension g ≡ true → is_type_row (adopted_row g) ≡ true
unfolding is_type_extension is_type_row is_type adopted_row
extension_row g e =
    let (l, u) = and_true (leb 12 g.kind) (leb g.kind 17) e in
    let a = leb-true 12 g.kind l in
    let b = leb-true g.kind 17 u in
    let c : leb 5 (g.kind - 7) ≡ true = le-leb 5 (g.kind - 7) (omega arith) in
    let d : leb (g.kind - 7) 10 ≡ true = le-leb (g.kind - 7) 10 (omega arith) in
    simp (c, d)

pub orphans_extend : (hs : List Heading) → All (λ g. is_type_extension g ≡ true) (orphans hs)
unfolding orphans is_orphan
orphans_extend hs = all_to (λ g. is_orphan hs g ≡ true) (λ g. is_type_extension g ≡ true) (λ g e. (and_true (is_type_extension g) _ e).0) (filter (is_orphan hs) hs)
    (filter_pass (is_orphan hs) hs)

pub same_named_lem : (n : List ℕ) (g h : Heading) → same_named g h ≡ true → is_named n g ≡ is_named n h
unfolding is_named same_named
same_named_lem n g h e = ap (same_name n) (same_name_eq g.name h.name e)

pub row_named : (ps : List NamedCard) (n : List ℕ) (d : Heading) → Named ps d → is_row_named ps n (type_row d) ≡ is_named n d
unfolding is_row_named type_row is_named
row_named ps n d e = ap (same_name n) e.0

-- The rows under an adopted type, and the orphans that give an adopted type each.
unfoldable pub adopted_parts : List Heading → Heading → List Row
adopted_parts hs g = flat_map (list_of_kind (kept (of_extensions (extensions_of g.kind g.name hs)))) under_type

pub adopted_plain_at : (hs : List Heading) (g : Heading) → any is_type_row (adopted_parts hs g) ≡ false
unfolding adopted_parts
adopted_plain_at hs g = parts_plain _

pub adopted_rows_are : (hs : List Heading) (g : Heading) → adopted_rows hs g ≡ adopted_row g ∷ adopted_parts hs g
unfolding adopted_rows block adopted_parts
adopted_rows_are hs g = refl

unfoldable pub adoptees : Bool → List Heading → List Heading
adoptees true hs = firsts same_named [] (orphans hs)
adoptees false hs = []

pub adopted_of : (a : Bool) (hs : List Heading) → adopted a hs ≡ flat_map (adopted_rows hs) (adoptees a hs)
unfolding adopted adoptees
adopted_of true hs = refl
adopted_of false hs = sym (flat_map_nil (adopted_rows hs))

pub adoptees_extend : (a : Bool) (hs : List Heading) → All (λ g. is_type_extension g ≡ true) (adoptees a hs)
unfolding adoptees
adoptees_extend true hs = all_firsts (λ g. is_type_extension g ≡ true) same_named [] (orphans hs) (orphans_extend hs)
adoptees_extend false hs = tt

pub types_define : (hs : List Heading) → All (λ d. is_type_definition d ≡ true) (defined_types hs)
unfolding defined_types
types_define hs = all_firsts (λ d. is_type_definition d ≡ true) same_named [] (filter is_type_definition hs) (filter_pass is_type_definition hs)

-- Rows in blocks.
block_nil : blocks [] ≡ ([], [])
unfolding blocks
block_nil = refl

block_type : (r : Row) (rs : List Row) → is_type_row r ≡ true → blocks (r ∷ rs) ≡ ([], record { head = r; parts = (blocks rs).0 } ∷ (blocks rs).1)
unfolding blocks
block_type r rs e = rw e

block_under : (r : Row) (rs : List Row) → is_type_row r ≡ false → blocks (r ∷ rs) ≡ (r ∷ (blocks rs).0, (blocks rs).1)
unfolding blocks
block_under r rs e = rw e

pub blocks_skip : (xs ys : List Row) → any is_type_row xs ≡ false → blocks (xs ++ ys) ≡ (xs ++ (blocks ys).0, (blocks ys).1)
blocks_skip [] ys h = refl
blocks_skip (x ∷ xs) ys h = let (a, b) = none_head is_type_row x xs h in block_under x (xs ++ ys) a ∙ ap (λ t. (x ∷ t.0, t.1)) (blocks_skip xs ys b)

unfoldable pub type_block : List Heading → Heading → Block
type_block hs d = record { head = type_row d; parts = part_rows hs d }

unfoldable pub adopted_block : List Heading → Heading → Block
adopted_block hs g = record { head = adopted_row g; parts = adopted_parts hs g }

type_blocks : (hs ds : List Heading) → All (λ d. is_type_definition d ≡ true) ds → (zs : List Row) (bs : List Block) → blocks zs ≡ ([], bs) →
    blocks (flat_map (type_rows hs) ds ++ zs) ≡ ([], map (type_block hs) ds ++ bs)
unfolding type_block
type_blocks hs [] a zs bs e = rw flat_map_nil e
type_blocks hs (d ∷ ds) a zs bs e =
    let i = type_blocks hs ds a.1 zs bs e in
    let w : flat_map (type_rows hs) (d ∷ ds) ++ zs ≡ type_row d ∷ (part_rows hs d ++ (flat_map (type_rows hs) ds ++ zs)) =
    simp (flat_map_cons, type_rows_are, append_assoc) in
    let s = blocks_skip (part_rows hs d) (flat_map (type_rows hs) ds ++ zs) (parts_plain_at hs d) in
    ap blocks w ∙ (block_type (type_row d) _ (type_row_lem d a.0) ∙ rw (s, i, append-nil))

adopted_blocks : (hs gs : List Heading) → All (λ g. is_type_extension g ≡ true) gs → blocks (flat_map (adopted_rows hs) gs) ≡ ([], map (adopted_block hs) gs)
unfolding adopted_block
adopted_blocks hs [] a = rw flat_map_nil block_nil
adopted_blocks hs (g ∷ gs) a =
    let i = adopted_blocks hs gs a.1 in
    let w : flat_map (adopted_rows hs) (g ∷ gs) ≡ adopted_row g ∷ (adopted_parts hs g ++ flat_map (adopted_rows hs) gs) = simp (flat_map_cons, adopted_rows_are) in
    let s = blocks_skip (adopted_parts hs g) (flat_map (adopted_rows hs) gs) (adopted_plain_at hs g) in
    ap blocks w ∙ (block_type (adopted_row g) _ (extension_row g a.0) ∙ rw (s, i, append-nil))

-- The blocks of a drawing: those of the types that definitions bring, then the adopted ones.
pub built_blocks : (a : Bool) (hs : List Heading) → (blocks (rows a hs)).1 ≡ map (type_block hs) (defined_types hs) ++ map (adopted_block hs) (adoptees a hs)
unfolding rows
built_blocks a hs =
    let t : blocks (flat_map (type_rows hs) (defined_types hs) ++ adopted a hs) ≡
    ([], map (type_block hs) (defined_types hs) ++ map (adopted_block hs) (adoptees a hs)) =
    type_blocks hs (defined_types hs) (types_define hs) (adopted a hs) _
    (ap blocks (adopted_of a hs) ∙ adopted_blocks hs (adoptees a hs) (adoptees_extend a hs)) in
    let s = blocks_skip (schema_rows a hs) (directive_rows hs ++ (flat_map (type_rows hs) (defined_types hs) ++ adopted a hs)) (schema_plain a hs) in
    let d = blocks_skip (directive_rows hs) (flat_map (type_rows hs) (defined_types hs) ++ adopted a hs) (directives_plain hs) in
    ap (λ p. p.1) s ∙ (ap (λ p. p.1) d ∙ ap (λ p. p.1) t)

-- A kind has one list under a type, or none.
Once : ℕ → List ℕ → Type 0
Once k js = (filter (λ j. eqb j k) js ≡ []) ⊎ (filter (λ j. eqb j k) js ≡ k ∷ [])

abbrev pub Fresh : List ℕ → Type 0
Fresh [] = Unit {0}
Fresh (j ∷ js) = (any (λ i. eqb i j) js ≡ false) × Fresh js

once : (k : ℕ) (js : List ℕ) → Fresh js → Once k js
unfolding Once
once k [] f = inl (filter_nil (λ j. eqb j k))
once k (j ∷ js) f = go (eqb j k) refl (once k js f.1)
  where
    go : (b : Bool) → eqb j k ≡ b → Once k js → Once k (j ∷ js)
    go true e _ =
        let q : j ≡ k = eqb-true j k e in
        let n : any (λ i. eqb i k) js ≡ false = subst (λ m. any (λ i. eqb i m) js ≡ false) q f.0 in
        inr (filter_yes (λ i. eqb i k) j js e ∙ (ap (λ l. j ∷ l) (filter_none (λ i. eqb i k) js n) ∙ ap (λ m. m ∷ []) q))
    go false e (inl h) = inl (filter_no (λ i. eqb i k) j js e ∙ h)
    go false e (inr h) = inr (filter_no (λ i. eqb i k) j js e ∙ h)

once_under : (k : ℕ) → Once k under_type
unfolding under_type any
once_under k = once k under_type (refl, (refl, (refl, (refl, (refl, (refl, tt))))))

-- The list of a kind, out of all lists.
list_in_lem : (cs : List Component) (k : ℕ) (js : List ℕ) → filter (is_row_of k) (flat_map (list_of_kind cs) js) ≡ flat_map (list_of_kind cs) (filter (λ j. eqb j k) js)
unfolding is_row_of
list_in_lem cs k [] = simp (flat_map_nil, filter_nil)
list_in_lem cs k (j ∷ js) = go (eqb j k) refl (list_in_lem cs k js)
  where
    of : (b : Bool) → eqb j k ≡ b → All (λ r. is_row_of k r ≡ b) (list_of_kind cs j)
    of b e = all_to (λ r. r.what ≡ j) (λ r. is_row_of k r ≡ b) (λ r f. ap (λ m. eqb m k) f ∙ e) (list_of_kind cs j) (listed_kind cs j)

    go : (b : Bool) → eqb j k ≡ b → filter (is_row_of k) (flat_map (list_of_kind cs) js) ≡ flat_map (list_of_kind cs) (filter (λ j. eqb j k) js) →
        filter (is_row_of k) (flat_map (list_of_kind cs) (j ∷ js)) ≡ flat_map (list_of_kind cs) (filter (λ j. eqb j k) (j ∷ js))
    go true e ih = simp (flat_map_cons, filter_append, filter_all (is_row_of k) (list_of_kind cs j) (of true e), ih, filter_yes (λ j. eqb j k) j js e)
    go false e ih = simp (
      flat_map_cons,
      filter_append,
      filter_none (is_row_of k) (list_of_kind cs j) (any_none (is_row_of k) _ (of false e)),
      ih,
      filter_no (λ j. eqb j k) j js e,
    )

-- The list of kind k under a type that a definition brings: empty for every collection, or that of its components.
pub list_under : (k : ℕ) →
    ((hs : List Heading) (d : Heading) → filter (is_row_of k) (part_rows hs d) ≡ []) ⊎
    ((hs : List Heading) (d : Heading) → filter (is_row_of k) (part_rows hs d) ≡ list_of_kind (kept (type_components hs d)) k)
unfolding part_rows Once
list_under k = go (once_under k)
  where
    go : Once k under_type →
        ((hs : List Heading) (d : Heading) → filter (is_row_of k) (part_rows hs d) ≡ []) ⊎
        ((hs : List Heading) (d : Heading) → filter (is_row_of k) (part_rows hs d) ≡ list_of_kind (kept (type_components hs d)) k)
    go (inl h) = inl (λ hs d. list_in_lem _ k under_type ∙ (ap (flat_map _) h ∙ flat_map_nil _))
    go (inr h) = inr (λ hs d. list_in_lem _ k under_type ∙ (ap (flat_map _) h ∙ (flat_map_cons _ k [] ∙ simp (flat_map_nil, append-nil))))
