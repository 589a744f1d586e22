-- Where the cards and origins of drawn rows come from: `S k i` says that card i is stored with kind k, `D k` that the default root k is set.
use mathlib.Core.Path.{◌≡◌, refl, sym, subst}
use mathlib.Core.List.{List, [], ◌∷◌, ◌++◌}
use mathlib.Core.Bool.{Bool, true, false}
use mathlib.Core.Option.{Option, none, some}
use Prim.Native.Nat.{ℕ, ◌+◌, ◌-◌, ◌≤◌}
use native.Mathlib.Omega.{arith}
use lib.Dec.{eqb, leb}
use borrow.Author.Tests.{eqb-true, leb-true}
use Rattle.definition.specs.Lists.{All, filter, any, is_empty, flat_map, firsts}
use Rattle.definition.specs.Cards.{is_type}
use Rattle.definition.specs.Answers.{absent}
use Rattle.definition.specs.Headings.{Heading, is_kind, is_type_definition, is_type_extension, is_orphan, orphans, same_named, is_named, extensions_of, is_of}
use Rattle.definition.specs.Headings.{defined_types, standing, directives, directive_named, schema_definition, schema_extensions, number_of}
use Rattle.definition.specs.Catalogue.{Component, Row, alike_components, component, components, own_components, of_extensions, kept, list_of_kind}
use Rattle.definition.specs.Catalogue.{component_row, is_component_of, under_type, under_schema, block, type_row, type_components, type_rows, adopted_row}
use Rattle.definition.specs.Catalogue.{adopted_rows, adopted, directive_row, directive_row_at, directive_rows, default_root, default_roots, default_name}
use Rattle.definition.specs.Catalogue.{kind_named, is_root_component, schema_components, schema_rows, rows}
use Rattle.definition.specs.LentRows.{is_type_row}
use Rattle.definition.proofs.Tests.{and_true}
use Rattle.definition.proofs.Lists.{split}
use Rattle.definition.proofs.All.{all_append, all_filter, all_firsts, all_map, all_flat_map, all_every, all_to, all_with, filter_pass, all_found}
use Rattle.definition.proofs.BuiltRows.{extension_row, orphans_extend}
use Rattle.definition.proofs.RowBound.{root_component, root_set, root_unset, schema_brought, schema_defined, adopting_set, adopting_unset, no_roots}
use Rattle.definition.proofs.RowBound.{some_roots}

module _ (S : ℕ → ℕ → Type 0) (D : ℕ → Type 0) where
  -- a heading of kind 11 to 17
  pub record Extension (i : ℕ) : Type 0 where
    pub kind : ℕ
    pub low : 11 ≤ kind
    pub high : kind ≤ 17
    pub stored : S kind i

  -- A part under a definition, a part under an extension, a default root.
  pub data PartFits (c : Component) : Type 0 where
    defined : S c.part.kind c.part.number → c.origin ≡ absent → PartFits c
    extended : S c.part.kind c.part.number → Extension c.origin → PartFits c
    default : 26 ≤ c.part.kind → c.part.kind ≤ 28 → D c.part.kind → c.part.number ≡ absent → c.origin ≡ absent → PartFits c

  -- A row of a definition or of a part under one, a part under an extension, an adopted type, a default root or the row 4 of no definition.
  pub data RowFits (r : Row) : Type 0 where
    defined : S r.what r.card → r.origin ≡ absent → RowFits r
    extended : is_type_row r ≡ false → S r.what r.card → Extension r.origin → RowFits r
    adopting : is_type_row r ≡ true → S (r.what + 7) r.card → r.origin ≡ r.card → RowFits r
    default : 26 ≤ r.what → r.what ≤ 28 → D r.what → r.card ≡ absent → r.origin ≡ absent → RowFits r
    undefined : r.what ≡ 4 → r.card ≡ absent → r.origin ≡ absent → RowFits r

  abbrev pub Stored : Heading → Type 0
  Stored h = S h.kind h.number × All (λ p. S p.kind p.number) h.parts

  row_fits : (c : Component) → is_type_row (component_row c) ≡ false → PartFits c → RowFits (component_row c)
  unfolding component_row
  row_fits c t (defined s o) = defined s o
  row_fits c t (extended s e) = extended t s e
  row_fits c t (default l u d n o) = default l u d n o

  lists_fit : (cs : List Component) (ks : List ℕ) → All (λ k. is_type k ≡ false) ks → All PartFits cs → All RowFits (flat_map (list_of_kind cs) ks)
  unfolding list_of_kind is_type_row component_row is_component_of
  lists_fit cs ks p a =
      all_flat_map RowFits (list_of_kind cs) ks (all_to (λ k. is_type k ≡ false) (λ k. All RowFits (list_of_kind cs k))
      (λ k t. all_map RowFits component_row (filter (is_component_of k) cs)
      (all_with PartFits (λ c. is_component_of k c ≡ true) (λ c. RowFits (component_row c))
      (λ c f e. row_fits c (subst (λ i. is_type i ≡ false) (sym (eqb-true c.part.kind k e)) t) f) (filter (is_component_of k) cs)
      (all_filter PartFits (is_component_of k) cs a) (filter_pass (is_component_of k) cs))) ks p)

  plain_types : All (λ k. is_type k ≡ false) under_type
  unfolding under_type is_type
  plain_types = (refl, (refl, (refl, (refl, (refl, (refl, tt))))))

  plain_schema : All (λ k. is_type k ≡ false) under_schema
  unfolding under_schema is_type
  plain_schema = (refl, (refl, (refl, (refl, tt))))

  of_definition : (h : Heading) → Stored h → All PartFits (components absent h)
  unfolding components component
  of_definition h s =
      all_map PartFits (component absent) h.parts
      (all_to (λ p. S p.kind p.number) (λ p. PartFits (component absent p)) (λ p t. defined t refl) h.parts s.1)

  of_extension : (h : Heading) → Stored h → 11 ≤ h.kind → h.kind ≤ 17 → All PartFits (own_components h)
  unfolding own_components components component
  of_extension h s l u =
      all_map PartFits (component h.number) h.parts
      (all_to (λ p. S p.kind p.number) (λ p. PartFits (component h.number p))
      (λ p t. extended t (record { kind = h.kind; low = l; high = u; stored = s.0 })) h.parts s.1)

  of_extensions_lem : (k : ℕ) → 11 ≤ k → k ≤ 17 → (p : Heading → Bool) → ((e : Heading) → p e ≡ true → e.kind ≡ k) → (hs : List Heading) → All Stored hs →
      All PartFits (of_extensions (filter p hs))
  unfolding of_extensions
  of_extensions_lem k l u p is hs a =
      all_flat_map PartFits own_components (filter p hs)
      (all_with Stored (λ e. p e ≡ true) (λ e. All PartFits (own_components e))
      (λ e s t. let q = is e t in of_extension e s (omega arith) (omega arith)) (filter p hs) (all_filter Stored p hs a) (filter_pass p hs))

  is_extension_lem : (k : ℕ) (n : List ℕ) (e : Heading) → is_of k n e ≡ true → e.kind ≡ k
  unfolding is_of is_kind
  is_extension_lem k n e t = eqb-true e.kind k (and_true (eqb e.kind k) (is_named n e) t).0

  kept_fit : (cs : List Component) → All PartFits cs → All PartFits (kept cs)
  unfolding kept
  kept_fit cs a = all_firsts PartFits alike_components [] cs a

  module _ (hs : List Heading) (a : All Stored hs) where
    type_fits : (d : Heading) → is_type_definition d ≡ true → Stored d → All RowFits (type_rows hs d)
    unfolding type_rows block type_row type_components extensions_of is_type_definition is_type
    type_fits d t s =
        let l = leb-true 5 d.kind (and_true (leb 5 d.kind) (leb d.kind 10) t).0 in
        let u = leb-true d.kind 10 (and_true (leb 5 d.kind) (leb d.kind 10) t).1 in (
          defined s.0 refl,
          lists_fit (kept (type_components hs d)) under_type plain_types (kept_fit (type_components hs d)
              (all_append PartFits (components absent d) (of_extensions (filter (is_of (d.kind + 7) d.name) hs)) (of_definition d s)
              (of_extensions_lem (d.kind + 7) (omega arith) (omega arith) (is_of (d.kind + 7) d.name) (is_extension_lem (d.kind + 7) d.name) hs a))),
        )

    adopted_fits : (g : Heading) → is_type_extension g ≡ true → Stored g → All RowFits (adopted_rows hs g)
    unfolding adopted_rows block adopted_row extensions_of is_type_extension
    adopted_fits g t s =
        let l = leb-true 12 g.kind (and_true (leb 12 g.kind) (leb g.kind 17) t).0 in
        let u = leb-true g.kind 17 (and_true (leb 12 g.kind) (leb g.kind 17) t).1 in
        let q : g.kind ≡ g.kind - 7 + 7 = omega arith in (
          adopting (extension_row g t) (subst (λ k. S k g.number) q s.0) refl,
          lists_fit (kept (of_extensions (extensions_of g.kind g.name hs))) under_type plain_types
              (kept_fit (of_extensions (extensions_of g.kind g.name hs))
              (of_extensions_lem g.kind (omega arith) (omega arith) (is_of g.kind g.name) (is_extension_lem g.kind g.name) hs a)),
        )

    -- directive definitions
    Directive : Heading → Type 0
    Directive h = S 3 h.number

    standing_fits : (o : Option Heading) (ds : List Heading) → All RowFits (directive_row o) → All Directive ds → All RowFits (directive_row (standing o ds))
    unfolding standing directive_row Directive
    standing_fits o [] p b = p
    standing_fits none (d ∷ ds) p b = standing_fits (some d) ds (defined b.0 refl, tt) b.1
    standing_fits (some c) (d ∷ ds) p b = go c.built_in refl (standing_fits (some d) ds (defined b.0 refl, tt) b.1)
      where
        go : (t : Bool) → c.built_in ≡ t → All RowFits (directive_row (standing (some d) ds)) → All RowFits (directive_row (standing (some c) (d ∷ ds)))
        go true e ih = rw e ih
        go false e ih = rw e p

    directives_fit : All RowFits (directive_rows hs)
    unfolding directive_rows directive_row_at directive_named directives directive_row is_kind Directive
    directives_fit =
        all_flat_map RowFits (directive_row_at hs) (firsts same_named [] (directives hs))
        (all_every (λ h. All RowFits (directive_row_at hs h))
        (λ h. standing_fits none (filter (is_named h.name) (directives hs)) tt
        (all_filter Directive (is_named h.name) (directives hs)
        (all_with Stored (λ d. is_kind 3 d ≡ true) Directive (λ d s t. subst (λ k. S k d.number) (eqb-true d.kind 3 t) s.0) (directives hs)
        (all_filter Stored (is_kind 3) hs a) (filter_pass (is_kind 3) hs))))
        (firsts same_named [] (directives hs)))

    -- the schema
    module _ (b : Bool) (set : (k : ℕ) → eqb (kind_named b hs (default_name k)) 6 ≡ true → D k) where
      root_fits : (k : ℕ) → 26 ≤ k → k ≤ 28 → All PartFits (default_root b hs k)
      unfolding root_component component
      root_fits k l u = go (eqb (kind_named b hs (default_name k)) 6) refl
        where
          go : (t : Bool) → eqb (kind_named b hs (default_name k)) 6 ≡ t → All PartFits (default_root b hs k)
          go true e = rw (root_set b hs k e) (default l u (set k e) refl refl, tt)
          go false e = rw (root_unset b hs k e) tt

      roots_fit : All PartFits (default_roots b hs)
      unfolding default_roots
      roots_fit =
          all_append PartFits (default_root b hs 26 ++ default_root b hs 27) (default_root b hs 28)
          (all_append PartFits (default_root b hs 26) (default_root b hs 27) (root_fits 26 (omega arith) (omega arith))
          (root_fits 27 (omega arith) (omega arith)))
          (root_fits 28 (omega arith) (omega arith))

    is_eleven : (e : Heading) → is_kind 11 e ≡ true → e.kind ≡ 11
    unfolding is_kind
    is_eleven e t = eqb-true e.kind 11 t

    schema_parts : (b : Bool) → ((k : ℕ) → eqb (kind_named b hs (default_name k)) 6 ≡ true → D k) → (o : Option Heading) → schema_definition hs ≡ o →
        All PartFits (schema_brought hs) → All PartFits (schema_components b hs)
    unfolding schema_definition
    schema_parts b set (some s) o p =
        rw (schema_defined b hs s o) (all_append PartFits (components absent s) (schema_brought hs) (of_definition s (all_found Stored (is_kind 4) hs s a o)) p)
    schema_parts true set none o p = go (any is_root_component (schema_brought hs)) refl
      where
        go : (t : Bool) → any is_root_component (schema_brought hs) ≡ t → All PartFits (schema_components true hs)
        go true e = rw (adopting_set hs o e) p
        go false e = rw (adopting_unset hs o e) (all_append PartFits (schema_brought hs) (default_roots true hs) p (roots_fit true set))
    schema_parts false set none o p = go (is_empty (default_roots false hs)) refl
      where
        go : (t : Bool) → is_empty (default_roots false hs) ≡ t → All PartFits (schema_components false hs)
        go true e = rw (no_roots hs o e) tt
        go false e = rw (some_roots hs o e) (all_append PartFits (default_roots false hs) (schema_brought hs) (roots_fit false set) p)

    schema_row : (o : Option Heading) → schema_definition hs ≡ o → RowFits (record { what = 4; card = number_of o; origin = absent })
    unfolding schema_definition number_of is_kind
    schema_row none e = undefined refl refl refl
    schema_row (some s) e =
        defined (subst (λ k. S k s.number) (eqb-true s.kind 4 (split (is_kind 4) hs s e).passes) (all_found Stored (is_kind 4) hs s a e).0) refl

    schema_fits : (b : Bool) → ((k : ℕ) → eqb (kind_named b hs (default_name k)) 6 ≡ true → D k) → All RowFits (schema_rows b hs)
    unfolding schema_rows schema_extensions schema_brought
    schema_fits b set = (
      schema_row (schema_definition hs) refl,
      lists_fit (kept (schema_components b hs)) under_schema plain_schema
          (kept_fit (schema_components b hs) (schema_parts b set (schema_definition hs) refl
          (of_extensions_lem 11 (omega arith) (omega arith) (is_kind 11) is_eleven hs a))),
    )

    types_fit : All RowFits (flat_map (type_rows hs) (defined_types hs))
    unfolding defined_types
    types_fit =
        all_flat_map RowFits (type_rows hs) (defined_types hs)
        (all_with (λ d. is_type_definition d ≡ true) Stored (λ d. All RowFits (type_rows hs d)) type_fits (defined_types hs)
        (all_firsts (λ d. is_type_definition d ≡ true) same_named [] (filter is_type_definition hs) (filter_pass is_type_definition hs))
        (all_firsts Stored same_named [] (filter is_type_definition hs) (all_filter Stored is_type_definition hs a)))

    adoption_fits : (b : Bool) → All RowFits (adopted b hs)
    unfolding adopted orphans
    adoption_fits false = tt
    adoption_fits true =
        all_flat_map RowFits (adopted_rows hs) (firsts same_named [] (orphans hs))
        (all_with (λ g. is_type_extension g ≡ true) Stored (λ g. All RowFits (adopted_rows hs g)) adopted_fits (firsts same_named [] (orphans hs))
        (all_firsts (λ g. is_type_extension g ≡ true) same_named [] (orphans hs) (orphans_extend hs))
        (all_firsts Stored same_named [] (orphans hs) (all_filter Stored (is_orphan hs) hs a)))

    -- Every row of a drawing.
    pub rows_fit_lem : (b : Bool) → ((k : ℕ) → eqb (kind_named b hs (default_name k)) 6 ≡ true → D k) → All RowFits (rows b hs)
    unfolding rows
    rows_fit_lem b set =
        all_append RowFits (schema_rows b hs) (directive_rows hs ++ (flat_map (type_rows hs) (defined_types hs) ++ adopted b hs)) (schema_fits b set)
        (all_append RowFits (directive_rows hs) (flat_map (type_rows hs) (defined_types hs) ++ adopted b hs) directives_fit
        (all_append RowFits (flat_map (type_rows hs) (defined_types hs)) (adopted b hs) types_fit (adoption_fits b)))
