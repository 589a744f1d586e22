-- The errors of schema extensions that met no definition, by cards and rows; then all errors of building.
use mathlib.Core.Path.{◌≡◌, refl, sym, ◌∙◌, ap, ap₂}
use mathlib.Core.List.{List, [], ◌∷◌, ◌++◌, map, append-nil}
use mathlib.Core.Bool.{Bool, true, false}
use mathlib.Core.Option.{Option, none, some}
use Prim.Native.Nat.{ℕ, ◌≤◌, ◌<◌}
use native.Mathlib.Omega.{arith}
use lib.Dec.{eqb, ltb}
use lib.ListN.{length}
use borrow.Author.Tests.{eq-eqb, ne_eqb, lt-ltb}
use Rattle.definition.specs.Lists.{All, choose, found, filter, any, is_empty, flat_map, firsts}
use Rattle.definition.specs.Answers.{absent}
use Rattle.definition.specs.Headings.{NamedCard, Heading, is_kind, is_type_extension, same_named, orphans, schema_definition, schema_extensions, number_of}
use Rattle.definition.specs.Headings.{parts_of, parts}
use Rattle.definition.specs.Catalogue.{Component, component, of_extensions, alike_components, part_in, kept, Row, row, component_row, is_component_of}
use Rattle.definition.specs.Catalogue.{list_of_kind, under_schema, default_name, kind_named, default_root, default_roots, is_root_component, unadopted_schema}
use Rattle.definition.specs.Catalogue.{adopted_schema, schema_components, rows}
use Rattle.definition.specs.Errors.{heading_error, collisions, no_schema_errors, drawing_errors}
use Rattle.definition.specs.Outcomes.{words_of_row}
use Rattle.from_ast_collisions.specs.Earlier.{View, stands_for, earlier_under}
use Rattle.from_ast_collisions.specs.ErrorsByCards.{schema_merge_errors, unmet_errors, is_bare, no_schema_errors_at, drawing_errors_at}
use Rattle.definition.proofs.Lists.{map_append, filter_nil, filter_yes, any_nil, firsts_new}
use Rattle.definition.proofs.All.{all_append, all_filter, all_flat_map, all_found, all_every, all_to}
use Rattle.from_ast_collisions.proofs.Walks.{flat_gated, flat_map_lem, filter_cong}
use Rattle.from_ast_collisions.proofs.Repeats.{times, times_none, times_append}
use Rattle.from_ast_collisions.proofs.Earlier.{row_words, is_in, of_kind, list_of, Stops}
use Rattle.from_ast_collisions.proofs.Rows.{HeadingTold, PartTold, PartsTold, fresh_schema, after_schema, after_stops, schema_lists}
use Rattle.from_ast_collisions.proofs.Rows.{schema_shape, schema_stands}
use Rattle.from_ast_collisions.proofs.Collisions.{collisions_found}
use Rattle.from_ast_collisions.proofs.Known.{number_in, heading_of, Known, extension_told, number_some, number_none, extensions_parts, times_kept}
use Rattle.from_ast_collisions.proofs.Reading.{schema_walk, schema_parts}
use Rattle.from_ast_collisions.proofs.Orphans.{orphans_found}

-- ---- Default roots.

-- A default root stands in the schema's lists and has no card of its own.
abbrev Default : Component → Type 0
Default c = (is_in c.part.kind under_schema ≡ true) × (c.part.number ≡ absent)

root_default : (adopt : Bool) (hs : List Heading) (k : ℕ) → is_in k under_schema ≡ true → All Default (default_root adopt hs k)
unfolding default_root component
root_default adopt hs k i = go (eqb (kind_named adopt hs (default_name k)) 6)
  where
    go : (b : Bool) → All Default (choose b (component absent (record { number = absent; kind = k; name = default_name k }) ∷ []) [])
    go true = ((i, refl), tt)
    go false = tt

roots_default : (adopt : Bool) (hs : List Heading) → All Default (default_roots adopt hs)
unfolding default_roots under_schema any
roots_default adopt hs =
    all_append Default (default_root adopt hs 26 ++ default_root adopt hs 27) (default_root adopt hs 28)
    (all_append Default (default_root adopt hs 26) (default_root adopt hs 27) (root_default adopt hs 26 refl) (root_default adopt hs 27 refl))
    (root_default adopt hs 28 refl)

-- ---- Whether a part stands under the row 4.

bare_rows : (r : Row) (zs : List Row) → Stops zs → is_bare (row_words (r ∷ zs)) ≡ true
unfolding is_bare flat_map words_of_row
bare_rows r [] s = refl
bare_rows r (z ∷ zs) s = go (ltb 3 (length (row_words (r ∷ (z ∷ zs)))))
  where
    go : (b : Bool) → choose b (ltb z.what 20) true ≡ true
    go true = s
    go false = refl

full_rows : (r b : Row) (bs : List Row) → ltb b.what 20 ≡ false → is_bare (row_words (r ∷ (b ∷ bs))) ≡ false
unfolding is_bare flat_map words_of_row
full_rows r b bs e = rw (lt-ltb 3 (length (row_words (r ∷ (b ∷ bs)))) (omega arith)) e

listed_is : (cs : List Component) (k : ℕ) → list_of_kind cs k ≡ map component_row (filter (is_component_of k) cs)
unfolding list_of_kind
listed_is cs k = refl

-- A list that has a component of one of its kinds is not empty.
listed_some : (c : Component) (cs : List Component) → is_in c.part.kind under_schema ≡ true →
    (b : Row) × (bs : List Row) × (flat_map (list_of_kind (kept (c ∷ cs))) under_schema ≡ b ∷ bs)
listed_some c cs i = go (flat_map (list_of_kind (kept (c ∷ cs))) under_schema) refl
  where
    first_is : kept (c ∷ cs) ≡ c ∷ firsts alike_components ([] ++ (c ∷ [])) cs
    first_is = unfold kept in firsts_new alike_components [] c cs (any_nil (alike_components c))

    head_is : filter (is_component_of c.part.kind) (kept (c ∷ cs)) ≡ c ∷ filter (is_component_of c.part.kind) (firsts alike_components ([] ++ (c ∷ [])) cs)
    head_is =
        ap (filter (is_component_of c.part.kind)) first_is
        ∙ filter_yes (is_component_of c.part.kind) c (firsts alike_components ([] ++ (c ∷ [])) cs) (unfold is_component_of in
        eq-eqb c.part.kind c.part.kind refl)

    go : (l : List Row) → flat_map (list_of_kind (kept (c ∷ cs))) under_schema ≡ l →
        (b : Row) × (bs : List Row) × (flat_map (list_of_kind (kept (c ∷ cs))) under_schema ≡ b ∷ bs)
    go (b ∷ bs) e = (b, bs, e)
    go [] e =
        let n : filter (of_kind c.part.kind) (flat_map (list_of_kind (kept (c ∷ cs))) under_schema) ≡ [] = ap (filter (of_kind c.part.kind)) e
        ∙ filter_nil (of_kind c.part.kind) in
        let m : list_of_kind (kept (c ∷ cs)) c.part.kind ≡ [] = sym (list_of (kept (c ∷ cs)) c.part.kind under_schema fresh_schema i) ∙ n in
        let q : component_row c ∷ map component_row (filter (is_component_of c.part.kind) (firsts alike_components ([] ++ (c ∷ [])) cs)) ≡ [] =
        sym (ap (map component_row) head_is) ∙ (sym (listed_is (kept (c ∷ cs)) c.part.kind) ∙ m) in
        absurd (let z : ◌≡◌ {A = ℕ} 0 1 = cc in omega arith)

times_default : (n : ℕ) → (n ≡ absent → ⊥) → (cs : List Component) → All Default cs → times n (map part_in cs) ≡ 0
unfolding times part_in
times_default n h [] a = refl
times_default n h (c ∷ cs) a =
    let q : c.part.number ≡ absent = a.0.1 in
    rw (ne_eqb c.part.number n (λ e. h (sym e ∙ q))) (omega (arith, times_default n h cs a.1))

module _ (v : View) (a : Bool) (hs : List Heading) (k : Known v hs) where
  abbrev words : List ℕ
  words = row_words (rows a hs)

  abbrev waiting : List NamedCard
  waiting = parts_of (schema_extensions hs)

  waiting_once : (n : ℕ) → times n waiting ≤ 1
  unfolding schema_extensions
  waiting_once n = omega (arith, times_kept n (is_kind 11) hs, k.once n)

  waiting_held : All (λ x. x.number < v.used) waiting
  unfolding schema_extensions parts_of parts
  waiting_held =
      all_flat_map (λ x. x.number < v.used) parts (filter (is_kind 11) hs)
      (all_filter (λ h. All (λ x. x.number < v.used) h.parts) (is_kind 11) hs
      (all_to (PartsTold v) (λ h. All (λ x. x.number < v.used) h.parts) (λ h t. all_to (PartTold v) (λ x. x.number < v.used) (λ x p. p.0)
      h.parts t) hs k.named))

  module _ (f : schema_definition hs ≡ none) where
    none_collisions : (seen rest : List NamedCard) → map part_in (schema_components a hs) ≡ seen ++ (waiting ++ rest) →
        All (λ x. times x.number seen ≡ 0) waiting →
        flat_map (schema_merge_errors v words absent) (map number_in hs) ≡ collisions 4 seen waiting
    none_collisions seen rest e o =
        schema_walk v a hs k hs k.told absent
        ∙ collisions_found v words under_schema 4 absent (map part_in (schema_components a hs)) seen waiting rest
        (λ x p i. ap (λ d. earlier_under 4 d (stands_for v x) words) (sym (number_none (schema_definition hs) f))
        ∙ schema_stands v (heading_of v) a hs k.told k.named x p i)
        e (schema_parts v a hs k hs k.schemed)
        (all_to (λ x. times x.number seen ≡ 0) (λ x. times x.number (seen ++ waiting) ≤ 1)
        (λ x z. let y = waiting_once x.number in omega (arith, times_append x.number seen waiting)) waiting o)

    -- Adopting: the extensions make the schema.
    adopted_is : a ≡ true → schema_components a hs ≡ adopted_schema hs
    unfolding schema_components
    adopted_is on = rw (f, on)

    adopted_parts_lem : (rest : List NamedCard) × (map part_in (adopted_schema hs) ≡ waiting ++ rest)
    unfolding adopted_schema
    adopted_parts_lem = go (any is_root_component (of_extensions (schema_extensions hs)))
      where
        go : (b : Bool) →
            (rest : List NamedCard) ×
            (map part_in (choose b (of_extensions (schema_extensions hs)) (of_extensions (schema_extensions hs) ++ default_roots true hs)) ≡
            waiting ++ rest)
        go true = ([], extensions_parts (schema_extensions hs) ∙ sym (append-nil waiting))
        go false = (
          map part_in (default_roots true hs),
          map_append part_in (of_extensions (schema_extensions hs)) (default_roots true hs)
              ∙ ap (λ l. l ++ map part_in (default_roots true hs)) (extensions_parts (schema_extensions hs)),
        )

    adopted_errors : a ≡ true → flat_map (schema_merge_errors v words absent) (map number_in hs) ≡ collisions 4 [] waiting
    adopted_errors on =
        let r = adopted_parts_lem in
        none_collisions [] r.0 (ap (map part_in) (adopted_is on) ∙ r.1) (all_every (λ x. times x.number [] ≡ 0) (λ x. times_none x.number) waiting)

    -- Not adopting.
    abbrev defaults : List Component
    defaults = default_roots false hs

    unadopted_is : a ≡ false → schema_components a hs ≡ choose (is_empty defaults) [] (defaults ++ of_extensions (schema_extensions hs))
    unfolding schema_components unadopted_schema
    unadopted_is off = rw (f, off)

    bare_is : a ≡ false → is_bare words ≡ is_empty defaults
    bare_is off = go defaults refl (roots_default false hs)
      where
        shape : words ≡
            row_words
            (row 4 (number_of (schema_definition hs))
            absent ∷ (flat_map (list_of_kind (kept (schema_components a hs))) under_schema ++ after_schema v (heading_of v) a hs k.told k.named))
        shape = ap row_words (schema_shape v (heading_of v) a hs k.told k.named)

        stops : Stops (after_schema v (heading_of v) a hs k.told k.named)
        stops = after_stops v (heading_of v) a hs k.told k.named

        none_listed : flat_map (list_of_kind (kept [])) under_schema ≡ []
        none_listed = unfold flat_map list_of_kind kept firsts filter under_schema in refl

        go : (ds : List Component) → defaults ≡ ds → All Default ds → is_bare words ≡ is_empty ds
        go [] e d =
            let c : schema_components a hs ≡ [] = unadopted_is off ∙ ap (λ l. choose (is_empty l) [] (l ++ of_extensions (schema_extensions hs))) e in
            ap is_bare
            (shape ∙ ap (λ l. row_words (row 4 (number_of (schema_definition hs)) absent ∷ (l ++ after_schema v (heading_of v) a hs k.told k.named)))
            (ap (λ l. flat_map (list_of_kind (kept l)) under_schema) c ∙ none_listed))
            ∙ bare_rows (row 4 (number_of (schema_definition hs)) absent) (after_schema v (heading_of v) a hs k.told k.named) stops
        go (d ∷ ds) e q =
            let c : schema_components a hs ≡ d ∷ (ds ++ of_extensions (schema_extensions hs)) = unadopted_is off
            ∙ ap (λ l. choose (is_empty l) [] (l ++ of_extensions (schema_extensions hs))) e in
            let s = listed_some d (ds ++ of_extensions (schema_extensions hs)) q.0.0 in
            let l : flat_map (list_of_kind (kept (schema_components a hs))) under_schema ≡ s.0 ∷ s.1 =
            ap (λ l. flat_map (list_of_kind (kept l)) under_schema) c ∙ s.2 in
            let high : ltb s.0.what 20 ≡ false = (rw l at (schema_lists v (heading_of v) a hs k.told k.named)).0 in
            ap is_bare
            (shape ∙ ap (λ l. row_words (row 4 (number_of (schema_definition hs)) absent ∷ (l ++ after_schema v (heading_of v) a hs k.told k.named)))
            l)
            ∙ full_rows (row 4 (number_of (schema_definition hs)) absent) s.0 (s.1 ++ after_schema v (heading_of v) a hs k.told k.named) high

    met_errors : a ≡ false → is_empty defaults ≡ false → flat_map (schema_merge_errors v words absent) (map number_in hs) ≡
        collisions 4 (map part_in defaults) waiting
    met_errors off set =
        none_collisions (map part_in defaults) []
        (ap (map part_in) (unadopted_is off ∙ ap (λ b. choose b [] (defaults ++ of_extensions (schema_extensions hs))) set)
        ∙ (map_append part_in defaults (of_extensions (schema_extensions hs))
        ∙ ap (λ l. map part_in defaults ++ l) (extensions_parts (schema_extensions hs) ∙ sym (append-nil waiting))))
        (all_to (λ x. x.number < v.used) (λ x. times x.number (map part_in defaults) ≡ 0)
        (λ x l. let few = k.few in times_default x.number (λ e. omega arith) defaults (roots_default false hs)) waiting waiting_held)

    unmet_errors_lem : flat_map (unmet_errors v) (map number_in hs) ≡ flat_map (heading_error 6 absent) (schema_extensions hs)
    unfolding unmet_errors schema_extensions heading_error
    unmet_errors_lem =
        flat_map_lem (unmet_errors v) number_in hs
        ∙ (flat_gated (λ e. eqb (v.kind e.number) 11) (heading_error 6 absent) hs
        ∙ ap (flat_map (heading_error 6 absent)) (filter_cong (λ e. eqb (v.kind e.number) 11) (is_kind 11) hs
        (all_to (HeadingTold (heading_of v)) (λ e. eqb (v.kind e.number) 11 ≡ is_kind 11 e) (extension_told v) hs k.told)))

    no_schema_found : no_schema_errors_at a v words (map number_in hs) ≡ no_schema_errors a hs
    unfolding no_schema_errors_at no_schema_errors
    no_schema_found = go a refl
      where
        pick : a ≡ false → (b : Bool) → is_empty defaults ≡ b →
            choose (is_bare words) (flat_map (unmet_errors v) (map number_in hs)) (flat_map (schema_merge_errors v words absent) (map number_in hs)) ≡
            choose (is_empty defaults) (flat_map (heading_error 6 absent) (schema_extensions hs)) (collisions 4 (map part_in defaults) waiting)
        pick off true e = rw (bare_is off, e) unmet_errors_lem
        pick off false e = rw (bare_is off, e) (met_errors off e)

        go : (b : Bool) → a ≡ b →
            choose b (flat_map (schema_merge_errors v words absent) (map number_in hs))
            (choose (is_bare words) (flat_map (unmet_errors v) (map number_in hs)) (flat_map (schema_merge_errors v words absent) (map number_in hs))) ≡
            choose b (collisions 4 [] waiting) (choose (is_empty defaults) (flat_map (heading_error 6 absent) (schema_extensions hs))
            (collisions 4 (map part_in defaults) waiting))
        go true on = adopted_errors on
        go false off = pick off (is_empty defaults) refl

  schema_held : (s : Heading) → schema_definition hs ≡ some s → s.number < v.used
  unfolding schema_definition
  schema_held s f = all_found (λ h. h.number < v.used) (is_kind 4) hs s k.held f

  pub drawing_found : drawing_errors_at a v words (number_of (schema_definition hs)) (map number_in (filter is_type_extension hs)) (map number_in
      (firsts same_named [] (orphans hs))) (map number_in hs) ≡ drawing_errors a hs
  unfolding drawing_errors_at drawing_errors
  drawing_found = ap₂ (λ l m. l ++ m) (orphans_found v a hs k) (go (schema_definition hs) refl)
    where
      go : (o : Option Heading) → schema_definition hs ≡ o →
          choose (eqb (number_of (schema_definition hs)) absent) (no_schema_errors_at a v words (map number_in hs)) [] ≡
          found (schema_definition hs) (λ s. []) (no_schema_errors a hs)
      go none f = rw (eq-eqb (number_of (schema_definition hs)) absent (number_none (schema_definition hs) f), f) (no_schema_found f)
      go (some s) f =
          let l = schema_held s f in
          let few = k.few in
          let q : number_of (schema_definition hs) ≡ s.number = number_some (schema_definition hs) s f in
          rw (ne_eqb (number_of (schema_definition hs)) absent (λ e. omega arith), f)
