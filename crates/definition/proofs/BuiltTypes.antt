-- The type rows of a drawing, adopted ones too: which is found for a name, and that `kind_named` is its kind.
use mathlib.Core.Path.{◌≡◌, refl, sym, ◌∙◌, ap, subst}
use mathlib.Core.List.{List, [], ◌∷◌, ◌++◌, map}
use mathlib.Core.Bool.{Bool, true, false, ◌&&◌}
use mathlib.Core.Option.{Option, none, some}
use Prim.Native.Nat.{ℕ}
use Rattle.definition.specs.Lists.{All, filter, any, find, flat_map, firsts}
use Rattle.definition.specs.Names.{same_name}
use Rattle.definition.specs.Headings.{Heading, NamedCard, is_type_definition, is_type_extension, is_named, same_named, is_missing, is_orphan, orphans, definition}
use Rattle.definition.specs.Headings.{defines_type, defined_types, extends_type}
use Rattle.definition.specs.Catalogue.{Row, type_row, type_rows, adopted_row, adopted_rows, adopted, directive_rows, schema_rows, kind_named, rows}
use Rattle.definition.specs.LentRows.{is_type_row, is_row_named, is_type_row_named, first_type_row}
use Rattle.definition.proofs.Lists.{flat_map_nil, flat_map_cons, filter_nil, filter_yes, filter_none, filter_append, any_nil, first_nil, first_both}
use Rattle.definition.proofs.Lists.{first_firsts, first_append_some, first_append_none, first_map_some, first_map_none, same_name_eq}
use Rattle.definition.proofs.All.{all_filter, all_firsts, all_to, filter_pass, first_cong, all_every}
use Rattle.definition.proofs.DocumentHeadings.{Named}
use Rattle.definition.proofs.BuiltRows.{type_rows_lem, adoptees, adoptees_extend, adopted_of, adopted_parts, adopted_rows_are, adopted_plain_at, schema_plain}
use Rattle.definition.proofs.BuiltRows.{directives_plain, extension_row, same_named_lem, row_named}

adopted_types : (hs gs : List Heading) → All (λ g. is_type_extension g ≡ true) gs → filter is_type_row (flat_map (adopted_rows hs) gs) ≡ map adopted_row gs
adopted_types hs [] a = simp (flat_map_nil, filter_nil)
adopted_types hs (g ∷ gs) a =
    let e : is_type_row (adopted_row g) ≡ true = extension_row g a.0 in
    let n : any is_type_row (adopted_parts hs g) ≡ false = adopted_plain_at hs g in
    simp (
      flat_map_cons,
      adopted_rows_are,
      filter_yes,
      filter_append is_type_row (adopted_parts hs g) (flat_map (adopted_rows hs) gs),
      filter_none,
      adopted_types hs gs a.1,
    )

adopted_all : (a : Bool) (hs : List Heading) → filter is_type_row (adopted a hs) ≡ map adopted_row (adoptees a hs)
adopted_all a hs = rw (adopted_of a hs) (adopted_types hs (adoptees a hs) (adoptees_extend a hs))

-- The type rows are those of the types and then of the adopted ones.
pub built_types : (a : Bool) (hs : List Heading) → filter is_type_row (rows a hs) ≡ map type_row (defined_types hs) ++ map adopted_row (adoptees a hs)
unfolding rows defined_types
built_types a hs =
    let s : filter is_type_row (schema_rows a hs) ≡ [] = filter_none is_type_row (schema_rows a hs) (schema_plain a hs) in
    let d : filter is_type_row (directive_rows hs) ≡ [] = filter_none is_type_row (directive_rows hs) (directives_plain hs) in
    let t : filter is_type_row (flat_map (type_rows hs) (defined_types hs)) ≡ map type_row (defined_types hs) =
    type_rows_lem hs (defined_types hs) (all_firsts (λ d. is_type_definition d ≡ true) same_named [] (filter is_type_definition hs) (filter_pass is_type_definition hs)) in
    simp (filter_append, s, d, t, adopted_all a hs)

module _ (ps : List NamedCard) (n : List ℕ) (a : Bool) (hs : List Heading) (named : All (Named ps) hs) where
  -- What a name finds among the types, and among the adopted ones.
  pub among_types : find (is_named n) (defined_types hs) ≡ definition n hs
  unfolding defined_types definition defines_type
  among_types =
      first_firsts same_named (is_named n) (same_named_lem n) [] (filter is_type_definition hs) (any_nil (is_named n)) ∙ sym (first_both is_type_definition (is_named n) hs)

  pub named_types : All (Named ps) (defined_types hs)
  unfolding defined_types
  named_types = all_firsts (Named ps) same_named [] (filter is_type_definition hs) (all_filter (Named ps) is_type_definition hs named)

  named_orphans : All (Named ps) (firsts same_named [] (orphans hs))
  unfolding orphans
  named_orphans = all_firsts (Named ps) same_named [] (orphans hs) (all_filter (Named ps) (is_orphan hs) hs named)

  adopted_named : (g : Heading) → Named ps g → is_row_named ps n (adopted_row g) ≡ is_named n g
  unfolding is_row_named adopted_row is_named
  adopted_named g e = ap (same_name n) e.0

  found_as : first_type_row ps (rows a hs) n ≡ find (is_row_named ps n) (map type_row (defined_types hs) ++ map adopted_row (adoptees a hs))
  unfolding first_type_row is_type_row_named
  found_as = first_both is_type_row (is_row_named ps n) (rows a hs) ∙ ap (find (is_row_named ps n)) (built_types a hs)

  pub in_types : find (λ d. is_row_named ps n (type_row d)) (defined_types hs) ≡ definition n hs
  in_types =
      first_cong (λ d. is_row_named ps n (type_row d)) (is_named n) (defined_types hs)
      (all_to (Named ps) (λ d. is_row_named ps n (type_row d) ≡ is_named n d) (row_named ps n) (defined_types hs) named_types) ∙ among_types

  in_adopted : find (λ g. is_row_named ps n (adopted_row g)) (firsts same_named [] (orphans hs)) ≡ find (is_named n) (orphans hs)
  in_adopted =
      first_cong (λ g. is_row_named ps n (adopted_row g)) (is_named n) (firsts same_named [] (orphans hs))
      (all_to (Named ps) (λ g. is_row_named ps n (adopted_row g) ≡ is_named n g) adopted_named (firsts same_named [] (orphans hs)) named_orphans)
      ∙ first_firsts same_named (is_named n) (same_named_lem n) [] (orphans hs) (any_nil (is_named n))

  -- Where no definition has the name, the orphans of the name are its extensions.
  orphans_of : definition n hs ≡ none → find (is_named n) (orphans hs) ≡ find (extends_type n) hs
  unfolding orphans is_orphan is_named is_missing extends_type
  orphans_of m =
      sym (first_both (is_orphan hs) (is_named n) hs)
      ∙ first_cong (λ h. is_orphan hs h && is_named n h) (extends_type n) hs
      (all_every (λ h. (is_orphan hs h && is_named n h) ≡ (is_type_extension h && is_named n h)) each hs)
    where
      drop : (t m : Bool) → m ≡ true → ((t && m) && true) ≡ (t && true)
      drop true m e = simp e
      drop false m e = refl

      zero : (t m : Bool) → ((t && m) && false) ≡ (t && false)
      zero true true = refl
      zero true false = refl
      zero false m = refl

      go : (h : Heading) (b : Bool) → is_named n h ≡ b → (is_orphan hs h && is_named n h) ≡ (is_type_extension h && is_named n h)
      go h true e =
          let q : is_missing (definition h.name hs) ≡ true = subst (λ s. is_missing (definition s hs) ≡ true) (same_name_eq n h.name e) (rw m) in
          rw e (drop (is_type_extension h) (is_missing (definition h.name hs)) q)
      go h false e = rw e (zero (is_type_extension h) (is_missing (definition h.name hs)))

      each : (h : Heading) → (is_orphan hs h && is_named n h) ≡ (is_type_extension h && is_named n h)
      each h = go h (is_named n h) refl

  pub defined_found : (d : Heading) → definition n hs ≡ some d → first_type_row ps (rows a hs) n ≡ some (type_row d)
  defined_found d h =
      found_as ∙ first_append_some (is_row_named ps n) (map type_row (defined_types hs)) (map adopted_row (adoptees a hs)) (type_row d)
      (first_map_some (is_row_named ps n) type_row (defined_types hs) d (in_types ∙ h))

  undefined : definition n hs ≡ none → first_type_row ps (rows a hs) n ≡ find (is_row_named ps n) (map adopted_row (adoptees a hs))
  undefined h =
      found_as ∙ first_append_none (is_row_named ps n) (map type_row (defined_types hs)) (map adopted_row (adoptees a hs))
      (first_map_none (is_row_named ps n) type_row (defined_types hs) (in_types ∙ h))

-- The kind of a found row, 0 where none is.
abbrev pub row_kind : Option Row → ℕ
row_kind none = 0
row_kind (some t) = t.what

-- So `kind_named` says what a name finds in the rows: a default root's name finds an object.
pub kind_named_lem : (ps : List NamedCard) (n : List ℕ) (a : Bool) (hs : List Heading) → All (Named ps) hs →
    kind_named a hs n ≡ row_kind (first_type_row ps (rows a hs) n)
unfolding kind_named type_row adopted_row adoptees
kind_named_lem ps n a hs named = go a (definition n hs) (find (extends_type n) hs) refl refl
  where
    go : (a : Bool) (o p : Option Heading) → definition n hs ≡ o → find (extends_type n) hs ≡ p →
        kind_named a hs n ≡ row_kind (first_type_row ps (rows a hs) n)
    go a (some d) p e f = rw (e, defined_found ps n a hs named d e)
    go false none none e f = rw (e, undefined ps n false hs named e, first_nil (is_row_named ps n))
    go false none (some g) e f = rw (e, undefined ps n false hs named e, first_nil (is_row_named ps n))
    go true none none e f =
        rw (
          e,
          f,
          undefined ps n true hs named e,
          first_map_none (is_row_named ps n) adopted_row (firsts same_named [] (orphans hs))
              (in_adopted ps n true hs named ∙ (orphans_of ps n true hs named e ∙ f)),
        )
    go true none (some g) e f =
        rw (
          e,
          f,
          undefined ps n true hs named e,
          first_map_some (is_row_named ps n) adopted_row (firsts same_named [] (orphans hs)) g
              (in_adopted ps n true hs named ∙ (orphans_of ps n true hs named e ∙ f)),
        )
