-- Each card gives at most one row: whatever cards are made to weigh, a drawing's rows weigh no more than the cards, and four absent ones.
use mathlib.Core.Path.{◌≡◌, refl, sym, ◌∙◌, subst}
use mathlib.Core.List.{List, [], ◌∷◌, ◌++◌}
use mathlib.Core.Bool.{Bool, true, false, ◌&&◌, ◌||◌, not}
use mathlib.Core.Option.{Option, none, some}
use Prim.Native.Nat.{ℕ, suc, ◌+◌, ◌≤◌, ◌*◌}
use native.Mathlib.Omega.{arith}
use lib.Dec.{eqb, leb}
use borrow.Author.Tests.{eqb-true, eqb-false, ne_eqb, leb-true, leb-false, le-leb}
use Rattle.definition.specs.Lists.{All, filter, any, is_empty, find, flat_map, firsts}
use Rattle.definition.specs.Names.{same_name}
use Rattle.definition.specs.Cards.{is_type}
use Rattle.definition.specs.Answers.{absent}
use Rattle.definition.specs.Headings.{Heading, is_kind, is_type_definition, is_type_extension, is_named, same_named, is_missing, is_orphan, orphans, extensions_of}
use Rattle.definition.specs.Headings.{is_of, definition, defines_type, defined_types, standing, directives, directive_named, schema_definition}
use Rattle.definition.specs.Headings.{schema_extensions, number_of}
use Rattle.definition.specs.Catalogue.{Component, Row, alike_components, component, components, own_components, of_extensions, kept, list_of_kind}
use Rattle.definition.specs.Catalogue.{component_row, is_component_of, under_type, under_schema, block, type_row, type_components, type_rows, adopted_row}
use Rattle.definition.specs.Catalogue.{adopted_rows, adopted, directive_row, directive_row_at, directive_rows, default_root, default_roots, default_name}
use Rattle.definition.specs.Catalogue.{kind_named, is_root_component, unadopted_schema, adopted_schema, schema_components, schema_rows, rows}
use Rattle.definition.proofs.Tests.{and_true}
use Rattle.definition.proofs.Lists.{any_nil, any_yes, any_no, any_append, firsts_nil, firsts_old, firsts_new, first_yes, first_no, none_head}
use Rattle.definition.proofs.Lists.{same_name_eq, same_name_refl}
use Rattle.definition.proofs.All.{all_to, all_with, all_filter, all_firsts, filter_pass}
use Rattle.definition.proofs.DocumentHeadings.{parts_w, whole}
use Rattle.definition.proofs.BuiltRows.{Fresh}
use native.Mathlib.Nat.{le_of_eq, le_refl}
use Rattle.definition.proofs.Sums.{sum, gate, gate_le, sum_append, sum_to, sum_plus, sum_none, sum_filter, sum_first, sum_two, sum_kept, sum_map}
use Rattle.definition.proofs.Sums.{sum_flat_map, sum_groups}

-- Of the firsts of a list, at most one is like a given element.
module _ {ℓ} {A : Type ℓ} (alike : A → A → Bool) (through : (x y z : A) → alike x z ≡ true → alike y z ≡ true → alike x y ≡ true) where
  any_through : (x z : A) (seen : List A) → alike x z ≡ true → any (λ y. alike y z) seen ≡ true → any (alike x) seen ≡ true
  any_through x z [] e h = let q : false ≡ true = sym (any_nil (λ y. alike y z)) ∙ h in cc
  any_through x z (y ∷ ys) e h = go (alike y z) refl (any_through x z ys e)
    where
      more : (b : Bool) → alike x y ≡ b → any (alike x) ys ≡ true → any (alike x) (y ∷ ys) ≡ true
      more true u i = any_yes (alike x) y ys u
      more false u i = any_no (alike x) y ys u ∙ i

      go : (b : Bool) → alike y z ≡ b → (any (λ y. alike y z) ys ≡ true → any (alike x) ys ≡ true) → any (alike x) (y ∷ ys) ≡ true
      go true f ih = any_yes (alike x) y ys (through x y z e f)
      go false f ih = more (alike x y) refl (ih (sym (any_no (λ y. alike y z) y ys f) ∙ h))

  pub one_first : (z : A) (v : ℕ) (seen xs : List A) →
      sum (λ y. gate (alike y z) v) (firsts alike seen xs) ≤ gate (not (any (λ y. alike y z) seen)) v
  one_first z v seen [] = simp firsts_nil (omega arith)
  one_first z v seen (x ∷ xs) = go (any (alike x) seen) refl (one_first z v seen xs) (one_first z v (seen ++ (x ∷ [])) xs)
    where
      end : (b c : Bool) → alike x z ≡ b → any (λ y. alike y z) seen ≡ c → any (alike x) seen ≡ false →
          sum (λ y. gate (alike y z) v) (firsts alike (seen ++ (x ∷ [])) xs) ≤ gate (not (any (λ y. alike y z) seen || any (λ y. alike y z) (x ∷ []))) v →
          gate (alike x z) v + sum (λ y. gate (alike y z) v) (firsts alike (seen ++ (x ∷ [])) xs) ≤ gate (not (any (λ y. alike y z) seen)) v
      end true true e f a ih = let q : true ≡ false = sym (any_through x z seen e f) ∙ a in let r : ◌≡◌ {A = ℕ} 0 1 = cc in omega arith
      end true false e f a ih = simp (e, f) (omega (arith, simp (f, any_yes (λ y. alike y z) x [] e) at ih))
      end false true e f a ih = simp (e, f) (omega (arith, simp f at ih))
      end false false e f a ih = simp (e, f) (omega (arith, simp (f, any_no (λ y. alike y z) x [] e, any_nil) at ih))

      go : (b : Bool) → any (alike x) seen ≡ b →
          sum (λ y. gate (alike y z) v) (firsts alike seen xs) ≤ gate (not (any (λ y. alike y z) seen)) v →
          sum (λ y. gate (alike y z) v) (firsts alike (seen ++ (x ∷ [])) xs) ≤ gate (not (any (λ y. alike y z) (seen ++ (x ∷ [])))) v →
          sum (λ y. gate (alike y z) v) (firsts alike seen (x ∷ xs)) ≤ gate (not (any (λ y. alike y z) seen)) v
      go true e ih _ = simp firsts_old ih
      go false e _ ih = simp firsts_new (end (alike x z) (any (λ y. alike y z) seen) refl refl e (rw any_append at ih))

named_through : (x y z : Heading) → same_named x z ≡ true → same_named y z ≡ true → same_named x y ≡ true
unfolding same_named is_named
named_through x y z e f = let p = same_name_eq x.name z.name e in let q = same_name_eq y.name z.name f in rw (p ∙ sym q) (same_name_refl y.name)

-- so, of headings grouped by name
pub one_named : (e : Heading) (v : ℕ) (xs : List Heading) → sum (λ g. gate (same_named g e) v) (firsts same_named [] xs) ≤ v
one_named e v xs = omega (arith, one_first same_named named_through e v [] xs, gate_le (not (any (λ y. same_named y e) [])) v)

abbrev comp_w : (ℕ → ℕ) → Component → ℕ
comp_w w c = w c.part.number

abbrev pub row_w : (ℕ → ℕ) → Row → ℕ
row_w w r = w r.card

-- The lists of parts hold each component at most once.
none_kind : (j k v : ℕ) → j ≡ k → (ks : List ℕ) → any (λ i. eqb i k) ks ≡ false → sum (λ i. gate (eqb j i) v) ks ≡ 0
none_kind j k v e [] h = refl
none_kind j k v e (i ∷ ks) h =
    let (a, b) = none_head (λ i. eqb i k) i ks h in
    let n : eqb j i ≡ false = ne_eqb j i (λ f. eqb-false i k a (sym f ∙ e)) in
    let ih = none_kind j k v e ks b in
    simp (n, ih)

one_kind : (j v : ℕ) (ks : List ℕ) → Fresh ks → sum (λ k. gate (eqb j k) v) ks ≤ v
one_kind j v [] f = omega arith
one_kind j v (k ∷ ks) f = go (eqb j k) refl (one_kind j v ks f.1)
  where
    go : (b : Bool) → eqb j k ≡ b → sum (λ k. gate (eqb j k) v) ks ≤ v → gate (eqb j k) v + sum (λ k. gate (eqb j k) v) ks ≤ v
    go true e ih = simp (e, none_kind j k v (eqb-true j k e) ks f.0) (omega arith)
    go false e ih = simp e (omega arith)

module _ (w : ℕ → ℕ) where
  listed_weigh : (cs : List Component) (k : ℕ) → sum (row_w w) (list_of_kind cs k) ≡ sum (comp_w w) (filter (is_component_of k) cs)
  unfolding list_of_kind component_row
  listed_weigh cs k = sum_map (row_w w) component_row (filter (is_component_of k) cs)

  lists_weigh : (cs : List Component) (ks : List ℕ) → Fresh ks → sum (row_w w) (flat_map (list_of_kind cs) ks) ≤ sum (comp_w w) cs
  unfolding is_component_of
  lists_weigh cs ks f =
      omega (
        arith,
        sum_flat_map (row_w w) (list_of_kind cs) ks,
        sum_to (λ k. sum (row_w w) (list_of_kind cs k)) (λ k. sum (comp_w w) (filter (is_component_of k) cs)) (λ k. le_of_eq (listed_weigh cs k)) ks,
        sum_groups (comp_w w) is_component_of (λ c. true) ks (λ c v. one_kind c.part.kind v ks f) cs,
        sum_filter (comp_w w) (λ c. true) cs,
      )

  kept_weigh : (cs : List Component) → sum (comp_w w) (kept cs) ≤ sum (comp_w w) cs
  unfolding kept
  kept_weigh cs = let k = sum_kept alike_components (comp_w w) [] cs in omega arith

  components_weigh : (o : ℕ) (h : Heading) → sum (comp_w w) (components o h) ≡ parts_w w h
  unfolding components component
  components_weigh o h = sum_map (comp_w w) (component o) h.parts

  extensions_weigh : (es : List Heading) → sum (comp_w w) (of_extensions es) ≤ sum (parts_w w) es
  unfolding of_extensions own_components
  extensions_weigh es =
      omega (arith, sum_flat_map (comp_w w) own_components es, sum_to (λ e. sum (comp_w w) (own_components e)) (parts_w w) (λ e. le_of_eq (components_weigh _ e)) es)

  block_weigh : (r : Row) (cs : List Component) → sum (row_w w) (block r (kept cs)) ≤ w r.card + sum (comp_w w) cs
  unfolding block under_type any
  block_weigh r cs = omega (arith, lists_weigh (kept cs) under_type (refl, (refl, (refl, (refl, (refl, (refl, tt)))))), kept_weigh cs)

  -- a type that a definition brings, and one that is adopted
  type_weighs : (hs : List Heading) (d : Heading) →
      sum (row_w w) (type_rows hs d) ≤ whole w d + sum (parts_w w) (filter (is_of (d.kind + 7) d.name) hs)
  unfolding type_rows type_row type_components extensions_of
  type_weighs hs d =
      omega (
        arith,
        block_weigh (type_row d) (type_components hs d),
        sum_append (comp_w w) (components absent d) (of_extensions (extensions_of (d.kind + 7) d.name hs)),
        components_weigh absent d,
        extensions_weigh (extensions_of (d.kind + 7) d.name hs),
      )

  adopted_weighs : (hs : List Heading) (g : Heading) →
      sum (row_w w) (adopted_rows hs g) ≤ w g.number + sum (parts_w w) (filter (is_of g.kind g.name) hs)
  unfolding adopted_rows adopted_row extensions_of
  adopted_weighs hs g =
      omega (arith, block_weigh (adopted_row g) (of_extensions (extensions_of g.kind g.name hs)), extensions_weigh (extensions_of g.kind g.name hs))

-- An extension with a definition somewhere.
pub is_matched : List Heading → Heading → Bool
is_matched hs e = is_type_extension e && not (is_missing (definition e.name hs))

found_all : (xs : List Heading) → All (λ d. (p : Heading → Bool) → p d ≡ true → is_missing (find p xs) ≡ false) xs
unfolding is_missing
found_all [] = tt
found_all (x ∷ xs) = (
  (λ p e. simp (first_yes p x xs e)),
  all_to (λ d. (p : Heading → Bool) → p d ≡ true → is_missing (find p xs) ≡ false) (λ d. (p : Heading → Bool) → p d ≡ true → is_missing (find p (x ∷ xs)) ≡ false)
      (λ d h p e. go p (p x) refl (h p e)) xs (found_all xs),
)
  where
    go : (p : Heading → Bool) (b : Bool) → p x ≡ b → is_missing (find p xs) ≡ false → is_missing (find p (x ∷ xs)) ≡ false
    go p true e h = simp (first_yes p x xs e)
    go p false e h = simp (first_no p x xs e, h)

pub present : (hs : List Heading) → All (λ d. is_missing (definition d.name hs) ≡ false) (filter is_type_definition hs)
unfolding definition defines_type is_named
present hs =
    all_with (λ d. (p : Heading → Bool) → p d ≡ true → is_missing (find p hs) ≡ false) (λ d. is_type_definition d ≡ true)
    (λ d. is_missing (definition d.name hs) ≡ false)
    (λ d h e. h (defines_type d.name) (simp (e, same_name_refl)))
    (filter is_type_definition hs) (all_filter (λ d. (p : Heading → Bool) → p d ≡ true → is_missing (find p hs) ≡ false) is_type_definition hs (found_all hs))
    (filter_pass is_type_definition hs)

gate_and : (b c : Bool) (v : ℕ) → gate (b && c) v ≤ gate c v
gate_and true c v = le_refl (gate c v)
gate_and false c v = omega arith

module _ (hs : List Heading) where
  -- Each extension is matched by one type at most, and then it has a definition.
  extends : (d e : Heading) → is_type_definition d ≡ true → is_missing (definition d.name hs) ≡ false → is_of (d.kind + 7) d.name e ≡ true →
      is_matched hs e ≡ true
  unfolding is_of is_kind is_named is_matched is_type_extension is_type_definition is_type
  extends d e t m x =
      let (k, n) = and_true (eqb e.kind (d.kind + 7)) (same_name d.name e.name) x in
      let (l, u) = and_true (leb 5 d.kind) (leb d.kind 10) t in
      let q = eqb-true e.kind (d.kind + 7) k in
      let a = leb-true 5 d.kind l in
      let b = leb-true d.kind 10 u in
      let c : leb 12 e.kind ≡ true = le-leb 12 e.kind (omega arith) in
      let f : leb e.kind 17 ≡ true = le-leb e.kind 17 (omega arith) in
      let g : is_missing (definition e.name hs) ≡ false = subst (λ s. is_missing (definition s hs) ≡ false) (same_name_eq d.name e.name n) m in
      simp (c, f, g)

  one_type : (e : Heading) (v : ℕ) → sum (λ d. gate (is_of (d.kind + 7) d.name e) v) (defined_types hs) ≤ gate (is_matched hs e) v
  unfolding defined_types is_of same_named
  one_type e v = go (is_matched hs e) refl
    where
      zero : is_matched hs e ≡ false → (d : Heading) → is_type_definition d ≡ true → is_missing (definition d.name hs) ≡ false →
          (b : Bool) → is_of (d.kind + 7) d.name e ≡ b → gate (is_of (d.kind + 7) d.name e) v ≡ 0
      zero m d t p true x = let q : true ≡ false = sym (extends d e t p x) ∙ m in cc
      zero m d t p false x = simp x

      go : (b : Bool) → is_matched hs e ≡ b → sum (λ d. gate (is_of (d.kind + 7) d.name e) v) (defined_types hs) ≤ gate (is_matched hs e) v
      go true m =
          simp m (omega (
            arith,
            one_named e v (filter is_type_definition hs),
            sum_to (λ d. gate (is_of (d.kind + 7) d.name e) v) (λ d. gate (same_named d e) v)
                (λ d. gate_and (is_kind (d.kind + 7) e) (is_named d.name e) v) (defined_types hs),
          ))
      go false m =
          simp m (le_of_eq (sum_none (λ d. gate (is_of (d.kind + 7) d.name e) v) (defined_types hs)
          (all_firsts (λ d. gate (is_of (d.kind + 7) d.name e) v ≡ 0) same_named [] (filter is_type_definition hs)
          (all_with (λ d. is_type_definition d ≡ true) (λ d. is_missing (definition d.name hs) ≡ false) (λ d. gate (is_of (d.kind + 7) d.name e) v ≡ 0)
          (λ d t p. zero m d t p (is_of (d.kind + 7) d.name e) refl) (filter is_type_definition hs) (filter_pass is_type_definition hs) (present hs)))))

  adopts : (g e : Heading) → is_orphan hs g ≡ true → is_of g.kind g.name e ≡ true → is_orphan hs e ≡ true
  unfolding is_of is_kind is_named is_orphan is_type_extension
  adopts g e o x =
      let (k, n) = and_true (eqb e.kind g.kind) (same_name g.name e.name) x in
      let q : e.kind ≡ g.kind = eqb-true e.kind g.kind k in
      let r : e.name ≡ g.name = sym (same_name_eq g.name e.name n) in
      rw (q, r) o

  one_adopted : (e : Heading) (v : ℕ) → sum (λ g. gate (is_of g.kind g.name e) v) (firsts same_named [] (orphans hs)) ≤ gate (is_orphan hs e) v
  unfolding orphans is_of same_named
  one_adopted e v = go (is_orphan hs e) refl
    where
      zero : is_orphan hs e ≡ false → (g : Heading) → is_orphan hs g ≡ true →
          (b : Bool) → is_of g.kind g.name e ≡ b → gate (is_of g.kind g.name e) v ≡ 0
      zero m g o true x = let q : true ≡ false = sym (adopts g e o x) ∙ m in cc
      zero m g o false x = simp x

      go : (b : Bool) → is_orphan hs e ≡ b → sum (λ g. gate (is_of g.kind g.name e) v) (firsts same_named [] (orphans hs)) ≤ gate (is_orphan hs e) v
      go true m =
          simp m (omega (
            arith,
            one_named e v (orphans hs),
            sum_to (λ g. gate (is_of g.kind g.name e) v) (λ g. gate (same_named g e) v) (λ g. gate_and (is_kind g.kind e) (is_named g.name e) v)
                (firsts same_named [] (orphans hs)),
          ))
      go false m =
          simp m (le_of_eq (sum_none (λ g. gate (is_of g.kind g.name e) v) (firsts same_named [] (orphans hs))
          (all_firsts (λ g. gate (is_of g.kind g.name e) v ≡ 0) same_named [] (orphans hs)
          (all_to (λ g. is_orphan hs g ≡ true) (λ g. gate (is_of g.kind g.name e) v ≡ 0)
          (λ g o. zero m g o (is_of g.kind g.name e) refl) (orphans hs) (filter_pass (is_orphan hs) hs)))))

-- The default root of a kind, as a component.
unfoldable pub root_component : ℕ → Component
root_component k = component absent (record { number = absent; kind = k; name = default_name k })

pub root_set : (a : Bool) (hs : List Heading) (k : ℕ) → eqb (kind_named a hs (default_name k)) 6 ≡ true → default_root a hs k ≡ root_component k ∷ []
unfolding default_root root_component
root_set a hs k e = rw e

pub root_unset : (a : Bool) (hs : List Heading) (k : ℕ) → eqb (kind_named a hs (default_name k)) 6 ≡ false → default_root a hs k ≡ []
unfolding default_root
root_unset a hs k e = rw e

-- What the schema's extensions bring, and what the schema is made of in each case.
unfoldable pub schema_brought : List Heading → List Component
schema_brought hs = of_extensions (schema_extensions hs)

pub schema_defined : (a : Bool) (hs : List Heading) (s : Heading) → schema_definition hs ≡ some s →
    schema_components a hs ≡ components absent s ++ schema_brought hs
unfolding schema_components schema_brought
schema_defined a hs s e = rw e

module _ (hs : List Heading) (o : schema_definition hs ≡ none) where
  pub adopting_set : any is_root_component (schema_brought hs) ≡ true → schema_components true hs ≡ schema_brought hs
  unfolding schema_components adopted_schema schema_brought
  adopting_set e = rw (o, e)

  pub adopting_unset : any is_root_component (schema_brought hs) ≡ false → schema_components true hs ≡ schema_brought hs ++ default_roots true hs
  unfolding schema_components adopted_schema schema_brought
  adopting_unset e = rw (o, e)

  pub no_roots : is_empty (default_roots false hs) ≡ true → schema_components false hs ≡ []
  unfolding schema_components unadopted_schema schema_brought
  no_roots e = rw (o, e)

  pub some_roots : is_empty (default_roots false hs) ≡ false → schema_components false hs ≡ default_roots false hs ++ schema_brought hs
  unfolding schema_components unadopted_schema schema_brought
  some_roots e = rw (o, e)

defined_weighs : (w : ℕ → ℕ) (a : Bool) (hs : List Heading) (s : Heading) → schema_definition hs ≡ some s →
    w (number_of (some s)) + sum (comp_w w) (schema_components a hs) ≤ whole w s + sum (comp_w w) (schema_brought hs)
unfolding number_of
defined_weighs w a hs s e = rw (schema_defined a hs s e)
    (omega (arith, sum_append (comp_w w) (components absent s) (schema_brought hs), components_weigh w absent s))

absent_number : (w : ℕ → ℕ) → w (number_of none) ≡ w absent
unfolding number_of
absent_number w = refl

-- The rows of types, adopted ones too.
module _ (w : ℕ → ℕ) (hs : List Heading) where
  types_weigh : sum (row_w w) (flat_map (type_rows hs) (defined_types hs)) ≤ sum (whole w) (filter is_type_definition hs) + sum (parts_w w) (filter (is_matched hs) hs)
  unfolding defined_types
  types_weigh =
      omega (
        arith,
        sum_flat_map (row_w w) (type_rows hs) (defined_types hs),
        sum_to (λ d. sum (row_w w) (type_rows hs d)) (λ d. whole w d + sum (parts_w w) (filter (is_of (d.kind + 7) d.name) hs)) (type_weighs w hs)
            (defined_types hs),
        sum_plus (whole w) (λ d. sum (parts_w w) (filter (is_of (d.kind + 7) d.name) hs)) (defined_types hs),
        sum_kept same_named (whole w) [] (filter is_type_definition hs),
        sum_groups (parts_w w) (λ d. is_of (d.kind + 7) d.name) (is_matched hs) (defined_types hs) (one_type hs) hs,
      )

  adopted_weigh : (a : Bool) → sum (row_w w) (adopted a hs) ≤ sum (whole w) (filter (is_orphan hs) hs)
  unfolding adopted orphans
  adopted_weigh false = omega arith
  adopted_weigh true =
      omega (
        arith,
        sum_flat_map (row_w w) (adopted_rows hs) (firsts same_named [] (orphans hs)),
        sum_to (λ g. sum (row_w w) (adopted_rows hs g)) (λ g. w g.number + sum (parts_w w) (filter (is_of g.kind g.name) hs)) (adopted_weighs w hs)
            (firsts same_named [] (orphans hs)),
        sum_plus (λ g. w g.number) (λ g. sum (parts_w w) (filter (is_of g.kind g.name) hs)) (firsts same_named [] (orphans hs)),
        sum_kept same_named (λ g. w g.number) [] (orphans hs),
        sum_groups (parts_w w) (λ g. is_of g.kind g.name) (is_orphan hs) (firsts same_named [] (orphans hs)) (one_adopted hs) hs,
        sum_plus (λ g. w g.number) (parts_w w) (filter (is_orphan hs) hs),
      )

  -- directive definitions
  standing_weighs : (o : Option Heading) (ds : List Heading) →
      sum (row_w w) (directive_row (standing o ds)) ≤ sum (row_w w) (directive_row o) + sum (λ d. w d.number) ds
  unfolding standing directive_row
  standing_weighs o [] = omega arith
  standing_weighs none (d ∷ ds) = omega (arith, standing_weighs (some d) ds)
  standing_weighs (some c) (d ∷ ds) = go c.built_in refl (standing_weighs (some d) ds)
    where
      go : (b : Bool) → c.built_in ≡ b → sum (row_w w) (directive_row (standing (some d) ds)) ≤ w d.number + 0 + sum (λ d. w d.number) ds →
          sum (row_w w) (directive_row (standing (some c) (d ∷ ds))) ≤ w c.number + 0 + (w d.number + sum (λ d. w d.number) ds)
      go true e ih = rw e (omega arith)
      go false e ih = rw e (omega arith)

  directives_weigh : sum (row_w w) (directive_rows hs) ≤ sum (whole w) (filter (is_kind 3) hs)
  unfolding directive_rows directive_row_at directive_named directive_row directives same_named
  directives_weigh =
      omega (
        arith,
        sum_flat_map (row_w w) (directive_row_at hs) (firsts same_named [] (directives hs)),
        sum_to (λ h. sum (row_w w) (directive_row_at hs h)) (λ h. sum (λ e. w e.number) (filter (same_named h) (directives hs)))
            (λ h. omega (arith, standing_weighs none (filter (same_named h) (directives hs)))) (firsts same_named [] (directives hs)),
        sum_groups (λ e. w e.number) same_named (λ e. true) (firsts same_named [] (directives hs)) (λ e v. one_named e v (directives hs)) (directives hs),
        sum_filter (λ e. w e.number) (λ e. true) (directives hs),
        sum_to (λ e. w e.number) (whole w) (λ e. omega arith) (directives hs),
      )

  -- the schema
  root_weighs : (a : Bool) (k : ℕ) → sum (comp_w w) (default_root a hs k) ≤ w absent
  unfolding root_component component
  root_weighs a k = go (eqb (kind_named a hs (default_name k)) 6) refl
    where
      go : (b : Bool) → eqb (kind_named a hs (default_name k)) 6 ≡ b → sum (comp_w w) (default_root a hs k) ≤ w absent
      go true e = rw (root_set a hs k e) (omega arith)
      go false e = rw (root_unset a hs k e) (omega arith)

  roots_weigh : (a : Bool) → sum (comp_w w) (default_roots a hs) ≤ 3 * w absent
  unfolding default_roots
  roots_weigh a =
      omega (
        arith,
        sum_append (comp_w w) (default_root a hs 26 ++ default_root a hs 27) (default_root a hs 28),
        sum_append (comp_w w) (default_root a hs 26) (default_root a hs 27),
        root_weighs a 26,
        root_weighs a 27,
        root_weighs a 28,
      )

  undefined_weighs : (a : Bool) → schema_definition hs ≡ none → sum (comp_w w) (schema_components a hs) ≤ sum (comp_w w) (schema_brought hs) + 3 * w absent
  undefined_weighs true o = go (any is_root_component (schema_brought hs)) refl
    where
      go : (b : Bool) → any is_root_component (schema_brought hs) ≡ b → sum (comp_w w) (schema_components true hs) ≤ sum (comp_w w) (schema_brought hs) + 3 * w absent
      go true e = rw (adopting_set hs o e) (omega arith)
      go false e = rw (adopting_unset hs o e) (omega (arith, sum_append (comp_w w) (schema_brought hs) (default_roots true hs), roots_weigh true))
  undefined_weighs false o = go (is_empty (default_roots false hs)) refl
    where
      go : (b : Bool) → is_empty (default_roots false hs) ≡ b → sum (comp_w w) (schema_components false hs) ≤ sum (comp_w w) (schema_brought hs) + 3 * w absent
      go true e = rw (no_roots hs o e) (omega arith)
      go false e = rw (some_roots hs o e) (omega (arith, sum_append (comp_w w) (default_roots false hs) (schema_brought hs), roots_weigh false))

  schema_weighs : (a : Bool) → sum (row_w w) (schema_rows a hs) ≤ sum (whole w) (filter (is_kind 4) hs) + sum (whole w) (filter (is_kind 11) hs) + 4 * w absent
  unfolding schema_rows under_schema any schema_definition schema_extensions schema_brought
  schema_weighs a =
      omega (
        arith,
        lists_weigh w (kept (schema_components a hs)) under_schema (refl, (refl, (refl, (refl, tt)))),
        kept_weigh w (schema_components a hs),
        made (schema_definition hs) refl,
        extensions_weigh w (schema_extensions hs),
        sum_to (parts_w w) (whole w) (λ e. omega arith) (filter (is_kind 11) hs),
      )
    where
      made : (o : Option Heading) → schema_definition hs ≡ o →
          w (number_of (schema_definition hs)) + sum (comp_w w) (schema_components a hs) ≤
          sum (whole w) (filter (is_kind 4) hs) + sum (comp_w w) (schema_brought hs) + 4 * w absent
      made none e = rw e (omega (arith, undefined_weighs a e, absent_number w))
      made (some s) e = rw e (omega (arith, defined_weighs w a hs s e, sum_first (whole w) (is_kind 4) hs s e))

-- Each heading is of one sort.
one_of : (k j v : ℕ) → gate (eqb k j) v + gate (leb (suc j) k) v ≤ gate (leb j k) v
one_of k j v = go (eqb k j) (leb (suc j) k) (leb j k) refl refl refl
  where
    go : (a b c : Bool) → eqb k j ≡ a → leb (suc j) k ≡ b → leb j k ≡ c → gate (eqb k j) v + gate (leb (suc j) k) v ≤ gate (leb j k) v
    go true true c e f g = omega (arith, eqb-true k j e, leb-true (suc j) k f)
    go true false true e f g = simp (e, f, g) (omega arith)
    go true false false e f g = omega (arith, eqb-true k j e, leb-false j k g)
    go false true true e f g = simp (e, f, g) (omega arith)
    go false true false e f g = omega (arith, leb-true (suc j) k f, leb-false j k g)
    go false false c e f g = simp (e, f) (omega arith)

one_range : (k i j v : ℕ) → i ≤ suc j → gate (leb i k && leb k j) v + gate (leb (suc j) k) v ≤ gate (leb i k) v
one_range k i j v h = go (leb i k) (leb k j) (leb (suc j) k) refl refl refl
  where
    go : (a b c : Bool) → leb i k ≡ a → leb k j ≡ b → leb (suc j) k ≡ c → gate (leb i k && leb k j) v + gate (leb (suc j) k) v ≤ gate (leb i k) v
    go true true true e f g = omega (arith, leb-true k j f, leb-true (suc j) k g)
    go true true false e f g = simp (e, f, g) (omega arith)
    go true false c e f g = simp (e, f) (omega (arith, gate_le (leb (suc j) k) v))
    go false b true e f g = omega (arith, leb-false i k e, leb-true (suc j) k g)
    go false b false e f g = simp (e, g) (omega arith)

from : ℕ → Heading → Bool
from k h = leb k h.kind

module _ (w : ℕ → ℕ) (hs : List Heading) where
  pub sorts : sum (whole w) (filter (is_kind 3) hs) + sum (whole w) (filter (is_kind 4) hs) + sum (whole w) (filter is_type_definition hs) +
      sum (whole w) (filter (is_kind 11) hs) + sum (whole w) (filter is_type_extension hs) ≤ sum (whole w) hs
  unfolding is_kind is_type_definition is_type is_type_extension from
  sorts =
      omega (
        arith,
        sum_two (whole w) (is_kind 3) (from 4) (from 3) (λ h v. one_of h.kind 3 v) hs,
        sum_two (whole w) (is_kind 4) (from 5) (from 4) (λ h v. one_of h.kind 4 v) hs,
        sum_two (whole w) is_type_definition (from 11) (from 5) (λ h v. one_range h.kind 5 10 v (omega arith)) hs,
        sum_two (whole w) (is_kind 11) (from 12) (from 11) (λ h v. one_of h.kind 11 v) hs,
        sum_two (whole w) is_type_extension (from 18) (from 12) (λ h v. one_range h.kind 12 17 v (omega arith)) hs,
        sum_filter (whole w) (from 3) hs,
      )

  matched_or_not : sum (whole w) (filter (is_matched hs) hs) + sum (whole w) (filter (is_orphan hs) hs) ≤ sum (whole w) (filter is_type_extension hs)
  unfolding is_matched is_orphan
  matched_or_not =
      sum_two (whole w) (is_matched hs) (is_orphan hs) is_type_extension
      (λ h v. either (is_type_extension h) (is_missing (definition h.name hs)) v) hs
    where
      either : (t m : Bool) (v : ℕ) → gate (t && not m) v + gate (t && m) v ≤ gate t v
      either true true v = omega arith
      either true false v = omega arith
      either false m v = omega arith

  pub rows_weigh : (a : Bool) → sum (row_w w) (rows a hs) ≤ sum (whole w) hs + 4 * w absent
  unfolding rows
  rows_weigh a =
      omega (
        arith,
        sum_append (row_w w) (schema_rows a hs) (directive_rows hs ++ (flat_map (type_rows hs) (defined_types hs) ++ adopted a hs)),
        sum_append (row_w w) (directive_rows hs) (flat_map (type_rows hs) (defined_types hs) ++ adopted a hs),
        sum_append (row_w w) (flat_map (type_rows hs) (defined_types hs)) (adopted a hs),
        schema_weighs w hs a,
        directives_weigh w hs,
        types_weigh w hs,
        adopted_weigh w hs a,
        sum_to (parts_w w) (whole w) (λ e. omega arith) (filter (is_matched hs) hs),
        matched_or_not,
        sorts,
      )
