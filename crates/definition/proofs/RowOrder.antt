-- The order of kinds that 26 asks for, in drawn rows.
use mathlib.Core.Path.{◌≡◌, refl, sym, ◌∙◌, ap, subst}
use mathlib.Core.List.{List, [], ◌∷◌, ◌++◌, map, append_assoc, append-nil}
use mathlib.Core.Bool.{Bool, true, false, ◌&&◌}
use mathlib.Core.Option.{Option, none, some}
use Prim.Native.Nat.{ℕ, ◌+◌, ◌-◌, ◌≤◌, ◌<◌}
use native.Mathlib.Omega.{arith}
use lib.Dec.{eqb, leb, ltb}
use lib.ListN.{length}
use borrow.Author.Tests.{eqb-true, eqb-false, eq-eqb, ne_eqb, leb-true, le-leb}
use Rattle.definition.specs.Lists.{All, choose, filter, any, flat_map, firsts}
use Rattle.definition.specs.Cards.{is_root, is_type, part_order, place_in, definition_of}
use Rattle.definition.specs.Answers.{absent}
use Rattle.definition.specs.Headings.{Heading, NamedCard, is_kind, is_type_definition, is_type_extension, is_named, same_named, is_of, alike, extensions_of}
use Rattle.definition.specs.Headings.{defined_types, directives, directive_named}
use Rattle.definition.specs.Catalogue.{Component, Row, alike_components, component, components, own_components, of_extensions, kept, list_of_kind}
use Rattle.definition.specs.Catalogue.{component_row, is_component_of, under_type, under_schema, type_row, type_components, type_rows, adopted_row, adopted_rows}
use Rattle.definition.specs.Catalogue.{adopted, directive_row, directive_row_at, directive_rows, schema_components, schema_rows, rows}
use Rattle.definition.specs.LentRows.{is_type_row, row_order, row_place, in_order, order_passes}
use Rattle.definition.proofs.Tests.{and_true}
use Rattle.definition.proofs.Lists.{flat_map_nil, flat_map_cons, filter_nil, filter_none, filter_firsts, any_yes, firsts_nil, firsts_old, firsts_new}
use Rattle.definition.proofs.Lists.{any_nil}
use Rattle.definition.proofs.All.{all_append, all_filter, all_firsts, all_map, all_flat_map, all_every, all_to, all_with, filter_pass, any_none}
use Rattle.definition.proofs.PartKinds.{Fit, Kinded}
use Rattle.definition.proofs.BuiltRows.{listed_kind, part_rows, type_rows_are, adopted_parts, adopted_rows_are, adopted_of, adoptees, adoptees_extend}
use Rattle.definition.proofs.BuiltRows.{types_define, extension_row}

-- Whether a kind has a place under a row of kind k.
unfoldable pub allowed : ℕ → ℕ → Bool
allowed k j = ltb (row_place k j) (length (row_order k))

order_nil : (k p : ℕ) → in_order k p [] ≡ true
unfolding in_order
order_nil k p = refl

order_type : (k p : ℕ) (r : Row) (rs : List Row) → is_type_row r ≡ true → in_order k p (r ∷ rs) ≡ in_order r.what 0 rs
unfolding in_order
order_type k p r rs e = rw e

order_part : (k p : ℕ) (r : Row) (rs : List Row) → is_type_row r ≡ false → is_root r.what ≡ false → allowed k r.what ≡ true →
    leb p (row_place k r.what) ≡ true →
    in_order k p (r ∷ rs) ≡ in_order k (row_place k r.what) rs
unfolding in_order allowed
order_part k p r rs t o a l = rw (t, o, a, l)

order_root : (k p : ℕ) (r : Row) (rs : List Row) → is_type_row r ≡ false → allowed k r.what ≡ true → leb p (row_place k r.what) ≡ true →
    eqb p (row_place k r.what) ≡ false →
    in_order k p (r ∷ rs) ≡ in_order k (row_place k r.what) rs
unfolding in_order allowed
order_root k p r rs t a l n = go (is_root r.what) refl
  where
    go : (b : Bool) → is_root r.what ≡ b → in_order k p (r ∷ rs) ≡ in_order k (row_place k r.what) rs
    go true e = rw (t, e, a, l, n)
    go false e = rw (t, e, a, l)

-- Rows that may follow whatever stands before, and rows that may follow a place of at most q under a row of kind k.
abbrev pub Ends : List Row → Type 0
Ends rs = (k p : ℕ) → in_order k p rs ≡ true

abbrev Below : ℕ → ℕ → List Row → Type 0
Below k q rs = (p : ℕ) → p ≤ q → in_order k p rs ≡ true

run : (k j : ℕ) (xs ys : List Row) → is_type j ≡ false → is_root j ≡ false → allowed k j ≡ true → All (λ r. r.what ≡ j) xs →
    Below k (row_place k j) ys → Below k (row_place k j) (xs ++ ys)
unfolding is_type_row
run k j [] ys t o a e b = b
run k j (x ∷ xs) ys t o a e b = λ p l.
    let q = sym e.0 in
    order_part k p x (xs ++ ys) (subst (λ i. is_type i ≡ false) q t) (subst (λ i. is_root i ≡ false) q o) (subst (λ i. allowed k i ≡ true) q a)
    (subst (λ i. leb p (row_place k i) ≡ true) q (le-leb p (row_place k j) l))
    ∙ subst (λ i. in_order k (row_place k i) (xs ++ ys) ≡ true) q (run k j xs ys t o a e.1 b (row_place k j) (omega arith))

-- at most one row of a kind
abbrev Few : ℕ → List Row → Type 0
Few j [] = Unit {0}
Few j (r ∷ rs) = (r.what ≡ j) × (rs ≡ [])

root : (k j q : ℕ) (xs ys : List Row) → is_type j ≡ false → allowed k j ≡ true → Few j xs → q < row_place k j → Below k (row_place k j) ys → Below k q (xs ++ ys)
unfolding is_type_row
root k j q [] ys t a f l b = λ p m. b p (omega arith)
root k j q (r ∷ rs) ys t a f l b = λ p m.
    let s = sym f.0 in
    ap (λ x. in_order k p (r ∷ (x ++ ys))) f.1
    ∙ (order_root k p r ys (subst (λ i. is_type i ≡ false) s t) (subst (λ i. allowed k i ≡ true) s a)
    (subst (λ i. leb p (row_place k i) ≡ true) s (le-leb p (row_place k j) (omega arith)))
    (subst (λ i. eqb p (row_place k i) ≡ false) s (ne_eqb p (row_place k j) (omega arith)))
    ∙ subst (λ i. in_order k (row_place k i) ys ≡ true) s (b (row_place k j) (omega arith)))

-- The lists of kinds js under a row of kind k come in order.
unfoldable sorted : ℕ → ℕ → List ℕ → Bool
sorted k p [] = true
sorted k p (j ∷ js) =
    let list_of_kind : Bool = leb p (row_place k j) && sorted k (row_place k j) js in
    let empty = sorted k p js in
    choose (allowed k j) list_of_kind empty

sorted_in : (k p j : ℕ) (js : List ℕ) → allowed k j ≡ true → sorted k p (j ∷ js) ≡ (leb p (row_place k j) && sorted k (row_place k j) js)
unfolding sorted
sorted_in k p j js e = rw e

sorted_out : (k p j : ℕ) (js : List ℕ) → allowed k j ≡ false → sorted k p (j ∷ js) ≡ sorted k p js
unfolding sorted
sorted_out k p j js e = rw e

abbrev Plain : ℕ → Type 0
Plain j = (is_type j ≡ false) × (is_root j ≡ false)

-- Components of a type of kind k: each part is of the type's kinds.
abbrev pub Allowed : ℕ → Component → Type 0
Allowed k c = allowed k c.part.kind ≡ true

none_listed : (k j : ℕ) (cs : List Component) → All (Allowed k) cs → allowed k j ≡ false → list_of_kind cs j ≡ []
unfolding list_of_kind is_component_of
none_listed k j cs a n = ap (map component_row) (filter_none (is_component_of j) cs (any_none (is_component_of j) cs
    (all_to (Allowed k) (λ c. is_component_of j c ≡ false) (λ c e. go c e (eqb c.part.kind j) refl) cs a)))
  where
    go : (c : Component) → Allowed k c → (b : Bool) → eqb c.part.kind j ≡ b → is_component_of j c ≡ false
    go c e true q = let z : true ≡ false = sym e ∙ (ap (allowed k) (eqb-true c.part.kind j q) ∙ n) in cc
    go c e false q = q

order_lists : (k : ℕ) (cs : List Component) (ys : List Row) → All (Allowed k) cs → Ends ys → (js : List ℕ) → All Plain js → (p : ℕ) → sorted k p js ≡ true →
    Below k p (flat_map (list_of_kind cs) js ++ ys)
order_lists k cs ys a e [] f p s = λ q l. rw flat_map_nil (e k q)
order_lists k cs ys a e (j ∷ js) f p s = go (allowed k j) refl (λ q t. order_lists k cs ys a e js f.1 q t)
  where
    go : (b : Bool) → allowed k j ≡ b → ((q : ℕ) → sorted k q js ≡ true → Below k q (flat_map (list_of_kind cs) js ++ ys)) →
        Below k p (flat_map (list_of_kind cs) (j ∷ js) ++ ys)
    go true h ih =
        let (l, r) = and_true (leb p (row_place k j)) (sorted k (row_place k j) js) (sym (sorted_in k p j js h) ∙ s) in
        let w : flat_map (list_of_kind cs) (j ∷ js) ++ ys ≡ list_of_kind cs j ++ (flat_map (list_of_kind cs) js ++ ys) = simp (flat_map_cons, append_assoc) in
        let b = run k j (list_of_kind cs j) (flat_map (list_of_kind cs) js ++ ys) f.0.0 f.0.1 h (listed_kind cs j) (ih (row_place k j) r) in
        λ q m. ap (in_order k q) w ∙ b q (omega (arith, leb-true p (row_place k j) l))
    go false h ih =
        let w : flat_map (list_of_kind cs) (j ∷ js) ++ ys ≡ flat_map (list_of_kind cs) js ++ ys = simp (flat_map_cons, none_listed k j cs a h) in
        λ q m. ap (in_order k q) w ∙ ih p (sym (sorted_out k p j js h) ∙ s) q m

-- Six kinds of types.
pub type_cases : (P : ℕ → Type 0) → P 5 → P 6 → P 7 → P 8 → P 9 → P 10 → (k : ℕ) → is_type k ≡ true → P k
unfolding is_type
type_cases P p5 p6 p7 p8 p9 p10 k e =
    let (l, u) = and_true (leb 5 k) (leb k 10) e in
    let a = leb-true 5 k l in
    let b = leb-true k 10 u in
    go5 (eqb k 5) refl a b
  where
    go9 : (b : Bool) → eqb k 9 ≡ b → 9 ≤ k → k ≤ 10 → P k
    go9 true q a b = subst P (sym (eqb-true k 9 q)) p9
    go9 false q a b = let n = eqb-false k 9 q in let z : 10 ≡ k = omega arith in subst P z p10

    go8 : (b : Bool) → eqb k 8 ≡ b → 8 ≤ k → k ≤ 10 → P k
    go8 true q a b = subst P (sym (eqb-true k 8 q)) p8
    go8 false q a b = let n = eqb-false k 8 q in go9 (eqb k 9) refl (omega arith) b

    go7 : (b : Bool) → eqb k 7 ≡ b → 7 ≤ k → k ≤ 10 → P k
    go7 true q a b = subst P (sym (eqb-true k 7 q)) p7
    go7 false q a b = let n = eqb-false k 7 q in go8 (eqb k 8) refl (omega arith) b

    go6 : (b : Bool) → eqb k 6 ≡ b → 6 ≤ k → k ≤ 10 → P k
    go6 true q a b = subst P (sym (eqb-true k 6 q)) p6
    go6 false q a b = let n = eqb-false k 6 q in go7 (eqb k 7) refl (omega arith) b

    go5 : (b : Bool) → eqb k 5 ≡ b → 5 ≤ k → k ≤ 10 → P k
    go5 true q a b = subst P (sym (eqb-true k 5 q)) p5
    go5 false q a b = let n = eqb-false k 5 q in go6 (eqb k 6) refl (omega arith) b

sorted_types : (k : ℕ) → is_type k ≡ true → sorted k 0 under_type ≡ true
unfolding sorted under_type allowed row_order part_order place_in any
sorted_types = type_cases (λ k. sorted k 0 under_type ≡ true) refl refl refl refl refl refl

plain_types : All Plain under_type
unfolding under_type is_type is_root
plain_types = ((refl, refl), ((refl, refl), ((refl, refl), ((refl, refl), ((refl, refl), ((refl, refl), tt))))))

-- A type's rows, after whatever, and before whatever may follow a type.
pub type_order : (r : Row) (cs : List Component) (ys : List Row) → is_type_row r ≡ true → All (Allowed r.what) cs → Ends ys →
    Ends (r ∷ (flat_map (list_of_kind cs) under_type ++ ys))
unfolding is_type_row
type_order r cs ys t a e k p =
    order_type k p r (flat_map (list_of_kind cs) under_type ++ ys) t
    ∙ order_lists r.what cs ys a e under_type plain_types 0 (sorted_types r.what t) 0 (omega arith)

row_order_lem : (k : ℕ) → is_type k ≡ true → row_order k ≡ part_order k
unfolding row_order
row_order_lem = type_cases (λ k. row_order k ≡ part_order k) refl refl refl refl refl refl

extended_type : (k : ℕ) → is_type k ≡ true → definition_of k ≡ k
unfolding definition_of
extended_type = type_cases (λ k. definition_of k ≡ k) refl refl refl refl refl refl

extended_extension : (k : ℕ) → is_type k ≡ true → definition_of (k + 7) ≡ k
unfolding definition_of
extended_extension = type_cases (λ k. definition_of (k + 7) ≡ k) refl refl refl refl refl refl

fit_allowed : (k j i : ℕ) → is_type k ≡ true → definition_of j ≡ k → ltb (place_in (part_order (definition_of j)) i) (length (part_order (definition_of j))) ≡ true →
    allowed k i ≡ true
unfolding allowed
fit_allowed k j i t e f = rw (row_order_lem k t) (rw e at f)

of_heading : (k o : ℕ) (h : Heading) → is_type k ≡ true → definition_of h.kind ≡ k → Kinded h → All (Allowed k) (components o h)
unfolding components component
of_heading k o h t e f =
    all_map (Allowed k) (component o) h.parts (all_to (Fit h.kind) (λ p. allowed k p.kind ≡ true) (λ p x. fit_allowed k h.kind p.kind t e x)
    h.parts f)

of_extensions_lem : (k : ℕ) (j : ℕ) (n : List ℕ) → is_type k ≡ true → definition_of j ≡ k → (hs : List Heading) → All Kinded hs →
    All (Allowed k) (of_extensions (extensions_of j n hs))
unfolding of_extensions extensions_of own_components is_of is_kind
of_extensions_lem k j n t e hs a =
    all_flat_map (Allowed k) own_components (filter (is_of j n) hs)
    (all_with Kinded (λ h. is_of j n h ≡ true) (λ h. All (Allowed k) (own_components h))
    (λ h f i. of_heading k h.number h t (ap definition_of (eqb-true h.kind j (and_true (eqb h.kind j) (is_named n h) i).0) ∙ e) f)
    (filter (is_of j n) hs) (all_filter Kinded (is_of j n) hs a) (filter_pass (is_of j n) hs))

kept_all : (k : ℕ) (cs : List Component) → All (Allowed k) cs → All (Allowed k) (kept cs)
unfolding kept
kept_all k cs a = all_firsts (Allowed k) alike_components [] cs a

module _ (hs : List Heading) (kinded : All Kinded hs) where
  type_allowed : (d : Heading) → is_type_definition d ≡ true → Kinded d → All (Allowed d.kind) (kept (type_components hs d))
  unfolding type_components is_type_definition
  type_allowed d t f =
      kept_all d.kind (type_components hs d)
      (all_append (Allowed d.kind) (components absent d) (of_extensions (extensions_of (d.kind + 7) d.name hs))
      (of_heading d.kind absent d t (extended_type d.kind t) f)
      (of_extensions_lem d.kind (d.kind + 7) d.name t (extended_extension d.kind t) hs kinded))

  type_head : (d : Heading) → is_type_definition d ≡ true → Kinded d → (ys : List Row) → Ends ys → Ends (type_row d ∷ (part_rows hs d ++ ys))
  unfolding part_rows type_row is_type_definition is_type_row
  type_head d t f ys e = type_order (type_row d) (kept (type_components hs d)) ys t (type_allowed d t f) e

  types_order : (ds : List Heading) → All (λ d. is_type_definition d ≡ true) ds → All Kinded ds → (zs : List Row) → Ends zs →
      Ends (flat_map (type_rows hs) ds ++ zs)
  types_order [] t f zs e = rw flat_map_nil e
  types_order (d ∷ ds) t f zs e =
      let w : flat_map (type_rows hs) (d ∷ ds) ++ zs ≡ type_row d ∷ (part_rows hs d ++ (flat_map (type_rows hs) ds ++ zs)) =
      simp (flat_map_cons, type_rows_are, append_assoc) in
      rw w (type_head d t.0 f.0 (flat_map (type_rows hs) ds ++ zs) (types_order ds t.1 f.1 zs e))

  adopted_allowed : (g : Heading) → is_type_extension g ≡ true → All (Allowed (g.kind - 7)) (kept (of_extensions (extensions_of g.kind g.name hs)))
  unfolding is_type_extension definition_of is_type
  adopted_allowed g t =
      let (l, u) = and_true (leb 12 g.kind) (leb g.kind 17) t in
      let a = leb-true 12 g.kind l in
      let b = leb-true g.kind 17 u in
      let c : leb 5 (g.kind - 7) ≡ true = le-leb 5 (g.kind - 7) (omega arith) in
      let d : leb (g.kind - 7) 10 ≡ true = le-leb (g.kind - 7) 10 (omega arith) in
      let i : is_type (g.kind - 7) ≡ true = simp (c, d) in
      let e : definition_of g.kind ≡ g.kind - 7 = rw (le-leb 11 g.kind (omega arith)) in
      kept_all (g.kind - 7) (of_extensions (extensions_of g.kind g.name hs)) (of_extensions_lem (g.kind - 7) g.kind g.name i e hs kinded)

  adopted_head : (g : Heading) → is_type_extension g ≡ true → (ys : List Row) → Ends ys → Ends (adopted_row g ∷ (adopted_parts hs g ++ ys))
  unfolding adopted_parts adopted_row
  adopted_head g t ys e = type_order (adopted_row g) (kept (of_extensions (extensions_of g.kind g.name hs))) ys (extension_row g t) (adopted_allowed g t) e

  adopted_order : (gs : List Heading) → All (λ g. is_type_extension g ≡ true) gs → Ends (flat_map (adopted_rows hs) gs)
  adopted_order [] t = rw flat_map_nil order_nil
  adopted_order (g ∷ gs) t =
      let w : flat_map (adopted_rows hs) (g ∷ gs) ≡ adopted_row g ∷ (adopted_parts hs g ++ flat_map (adopted_rows hs) gs) = simp (flat_map_cons, adopted_rows_are) in
      rw w (adopted_head g t.0 (flat_map (adopted_rows hs) gs) (adopted_order gs t.1))

  -- All types, defined and adopted.
  all_types : (a : Bool) → Ends (flat_map (type_rows hs) (defined_types hs) ++ adopted a hs)
  unfolding defined_types
  all_types a =
      types_order (defined_types hs) (types_define hs)
      (all_firsts Kinded same_named [] (filter is_type_definition hs) (all_filter Kinded is_type_definition hs kinded)) (adopted a hs)
      (rw (adopted_of a hs) (adopted_order (adoptees a hs) (adoptees_extend a hs)))

-- Directive definitions.
directive_kind : (o : Option Heading) → All (λ r. r.what ≡ 3) (directive_row o)
unfolding directive_row
directive_kind none = tt
directive_kind (some d) = (refl, tt)

directive_kinds : (hs : List Heading) → All (λ r. r.what ≡ 3) (directive_rows hs)
unfolding directive_rows directive_row_at
directive_kinds hs =
    all_flat_map (λ r. r.what ≡ 3) (directive_row_at hs) (firsts same_named [] (directives hs))
    (all_every (λ h. All (λ r. r.what ≡ 3) (directive_row_at hs h)) (λ h. directive_kind (directive_named h.name hs)) (firsts same_named [] (directives hs)))

-- Each root at most once.
alike_kind : (k : ℕ) (x y : Component) → alike_components x y ≡ true → is_component_of k x ≡ is_component_of k y
unfolding alike_components alike is_component_of
alike_kind k x y e = ap (λ i. eqb i k) (eqb-true x.part.kind y.part.kind (and_true (eqb x.part.kind y.part.kind) _ e).0)

alike_roots : (k : ℕ) → is_root k ≡ true → (x y : Component) → is_component_of k x ≡ true → is_component_of k y ≡ true → alike_components x y ≡ true
unfolding alike_components alike is_component_of
alike_roots k r x y e f =
    let p = eqb-true x.part.kind k e in
    let q = eqb-true y.part.kind k f in
    let i : eqb x.part.kind y.part.kind ≡ true = eq-eqb x.part.kind y.part.kind (p ∙ sym q) in
    let o : is_root x.part.kind ≡ true = subst (λ j. is_root j ≡ true) (sym p) r in
    simp (i, o)

no_more : (k : ℕ) → is_root k ≡ true → (x : Component) → is_component_of k x ≡ true → (xs : List Component) → All (λ y. is_component_of k y ≡ true) xs →
    firsts alike_components (x ∷ []) xs ≡ []
no_more k r x e [] a = firsts_nil alike_components (x ∷ [])
no_more k r x e (y ∷ ys) a =
    firsts_old alike_components (x ∷ []) y ys (any_yes (alike_components y) x [] (alike_roots k r y x a.0 e)) ∙ no_more k r x e ys a.1

few_of : (k : ℕ) → is_root k ≡ true → (xs : List Component) → All (λ y. is_component_of k y ≡ true) xs → Few k (map component_row (firsts alike_components [] xs))
unfolding component_row is_component_of
few_of k r [] a = rw firsts_nil tt
few_of k r (x ∷ xs) a =
    let w : firsts alike_components [] (x ∷ xs) ≡ x ∷ [] =
    firsts_new alike_components [] x xs (any_nil (alike_components x)) ∙ ap (λ l. x ∷ l) (no_more k r x a.0 xs a.1) in
    rw w (eqb-true x.part.kind k a.0, refl)

few_roots : (k : ℕ) → is_root k ≡ true → (cs : List Component) → Few k (list_of_kind (kept cs) k)
unfolding list_of_kind kept
few_roots k r cs =
    rw (filter_firsts alike_components (is_component_of k) (alike_kind k) [] cs, filter_nil (is_component_of k))
    (few_of k r (filter (is_component_of k) cs) (filter_pass (is_component_of k) cs))

-- The rows after row 4.
schema_order : (cs : List Component) (ds ys : List Row) → All (λ r. r.what ≡ 3) ds → Ends ys →
    in_order 4 0 (flat_map (list_of_kind (kept cs)) under_schema ++ (ds ++ ys)) ≡ true
unfolding under_schema allowed row_order place_in any is_type is_root
schema_order cs ds ys a e =
    let l : ℕ → List Row = list_of_kind (kept cs) in
    let w : flat_map l (20 ∷ 26 ∷ 27 ∷ 28 ∷ []) ++ (ds ++ ys) ≡ l 20 ++ (l 26 ++ (l 27 ++ (l 28 ++ (ds ++ ys)))) =
    simp (flat_map_cons, flat_map_nil, append-nil, append_assoc) in
    let b4 : Below 4 4 (ds ++ ys) = run 4 3 ds ys refl refl refl a (λ p m. e 4 p) in
    let b3 : Below 4 2 (l 28 ++ (ds ++ ys)) = root 4 28 2 (l 28) (ds ++ ys) refl refl (few_roots 28 refl cs) (omega arith) (λ p m. b4 p (omega arith)) in
    let b2 : Below 4 1 (l 27 ++ (l 28 ++ (ds ++ ys))) = root 4 27 1 (l 27) (l 28 ++ (ds ++ ys)) refl refl (few_roots 27 refl cs) (omega arith) b3 in
    let b1 : Below 4 0 (l 26 ++ (l 27 ++ (l 28 ++ (ds ++ ys)))) =
    root 4 26 0 (l 26) (l 27 ++ (l 28 ++ (ds ++ ys))) refl refl (few_roots 26 refl cs) (omega arith) b2 in
    ap (in_order 4 0) w ∙ run 4 20 (l 20) (l 26 ++ (l 27 ++ (l 28 ++ (ds ++ ys)))) refl refl refl (listed_kind (kept cs) 20) b1 0 (omega arith)

-- Drawn rows are in the catalogue's order of kinds.
pub built_order : (ps : List NamedCard) (a : Bool) (hs : List Heading) → All Kinded hs → order_passes ps (rows a hs) ≡ true
unfolding order_passes rows schema_rows
built_order ps a hs kinded = schema_order (schema_components a hs) (directive_rows hs) (flat_map (type_rows hs) (defined_types hs) ++ adopted a hs)
    (directive_kinds hs) (all_types hs kinded a)
