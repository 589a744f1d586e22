-- The finished rows, searched for the part that stands: the row of a type, of an adopted type or of the schema holds the parts merged into it.
use mathlib.Core.Path.{◌≡◌, refl, sym, ◌∙◌, ap, subst}
use mathlib.Core.List.{List, [], ◌∷◌, ◌++◌, map, append_assoc, append-nil}
use mathlib.Core.Bool.{Bool, true, false, ◌&&◌}
use mathlib.Core.Option.{Option, none, some}
use Prim.Native.Nat.{ℕ, ◌+◌, ◌-◌, ◌≤◌, ◌<◌}
use native.Mathlib.Omega.{arith}
use lib.Dec.{eqb, leb, ltb}
use borrow.Author.Tests.{eqb-true, eqb-false, eq-eqb, ne_eqb, lt-ltb, le-ltb, leb-true}
use Rattle.definition.specs.Lists.{All, choose, filter, any, flat_map, firsts}
use Rattle.definition.specs.Answers.{absent}
use Rattle.definition.specs.Cards.{is_root, is_type}
use Rattle.definition.specs.Headings.{NamedCard, Heading, is_type_definition, is_type_extension, same_named, is_of, extensions_of, defined_types, is_orphan}
use Rattle.definition.specs.Headings.{orphans, directives, directive_named, schema_definition, number_of}
use Rattle.definition.specs.Catalogue.{Component, component, components, own_components, of_extensions, Row, row, part_in, kept, list_of_kind, under_type}
use Rattle.definition.specs.Catalogue.{under_schema, block, type_components, type_row, type_rows, adopted_row, adopted_rows, adopted, directive_row}
use Rattle.definition.specs.Catalogue.{directive_row_at, directive_rows, schema_components, schema_rows, rows}
use Rattle.from_ast_collisions.specs.Earlier.{View, stands_for, is_row_of, earlier_under}
use Rattle.definition.proofs.Lists.{flat_map_nil, flat_map_cons, any_nil, any_no}
use Rattle.definition.proofs.BuiltRows.{listed_kind, types_define, orphans_extend}
use Rattle.definition.proofs.Tests.{zero_one, and_true}
use Rattle.definition.proofs.All.{all_append, all_filter, all_firsts, all_map, all_flat_map, all_every, all_to}
use Rattle.from_ast_collisions.proofs.Earlier.{row_words, under_here, under_skip, Stops, in_block, Fresh, is_in, standing_among, Told, standing_listed}

-- ---- What is taken of headings.

-- The parts' names are told by their numbers.
abbrev pub PartTold : View → NamedCard → Type 0
PartTold v p = (p.number < v.used) × (v.name p.number ≡ p.name)

abbrev pub PartsTold : View → Heading → Type 0
PartsTold v h = All (PartTold v) h.parts

-- A heading is told by its number.
abbrev pub HeadingTold : (ℕ → Heading) → Heading → Type 0
HeadingTold at h = h ≡ at h.number

-- What stands for a part merged into the row of what k and card d is the first of the merged parts that is alike it.
abbrev pub Stands : View → List ℕ → List ℕ → ℕ → ℕ → List NamedCard → Type 0
Stands v words under k d ps =
    (x : NamedCard) → eqb x.kind 20 ≡ false → is_in x.kind under ≡ true → earlier_under k d (stands_for v x) words ≡ standing_among ps x

-- ---- Rows that the search passes over.

abbrev Other : ℕ → ℕ → Row → Type 0
Other k d r = is_row_of k d r.what r.card ≡ false

other_what : (k d : ℕ) (r : Row) → (r.what ≡ k → ⊥) → Other k d r
unfolding is_row_of
other_what k d r h = rw (ne_eqb r.what k h)

other_card : (k d : ℕ) (r : Row) → (r.card ≡ d → ⊥) → Other k d r
unfolding is_row_of
other_card k d r h = go (eqb r.what k) (ne_eqb r.card d h)
  where
    go : (b : Bool) → eqb r.card d ≡ false → (b && eqb r.card d) ≡ false
    go true e = e
    go false e = refl

this_row : (k d : ℕ) (r : Row) → r.what ≡ k → r.card ≡ d → is_row_of k d r.what r.card ≡ true
unfolding is_row_of
this_row k d r e f = rw (eq-eqb r.what k e, eq-eqb r.card d f)

-- What holds of a list of kinds holds of the rows listed.
lists_hold : (P : ℕ → Type 0) (cs : List Component) (js : List ℕ) → All P js → All (λ r. P r.what) (flat_map (list_of_kind cs) js)
lists_hold P cs js a =
    all_flat_map (λ r. P r.what) (list_of_kind cs) js
    (all_to P (λ k. All (λ r. P r.what) (list_of_kind cs k))
    (λ k e. all_to (λ r. r.what ≡ k) (λ r. P r.what) (λ r f. subst P (sym f) e) (list_of_kind cs k) (listed_kind cs k)) js a)

under_type_lem : All (λ j. 20 ≤ j) under_type
unfolding under_type
under_type_lem = (omega arith, (omega arith, (omega arith, (omega arith, (omega arith, (omega arith, tt))))))

under_schema_lem : All (λ j. 20 ≤ j) under_schema
unfolding under_schema
under_schema_lem = (omega arith, (omega arith, (omega arith, (omega arith, tt))))

pub fresh_type : Fresh under_type
unfolding under_type any
fresh_type = (refl, (refl, (refl, (refl, (refl, (refl, tt))))))

pub fresh_schema : Fresh under_schema
unfolding under_schema any
fresh_schema = (refl, (refl, (refl, (refl, tt))))

lists_pass : (k d : ℕ) → k < 20 → (cs : List Component) (js : List ℕ) → All (λ j. 20 ≤ j) js → All (Other k d) (flat_map (list_of_kind cs) js)
lists_pass k d h cs js a =
    all_to (λ r. 20 ≤ r.what) (Other k d) (λ r l. other_what k d r (λ e. omega arith)) (flat_map (list_of_kind cs) js) (lists_hold (λ j. 20 ≤ j) cs js a)

lists_part : (cs : List Component) (js : List ℕ) → All (λ j. 20 ≤ j) js → All (λ r. ltb r.what 20 ≡ false) (flat_map (list_of_kind cs) js)
lists_part cs js a =
    all_to (λ r. 20 ≤ r.what) (λ r. ltb r.what 20 ≡ false) (λ r l. le-ltb r.what 20 l) (flat_map (list_of_kind cs) js) (lists_hold (λ j. 20 ≤ j) cs js a)

-- ---- Where the lists under a row end.

stops_append : (xs ys : List Row) → Stops xs → Stops ys → Stops (xs ++ ys)
stops_append [] ys a b = b
stops_append (x ∷ xs) ys a b = a

stops_flat : (f : Heading → List Row) (ds : List Heading) (zs : List Row) → All (λ e. Stops (f e)) ds → Stops zs → Stops (flat_map f ds ++ zs)
stops_flat f [] zs a s = rw (flat_map_nil f) s
stops_flat f (d ∷ ds) zs a s =
    rw (flat_map_cons f d ds, append_assoc (f d) (flat_map f ds) zs) (stops_append (f d) (flat_map f ds ++ zs) a.0 (stops_flat f ds zs a.1 s))

-- ---- One row with its lists.

module _ (v : View) (js : List ℕ) (fresh : Fresh js) (high : All (λ j. 20 ≤ j) js) (r : Row) (cs : List Component) (zs : List Row) (stops : Stops zs) where
  pub row_stands : (x : NamedCard) → eqb x.kind 20 ≡ false → is_in x.kind js ≡ true → All (Told v x) cs →
      earlier_under r.what r.card (stands_for v x) (row_words (r ∷ (flat_map (list_of_kind (kept cs)) js ++ zs))) ≡ standing_among (map part_in cs) x
  row_stands x plain i told =
      under_here r.what r.card (stands_for v x) r (flat_map (list_of_kind (kept cs)) js ++ zs) (this_row r.what r.card r refl refl)
      ∙ (in_block (stands_for v x) (flat_map (list_of_kind (kept cs)) js) zs (lists_part (kept cs) js high) stops
      ∙ standing_listed v x plain cs told js fresh i)

-- ---- Blocks of types, one after another: `head` makes a heading's row, `merged` the components under it.

abbrev block_by : (Heading → Row) → (Heading → List Component) → Heading → List Row
block_by head merged e = block (head e) (kept (merged e))

module _ (v : View) (at : ℕ → Heading) (head : Heading → Row) (merged : Heading → List Component) (carded : (e : Heading) → (head e).card ≡ e.number) where
  abbrev block_of : Heading → List Row
  block_of = block_by head merged

  block_is : (e : Heading) (zs : List Row) → block_of e ++ zs ≡ head e ∷ (flat_map (list_of_kind (kept (merged e))) under_type ++ zs)
  unfolding block
  block_is e zs = refl

  block_other : (k d : ℕ) → k < 20 → (e : Heading) → (e.number ≡ d → ⊥) → All (Other k d) (block_of e)
  unfolding block
  block_other k d h e n =
      (other_card k d (head e) (λ q. n (sym (carded e) ∙ q)), lists_pass k d h (kept (merged e)) under_type under_type_lem)

  blocks_other : (k d : ℕ) → k < 20 → (ds : List Heading) → All (λ e. e.number ≡ d → ⊥) ds → All (Other k d) (flat_map block_of ds)
  blocks_other k d h ds a =
      all_flat_map (Other k d) block_of ds (all_to (λ e. e.number ≡ d → ⊥) (λ e. All (Other k d) (block_of e)) (λ e n. block_other k d h e n) ds a)

  blocks_stop : (ds : List Heading) (zs : List Row) → All (λ e. ltb (head e).what 20 ≡ true) ds → Stops zs → Stops (flat_map block_of ds ++ zs)
  unfolding block
  blocks_stop ds zs a s = stops_flat block_of ds zs a s

  module _ (d : Heading) (own : HeadingTold at d) (low : (head d).what < 20) (x : NamedCard) (plain : eqb x.kind 20 ≡ false)
      (inside : is_in x.kind under_type ≡ true)
      (told : All (Told v x) (merged d)) where
    blocks_stand : (ds : List Heading) (zs : List Row) → All (HeadingTold at) ds → All (λ e. ltb (head e).what 20 ≡ true) ds → Stops zs →
        any (λ e. eqb e.number d.number) ds ≡ true →
        earlier_under (head d).what d.number (stands_for v x) (row_words (flat_map block_of ds ++ zs)) ≡ standing_among (map part_in (merged d)) x
    blocks_stand [] zs a l s h = let z : false ≡ true = sym (any_nil (λ e. eqb e.number d.number)) ∙ h in absurd (zero_one cc)
    blocks_stand (e ∷ ds) zs a l s h = go (eqb e.number d.number) refl (blocks_stand ds zs a.1 l.1 s)
      where
        rest : List Row
        rest = flat_map block_of ds ++ zs

        shape : flat_map block_of (e ∷ ds) ++ zs ≡ block_of e ++ rest
        shape = rw (flat_map_cons block_of e ds) (append_assoc (block_of e) (flat_map block_of ds) zs)

        go : (b : Bool) → eqb e.number d.number ≡ b →
            (any (λ e. eqb e.number d.number) ds ≡ true →
            earlier_under (head d).what d.number (stands_for v x) (row_words (flat_map block_of ds ++ zs)) ≡ standing_among (map part_in (merged d)) x) →
            earlier_under (head d).what d.number (stands_for v x) (row_words (flat_map block_of (e ∷ ds) ++ zs)) ≡ standing_among (map part_in (merged d)) x
        go true t ih =
            let n : e.number ≡ d.number = eqb-true e.number d.number t in
            let q : e ≡ d = a.0 ∙ (ap at n ∙ sym own) in
            ap (λ l. earlier_under (head d).what d.number (stands_for v x) (row_words l)) (shape ∙ (ap (λ f. block_of f ++ rest) q ∙ block_is d rest))
            ∙ (ap (λ c. earlier_under (head d).what c (stands_for v x)
            (row_words (head d ∷ (flat_map (list_of_kind (kept (merged d))) under_type ++ rest)))) (sym (carded d))
            ∙ row_stands v under_type fresh_type under_type_lem (head d) (merged d) rest (blocks_stop ds zs l.1 s) x plain inside told)
        go false t ih =
            ap (λ l. earlier_under (head d).what d.number (stands_for v x) (row_words l)) shape
            ∙ (under_skip (head d).what d.number (stands_for v x) (block_of e) rest
            (block_other (head d).what d.number low e (eqb-false e.number d.number t))
            ∙ ih (sym (any_no (λ e. eqb e.number d.number) e ds t) ∙ h))

-- ---- Kinds of the headings that have rows.

pub defines_kind : (d : Heading) → is_type_definition d ≡ true → (5 ≤ d.kind) × (d.kind ≤ 10)
unfolding is_type_definition is_type
defines_kind d e = let (l, u) = and_true (leb 5 d.kind) (leb d.kind 10) e in (leb-true 5 d.kind l, leb-true d.kind 10 u)

pub extends_kind : (g : Heading) → is_type_extension g ≡ true → (12 ≤ g.kind) × (g.kind ≤ 17)
unfolding is_type_extension
extends_kind g e = let (l, u) = and_true (leb 12 g.kind) (leb g.kind 17) e in (leb-true 12 g.kind l, leb-true g.kind 17 u)

-- ---- Components whose names are told.

told_of : (v : View) (x : NamedCard) (o : ℕ) (p : NamedCard) → PartTold v p → Told v x (component o p)
unfolding component
told_of v x o p t = rw (lt-ltb p.number v.used t.0, t.1)

told_components : (v : View) (x : NamedCard) (o : ℕ) (h : Heading) → PartsTold v h → All (Told v x) (components o h)
unfolding components
told_components v x o h a =
    all_map (Told v x) (component o) h.parts (all_to (PartTold v) (λ p. Told v x (component o p)) (told_of v x o) h.parts a)

told_extensions : (v : View) (x : NamedCard) (es : List Heading) → All (PartsTold v) es → All (Told v x) (of_extensions es)
unfolding of_extensions own_components
told_extensions v x es a =
    all_flat_map (Told v x) own_components es
    (all_to (PartsTold v) (λ e. All (Told v x) (own_components e)) (λ e t. told_components v x e.number e t) es a)

-- ---- Types.

module _ (v : View) (at : ℕ → Heading) (a : Bool) (hs : List Heading) (told : All (HeadingTold at) hs) (named : All (PartsTold v) hs) where
  abbrev adoptees : List Heading
  adoptees = firsts same_named [] (orphans hs)

  adoptees_told : All (HeadingTold at) adoptees
  unfolding orphans
  adoptees_told = all_firsts (HeadingTold at) same_named [] (orphans hs) (all_filter (HeadingTold at) (is_orphan hs) hs told)

  adoptees_extend : All (λ g. is_type_extension g ≡ true) adoptees
  adoptees_extend = all_firsts (λ g. is_type_extension g ≡ true) same_named [] (orphans hs) (orphans_extend hs)

  types_told : All (HeadingTold at) (defined_types hs)
  unfolding defined_types
  types_told = all_firsts (HeadingTold at) same_named [] (filter is_type_definition hs) (all_filter (HeadingTold at) is_type_definition hs told)

  types_low : All (λ e. ltb (type_row e).what 20 ≡ true) (defined_types hs)
  unfolding type_row
  types_low =
      all_to (λ e. is_type_definition e ≡ true) (λ e. ltb e.kind 20 ≡ true) (λ e d. let k = defines_kind e d in lt-ltb e.kind 20 (omega arith))
      (defined_types hs) (types_define hs)

  adoptees_low : All (λ g. ltb (adopted_row g).what 20 ≡ true) adoptees
  unfolding adopted_row
  adoptees_low =
      all_to (λ g. is_type_extension g ≡ true) (λ g. ltb (g.kind - 7) 20 ≡ true) (λ g d. let k = extends_kind g d in
      lt-ltb (g.kind - 7) 20 (omega arith)) adoptees adoptees_extend

  merged_adopted : Heading → List Component
  merged_adopted g = of_extensions (extensions_of g.kind g.name hs)

  adopted_stops : Stops (adopted a hs)
  unfolding adopted adopted_rows merged_adopted adopted_row
  adopted_stops = go a
    where
      go : (b : Bool) → Stops (choose b (flat_map (adopted_rows hs) adoptees) [])
      go true = rw (sym (append-nil (flat_map (adopted_rows hs) adoptees))) (blocks_stop v at adopted_row merged_adopted (λ e. refl) adoptees [] adoptees_low tt)
      go false = tt

  types_stop : (zs : List Row) → Stops zs → Stops (flat_map (type_rows hs) (defined_types hs) ++ zs)
  unfolding type_rows type_row
  types_stop zs s = blocks_stop v at type_row (type_components hs) (λ e. refl) (defined_types hs) zs types_low s

  directives_stop : (zs : List Row) → Stops zs → Stops (directive_rows hs ++ zs)
  unfolding directive_rows directive_row_at
  directives_stop zs s =
      stops_flat (directive_row_at hs) (firsts same_named [] (directives hs)) zs
      (all_every (λ h. Stops (directive_row_at hs h)) (λ h. one (directive_named h.name hs)) (firsts same_named [] (directives hs))) s
    where
      one : (o : Option Heading) → Stops (directive_row o)
      one none = unfold directive_row in tt
      one (some d) = unfold directive_row in refl

  -- Past the schema and the directive definitions, for a row of what 5 to 10.
  schema_other : (k d : ℕ) → 5 ≤ k → k ≤ 10 → All (Other k d) (schema_rows a hs)
  unfolding schema_rows
  schema_other k d l u = (
    other_what k d (row 4 (number_of (schema_definition hs)) absent) (λ e. omega arith),
    lists_pass k d (omega arith) (kept (schema_components a hs)) under_schema under_schema_lem,
  )

  directives_other : (k d : ℕ) → 5 ≤ k → All (Other k d) (directive_rows hs)
  unfolding directive_rows directive_row_at
  directives_other k d l =
      all_flat_map (Other k d) (directive_row_at hs) (firsts same_named [] (directives hs))
      (all_every (λ h. All (Other k d) (directive_row_at hs h)) (λ h. one (directive_named h.name hs)) (firsts same_named [] (directives hs)))
    where
      one : (o : Option Heading) → All (Other k d) (directive_row o)
      one none = unfold directive_row in tt
      one (some e) = unfold directive_row in (other_what k d (row 3 e.number absent) (λ q. omega arith), tt)

  to_types : (k d : ℕ) (test : ℕ → ℕ → Bool) → 5 ≤ k → k ≤ 10 →
      earlier_under k d test (row_words (rows a hs)) ≡ earlier_under k d test (row_words (flat_map (type_rows hs) (defined_types hs) ++ adopted a hs))
  unfolding rows
  to_types k d test l u =
      under_skip k d test (schema_rows a hs) (directive_rows hs ++ (flat_map (type_rows hs) (defined_types hs) ++ adopted a hs)) (schema_other k d l u)
      ∙ under_skip k d test (directive_rows hs) (flat_map (type_rows hs) (defined_types hs) ++ adopted a hs) (directives_other k d l)

  -- A type that a definition brings.
  pub type_stands : (d : Heading) → is_type_definition d ≡ true → HeadingTold at d → PartsTold v d →
      any (λ e. eqb e.number d.number) (defined_types hs) ≡ true →
      Stands v (row_words (rows a hs)) under_type d.kind d.number (map part_in (type_components hs d))
  unfolding type_rows type_row type_components extensions_of
  type_stands d e own parts h x plain inside =
      let k = defines_kind d e in
      to_types d.kind d.number (stands_for v x) k.0 k.1
      ∙ blocks_stand v at type_row (type_components hs) (λ e. refl) d own (omega arith) x plain inside
      (all_append (Told v x) (components absent d) _ (told_components v x absent d parts)
      (told_extensions v x (extensions_of (d.kind + 7) d.name hs) (all_filter (PartsTold v) (is_of (d.kind + 7) d.name) hs named)))
      (defined_types hs) (adopted a hs) types_told types_low adopted_stops h

  -- An adopted type.
  types_others : (g : Heading) → is_type_extension g ≡ true → HeadingTold at g → All (λ e. e.number ≡ g.number → ⊥) (defined_types hs)
  types_others g x own = each (defined_types hs) (types_define hs) types_told
    where
      each : (ds : List Heading) → All (λ e. is_type_definition e ≡ true) ds → All (HeadingTold at) ds → All (λ e. e.number ≡ g.number → ⊥) ds
      each [] a b = tt
      each (e ∷ ds) a b = (differ, each ds a.1 b.1)
        where
          differ : e.number ≡ g.number → ⊥
          differ q =
              let s : e ≡ g = b.0 ∙ (ap at q ∙ sym own) in
              let k : e.kind ≡ g.kind = ap (λ (h : Heading). h.kind) s in
              let m = defines_kind e a.0 in
              let n = extends_kind g x in
              omega arith

  pub adopted_stands : a ≡ true → (g : Heading) → is_type_extension g ≡ true → HeadingTold at g → any (λ e. eqb e.number g.number) adoptees ≡ true →
      Stands v (row_words (rows a hs)) under_type (g.kind - 7) g.number (map part_in (of_extensions (extensions_of g.kind g.name hs)))
  unfolding type_rows type_row adopted adopted_rows adopted_row merged_adopted extensions_of
  adopted_stands on g e own h x plain inside =
      let k = extends_kind g e in
      to_types (g.kind - 7) g.number (stands_for v x) (omega arith) (omega arith)
      ∙ (under_skip (g.kind - 7) g.number (stands_for v x) (flat_map (type_rows hs) (defined_types hs)) (adopted a hs)
      (blocks_other v at type_row (type_components hs) (λ e. refl) (g.kind - 7) g.number (omega arith) (defined_types hs) (types_others g e own))
      ∙ (ap (λ l. earlier_under (g.kind - 7) g.number (stands_for v x) (row_words l)) (ap (λ b. choose b (flat_map (adopted_rows hs) adoptees) []) on
      ∙ sym (append-nil (flat_map (adopted_rows hs) adoptees)))
      ∙ blocks_stand v at adopted_row merged_adopted (λ e. refl) g own (omega arith) x plain inside
      (told_extensions v x (extensions_of g.kind g.name hs) (all_filter (PartsTold v) (is_of g.kind g.name) hs named))
      adoptees [] adoptees_told adoptees_low tt h))

  -- The schema: its parts that collide are roots, which are told by their kinds alone.
  root_in : (x : NamedCard) → eqb x.kind 20 ≡ false → is_in x.kind under_schema ≡ true → is_root x.kind ≡ true
  unfolding under_schema any is_root
  root_in x plain h = go (eqb 20 x.kind) (eqb 26 x.kind) (eqb 27 x.kind) (eqb 28 x.kind) refl refl refl refl h
    where
      go : (p q r s : Bool) → eqb 20 x.kind ≡ p → eqb 26 x.kind ≡ q → eqb 27 x.kind ≡ r → eqb 28 x.kind ≡ s →
          choose p true (choose q true (choose r true (choose s true false))) ≡ true → is_root x.kind ≡ true
      go true q r s e f g i h = absurd (eqb-false x.kind 20 plain (sym (eqb-true 20 x.kind e)))
      go false true r s e f g i h = unfold is_root in rw (sym (eqb-true 26 x.kind f))
      go false false true s e f g i h = unfold is_root in rw (sym (eqb-true 27 x.kind g))
      go false false false true e f g i h = unfold is_root in rw (sym (eqb-true 28 x.kind i))
      go false false false false e f g i h = let z : false ≡ true = h in absurd (zero_one cc)

  -- The row 4, its lists and what follows.
  abbrev pub after_schema : List Row
  after_schema = directive_rows hs ++ (flat_map (type_rows hs) (defined_types hs) ++ adopted a hs)

  pub after_stops : Stops after_schema
  after_stops = directives_stop (flat_map (type_rows hs) (defined_types hs) ++ adopted a hs) (types_stop (adopted a hs) adopted_stops)

  pub schema_shape : rows a hs ≡ row 4 (number_of (schema_definition hs)) absent ∷
      (flat_map (list_of_kind (kept (schema_components a hs))) under_schema ++ after_schema)
  unfolding rows schema_rows
  schema_shape = refl

  pub schema_lists : All (λ r. ltb r.what 20 ≡ false) (flat_map (list_of_kind (kept (schema_components a hs))) under_schema)
  schema_lists = lists_part (kept (schema_components a hs)) under_schema under_schema_lem

  pub schema_stands : Stands v (row_words (rows a hs)) under_schema 4 (number_of (schema_definition hs)) (map part_in (schema_components a hs))
  schema_stands x plain inside =
      ap (λ l. earlier_under 4 (number_of (schema_definition hs)) (stands_for v x) (row_words l)) schema_shape
      ∙ row_stands v under_schema fresh_schema under_schema_lem (row 4 (number_of (schema_definition hs)) absent) (schema_components a hs) after_schema
      after_stops x plain inside
      (all_every (Told v x) (λ c. simp (root_in x plain inside)) (schema_components a hs))
