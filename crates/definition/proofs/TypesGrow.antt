-- What an earlier drawing shows of the types that definitions bring, a later one shows too. The statements speak of rows alone; `ps` and `ps'` are
-- the cards that the two stores hold.
use mathlib.Core.Path.{◌≡◌, refl, sym, ◌∙◌, ap}
use mathlib.Core.Logic.{◌⊎◌, inl, inr}
use mathlib.Core.List.{List, [], ◌++◌, map}
use mathlib.Core.Bool.{Bool, true, false, ◌&&◌}
use mathlib.Core.Option.{Option, none, some}
use Prim.Native.Nat.{ℕ, ◌+◌}
use lib.Dec.{leb}
use lib.ListN.{length, length-map}
use Rattle.definition.specs.Lists.{All, Prefix, choose, found, filter, any, find, take_until, flat_map, firsts}
use Rattle.definition.specs.Names.{same_name, bytes}
use Rattle.definition.specs.Answers.{absent, Found, NoSuchField}
use Rattle.definition.specs.Headings.{Heading, NamedCard, is_type_definition, is_named, same_named, extensions_of, is_of, definition, defines_type, defined_types}
use Rattle.definition.specs.Catalogue.{Component, Row, alike_components, component, components, own_components, of_extensions, kept, list_of_kind}
use Rattle.definition.specs.Catalogue.{component_row, is_component_of, under_type, type_row, type_components, adopted_row, rows}
use Rattle.definition.specs.declared.FieldFound.{FieldFound}
use Rattle.definition.specs.declared.FieldFound.TheVariants.{Explicit, Typename, Schema, «Type» as MetaType}
use Rattle.definition.specs.LentRows.{is_type_row, is_row_named, is_type_row_named, name_numbered}
use Rattle.definition.specs.Lookups.{Block, is_block_named, type_named, is_row_of, is_part_named, is_query_root, meta_field, field_of, field_named, lists, subtype_of}
use Rattle.definition.specs.Lookups.{is_subtype_of}
use Rattle.definition.specs.Growth.{place_of, list_in, list_of}
use Rattle.definition.proofs.Tests.{and_true}
use Rattle.definition.proofs.Lists.{first_append_some, first_map_some, first_both, any_both, any_append, before_append, before_both, before_map}
use Rattle.definition.proofs.All.{all_append, all_left, all_filter, all_firsts, all_map, all_flat_map, all_every, all_to, all_with, first_cong, any_cong}
use Rattle.definition.proofs.All.{before_cong, all_found}
use Rattle.definition.proofs.AddedHeadings.{types_grow, added, lists_grow, definition_stays}
use Rattle.definition.proofs.DocumentHeadings.{Named}
use Rattle.definition.proofs.BuiltRows.{part_rows, list_under, adopted_parts, type_block, adopted_block, adoptees, built_blocks, row_named}
use Rattle.definition.proofs.BuiltTypes.{among_types, named_types, built_types, in_types}

-- What holds of the numbers of all parts holds of the cards under a type.
module _ (P : ℕ → Type 0) where
  abbrev pub OfParts : Heading → Type 0
  OfParts h = All (λ p. P p.number) h.parts

  of_components : (o : ℕ) (h : Heading) → OfParts h → All (λ c. P c.part.number) (components o h)
  unfolding components component
  of_components o h a = all_map (λ c. P c.part.number) (component o) h.parts a

  of_extensions_lem : (k : ℕ) (n : List ℕ) (hs : List Heading) → All OfParts hs → All (λ c. P c.part.number) (of_extensions (extensions_of k n hs))
  unfolding of_extensions extensions_of own_components
  of_extensions_lem k n hs a =
      all_flat_map (λ c. P c.part.number) own_components (filter (is_of k n) hs)
      (all_to OfParts (λ h. All (λ c. P c.part.number) (own_components h)) (λ h b. of_components _ h b) (filter (is_of k n) hs)
      (all_filter OfParts (is_of k n) hs a))

  of_listed : (cs : List Component) (k : ℕ) → All (λ c. P c.part.number) cs → All (λ r. P r.card) (list_of_kind cs k)
  unfolding list_of_kind component_row
  of_listed cs k a = all_map (λ r. P r.card) component_row (filter (is_component_of k) cs) (all_filter (λ c. P c.part.number) (is_component_of k) cs a)

  of_block : (cs : List Component) → All (λ c. P c.part.number) cs → All (λ r. P r.card) (flat_map (list_of_kind (kept cs)) under_type)
  unfolding kept
  of_block cs a =
      all_flat_map (λ r. P r.card) (list_of_kind (kept cs)) under_type
      (all_every (λ k. All (λ r. P r.card) (list_of_kind (kept cs) k))
      (λ k. of_listed (kept cs) k (all_firsts (λ c. P c.part.number) alike_components [] cs a)) under_type)

  pub of_rows : (hs : List Heading) (d : Heading) → All OfParts hs → OfParts d → All (λ r. P r.card) (part_rows hs d)
  unfolding part_rows type_components
  of_rows hs d a e =
      of_block (type_components hs d) (all_append (λ c. P c.part.number) (components absent d) (of_extensions (extensions_of (d.kind + 7) d.name hs))
      (of_components absent d e) (of_extensions_lem (d.kind + 7) d.name hs a))

  pub of_adopted_lem : (hs : List Heading) (g : Heading) → All OfParts hs → All (λ r. P r.card) (adopted_parts hs g)
  unfolding adopted_parts
  of_adopted_lem hs g a = of_block (of_extensions (extensions_of g.kind g.name hs)) (of_extensions_lem g.kind g.name hs a)

-- Each list of a type begins with what it was, and then holds cards of the added headings.
pub parts_grow : (P : ℕ → Type 0) (hs more : List Heading) (d : Heading) (k : ℕ) → All (OfParts P) more →
    (new : List Row) × (filter (is_row_of k) (part_rows (hs ++ more) d) ≡ filter (is_row_of k) (part_rows hs d) ++ new) × All (λ r. P r.card) new
unfolding added
parts_grow P hs more d k a = go (list_under k)
  where
    go : ((hs : List Heading) (d : Heading) → filter (is_row_of k) (part_rows hs d) ≡ []) ⊎
        ((hs : List Heading) (d : Heading) → filter (is_row_of k) (part_rows hs d) ≡ list_of_kind (kept (type_components hs d)) k) →
        (new : List Row) × (filter (is_row_of k) (part_rows (hs ++ more) d) ≡ filter (is_row_of k) (part_rows hs d) ++ new) × All (λ r. P r.card) new
    go (inl e) = ([], simp e, tt)
    go (inr e) = (
      list_of_kind (added hs more d) k,
      simp e (lists_grow hs more d k),
      of_listed P (added hs more d) k (all_firsts (λ c. P c.part.number) alike_components (kept (type_components hs d))
          (of_extensions (extensions_of (d.kind + 7) d.name more)) (of_extensions_lem P (d.kind + 7) d.name more a)),
    )

-- One drawing: a type that a definition brings is found with its block, at its place.
module _ (ps : List NamedCard) (n : List ℕ) (a : Bool) (hs : List Heading) (named : All (Named ps) hs) (d : Heading) (h : definition n hs ≡ some d) where
  pub block_found : type_named ps (rows a hs) n ≡ some (type_block hs d)
  unfolding type_named is_block_named type_block
  block_found =
      ap (find (is_block_named ps n)) (built_blocks a hs)
      ∙ first_append_some (is_block_named ps n) (map (type_block hs) (defined_types hs)) (map (adopted_block hs) (adoptees a hs)) (type_block hs d)
      (first_map_some (is_block_named ps n) (type_block hs) (defined_types hs) d (in_types ps n a hs named ∙ h))

  pub place_found : place_of ps (rows a hs) n ≡ length (take_until (is_named n) (defined_types hs))
  unfolding place_of is_type_row_named
  place_found =
      let f : find (is_row_named ps n) (map type_row (defined_types hs)) ≡ some (type_row d) =
      first_map_some (is_row_named ps n) type_row (defined_types hs) d (in_types ps n a hs named ∙ h) in
      ap length (before_both is_type_row (is_row_named ps n) (rows a hs))
      ∙ (ap (λ l. length (take_until (is_row_named ps n) l)) (built_types a hs)
      ∙ (ap length (before_append (is_row_named ps n) (map type_row (defined_types hs)) (map adopted_row (adoptees a hs)) (type_row d) f)
      ∙ (ap length (before_map (is_row_named ps n) type_row (defined_types hs))
      ∙ (length-map (take_until (λ d. is_row_named ps n (type_row d)) (defined_types hs)) type_row
      ∙ ap length (before_cong (λ d. is_row_named ps n (type_row d)) (is_named n) (defined_types hs)
      (all_to (Named ps) (λ d. is_row_named ps n (type_row d) ≡ is_named n d) (row_named ps n) (defined_types hs) (named_types ps n a hs named)))))))

  pub list_found : (k : ℕ) → list_of ps (rows a hs) n k ≡ filter (is_row_of k) (part_rows hs d)
  unfolding list_of list_in type_block
  list_found k = rw block_found

-- The answers of a found type. A meta field is no explicit one.
no_explicit : (ps : List NamedCard) (rs : List Row) (k : ℕ) (n f : List ℕ) (c : ℕ) → meta_field ps rs k n f ≡ some (Explicit c) → ⊥
unfolding meta_field
no_explicit ps rs k n f c e =
    go (leb 6 k && leb k 8 && same_name f (bytes "__typename")) (is_query_root ps rs n && same_name f (bytes "__schema"))
    (is_query_root ps rs n && same_name f (bytes "__type")) e
  where
    go : (u v w : Bool) → choose u (some Typename) (choose v (some Schema) (choose w (some MetaType) none)) ≡ some (Explicit c) → ⊥
    go true v w e = let z : some Typename ≡ some (Explicit c) = e in cc
    go false true w e = let z : some Schema ≡ some (Explicit c) = e in cc
    go false false true e = let z : some MetaType ≡ some (Explicit c) = e in cc
    go false false false e = let z : none ≡ some (Explicit c) = e in cc

explicit_of : (ps : List NamedCard) (rs : List Row) (n f : List ℕ) (b : Block) (c : ℕ) → field_of ps rs n f b ≡ Found (Explicit c) →
    (r : Row) × (find (is_part_named ps 22 f) b.parts ≡ some r) × (r.card ≡ c)
unfolding field_of
explicit_of ps rs n f b c e = go (find (is_part_named ps 22 f) b.parts) (meta_field ps rs b.head.what n f) refl refl
  where
    go : (o : Option Row) (m : Option FieldFound) → find (is_part_named ps 22 f) b.parts ≡ o → meta_field ps rs b.head.what n f ≡ m →
        (r : Row) × (find (is_part_named ps 22 f) b.parts ≡ some r) × (r.card ≡ c)
    go (some r) m o i = let z : Found (Explicit r.card) ≡ Found (Explicit c) = rw o at e in (r, o, cc)
    go none (some m) o i =
        let z : Found m ≡ Found (Explicit c) = rw (o, i) at e in
        let q : m ≡ Explicit c = cc in
        absurd (no_explicit ps rs b.head.what n f c (i ∙ ap some q))
    go none none o i = let z : NoSuchField b.head.card ≡ Found (Explicit c) = rw (o, i) at e in absurd cc

of_explicit : (ps : List NamedCard) (rs : List Row) (n f : List ℕ) (b : Block) (r : Row) → find (is_part_named ps 22 f) b.parts ≡ some r →
    field_of ps rs n f b ≡ Found (Explicit r.card)
unfolding field_of
of_explicit ps rs n f b r e = rw e

-- Two drawings.
module _ (ps ps' : List NamedCard) (a b : Bool) (hs more : List Heading) (named : All (Named ps) hs) (named' : All (Named ps') (hs ++ more)) where
  module _ (n : List ℕ) (d : Heading) (h : definition n hs ≡ some d) where
    later : definition n (hs ++ more) ≡ some d
    later = definition_stays n hs more d h

    pub place_stays : place_of ps (rows a hs) n ≡ place_of ps' (rows b (hs ++ more)) n
    place_stays =
        place_found ps n a hs named d h
        ∙ (sym (ap length (ap (take_until (is_named n)) (types_grow hs more)
        ∙ before_append (is_named n) (defined_types hs) (firsts same_named (defined_types hs) (filter is_type_definition more)) d (among_types ps n a hs named ∙ h)))
        ∙ sym (place_found ps' n b (hs ++ more) named' d later))

    lists_begin : (k : ℕ) → Prefix (filter (is_row_of k) (part_rows hs d)) (filter (is_row_of k) (part_rows (hs ++ more) d))
    lists_begin k =
        let g = parts_grow (λ i. Unit {0}) hs more d k (all_every (OfParts (λ i. Unit {0})) (λ h. all_every (λ p. Unit {0}) (λ p. tt) h.parts) more) in
        (g.0, g.1)

    pub lists_stay : (k : ℕ) → Prefix (list_of ps (rows a hs) n k) (list_of ps' (rows b (hs ++ more)) n k)
    lists_stay k =
        let g = lists_begin k in
        (g.0, list_found ps' n b (hs ++ more) named' d later k ∙ (g.1 ∙ ap (λ l. l ++ g.0) (sym (list_found ps n a hs named d h k))))

    -- The two stores give the parts under it the same names.
    agree : (k : ℕ) → All (λ r. name_numbered ps r.card ≡ name_numbered ps' r.card) (filter (is_row_of k) (part_rows hs d))
    unfolding definition
    agree k =
        let P : ℕ → Type 0 = λ i. name_numbered ps i ≡ name_numbered ps' i in
        let one : All (OfParts P) hs =
        all_with (Named ps) (Named ps') (OfParts P)
        (λ g u v. all_with (λ p. name_numbered ps p.number ≡ p.name) (λ p. name_numbered ps' p.number ≡ p.name) (λ p. P p.number)
        (λ p x y. x ∙ sym y) g.parts u.1 v.1)
        hs named (all_left (Named ps') hs more named') in
        all_filter (λ r. P r.card) (is_row_of k) (part_rows hs d) (of_rows P hs d one (all_found (OfParts P) (defines_type n) hs d one h))

    alike_named : (k : ℕ) (m : List ℕ) → All (λ r. is_row_named ps m r ≡ is_row_named ps' m r) (filter (is_row_of k) (part_rows hs d))
    unfolding is_row_named
    alike_named k m =
        all_to (λ r. name_numbered ps r.card ≡ name_numbered ps' r.card) (λ r. is_row_named ps m r ≡ is_row_named ps' m r) (λ r e. ap (same_name m) e)
        (filter (is_row_of k) (part_rows hs d)) (agree k)

    first_stays : (k : ℕ) (m : List ℕ) (r : Row) →
        find (is_part_named ps k m) (part_rows hs d) ≡ some r → find (is_part_named ps' k m) (part_rows (hs ++ more) d) ≡ some r
    unfolding is_part_named
    first_stays k m r e =
        let g = lists_begin k in
        first_both (is_row_of k) (is_row_named ps' m) (part_rows (hs ++ more) d)
        ∙ (ap (find (is_row_named ps' m)) g.1
        ∙ first_append_some (is_row_named ps' m) (filter (is_row_of k) (part_rows hs d)) g.0 r
        (sym (first_cong (is_row_named ps m) (is_row_named ps' m) (filter (is_row_of k) (part_rows hs d)) (alike_named k m))
        ∙ (sym (first_both (is_row_of k) (is_row_named ps m) (part_rows hs d)) ∙ e)))

    any_stays : (k : ℕ) (m : List ℕ) → lists ps k m (type_block hs d) ≡ true → lists ps' k m (type_block (hs ++ more) d) ≡ true
    unfolding lists is_part_named type_block
    any_stays k m e =
        let g = lists_begin k in
        let f : any (is_row_named ps' m) (filter (is_row_of k) (part_rows hs d)) ≡ true =
        sym (any_cong (is_row_named ps m) (is_row_named ps' m) (filter (is_row_of k) (part_rows hs d)) (alike_named k m))
        ∙ (sym (any_both (is_row_of k) (is_row_named ps m) (part_rows hs d)) ∙ e) in
        any_both (is_row_of k) (is_row_named ps' m) (part_rows (hs ++ more) d)
        ∙ (ap (any (is_row_named ps' m)) g.1 ∙ (any_append (is_row_named ps' m) (filter (is_row_of k) (part_rows hs d)) g.0 ∙ simp f))

    -- An explicit field found is found again, by the same card.
    pub field_stays : (f : List ℕ) (c : ℕ) →
        field_named ps (rows a hs) n f ≡ Found (Explicit c) → field_named ps' (rows b (hs ++ more)) n f ≡ Found (Explicit c)
    unfolding field_named type_block
    field_stays f c e =
        let x : field_of ps (rows a hs) n f (type_block hs d) ≡ Found (Explicit c) = rw (block_found ps n a hs named d h) at e in
        let r = explicit_of ps (rows a hs) n f (type_block hs d) c x in
        rw (block_found ps' n b (hs ++ more) named' d later)
        (of_explicit ps' (rows b (hs ++ more)) n f (type_block (hs ++ more) d) r.0 (first_stays 22 f r.0 r.1) ∙ ap (λ i. Found (Explicit i)) r.2)

  -- A subtype stays a subtype.
  interface_stays : (s : List ℕ) (e : Heading) → definition s hs ≡ some e → (x : List ℕ) →
      found (type_named ps (rows a hs) s) (lists ps 21 x) false ≡ true → found (type_named ps' (rows b (hs ++ more)) s) (lists ps' 21 x) false ≡ true
  interface_stays s e h x y =
      rw (block_found ps' s b (hs ++ more) named' e (later s e h)) (any_stays s e h 21 x (rw (block_found ps s a hs named e h) at y))

  module _ (x : List ℕ) (d : Heading) (h : definition x hs ≡ some d) where
    interface_of : (s : List ℕ) → is_row_of 7 (type_row d) ≡ true → (qs : List NamedCard) (rs : List Row) (js : List Heading) →
        subtype_of qs rs x s (type_block js d) ≡ found (type_named qs rs s) (lists qs 21 x) false
    unfolding subtype_of type_block
    interface_of s t qs rs js = rw t

    union_of : (s : List ℕ) → is_row_of 7 (type_row d) ≡ false → (qs : List NamedCard) (rs : List Row) (js : List Heading) →
        subtype_of qs rs x s (type_block js d) ≡ (is_row_of 8 (type_row d) && lists qs 23 s (type_block js d))
    unfolding subtype_of type_block
    union_of s t qs rs js = rw t

    earlier_is : (s : List ℕ) → is_subtype_of ps (rows a hs) x s ≡ subtype_of ps (rows a hs) x s (type_block hs d)
    unfolding is_subtype_of
    earlier_is s = rw (block_found ps x a hs named d h)

    later_is : (s : List ℕ) → is_subtype_of ps' (rows b (hs ++ more)) x s ≡ subtype_of ps' (rows b (hs ++ more)) x s (type_block (hs ++ more) d)
    unfolding is_subtype_of
    later_is s = rw (block_found ps' x b (hs ++ more) named' d (later x d h))

    -- Of a union (or any type but an interface) the member need not be a type that a definition brings.
    pub member_stays : (s : List ℕ) → is_row_of 7 (type_row d) ≡ false → is_subtype_of ps (rows a hs) x s ≡ true → is_subtype_of ps' (rows b (hs ++ more)) x s ≡ true
    member_stays s t y =
        let z = sym (union_of s t ps (rows a hs) hs) ∙ (sym (earlier_is s) ∙ y) in
        let (u, v) = and_true (is_row_of 8 (type_row d)) (lists ps 23 s (type_block hs d)) z in
        later_is s ∙ (union_of s t ps' (rows b (hs ++ more)) (hs ++ more) ∙ simp (u, any_stays x d h 23 s v))

    pub subtype_stays : (s : List ℕ) (e : Heading) → definition s hs ≡ some e →
        is_subtype_of ps (rows a hs) x s ≡ true → is_subtype_of ps' (rows b (hs ++ more)) x s ≡ true
    subtype_stays s e i y = go (is_row_of 7 (type_row d)) refl
      where
        go : (t : Bool) → is_row_of 7 (type_row d) ≡ t → is_subtype_of ps' (rows b (hs ++ more)) x s ≡ true
        go false t = member_stays s t y
        go true t =
            later_is s
            ∙ (interface_of s t ps' (rows b (hs ++ more)) (hs ++ more)
            ∙ interface_stays s e i x (sym (interface_of s t ps (rows a hs) hs) ∙ (sym (earlier_is s) ∙ y)))
