-- The errors of type definitions and type extensions, by cards and rows.
use mathlib.Core.Path.{◌≡◌, refl, sym, ◌∙◌, ap, ap₂}
use mathlib.Core.List.{List, [], ◌∷◌, ◌++◌, map, append_assoc, append-nil}
use mathlib.Core.Bool.{Bool, true, false, ◌&&◌, ◌||◌}
use mathlib.Core.Option.{Option, none, some}
use Prim.Native.Nat.{ℕ, ◌+◌, ◌≤◌, ◌<◌}
use native.Mathlib.Omega.{arith}
use lib.Dec.{eqb, leb, ltb}
use borrow.Author.Tests.{eqb-true, eqb-false, eq-eqb, ne_eqb, ltb-true, ltb-false, lt-ltb, le-ltb, le-leb, leb-false}
use Rattle.definition.specs.Lists.{All, choose, found, filter, flat_map}
use Rattle.definition.specs.Names.{same_name}
use Rattle.definition.specs.Answers.{absent}
use Rattle.definition.specs.Cards.{is_type}
use Rattle.definition.specs.Headings.{NamedCard, Heading, is_kind, is_type_definition, is_type_extension, is_named, defines_type, is_of, extensions_of}
use Rattle.definition.specs.Headings.{definition, number_of, parts, parts_of}
use Rattle.definition.specs.Catalogue.{components, of_extensions, part_in, under_type, type_components, rows}
use Rattle.definition.specs.Errors.{error, heading_error, collisions, redefinition_errors, type_errors, late_extension_errors, type_extension_errors}
use Rattle.from_ast_collisions.specs.Earlier.{View, collision_under, merge_errors}
use Rattle.from_ast_collisions.specs.ErrorsByCards.{redefinition_errors_at, is_early, early_errors, type_errors_at, late_errors_at, type_extension_errors_at}
use Rattle.definition.proofs.Lists.{map_append, flat_map_nil, flat_map_cons, flat_map_append, filter_nil, filter_yes, filter_no, same_name_eq}
use Rattle.definition.proofs.Lists.{same_name_refl, split}
use Rattle.definition.proofs.All.{all_append, all_filter, all_flat_map, all_found, all_to, all_every}
use Rattle.definition.proofs.Tests.{zero_one}
use Rattle.from_ast_collisions.proofs.Tests.{and_false, or_left, or_right}
use Rattle.from_ast_collisions.proofs.Walks.{flat_cong, flat_gated, flat_map_lem, filter_both, filter_cong, filter_out}
use Rattle.from_ast_collisions.proofs.Repeats.{times, times_fewer}
use Rattle.from_ast_collisions.proofs.Earlier.{row_words, is_in}
use Rattle.from_ast_collisions.proofs.Rows.{HeadingTold, PartsTold, defines_kind, type_stands}
use Rattle.from_ast_collisions.proofs.Collisions.{collisions_found}
use Rattle.from_ast_collisions.proofs.Known.{number_in, heading_of, OfType, Known, kind_told, built_in_told, ignored_told, merge_told, Around}
use Rattle.from_ast_collisions.proofs.Known.{all_here, all_before, defined_below, defined_above, defined_nowhere, defined_from, defined_here}
use Rattle.from_ast_collisions.proofs.Known.{number_some, number_none, filter_around, parts_nil, parts_cons, parts_append, components_parts}
use Rattle.from_ast_collisions.proofs.Known.{extensions_parts, times_with, found_defines, among_types}

-- ---- Walks over headings.

-- The parts of headings, one heading after another.
pub flat_parts {κ} : {B : Type κ} (c : NamedCard → List B) (es : List Heading) → flat_map (λ e. flat_map c e.parts) es ≡ flat_map c (parts_of es)
flat_parts c [] = flat_map_nil (λ e. flat_map c e.parts) ∙ sym (ap (flat_map c) parts_nil ∙ flat_map_nil c)
flat_parts c (e ∷ es) =
    flat_map_cons (λ e. flat_map c e.parts) e es
    ∙ (ap (λ l. flat_map c e.parts ++ l) (flat_parts c es) ∙ (sym (flat_map_append c e.parts (parts_of es)) ∙ ap (flat_map c) (sym (parts_cons e es))))

-- What a walk over the cards of headings pushes for those that a test of their numbers lets through.
pub walk_merged : (v : View) (rows : List ℕ) (k d : ℕ) (test : ℕ → Bool) (hs : List Heading) → All (HeadingTold (heading_of v)) hs →
    flat_map (λ c. choose (test c) (merge_errors v rows k d c) []) (map number_in hs) ≡
    flat_map (collision_under v rows k d) (parts_of (filter (λ e. test e.number) hs))
walk_merged v rows k d test hs told =
    flat_map_lem (λ c. choose (test c) (merge_errors v rows k d c) []) number_in hs
    ∙ (flat_cong (λ e. choose (test e.number) (merge_errors v rows k d e.number) [])
    (λ e. choose (test e.number) (flat_map (collision_under v rows k d) e.parts) []) (HeadingTold (heading_of v))
    (λ e t. ap (λ l. choose (test e.number) l []) (merge_told v e t rows k d)) hs told
    ∙ (flat_gated (λ e. test e.number) (λ e. flat_map (collision_under v rows k d) e.parts) hs
    ∙ flat_parts (collision_under v rows k d) (filter (λ e. test e.number) hs)))

-- The same over those of the headings that pass a test of their own.
pub walk_kept : (v : View) (rows : List ℕ) (k d : ℕ) (test : ℕ → Bool) (p : Heading → Bool) (hs : List Heading) → All (HeadingTold (heading_of v)) hs →
    flat_map (λ c. choose (test c) (merge_errors v rows k d c) []) (map number_in (filter p hs)) ≡
    flat_map (collision_under v rows k d) (parts_of (filter (λ e. p e && test e.number) hs))
walk_kept v rows k d test p hs told =
    walk_merged v rows k d test (filter p hs) (all_filter (HeadingTold (heading_of v)) p hs told)
    ∙ ap (λ l. flat_map (collision_under v rows k d) (parts_of l)) (sym (filter_both p (λ e. test e.number) hs))

-- ---- Kinds.

pub kind_extends : (e : Heading) → 12 ≤ e.kind → e.kind ≤ 17 → is_type_extension e ≡ true
unfolding is_type_extension
kind_extends e l u = rw (le-leb 12 e.kind l, le-leb e.kind 17 u)

-- A heading of none of the other kinds extends a type.
pub kinds_left : (h : Heading) → h.kind ≤ 17 → leb h.kind 2 ≡ false → eqb h.kind 3 ≡ false → eqb h.kind 4 ≡ false → is_type h.kind ≡ false →
    eqb h.kind 11 ≡ false → is_type_extension h ≡ true
unfolding is_type
kinds_left h most a b c d e =
    let l = leb-false h.kind 2 a in
    let x : h.kind ≡ 3 → ⊥ = eqb-false h.kind 3 b in
    let y : h.kind ≡ 4 → ⊥ = eqb-false h.kind 4 c in
    let z : h.kind ≡ 11 → ⊥ = eqb-false h.kind 11 e in
    let u : 10 < h.kind = leb-false h.kind 10 (rw (le-leb 5 h.kind (omega arith)) at d) in
    kind_extends h (omega arith) most

pub of_kind_lem : (j : ℕ) (n : List ℕ) (e : Heading) → is_of j n e ≡ true → (e.kind ≡ j) × (n ≡ e.name)
unfolding is_of is_kind is_named
of_kind_lem j n e t = go (eqb e.kind j) refl t
  where
    go : (b : Bool) → eqb e.kind j ≡ b → (b && same_name n e.name) ≡ true → (e.kind ≡ j) × (n ≡ e.name)
    go true q t = (eqb-true e.kind j q, same_name_eq n e.name t)
    go false q t = let z : false ≡ true = t in (absurd (zero_one cc), absurd (zero_one cc))

of_extends : (j : ℕ) (n : List ℕ) → 12 ≤ j → j ≤ 17 → (e : Heading) → is_of j n e ≡ true → (is_type_definition e || is_type_extension e) ≡ true
of_extends j n l u e t =
    let q : e.kind ≡ j = (of_kind_lem j n e t).0 in
    or_right (is_type_definition e) (is_type_extension e) (kind_extends e (omega arith) (omega arith))

-- ---- Types.

module _ (v : View) (a : Bool) (hs : List Heading) (k : Known v hs) where
  abbrev words : List ℕ
  words = row_words (rows a hs)

  abbrev cards : List ℕ
  cards = map number_in (filter is_type_extension hs)

  pub definition_told : (n : List ℕ) (d : Heading) → definition n hs ≡ some d → HeadingTold (heading_of v) d
  unfolding definition
  definition_told n d f = all_found (HeadingTold (heading_of v)) (defines_type n) hs d k.told f

  -- Names and owners say the same of what a definition d stands for.
  owner_named : (d e : Heading) → definition d.name hs ≡ some d → HeadingTold (heading_of v) d → d.number < v.used → OfType v hs e →
      eqb (v.owner e.number) d.number ≡ same_name d.name e.name
  unfolding number_of
  owner_named d e f own held o = go (same_name d.name e.name) refl
    where
      other : (c : Option Heading) → definition e.name hs ≡ c → number_of c ≡ d.number → same_name d.name e.name ≡ true
      other none g q = let few = k.few in absurd (let z : absent ≡ d.number = q in omega arith)
      other (some c) g q =
          let n : e.name ≡ c.name = (found_defines e.name hs c g).1 in
          let s : c ≡ d = definition_told e.name c g ∙ (ap (heading_of v) q ∙ sym own) in
          let m : e.name ≡ d.name = n ∙ ap (λ (h : Heading). h.name) s in
          rw m (same_name_refl d.name)

      go : (b : Bool) → same_name d.name e.name ≡ b → eqb (v.owner e.number) d.number ≡ same_name d.name e.name
      go true s =
          let n : d.name ≡ e.name = same_name_eq d.name e.name s in
          eq-eqb (v.owner e.number) d.number (o.owner ∙ ap number_of (ap (λ m. definition m hs) (sym n) ∙ f)) ∙ sym s
      go false s =
          ne_eqb (v.owner e.number) d.number
          (λ q. let z : true ≡ false = sym (other (definition e.name hs) refl (sym o.owner ∙ q)) ∙ s in zero_one cc)
          ∙ sym s

  -- What is merged into a defined type.
  merged_are : (d : Heading) → map part_in (type_components hs d) ≡ d.parts ++ parts_of (extensions_of (d.kind + 7) d.name hs)
  unfolding type_components
  merged_are d =
      map_append part_in (components absent d) (of_extensions (extensions_of (d.kind + 7) d.name hs))
      ∙ ap₂ (λ l m. l ++ m) (components_parts absent d) (extensions_parts (extensions_of (d.kind + 7) d.name hs))

  not_own : (d : Heading) → is_of (d.kind + 7) d.name d ≡ false
  unfolding is_of is_kind
  not_own d = rw (ne_eqb d.kind (d.kind + 7) (λ q. omega arith))

  merged_once : (n : ℕ) (d : Heading) → definition d.name hs ≡ some d → times n (d.parts ++ parts_of (extensions_of (d.kind + 7) d.name hs)) ≤ 1
  unfolding definition extensions_of
  merged_once n d f =
      let s = split (defines_type d.name) hs d f in
      omega (arith, times_with n (is_of (d.kind + 7) d.name) hs s.pre d s.post s.whole (not_own d), k.once n)

  module _ (d : Heading) (f : definition d.name hs ≡ some d) where
    own_told : HeadingTold (heading_of v) d
    own_told = definition_told d.name d f

    own_parts : PartsTold v d
    unfolding definition
    own_parts = all_found (PartsTold v) (defines_type d.name) hs d k.named f

    own_held : d.number < v.used
    unfolding definition
    own_held = all_found (λ h. h.number < v.used) (defines_type d.name) hs d k.held f

    defines : is_type_definition d ≡ true
    defines = (found_defines d.name hs d f).0

    type_collisions : (seen ps rest : List NamedCard) → d.parts ++ parts_of (extensions_of (d.kind + 7) d.name hs) ≡ seen ++ (ps ++ rest) →
        All (λ x. is_in x.kind under_type ≡ true) ps →
        flat_map (collision_under v words d.kind d.number) ps ≡ collisions d.kind seen ps
    type_collisions seen ps rest e i =
        collisions_found v words under_type d.kind d.number (map part_in (type_components hs d)) seen ps rest
        (type_stands v (heading_of v) a hs k.told k.named d defines own_told own_parts (among_types d.name hs d f))
        (merged_are d ∙ e) i
        (all_every (λ x. times x.number (seen ++ ps) ≤ 1) (λ x. times_fewer x.number _ seen ps rest e (merged_once x.number d f)) ps)

  -- The kinds of the parts of extensions.
  extension_parts : (j : ℕ) (n : List ℕ) (es : List Heading) → 12 ≤ j → j ≤ 17 →
      All (λ h. (is_type_definition h || is_type_extension h) ≡ true → OfType v hs h) es →
      All (λ x. is_in x.kind under_type ≡ true) (parts_of (extensions_of j n es))
  unfolding parts_of extensions_of parts
  extension_parts j n es l u a =
      all_flat_map (λ x. is_in x.kind under_type ≡ true) _ (filter (is_of j n) es)
      (go es a)
    where
      go : (es : List Heading) → All (λ h. (is_type_definition h || is_type_extension h) ≡ true → OfType v hs h) es →
          All (λ e. All (λ x. is_in x.kind under_type ≡ true) e.parts) (filter (is_of j n) es)
      go [] a = rw (filter_nil (is_of j n)) tt
      go (e ∷ es) a = step (is_of j n e) refl (go es a.1)
        where
          step : (b : Bool) → is_of j n e ≡ b → All (λ e. All (λ x. is_in x.kind under_type ≡ true) e.parts) (filter (is_of j n) es) →
              All (λ e. All (λ x. is_in x.kind under_type ≡ true) e.parts) (filter (is_of j n) (e ∷ es))
          step true t ih = rw (filter_yes (is_of j n) e es t) ((a.0 (of_extends j n l u e t)).kinds, ih)
          step false t ih = rw (filter_no (is_of j n) e es t) ih

  -- ---- A heading h of the list.

  module _ (before : List Heading) (h : Heading) (after : List Heading) (w : Around hs before h after) where
    told_here : HeadingTold (heading_of v) h
    told_here = all_here hs before h after w (HeadingTold (heading_of v)) k.told

    kind_here : v.kind h.number ≡ h.kind
    kind_here = kind_told v h told_here

    typed_here : (is_type_definition h || is_type_extension h) ≡ true → OfType v hs h
    typed_here = all_here hs before h after w (λ h. (is_type_definition h || is_type_extension h) ≡ true → OfType v hs h) k.typed

    -- Extensions before their first definition h, by the test of their cards.
    early_is : definition h.name hs ≡ some h → (e : Heading) → HeadingTold (heading_of v) e → e.number < h.number →
        ((is_type_definition e || is_type_extension e) ≡ true → OfType v hs e) → (is_type_extension e && is_early v h.number e.number) ≡
        is_of (h.kind + 7) h.name e
    unfolding is_early is_of is_kind is_named
    early_is f e t l o = rw (lt-ltb e.number h.number l, kind_told v e t, kind_here) (go (eqb e.kind (h.kind + 7)) refl)
      where
        go : (b : Bool) → eqb e.kind (h.kind + 7) ≡ b → (is_type_extension e && (b && eqb (v.owner e.number) h.number)) ≡
            (b && same_name h.name e.name)
        go false q = and_false (is_type_extension e)
        go true q =
            let m = defines_kind h (found_defines h.name hs h f).0 in
            let n : e.kind ≡ h.kind + 7 = eqb-true e.kind (h.kind + 7) q in
            let x : is_type_extension e ≡ true = kind_extends e (omega arith) (omega arith) in
            rw x (owner_named h e f (own_told h f) (own_held h f) (o (or_right (is_type_definition e) (is_type_extension e) x)))

    late_is : (e : Heading) → h.number ≤ e.number → (is_type_extension e && is_early v h.number e.number) ≡ false
    unfolding is_early
    late_is e l = rw (le-ltb e.number h.number l) (and_false (is_type_extension e))

    early_kept : definition h.name hs ≡ some h → filter (λ e. is_type_extension e && is_early v h.number e.number) hs ≡
        extensions_of (h.kind + 7) h.name before
    unfolding extensions_of
    early_kept f =
        filter_around hs before h after w p
        ∙ (ap₂ (λ l m. l ++ m)
        (filter_cong p (is_of (h.kind + 7) h.name) before (each before (all_before hs before h after w _ k.told) w.below
        (all_before hs before h after w _ k.typed)))
        (filter_out p (h ∷ after) (
          late_is h (omega arith),
          all_to (λ e. h.number < e.number) (λ e. p e ≡ false) (λ e l. late_is e (omega arith)) after w.above,
        ))
        ∙ append-nil (filter (is_of (h.kind + 7) h.name) before))
      where
        p : Heading → Bool
        p e = is_type_extension e && is_early v h.number e.number

        each : (es : List Heading) → All (HeadingTold (heading_of v)) es → All (λ e. e.number < h.number) es →
            All (λ e. (is_type_definition e || is_type_extension e) ≡ true → OfType v hs e) es → All (λ e. p e ≡ is_of (h.kind + 7) h.name e) es
        each [] a b c = tt
        each (e ∷ es) a b c = (early_is f e a.0 b.0 c.0, each es a.1 b.1 c.1)

    early_found : definition h.name hs ≡ some h →
        flat_map (early_errors v words h.number) cards ≡
        flat_map (collision_under v words h.kind h.number) (parts_of (extensions_of (h.kind + 7) h.name before))
    unfolding early_errors
    early_found f =
        ap (λ j. flat_map (λ c. choose (is_early v h.number c) (merge_errors v words j h.number c) []) cards) kind_here
        ∙ (walk_kept v words h.kind h.number (is_early v h.number) is_type_extension hs k.told
        ∙ ap (λ l. flat_map (collision_under v words h.kind h.number) (parts_of l)) (early_kept f))

    defines_here : is_type_definition h ≡ true → defines_type h.name h ≡ true
    unfolding defines_type is_named
    defines_here d = rw (d, same_name_refl h.name)

    -- A first definition.
    new_errors : is_type_definition h ≡ true → definition h.name hs ≡ some h →
        merge_errors v words (v.kind h.number) h.number h.number ++ flat_map (early_errors v words h.number) cards ≡
        collisions h.kind [] (h.parts ++ parts_of (extensions_of (h.kind + 7) h.name before))
    unfolding extensions_of
    new_errors d f =
        ap₂ (λ l m. l ++ m) (ap (λ j. merge_errors v words j h.number h.number) kind_here ∙ merge_told v h told_here words h.kind h.number)
        (early_found f)
        ∙ (sym (flat_map_append (collision_under v words h.kind h.number) h.parts (parts_of (extensions_of (h.kind + 7) h.name before)))
        ∙ type_collisions h f [] (h.parts ++ parts_of (extensions_of (h.kind + 7) h.name before))
        (parts_of (extensions_of (h.kind + 7) h.name (h ∷ after)))
        (ap (λ l. h.parts ++ parts_of l) (filter_around hs before h after w (is_of (h.kind + 7) h.name))
        ∙ (ap (λ l. h.parts ++ l) (parts_append (extensions_of (h.kind + 7) h.name before) (extensions_of (h.kind + 7) h.name (h ∷ after)))
        ∙ sym (append_assoc h.parts (parts_of (extensions_of (h.kind + 7) h.name before)) (parts_of (extensions_of (h.kind + 7) h.name (h ∷ after))))))
        (all_append (λ x. is_in x.kind under_type ≡ true) h.parts (parts_of (extensions_of (h.kind + 7) h.name before))
        (typed_here (or_left (is_type_definition h) (is_type_extension h) d)).kinds
        (let m = defines_kind h d in
        extension_parts (h.kind + 7) h.name before (omega arith) (omega arith)
        (all_before hs before h after w (λ h. (is_type_definition h || is_type_extension h) ≡ true → OfType v hs h) k.typed))))

    -- A second definition.
    redefined : (d : Heading) → HeadingTold (heading_of v) d → v.owner h.number ≡ d.number → redefinition_errors_at v h.number ≡ redefinition_errors h d
    unfolding redefinition_errors_at redefinition_errors is_kind heading_error
    redefined d t o = rw (o, built_in_told v d t, ignored_told v h told_here, kind_here)

    owner_here : (is_type_definition h || is_type_extension h) ≡ true → (c : Heading) → definition h.name hs ≡ some c → v.owner h.number ≡ c.number
    owner_here t c e = (typed_here t).owner ∙ number_some (definition h.name hs) c e

    pub type_errors_lem : is_type_definition h ≡ true → type_errors_at v words cards h.number ≡ type_errors before h
    unfolding type_errors_at type_errors
    type_errors_lem d =
        let t = defined_from hs before h after w h.name (defines_here d) in
        go (ltb (v.owner h.number) h.number) refl t.0 t.1 t.2
      where
        go : (b : Bool) → ltb (v.owner h.number) h.number ≡ b → (c : Heading) → definition h.name hs ≡ some c → c.number ≤ h.number →
            choose (ltb (v.owner h.number) h.number) (redefinition_errors_at v h.number)
            (merge_errors v words (v.kind h.number) h.number h.number ++ flat_map (early_errors v words h.number) cards) ≡
            found (definition h.name before) (redefinition_errors h)
            (collisions h.kind [] (h.parts ++ parts_of (extensions_of (h.kind + 7) h.name before)))
        go true b c e l =
            let q : v.owner h.number ≡ c.number = owner_here (or_left (is_type_definition h) (is_type_extension h) d) c e in
            let m = ltb-true (v.owner h.number) h.number b in
            let f : definition h.name before ≡ some c = defined_below hs before h after w h.name c e (omega arith) in
            rw (b, f) (redefined c (definition_told h.name c e) q)
        go false b c e l =
            let q : v.owner h.number ≡ c.number = owner_here (or_left (is_type_definition h) (is_type_extension h) d) c e in
            let m = ltb-false (v.owner h.number) h.number b in
            let f : definition h.name before ≡ none = defined_above hs before h after w h.name c e (omega arith) in
            rw (b, f) (new_errors d (defined_here hs before h after w h.name (defines_here d) f))

    -- ---- An extension after a definition d.

    extension_around : (d : Heading) → h.name ≡ d.name → h.kind ≡ d.kind + 7 →
        d.parts ++ parts_of (extensions_of (d.kind + 7) d.name hs) ≡
        (d.parts ++ parts_of (extensions_of h.kind h.name before)) ++ (h.parts ++ parts_of (extensions_of h.kind h.name after))
    unfolding extensions_of
    extension_around d n q =
        ap (λ l. d.parts ++ parts_of l)
        (ap₂ (λ j m. filter (is_of j m) hs) (sym q) (sym n)
        ∙ (filter_around hs before h after w (is_of h.kind h.name)
        ∙ ap (λ l. filter (is_of h.kind h.name) before ++ l) (filter_yes (is_of h.kind h.name) h after itself)))
        ∙ (ap (λ l. d.parts ++ l)
        (parts_append (filter (is_of h.kind h.name) before) (h ∷ filter (is_of h.kind h.name) after)
        ∙ ap (λ l. parts_of (filter (is_of h.kind h.name) before) ++ l) (parts_cons h (filter (is_of h.kind h.name) after)))
        ∙ sym (append_assoc d.parts (parts_of (filter (is_of h.kind h.name) before)) (h.parts ++ parts_of (filter (is_of h.kind h.name) after))))
      where
        itself : is_of h.kind h.name h ≡ true
        itself = unfold is_of is_kind is_named in rw (eq-eqb h.kind h.kind refl, same_name_refl h.name)

    late_errors : is_type_extension h ≡ true → (d : Heading) → definition h.name hs ≡ some d → late_errors_at v words d.number h.number ≡
        late_extension_errors before h d
    unfolding late_errors_at late_extension_errors is_kind heading_error
    late_errors x d e = rw (kind_here, kind_told v d (definition_told h.name d e)) (go (eqb h.kind (d.kind + 7)) refl)
      where
        n : h.name ≡ d.name
        n = (found_defines h.name hs d e).1

        go : (b : Bool) → eqb h.kind (d.kind + 7) ≡ b →
            choose b (merge_errors v words d.kind d.number h.number) (error 8 h.number d.number ∷ []) ≡
            choose b (collisions d.kind (d.parts ++ parts_of (extensions_of h.kind h.name before)) h.parts) (error 8 h.number d.number ∷ [])
        go true q =
            merge_told v h told_here words d.kind d.number
            ∙ type_collisions d (ap (λ m. definition m hs) (sym n) ∙ e) (d.parts ++ parts_of (extensions_of h.kind h.name before)) h.parts
            (parts_of (extensions_of h.kind h.name after))
            (extension_around d n (eqb-true h.kind (d.kind + 7) q)) (typed_here (or_right (is_type_definition h) (is_type_extension h) x)).kinds
        go false q = refl

    pub type_extension_errors_lem : is_type_extension h ≡ true → type_extension_errors_at v words h.number ≡ type_extension_errors before h
    unfolding type_extension_errors_at type_extension_errors
    type_extension_errors_lem x = go (ltb (v.owner h.number) h.number) refl (definition h.name hs) refl
      where
        extends : (is_type_definition h || is_type_extension h) ≡ true
        extends = or_right (is_type_definition h) (is_type_extension h) x

        low : h.number < v.used
        low = all_here hs before h after w (λ h. h.number < v.used) k.held

        go : (b : Bool) → ltb (v.owner h.number) h.number ≡ b → (o : Option Heading) → definition h.name hs ≡ o →
            choose (ltb (v.owner h.number) h.number) (late_errors_at v words (v.owner h.number) h.number) [] ≡
            found (definition h.name before) (late_extension_errors before h) []
        go b t none e =
            let q : v.owner h.number ≡ absent = (typed_here extends).owner ∙ number_none (definition h.name hs) e in
            let few = k.few in
            let l = low in
            rw (le-ltb (v.owner h.number) h.number (omega arith), defined_nowhere hs before h after w h.name e)
        go true t (some d) e =
            let q : v.owner h.number ≡ d.number = owner_here extends d e in
            let m = ltb-true (v.owner h.number) h.number t in
            let f : definition h.name before ≡ some d = defined_below hs before h after w h.name d e (omega arith) in
            rw (t, f) (ap (λ c. late_errors_at v words c h.number) q ∙ late_errors x d e)
        go false t (some d) e =
            let q : v.owner h.number ≡ d.number = owner_here extends d e in
            let m = ltb-false (v.owner h.number) h.number t in
            let f : definition h.name before ≡ none = defined_above hs before h after w h.name d e (omega arith) in
            rw (t, f)
