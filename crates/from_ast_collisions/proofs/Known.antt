-- What is known of the headings of a store by their cards' numbers, and what follows for headings before one of them.
use mathlib.Core.Path.{◌≡◌, refl, sym, ◌∙◌, ap, ap₂, subst}
use mathlib.Core.List.{List, [], ◌∷◌, ◌++◌, map}
use mathlib.Core.Bool.{Bool, true, false, ◌&&◌, ◌||◌}
use mathlib.Core.Option.{Option, none, some}
use Prim.Native.Nat.{ℕ, ◌+◌, ◌≤◌, ◌<◌}
use native.Mathlib.Omega.{arith}
use lib.Dec.{eqb}
use borrow.Author.Tests.{eq-eqb}
use Rattle.definition.specs.Lists.{All, filter, any, find, flat_map}
use Rattle.definition.specs.Names.{same_name}
use Rattle.definition.specs.Answers.{absent}
use Rattle.definition.specs.Headings.{NamedCard, Heading, is_kind, is_type_definition, is_type_extension, is_named, same_named, defines_type, defined_types}
use Rattle.definition.specs.Headings.{definition, number_of, parts, parts_of}
use Rattle.definition.specs.Catalogue.{component, components, own_components, of_extensions, part_in, under_type, under_schema}
use Rattle.from_ast_collisions.specs.Earlier.{View, collision_under, merge_errors}
use Rattle.definition.proofs.Lists.{map_append, flat_map_nil, flat_map_cons, flat_map_append, filter_nil, filter_yes, filter_no, filter_append}
use Rattle.definition.proofs.Lists.{first_nil, first_yes, first_no, first_append_some, first_append_none, first_both, first_firsts, any_nil, any_yes}
use Rattle.definition.proofs.Lists.{any_no, split, same_name_eq}
use Rattle.definition.proofs.All.{all_left, all_right, all_found, all_to}
use Rattle.definition.proofs.Tests.{zero_one}
use Rattle.from_ast_collisions.proofs.Repeats.{times, times_append}
use Rattle.from_ast_collisions.proofs.Earlier.{is_in}
use Rattle.from_ast_collisions.proofs.Rows.{PartsTold, HeadingTold}

-- ---- What is known.

abbrev pub number_in : Heading → ℕ
number_in h = h.number

abbrev pub heading_of : View → ℕ → Heading
heading_of v n = record { number = n; kind = v.kind n; name = v.name n; built_in = v.built_in n; ignored = v.ignored n; parts = v.parts n }

-- Numbers rise.
abbrev pub Rising : List Heading → Type 0
Rising [] = Unit {0}
Rising (h ∷ hs) = All (λ e. h.number < e.number) hs × Rising hs

-- A heading that defines or extends a type has an owner, and its parts are of the kinds that stand under a type row.
pub record OfType (v : View) (hs : List Heading) (h : Heading) : Type 0 where
  pub owner : v.owner h.number ≡ number_of (definition h.name hs)
  pub kinds : All (λ p. is_in p.kind under_type ≡ true) h.parts

pub record Known (v : View) (hs : List Heading) : Type 0 where
  pub told : All (HeadingTold (heading_of v)) hs
  pub named : All (PartsTold v) hs
  pub rising : Rising hs
  pub held : All (λ h. h.number < v.used) hs
  pub most : All (λ h. h.kind ≤ 17) hs
  pub few : v.used < absent
  pub once : (n : ℕ) → times n (parts_of hs) ≤ 1
  pub typed : All (λ h. (is_type_definition h || is_type_extension h) ≡ true → OfType v hs h) hs
  pub schemed : All (λ h. (is_kind 4 h || is_kind 11 h) ≡ true → All (λ p. is_in p.kind under_schema ≡ true) h.parts) hs

pub all_at {ℓ} : {A : Type ℓ} (P : A → Type 0) (xs : List A) (y : A) (ys : List A) → All P (xs ++ (y ∷ ys)) → P y
all_at P xs y ys a = (all_right P xs (y ∷ ys) a).0

-- What a number tells of its heading.
module _ (v : View) (h : Heading) (t : HeadingTold (heading_of v) h) where
  pub kind_told : v.kind h.number ≡ h.kind
  kind_told = sym (ap (λ (g : Heading). g.kind) t)

  pub name_told : v.name h.number ≡ h.name
  name_told = sym (ap (λ (g : Heading). g.name) t)

  pub built_in_told : v.built_in h.number ≡ h.built_in
  built_in_told = sym (ap (λ (g : Heading). g.built_in) t)

  pub ignored_told : v.ignored h.number ≡ h.ignored
  ignored_told = sym (ap (λ (g : Heading). g.ignored) t)

  pub parts_told : v.parts h.number ≡ h.parts
  parts_told = sym (ap (λ (g : Heading). g.parts) t)

  pub merge_told : (rows : List ℕ) (k d : ℕ) → merge_errors v rows k d h.number ≡ flat_map (collision_under v rows k d) h.parts
  unfolding merge_errors
  merge_told rows k d = rw (parts_told)

-- Schema extensions are told by their cards' kinds.
pub extension_told : (v : View) (h : Heading) → HeadingTold (heading_of v) h → eqb (v.kind h.number) 11 ≡ is_kind 11 h
unfolding is_kind
extension_told v h t = ap (λ j. eqb j 11) (kind_told v h t)

-- ---- Headings before one.

module _ (h : Heading) (xs ys : List Heading) where
  rising_below : Rising (xs ++ (h ∷ ys)) → All (λ e. e.number < h.number) xs
  rising_below r = go xs r
    where
      go : (xs : List Heading) → Rising (xs ++ (h ∷ ys)) → All (λ e. e.number < h.number) xs
      go [] r = tt
      go (x ∷ xs) r = (all_at (λ e. x.number < e.number) xs h ys r.0, go xs r.1)

  rising_above : Rising (xs ++ (h ∷ ys)) → All (λ e. h.number < e.number) ys
  rising_above r = go xs r
    where
      go : (xs : List Heading) → Rising (xs ++ (h ∷ ys)) → All (λ e. h.number < e.number) ys
      go [] r = r.0
      go (x ∷ xs) r = go xs r.1

-- A list of headings, one of them, those before it and those after it.
pub record Around (hs before : List Heading) (h : Heading) (after : List Heading) : Type 0 where
  pub whole : hs ≡ before ++ (h ∷ after)
  pub below : All (λ e. e.number < h.number) before
  pub above : All (λ e. h.number < e.number) after

pub around : (hs before : List Heading) (h : Heading) (after : List Heading) → hs ≡ before ++ (h ∷ after) → Rising hs → Around hs before h after
around hs before h after e r =
    let s : Rising (before ++ (h ∷ after)) = subst Rising e r in
    record { whole = e; below = rising_below h before after s; above = rising_above h before after s }

module _ (hs before : List Heading) (h : Heading) (after : List Heading) (w : Around hs before h after) where
  pub all_here : (P : Heading → Type 0) → All P hs → P h
  all_here P a = all_at P before h after (subst (All P) w.whole a)

  pub all_before : (P : Heading → Type 0) → All P hs → All P before
  all_before P a = all_left P before (h ∷ after) (subst (All P) w.whole a)

  -- The first that passes stands before h, or from h on.
  module _ (p : Heading → Bool) where
    pub first_below : (d : Heading) → find p hs ≡ some d → d.number < h.number → find p before ≡ some d
    first_below d e l = go (find p before) refl
      where
        e' : find p (before ++ (h ∷ after)) ≡ some d
        e' = ap (find p) (sym w.whole) ∙ e

        go : (o : Option Heading) → find p before ≡ o → find p before ≡ some d
        go (some c) f = f ∙ (sym (first_append_some p before (h ∷ after) c f) ∙ e')
        go none f =
            let g : find p (h ∷ after) ≡ some d = sym (first_append_none p before (h ∷ after) f) ∙ e' in
            let upper : h.number ≤ d.number =
            all_found (λ e. h.number ≤ e.number) p (h ∷ after) d (
              omega arith,
              all_to (λ e. h.number < e.number) (λ e. h.number ≤ e.number) (λ e l. omega arith) after w.above,
            ) g in
            absurd (omega arith)

    pub first_above : (d : Heading) → find p hs ≡ some d → h.number ≤ d.number → find p before ≡ none
    first_above d e l = go (find p before) refl
      where
        e' : find p (before ++ (h ∷ after)) ≡ some d
        e' = ap (find p) (sym w.whole) ∙ e

        go : (o : Option Heading) → find p before ≡ o → find p before ≡ none
        go none f = f
        go (some c) f =
            let g : some c ≡ some d = sym (first_append_some p before (h ∷ after) c f) ∙ e' in
            let q : c ≡ d = cc in
            let lower : c.number < h.number = all_found (λ e. e.number < h.number) p before c w.below f in
            let s : c.number ≡ d.number = ap (λ (x : Heading). x.number) q in
            absurd (omega arith)

    pub first_nowhere : find p hs ≡ none → find p before ≡ none
    first_nowhere e = go (find p before) refl
      where
        e' : find p (before ++ (h ∷ after)) ≡ none
        e' = ap (find p) (sym w.whole) ∙ e

        go : (o : Option Heading) → find p before ≡ o → find p before ≡ none
        go none f = f
        go (some c) f = let g : some c ≡ none = sym (first_append_some p before (h ∷ after) c f) ∙ e' in cc

    -- Where h passes, something does, no later than h.
    pub first_from : p h ≡ true → (d : Heading) × (find p hs ≡ some d) × (d.number ≤ h.number)
    first_from t = go (find p before) refl
      where
        go : (o : Option Heading) → find p before ≡ o → (d : Heading) × (find p hs ≡ some d) × (d.number ≤ h.number)
        go (some c) f =
            let l : c.number < h.number = all_found (λ e. e.number < h.number) p before c w.below f in
            (c, ap (find p) w.whole ∙ first_append_some p before (h ∷ after) c f, omega arith)
        go none f = (h, ap (find p) w.whole ∙ (first_append_none p before (h ∷ after) f ∙ first_yes p h after t), omega arith)

    -- Where h passes and none before it does, h is the first.
    pub first_here : p h ≡ true → find p before ≡ none → find p hs ≡ some h
    first_here t f = ap (find p) w.whole ∙ (first_append_none p before (h ∷ after) f ∙ first_yes p h after t)

    pub filter_around : filter p hs ≡ filter p before ++ filter p (h ∷ after)
    filter_around = ap (filter p) w.whole ∙ filter_append p before (h ∷ after)

  -- The same of the definition of a name.
  module _ (n : List ℕ) where
    pub defined_below : (d : Heading) → definition n hs ≡ some d → d.number < h.number → definition n before ≡ some d
    unfolding definition
    defined_below d e l = first_below (defines_type n) d e l

    pub defined_above : (d : Heading) → definition n hs ≡ some d → h.number ≤ d.number → definition n before ≡ none
    unfolding definition
    defined_above d e l = first_above (defines_type n) d e l

    pub defined_nowhere : definition n hs ≡ none → definition n before ≡ none
    unfolding definition
    defined_nowhere e = first_nowhere (defines_type n) e

    pub defined_from : defines_type n h ≡ true → (d : Heading) × (definition n hs ≡ some d) × (d.number ≤ h.number)
    unfolding definition
    defined_from t = first_from (defines_type n) t

    pub defined_here : defines_type n h ≡ true → definition n before ≡ none → definition n hs ≡ some h
    unfolding definition
    defined_here t f = first_here (defines_type n) t f

pub number_some : (o : Option Heading) (d : Heading) → o ≡ some d → number_of o ≡ d.number
unfolding number_of
number_some o d e = rw e

pub number_none : (o : Option Heading) → o ≡ none → number_of o ≡ absent
unfolding number_of
number_none o e = rw e

-- ---- Parts of headings.

pub parts_nil : parts_of [] ≡ []
unfolding parts_of
parts_nil = flat_map_nil parts

pub parts_cons : (h : Heading) (hs : List Heading) → parts_of (h ∷ hs) ≡ h.parts ++ parts_of hs
unfolding parts_of parts
parts_cons h hs = flat_map_cons parts h hs

pub parts_append : (xs ys : List Heading) → parts_of (xs ++ ys) ≡ parts_of xs ++ parts_of ys
unfolding parts_of
parts_append xs ys = flat_map_append parts xs ys

map_part : (o : ℕ) (ps : List NamedCard) → map part_in (map (component o) ps) ≡ ps
unfolding part_in component
map_part o [] = refl
map_part o (p ∷ ps) = ap (λ l. p ∷ l) (map_part o ps)

pub components_parts : (o : ℕ) (h : Heading) → map part_in (components o h) ≡ h.parts
unfolding components
components_parts o h = map_part o h.parts

pub extensions_parts : (es : List Heading) → map part_in (of_extensions es) ≡ parts_of es
unfolding of_extensions own_components
extensions_parts [] = ap (map part_in) (flat_map_nil own_components) ∙ sym parts_nil
extensions_parts (e ∷ es) =
    ap (map part_in) (flat_map_cons own_components e es)
    ∙ (map_append part_in (components e.number e) (of_extensions es)
    ∙ (ap₂ (λ l m. l ++ m) (components_parts e.number e) (extensions_parts es) ∙ sym (parts_cons e es)))

-- ---- Numbers that stand once.

pub times_kept : (n : ℕ) (p : Heading → Bool) (hs : List Heading) → times n (parts_of (filter p hs)) ≤ times n (parts_of hs)
times_kept n p [] = rw (filter_nil p) (omega arith)
times_kept n p (h ∷ hs) = go (p h) refl (times_kept n p hs)
  where
    go : (b : Bool) → p h ≡ b → times n (parts_of (filter p hs)) ≤ times n (parts_of hs) → times n (parts_of (filter p (h ∷ hs))) ≤ times n (parts_of (h ∷ hs))
    go true e ih =
        rw (
          filter_yes p h hs e,
          parts_cons h (filter p hs),
          parts_cons h hs,
          times_append n h.parts (parts_of (filter p hs)),
          times_append n h.parts (parts_of hs),
        ) (omega arith)
    go false e ih = rw (filter_no p h hs e, parts_cons h hs, times_append n h.parts (parts_of hs)) (omega arith)

-- The parts of a heading and of others among the same headings.
pub times_with : (n : ℕ) (p : Heading → Bool) (hs xs : List Heading) (d : Heading) (ys : List Heading) → hs ≡ xs ++ (d ∷ ys) → p d ≡ false →
    times n (d.parts ++ parts_of (filter p hs)) ≤ times n (parts_of hs)
times_with n p hs xs d ys e f =
    let k : filter p hs ≡ filter p xs ++ filter p ys = ap (filter p) e ∙ (filter_append p xs (d ∷ ys) ∙ ap (λ l. filter p xs ++ l) (filter_no p d ys f)) in
    let a : times n (parts_of (filter p hs)) ≡ times n (parts_of (filter p xs)) + times n (parts_of (filter p ys)) =
    ap (λ l. times n (parts_of l)) k
    ∙ (ap (times n) (parts_append (filter p xs) (filter p ys)) ∙ times_append n (parts_of (filter p xs)) (parts_of (filter p ys))) in
    let b : times n (parts_of hs) ≡ times n (parts_of xs) + (times n d.parts + times n (parts_of ys)) =
    ap (λ l. times n (parts_of l)) e
    ∙ (ap (times n) (parts_append xs (d ∷ ys))
    ∙ (times_append n (parts_of xs) (parts_of (d ∷ ys)) ∙ ap (λ m. times n (parts_of xs) + m) (ap (times n) (parts_cons d ys)
    ∙ times_append n d.parts (parts_of ys)))) in
    omega (arith, times_append n d.parts (parts_of (filter p hs)), times_kept n p xs, times_kept n p ys)

-- ---- Definitions found.

pub name_same : (n : List ℕ) (d : Heading) → defines_type n d ≡ true → (is_type_definition d ≡ true) × (n ≡ d.name)
unfolding defines_type is_named
name_same n d h = go (is_type_definition d) refl h
  where
    go : (b : Bool) → is_type_definition d ≡ b → (b && same_name n d.name) ≡ true → (is_type_definition d ≡ true) × (n ≡ d.name)
    go true e h = (e, same_name_eq n d.name h)
    go false e h = let z : false ≡ true = h in (cc, absurd (zero_one cc))

pub found_defines : (n : List ℕ) (hs : List Heading) (d : Heading) → definition n hs ≡ some d → (is_type_definition d ≡ true) × (n ≡ d.name)
unfolding definition
found_defines n hs d e = name_same n d (split (defines_type n) hs d e).passes

-- The definition of a name is among the types.
pub among_types : (n : List ℕ) (hs : List Heading) (d : Heading) → definition n hs ≡ some d → any (λ e. eqb e.number d.number) (defined_types hs) ≡ true
unfolding definition defines_type defined_types
among_types n hs d e =
    found_any (defined_types hs)
    (first_firsts same_named (is_named n) (λ x y s. same x y s) [] (filter is_type_definition hs) (any_nil (is_named n))
    ∙ (sym (first_both is_type_definition (is_named n) hs) ∙ e))
  where
    same : (x y : Heading) → same_named x y ≡ true → is_named n x ≡ is_named n y
    same x y s = unfold same_named is_named in ap (same_name n) (same_name_eq x.name y.name s)

    found_any : (ds : List Heading) → find (is_named n) ds ≡ some d → any (λ e. eqb e.number d.number) ds ≡ true
    found_any [] h = let z : none ≡ some d = sym (first_nil (is_named n)) ∙ h in absurd (zero_one cc)
    found_any (x ∷ xs) h = go (is_named n x) refl (found_any xs)
      where
        go : (b : Bool) → is_named n x ≡ b → (find (is_named n) xs ≡ some d → any (λ e. eqb e.number d.number) xs ≡ true) →
            any (λ e. eqb e.number d.number) (x ∷ xs) ≡ true
        go true t ih =
            let s : some x ≡ some d = sym (first_yes (is_named n) x xs t) ∙ h in
            let q : x ≡ d = cc in
            any_yes (λ e. eqb e.number d.number) x xs (eq-eqb x.number d.number (ap (λ (e : Heading). e.number) q))
        go false t ih = step (eqb x.number d.number) refl (ih (sym (first_no (is_named n) x xs t) ∙ h))
          where
            step : (b : Bool) → eqb x.number d.number ≡ b → any (λ e. eqb e.number d.number) xs ≡ true →
                any (λ e. eqb e.number d.number) (x ∷ xs) ≡ true
            step true e r = any_yes (λ e. eqb e.number d.number) x xs e
            step false e r = any_no (λ e. eqb e.number d.number) x xs e ∙ r
