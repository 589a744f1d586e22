-- The errors of reading documents, by cards and rows: directive definitions and the schema here, types in Types.
use mathlib.Core.Path.{◌≡◌, refl, sym, ◌∙◌, ap, ap₂}
use mathlib.Core.List.{List, [], ◌∷◌, ◌++◌, map, append_assoc}
use mathlib.Core.Bool.{Bool, true, false, ◌&&◌, ◌||◌, not}
use mathlib.Core.Option.{Option, none, some}
use Prim.Native.Nat.{ℕ, ◌≤◌, ◌<◌}
use native.Mathlib.Omega.{arith}
use lib.Dec.{eqb, leb, ltb}
use borrow.Author.Tests.{eqb-true, ne_eqb, ltb-true, ltb-false, le-ltb}
use Rattle.definition.specs.Lists.{All, choose, found, filter, find, flat_map}
use Rattle.definition.specs.Names.{same_name}
use Rattle.definition.specs.Answers.{absent}
use Rattle.definition.specs.Cards.{is_type}
use Rattle.definition.specs.Headings.{NamedCard, Heading, is_kind, is_type_definition, is_type_extension, is_named, directives, standing, directive_named}
use Rattle.definition.specs.Headings.{schema_definition, schema_extensions, number_of, parts_of, parts}
use Rattle.definition.specs.Catalogue.{components, of_extensions, part_in, under_schema, schema_components, rows}
use Rattle.definition.specs.Errors.{error, heading_error, collisions, directive_errors, schema_errors, type_errors, schema_extension_errors}
use Rattle.definition.specs.Errors.{type_extension_errors, errors_at, reading_errors}
use Rattle.from_ast_collisions.specs.Earlier.{View, collision_under, merge_errors}
use Rattle.from_ast_collisions.specs.ErrorsByCards.{collides, directive_errors_at, schema_merge_errors, schema_errors_at, schema_extension_errors_at}
use Rattle.from_ast_collisions.specs.ErrorsByCards.{type_errors_at, type_extension_errors_at, errors_at_card, reading_errors_at}
use Rattle.definition.proofs.Lists.{map_append, flat_map_append, filter_nil, filter_yes, filter_no, first_both, first_nil, first_yes, first_no, split}
use Rattle.definition.proofs.All.{all_append, all_flat_map, all_every, all_to, first_cong}
use Rattle.from_ast_collisions.proofs.Tests.{or_left, or_right}
use Rattle.from_ast_collisions.proofs.Walks.{first_mapped, filter_cong}
use Rattle.from_ast_collisions.proofs.Repeats.{times, times_fewer}
use Rattle.from_ast_collisions.proofs.Earlier.{row_words, is_in}
use Rattle.from_ast_collisions.proofs.Rows.{HeadingTold, schema_stands}
use Rattle.from_ast_collisions.proofs.Collisions.{collisions_found}
use Rattle.from_ast_collisions.proofs.Known.{number_in, heading_of, Known, kind_told, extension_told, name_told, built_in_told, merge_told}
use Rattle.from_ast_collisions.proofs.Known.{Around, around, all_here, all_before, first_below, first_above, first_nowhere, first_from}
use Rattle.from_ast_collisions.proofs.Known.{first_here, number_some, number_none, filter_around, parts_cons, parts_append, components_parts}
use Rattle.from_ast_collisions.proofs.Known.{extensions_parts, times_with}
use Rattle.from_ast_collisions.proofs.Types.{walk_merged, kinds_left, type_errors_lem, type_extension_errors_lem}

-- ---- Directive definitions: an error where one that is not built-in stands before.

is_own : Heading → Bool
is_own d = not d.built_in

-- Among directives of one name, the first that is not built-in stands.
stood_found {ℓ} : {A : Type ℓ} (f : Heading → A) (b : A) (o : Option Heading) (ds : List Heading) → found o (λ c. c.built_in) true ≡ true →
    found (standing o ds) (λ d. choose d.built_in b (f d)) b ≡ found (find is_own ds) f b
unfolding is_own standing
stood_found f b none [] h = sym (rw (first_nil is_own))
stood_found f b (some c) [] h = rw (h, first_nil is_own)
stood_found f b o (d ∷ ds) h = next o h ∙ go d.built_in refl (stood_found f b (some d) ds)
  where
    next : (o : Option Heading) → found o (λ c. c.built_in) true ≡ true →
        found (standing o (d ∷ ds)) (λ d. choose d.built_in b (f d)) b ≡ found (standing (some d) ds) (λ d. choose d.built_in b (f d)) b
    next none h = refl
    next (some c) h = rw h

    stays : (ds : List Heading) → d.built_in ≡ false → standing (some d) ds ≡ some d
    stays [] e = refl
    stays (c ∷ cs) e = rw e

    go : (t : Bool) → d.built_in ≡ t → (d.built_in ≡ true → found (standing (some d) ds) (λ d. choose d.built_in b (f d)) b ≡ found (find is_own ds) f b) →
        found (standing (some d) ds) (λ d. choose d.built_in b (f d)) b ≡ found (find is_own (d ∷ ds)) f b
    go true e ih = ih e ∙ sym (rw (first_no is_own d ds (ap not e)))
    go false e ih = rw (stays ds e, first_yes is_own d ds (ap not e), e)

module _ (v : View) (a : Bool) (hs : List Heading) (k : Known v hs) where
  abbrev words : List ℕ
  words = row_words (rows a hs)

  abbrev cards : List ℕ
  cards = map number_in (filter is_type_extension hs)

  abbrev schema : ℕ
  schema = number_of (schema_definition hs)

  -- ---- What is merged into a schema that a definition s brings.

  schema_merged : (s : Heading) → schema_definition hs ≡ some s → map part_in (schema_components a hs) ≡ s.parts ++ parts_of (schema_extensions hs)
  unfolding schema_components
  schema_merged s e =
      rw e (map_append part_in (components absent s) (of_extensions (schema_extensions hs))
      ∙ ap₂ (λ l m. l ++ m) (components_parts absent s) (extensions_parts (schema_extensions hs)))

  not_extension : (s : Heading) → is_kind 4 s ≡ true → is_kind 11 s ≡ false
  unfolding is_kind
  not_extension s t = let q : s.kind ≡ 4 = eqb-true s.kind 4 t in ne_eqb s.kind 11 (λ e. omega arith)

  schema_once : (n : ℕ) (s : Heading) → schema_definition hs ≡ some s → times n (s.parts ++ parts_of (schema_extensions hs)) ≤ 1
  unfolding schema_definition schema_extensions
  schema_once n s e =
      let p = split (is_kind 4) hs s e in
      omega (arith, times_with n (is_kind 11) hs p.pre s p.post p.whole (not_extension s p.passes), k.once n)

  schema_collisions : (s : Heading) → schema_definition hs ≡ some s → (seen ps rest : List NamedCard) →
      s.parts ++ parts_of (schema_extensions hs) ≡ seen ++ (ps ++ rest) →
      All (λ x. is_in x.kind under_schema ≡ true) ps → flat_map (collision_under v words 4 schema) ps ≡ collisions 4 seen ps
  schema_collisions s f seen ps rest e i =
      collisions_found v words under_schema 4 schema (map part_in (schema_components a hs)) seen ps rest
      (schema_stands v (heading_of v) a hs k.told k.named)
      (schema_merged s f ∙ e) i
      (all_every (λ x. times x.number (seen ++ ps) ≤ 1) (λ x. times_fewer x.number _ seen ps rest e (schema_once x.number s f)) ps)

  -- The walk over schema extensions.
  pub schema_walk : (es : List Heading) → All (HeadingTold (heading_of v)) es → (s : ℕ) →
      flat_map (schema_merge_errors v words s) (map number_in es) ≡ flat_map (collision_under v words 4 s) (parts_of (schema_extensions es))
  unfolding schema_merge_errors schema_extensions
  schema_walk es t s =
      walk_merged v words 4 s (λ c. eqb (v.kind c) 11) es t
      ∙ ap (λ l. flat_map (collision_under v words 4 s) (parts_of l))
      (filter_cong (λ e. eqb (v.kind e.number) 11) (is_kind 11) es
      (all_to (HeadingTold (heading_of v)) (λ e. eqb (v.kind e.number) 11 ≡ is_kind 11 e) (extension_told v) es t))

  pub schema_parts : (es : List Heading) → All (λ h. (is_kind 4 h || is_kind 11 h) ≡ true → All (λ p. is_in p.kind under_schema ≡ true) h.parts) es →
      All (λ x. is_in x.kind under_schema ≡ true) (parts_of (schema_extensions es))
  unfolding schema_extensions parts_of parts
  schema_parts es a = all_flat_map (λ x. is_in x.kind under_schema ≡ true) parts (filter (is_kind 11) es) (go es a)
    where
      go : (es : List Heading) → All (λ h. (is_kind 4 h || is_kind 11 h) ≡ true → All (λ p. is_in p.kind under_schema ≡ true) h.parts) es →
          All (λ e. All (λ x. is_in x.kind under_schema ≡ true) e.parts) (filter (is_kind 11) es)
      go [] a = rw (filter_nil (is_kind 11)) tt
      go (e ∷ es) a = step (is_kind 11 e) refl (go es a.1)
        where
          step : (b : Bool) → is_kind 11 e ≡ b → All (λ e. All (λ x. is_in x.kind under_schema ≡ true) e.parts) (filter (is_kind 11) es) →
              All (λ e. All (λ x. is_in x.kind under_schema ≡ true) e.parts) (filter (is_kind 11) (e ∷ es))
          step true t ih = rw (filter_yes (is_kind 11) e es t) (a.0 (or_right (is_kind 4 e) (is_kind 11 e) t), ih)
          step false t ih = rw (filter_no (is_kind 11) e es t) ih

  module _ (before : List Heading) (h : Heading) (after : List Heading) (w : Around hs before h after) where
    told_here : HeadingTold (heading_of v) h
    told_here = all_here hs before h after w (HeadingTold (heading_of v)) k.told

    kind_here : v.kind h.number ≡ h.kind
    kind_here = kind_told v h told_here

    told_before : All (HeadingTold (heading_of v)) before
    told_before = all_before hs before h after w (HeadingTold (heading_of v)) k.told

    -- ---- Directive definitions.

    collides_is : (e : Heading) → HeadingTold (heading_of v) e → collides v h.number e.number ≡ (is_kind 3 e && (is_named h.name e && is_own e))
    unfolding collides is_kind is_named is_own
    collides_is e t =
        rw (kind_told v e t, built_in_told v e t, name_told v e t, name_told v h told_here)
        (go (eqb e.kind 3) (not e.built_in) (same_name h.name e.name))
      where
        go : (p q r : Bool) → (p && (q && r)) ≡ (p && (r && q))
        go true true true = refl
        go true true false = refl
        go true false true = refl
        go true false false = refl
        go false q r = refl

    pub directive_errors_lem : directive_errors_at v (map number_in before) h.number ≡ directive_errors before h
    unfolding directive_errors_at directive_errors directive_named directives heading_error
    directive_errors_lem =
        first_mapped (collides v h.number) number_in (λ c. error 3 h.number c ∷ []) [] before
        ∙ (ap (λ o. found o (λ d. error 3 h.number d.number ∷ []) [])
        (first_cong (λ e. collides v h.number e.number) (λ e. is_kind 3 e && (is_named h.name e && is_own e)) before
        (all_to (HeadingTold (heading_of v)) (λ e. collides v h.number e.number ≡ (is_kind 3 e && (is_named h.name e && is_own e))) collides_is
        before told_before)
        ∙ (first_both (is_kind 3) (λ e. is_named h.name e && is_own e) before ∙ first_both (is_named h.name) is_own (filter (is_kind 3) before)))
        ∙ sym (stood_found (λ d. error 3 h.number d.number ∷ []) [] none (filter (is_named h.name) (filter (is_kind 3) before)) refl))

    -- ---- The schema.

    schemed_here : (is_kind 4 h || is_kind 11 h) ≡ true → All (λ p. is_in p.kind under_schema ≡ true) h.parts
    schemed_here =
        all_here hs before h after w (λ h. (is_kind 4 h || is_kind 11 h) ≡ true → All (λ p. is_in p.kind under_schema ≡ true) h.parts) k.schemed

    new_schema : is_kind 4 h ≡ true → schema_definition hs ≡ some h →
        merge_errors v words 4 schema h.number ++ flat_map (schema_merge_errors v words schema) (map number_in before) ≡
        collisions 4 [] (h.parts ++ parts_of (schema_extensions before))
    unfolding schema_extensions
    new_schema t f =
        ap₂ (λ l m. l ++ m) (merge_told v h told_here words 4 schema) (schema_walk before told_before schema)
        ∙ (sym (flat_map_append (collision_under v words 4 schema) h.parts (parts_of (schema_extensions before)))
        ∙ schema_collisions h f [] (h.parts ++ parts_of (schema_extensions before)) (parts_of (schema_extensions (h ∷ after)))
        (ap (λ l. h.parts ++ parts_of l) (filter_around hs before h after w (is_kind 11))
        ∙ (ap (λ l. h.parts ++ l) (parts_append (schema_extensions before) (schema_extensions (h ∷ after)))
        ∙ sym (append_assoc h.parts (parts_of (schema_extensions before)) (parts_of (schema_extensions (h ∷ after))))))
        (all_append (λ x. is_in x.kind under_schema ≡ true) h.parts (parts_of (schema_extensions before))
        (schemed_here (or_left (is_kind 4 h) (is_kind 11 h) t))
        (schema_parts before (all_before hs before h after w _ k.schemed))))

    pub schema_errors_lem : is_kind 4 h ≡ true → schema_errors_at v words schema (map number_in before) h.number ≡ schema_errors before h
    unfolding schema_errors_at schema_errors schema_definition heading_error
    schema_errors_lem t =
        let f = first_from hs before h after w (is_kind 4) t in
        go (ltb schema h.number) refl f.0 f.1 f.2
      where
        go : (b : Bool) → ltb schema h.number ≡ b → (s : Heading) → schema_definition hs ≡ some s → s.number ≤ h.number →
            choose (ltb schema h.number) (error 2 h.number schema ∷ [])
            (merge_errors v words 4 schema h.number ++ flat_map (schema_merge_errors v words schema) (map number_in before)) ≡
            found (schema_definition before) (λ s. heading_error 2 s.number h) (collisions 4 [] (h.parts ++ parts_of (schema_extensions before)))
        go true b s e l =
            let q : schema ≡ s.number = number_some (schema_definition hs) s e in
            let m = ltb-true schema h.number b in
            let f : schema_definition before ≡ some s = first_below hs before h after w (is_kind 4) s e (omega arith) in
            rw (b, f) (ap (λ c. error 2 h.number c ∷ []) q)
        go false b s e l =
            let q : schema ≡ s.number = number_some (schema_definition hs) s e in
            let m = ltb-false schema h.number b in
            let f : schema_definition before ≡ none = first_above hs before h after w (is_kind 4) s e (omega arith) in
            rw (b, f) (new_schema t (first_here hs before h after w (is_kind 4) t f))

    extension_around : (s : Heading) → is_kind 11 h ≡ true →
        s.parts ++ parts_of (schema_extensions hs) ≡ (s.parts ++ parts_of (schema_extensions before)) ++ (h.parts ++ parts_of (schema_extensions after))
    unfolding schema_extensions
    extension_around s t =
        ap (λ l. s.parts ++ parts_of l) (filter_around hs before h after w (is_kind 11)
        ∙ ap (λ l. filter (is_kind 11) before ++ l) (filter_yes (is_kind 11) h after t))
        ∙ (ap (λ l. s.parts ++ l)
        (parts_append (filter (is_kind 11) before) (h ∷ filter (is_kind 11) after)
        ∙ ap (λ l. parts_of (filter (is_kind 11) before) ++ l) (parts_cons h (filter (is_kind 11) after)))
        ∙ sym (append_assoc s.parts (parts_of (filter (is_kind 11) before)) (h.parts ++ parts_of (filter (is_kind 11) after))))

    pub schema_extension_errors_lem : is_kind 11 h ≡ true → schema_extension_errors_at v words schema h.number ≡ schema_extension_errors before h
    unfolding schema_extension_errors_at schema_extension_errors schema_definition
    schema_extension_errors_lem t = go (ltb schema h.number) refl (schema_definition hs) refl
      where
        low : h.number < v.used
        low = all_here hs before h after w (λ h. h.number < v.used) k.held

        go : (b : Bool) → ltb schema h.number ≡ b → (o : Option Heading) → schema_definition hs ≡ o →
            choose (ltb schema h.number) (merge_errors v words 4 schema h.number) [] ≡
            found (schema_definition before) (λ s. collisions 4 (s.parts ++ parts_of (schema_extensions before)) h.parts) []
        go b e none f =
            let q : schema ≡ absent = number_none (schema_definition hs) f in
            let few = k.few in
            let l = low in
            let y : ltb schema h.number ≡ false = le-ltb schema h.number (omega arith) in
            let z : schema_definition before ≡ none = first_nowhere hs before h after w (is_kind 4) f in
            rw (y, z)
        go true e (some s) f =
            let q : schema ≡ s.number = number_some (schema_definition hs) s f in
            let m = ltb-true schema h.number e in
            let z : schema_definition before ≡ some s = first_below hs before h after w (is_kind 4) s f (omega arith) in
            rw (e, z) (merge_told v h told_here words 4 schema
            ∙ schema_collisions s f (s.parts ++ parts_of (schema_extensions before)) h.parts (parts_of (schema_extensions after))
            (extension_around s t) (schemed_here (or_right (is_kind 4 h) (is_kind 11 h) t)))
        go false e (some s) f =
            let q : schema ≡ s.number = number_some (schema_definition hs) s f in
            let m = ltb-false schema h.number e in
            let z : schema_definition before ≡ none = first_above hs before h after w (is_kind 4) s f (omega arith) in
            rw (e, z)

    -- ---- Any heading.

    pub errors_at_lem : errors_at_card v words schema cards (map number_in before) h.number ≡ errors_at before h
    unfolding errors_at_card errors_at heading_error is_type_definition is_kind
    errors_at_lem =
        rw kind_here
        (go (leb h.kind 2) (eqb h.kind 3) (eqb h.kind 4) (is_type h.kind) (eqb h.kind 11) refl refl refl refl refl)
      where
        go : (p q r s t : Bool) → leb h.kind 2 ≡ p → eqb h.kind 3 ≡ q → eqb h.kind 4 ≡ r → is_type h.kind ≡ s → eqb h.kind 11 ≡ t →
            choose (leb h.kind 2) (error 1 h.number absent ∷ [])
            (choose (eqb h.kind 3) (directive_errors_at v (map number_in before) h.number)
            (choose (eqb h.kind 4) (schema_errors_at v words schema (map number_in before) h.number)
            (choose (is_type h.kind) (type_errors_at v words cards h.number)
            (choose (eqb h.kind 11) (schema_extension_errors_at v words schema h.number) (type_extension_errors_at v words h.number))))) ≡
            choose (leb h.kind 2) (error 1 h.number absent ∷ [])
            (choose (eqb h.kind 3) (directive_errors before h)
            (choose (eqb h.kind 4) (schema_errors before h)
            (choose (is_type h.kind) (type_errors before h)
            (choose (eqb h.kind 11) (schema_extension_errors before h) (type_extension_errors before h)))))
        go true q r s t e f g i j = rw e
        go false true r s t e f g i j = rw (e, f) directive_errors_lem
        go false false true s t e f g i j = rw (e, f, g) (schema_errors_lem g)
        go false false false true t e f g i j = rw (e, f, g, i) (type_errors_lem v a hs k before h after w i)
        go false false false false true e f g i j = rw (e, f, g, i, j) (schema_extension_errors_lem j)
        go false false false false false e f g i j =
            rw (e, f, g, i, j)
            (type_extension_errors_lem v a hs k before h after w (kinds_left h (all_here hs before h after w (λ h. h.kind ≤ 17) k.most) e f g i j))

  -- ---- All of them.

  reading_nil : (bs : List ℕ) → reading_errors_at v words schema cards bs [] ≡ []
  unfolding reading_errors_at
  reading_nil bs = refl

  reading_cons : (bs : List ℕ) (c : ℕ) (cs : List ℕ) →
      reading_errors_at v words schema cards bs (c ∷ cs) ≡ errors_at_card v words schema cards bs c ++ reading_errors_at v words schema cards (bs ++ (c ∷ [])) cs
  unfolding reading_errors_at
  reading_cons bs c cs = refl

  reading_from : (before rest : List Heading) → hs ≡ before ++ rest → reading_errors_at v words schema cards (map number_in before) (map number_in rest) ≡
      reading_errors before rest
  unfolding reading_errors
  reading_from before [] e = reading_nil (map number_in before)
  reading_from before (h ∷ rest) e =
      reading_cons (map number_in before) h.number (map number_in rest)
      ∙ ap₂ (λ l m. l ++ m) (errors_at_lem before h rest (around hs before h rest e k.rising))
      (ap (λ bs. reading_errors_at v words schema cards bs (map number_in rest)) (sym (map_append number_in before (h ∷ [])))
      ∙ reading_from (before ++ (h ∷ [])) rest (e ∙ sym (append_assoc before (h ∷ []) rest)))

  pub reading_found : reading_errors_at v words schema cards [] (map number_in hs) ≡ reading_errors [] hs
  reading_found = reading_from [] hs refl
