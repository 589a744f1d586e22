-- Each card gives at most one error: whatever cards are made to weigh, a drawing's errors weigh no more than the cards.
use mathlib.Core.Path.{◌≡◌, refl, ◌∙◌, ap, subst}
use mathlib.Core.List.{List, [], ◌∷◌, ◌++◌, map, append_assoc, append-nil}
use mathlib.Core.Bool.{Bool, true, false, ◌&&◌, not}
use mathlib.Core.Option.{Option, none, some}
use Prim.Native.Nat.{ℕ, ◌+◌, ◌-◌, ◌≤◌}
use native.Mathlib.Omega.{arith}
use native.Mathlib.Nat.{le_refl}
use lib.Dec.{eqb, leb}
use borrow.Author.Tests.{eqb-true, ne_eqb, leb-true, le-leb, lt-leb}
use Rattle.definition.specs.Lists.{filter, is_empty, find, flat_map, firsts, repeats}
use Rattle.definition.specs.Names.{same_name}
use Rattle.definition.specs.Cards.{is_type}
use Rattle.definition.specs.Answers.{absent}
use Rattle.definition.specs.Headings.{Heading, NamedCard, is_kind, is_type_definition, is_type_extension, is_named, same_named, is_missing, is_orphan, orphans}
use Rattle.definition.specs.Headings.{alike, extensions_of, is_of, definition, defines_type, directive_named, schema_definition, schema_extensions, parts}
use Rattle.definition.specs.Headings.{parts_of}
use Rattle.definition.specs.Errors.{Error, error, heading_error, late_extension_errors, collision, collisions, directive_errors, schema_errors}
use Rattle.definition.specs.Errors.{schema_extension_errors, redefinition_errors, type_errors, type_extension_errors, errors_at, reading_errors, adoption_errors}
use Rattle.definition.specs.Errors.{orphan_errors, no_schema_errors, drawing_errors}
use Rattle.definition.specs.Catalogue.{default_roots, part_in}
use Rattle.definition.proofs.Tests.{and_true}
use Rattle.definition.proofs.Lists.{filter_nil, filter_append, first_nil, first_yes, first_no, first_append_some, first_append_none, same_name_eq}
use Rattle.definition.proofs.Lists.{same_name_refl}
use Rattle.definition.proofs.Sums.{sum, gate, gate_le, sum_append, sum_to, sum_gate, sum_filter, sum_two, sum_implies, sum_kept, sum_map, sum_flat_map}
use Rattle.definition.proofs.Sums.{sum_groups}
use Rattle.definition.proofs.RowBound.{one_named}
use Rattle.definition.proofs.DocumentHeadings.{parts_w, whole}

abbrev pub error_w : (ℕ → ℕ) → Error → ℕ
error_w w e = w e.card

module _ (w : ℕ → ℕ) where
  collisions_weigh : (k : ℕ) (seen ps : List NamedCard) → sum (error_w w) (collisions k seen ps) ≤ sum (λ p. w p.number) ps
  unfolding collisions collision error
  collisions_weigh k seen ps =
      omega (arith, sum_map (error_w w) (collision k) (repeats alike seen ps), sum_kept alike (λ p. w p.number) seen ps)

  parts_weigh : (hs : List Heading) → sum (λ p. w p.number) (parts_of hs) ≡ sum (parts_w w) hs
  unfolding parts_of parts
  parts_weigh hs = sum_flat_map (λ p. w p.number) parts hs

  own_weighs : (h : Heading) (before : List Heading) (k : ℕ) →
      sum (error_w w) (collisions k [] (h.parts ++ parts_of before)) ≤ parts_w w h + sum (parts_w w) before
  own_weighs h before k =
      omega (arith, collisions_weigh k [] (h.parts ++ parts_of before), sum_append (λ p. w p.number) h.parts (parts_of before), parts_weigh before)

  parts_le : (hs : List Heading) → sum (parts_w w) hs ≤ sum (whole w) hs
  parts_le hs = sum_to (parts_w w) (whole w) (λ h. omega arith) hs

-- What may still give an error later: extensions that have met no definition.
module _ (w : ℕ → ℕ) where
  waiting_types : List Heading → ℕ
  waiting_types hs = sum (whole w) (filter (is_orphan hs) hs)

  waiting_schema : List Heading → ℕ
  waiting_schema hs = gate (is_missing (schema_definition hs)) (sum (whole w) (filter (is_kind 11) hs))

missing_more : (p : Heading → Bool) (hs : List Heading) (h : Heading) →
    is_missing (find p (hs ++ (h ∷ []))) ≡ (is_missing (find p hs) && not (p h))
unfolding is_missing
missing_more p hs h = go (find p hs) (p h) refl refl
  where
    go : (o : Option Heading) (b : Bool) → find p hs ≡ o → p h ≡ b → is_missing (find p (hs ++ (h ∷ []))) ≡ (is_missing (find p hs) && not (p h))
    go (some d) b e f = simp (first_append_some p hs (h ∷ []) d e, e)
    go none true e f = simp (first_append_none p hs (h ∷ []) e, first_yes p h [] f, e, f)
    go none false e f = simp (first_append_none p hs (h ∷ []) e, first_no p h [] f, first_nil, e, f)

module _ (w : ℕ → ℕ) (before : List Heading) (h : Heading) where
  -- the new one waits if it is an extension without a definition
  types_wait : waiting_types w (before ++ (h ∷ [])) ≤ waiting_types w before + gate (is_orphan before h) (whole w h)
  unfolding waiting_types is_orphan definition
  types_wait =
      omega (
        arith,
        ap (sum (whole w)) (filter_append (is_orphan (before ++ (h ∷ []))) before (h ∷ [])),
        sum_append (whole w) (filter (is_orphan (before ++ (h ∷ []))) before) (filter (is_orphan (before ++ (h ∷ []))) (h ∷ [])),
        sum_gate (whole w) (is_orphan (before ++ (h ∷ []))) h [],
        ap (sum (whole w)) (filter_nil (is_orphan (before ++ (h ∷ [])))),
        sum_implies (whole w) (is_orphan (before ++ (h ∷ []))) (is_orphan before) fewer before,
        fewer h (whole w h),
      )
    where
      less : (t m d : Bool) (v : ℕ) → gate (t && (m && d)) v ≤ gate (t && m) v
      less true true d v = gate_le d v
      less true false d v = omega arith
      less false m d v = omega arith

      fewer : (e : Heading) (v : ℕ) → gate (is_orphan (before ++ (h ∷ [])) e) v ≤ gate (is_orphan before e) v
      fewer e v = rw (missing_more (defines_type e.name) before h)
          (less (is_type_extension e) (is_missing (find (defines_type e.name) before)) (not (defines_type e.name h)) v)

  no_extension : is_type_extension h ≡ false → waiting_types w (before ++ (h ∷ [])) ≤ waiting_types w before
  unfolding is_orphan
  no_extension t = omega (arith, simp t at types_wait)

  -- a type's first definition takes away those that wait for it, of whatever kind
  is_early : Heading → Bool
  is_early e = is_type_extension e && is_named h.name e

  types_met : is_type_definition h ≡ true → definition h.name before ≡ none →
      waiting_types w (before ++ (h ∷ [])) + sum (whole w) (filter is_early before) ≤ waiting_types w before
  unfolding waiting_types is_orphan definition is_missing is_named is_type_extension is_type_definition is_type defines_type is_early
  types_met t n =
      omega (
        arith,
        ap (sum (whole w)) (filter_append (is_orphan (before ++ (h ∷ []))) before (h ∷ [])),
        sum_append (whole w) (filter (is_orphan (before ++ (h ∷ []))) before) (filter (is_orphan (before ++ (h ∷ []))) (h ∷ [])),
        sum_gate (whole w) (is_orphan (before ++ (h ∷ []))) h [],
        ap (sum (whole w)) (filter_nil (is_orphan (before ++ (h ∷ [])))),
        own,
        sum_two (whole w) (is_orphan (before ++ (h ∷ []))) is_early (is_orphan before) (λ e v. each e v (is_early e) refl) before,
      )
    where
      own : gate (is_orphan (before ++ (h ∷ [])) h) (whole w h) ≡ 0
      own = simp (lt-leb 12 h.kind (omega (arith, leb-true h.kind 10 (and_true (leb 5 h.kind) (leb h.kind 10) t).1)))

      less : (t m d : Bool) (v : ℕ) → gate (t && (m && d)) v + 0 ≤ gate (t && m) v
      less true true d v = omega (arith, gate_le d v)
      less true false d v = omega arith
      less false m d v = omega arith

      each : (e : Heading) (v : ℕ) (b : Bool) → is_early e ≡ b →
          gate (is_orphan (before ++ (h ∷ [])) e) v + gate (is_early e) v ≤ gate (is_orphan before e) v
      each e v true x =
          let k : is_type_extension e ≡ true = (and_true (is_type_extension e) (same_name h.name e.name) x).0 in
          let m : h.name ≡ e.name = same_name_eq h.name e.name (and_true (is_type_extension e) (same_name h.name e.name) x).1 in
          let f : find (defines_type e.name) before ≡ none = subst (λ s. find (defines_type s) before ≡ none) m n in
          let g : defines_type e.name h ≡ true = simp (m, same_name_refl, t) in
          let o : is_missing (find (defines_type e.name) (before ++ (h ∷ []))) ≡ false = missing_more (defines_type e.name) before h ∙ simp (f, g) in
          simp (k, f, o) (omega (arith, gate_le (same_name h.name e.name) v))
      each e v false x =
          rw (x, missing_more (defines_type e.name) before h)
          (less (is_type_extension e) (is_missing (find (defines_type e.name) before)) (not (defines_type e.name h)) v)

  -- those that it merges are among them
  early : is_type_definition h ≡ true → sum (parts_w w) (filter (is_of (h.kind + 7) h.name) before) ≤ sum (whole w) (filter is_early before)
  unfolding is_early is_of is_kind is_type_extension is_type_definition is_type
  early t =
      omega (
        arith,
        parts_le w (filter (is_of (h.kind + 7) h.name) before),
        sum_implies (whole w) (is_of (h.kind + 7) h.name) is_early (λ e v. each e v (eqb e.kind (h.kind + 7)) refl) before,
      )
    where
      each : (e : Heading) (v : ℕ) (b : Bool) → eqb e.kind (h.kind + 7) ≡ b → gate (is_of (h.kind + 7) h.name e) v ≤ gate (is_early e) v
      each e v true x =
          let k = eqb-true e.kind (h.kind + 7) x in
          let l = leb-true 5 h.kind (and_true (leb 5 h.kind) (leb h.kind 10) t).0 in
          let u = leb-true h.kind 10 (and_true (leb 5 h.kind) (leb h.kind 10) t).1 in
          let a : leb 12 e.kind ≡ true = le-leb 12 e.kind (omega arith) in
          let c : leb e.kind 17 ≡ true = le-leb e.kind 17 (omega arith) in
          simp (x, a, c) (le_refl (gate (is_named h.name e) v))
      each e v false x = simp x (omega arith)

  -- so with the schema
  schema_more : waiting_schema w (before ++ (h ∷ [])) ≡
      gate (is_missing (schema_definition before) && not (is_kind 4 h)) (sum (whole w) (filter (is_kind 11) before) + gate (is_kind 11 h) (whole w h))
  unfolding waiting_schema schema_definition
  schema_more =
      rw (missing_more (is_kind 4) before h) (ap (gate (is_missing (find (is_kind 4) before) && not (is_kind 4 h)))
      (omega (
        arith,
        ap (sum (whole w)) (filter_append (is_kind 11) before (h ∷ [])),
        sum_append (whole w) (filter (is_kind 11) before) (filter (is_kind 11) (h ∷ [])),
        sum_gate (whole w) (is_kind 11) h [],
        ap (sum (whole w)) (filter_nil (is_kind 11)),
      )))

  no_schema_extension : is_kind 11 h ≡ false → waiting_schema w (before ++ (h ∷ [])) ≤ waiting_schema w before
  unfolding waiting_schema
  no_schema_extension e = omega (arith, schema_more, less (is_missing (schema_definition before)) (is_kind 4 h))
    where
      less : (m d : Bool) → gate (m && not d) (sum (whole w) (filter (is_kind 11) before) + gate (is_kind 11 h) (whole w h)) ≤
          gate m (sum (whole w) (filter (is_kind 11) before))
      less true true = omega arith
      less true false = simp e (omega arith)
      less false d = omega arith

  schema_waits : waiting_schema w (before ++ (h ∷ [])) ≤ waiting_schema w before + gate (is_missing (schema_definition before)) (whole w h)
  unfolding waiting_schema
  schema_waits = omega (arith, schema_more, less (is_missing (schema_definition before)) (is_kind 4 h))
    where
      less : (m d : Bool) → gate (m && not d) (sum (whole w) (filter (is_kind 11) before) + gate (is_kind 11 h) (whole w h)) ≤
          gate m (sum (whole w) (filter (is_kind 11) before)) + gate m (whole w h)
      less true true = omega arith
      less true false = omega (arith, gate_le (is_kind 11 h) (whole w h))
      less false d = omega arith

  schema_met : is_kind 4 h ≡ true → waiting_schema w (before ++ (h ∷ [])) ≡ 0
  schema_met e = schema_more ∙ go (is_missing (schema_definition before))
    where
      go : (m : Bool) → gate (m && not (is_kind 4 h)) (sum (whole w) (filter (is_kind 11) before) + gate (is_kind 11 h) (whole w h)) ≡ 0
      go true = simp e
      go false = refl

-- The branches of `errors_at`.
module _ (before : List Heading) (h : Heading) where
  at_executable : leb h.kind 2 ≡ true → errors_at before h ≡ heading_error 1 absent h
  unfolding errors_at
  at_executable a = rw a

  at_directive : leb h.kind 2 ≡ false → is_kind 3 h ≡ true → errors_at before h ≡ directive_errors before h
  unfolding errors_at
  at_directive a b = rw (a, b)

  at_schema : leb h.kind 2 ≡ false → is_kind 3 h ≡ false → is_kind 4 h ≡ true → errors_at before h ≡ schema_errors before h
  unfolding errors_at
  at_schema a b c = rw (a, b, c)

  at_type : leb h.kind 2 ≡ false → is_kind 3 h ≡ false → is_kind 4 h ≡ false → is_type_definition h ≡ true → errors_at before h ≡ type_errors before h
  unfolding errors_at
  at_type a b c d = rw (a, b, c, d)

  at_schema_extension_lem : leb h.kind 2 ≡ false → is_kind 3 h ≡ false → is_kind 4 h ≡ false → is_type_definition h ≡ false → is_kind 11 h ≡ true →
      errors_at before h ≡ schema_extension_errors before h
  unfolding errors_at
  at_schema_extension_lem a b c d e = rw (a, b, c, d, e)

  at_type_extension_lem : leb h.kind 2 ≡ false → is_kind 3 h ≡ false → is_kind 4 h ≡ false → is_type_definition h ≡ false → is_kind 11 h ≡ false →
      errors_at before h ≡ type_extension_errors before h
  unfolding errors_at
  at_type_extension_lem a b c d e = rw (a, b, c, d, e)

-- What each helper gives weighs at most what it is about.
module _ (w : ℕ → ℕ) where
  error_weighs : (n e : ℕ) (h : Heading) → sum (error_w w) (heading_error n e h) ≤ w h.number
  unfolding heading_error error
  error_weighs n e h = omega arith

  directive_weighs : (before : List Heading) (h : Heading) → sum (error_w w) (directive_errors before h) ≤ w h.number
  unfolding directive_errors
  directive_weighs before h = of (directive_named h.name before) refl
    where
      go : (d : Heading) → directive_named h.name before ≡ some d → (b : Bool) → d.built_in ≡ b → sum (error_w w) (directive_errors before h) ≤ w h.number
      go d o true e = rw (o, e) (omega arith)
      go d o false e = rw (o, e) (error_weighs 3 d.number h)

      of : (o : Option Heading) → directive_named h.name before ≡ o → sum (error_w w) (directive_errors before h) ≤ w h.number
      of none o = rw o (omega arith)
      of (some d) o = go d o d.built_in refl

  redefinition_weighs : (h d : Heading) → sum (error_w w) (redefinition_errors h d) ≤ w h.number
  unfolding redefinition_errors is_kind heading_error
  redefinition_weighs h d = go d.built_in h.ignored (is_kind 5 h) refl refl refl
    where
      go : (a b c : Bool) → d.built_in ≡ a → h.ignored ≡ b → is_kind 5 h ≡ c → sum (error_w w) (redefinition_errors h d) ≤ w h.number
      go true true c e f g = rw (e, f) (omega arith)
      go true false true e f g = rw (e, f, g) (error_weighs 5 absent h)
      go true false false e f g = rw (e, f, g) (error_weighs 4 d.number h)
      go false b c e f g = rw e (error_weighs 4 d.number h)

  extension_weighs : (before : List Heading) (h d : Heading) → sum (error_w w) (late_extension_errors before h d) ≤ whole w h
  unfolding late_extension_errors
  extension_weighs before h d = go (is_kind (d.kind + 7) h) refl
    where
      go : (b : Bool) → is_kind (d.kind + 7) h ≡ b → sum (error_w w) (late_extension_errors before h d) ≤ whole w h
      go true e = rw e (omega (arith, collisions_weigh w d.kind (d.parts ++ parts_of (extensions_of h.kind h.name before)) h.parts))
      go false e = rw e (omega (arith, error_weighs 8 d.number h))

  adoption_weighs : (g : Heading) (seen : List NamedCard) (es : List Heading) → sum (error_w w) (adoption_errors g seen es) ≤ sum (whole w) es
  unfolding adoption_errors
  adoption_weighs g seen [] = omega arith
  adoption_weighs g seen (e ∷ es) = go (is_kind g.kind e) refl (adoption_weighs g (seen ++ e.parts) es) (adoption_weighs g seen es)
    where
      go : (b : Bool) → is_kind g.kind e ≡ b → sum (error_w w) (adoption_errors g (seen ++ e.parts) es) ≤ sum (whole w) es →
          sum (error_w w) (adoption_errors g seen es) ≤ sum (whole w) es → sum (error_w w) (adoption_errors g seen (e ∷ es)) ≤ whole w e + sum (whole w) es
      go true b ih _ =
          rw b (omega (
            arith,
            sum_append (error_w w) (collisions (g.kind - 7) seen e.parts) (adoption_errors g (seen ++ e.parts) es),
            collisions_weigh w (g.kind - 7) seen e.parts,
          ))
      go false b _ ih =
          rw b (omega (arith, sum_append (error_w w) (heading_error 8 g.number e) (adoption_errors g seen es), error_weighs 8 g.number e))

  each_weighs : (n : ℕ) (es : List Heading) → sum (error_w w) (flat_map (heading_error n absent) es) ≤ sum (whole w) es
  each_weighs n es =
      omega (
        arith,
        sum_flat_map (error_w w) (heading_error n absent) es,
        sum_to (λ e. sum (error_w w) (heading_error n absent e)) (whole w) (λ e. omega (arith, error_weighs n absent e)) es,
      )

  orphan_weighs : (a : Bool) (os : List Heading) (g : Heading) → sum (error_w w) (orphan_errors a os g) ≤ sum (whole w) (filter (same_named g) os)
  unfolding orphan_errors
  orphan_weighs true os g = adoption_weighs g [] (filter (same_named g) os)
  orphan_weighs false os g = each_weighs 7 (filter (same_named g) os)

-- Reading one more heading.
module _ (w : ℕ → ℕ) (before : List Heading) (h : Heading) where
  Step : Type 0
  Step = sum (error_w w) (errors_at before h) + waiting_types w (before ++ (h ∷ [])) + waiting_schema w (before ++ (h ∷ [])) ≤
      waiting_types w before + waiting_schema w before + whole w h

  plain : is_type_extension h ≡ false → is_kind 11 h ≡ false → sum (error_w w) (errors_at before h) ≤ w h.number → Step
  unfolding Step
  plain t s e = omega (arith, no_extension w before h t, no_schema_extension w before h s)

  kind_is : (k : ℕ) → is_kind k h ≡ true → h.kind ≡ k
  unfolding is_kind
  kind_is k e = eqb-true h.kind k e

  not_extension : (h.kind ≤ 11) → is_type_extension h ≡ false
  unfolding is_type_extension
  not_extension l = simp (lt-leb 12 h.kind (omega arith))

  not_schema_extension : (h.kind ≤ 10) → is_kind 11 h ≡ false
  unfolding is_kind
  not_schema_extension l = ne_eqb h.kind 11 (omega arith)

  type_low : is_type_definition h ≡ true → h.kind ≤ 10
  unfolding is_type_definition is_type
  type_low t = leb-true h.kind 10 (and_true (leb 5 h.kind) (leb h.kind 10) t).1

  schema_step : (o : Option Heading) → schema_definition before ≡ o → is_kind 4 h ≡ true → errors_at before h ≡ schema_errors before h → Step
  unfolding Step schema_errors waiting_schema is_missing schema_extensions
  schema_step (some s) o k e =
      plain (not_extension (omega (arith, kind_is 4 k))) (not_schema_extension (omega (arith, kind_is 4 k))) (rw (e, o) (error_weighs w 2 s.number h))
  schema_step none o k e =
      rw (e, o) (omega (
        arith,
        no_extension w before h (not_extension (omega (arith, kind_is 4 k))),
        schema_met w before h k,
        own_weighs w h (filter (is_kind 11) before) 4,
        parts_le w (filter (is_kind 11) before),
      ))

  type_step : (o : Option Heading) → definition h.name before ≡ o → is_type_definition h ≡ true → errors_at before h ≡ type_errors before h → Step
  unfolding Step type_errors extensions_of
  type_step (some d) o t e =
      plain (not_extension (omega (arith, type_low t))) (not_schema_extension (type_low t)) (rw (e, o) (redefinition_weighs w h d))
  type_step none o t e =
      rw (e, o) (omega (
        arith,
        types_met w before h t o,
        early w before h t,
        no_schema_extension w before h (not_schema_extension (type_low t)),
        own_weighs w h (filter (is_of (h.kind + 7) h.name) before) h.kind,
      ))

  schema_extension_step : (o : Option Heading) → schema_definition before ≡ o → is_kind 11 h ≡ true → errors_at before h ≡ schema_extension_errors before h → Step
  unfolding Step schema_extension_errors is_missing
  schema_extension_step (some s) o k e =
      rw (e, o) (omega (
        arith,
        no_extension w before h (not_extension (omega (arith, kind_is 11 k))),
        rw o at (schema_waits w before h),
        collisions_weigh w 4 (s.parts ++ parts_of (schema_extensions before)) h.parts,
      ))
  schema_extension_step none o k e =
      rw (e, o) (omega (arith, no_extension w before h (not_extension (omega (arith, kind_is 11 k))), rw o at (schema_waits w before h)))

  type_extension_step : (o : Option Heading) → definition h.name before ≡ o → is_kind 11 h ≡ false → errors_at before h ≡ type_extension_errors before h → Step
  unfolding Step is_missing is_orphan type_extension_errors
  type_extension_step (some d) o k e =
      rw (e, o) (omega (arith, types_wait w before h, waits_not, no_schema_extension w before h k, extension_weighs w before h d))
    where
      no : (t : Bool) → gate (t && false) (whole w h) ≡ 0
      no true = refl
      no false = refl

      waits_not : gate (is_orphan before h) (whole w h) ≡ 0
      waits_not = rw o (no (is_type_extension h))
  type_extension_step none o k e =
      rw (e, o) (omega (arith, types_wait w before h, gate_le (is_orphan before h) (whole w h), no_schema_extension w before h k))

  step : Step
  unfolding Step
  step = go₁ (leb h.kind 2) refl
    where
      go₅ : (b : Bool) → leb h.kind 2 ≡ false → is_kind 3 h ≡ false → is_kind 4 h ≡ false → is_type_definition h ≡ false → is_kind 11 h ≡ b → Step
      go₅ true p q r s e = schema_extension_step (schema_definition before) refl e (at_schema_extension_lem before h p q r s e)
      go₅ false p q r s e = type_extension_step (definition h.name before) refl e (at_type_extension_lem before h p q r s e)

      go₄ : (b : Bool) → leb h.kind 2 ≡ false → is_kind 3 h ≡ false → is_kind 4 h ≡ false → is_type_definition h ≡ b → Step
      go₄ true p q r e = type_step (definition h.name before) refl e (at_type before h p q r e)
      go₄ false p q r e = go₅ (is_kind 11 h) p q r e refl

      go₃ : (b : Bool) → leb h.kind 2 ≡ false → is_kind 3 h ≡ false → is_kind 4 h ≡ b → Step
      go₃ true p q e = schema_step (schema_definition before) refl e (at_schema before h p q e)
      go₃ false p q e = go₄ (is_type_definition h) p q e refl

      go₂ : (b : Bool) → leb h.kind 2 ≡ false → is_kind 3 h ≡ b → Step
      go₂ true p e =
          plain (not_extension (omega (arith, kind_is 3 e))) (not_schema_extension (omega (arith, kind_is 3 e)))
          (rw (at_directive before h p e) (directive_weighs w before h))
      go₂ false p e = go₃ (is_kind 4 h) p e refl

      go₁ : (b : Bool) → leb h.kind 2 ≡ b → Step
      go₁ true e =
          plain (not_extension (omega (arith, leb-true h.kind 2 e))) (not_schema_extension (omega (arith, leb-true h.kind 2 e)))
          (rw (at_executable before h e) (error_weighs w 1 absent h))
      go₁ false e = go₂ (is_kind 3 h) e refl

module _ (w : ℕ → ℕ) where
  reading_weighs : (before hs : List Heading) →
      sum (error_w w) (reading_errors before hs) + waiting_types w (before ++ hs) + waiting_schema w (before ++ hs) ≤
      waiting_types w before + waiting_schema w before + sum (whole w) hs
  unfolding reading_errors Step
  reading_weighs before [] = rw (append-nil before) (omega arith)
  reading_weighs before (h ∷ hs) =
      omega (
        arith,
        sum_append (error_w w) (errors_at before h) (reading_errors (before ++ (h ∷ [])) hs),
        step w before h,
        rw append_assoc at (reading_weighs (before ++ (h ∷ [])) hs),
      )

  -- Drawing gives errors for those that still wait.
  orphans_weigh : (a : Bool) (hs : List Heading) → sum (error_w w) (flat_map (orphan_errors a (orphans hs)) (firsts same_named [] (orphans hs))) ≤ waiting_types w hs
  unfolding waiting_types orphans
  orphans_weigh a hs =
      omega (
        arith,
        sum_flat_map (error_w w) (orphan_errors a (orphans hs)) (firsts same_named [] (orphans hs)),
        sum_to (λ g. sum (error_w w) (orphan_errors a (orphans hs) g)) (λ g. sum (whole w) (filter (same_named g) (orphans hs))) (orphan_weighs w a (orphans hs))
            (firsts same_named [] (orphans hs)),
        sum_groups (whole w) same_named (λ e. true) (firsts same_named [] (orphans hs)) (λ e v. one_named e v (orphans hs)) (orphans hs),
        sum_filter (whole w) (λ e. true) (orphans hs),
      )

  schema_weighs : (a : Bool) (hs : List Heading) → schema_definition hs ≡ none → sum (error_w w) (no_schema_errors a hs) ≤ waiting_schema w hs
  unfolding no_schema_errors waiting_schema is_missing schema_extensions
  schema_weighs true hs e =
      rw e (omega (arith, collisions_weigh w 4 [] (parts_of (schema_extensions hs)), parts_weigh w (schema_extensions hs), parts_le w (schema_extensions hs)))
  schema_weighs false hs e = rw e (go (is_empty (default_roots false hs)) refl)
    where
      go : (b : Bool) → is_empty (default_roots false hs) ≡ b → sum (error_w w) (no_schema_errors false hs) ≤ sum (whole w) (filter (is_kind 11) hs)
      go true b = rw b (each_weighs w 6 (schema_extensions hs))
      go false b =
          rw b (omega (
            arith,
            collisions_weigh w 4 (map part_in (default_roots false hs)) (parts_of (schema_extensions hs)),
            parts_weigh w (schema_extensions hs),
            parts_le w (schema_extensions hs),
          ))

  drawing_weighs : (a : Bool) (hs : List Heading) → sum (error_w w) (drawing_errors a hs) ≤ waiting_types w hs + waiting_schema w hs
  unfolding drawing_errors
  drawing_weighs a hs = go (schema_definition hs) refl
    where
      go : (o : Option Heading) → schema_definition hs ≡ o → sum (error_w w) (drawing_errors a hs) ≤ waiting_types w hs + waiting_schema w hs
      go none e =
          rw e (omega (
            arith,
            sum_append (error_w w) (flat_map (orphan_errors a (orphans hs)) (firsts same_named [] (orphans hs))) (no_schema_errors a hs),
            orphans_weigh a hs,
            schema_weighs a hs e,
          ))
      go (some s) e = rw (e, append-nil) (omega (arith, orphans_weigh a hs))

  none_wait : waiting_types w [] + waiting_schema w [] ≡ 0
  unfolding waiting_types waiting_schema filter find schema_definition
  none_wait = omega (arith, gate_le (is_missing (schema_definition [])) 0)

  pub errors_weigh : (a : Bool) (hs : List Heading) → sum (error_w w) (reading_errors [] hs ++ drawing_errors a hs) ≤ sum (whole w) hs
  errors_weigh a hs =
      omega (arith, sum_append (error_w w) (reading_errors [] hs) (drawing_errors a hs), reading_weighs [] hs, drawing_weighs a hs, none_wait)
