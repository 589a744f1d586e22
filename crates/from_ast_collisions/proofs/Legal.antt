-- Every error has one of the numbers that tallies count: a part that comes again is of a kind that its heading may have.
use mathlib.Core.Path.{◌≡◌, refl, sym, ◌∙◌, subst}
use mathlib.Core.List.{List, [], ◌∷◌, ◌++◌, map}
use mathlib.Core.Bool.{Bool, true, false}
use mathlib.Core.Option.{Option, none, some}
use Prim.Native.Nat.{ℕ, zero, suc, ◌+◌, ◌-◌, ◌≤◌, ◌<◌}
use native.Mathlib.Omega.{arith}
use lib.Dec.{eqb, leb}
use lib.ListN.{length}
use borrow.Author.Tests.{eqb-true, ne_eqb, le-leb, lt-leb}
use Rattle.definition.specs.Lists.{All, choose, found, filter, any, is_empty, find, flat_map, firsts, repeats}
use Rattle.definition.specs.Answers.{absent}
use Rattle.definition.specs.Cards.{is_type, definition_of, part_order, place_in}
use Rattle.definition.specs.Headings.{NamedCard, Heading, alike, is_kind, is_type_definition, is_type_extension, same_named, is_of, extensions_of, definition}
use Rattle.definition.specs.Headings.{is_orphan, orphans, directive_named, schema_definition, schema_extensions, parts, parts_of}
use Rattle.definition.specs.Catalogue.{part_in, default_roots}
use Rattle.definition.specs.Errors.{Error, error, heading_error, collision_number, collision, collisions, directive_errors, schema_errors}
use Rattle.definition.specs.Errors.{schema_extension_errors, redefinition_errors, type_errors, late_extension_errors, type_extension_errors, errors_at}
use Rattle.definition.specs.Errors.{reading_errors, adoption_errors, orphan_errors, no_schema_errors, drawing_errors}
use Rattle.definition.specs.Merge.{error_numbers}
use Rattle.definition.proofs.Lists.{repeats_nil, repeats_new, repeats_old, any_no, any_nil}
use Rattle.definition.proofs.All.{all_append, all_filter, all_firsts, all_map, all_flat_map, all_every, all_to, all_with, filter_pass}
use Rattle.definition.proofs.Tests.{zero_one}
use Rattle.definition.proofs.BuiltRows.{orphans_extend}
use Rattle.from_ast_collisions.proofs.Rows.{defines_kind, extends_kind}
use Rattle.from_ast_collisions.proofs.Types.{of_kind_lem, kinds_left}
use Rattle.from_ast_collisions.proofs.Tallies.{Legal}

-- ---- Kinds that an order has.

in_list : (P : ℕ → Type 0) (k : ℕ) (ks : List ℕ) → any (eqb k) ks ≡ true → All P ks → P k
in_list P k [] h a = let z : false ≡ true = sym (any_nil (eqb k)) ∙ h in absurd (zero_one cc)
in_list P k (j ∷ ks) h a = go (eqb k j) refl (in_list P k ks)
  where
    go : (b : Bool) → eqb k j ≡ b → (any (eqb k) ks ≡ true → All P ks → P k) → P k
    go true e ih = subst P (sym (eqb-true k j e)) a.0
    go false e ih = ih (sym (any_no (eqb k) j ks e) ∙ h) a.1

pub in_order_lem : (P : ℕ → Type 0) (order : List (List ℕ)) (k : ℕ) → place_in order k < length order → All (λ ks. All P ks) order → P k
unfolding place_in
in_order_lem P [] k h a = absurd (omega arith)
in_order_lem P (ks ∷ order) k h a = go (any (eqb k) ks) refl (in_order_lem P order k)
  where
    go : (b : Bool) → any (eqb k) ks ≡ b → (place_in order k < length order → All (λ ks. All P ks) order → P k) → P k
    go true e ih = in_list P k ks e a.0
    go false e ih = ih (rest (any (eqb k) ks) e h) a.1
      where
        rest : (b : Bool) → b ≡ false → choose b 0 (suc (place_in order k)) < suc (length order) → place_in order k < length order
        rest true e h = let z : true ≡ false = e in absurd (zero_one cc)
        rest false e h = omega arith

-- The number of a collision of a kind under a kind.
abbrev pub LegalKind : ℕ → ℕ → Type 0
LegalKind k p = (1 ≤ collision_number k p) × (collision_number k p ≤ error_numbers)

order_none : (k : ℕ) → 10 < k → part_order k ≡ []
unfolding part_order
order_none k h =
    rw (
      ne_eqb k 4 (λ q. omega arith),
      ne_eqb k 5 (λ q. omega arith),
      ne_eqb k 6 (λ q. omega arith),
      ne_eqb k 7 (λ q. omega arith),
      ne_eqb k 8 (λ q. omega arith),
      ne_eqb k 9 (λ q. omega arith),
      ne_eqb k 10 (λ q. omega arith),
    )

-- What every kind that may stand under a kind of 4 to 10 has.
module _ (P : ℕ → ℕ → Type 0)
    (schema : P 4 20 × P 4 26 × P 4 27 × P 4 28)
    (scalar : P 5 20)
    (object : P 6 21 × P 6 20 × P 6 22)
    (interface : P 7 21 × P 7 20 × P 7 22)
    (union : P 8 20 × P 8 23)
    (enum : P 9 20 × P 9 24)
    (input : P 10 20 × P 10 25) where
  pub ordered_have : (k : ℕ) → All (λ ks. All (P k) ks) (part_order k)
  unfolding part_order
  ordered_have zero = tt
  ordered_have (suc zero) = tt
  ordered_have (suc (suc zero)) = tt
  ordered_have (suc (suc (suc zero))) = tt
  ordered_have (suc (suc (suc (suc zero)))) = ((schema.0, tt), ((schema.1, (schema.2, (schema.3, tt))), tt))
  ordered_have (suc (suc (suc (suc (suc zero))))) = ((scalar, tt), tt)
  ordered_have (suc (suc (suc (suc (suc (suc zero)))))) = ((object.0, tt), ((object.1, tt), ((object.2, tt), tt)))
  ordered_have (suc (suc (suc (suc (suc (suc (suc zero))))))) = ((interface.0, tt), ((interface.1, tt), ((interface.2, tt), tt)))
  ordered_have (suc (suc (suc (suc (suc (suc (suc (suc zero)))))))) = ((union.0, tt), ((union.1, tt), tt))
  ordered_have (suc (suc (suc (suc (suc (suc (suc (suc (suc zero))))))))) = ((enum.0, tt), ((enum.1, tt), tt))
  ordered_have (suc (suc (suc (suc (suc (suc (suc (suc (suc (suc zero)))))))))) = ((input.0, tt), ((input.1, tt), tt))
  ordered_have (suc (suc (suc (suc (suc (suc (suc (suc (suc (suc (suc k))))))))))) =
      rw (order_none (suc (suc (suc (suc (suc (suc (suc (suc (suc (suc (suc k))))))))))) (omega arith)) tt

pub ordered_legal : (k : ℕ) → All (λ ks. All (LegalKind k) ks) (part_order k)
unfolding collision_number
ordered_legal =
    ordered_have LegalKind
    ((omega arith, omega arith), (omega arith, omega arith), (omega arith, omega arith), (omega arith, omega arith))
    (omega arith, omega arith)
    ((omega arith, omega arith), (omega arith, omega arith), (omega arith, omega arith))
    ((omega arith, omega arith), (omega arith, omega arith), (omega arith, omega arith))
    ((omega arith, omega arith), (omega arith, omega arith))
    ((omega arith, omega arith), (omega arith, omega arith))
    ((omega arith, omega arith), (omega arith, omega arith))

-- ---- Errors of parts.

abbrev pub LegalParts : Heading → Type 0
LegalParts h = All (λ p. LegalKind (definition_of h.kind) p.kind) h.parts

repeats_all : (P : NamedCard → Type 0) (seen ps : List NamedCard) → All P ps → All (λ r. P r.0) (repeats alike seen ps)
repeats_all P seen [] a = rw (repeats_nil alike seen) tt
repeats_all P seen (x ∷ xs) a = go (find (alike x) seen) refl (repeats_all P seen xs a.1) (repeats_all P (seen ++ (x ∷ [])) xs a.1)
  where
    go : (o : Option NamedCard) → find (alike x) seen ≡ o → All (λ r. P r.0) (repeats alike seen xs) →
        All (λ r. P r.0) (repeats alike (seen ++ (x ∷ [])) xs) →
        All (λ r. P r.0) (repeats alike seen (x ∷ xs))
    go none e i j = rw (repeats_new alike seen x xs e) j
    go (some y) e i j = rw (repeats_old alike seen x xs y e) (a.0, i)

legal_collisions : (k : ℕ) (seen ps : List NamedCard) → All (λ p. LegalKind k p.kind) ps → All Legal (collisions k seen ps)
unfolding collisions collision error
legal_collisions k seen ps a = all_map Legal (collision k) (repeats alike seen ps) (repeats_all (λ p. LegalKind k p.kind) seen ps a)

legal_heading : (n e : ℕ) (h : Heading) → 1 ≤ n → n ≤ error_numbers → All Legal (heading_error n e h)
unfolding heading_error error
legal_heading n e h l u = ((l, u), tt)

legal_choose : (b : Bool) (xs ys : List Error) → All Legal xs → All Legal ys → All Legal (choose b xs ys)
legal_choose true xs ys a b = a
legal_choose false xs ys a b = b

legal_found : (o : Option Heading) (f : Heading → List Error) (ys : List Error) → ((d : Heading) → o ≡ some d → All Legal (f d)) → All Legal ys →
    All Legal (found o f ys)
legal_found none f ys a b = b
legal_found (some d) f ys a b = a d refl

-- What a heading's kind extends.
extended_as : (h : Heading) (k : ℕ) → definition_of h.kind ≡ k → LegalParts h → All (λ p. LegalKind k p.kind) h.parts
extended_as h k e a = subst (λ k. All (λ p. LegalKind k p.kind) h.parts) e a

extended_low : (k : ℕ) → 4 ≤ k → k ≤ 10 → definition_of k ≡ k
unfolding definition_of
extended_low k l u = rw (lt-leb 11 k (omega arith), le-leb 4 k l)

extended_high : (k j : ℕ) → 11 ≤ k → k ≡ j + 7 → definition_of k ≡ j
unfolding definition_of
extended_high k j l e = rw (le-leb 11 k l) (omega arith)

-- The parts of headings that pass a test and extend k.
legal_parts : (p : Heading → Bool) (k : ℕ) → ((h : Heading) → p h ≡ true → definition_of h.kind ≡ k) → (hs : List Heading) → All LegalParts hs →
    All (λ x. LegalKind k x.kind) (parts_of (filter p hs))
unfolding parts_of parts
legal_parts p k ext hs a =
    all_flat_map (λ x. LegalKind k x.kind) parts (filter p hs)
    (all_with (λ h. p h ≡ true) LegalParts (λ h. All (λ x. LegalKind k x.kind) h.parts) (λ h t l. extended_as h k (ext h t) l) (filter p hs)
    (filter_pass p hs) (all_filter LegalParts p hs a))

kind_of_lem : (k : ℕ) (h : Heading) → is_kind k h ≡ true → h.kind ≡ k
unfolding is_kind
kind_of_lem k h t = eqb-true h.kind k t

legal_extensions : (d : ℕ) (n : List ℕ) (hs : List Heading) → 5 ≤ d → All LegalParts hs →
    All (λ x. LegalKind d x.kind) (parts_of (extensions_of (d + 7) n hs))
unfolding extensions_of
legal_extensions d n hs l a = legal_parts (is_of (d + 7) n) d (λ h t. let q = (of_kind_lem (d + 7) n h t).0 in extended_high h.kind d (omega arith) q) hs a

legal_schema : (hs : List Heading) → All LegalParts hs → All (λ x. LegalKind 4 x.kind) (parts_of (schema_extensions hs))
unfolding schema_extensions
legal_schema hs a = legal_parts (is_kind 11) 4 (λ h t. let q = kind_of_lem 11 h t in extended_high h.kind 4 (omega arith) (omega arith)) hs a

-- ---- While reading.

module _ (before : List Heading) (h : Heading) (all : All LegalParts before) (own : LegalParts h) where
  legal_directive : All Legal (directive_errors before h)
  unfolding directive_errors
  legal_directive =
      legal_found (directive_named h.name before) _ []
      (λ d e. legal_choose d.built_in [] _ tt (legal_heading 3 d.number h (omega arith) (omega arith))) tt

  legal_schema_definition : is_kind 4 h ≡ true → All Legal (schema_errors before h)
  unfolding schema_errors
  legal_schema_definition t =
      legal_found (schema_definition before) _ _ (λ d e. legal_heading 2 d.number h (omega arith) (omega arith))
      (legal_collisions 4 [] (h.parts ++ parts_of (schema_extensions before))
      (all_append (λ x. LegalKind 4 x.kind) h.parts (parts_of (schema_extensions before)) (let q = kind_of_lem 4 h t in
      extended_as h 4 (extended_low h.kind (omega arith) (omega arith) ∙ q) own) (legal_schema before all)))

  legal_schema_extension : is_kind 11 h ≡ true → All Legal (schema_extension_errors before h)
  unfolding schema_extension_errors
  legal_schema_extension t =
      legal_found (schema_definition before) _ [] (λ d e. legal_collisions 4 _ h.parts (let q = kind_of_lem 11 h t in
      extended_as h 4 (extended_high h.kind 4 (omega arith) (omega arith)) own)) tt

  legal_redefinition : (d : Heading) → All Legal (redefinition_errors h d)
  unfolding redefinition_errors
  legal_redefinition d =
      let four : All Legal (heading_error 4 d.number h) = legal_heading 4 d.number h (omega arith) (omega arith) in
      legal_choose d.built_in _ _
      (legal_choose h.ignored [] _ tt (legal_choose (is_kind 5 h) _ _ (legal_heading 5 absent h (omega arith) (omega arith)) four)) four

  legal_type : is_type_definition h ≡ true → All Legal (type_errors before h)
  unfolding type_errors
  legal_type t =
      let k = defines_kind h t in
      legal_found (definition h.name before) _ _ (λ d e. legal_redefinition d)
      (legal_collisions h.kind [] (h.parts ++ parts_of (extensions_of (h.kind + 7) h.name before))
      (all_append (λ x. LegalKind h.kind x.kind) h.parts (parts_of (extensions_of (h.kind + 7) h.name before))
      (extended_as h h.kind (extended_low h.kind (omega arith) (omega arith)) own) (legal_extensions h.kind h.name before k.0 all)))

  legal_type_extension : is_type_extension h ≡ true → All Legal (type_extension_errors before h)
  unfolding type_extension_errors
  legal_type_extension t = legal_found (definition h.name before) _ [] (λ d e. late d) tt
    where
      late : (d : Heading) → All Legal (late_extension_errors before h d)
      late d = unfold late_extension_errors in pick (is_kind (d.kind + 7) h) refl
        where
          pick : (b : Bool) → is_kind (d.kind + 7) h ≡ b →
              All Legal (choose b (collisions d.kind (d.parts ++ parts_of (extensions_of h.kind h.name before)) h.parts)
              (heading_error 8 d.number h))
          pick true e =
              let k = extends_kind h t in let q = kind_of_lem (d.kind + 7) h e in
              legal_collisions d.kind _ h.parts (extended_as h d.kind (extended_high h.kind d.kind (omega arith) q) own)
          pick false e = legal_heading 8 d.number h (omega arith) (omega arith)

  legal_at : h.kind ≤ 17 → All Legal (errors_at before h)
  unfolding errors_at is_type_definition is_kind
  legal_at most = go (leb h.kind 2) (eqb h.kind 3) (eqb h.kind 4) (is_type h.kind) (eqb h.kind 11) refl refl refl refl refl
    where
      go : (p q r s t : Bool) → leb h.kind 2 ≡ p → eqb h.kind 3 ≡ q → eqb h.kind 4 ≡ r → is_type h.kind ≡ s → eqb h.kind 11 ≡ t →
          All Legal
          (choose p (heading_error 1 absent h)
          (choose q (directive_errors before h)
          (choose r (schema_errors before h)
          (choose s (type_errors before h) (choose t (schema_extension_errors before h) (type_extension_errors before h))))))
      go true q r s t e f g i j = legal_heading 1 absent h (omega arith) (omega arith)
      go false true r s t e f g i j = legal_directive
      go false false true s t e f g i j = legal_schema_definition g
      go false false false true t e f g i j = legal_type i
      go false false false false true e f g i j = legal_schema_extension j
      go false false false false false e f g i j = legal_type_extension (kinds_left h most e f g i j)

pub legal_reading : (before rest : List Heading) → All LegalParts before → All LegalParts rest → All (λ h. h.kind ≤ 17) rest →
    All Legal (reading_errors before rest)
unfolding reading_errors
legal_reading before [] a b m = tt
legal_reading before (h ∷ rest) a b m =
    all_append Legal (errors_at before h) (reading_errors (before ++ (h ∷ [])) rest) (legal_at before h a b.0 m.0)
    (legal_reading (before ++ (h ∷ [])) rest (all_append LegalParts before (h ∷ []) a (b.0, tt)) b.1 m.1)

-- ---- While building.

module _ (g : Heading) (ext : is_type_extension g ≡ true) where
  legal_adoption : (seen : List NamedCard) (es : List Heading) → All LegalParts es → All Legal (adoption_errors g seen es)
  unfolding adoption_errors
  legal_adoption seen [] a = tt
  legal_adoption seen (e ∷ es) a = go (is_kind g.kind e) refl (legal_adoption (seen ++ e.parts) es a.1) (legal_adoption seen es a.1)
    where
      go : (b : Bool) → is_kind g.kind e ≡ b → All Legal (adoption_errors g (seen ++ e.parts) es) → All Legal (adoption_errors g seen es) →
          All Legal (choose b (collisions (g.kind - 7) seen e.parts ++ adoption_errors g (seen ++ e.parts) es)
          (heading_error 8 g.number e ++ adoption_errors g seen es))
      go true t i j =
          let k = extends_kind g ext in
          let q = kind_of_lem g.kind e t in
          all_append Legal (collisions (g.kind - 7) seen e.parts) (adoption_errors g (seen ++ e.parts) es)
          (legal_collisions (g.kind - 7) seen e.parts
          (extended_as e (g.kind - 7) (extended_high e.kind (g.kind - 7) (omega arith) (omega arith)) a.0)) i
      go false t i j =
          all_append Legal (heading_error 8 g.number e) (adoption_errors g seen es) (legal_heading 8 g.number e (omega arith) (omega arith)) j

legal_headings : (n : ℕ) (es : List Heading) → 1 ≤ n → n ≤ error_numbers → All Legal (flat_map (heading_error n absent) es)
legal_headings n es l u =
    all_flat_map Legal (heading_error n absent) es (all_every (λ e. All Legal (heading_error n absent e)) (λ e. legal_heading n absent e l u) es)

module _ (adopt : Bool) (hs : List Heading) (all : All LegalParts hs) where
  legal_orphan : (g : Heading) → is_type_extension g ≡ true → All Legal (orphan_errors adopt (orphans hs) g)
  unfolding orphan_errors orphans
  legal_orphan g x =
      legal_choose adopt _ _
      (legal_adoption g x [] (filter (same_named g) (orphans hs))
      (all_filter LegalParts (same_named g) (orphans hs) (all_filter LegalParts (is_orphan hs) hs all)))
      (legal_headings 7 (filter (same_named g) (orphans hs)) (omega arith) (omega arith))

  legal_no_schema : All Legal (no_schema_errors adopt hs)
  unfolding no_schema_errors
  legal_no_schema =
      legal_choose adopt _ _ (legal_collisions 4 [] (parts_of (schema_extensions hs)) (legal_schema hs all))
      (legal_choose (is_empty (default_roots false hs)) _ _ (legal_headings 6 (schema_extensions hs) (omega arith) (omega arith))
      (legal_collisions 4 (map part_in (default_roots false hs)) (parts_of (schema_extensions hs)) (legal_schema hs all)))

  pub legal_drawing : All Legal (drawing_errors adopt hs)
  unfolding drawing_errors
  legal_drawing =
      all_append Legal (flat_map (orphan_errors adopt (orphans hs)) (firsts same_named [] (orphans hs)))
      (found (schema_definition hs) (λ s. []) (no_schema_errors adopt hs))
      (all_flat_map Legal (orphan_errors adopt (orphans hs)) (firsts same_named [] (orphans hs))
      (all_to (λ g. is_type_extension g ≡ true) (λ g. All Legal (orphan_errors adopt (orphans hs) g)) legal_orphan (firsts same_named [] (orphans hs))
      (all_firsts (λ g. is_type_extension g ≡ true) same_named [] (orphans hs) (orphans_extend hs))))
      (legal_found (schema_definition hs) (λ s. []) (no_schema_errors adopt hs) (λ d e. tt) legal_no_schema)
