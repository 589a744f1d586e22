-- The errors of building, by cards and rows: the orphans name by name here, all of them in Schema.
use mathlib.Core.Path.{◌≡◌, refl, sym, ◌∙◌, ap, ap₂}
use mathlib.Core.List.{List, [], ◌∷◌, ◌++◌, map, append_assoc}
use mathlib.Core.Bool.{Bool, true, false, ◌&&◌, ◌||◌}
use mathlib.Core.Option.{Option, none, some}
use Prim.Native.Nat.{ℕ, ◌-◌, ◌≤◌, ◌<◌}
use native.Mathlib.Omega.{arith}
use lib.Dec.{eqb}
use borrow.Author.Tests.{eqb-true, eq-eqb, ne_eqb}
use Rattle.definition.specs.Lists.{All, choose, filter, any, flat_map, firsts}
use Rattle.definition.specs.Names.{same_name}
use Rattle.definition.specs.Answers.{absent}
use Rattle.definition.specs.Headings.{NamedCard, Heading, is_kind, is_type_definition, is_type_extension, is_named, same_named, defines_type, definition}
use Rattle.definition.specs.Headings.{is_missing, is_orphan, orphans, is_of, extensions_of, parts_of}
use Rattle.definition.specs.Catalogue.{of_extensions, part_in, under_type, rows}
use Rattle.definition.specs.Errors.{Error, heading_error, collisions, adoption_errors, orphan_errors}
use Rattle.from_ast_collisions.specs.Earlier.{View, collision_under}
use Rattle.from_ast_collisions.specs.ErrorsByCards.{is_orphan_of, adoption_errors_at, unadopted_errors_at, orphan_errors_at}
use Rattle.definition.proofs.Lists.{flat_map_nil, flat_map_cons, filter_yes, filter_no, any_yes, any_append, same_name_eq}
use Rattle.definition.proofs.All.{all_filter, all_firsts, all_found, all_every, all_to, all_with, filter_pass}
use Rattle.from_ast_collisions.proofs.Tests.{and_false, or_true, or_right}
use Rattle.from_ast_collisions.proofs.Walks.{flat_cong, flat_gated, flat_map_lem, filter_both, filter_cong}
use Rattle.from_ast_collisions.proofs.Repeats.{times, times_fewer}
use Rattle.from_ast_collisions.proofs.Earlier.{row_words, is_in}
use Rattle.definition.proofs.BuiltRows.{orphans_extend}
use Rattle.from_ast_collisions.proofs.Rows.{HeadingTold, extends_kind, adopted_stands}
use Rattle.from_ast_collisions.proofs.Collisions.{collisions_found}
use Rattle.from_ast_collisions.proofs.Known.{number_in, heading_of, OfType, Known, kind_told, name_told, merge_told, number_some, number_none}
use Rattle.from_ast_collisions.proofs.Known.{parts_cons, extensions_parts, times_kept}
use Rattle.from_ast_collisions.proofs.Types.{kind_extends}

-- ---- Elements of a list, by their numbers.

numbered_in : (seen xs : List Heading) → All (λ g. any (λ e. eqb e.number g.number) (seen ++ xs) ≡ true) xs
numbered_in seen [] = tt
numbered_in seen (x ∷ xs) = (here, rw (append_assoc seen (x ∷ []) xs) at (numbered_in (seen ++ (x ∷ [])) xs))
  where
    here : any (λ e. eqb e.number x.number) (seen ++ (x ∷ xs)) ≡ true
    here =
        any_append (λ e. eqb e.number x.number) seen (x ∷ xs)
        ∙ (ap (λ b. any (λ e. eqb e.number x.number) seen || b) (any_yes (λ e. eqb e.number x.number) x xs (eq-eqb x.number x.number refl))
        ∙ or_true (any (λ e. eqb e.number x.number) seen))

-- What is known of a first orphan g.
pub record Orphan (v : View) (hs : List Heading) (g : Heading) : Type 0 where
  pub told : HeadingTold (heading_of v) g
  pub extends : is_type_extension g ≡ true
  pub undefined : definition g.name hs ≡ none
  pub among : any (λ e. eqb e.number g.number) (firsts same_named [] (orphans hs)) ≡ true

module _ (v : View) (a : Bool) (hs : List Heading) (k : Known v hs) where
  abbrev words : List ℕ
  words = row_words (rows a hs)

  abbrev cards : List ℕ
  cards = map number_in (filter is_type_extension hs)

  missing_none : (o : Option Heading) → is_missing o ≡ true → o ≡ none
  unfolding is_missing
  missing_none none e = refl
  missing_none (some d) e = let z : false ≡ true = e in cc

  orphan_undefined : (g : Heading) → is_orphan hs g ≡ true → definition g.name hs ≡ none
  unfolding is_orphan
  orphan_undefined g e = go (is_type_extension g) e
    where
      go : (b : Bool) → (b && is_missing (definition g.name hs)) ≡ true → definition g.name hs ≡ none
      go true e = missing_none (definition g.name hs) e
      go false e = let z : false ≡ true = e in cc

  pub adoptees_known : All (Orphan v hs) (firsts same_named [] (orphans hs))
  unfolding orphans
  adoptees_known =
      join (firsts same_named [] (orphans hs))
      (all_firsts (HeadingTold (heading_of v)) same_named [] (orphans hs) (all_filter (HeadingTold (heading_of v)) (is_orphan hs) hs k.told))
      (all_firsts (λ g. is_type_extension g ≡ true) same_named [] (orphans hs) (orphans_extend hs))
      (all_firsts (λ g. definition g.name hs ≡ none) same_named [] (orphans hs)
      (all_to (λ g. is_orphan hs g ≡ true) (λ g. definition g.name hs ≡ none) orphan_undefined (orphans hs) (filter_pass (is_orphan hs) hs)))
      (numbered_in [] (firsts same_named [] (orphans hs)))
    where
      join : (gs : List Heading) → All (HeadingTold (heading_of v)) gs → All (λ g. is_type_extension g ≡ true) gs →
          All (λ g. definition g.name hs ≡ none) gs →
          All (λ g. any (λ e. eqb e.number g.number) (firsts same_named [] (orphans hs)) ≡ true) gs → All (Orphan v hs) gs
      join [] a b c d = tt
      join (g ∷ gs) a b c d = (record { told = a.0; extends = b.0; undefined = c.0; among = d.0 }, join gs a.1 b.1 c.1 d.1)

  -- ---- The orphans of one name.

  owner_missing : (e : Heading) → OfType v hs e → eqb (v.owner e.number) absent ≡ is_missing (definition e.name hs)
  unfolding is_missing
  owner_missing e o = go (definition e.name hs) refl
    where
      go : (c : Option Heading) → definition e.name hs ≡ c → eqb (v.owner e.number) absent ≡ is_missing (definition e.name hs)
      go none f = rw (f) (eq-eqb (v.owner e.number) absent (o.owner ∙ number_none (definition e.name hs) f))
      go (some d) f =
          let l : d.number < v.used = low d f in
          let few = k.few in
          let q : v.owner e.number ≡ d.number = o.owner ∙ number_some (definition e.name hs) d f in
          rw (f) (ne_eqb (v.owner e.number) absent (λ z. omega arith))
        where
          low : (d : Heading) → definition e.name hs ≡ some d → d.number < v.used
          low d f = unfold definition in all_found (λ h. h.number < v.used) (defines_type e.name) hs d k.held f

  module _ (g : Heading) (r : Orphan v hs g) where
    orphan_is : (e : Heading) → HeadingTold (heading_of v) e → ((is_type_definition e || is_type_extension e) ≡ true → OfType v hs e) →
        (is_type_extension e && is_orphan_of v g.number e.number) ≡ (is_orphan hs e && same_named g e)
    unfolding is_orphan_of is_orphan same_named is_named
    orphan_is e t o = rw (name_told v e t, name_told v g r.told) (go (is_type_extension e) refl)
      where
        go : (b : Bool) → is_type_extension e ≡ b →
            (is_type_extension e && (eqb (v.owner e.number) absent && same_name g.name e.name)) ≡
            ((is_type_extension e && is_missing (definition e.name hs)) && same_name g.name e.name)
        go true x = rw (x, owner_missing e (o (or_right (is_type_definition e) (is_type_extension e) x)))
        go false x = rw x

    same_kept : filter (λ e. is_type_extension e && is_orphan_of v g.number e.number) hs ≡ filter (same_named g) (orphans hs)
    unfolding orphans
    same_kept =
        filter_cong (λ e. is_type_extension e && is_orphan_of v g.number e.number) (λ e. is_orphan hs e && same_named g e) hs
        (all_with (HeadingTold (heading_of v)) (λ e. (is_type_definition e || is_type_extension e) ≡ true → OfType v hs e)
        (λ e. (is_type_extension e && is_orphan_of v g.number e.number) ≡ (is_orphan hs e && same_named g e)) orphan_is hs k.told k.typed)
        ∙ filter_both (is_orphan hs) (same_named g) hs

    -- A walk over all type extensions that lets those orphans through.
    same_walk : (m : Heading → List Error) (f : ℕ → List Error) →
        ((e : Heading) → HeadingTold (heading_of v) e → f e.number ≡ choose (is_orphan_of v g.number e.number) (m e) []) →
        flat_map f cards ≡ flat_map m (filter (same_named g) (orphans hs))
    same_walk m f same =
        flat_map_lem f number_in (filter is_type_extension hs)
        ∙ (flat_cong (λ e. f e.number) (λ e. choose (is_orphan_of v g.number e.number) (m e) []) (HeadingTold (heading_of v)) same
        (filter is_type_extension hs)
        (all_filter (HeadingTold (heading_of v)) is_type_extension hs k.told)
        ∙ (flat_gated (λ e. is_orphan_of v g.number e.number) m (filter is_type_extension hs)
        ∙ ap (flat_map m) (sym (filter_both is_type_extension (λ e. is_orphan_of v g.number e.number) hs) ∙ same_kept)))

    unadopted_found : flat_map (unadopted_errors_at v g.number) cards ≡ flat_map (heading_error 7 absent) (filter (same_named g) (orphans hs))
    unfolding unadopted_errors_at heading_error
    unadopted_found = same_walk (heading_error 7 absent) (unadopted_errors_at v g.number) (λ e t. refl)

    -- ---- Adopting them.

    adopt_one : Heading → List Error
    adopt_one e = choose (is_kind g.kind e) (flat_map (collision_under v words (g.kind - 7) g.number) e.parts) (heading_error 8 g.number e)

    adopted_walk : flat_map (adoption_errors_at v words g.number) cards ≡ flat_map adopt_one (filter (same_named g) (orphans hs))
    unfolding adoption_errors_at heading_error is_kind adopt_one
    adopted_walk =
        same_walk adopt_one (adoption_errors_at v words g.number)
        (λ e t. rw (kind_told v e t, kind_told v g r.told, merge_told v e t words (g.kind - 7) g.number))

    orphaned : (e : Heading) → is_kind g.kind e ≡ true → is_named g.name e ≡ true → is_orphan hs e ≡ true
    unfolding is_orphan is_missing is_kind is_named
    orphaned e x y =
        let m = extends_kind g r.extends in
        let q : e.kind ≡ g.kind = eqb-true e.kind g.kind x in
        let f : definition e.name hs ≡ none = ap (λ m. definition m hs) (sym (same_name_eq g.name e.name y)) ∙ r.undefined in
        rw (kind_extends e (omega arith) (omega arith), f)

    orphan_of : (e : Heading) (p q : Bool) → is_kind g.kind e ≡ p → is_named g.name e ≡ q →
        ((is_orphan hs e && same_named g e) && is_kind g.kind e) ≡ is_of g.kind g.name e
    unfolding is_of same_named
    orphan_of e false q x y = rw x (and_false (is_orphan hs e && is_named g.name e))
    orphan_of e true false x y = rw (x, y) (rw (and_false (is_orphan hs e)) refl)
    orphan_of e true true x y = rw (x, y, orphaned e x y) refl

    merged_same : filter (is_kind g.kind) (filter (same_named g) (orphans hs)) ≡ extensions_of g.kind g.name hs
    unfolding orphans extensions_of
    merged_same =
        ap (filter (is_kind g.kind)) (sym (filter_both (is_orphan hs) (same_named g) hs))
        ∙ (sym (filter_both (λ e. is_orphan hs e && same_named g e) (is_kind g.kind) hs)
        ∙ filter_cong (λ e. (is_orphan hs e && same_named g e) && is_kind g.kind e) (is_of g.kind g.name) hs
        (all_every (λ e. ((is_orphan hs e && same_named g e) && is_kind g.kind e) ≡ is_of g.kind g.name e)
        (λ e. orphan_of e (is_kind g.kind e) (is_named g.name e) refl refl) hs))

    -- The extensions of g's kind, one after another, each added to those before it.
    abbrev merged : List NamedCard
    merged = parts_of (extensions_of g.kind g.name hs)

    merged_once : (n : ℕ) → times n merged ≤ 1
    unfolding extensions_of
    merged_once n = omega (arith, times_kept n (is_of g.kind g.name) hs, k.once n)

    adopt_collisions : a ≡ true → (seen ps rest : List NamedCard) → merged ≡ seen ++ (ps ++ rest) → All (λ x. is_in x.kind under_type ≡ true) ps →
        flat_map (collision_under v words (g.kind - 7) g.number) ps ≡ collisions (g.kind - 7) seen ps
    adopt_collisions on seen ps rest e i =
        collisions_found v words under_type (g.kind - 7) g.number (map part_in (of_extensions (extensions_of g.kind g.name hs))) seen ps rest
        (adopted_stands v (heading_of v) a hs k.told k.named on g r.extends r.told r.among)
        (extensions_parts (extensions_of g.kind g.name hs) ∙ e) i
        (all_every (λ x. times x.number (seen ++ ps) ≤ 1) (λ x. times_fewer x.number _ seen ps rest e (merged_once x.number)) ps)

    adopt_all : a ≡ true → (seen : List NamedCard) (os : List Heading) → merged ≡ seen ++ parts_of (filter (is_kind g.kind) os) →
        All (λ e. All (λ x. is_in x.kind under_type ≡ true) e.parts) os → flat_map adopt_one os ≡ adoption_errors g seen os
    unfolding adopt_one adoption_errors
    adopt_all on seen [] e i = flat_map_nil adopt_one
    adopt_all on seen (o ∷ os) e i = flat_map_cons adopt_one o os ∙ go (is_kind g.kind o) refl (adopt_all on (seen ++ o.parts) os) (adopt_all on seen os)
      where
        go : (b : Bool) → is_kind g.kind o ≡ b →
            (merged ≡ (seen ++ o.parts) ++ parts_of (filter (is_kind g.kind) os) →
            All (λ e. All (λ x. is_in x.kind under_type ≡ true) e.parts) os → flat_map adopt_one os ≡ adoption_errors g (seen ++ o.parts) os) →
            (merged ≡ seen ++ parts_of (filter (is_kind g.kind) os) → All (λ e. All (λ x. is_in x.kind under_type ≡ true) e.parts) os →
            flat_map adopt_one os ≡ adoption_errors g seen os) →
            choose (is_kind g.kind o) (flat_map (collision_under v words (g.kind - 7) g.number) o.parts) (heading_error 8 g.number o)
            ++ flat_map adopt_one os ≡
            choose (is_kind g.kind o) (collisions (g.kind - 7) seen o.parts ++ adoption_errors g (seen ++ o.parts) os)
            (heading_error 8 g.number o ++ adoption_errors g seen os)
        go true t ih jh =
            let s : merged ≡ seen ++ (o.parts ++ parts_of (filter (is_kind g.kind) os)) =
            e ∙ ap (λ l. seen ++ l) (ap parts_of (filter_yes (is_kind g.kind) o os t) ∙ parts_cons o (filter (is_kind g.kind) os)) in
            rw t (ap₂ (λ l m. l ++ m) (adopt_collisions on seen o.parts (parts_of (filter (is_kind g.kind) os)) s i.0)
            (ih (s ∙ sym (append_assoc seen o.parts (parts_of (filter (is_kind g.kind) os)))) i.1))
        go false t ih jh =
            rw t (ap (λ l. heading_error 8 g.number o ++ l) (jh (e ∙ ap (λ l. seen ++ parts_of l) (filter_no (is_kind g.kind) o os t)) i.1))

    orphan_parts : All (λ e. All (λ x. is_in x.kind under_type ≡ true) e.parts) (filter (same_named g) (orphans hs))
    unfolding orphans
    orphan_parts =
        all_filter (λ e. All (λ x. is_in x.kind under_type ≡ true) e.parts) (same_named g) (orphans hs)
        (all_with (λ e. is_type_extension e ≡ true) (λ e. (is_type_definition e || is_type_extension e) ≡ true → OfType v hs e)
        (λ e. All (λ x. is_in x.kind under_type ≡ true) e.parts)
        (λ e x o. (o (or_right (is_type_definition e) (is_type_extension e) x)).kinds) (orphans hs) (orphans_extend hs)
        (all_filter (λ e. (is_type_definition e || is_type_extension e) ≡ true → OfType v hs e) (is_orphan hs) hs k.typed))

    adopted_found : a ≡ true → flat_map (adoption_errors_at v words g.number) cards ≡ adoption_errors g [] (filter (same_named g) (orphans hs))
    adopted_found on = adopted_walk ∙ adopt_all on [] (filter (same_named g) (orphans hs)) (ap parts_of (sym merged_same)) orphan_parts

    orphan_found : orphan_errors_at a v words cards g.number ≡ orphan_errors a (orphans hs) g
    unfolding orphan_errors_at orphan_errors
    orphan_found = go a refl
      where
        go : (b : Bool) → a ≡ b →
            choose b (flat_map (adoption_errors_at v words g.number) cards) (flat_map (unadopted_errors_at v g.number) cards) ≡
            choose b (adoption_errors g [] (filter (same_named g) (orphans hs))) (flat_map (heading_error 7 absent) (filter (same_named g) (orphans hs)))
        go true on = adopted_found on
        go false off = unadopted_found

  pub orphans_found : flat_map (orphan_errors_at a v words cards) (map number_in (firsts same_named [] (orphans hs))) ≡
      flat_map (orphan_errors a (orphans hs)) (firsts same_named [] (orphans hs))
  orphans_found =
      flat_map_lem (orphan_errors_at a v words cards) number_in (firsts same_named [] (orphans hs))
      ∙ flat_cong (λ g. orphan_errors_at a v words cards g.number) (orphan_errors a (orphans hs)) (Orphan v hs) orphan_found (firsts same_named []
      (orphans hs)) adoptees_known
