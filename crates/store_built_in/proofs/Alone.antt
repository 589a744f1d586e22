-- A document 0 without barred kinds gives, alone, its first error at the card that `fails_from` tells.
use mathlib.Core.Path.{◌≡◌, refl, sym, ap, ◌∙◌}
use mathlib.Core.Bool.{Bool, true, false, ◌&&◌, ◌||◌, not, and-false, or-true, or-false}
use mathlib.Core.List.{List, [], ◌∷◌, ◌++◌, append-nil}
use mathlib.Core.Option.{Option, none, some}
use Prim.Native.Nat.{ℕ, ◌+◌, ◌≤◌}
use native.Mathlib.Omega.{arith}
use borrow.Author.Tests.{eqb-true, le-leb, leb-true}
use lib.Dec.{eqb, leb}
use Rattle.definition.specs.declared.Answer.{Answer}
use Rattle.definition.specs.Answers.{answer, absent}
use Rattle.definition.specs.Lists.{choose, found, filter, any, is_empty, first, find, All, flat_map, firsts, repeats}
use Rattle.definition.specs.Cards.{Card, cards_of, is_part, is_type, is_extension}
use Rattle.definition.specs.Headings.{NamedCard, Heading, name_of, named_card, heading_from, group, headings, headings_from, is_kind}
use Rattle.definition.specs.Headings.{is_type_definition, is_type_extension, is_named, defines_type, is_of, definition, extensions_of, is_orphan}
use Rattle.definition.specs.Headings.{orphans, directives, standing, directive_named, schema_definition, schema_extensions, parts_of, alike}
use Rattle.definition.specs.Catalogue.{default_roots}
use Rattle.definition.specs.Errors.{Error, error, heading_error, collision, collisions, directive_errors, redefinition_errors, type_errors}
use Rattle.definition.specs.Errors.{late_extension_errors, type_extension_errors, errors_at, reading_errors, no_schema_errors, drawing_errors}
use Rattle.definition.specs.Merge.{merge}
use Rattle.definition.specs.Refusals.{is_barred, barred_from, document, error_alone, zero_fault}
use Rattle.definition.proofs.Tests.{and_true}
use Rattle.definition.proofs.All.{all_append, all_filter, all_every}
use Rattle.store_built_in.specs.Fails.{type_named, alike_cards, heading_fails, card_fails}
use Rattle.store_built_in.proofs.Fails.{fails_heading, fails_other, fails_part}
use Rattle.store_built_in.specs.Alone.{seen_after, fails_from, six_at}

-- ---- Lists.

module _ {A : Type 0} where
  any_snoc : (p : A → Bool) (xs : List A) (y : A) → any p (xs ++ (y ∷ [])) ≡ (any p xs || p y)
  unfolding any
  any_snoc p [] y = go (p y)
    where
      go : (b : Bool) → choose b true false ≡ b
      go true = refl
      go false = refl
  any_snoc p (x ∷ xs) y = go (p x) (any_snoc p xs y)
    where
      go : (b : Bool) → any p (xs ++ (y ∷ [])) ≡ (any p xs || p y) → choose b true (any p (xs ++ (y ∷ []))) ≡ (choose b true (any p xs) || p y)
      go true h = refl
      go false h = h

  first_none : (p : A → Bool) (xs : List A) → any p xs ≡ false → find p xs ≡ none
  unfolding any find
  first_none p [] h = refl
  first_none p (x ∷ xs) h = go (p x) refl (first_none p xs) h
    where
      go : (b : Bool) → p x ≡ b → (any p xs ≡ false → find p xs ≡ none) → choose b true (any p xs) ≡ false → choose (p x) (some x) (find p xs) ≡ none
      go true e r k = absurd (let z : ◌≡◌ {A = ℕ} 0 1 = cc in omega arith)
      go false e r k = rw e (r k)

  -- What is found passes the test and has what all elements have.
  pub record Met (p : A → Bool) (P : A → Type 0) (xs : List A) : Type 0 where
    pub one : A
    pub it : find p xs ≡ some one
    pub passes : p one ≡ true
    pub has : P one

  first_some : (p : A → Bool) (P : A → Type 0) (xs : List A) → All P xs → any p xs ≡ true → Met p P xs
  unfolding any find
  first_some p P [] a h = absurd (let z : ◌≡◌ {A = ℕ} 0 1 = cc in omega arith)
  first_some p P (x ∷ xs) a h = go (p x) refl (first_some p P xs a.1) h
    where
      go : (b : Bool) → p x ≡ b → (any p xs ≡ true → Met p P xs) → choose b true (any p xs) ≡ true → Met p P (x ∷ xs)
      go true e r k = record { one = x; it = rw e; passes = e; has = a.0 }
      go false e r k = let m = r k in record { one = m.one; it = rw e m.it; passes = m.passes; has = m.has }

  filter_none : (p : A → Bool) (P : A → Type 0) → ((x : A) → P x → p x ≡ false) → (xs : List A) → All P xs → filter p xs ≡ []
  unfolding filter
  filter_none p P f [] a = refl
  filter_none p P f (x ∷ xs) a = rw (f x a.0) (filter_none p P f xs a.1)

  none_first : (p : A → Bool) (P : A → Type 0) → ((x : A) → P x → p x ≡ false) → (xs : List A) → All P xs → find p xs ≡ none
  unfolding find
  none_first p P f [] a = refl
  none_first p P f (x ∷ xs) a = rw (f x a.0) (none_first p P f xs a.1)

-- ---- Kinds that are not barred.

contra : {P : Type 0} (b : Bool) → b ≡ true → b ≡ false → P
contra b e f = absurd (let q : true ≡ false = sym e ∙ f in let z : ◌≡◌ {A = ℕ} 0 1 = cc in omega arith)

extension_barred : (k : ℕ) → 11 ≤ k → k ≤ 17 → is_barred k ≡ true
unfolding is_barred is_extension
extension_barred k lo hi = simp (le-leb 11 k lo, le-leb k 17 hi) (or-true (eqb k 1 || eqb k 2 || eqb k 4))

unbarred_not : (k m : ℕ) → is_barred k ≡ false → is_barred m ≡ true → eqb k m ≡ false
unbarred_not k m h b = go (eqb k m) refl
  where
    go : (t : Bool) → eqb k m ≡ t → t ≡ false
    go true e = contra (is_barred k) (ap is_barred (eqb-true k m e) ∙ b) h
    go false e = refl

unbarred_extension : (k : ℕ) → is_barred k ≡ false → (leb 12 k && leb k 17) ≡ false
unbarred_extension k h = go (leb 12 k) refl (leb k 17) refl
  where
    go : (a : Bool) → leb 12 k ≡ a → (b : Bool) → leb k 17 ≡ b → (a && b) ≡ false
    go true ea true eb = contra (is_barred k) (extension_barred k (omega (arith, leb-true 12 k ea)) (leb-true k 17 eb)) h
    go true ea false eb = refl
    go false ea b eb = refl

-- The extension of a type's kind is barred.
type_low : (k : ℕ) → is_type k ≡ true → (5 ≤ k) × (k ≤ 10)
unfolding is_type
type_low k h = let q = and_true (leb 5 k) (leb k 10) h in (leb-true 5 k q.0, leb-true k 10 q.1)

type_extension_barred : (k : ℕ) → is_type k ≡ true → is_barred (k + 7) ≡ true
type_extension_barred k h = let b = type_low k h in extension_barred (k + 7) (omega arith) (omega arith)

-- ---- Headings of a document 0 without barred kinds.

abbrev Plain : Heading → Type 0
Plain h = (is_barred h.kind ≡ false) × (h.built_in ≡ true)

no_extensions : (k : ℕ) (n : List ℕ) (hs : List Heading) → All Plain hs → is_type k ≡ true → extensions_of (k + 7) n hs ≡ []
unfolding extensions_of is_of is_kind
no_extensions k n hs a t =
    filter_none (is_of (k + 7) n) Plain (λ x p. simp (unbarred_not x.kind (k + 7) p.0 (type_extension_barred k t))) hs a

no_orphans : (hs : List Heading) → All Plain hs → orphans hs ≡ []
unfolding orphans is_orphan is_type_extension
no_orphans hs a = filter_none (is_orphan hs) Plain (λ x p. simp (unbarred_extension x.kind p.0)) hs a

no_schema : (hs : List Heading) → All Plain hs → schema_definition hs ≡ none
unfolding schema_definition is_kind is_barred
no_schema hs a = none_first (is_kind 4) Plain (λ x p. unbarred_not x.kind 4 p.0 refl) hs a

no_schema_extensions : (hs : List Heading) → All Plain hs → schema_extensions hs ≡ []
unfolding schema_extensions is_kind is_barred is_extension
no_schema_extensions hs a = filter_none (is_kind 11) Plain (λ x p. unbarred_not x.kind 11 p.0 refl) hs a

pub choose_same : {A : Type 0} (b : Bool) (x : A) → choose b x x ≡ x
choose_same true x = refl
choose_same false x = refl

no_drawing : (hs : List Heading) → All Plain hs → drawing_errors false hs ≡ []
unfolding drawing_errors no_schema_errors parts_of flat_map firsts collisions repeats
no_drawing hs a = simp (no_orphans hs a, no_schema hs a, no_schema_extensions hs a) (choose_same (is_empty (default_roots false hs)) [])

-- ---- What one heading gives.

-- The card of the first error.
unfoldable first_card : List Error → Option ℕ
first_card es = found (first es) (λ e. some e.card) none

first_set_of : (es fs : List Error) (n : ℕ) → first_card es ≡ some n → first_card (es ++ fs) ≡ some n
unfolding first_card
first_set_of [] fs n h = absurd (let z : ◌≡◌ {A = ℕ} 0 1 = cc in omega arith)
first_set_of (e ∷ es) fs n h = h

abbrev BuiltIn : Option Heading → Type 0
BuiltIn none = Unit {0}
BuiltIn (some d) = d.built_in ≡ true

standing_built : (o : Option Heading) (ds : List Heading) → BuiltIn o → All Plain ds → BuiltIn (standing o ds)
unfolding standing
standing_built o [] b a = b
standing_built none (d ∷ ds) b a = standing_built (some d) ds a.0.1 a.1
standing_built (some c) (d ∷ ds) b a = rw b (standing_built (some d) ds a.0.1 a.1)

directive_silent : (o : Option Heading) (f : Heading → List Error) → BuiltIn o → found o (λ d. choose d.built_in [] (f d)) [] ≡ []
directive_silent none f b = refl
directive_silent (some d) f b = rw b

-- A heading that gives an error itself, after the headings `before`.
unfoldable own_fails : List Heading → Heading → Bool
own_fails before h = leb h.kind 2 || (not (eqb h.kind 3) && any (defines_type h.name) before)

module _ (before : List Heading) (h : Heading) (plain : All Plain before) (unbarred : is_barred h.kind ≡ false) (heeded : h.ignored ≡ false) where
  directive_errors_lem : directive_errors before h ≡ []
  unfolding directive_errors directive_named directives
  directive_errors_lem =
      directive_silent (directive_named h.name before) (λ d. heading_error 3 d.number h)
      (standing_built none (filter (is_named h.name) (directives before)) tt
      (all_filter Plain (is_named h.name) (directives before) (all_filter Plain (is_kind 3) before plain)))

  no_four : eqb h.kind 4 ≡ false
  unfolding is_barred
  no_four = unbarred_not h.kind 4 unbarred refl

  no_eleven : eqb h.kind 11 ≡ false
  unfolding is_barred is_extension
  no_eleven = unbarred_not h.kind 11 unbarred refl

  redefined : (d : Heading) → d.built_in ≡ true → first_card (redefinition_errors h d) ≡ some h.number
  unfolding first_card redefinition_errors heading_error error
  redefined d e = simp (e, heeded) (go (is_kind 5 h))
    where
      go : (b : Bool) → first_card (choose b (heading_error 5 absent h) (heading_error 4 d.number h)) ≡ some h.number
      go true = refl
      go false = refl

  late : (d : Heading) → is_type d.kind ≡ true → first_card (late_extension_errors before h d) ≡ some h.number
  unfolding first_card late_extension_errors heading_error error is_kind
  late d e = simp (unbarred_not h.kind (d.kind + 7) unbarred (type_extension_barred d.kind e))

  -- Which rule reads the heading.
  by_executable : leb h.kind 2 ≡ true → errors_at before h ≡ heading_error 1 absent h
  unfolding errors_at
  by_executable a = simp a

  by_directive : leb h.kind 2 ≡ false → eqb h.kind 3 ≡ true → errors_at before h ≡ directive_errors before h
  unfolding errors_at is_kind
  by_directive a b = simp (a, b)

  by_type : leb h.kind 2 ≡ false → eqb h.kind 3 ≡ false → is_type h.kind ≡ true → errors_at before h ≡ type_errors before h
  unfolding errors_at is_kind is_type_definition
  by_type a b t = simp (a, b, no_four, t)

  by_extension : leb h.kind 2 ≡ false → eqb h.kind 3 ≡ false → is_type h.kind ≡ false → errors_at before h ≡ type_extension_errors before h
  unfolding errors_at is_kind is_type_definition
  by_extension a b t = simp (a, b, no_four, t, no_eleven)

  type_again : any (defines_type h.name) before ≡ true → first_card (type_errors before h) ≡ some h.number
  unfolding type_errors definition
  type_again s = let m = first_some (defines_type h.name) Plain before plain s in rw m.it (redefined m.one m.has.1)

  type_new : any (defines_type h.name) before ≡ false → is_type h.kind ≡ true → type_errors before h ≡ collisions h.kind [] h.parts
  unfolding type_errors definition parts_of flat_map
  type_new s t = rw (first_none (defines_type h.name) before s, no_extensions h.kind h.name before plain t, append-nil)

  other_again : any (defines_type h.name) before ≡ true → first_card (type_extension_errors before h) ≡ some h.number
  unfolding type_extension_errors definition defines_type is_type_definition
  other_again s =
      let m = first_some (defines_type h.name) Plain before plain s in
      rw m.it (late m.one (and_true (is_type m.one.kind) (is_named h.name m.one) m.passes).0)

  other_new : any (defines_type h.name) before ≡ false → type_extension_errors before h ≡ []
  unfolding type_extension_errors definition
  other_new s = rw (first_none (defines_type h.name) before s)

  own_error : own_fails before h ≡ true → first_card (errors_at before h) ≡ some h.number
  unfolding own_fails first_card heading_error error
  own_error f = go (leb h.kind 2) refl (eqb h.kind 3) refl (any (defines_type h.name) before) refl (is_type h.kind) refl f
    where
      go : (a : Bool) → leb h.kind 2 ≡ a → (b : Bool) → eqb h.kind 3 ≡ b → (s : Bool) → any (defines_type h.name) before ≡ s → (t : Bool) →
          is_type h.kind ≡ t
          → (a || (not b && s)) ≡ true → first_card (errors_at before h) ≡ some h.number
      go true ea b eb s es t et q = rw (by_executable ea)
      go false ea true eb s es t et q = absurd (let z : ◌≡◌ {A = ℕ} 0 1 = cc in omega arith)
      go false ea false eb false es t et q = absurd (let z : ◌≡◌ {A = ℕ} 0 1 = cc in omega arith)
      go false ea false eb true es true et q = rw (by_type ea eb et) (type_again es)
      go false ea false eb true es false et q = rw (by_extension ea eb et) (other_again es)

  no_own_type : own_fails before h ≡ false → is_type h.kind ≡ true → errors_at before h ≡ collisions h.kind [] h.parts
  unfolding own_fails
  no_own_type f t = go (leb h.kind 2) refl (eqb h.kind 3) refl (any (defines_type h.name) before) refl f
    where
      go : (a : Bool) → leb h.kind 2 ≡ a → (b : Bool) → eqb h.kind 3 ≡ b → (s : Bool) → any (defines_type h.name) before ≡ s
          → (a || (not b && s)) ≡ false → errors_at before h ≡ collisions h.kind [] h.parts
      go true ea b eb s es q = absurd (let z : ◌≡◌ {A = ℕ} 0 1 = cc in omega arith)
      go false ea true eb s es q = let l = type_low h.kind t in absurd (omega (arith, eqb-true h.kind 3 eb))
      go false ea false eb true es q = absurd (let z : ◌≡◌ {A = ℕ} 0 1 = cc in omega arith)
      go false ea false eb false es q = by_type ea eb t ∙ type_new es t

  no_own_other : own_fails before h ≡ false → is_type h.kind ≡ false → errors_at before h ≡ []
  unfolding own_fails
  no_own_other f t = go (leb h.kind 2) refl (eqb h.kind 3) refl (any (defines_type h.name) before) refl f
    where
      go : (a : Bool) → leb h.kind 2 ≡ a → (b : Bool) → eqb h.kind 3 ≡ b → (s : Bool) → any (defines_type h.name) before ≡ s
          → (a || (not b && s)) ≡ false → errors_at before h ≡ []
      go true ea b eb s es q = absurd (let z : ◌≡◌ {A = ℕ} 0 1 = cc in omega arith)
      go false ea true eb s es q = by_directive ea eb ∙ directive_errors_lem
      go false ea false eb true es q = absurd (let z : ◌≡◌ {A = ℕ} 0 1 = cc in omega arith)
      go false ea false eb false es q = by_extension ea eb t ∙ other_new es

-- ---- What one part gives.

module _ (k : ℕ) (seen : List NamedCard) (p : NamedCard) (ps : List NamedCard) where
  part_again : any (alike p) seen ≡ true → first_card (collisions k seen (p ∷ ps)) ≡ some p.number
  unfolding collisions repeats collision error first_card
  part_again e = let m = first_some (alike p) (λ q. Unit {0}) seen (all_every (λ q. Unit {0}) (λ q. tt) seen) e in rw m.it

  part_new : any (alike p) seen ≡ false → collisions k seen (p ∷ ps) ≡ collisions k (seen ++ (p ∷ [])) ps
  unfolding collisions repeats
  part_new e = rw (first_none (alike p) seen e)

-- ---- All cards, one after the other.

abbrev Unbarred : Card → Type 0
Unbarred c = is_barred c.kind ≡ false

-- The errors of parts that follow under a heading of kind k; none where they stand under no type.
unfoldable part_errors : ℕ → Option (List NamedCard) → List NamedCard → List Error
part_errors k o ps = found o (λ seen. collisions k seen ps) []

no_parts : (k : ℕ) (o : Option (List NamedCard)) → part_errors k o [] ≡ []
unfolding part_errors collisions repeats
no_parts k none = refl
no_parts k (some seen) = refl

part_no_type : (k : ℕ) → is_part k ≡ true → is_type k ≡ false
unfolding is_part is_type
part_no_type k h = go (leb 20 k) refl (leb k 10) refl h
  where
    go : (a : Bool) → leb 20 k ≡ a → (b : Bool) → leb k 10 ≡ b → (a && leb k 28) ≡ true → (leb 5 k && b) ≡ false
    go true ea true eb t = absurd (omega (arith, leb-true 20 k ea, leb-true k 10 eb))
    go true ea false eb t = and-false (leb 5 k)
    go false ea b eb t = absurd (let z : ◌≡◌ {A = ℕ} 0 1 = cc in omega arith)

module _ (text : List ℕ) where
  -- The same types stand before, as headings and as cards; the same parts, as parts and as cards.
  abbrev SameTypes : List Heading → List Card → Type 0
  SameTypes hs cs = (n : List ℕ) → any (defines_type n) hs ≡ any (type_named text n) cs

  abbrev SameParts : Option (List NamedCard) → Option (List Card) → Type 0
  SameParts none none = Unit {0}
  SameParts none (some cs) = ⊥
  SameParts (some ps) none = ⊥
  SameParts (some ps) (some cs) = (c : Card) (n : ℕ) → any (alike (named_card text n c)) ps ≡ any (alike_cards text c) cs

  types_part : (hs : List Heading) (cs : List Card) (c : Card) → SameTypes hs cs → is_part c.kind ≡ true → SameTypes hs (cs ++ (c ∷ []))
  unfolding type_named
  types_part hs cs c s e = λ n. s n ∙ sym (any_snoc (type_named text n) cs c ∙ rw (part_no_type c.kind e) (or-false (any (type_named text n) cs)))

  types_heading : (hs : List Heading) (cs : List Card) (c : Card) (n : ℕ) (ps : List NamedCard) → SameTypes hs cs →
      SameTypes (hs ++ (heading_from text true false n c ps ∷ [])) (cs ++ (c ∷ []))
  unfolding type_named defines_type is_type_definition is_named heading_from
  types_heading hs cs c n ps s = λ m. any_snoc (defines_type m) hs (heading_from text true false n c ps) ∙ rw (s m) (sym (any_snoc (type_named text m) cs c))

  parts_part : (ps : List NamedCard) (cs : List Card) (c : Card) (n : ℕ) → SameParts (some ps) (some cs) →
      SameParts (some (ps ++ (named_card text n c ∷ []))) (some (cs ++ (c ∷ [])))
  unfolding alike_cards alike named_card
  parts_part ps cs c n s = λ d m. any_snoc (alike (named_card text m d)) ps (named_card text n c) ∙ rw (s d m) (sym (any_snoc (alike_cards text d) cs c))

  parts_none : SameParts (some []) (some [])
  unfolding any
  parts_none = λ d m. refl

  plain_more : (hs : List Heading) (c : Card) (n : ℕ) (ps : List NamedCard) → All Plain hs → Unbarred c →
      All Plain (hs ++ (heading_from text true false n c ps ∷ []))
  unfolding heading_from
  plain_more hs c n ps a u = all_append Plain hs (heading_from text true false n c ps ∷ []) a ((u, refl), tt)

  own_same : (hs : List Heading) (cs : List Card) (c : Card) (n : ℕ) (ps : List NamedCard) → SameTypes hs cs →
      own_fails hs (heading_from text true false n c ps) ≡ heading_fails text cs c
  unfolding own_fails heading_fails heading_from
  own_same hs cs c n ps s = rw (s (name_of text c))

  -- What the cards cs, numbered from n on, give after the headings hs and the parts ps under a heading of kind k.
  unfoldable Given : ℕ → ℕ → List Heading → Option (List NamedCard) → List Card → Option ℕ
  Given n k hs ps cs = first_card (part_errors k ps (group text true false n cs).0 ++ reading_errors hs (group text true false n cs).1)

  given_none : (n k : ℕ) (hs : List Heading) (ps : Option (List NamedCard)) → Given n k hs ps [] ≡ none
  unfolding Given group reading_errors first_card
  given_none n k hs ps = rw (no_parts k ps)

  module _ (n k : ℕ) (hs : List Heading) (c : Card) (cs : List Card) where
    given_part_other : is_part c.kind ≡ true → Given n k hs none (c ∷ cs) ≡ Given (n + 1) k hs none cs
    unfolding Given group part_errors
    given_part_other e = rw e

    given_part_again : (ps : List NamedCard) → is_part c.kind ≡ true → any (alike (named_card text n c)) ps ≡ true → Given n k hs (some ps) (c ∷ cs) ≡ some n
    unfolding Given group part_errors named_card
    given_part_again ps e t = rw e (first_set_of _ _ n (part_again k ps (named_card text n c) (group text true false (n + 1) cs).0 t))

    given_part_new : (ps : List NamedCard) → is_part c.kind ≡ true → any (alike (named_card text n c)) ps ≡ false →
        Given n k hs (some ps) (c ∷ cs) ≡ Given (n + 1) k hs (some (ps ++ (named_card text n c ∷ []))) cs
    unfolding Given group part_errors
    given_part_new ps e t = rw (e, part_new k ps (named_card text n c) (group text true false (n + 1) cs).0 t)

    abbrev head : Heading
    head = heading_from text true false n c (group text true false (n + 1) cs).0

    module _ (ps : Option (List NamedCard)) (plain : All Plain hs) (unbarred : Unbarred c) (e : is_part c.kind ≡ false) where
      given_heading : Given n k hs ps (c ∷ cs) ≡ first_card (errors_at hs head ++ reading_errors (hs ++ (head ∷ [])) (group text true false (n + 1) cs).1)
      unfolding Given group reading_errors
      given_heading = rw (e, no_parts k ps)

      given_own : own_fails hs head ≡ true → Given n k hs ps (c ∷ cs) ≡ some n
      unfolding heading_from
      given_own f = given_heading ∙ first_set_of _ _ n (own_error hs head plain unbarred refl f)

      given_type : own_fails hs head ≡ false → is_type c.kind ≡ true → Given n k hs ps (c ∷ cs) ≡ Given (n + 1) c.kind (hs ++ (head ∷ [])) (some []) cs
      unfolding heading_from Given part_errors
      given_type f t = given_heading ∙ rw (no_own_type hs head plain unbarred refl f t)

      given_other : own_fails hs head ≡ false → is_type c.kind ≡ false → Given n k hs ps (c ∷ cs) ≡ Given (n + 1) k (hs ++ (head ∷ [])) none cs
      unfolding heading_from Given part_errors
      given_other f t = given_heading ∙ rw (no_own_other hs head plain unbarred refl f t)

  module _ (before : List Card) (seen : Option (List Card)) (n : ℕ) (c : Card) (cs : List Card) where
    fails_here : card_fails text before seen c ≡ true → fails_from text before seen n (c ∷ cs) ≡ some n
    unfolding fails_from
    fails_here e = rw e

    fails_later : (next : Option (List Card)) → card_fails text before seen c ≡ false → seen_after seen c ≡ next →
        fails_from text before seen n (c ∷ cs) ≡ fails_from text (before ++ (c ∷ [])) next (n + 1) cs
    unfolding fails_from
    fails_later next e f = rw (e, f)

  seen_part : (c : Card) (cs : List Card) → is_part c.kind ≡ true → seen_after (some cs) c ≡ some (cs ++ (c ∷ []))
  unfolding seen_after
  seen_part c cs e = rw e

  seen_none : (c : Card) → is_part c.kind ≡ true → seen_after none c ≡ none
  unfolding seen_after
  seen_none c e = rw e

  seen_type : (c : Card) (seen : Option (List Card)) → is_part c.kind ≡ false → is_type c.kind ≡ true → seen_after seen c ≡ some []
  unfolding seen_after
  seen_type c seen e t = rw (e, t)

  seen_other : (c : Card) (seen : Option (List Card)) → is_part c.kind ≡ false → is_type c.kind ≡ false → seen_after seen c ≡ none
  unfolding seen_after
  seen_other c seen e t = rw (e, t)

  -- Both tell the same of the cards cs.
  abbrev Agree : ℕ → List Card → Type 0
  Agree n cs = (k : ℕ) (hs : List Heading) (before : List Card) (ps : Option (List NamedCard)) (seen : Option (List Card))
      → All Plain hs → SameTypes hs before → SameParts ps seen → Given n k hs ps cs ≡ fails_from text before seen n cs

  module _ (n : ℕ) (c : Card) (cs : List Card) (ih : Agree (n + 1) cs) (k : ℕ) (hs : List Heading) (before : List Card) (plain : All Plain hs)
      (types : SameTypes hs before) where
    agree_part : (ps : Option (List NamedCard)) (seen : Option (List Card)) → SameParts ps seen → is_part c.kind ≡ true →
        Given n k hs ps (c ∷ cs) ≡ fails_from text before seen n (c ∷ cs)
    agree_part none (some q) s e = absurd s
    agree_part (some p) none s e = absurd s
    agree_part none none s e =
        given_part_other n k hs c cs e
        ∙ ih k hs (before ++ (c ∷ [])) none none plain (types_part hs before c types e) tt
        ∙ sym (fails_later before none n c cs none (fails_other text before c none e refl) (seen_none c e))
    agree_part (some p) (some q) s e = go (any (alike_cards text c) q) refl
      where
        go : (t : Bool) → any (alike_cards text c) q ≡ t → Given n k hs (some p) (c ∷ cs) ≡ fails_from text before (some q) n (c ∷ cs)
        go true t =
            given_part_again n k hs c cs p e (s c n ∙ t)
            ∙ sym (fails_here before (some q) n c cs (sym (fails_part text before c (some q) q _ e refl refl) ∙ t))
        go false t =
            given_part_new n k hs c cs p e (s c n ∙ t)
            ∙ ih k hs (before ++ (c ∷ [])) (some (p ++ (named_card text n c ∷ []))) (some (q ++ (c ∷ []))) plain (types_part hs before c types e)
            (parts_part p q c n s)
            ∙ sym (fails_later before (some q) n c cs (some (q ++ (c ∷ []))) (sym (fails_part text before c (some q) q _ e refl refl) ∙ t) (seen_part c q e))

    agree_heading : (ps : Option (List NamedCard)) (seen : Option (List Card)) → Unbarred c → is_part c.kind ≡ false →
        Given n k hs ps (c ∷ cs) ≡ fails_from text before seen n (c ∷ cs)
    agree_heading ps seen u e = go (heading_fails text before c) refl (is_type c.kind) refl
      where
        own : own_fails hs (head n k hs c cs) ≡ heading_fails text before c
        own = own_same hs before c n (group text true false (n + 1) cs).0 types

        more : SameTypes (hs ++ (head n k hs c cs ∷ [])) (before ++ (c ∷ []))
        more = types_heading hs before c n (group text true false (n + 1) cs).0 types

        still : All Plain (hs ++ (head n k hs c cs ∷ []))
        still = plain_more hs c n (group text true false (n + 1) cs).0 plain u

        go : (t : Bool) → heading_fails text before c ≡ t → (y : Bool) → is_type c.kind ≡ y → Given n k hs ps (c ∷ cs) ≡ fails_from text before seen n (c ∷ cs)
        go true t y ey =
            given_own n k hs c cs ps plain u e (own ∙ t)
            ∙ sym (fails_here before seen n c cs (sym (fails_heading text before c seen _ e refl) ∙ t))
        go false t true ey =
            given_type n k hs c cs ps plain u e (own ∙ t) ey
            ∙ ih c.kind (hs ++ (head n k hs c cs ∷ [])) (before ++ (c ∷ [])) (some []) (some []) still more parts_none
            ∙ sym (fails_later before seen n c cs (some []) (sym (fails_heading text before c seen _ e refl) ∙ t) (seen_type c seen e ey))
        go false t false ey =
            given_other n k hs c cs ps plain u e (own ∙ t) ey
            ∙ ih k (hs ++ (head n k hs c cs ∷ [])) (before ++ (c ∷ [])) none none still more tt
            ∙ sym (fails_later before seen n c cs none (sym (fails_heading text before c seen _ e refl) ∙ t) (seen_other c seen e ey))

  agree : (n : ℕ) (cs : List Card) → All Unbarred cs → Agree n cs
  unfolding fails_from
  agree n [] u k hs before ps seen plain types parts = given_none n k hs ps
  agree n (c ∷ cs) u k hs before ps seen plain types parts = go (is_part c.kind) refl (agree (n + 1) cs u.1)
    where
      go : (b : Bool) → is_part c.kind ≡ b → Agree (n + 1) cs → Given n k hs ps (c ∷ cs) ≡ fails_from text before seen n (c ∷ cs)
      go true e ih = agree_part n c cs ih k hs before plain types ps seen parts e
      go false e ih = agree_heading n c cs ih k hs before plain types ps seen u.0 e

  -- ---- The document.

  plain_group : (n : ℕ) (cs : List Card) → All Unbarred cs → All Plain (group text true false n cs).1
  unfolding group heading_from
  plain_group n [] u = tt
  plain_group n (c ∷ cs) u = go (is_part c.kind) (plain_group (n + 1) cs u.1)
    where
      r : List NamedCard × List Heading
      r = group text true false (n + 1) cs

      go : (b : Bool) → All Plain r.1 →
          All Plain (choose {A = List NamedCard × List Heading} b (named_card text n c ∷ r.0, r.1) ([], heading_from text true false n c r.0 ∷ r.1)).1
      go true a = a
      go false a = ((u.0, refl), a)

all_given : (text : List ℕ) (cs : List Card) → All Unbarred cs → first_card (reading_errors [] (group text true false 0 cs).1) ≡ fails_from text [] none 0 cs
unfolding Given part_errors any
all_given text cs u = agree text 0 cs u 0 [] [] none none tt (λ n. refl) tt

unbarred_all : (i : ℕ) (cs : List Card) → barred_from i cs ≡ none → All Unbarred cs
unfolding barred_from
unbarred_all i [] h = tt
unbarred_all i (c ∷ cs) h = go (is_barred c.kind) refl (unbarred_all (i + 1) cs) h
  where
    go : (b : Bool) → is_barred c.kind ≡ b → (barred_from (i + 1) cs ≡ none → All Unbarred cs) →
        choose b (some (answer 6 i)) (barred_from (i + 1) cs) ≡ none → All Unbarred (c ∷ cs)
    go true e r k = absurd (let z : ◌≡◌ {A = ℕ} 0 1 = cc in omega arith)
    go false e r k = (e, r k)

six_first : (es : List Error) → found (first es) (λ e. some (answer 6 e.card)) none ≡ six_at (first_card es)
unfolding six_at first_card
six_first [] = refl
six_first (e ∷ es) = refl

alone : (text : List ℕ) (cs : List Card) → All Unbarred cs →
    error_alone (record { text = text; cards = cs; ignored = false }) ≡ six_at (fails_from text [] none 0 cs)
unfolding error_alone merge headings headings_from
alone text cs u =
    let hs : List Heading = (group text true false 0 cs).1 in
    let a : All Plain hs = plain_group text 0 cs u in
    six_first (reading_errors [] (hs ++ []) ++ drawing_errors false (hs ++ []))
    ∙ ap six_at (rw (append-nil hs, no_drawing hs a, append-nil (reading_errors [] hs)) (all_given text cs u))

-- A barred heading is the refusal; where there is none, the first error is.
module _ (text ws : List ℕ) where
  pub zero_barred : (a : Answer) → some a ≡ barred_from 0 (cards_of ws) → some a ≡ zero_fault (document false text ws)
  unfolding zero_fault document
  zero_barred a b = rw (← b)

  pub zero_alone : none ≡ barred_from 0 (cards_of ws) → zero_fault (document false text ws) ≡ six_at (fails_from text [] none 0 (cards_of ws))
  unfolding zero_fault document
  zero_alone b = rw (← b) (alone text (cards_of ws) (unbarred_all 0 (cards_of ws) (sym b)))
