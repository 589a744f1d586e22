-- The errors of a heading branch by branch, as the code tells them.
use mathlib.Core.Path.{◌≡◌, refl, sym, ◌∙◌, ap, ap₂}
use mathlib.Core.List.{List, [], ◌∷◌, ◌++◌, append-nil}
use mathlib.Core.Bool.{Bool, true, false}
use mathlib.Core.Option.{none, some}
use Prim.Native.Nat.{ℕ, zero, suc, ◌+◌, ◌-◌, ◌≤◌, ◌<◌}
use native.Mathlib.Numerals.{add-one}
use native.Mathlib.Omega.{arith}
use lib.Dec.{eqb, ltb}
use lib.ListN.{length, get_or, take, drop, drop_of_length-le}
use lib.Seq.{drop-cons, take-suc}
use borrow.Author.Tests.{eq-eqb, ne_eqb, lt-ltb, le-ltb, le-leb, lt-leb}
use Rattle.definition.specs.Lists.{All, choose, find, flat_map}
use Rattle.definition.specs.Names.{same_name}
use Rattle.definition.specs.Answers.{absent}
use Rattle.definition.specs.Cards.{is_type, definition_of}
use Rattle.definition.specs.Errors.{Error, error}
use Rattle.store_reader.specs.Stored.{card_kind, card_name, built_in_at, ignored_at}
use Rattle.from_ast_collisions.specs.declared.owner.Owner.{Owner}
use Rattle.from_ast_collisions.specs.Views.{merged, schema_merged}
use Rattle.from_ast_collisions.specs.Earlier.{View, stands_for, collision_under, merge_errors}
use Rattle.from_ast_collisions.specs.ErrorsByCards.{collides, directive_errors_at, schema_merge_errors, schema_errors_at, schema_extension_errors_at}
use Rattle.from_ast_collisions.specs.ErrorsByCards.{redefinition_errors_at, is_early, early_errors, type_errors_at, late_errors_at}
use Rattle.from_ast_collisions.specs.ErrorsByCards.{type_extension_errors_at, errors_at_card, reading_errors_at, is_orphan_of, adoption_errors_at}
use Rattle.from_ast_collisions.specs.ErrorsByCards.{unadopted_errors_at, orphan_errors_at, unmet_errors, is_bare, no_schema_errors_at, drawing_errors_at}
use Rattle.from_ast_collisions.specs.Views.{view_of, card_view, Ascending}
use Rattle.definition.proofs.Lists.{flat_map_nil, flat_map_cons, first_nil, first_yes, first_no}
use Rattle.definition.proofs.All.{all_to}
use Rattle.from_ast_collisions.proofs.Merge.{merge_owners}

-- ---- The first card that passes.

module _ (p : ℕ → Bool) (xs : List ℕ) (i : ℕ) where
  pub first_here : i < length xs → p (get_or xs i 0) ≡ true → find p (drop i xs) ≡ some (get_or xs i 0)
  first_here h e = ap (find p) (drop-cons xs i 0 h) ∙ first_yes p (get_or xs i 0) (drop (suc i) xs) e

  pub first_later : i < length xs → p (get_or xs i 0) ≡ false → find p (drop i xs) ≡ find p (drop (i + 1) xs)
  first_later h e = ap (find p) (drop-cons xs i 0 h) ∙ (first_no p (get_or xs i 0) (drop (suc i) xs) e ∙ ap (λ j. find p (drop j xs)) (sym (add-one i)))

  pub first_past : length xs ≤ i → find p (drop i xs) ≡ none
  first_past h = ap (find p) (drop_of_length-le xs h) ∙ first_nil p

pub held_at : (P : ℕ → Type 0) (xs : List ℕ) (i : ℕ) → All P xs → i < length xs → P (get_or xs i 0)
held_at P [] i a h = absurd (omega arith)
held_at P (x ∷ xs) zero a h = a.0
held_at P (x ∷ xs) (suc i) a h = held_at P xs i a.1 (omega arith)

-- ---- Directive definitions.

module _ (v : View) (h c : ℕ) where
  pub collides_other : (v.kind c ≡ 3 → ⊥) → collides v h c ≡ false
  unfolding collides
  collides_other e = rw (ne_eqb (v.kind c) 3 e)

  pub collides_built_in : v.kind c ≡ 3 → v.built_in c ≡ true → collides v h c ≡ false
  unfolding collides
  collides_built_in e f = rw (eq-eqb (v.kind c) 3 e, f)

  pub collides_named : v.kind c ≡ 3 → v.built_in c ≡ false → collides v h c ≡ same_name (v.name h) (v.name c)
  unfolding collides
  collides_named e f = rw (eq-eqb (v.kind c) 3 e, f)

module _ (v : View) (before : List ℕ) (h : ℕ) where
  pub directive_found : (c : ℕ) → find (collides v h) before ≡ some c → directive_errors_at v before h ≡ error 3 h c ∷ []
  unfolding directive_errors_at
  directive_found c e = rw e

  pub directive_none : find (collides v h) before ≡ none → directive_errors_at v before h ≡ []
  unfolding directive_errors_at
  directive_none e = rw e

-- What is merged into the row of a kind and a card.
pub owner_merged : (v : View) (o : Owner) (rows : List ℕ) (k d h : ℕ) → o.rows.now ≡ rows → o.kind ≡ k → o.card ≡ d → merge_errors v rows k d h ≡ merged v o h
owner_merged v o rows k d h e f g = cc

-- ---- The schema.

-- The parts of a schema extension, merged into the row of the schema.
pub schema_merged_is : (v : View) (o : Owner) (c : ℕ) → o.kind ≡ 4 → v.kind c ≡ 11 → schema_merged v o c ≡ merged v o c
unfolding schema_merge_errors
schema_merged_is v o c k e = rw (eq-eqb (v.kind c) 11 e, k)

module _ (v : View) (rows : List ℕ) (s : ℕ) where
  pub schema_merge_other : (c : ℕ) → (v.kind c ≡ 11 → ⊥) → schema_merge_errors v rows s c ≡ []
  unfolding schema_merge_errors
  schema_merge_other c e = rw (ne_eqb (v.kind c) 11 e)

  pub schema_merge_is : (c : ℕ) → v.kind c ≡ 11 → schema_merge_errors v rows s c ≡ merge_errors v rows 4 s c
  unfolding schema_merge_errors
  schema_merge_is c e = rw (eq-eqb (v.kind c) 11 e)

  pub schema_second : (before : List ℕ) (h : ℕ) → s < h → schema_errors_at v rows s before h ≡ error 2 h s ∷ []
  unfolding schema_errors_at
  schema_second before h l = rw (lt-ltb s h l)

  pub schema_first : (before : List ℕ) (h : ℕ) → h ≤ s →
      schema_errors_at v rows s before h ≡ merge_errors v rows 4 s h ++ flat_map (schema_merge_errors v rows s) before
  unfolding schema_errors_at
  schema_first before h l = rw (le-ltb s h l)

  pub extension_waits : (h : ℕ) → h ≤ s → schema_extension_errors_at v rows s h ≡ []
  unfolding schema_extension_errors_at
  extension_waits h l = rw (le-ltb s h l)

  pub extension_merged : (h : ℕ) → s < h → schema_extension_errors_at v rows s h ≡ merge_errors v rows 4 s h
  unfolding schema_extension_errors_at
  extension_merged h l = rw (lt-ltb s h l)

-- The same by the schema's row.
module _ (v : View) (o : Owner) (k : o.kind ≡ 4) (h : ℕ) where
  pub schema_first_merged : (before : List ℕ) → h ≤ o.card → schema_errors_at v o.rows.now o.card before h ≡ merged v o h ++ flat_map (schema_merged v o) before
  schema_first_merged before l =
      schema_first v o.rows.now o.card before h l
      ∙ ap (λ n. merge_errors v o.rows.now n o.card h ++ flat_map (schema_merged v o) before) (sym k)

  pub schema_extended : o.card < h → schema_extension_errors_at v o.rows.now o.card h ≡ merged v o h
  schema_extended l = extension_merged v o.rows.now o.card h l ∙ ap (λ n. merge_errors v o.rows.now n o.card h) (sym k)

-- ---- A second type definition.

module _ (v : View) (h : ℕ) where
  pub redefined_own : v.built_in (v.owner h) ≡ false → redefinition_errors_at v h ≡ error 4 h (v.owner h) ∷ []
  unfolding redefinition_errors_at
  redefined_own e = rw e

  pub redefined_ignored : v.built_in (v.owner h) ≡ true → v.ignored h ≡ true → redefinition_errors_at v h ≡ []
  unfolding redefinition_errors_at
  redefined_ignored e f = rw (e, f)

  pub redefined_scalar : v.built_in (v.owner h) ≡ true → v.ignored h ≡ false → v.kind h ≡ 5 → redefinition_errors_at v h ≡ error 5 h absent ∷ []
  unfolding redefinition_errors_at
  redefined_scalar e f g = rw (e, f, eq-eqb (v.kind h) 5 g)

  pub redefined_other : v.built_in (v.owner h) ≡ true → v.ignored h ≡ false → (v.kind h ≡ 5 → ⊥) → redefinition_errors_at v h ≡ error 4 h (v.owner h) ∷ []
  unfolding redefinition_errors_at
  redefined_other e f g = rw (e, f, ne_eqb (v.kind h) 5 g)

-- ---- Extensions before their definition.

module _ (v : View) (rows : List ℕ) (h c : ℕ) where
  pub early_late : h ≤ c → early_errors v rows h c ≡ []
  unfolding early_errors is_early
  early_late l = rw (le-ltb c h l)

  pub early_kind : c < h → (v.kind c ≡ v.kind h + 7 → ⊥) → early_errors v rows h c ≡ []
  unfolding early_errors is_early
  early_kind l e = rw (lt-ltb c h l, ne_eqb (v.kind c) (v.kind h + 7) e)

  pub early_owner : c < h → v.kind c ≡ v.kind h + 7 → (v.owner c ≡ h → ⊥) → early_errors v rows h c ≡ []
  unfolding early_errors is_early
  early_owner l e f = rw (lt-ltb c h l, eq-eqb (v.kind c) (v.kind h + 7) e, ne_eqb (v.owner c) h f)

  pub early_merged : c < h → v.kind c ≡ v.kind h + 7 → v.owner c ≡ h → early_errors v rows h c ≡ merge_errors v rows (v.kind h) h c
  unfolding early_errors is_early
  early_merged l e f = rw (lt-ltb c h l, eq-eqb (v.kind c) (v.kind h + 7) e, eq-eqb (v.owner c) h f)

-- From the first extension on that is not before h, none is.
all_late : (v : View) (rows : List ℕ) (h : ℕ) (xs : List ℕ) → All (λ c. h ≤ c) xs → flat_map (early_errors v rows h) xs ≡ []
all_late v rows h [] a = flat_map_nil (early_errors v rows h)
all_late v rows h (x ∷ xs) a = flat_map_cons (early_errors v rows h) x xs ∙ ap₂ (λ l m. l ++ m) (early_late v rows h x a.0) (all_late v rows h xs a.1)

pub none_early : (v : View) (rows : List ℕ) (h : ℕ) (xs : List ℕ) (i : ℕ) → Ascending xs → i < length xs → h ≤ get_or xs i 0 →
    flat_map (early_errors v rows h) (drop i xs) ≡ []
none_early v rows h [] i a l k = absurd (omega arith)
none_early v rows h (x ∷ xs) zero a l k = all_late v rows h (x ∷ xs) (k, all_to (λ c. x < c) (λ c. h ≤ c) (λ c m. omega arith) xs a.0)
none_early v rows h (x ∷ xs) (suc i) a l k = none_early v rows h xs i a.1 (omega arith) k

-- ---- Types and their extensions.

module _ (v : View) (rows extensions : List ℕ) (h : ℕ) where
  pub type_second : v.owner h < h → type_errors_at v rows extensions h ≡ redefinition_errors_at v h
  unfolding type_errors_at
  type_second l = rw (lt-ltb (v.owner h) h l)

  pub type_first : h ≤ v.owner h → type_errors_at v rows extensions h ≡ merge_errors v rows (v.kind h) h h ++ flat_map (early_errors v rows h) extensions
  unfolding type_errors_at
  type_first l = rw (le-ltb (v.owner h) h l)

module _ (v : View) (rows : List ℕ) (h : ℕ) where
  pub type_waits : h ≤ v.owner h → type_extension_errors_at v rows h ≡ []
  unfolding type_extension_errors_at
  type_waits l = rw (le-ltb (v.owner h) h l)

  pub type_mismatch : v.owner h < h → (v.kind h ≡ v.kind (v.owner h) + 7 → ⊥) → type_extension_errors_at v rows h ≡ error 8 h (v.owner h) ∷ []
  unfolding type_extension_errors_at late_errors_at
  type_mismatch l e = rw (lt-ltb (v.owner h) h l, ne_eqb (v.kind h) (v.kind (v.owner h) + 7) e)

  pub type_merged : v.owner h < h → v.kind h ≡ v.kind (v.owner h) + 7 →
      type_extension_errors_at v rows h ≡ merge_errors v rows (v.kind (v.owner h)) (v.owner h) h
  unfolding type_extension_errors_at late_errors_at
  type_merged l e = rw (lt-ltb (v.owner h) h l, eq-eqb (v.kind h) (v.kind (v.owner h) + 7) e)

-- ---- The same by what was read: owners, kinds and switches.

module _ (text words owners : List ℕ) (h o : ℕ) (e : o ≡ get_or owners h 0) (b : Bool) (f : b ≡ built_in_at words o) where
  built : b ≡ built_in_at words (get_or owners h 0)
  built = f ∙ ap (built_in_at words) e

  pub second_own : b ≡ false → redefinition_errors_at (view_of text words owners) h ≡ error 4 h o ∷ []
  second_own t = redefined_own (view_of text words owners) h (sym built ∙ t) ∙ ap (λ c. error 4 h c ∷ []) (sym e)

  module _ (t : b ≡ true) (i : Bool) (g : i ≡ ignored_at words h) where
    pub second_ignored : i ≡ true → redefinition_errors_at (view_of text words owners) h ≡ []
    second_ignored u = redefined_ignored (view_of text words owners) h (sym built ∙ t) (sym g ∙ u)

    module _ (u : i ≡ false) (k : ℕ) (q : k ≡ card_kind words h) where
      pub second_scalar : k ≡ 5 → redefinition_errors_at (view_of text words owners) h ≡ error 5 h absent ∷ []
      second_scalar s = redefined_scalar (view_of text words owners) h (sym built ∙ t) (sym g ∙ u) (sym q ∙ s)

      pub second_other : (k ≡ 5 → ⊥) → redefinition_errors_at (view_of text words owners) h ≡ error 4 h o ∷ []
      second_other s = redefined_other (view_of text words owners) h (sym built ∙ t) (sym g ∙ u) (λ z. s (q ∙ z)) ∙ ap (λ c. error 4 h c ∷ []) (sym e)

module _ (text words owners rows : List ℕ) (h c kind : ℕ) (q : kind ≡ card_kind words h) (l : c < h) (k : ℕ) (e : k ≡ card_kind words c) where
  pub early_other_kind : (k ≡ kind + 7 → ⊥) → early_errors (view_of text words owners) rows h c ≡ []
  early_other_kind n = early_kind (view_of text words owners) rows h c l (λ z. n (e ∙ (z ∙ ap (λ m. m + 7) (sym q))))

  module _ (s : k ≡ kind + 7) (o : ℕ) (f : o ≡ get_or owners c 0) where
    kinds : card_kind words c ≡ card_kind words h + 7
    kinds = sym e ∙ (s ∙ ap (λ m. m + 7) q)

    pub early_other_owner : (o ≡ h → ⊥) → early_errors (view_of text words owners) rows h c ≡ []
    early_other_owner n = early_owner (view_of text words owners) rows h c l kinds (λ z. n (f ∙ z))

    pub early_own : o ≡ h → early_errors (view_of text words owners) rows h c ≡ merge_errors (card_view text words) rows kind h c
    early_own t =
        early_merged (view_of text words owners) rows h c l kinds (sym f ∙ t)
        ∙ (merge_owners text words owners rows (card_kind words h) h c ∙ ap (λ m. merge_errors (card_view text words) rows m h c) (sym q))

module _ (text words owners rows : List ℕ) (h o : ℕ) (e : o ≡ get_or owners h 0) where
  pub late_waits : h ≤ o → type_extension_errors_at (view_of text words owners) rows h ≡ []
  late_waits l = type_waits (view_of text words owners) rows h (omega arith)

  module _ (l : o < h) (kind : ℕ) (q : kind ≡ card_kind words o) (k : ℕ) (f : k ≡ card_kind words h) where
    pub late_mismatch : (k ≡ kind + 7 → ⊥) → type_extension_errors_at (view_of text words owners) rows h ≡ error 8 h o ∷ []
    late_mismatch n =
        type_mismatch (view_of text words owners) rows h (omega arith) (λ z. n (f ∙ (z ∙ ap (λ m. m + 7) (sym (q ∙ ap (card_kind words) e)))))
        ∙ ap (λ c. error 8 h c ∷ []) (sym e)

    pub late_merged : k ≡ kind + 7 → type_extension_errors_at (view_of text words owners) rows h ≡ merge_errors (card_view text words) rows kind o h
    late_merged s =
        type_merged (view_of text words owners) rows h (omega arith) (sym f ∙ (s ∙ ap (λ m. m + 7) (q ∙ ap (card_kind words) e)))
        ∙ (merge_owners text words owners rows (card_kind words (get_or owners h 0)) (get_or owners h 0) h
        ∙ ap₂ (λ m d. merge_errors (card_view text words) rows m d h) (sym (q ∙ ap (card_kind words) e)) (sym e))

module _ (text words owners rows extensions : List ℕ) (h o : ℕ) (e : o ≡ get_or owners h 0) where
  pub defined_again : o < h → type_errors_at (view_of text words owners) rows extensions h ≡ redefinition_errors_at (view_of text words owners) h
  defined_again l = type_second (view_of text words owners) rows extensions h (omega arith)

  pub defined_first : h ≤ o → (kind : ℕ) → kind ≡ card_kind words h →
      type_errors_at (view_of text words owners) rows extensions h ≡ merge_errors (card_view text words) rows kind h h
      ++ flat_map (early_errors (view_of text words owners) rows h) extensions
  defined_first l kind q =
      type_first (view_of text words owners) rows extensions h (omega arith)
      ∙ ap (λ l. l ++ flat_map (early_errors (view_of text words owners) rows h) extensions)
      (merge_owners text words owners rows (card_kind words h) h h ∙ ap (λ m. merge_errors (card_view text words) rows m h h) (sym q))

-- ---- Any heading, by its kind.

module _ (text words owners rows extensions before : List ℕ) (schema h k : ℕ) (e : k ≡ card_kind words h) where
  abbrev all : List Error
  all = errors_at_card (view_of text words owners) rows schema extensions before h

  pub at_executable : k ≤ 2 → all ≡ error 1 h absent ∷ []
  unfolding errors_at_card
  at_executable l = rw (← e, le-leb k 2 l)

  pub at_directive : k ≡ 3 → all ≡ directive_errors_at (card_view text words) before h
  unfolding errors_at_card directive_errors_at collides
  at_directive l = rw (← e, l)

  pub at_schema : k ≡ 4 → all ≡ schema_errors_at (card_view text words) rows schema before h
  unfolding errors_at_card schema_errors_at schema_merge_errors merge_errors collision_under stands_for
  at_schema l = rw (← e, l)

  pub at_type : 4 < k → k ≤ 10 → all ≡ type_errors_at (view_of text words owners) rows extensions h
  unfolding errors_at_card is_type
  at_type l u = rw (← e, lt-leb k 2 (omega arith), ne_eqb k 3 (λ q. omega arith), ne_eqb k 4 (λ q. omega arith), le-leb 5 k (omega arith), le-leb k 10 u)

  pub at_schema_extension : k ≡ 11 → all ≡ schema_extension_errors_at (card_view text words) rows schema h
  unfolding errors_at_card is_type schema_extension_errors_at merge_errors collision_under stands_for
  at_schema_extension l = rw (← e, l)

  pub at_type_extension : 11 < k → all ≡ type_extension_errors_at (view_of text words owners) rows h
  unfolding errors_at_card is_type
  at_type_extension l =
      rw (
        ← e,
        lt-leb k 2 (omega arith),
        ne_eqb k 3 (λ q. omega arith),
        ne_eqb k 4 (λ q. omega arith),
        le-leb 5 k (omega arith),
        lt-leb k 10 (omega arith),
        ne_eqb k 11 (λ q. omega arith),
      )

module _ (v : View) (rows : List ℕ) (schema : ℕ) (extensions headings : List ℕ) (i : ℕ) where
  pub reading_next : i < length headings →
      reading_errors_at v rows schema extensions (take i headings) (drop i headings) ≡
      errors_at_card v rows schema extensions (take i headings) (get_or headings i 0) ++ reading_errors_at v rows schema extensions (take (i + 1) headings)
      (drop (i + 1) headings)
  unfolding reading_errors_at
  reading_next h =
      ap (reading_errors_at v rows schema extensions (take i headings)) (drop-cons headings i 0 h)
      ∙ ap₂ (λ l m. errors_at_card v rows schema extensions (take i headings) (get_or headings i 0) ++ reading_errors_at v rows schema extensions l m)
      (sym (take-suc headings i 0 h) ∙ ap (λ j. take j headings) (sym (add-one i))) (ap (λ j. drop j headings) (sym (add-one i)))

  pub reading_done : length headings ≤ i → reading_errors_at v rows schema extensions (take i headings) (drop i headings) ≡ []
  unfolding reading_errors_at
  reading_done h = ap (reading_errors_at v rows schema extensions (take i headings)) (drop_of_length-le headings h)

pub held_before : (P : ℕ → Type 0) (i : ℕ) (xs : List ℕ) → All P xs → All P (take i xs)
held_before P zero xs a = tt
held_before P (suc i) [] a = tt
held_before P (suc i) (x ∷ xs) a = (a.0, held_before P i xs a.1)

-- ---- Orphans.

-- An extension's kind k, as it was read, and the kind d of its definition.
pub defined_kind : (k j d : ℕ) → k ≡ j → d ≡ definition_of k → 11 ≤ j → d ≡ j - 7
unfolding definition_of
defined_kind k j d e f l = f ∙ rw (le-leb 11 k (omega arith)) (omega arith)

module _ (text words owners : List ℕ) (g c o : ℕ) (e : o ≡ get_or owners c 0) where
  pub orphan_owned : (o ≡ absent → ⊥) → is_orphan_of (view_of text words owners) g c ≡ false
  unfolding is_orphan_of
  orphan_owned n = rw (ne_eqb (get_or owners c 0) absent (λ q. n (e ∙ q)))

  pub orphan_named : o ≡ absent → is_orphan_of (view_of text words owners) g c ≡ same_name (card_name text words g) (card_name text words c)
  unfolding is_orphan_of
  orphan_named q = rw (eq-eqb (get_or owners c 0) absent (sym e ∙ q))

module _ (text words owners rows : List ℕ) (g c : ℕ) (b : Bool) (e : b ≡ is_orphan_of (view_of text words owners) g c) where
  pub adopt_other : b ≡ false → adoption_errors_at (view_of text words owners) rows g c ≡ []
  unfolding adoption_errors_at
  adopt_other f = rw (← e, f)

  pub unadopted_other : b ≡ false → unadopted_errors_at (view_of text words owners) g c ≡ []
  unfolding unadopted_errors_at
  unadopted_other f = rw (← e, f)

  pub unadopted_same : b ≡ true → unadopted_errors_at (view_of text words owners) g c ≡ error 7 c absent ∷ []
  unfolding unadopted_errors_at
  unadopted_same f = rw (← e, f)

  module _ (f : b ≡ true) (k j : ℕ) (p : k ≡ card_kind words c) (q : j ≡ card_kind words g) where
    pub adopt_mismatch : (k ≡ j → ⊥) → adoption_errors_at (view_of text words owners) rows g c ≡ error 8 c g ∷ []
    unfolding adoption_errors_at
    adopt_mismatch n = rw (← e, f, ne_eqb (card_kind words c) (card_kind words g) (λ z. n (p ∙ (z ∙ sym q))))

    pub adopt_merged : k ≡ j → (kind : ℕ) → kind ≡ card_kind words g - 7 → adoption_errors_at (view_of text words owners) rows g c ≡
        merge_errors (card_view text words) rows kind g c
    unfolding adoption_errors_at
    adopt_merged s kind r =
        rw (← e, f, eq-eqb (card_kind words c) (card_kind words g) (sym p ∙ (s ∙ q)))
        (merge_owners text words owners rows (card_kind words g - 7) g c ∙ ap (λ m. merge_errors (card_view text words) rows m g c) (sym r))

module _ (v : View) (rows extensions : List ℕ) (g : ℕ) (b : Bool) where
  pub orphans_adopted : b ≡ true → orphan_errors_at b v rows extensions g ≡ flat_map (adoption_errors_at v rows g) extensions
  unfolding orphan_errors_at
  orphans_adopted e = rw e

  pub orphans_unadopted : b ≡ false → orphan_errors_at b v rows extensions g ≡ flat_map (unadopted_errors_at v g) extensions
  unfolding orphan_errors_at
  orphans_unadopted e = rw e

-- ---- Schema extensions without a definition.

pub unmet_other : (v : View) (c : ℕ) → (v.kind c ≡ 11 → ⊥) → unmet_errors v c ≡ []
unfolding unmet_errors
unmet_other v c e = rw (ne_eqb (v.kind c) 11 e)

pub unmet_is : (v : View) (c : ℕ) → v.kind c ≡ 11 → unmet_errors v c ≡ error 6 c absent ∷ []
unfolding unmet_errors
unmet_is v c e = rw (eq-eqb (v.kind c) 11 e)

pub bare_short : (rows : List ℕ) → length rows ≤ 3 → is_bare rows ≡ true
unfolding is_bare
bare_short rows h = rw (le-ltb 3 (length rows) h)

pub bare_long : (rows : List ℕ) → 3 < length rows → is_bare rows ≡ ltb (get_or rows 3 0) 20
unfolding is_bare
bare_long rows h = rw (lt-ltb 3 (length rows) h)

module _ (text words rows headings : List ℕ) (b : Bool) where
  pub no_schema_adopted : b ≡ true → no_schema_errors_at b (card_view text words) rows headings ≡
      flat_map (schema_merge_errors (card_view text words) rows absent) headings
  unfolding no_schema_errors_at
  no_schema_adopted e = rw e

  module _ (e : b ≡ false) (c : Bool) (f : c ≡ is_bare rows) where
    pub no_schema_unmet : c ≡ true → no_schema_errors_at b (card_view text words) rows headings ≡ flat_map (unmet_errors (card_view text words)) headings
    unfolding no_schema_errors_at unmet_errors
    no_schema_unmet g = rw (e, ← f, g)

    pub no_schema_met : c ≡ false → no_schema_errors_at b (card_view text words) rows headings ≡
        flat_map (schema_merge_errors (card_view text words) rows absent) headings
    unfolding no_schema_errors_at
    no_schema_met g = rw (e, ← f, g)

module _ (b : Bool) (text words owners rows : List ℕ) (schema : ℕ) (extensions orphans headings : List ℕ) where
  pub drawing_defined : (schema ≡ absent → ⊥) →
      drawing_errors_at b (view_of text words owners) rows schema extensions orphans headings ≡
      flat_map (orphan_errors_at b (view_of text words owners) rows extensions) orphans
  unfolding drawing_errors_at
  drawing_defined n = rw (ne_eqb schema absent n) (append-nil (flat_map (orphan_errors_at b (view_of text words owners) rows extensions) orphans))

  pub drawing_both : schema ≡ absent →
      drawing_errors_at b (view_of text words owners) rows schema extensions orphans headings ≡
      flat_map (orphan_errors_at b (view_of text words owners) rows extensions) orphans ++ no_schema_errors_at b (card_view text words) rows headings
  unfolding drawing_errors_at no_schema_errors_at schema_merge_errors unmet_errors merge_errors collision_under stands_for
  drawing_both q = rw (eq-eqb schema absent q)

  -- The orphans come first either way.
  pub drawing_parts : drawing_errors_at b (view_of text words owners) rows schema extensions orphans headings ≡
      flat_map (orphan_errors_at b (view_of text words owners) rows extensions) orphans ++ choose (eqb schema absent) (no_schema_errors_at b
      (view_of text words owners) rows headings) []
  unfolding drawing_errors_at
  drawing_parts = refl
