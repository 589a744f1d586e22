-- The schema's rows by the numbers of cards are those of the definition.
use mathlib.Core.Path.{◌≡◌, refl, sym, ap, ◌∙◌}
use mathlib.Core.Bool.{Bool, true, false, ◌&&◌, not}
use mathlib.Core.List.{List, [], ◌∷◌, ◌++◌, map, append-nil}
use mathlib.Core.Option.{Option, none, some}
use Prim.Native.Nat.{ℕ, ◌+◌, ◌-◌, ◌≤◌}
use native.Mathlib.Omega.{arith}
use borrow.Author.Tests.{eq-eqb, ne_eqb, leb-true}
use lib.Dec.{eqb, leb}
use lib.ListN.{drop}
use Rattle.definition.specs.Lists.{choose, found, filter, any, is_empty, find, take_until, flat_map, firsts, All}
use Rattle.definition.specs.Answers.{absent}
use Rattle.definition.specs.Cards.{Card, is_part, is_root, is_type, definition_of}
use Rattle.definition.specs.Names.{same_name}
use Rattle.definition.specs.Headings.{NamedCard, Heading, named_card, is_kind, is_named, is_type_definition, is_type_extension, defines_type, extends_type}
use Rattle.definition.specs.Headings.{definition, schema_definition, schema_extensions, number_of}
use Rattle.definition.specs.Catalogue.{Component, component, components, own_components, of_extensions, kept, Row, row, component_row, is_component_of}
use Rattle.definition.specs.Catalogue.{list_of_kind, under_schema, default_name, kind_named, default_root, default_roots, is_root_component, unadopted_schema}
use Rattle.definition.specs.Catalogue.{adopted_schema, schema_components, schema_rows}
use Rattle.definition.specs.Refusals.{card_capacity}
use Rattle.definition.specs.Store.{cards_used_of, stored_cards}
use Rattle.definition.specs.LentRows.{cards_named}
use Rattle.definition.proofs.Tests.{and_true}
use Rattle.definition.proofs.Lists.{filter_yes, filter_no, split}
use Rattle.definition.proofs.All.{all_append, all_filter, all_flat_map, all_to, all_found}
use Rattle.store_reader.specs.Stored.{card_kind, heading_at, is_heading_item, is_heading_card, parts_from, stored_parts}
use Rattle.store_reader.proofs.DocumentsLaws.{named_drop}
use Rattle.from_ast_index.specs.Index.{heading_number, is_type_extension_kind}
use Rattle.component.specs.Pushed.{alike_rows, rows_of_kind}
use Rattle.from_ast_index.specs.Index.{same_stored}
use Rattle.component.specs.RowsByCards.{head_rows, is_schema_card, schema_card, schema_extension_at, is_type_kind, is_type_named, first_kind}
use Rattle.component.specs.RowsByCards.{kind_named_at, has_default, any_default, default_rows, is_root_card, sets_root, is_implicit, schema_list_rows}
use Rattle.component.specs.RowsByCards.{schema_list_at, schema_rows_at}
use Rattle.component.proofs.Listed.{listed_sticky, kind_append, kind_flat}
use Rattle.component.proofs.Matching.{extended_kind}
use Rattle.component.proofs.Blocks.{Found, agree, At, at_kind, at_name, flat_picked, components_found}

-- ---- Lists.

module _ {ℓ κ} {A : Type ℓ} {B : Type κ} (P : A → Type 0) (number : A → ℕ) (p : ℕ → Bool) (q : A → Bool) (f : ℕ → B) (g : A → B) (z : B)
    (tests : (x : A) → P x → p (number x) ≡ q x) (makes : (x : A) → P x → f (number x) ≡ g x) where
  first_numbered : (xs : List A) → All P xs → found (find p (map number xs)) f z ≡ found (find q xs) g z
  unfolding find
  first_numbered [] h = refl
  first_numbered (x ∷ xs) h = go (q x) refl (first_numbered xs h.1)
    where
      go : (b : Bool) → q x ≡ b → found (find p (map number xs)) f z ≡ found (find q xs) g z
          → found (choose (p (number x)) (some (number x)) (find p (map number xs))) f z ≡ found (choose (q x) (some x) (find q xs)) g z
      go true e k = rw (tests x h.0, e) (makes x h.0)
      go false e k = rw (tests x h.0, e) k

-- the first that passes is one of the list, and passes
first_holds {ℓ} : {A : Type ℓ} (P : A → Type 0) (q : A → Bool) (xs : List A) (x : A) → find q xs ≡ some x → All P xs → P x × (q x ≡ true)
first_holds P q xs x e h = (all_found P q xs x h e, (split q xs x e).passes)

any_append {ℓ} : {A : Type ℓ} (p : A → Bool) (xs ys : List A) → any p (xs ++ ys) ≡ choose (any p xs) true (any p ys)
unfolding any
any_append p [] ys = refl
any_append p (x ∷ xs) ys = go (p x) (any_append p xs ys)
  where
    go : (b : Bool) → any p (xs ++ ys) ≡ choose (any p xs) true (any p ys) →
        choose b true (any p (xs ++ ys)) ≡ choose (choose b true (any p xs)) true (any p ys)
    go true h = refl
    go false h = h

-- whether some element of a joined list passes, asked number by number
any_picked {ℓ κ} : {A : Type ℓ} {B : Type κ} (P : A → Type 0) (q : A → Bool) (number : A → ℕ) (f : ℕ → Bool) (p : B → Bool) (g : A → List B)
    → ((x : A) → P x → f (number x) ≡ choose (q x) (any p (g x)) false) → (xs : List A) → All P xs → any f (map number xs) ≡ any p (flat_map g (filter q xs))
unfolding any flat_map filter
any_picked P q number f p g is [] h = refl
any_picked P q number f p g is (x ∷ xs) h = go (q x) refl (any_picked P q number f p g is xs h.1)
  where
    go : (b : Bool) → q x ≡ b → any f (map number xs) ≡ any p (flat_map g (filter q xs)) →
        choose (f (number x)) true (any f (map number xs)) ≡ any p (flat_map g (filter q (x ∷ xs)))
    go true e k = rw (filter_yes q x xs e, is x h.0, e) (ap (choose (any p (g x)) true) k ∙ sym (any_append p (g x) (flat_map g (filter q xs))))
    go false e k = rw (filter_no q x xs e, is x h.0, e) k

flat_all {ℓ} : {A : Type ℓ} {B : Type 0} (f g : A → List B) (xs : List A) → All (λ x. f x ≡ g x) xs → flat_map f xs ≡ flat_map g xs
unfolding flat_map
flat_all f g [] h = refl
flat_all f g (x ∷ xs) h = λ i. h.0 i ++ flat_all f g xs h.1 i

not_not : (b : Bool) → not (not b) ≡ b
not_not true = refl
not_not false = refl

-- ---- A root that is set or not.

root_own : (k : ℕ) (name : List ℕ) (b : Bool) → rows_of_kind k (choose b (component absent (record { number = absent; kind = k; name = name }) ∷ []) [])
    ≡ choose b (row k absent absent ∷ []) []
unfolding rows_of_kind filter is_component_of component component_row
root_own k name true = rw (eq-eqb k k refl)
root_own k name false = refl

root_other : (k j : ℕ) (name : List ℕ) (b : Bool) → eqb j k ≡ false →
    rows_of_kind k (choose b (component absent (record { number = absent; kind = j; name = name }) ∷ []) []) ≡ []
unfolding rows_of_kind filter is_component_of component component_row
root_other k j name true e = rw e
root_other k j name false e = refl

none_set : (x y z : Component) (a b c : Bool) → is_empty (choose a (x ∷ []) [] ++ choose b (y ∷ []) [] ++ choose c (z ∷ []) [])
    ≡ not (choose a true (choose b true c))
none_set x y z true b c = go b c
  where
    go : (b c : Bool) → is_empty ((x ∷ []) ++ choose b (y ∷ []) [] ++ choose c (z ∷ []) []) ≡ false
    go true c = refl
    go false c = refl
none_set x y z false true c = refl
none_set x y z false false true = refl
none_set x y z false false false = refl

-- Rows by either of two ways.
choose_rows : (k : ℕ) (b : Bool) (xs ys : List Row) (cs ds : List Component) → (b ≡ true → xs ≡ rows_of_kind k cs) → (b ≡ false → ys ≡ rows_of_kind k ds) →
    choose b xs ys ≡ rows_of_kind k (choose b cs ds)
choose_rows k true xs ys cs ds f g = f refl
choose_rows k false xs ys cs ds f g = g refl

-- ---- Roots under a heading.

roots_run : (text : List ℕ) (o n : ℕ) (cs : List Card) → any is_root_component (map (component o) (take_until is_heading_item (cards_named text n cs)))
    ≡ any is_root_card (take_until is_heading_card cs)
unfolding take_until cards_named is_heading_item is_heading_card named_card any is_root_component is_root_card component
roots_run text o n [] = refl
roots_run text o n (c ∷ cs) = go (is_part c.kind) (roots_run text o (n + 1) cs)
  where
    go : (b : Bool) → any is_root_component (map (component o) (take_until is_heading_item (cards_named text (n + 1) cs)))
        ≡ any is_root_card (take_until is_heading_card cs)
        → any is_root_component (map (component o) (choose (not b) [] (named_card text n c ∷ take_until is_heading_item (cards_named text (n + 1) cs))))
        ≡ any is_root_card (choose (not b) [] (c ∷ take_until is_heading_card cs))
    go true h = ap (choose (is_root c.kind) true) h
    go false h = refl

module _ (text words : List ℕ) where
  roots_under : (o n : ℕ) → any is_root_component (components o (heading_at text words n))
      ≡ any is_root_card (take_until is_heading_card (drop (n + 1) (stored_cards words)))
  unfolding components parts_from stored_parts
  roots_under o n =
      ap (λ (l : List NamedCard). any is_root_component (map (component o) (take_until is_heading_item l))) (named_drop text 0 (stored_cards words) (n + 1))
      ∙ roots_run text o (0 + (n + 1)) (drop (n + 1) (stored_cards words))

  module _ (hs : List Heading) (all : All (At text words) hs) where
    abbrev cards : List ℕ
    cards = map heading_number hs

    -- ---- The schema definition.

    pub schema_card_lem : schema_card words cards ≡ number_of (schema_definition hs)
    unfolding schema_card schema_definition number_of heading_number is_kind is_schema_card
    schema_card_lem =
        first_numbered (At text words) (λ (h : Heading). h.number) (is_schema_card words) (is_kind 4) (λ (n : ℕ). n) (λ (h : Heading). h.number) absent
        (λ h a. ap (λ (k : ℕ). eqb k 4) (at_kind text words h a)) (λ h a. refl) hs all

    -- ---- Extensions.

    extension_at : (k : ℕ) (h : Heading) → At text words h → schema_extension_at text words k h.number
        ≡ choose (is_kind 11 h) (rows_of_kind k (own_components h)) []
    unfolding schema_extension_at is_kind head_rows own_components
    extension_at k h a = λ i. choose (eqb (at_kind text words h a i) 11) (rows_of_kind k (components h.number (sym a.2 i))) []

    extension_rows_lem : (k : ℕ) → flat_map (schema_extension_at text words k) cards ≡ rows_of_kind k (of_extensions (schema_extensions hs))
    unfolding of_extensions schema_extensions heading_number
    extension_rows_lem k =
        flat_picked (At text words) (is_kind 11) (λ (h : Heading). h.number) (schema_extension_at text words k) (λ h. rows_of_kind k (own_components h))
        (extension_at k) hs all
        ∙ sym (kind_flat k own_components (filter (is_kind 11) hs))

    extensions_found : All (Found text words) (of_extensions (schema_extensions hs))
    unfolding of_extensions schema_extensions own_components
    extensions_found =
        all_flat_map (Found text words) own_components (filter (is_kind 11) hs)
        (all_to (At text words) (λ h. All (Found text words) (own_components h)) (λ h b. components_found text words h.number h b) (filter (is_kind 11) hs)
        (all_filter (At text words) (is_kind 11) hs all))

    root_at : (h : Heading) → At text words h → sets_root words h.number ≡ choose (is_kind 11 h) (any is_root_component (own_components h)) false
    unfolding sets_root is_kind own_components
    root_at h a =
        ap (λ (b : Bool). choose (eqb (card_kind words h.number) 11) b false) (sym (roots_under h.number h.number))
        ∙ λ i. choose (eqb (at_kind text words h a i) 11) (any is_root_component (components h.number (sym a.2 i))) false

    any_root : any (sets_root words) cards ≡ any is_root_component (of_extensions (schema_extensions hs))
    unfolding of_extensions schema_extensions heading_number
    any_root = any_picked (At text words) (is_kind 11) (λ (h : Heading). h.number) (sets_root words) is_root_component own_components root_at hs all

    -- ---- Default roots.

    -- The first heading of a name that defines a type, or that extends one: the same search, by numbers.
    kind_of_lem : (extending : Bool) (name : List ℕ) →
        first_kind text words cards extending name
        ≡ found (find (λ h. is_type_kind extending h.kind && is_named name h) hs) (λ h. h.kind) 0
    unfolding first_kind heading_number is_type_named is_named
    kind_of_lem extending name =
        first_numbered (At text words) (λ (h : Heading). h.number) (is_type_named text words extending name)
        (λ h. is_type_kind extending h.kind && is_named name h)
        (card_kind words) (λ (h : Heading). h.kind) 0
        (λ h a i. is_type_kind extending (at_kind text words h a i) && same_name name (at_name text words h a i)) (at_kind text words) hs all

    defined_kind : (name : List ℕ) → first_kind text words cards false name ≡ found (definition name hs) (λ d. d.kind) 0
    unfolding definition defines_type is_type_definition
    defined_kind name = kind_of_lem false name

    adopted_kind : (name : List ℕ) →
        definition_of (first_kind text words cards true name) ≡ found (find (extends_type name) hs) (λ e. e.kind - 7) 0
    unfolding extends_type is_type_extension is_type_extension_kind definition_of
    adopted_kind name = ap definition_of (kind_of_lem true name) ∙ go (find (extends_type name) hs) refl
      where
        go : (o : Option Heading) → find (extends_type name) hs ≡ o →
            definition_of (found (find (extends_type name) hs) (λ h. h.kind) 0) ≡ found (find (extends_type name) hs) (λ e. e.kind - 7) 0
        go none e = rw e
        go (some d) e =
            let p = (first_holds (At text words) (extends_type name) hs d e all).1 in
            let t = (and_true (is_type_extension d) (is_named name d) p).0 in
            let l = leb-true 12 d.kind (and_true (leb 12 d.kind) (leb d.kind 17) t).0 in
            rw e (extended_kind d.kind (omega arith))

    defined_some : (name : List ℕ) (d : Heading) → definition name hs ≡ some d → eqb d.kind 0 ≡ false
    unfolding definition defines_type is_type_definition is_type
    defined_some name d e =
        let p = (first_holds (At text words) (defines_type name) hs d e all).1 in
        let t = (and_true (is_type_definition d) (is_named name d) p).0 in
        let l = leb-true 5 d.kind (and_true (leb 5 d.kind) (leb d.kind 10) t).0 in
        ne_eqb d.kind 0 (λ z. omega arith)

    kind_named_lem : (adopt : Bool) (name : List ℕ) → kind_named_at text words adopt cards name ≡ kind_named adopt hs name
    unfolding kind_named_at kind_named
    kind_named_lem adopt name = go (definition name hs) refl
      where
        kind_is : (o : Option Heading) → definition name hs ≡ o → first_kind text words cards false name ≡ found o (λ d. d.kind) 0
        kind_is o e = defined_kind name ∙ ap (λ (o : Option Heading). found o (λ (d : Heading). d.kind) 0) e

        go : (o : Option Heading) → definition name hs ≡ o →
            choose (eqb (first_kind text words cards false name) 0)
            (choose adopt (definition_of (first_kind text words cards true name)) 0)
            (first_kind text words cards false name)
            ≡ found (definition name hs) (λ d. d.kind) (choose adopt (found (find (extends_type name) hs) (λ e. e.kind - 7) 0) 0)
        go none e = rw (kind_is none e, e, adopted_kind name)
        go (some d) e = rw (kind_is (some d) e, e, defined_some name d e)

    has_default_lem : (adopt : Bool) (k : ℕ) → has_default text words adopt cards k ≡ eqb (kind_named adopt hs (default_name k)) 6
    unfolding has_default
    has_default_lem adopt k = ap (λ (n : ℕ). eqb n 6) (kind_named_lem adopt (default_name k))

    default_rows_lem : (adopt : Bool) → All (λ k. default_rows text words adopt cards k ≡ rows_of_kind k (default_roots adopt hs)) under_schema
    unfolding under_schema default_rows is_root default_roots default_root
    default_rows_lem adopt = (uses, (first, (second, (third, tt))))
      where
        set : ℕ → Bool
        set j = eqb (kind_named adopt hs (default_name j)) 6

        cut : (k : ℕ) → rows_of_kind k (default_roots adopt hs) ≡ (rows_of_kind k (default_root adopt hs 26) ++ rows_of_kind k (default_root adopt hs 27))
            ++ rows_of_kind k (default_root adopt hs 28)
        cut k = kind_append k (default_root adopt hs 26 ++ default_root adopt hs 27) (default_root adopt hs 28)
            ∙ ap (λ (l : List Row). l ++ rows_of_kind k (default_root adopt hs 28)) (kind_append k (default_root adopt hs 26) (default_root adopt hs 27))

        own : (k : ℕ) → rows_of_kind k (default_root adopt hs k) ≡ choose (set k) (row k absent absent ∷ []) []
        own k = root_own k (default_name k) (set k)

        other : (k j : ℕ) → eqb j k ≡ false → rows_of_kind k (default_root adopt hs j) ≡ []
        other k j e = root_other k j (default_name j) (set j) e

        uses : [] ≡ rows_of_kind 20 (default_roots adopt hs)
        uses = sym (cut 20 ∙ λ i. (other 20 26 refl i ++ other 20 27 refl i) ++ other 20 28 refl i)

        first : choose (has_default text words adopt cards 26) (row 26 absent absent ∷ []) [] ≡ rows_of_kind 26 (default_roots adopt hs)
        first = ap (λ (b : Bool). choose b (row 26 absent absent ∷ []) []) (has_default_lem adopt 26)
            ∙ sym (cut 26 ∙ (λ i. (own 26 i ++ other 26 27 refl i) ++ other 26 28 refl i) ∙ append-nil (choose (set 26) (row 26 absent absent ∷ []) [] ++ [])
            ∙ append-nil (choose (set 26) (row 26 absent absent ∷ []) []))

        second : choose (has_default text words adopt cards 27) (row 27 absent absent ∷ []) [] ≡ rows_of_kind 27 (default_roots adopt hs)
        second = ap (λ (b : Bool). choose b (row 27 absent absent ∷ []) []) (has_default_lem adopt 27)
            ∙ sym (cut 27 ∙ (λ i. (other 27 26 refl i ++ own 27 i) ++ other 27 28 refl i) ∙ append-nil (choose (set 27) (row 27 absent absent ∷ []) []))

        third : choose (has_default text words adopt cards 28) (row 28 absent absent ∷ []) [] ≡ rows_of_kind 28 (default_roots adopt hs)
        third = ap (λ (b : Bool). choose b (row 28 absent absent ∷ []) []) (has_default_lem adopt 28)
            ∙ sym (cut 28 ∙ (λ i. (other 28 26 refl i ++ other 28 27 refl i) ++ own 28 i))

    any_default_lem : any_default text words false cards ≡ not (is_empty (default_roots false hs))
    unfolding any_default default_roots default_root
    any_default_lem =
        (λ i. choose (has_default_lem false 26 i) true (choose (has_default_lem false 27 i) true (has_default_lem false 28 i)))
        ∙ sym (ap not (none_set _ _ _ (eqb (kind_named false hs (default_name 26)) 6) (eqb (kind_named false hs (default_name 27)) 6)
        (eqb (kind_named false hs (default_name 28)) 6))
        ∙ not_not (choose (eqb (kind_named false hs (default_name 26)) 6) true
        (choose (eqb (kind_named false hs (default_name 27)) 6) true (eqb (kind_named false hs (default_name 28)) 6))))

    -- ---- The lists.

    first_schema : (s : Heading) → schema_definition hs ≡ some s → At text words s
    unfolding schema_definition
    first_schema s e = (first_holds (At text words) (is_kind 4) hs s e all).0

    module _ (most : cards_used_of words ≤ card_capacity) (adopt : Bool) (k : ℕ)
        (defaults : default_rows text words adopt cards k ≡ rows_of_kind k (default_roots adopt hs)) where
      list_adopting : adopt ≡ true → (b : Bool) → any is_root_component (of_extensions (schema_extensions hs)) ≡ b
          → flat_map (schema_extension_at text words k) cards
          ++ choose (is_implicit text words adopt cards) (default_rows text words adopt cards k) []
          ≡ rows_of_kind k (adopted_schema hs)
      unfolding is_implicit adopted_schema
      list_adopting e true r = rw (defaults, e, any_root, r) (append-nil (flat_map (schema_extension_at text words k) cards) ∙ extension_rows_lem k)
      list_adopting e false r = rw (defaults, e, any_root, r) (ap (λ (l : List Row). l ++ rows_of_kind k (default_roots true hs)) (extension_rows_lem k)
          ∙ sym (kind_append k (of_extensions (schema_extensions hs)) (default_roots true hs)))

      list_unadopting : adopt ≡ false → (b : Bool) → is_empty (default_roots false hs) ≡ b
          → choose (is_implicit text words adopt cards)
          (default_rows text words adopt cards k ++ flat_map (schema_extension_at text words k) cards) []
          ≡ rows_of_kind k (unadopted_schema hs)
      unfolding is_implicit unadopted_schema rows_of_kind filter
      list_unadopting e true r = rw (e, any_default_lem, r)
      list_unadopting e false r = rw (defaults, e, any_default_lem, r) (ap (λ (l : List Row). rows_of_kind k (default_roots false hs) ++ l) (extension_rows_lem k)
          ∙ sym (kind_append k (default_roots false hs) (of_extensions (schema_extensions hs))))

      undefined_list : choose adopt
          (flat_map (schema_extension_at text words k) cards ++ choose (is_implicit text words adopt cards) (default_rows text words adopt cards k) [])
          (choose (is_implicit text words adopt cards) (default_rows text words adopt cards k ++ flat_map (schema_extension_at text words k) cards) [])
          ≡ rows_of_kind k (choose adopt (adopted_schema hs) (unadopted_schema hs))
      undefined_list =
          choose_rows k adopt _ _ (adopted_schema hs) (unadopted_schema hs)
          (λ e. list_adopting e (any is_root_component (of_extensions (schema_extensions hs))) refl)
          (λ e. list_unadopting e (is_empty (default_roots false hs)) refl)

      schema_list : schema_list_rows text words adopt cards (schema_card words cards)
          (is_implicit text words adopt cards) k ≡ rows_of_kind k (schema_components adopt hs)
      unfolding schema_list_rows schema_components number_of head_rows
      schema_list = go (schema_definition hs) refl
        where
          go : (o : Option Heading) → schema_definition hs ≡ o
              → choose (eqb (schema_card words cards) absent)
              (choose adopt
              (flat_map (schema_extension_at text words k) cards
              ++ choose (is_implicit text words adopt cards) (default_rows text words adopt cards k) [])
              (choose (is_implicit text words adopt cards)
              (default_rows text words adopt cards k ++ flat_map (schema_extension_at text words k) cards) []))
              (rows_of_kind k (components absent (heading_at text words (schema_card words cards)))
              ++ flat_map (schema_extension_at text words k) cards)
              ≡ rows_of_kind k (found (schema_definition hs) (λ s. components absent s ++ of_extensions (schema_extensions hs))
              (choose adopt (adopted_schema hs) (unadopted_schema hs)))
          go none e =
              let c : schema_card words cards ≡ absent = schema_card_lem ∙ ap number_of e in
              let t : eqb (schema_card words cards) absent ≡ true = eq-eqb _ _ c in
              rw (t, e) undefined_list
          go (some s) e =
              let c : schema_card words cards ≡ s.number = schema_card_lem ∙ ap number_of e in
              let p = first_schema s e in
              let n = p.0 in
              let t : eqb (schema_card words cards) absent ≡ false =
              ne_eqb (schema_card words cards) absent (λ q. omega (arith, q, c, n, most)) in
              rw (t, e) (
              (λ i. rows_of_kind k (components absent (heading_at text words (c i))) ++ extension_rows_lem k i)
              ∙ ap (λ (h : Heading). rows_of_kind k (components absent h) ++ rows_of_kind k (of_extensions (schema_extensions hs))) (sym p.2)
              ∙ sym (kind_append k (components absent s) (of_extensions (schema_extensions hs)))
              )

    -- ---- All of it.

    root_found : (k : ℕ) (name : List ℕ) (b : Bool) → is_root k ≡ true →
        All (Found text words) (choose b (component absent (record { number = absent; kind = k; name = name }) ∷ []) [])
    unfolding component
    root_found k name true e = (record { stored = λ r. absurd (never r); named = λ r. absurd (never r) }, tt)
      where
        never : is_root k ≡ false → ⊥
        never r = let q : true ≡ false = sym e ∙ r in let z : ◌≡◌ {A = ℕ} 0 1 = cc in omega arith
    root_found k name false e = tt

    defaults_found : (adopt : Bool) → All (Found text words) (default_roots adopt hs)
    unfolding default_roots default_root is_root
    defaults_found adopt =
        all_append (Found text words) (default_root adopt hs 26 ++ default_root adopt hs 27) (default_root adopt hs 28)
        (all_append (Found text words) (default_root adopt hs 26) (default_root adopt hs 27)
        (root_found 26 (default_name 26) (eqb (kind_named adopt hs (default_name 26)) 6) refl)
        (root_found 27 (default_name 27) (eqb (kind_named adopt hs (default_name 27)) 6) refl))
        (root_found 28 (default_name 28) (eqb (kind_named adopt hs (default_name 28)) 6) refl)

    adopted_found : All (Found text words) (adopted_schema hs)
    unfolding adopted_schema
    adopted_found = go (any is_root_component (of_extensions (schema_extensions hs)))
      where
        go : (b : Bool) → All (Found text words) (choose b (of_extensions (schema_extensions hs)) (of_extensions (schema_extensions hs) ++ default_roots true hs))
        go true = extensions_found
        go false = all_append (Found text words) (of_extensions (schema_extensions hs)) (default_roots true hs) extensions_found (defaults_found true)

    unadopted_found : All (Found text words) (unadopted_schema hs)
    unfolding unadopted_schema
    unadopted_found = go (is_empty (default_roots false hs))
      where
        go : (b : Bool) → All (Found text words) (choose b [] (default_roots false hs ++ of_extensions (schema_extensions hs)))
        go true = tt
        go false = all_append (Found text words) (default_roots false hs) (of_extensions (schema_extensions hs)) (defaults_found false) extensions_found

    schema_found : (adopt : Bool) → All (Found text words) (schema_components adopt hs)
    unfolding schema_components
    schema_found adopt = go (schema_definition hs) refl adopt
      where
        go : (o : Option Heading) → schema_definition hs ≡ o → (b : Bool)
            → All (Found text words) (found o (λ s. components absent s ++ of_extensions (schema_extensions hs))
            (choose b (adopted_schema hs) (unadopted_schema hs)))
        go none e true = adopted_found
        go none e false = unadopted_found
        go (some s) e b = all_append (Found text words) (components absent s) (of_extensions (schema_extensions hs))
            (components_found text words absent s (first_schema s e)) extensions_found

    pub schema_rows_lem : cards_used_of words ≤ card_capacity → (adopt : Bool) → schema_rows_at text words adopt cards ≡ schema_rows adopt hs
    unfolding schema_rows_at schema_rows schema_list_at
    schema_rows_lem most adopt = λ i. row 4 (schema_card_lem i) absent ∷ lists i
      where
        one : (k : ℕ) → default_rows text words adopt cards k ≡ rows_of_kind k (default_roots adopt hs)
            → schema_list_at text words adopt cards (schema_card words cards)
            (is_implicit text words adopt cards) k ≡ list_of_kind (kept (schema_components adopt hs)) k
        one k d =
            ap (firsts (alike_rows (same_stored text words)) []) (schema_list most adopt k d)
            ∙ sym (listed_sticky (same_stored text words) (Found text words) (agree text words) (schema_components adopt hs) k (schema_found adopt))

        lists : flat_map (schema_list_at text words adopt cards (schema_card words cards)
            (is_implicit text words adopt cards)) under_schema ≡ flat_map (list_of_kind (kept (schema_components adopt hs))) under_schema
        lists = flat_all (schema_list_at text words adopt cards (schema_card words cards)
            (is_implicit text words adopt cards)) (list_of_kind (kept (schema_components adopt hs))) under_schema
            (all_to (λ k. default_rows text words adopt cards k ≡ rows_of_kind k (default_roots adopt hs))
            (λ k. schema_list_at text words adopt cards (schema_card words cards)
            (is_implicit text words adopt cards) k ≡ list_of_kind (kept (schema_components adopt hs)) k) one under_schema (default_rows_lem adopt))
