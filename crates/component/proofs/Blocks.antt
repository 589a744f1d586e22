-- The rows of a type by the numbers of cards are those of the definition.
use mathlib.Core.Path.{◌≡◌, refl, sym, ap, ◌∙◌}
use mathlib.Core.Bool.{Bool, true, false, ◌&&◌, ◌||◌, not}
use mathlib.Core.List.{List, [], ◌∷◌, ◌++◌, map}
use Prim.Native.Nat.{ℕ, zero, suc, ◌+◌, ◌-◌, ◌≤◌, ◌<◌}
use native.Mathlib.Omega.{arith}
use borrow.Author.Tests.{eqb-true, leb-true, lt-ltb, le-leb, lt-leb}
use lib.Dec.{eqb, leb}
use lib.ListN.{drop}
use Rattle.definition.specs.Lists.{choose, filter, take_until, flat_map, firsts, All}
use Rattle.definition.specs.Names.{same_name}
use Rattle.definition.specs.Answers.{absent}
use Rattle.definition.specs.Cards.{is_root, is_type, is_part, definition_of}
use Rattle.definition.specs.Headings.{NamedCard, Heading, alike, is_kind, is_named, is_of, is_type_definition, is_type_extension, extensions_of, defined_types}
use Rattle.definition.specs.Headings.{same_named, orphans, is_orphan, is_missing, definition}
use Rattle.definition.specs.Catalogue.{Component, component, components, own_components, of_extensions, alike_components, kept, row, component_row}
use Rattle.definition.specs.Catalogue.{list_of_kind, block, under_type, type_components, type_row, type_rows, adopted_row, adopted_rows}
use Rattle.definition.specs.Store.{cards_used_of}
use Rattle.store_reader.specs.Stored.{card_kind, card_name, card_at, heading_at, is_heading_item, parts_from, stored_parts}
use Rattle.store_reader.proofs.Words.{stored_is, stored_inside, number_stored}
use Rattle.definition.proofs.Tests.{and_true}
use Rattle.definition.proofs.Lists.{filter_yes, filter_no}
use Rattle.definition.proofs.All.{all_append, all_filter, all_firsts, all_map, all_flat_map, all_to, all_with, filter_pass}
use Rattle.from_ast_index.specs.Index.{same_cards, heading_number, is_type_extension_kind}
use Rattle.from_ast_index.proofs.Lists.{filter_map, get_all}
use Rattle.component.specs.Pushed.{alike_rows, rows_of_kind}
use Rattle.from_ast_index.specs.Index.{same_stored}
use Rattle.component.specs.RowsByCards.{head_rows, extension_kind, is_matching, matching, extension_rows_at, extension_rows, list_rows}
use Rattle.component.specs.RowsByCards.{list_at, type_row_at, type_rows_at}
use Rattle.component.proofs.Listed.{listed_sticky, kind_append, kind_flat}
use Rattle.component.proofs.Matching.{extended_kind, defined_kind, extension_adopted, extension_defined}

-- ---- What holds of each element.

module _ {ℓ} {A : Type ℓ} (P : A → Type 0) where
  all_drop : (i : ℕ) (xs : List A) → All P xs → All P (drop i xs)
  all_drop zero xs h = h
  all_drop (suc i) [] h = h
  all_drop (suc i) (x ∷ xs) h = all_drop i xs h.1

  all_before : (p : A → Bool) (xs : List A) → All P xs → All P (take_until p xs)
  unfolding take_until
  all_before p [] h = tt
  all_before p (x ∷ xs) h = go (p x) (all_before p xs h.1)
    where
      go : (b : Bool) → All P (take_until p xs) → All P (choose b [] (x ∷ take_until p xs))
      go true k = tt
      go false k = (h.0, k)

-- ---- The elements that pass a test, one by one.

pub flat_same {ℓ κ} : {A : Type ℓ} {B : Type κ} (f g : A → List B) → ((x : A) → f x ≡ g x) → (xs : List A) → flat_map f xs ≡ flat_map g xs
unfolding flat_map
flat_same f g h [] = refl
flat_same f g h (x ∷ xs) = λ i. h x i ++ flat_same f g h xs i

-- those that pass one test are among those that pass another
pub filter_filter {ℓ} : {A : Type ℓ} (p q : A → Bool) → ((x : A) → q x ≡ true → p x ≡ true) → (xs : List A) → filter q (filter p xs) ≡ filter q xs
unfolding filter
filter_filter p q sub [] = refl
filter_filter p q sub (x ∷ xs) = go (q x) refl (p x) refl (filter_filter p q sub xs)
  where
    go : (b : Bool) → q x ≡ b → (a : Bool) → p x ≡ a → filter q (filter p xs) ≡ filter q xs → filter q (filter p (x ∷ xs)) ≡ filter q (x ∷ xs)
    go true e a d h = ap (filter q) (filter_yes p x xs (sub x e)) ∙ filter_yes q x (filter p xs) e ∙ ap (λ (l : List _). x ∷ l) h ∙ sym (filter_yes q x xs e)
    go false e true d h = ap (filter q) (filter_yes p x xs d) ∙ filter_no q x (filter p xs) e ∙ h ∙ sym (filter_no q x xs e)
    go false e false d h = ap (filter q) (filter_no p x xs d) ∙ h ∙ sym (filter_no q x xs e)

module _ {ℓ κ} {A : Type ℓ} {B : Type κ} (P : A → Type 0) (q : A → Bool) (number : A → ℕ) (f : ℕ → List B) (g : A → List B) (is : (x : A) → P x →
    f (number x) ≡ choose (q x) (g x) []) where
  pub flat_picked : (xs : List A) → All P xs → flat_map f (map number xs) ≡ flat_map g (filter q xs)
  unfolding flat_map filter
  flat_picked [] h = refl
  flat_picked (x ∷ xs) h = go (q x) refl (flat_picked xs h.1)
    where
      go : (b : Bool) → q x ≡ b → flat_map f (map number xs) ≡ flat_map g (filter q xs) →
          f (number x) ++ flat_map f (map number xs) ≡ flat_map g (filter q (x ∷ xs))
      go true e k = rw (filter_yes q x xs e, is x h.0, e) (ap (λ (l : List B). g x ++ l) k)
      go false e k = rw (filter_no q x xs e, is x h.0, e) k

pub filter_passes {ℓ} : {A : Type ℓ} (P : A → Type 0) (q : A → Bool) (xs : List A) → All P xs → All (λ x. P x × (q x ≡ true)) (filter q xs)
filter_passes P q xs h =
    all_with P (λ x. q x ≡ true) (λ x. P x × (q x ≡ true)) (λ x a b. (a, b)) (filter q xs) (all_filter P q xs h) (filter_pass q xs)

pub flat_numbered {ℓ κ} : {A : Type ℓ} {B : Type κ} (P : A → Type 0) (number : A → ℕ) (f : ℕ → List B) (g : A → List B)
    → ((x : A) → P x → f (number x) ≡ g x) → (xs : List A) → All P xs → flat_map f (map number xs) ≡ flat_map g xs
unfolding flat_map
flat_numbered P number f g is [] h = refl
flat_numbered P number f g is (x ∷ xs) h = λ i. is x h.0 i ++ flat_numbered P number f g is xs h.1 i

-- ---- Components whose parts are stored cards.

module _ (text words : List ℕ) where
  -- A default root has no card; it is a root, of which names are not asked.
  pub record Found (c : Component) : Type 0 where
    pub stored : is_root c.part.kind ≡ false → c.part.number < cards_used_of words
    pub named : is_root c.part.kind ≡ false → c.part.name ≡ card_name text words c.part.number

  pub same_names : (a b : ℕ) → a < cards_used_of words → b < cards_used_of words → same_stored text words a b ≡ same_name (card_name text words a) (card_name text words b)
  unfolding same_stored same_cards
  same_names a b h k = rw (lt-ltb a (cards_used_of words) h, lt-ltb b (cards_used_of words) k)

  pub agree : (c d : Component) → Found c → Found d → alike_rows (same_stored text words) (component_row c) (component_row d) ≡ alike_components c d
  unfolding alike_components alike alike_rows component_row
  agree c d f g = sym (go (eqb c.part.kind d.part.kind) refl (is_root c.part.kind) refl)
    where
      go : (a : Bool) → eqb c.part.kind d.part.kind ≡ a → (b : Bool) → is_root c.part.kind ≡ b
          → (eqb c.part.kind d.part.kind && (is_root c.part.kind || (not (eqb c.part.kind 20) && same_name c.part.name d.part.name)))
          ≡ (eqb c.part.kind d.part.kind && (is_root c.part.kind ||
          (not (eqb c.part.kind 20) && same_stored text words c.part.number d.part.number)))
      go false e b r = rw e
      go true e true r = rw (e, r)
      go true e false r =
          let q : is_root d.part.kind ≡ false = ap is_root (sym (eqb-true c.part.kind d.part.kind e)) ∙ r in
          rw (e, r, same_names c.part.number d.part.number (f.stored r) (g.stored q), f.named r, g.named q)

  -- The parts of a heading.
  abbrev OfCard : NamedCard → Type 0
  OfCard p = (p.number < cards_used_of words) × (p ≡ card_at text words p.number)

  all_parts : (i : ℕ) → All OfCard (parts_from (stored_parts text words) i)
  unfolding parts_from
  all_parts i = all_before OfCard is_heading_item (drop i (stored_parts text words))
      (all_drop OfCard i (stored_parts text words) (get_all OfCard (stored_parts text words) (λ j p e.
      let n = number_stored text words j p e in
      let h = stored_inside text words j p e in
      (omega arith, stored_is text words j p e ∙ ap (card_at text words) (sym n)))))

  part_found : (o : ℕ) (p : NamedCard) → OfCard p → Found (component o p)
  unfolding component
  part_found o p h = record { stored = λ r. h.0; named = λ r. ap (λ (q : NamedCard). q.name) h.1 }

  abbrev pub At : Heading → Type 0
  At h = (h.number < cards_used_of words) × (is_part (card_kind words h.number) ≡ false) × (h ≡ heading_at text words h.number)

  pub components_found : (o : ℕ) (h : Heading) → At h → All Found (components o h)
  unfolding components
  components_found o h a =
      let e : h.parts ≡ parts_from (stored_parts text words) (h.number + 1) = ap (λ (g : Heading). g.parts) a.2 in
      all_map Found (component o) h.parts (all_to OfCard (λ p. Found (component o p)) (part_found o) h.parts (rw e (all_parts (h.number + 1))))

  -- The cards of all type extensions.
  abbrev extensions_in : List Heading → List ℕ
  extensions_in hs = map heading_number (filter is_type_extension hs)

  -- The extensions of a kind and a name, among all type extensions.
  module _ (ext owner k : ℕ) where
    of_extension : 12 ≤ ext → ext ≤ 17 → (h : Heading) → is_of ext (card_name text words owner) h ≡ true → is_type_extension h ≡ true
    unfolding is_of is_kind is_type_extension
    of_extension least most h e =
        let q = eqb-true h.kind ext (and_true (eqb h.kind ext) (is_named (card_name text words owner) h) e).0 in
        rw (q, le-leb 12 ext least, le-leb ext 17 most)

    matching_cards : (hs : List Heading) → All At hs → 12 ≤ ext → ext ≤ 17
        → filter (is_matching text words ext owner) (extensions_in hs)
        ≡ map heading_number (extensions_of ext (card_name text words owner) hs)
    unfolding is_matching extensions_of heading_number
    matching_cards hs a least most =
        filter_map (λ (h : Heading). h.number) (is_of ext (card_name text words owner)) (is_matching text words ext owner) (filter is_type_extension hs)
        (all_to At (λ h. is_matching text words ext owner h.number ≡ is_of ext (card_name text words owner) h)
        (λ h b. ap (is_of ext (card_name text words owner)) (sym b.2)) (filter is_type_extension hs) (all_filter At is_type_extension hs a))
        ∙ ap (map (λ (h : Heading). h.number)) (filter_filter is_type_extension (is_of ext (card_name text words owner)) (of_extension least most) hs)

    rows_at : (h : Heading) → At h → extension_rows_at text words k h.number ≡ rows_of_kind k (own_components h)
    unfolding extension_rows_at head_rows own_components
    rows_at h a = ap (λ (g : Heading). rows_of_kind k (components h.number g)) (sym a.2)

    pub extension_rows_lem : (hs : List Heading) → All At hs → 12 ≤ ext → ext ≤ 17
        → extension_rows text words k (filter (is_matching text words ext owner) (extensions_in hs))
        ≡ rows_of_kind k (of_extensions (extensions_of ext (card_name text words owner) hs))
    unfolding extension_rows of_extensions extensions_of heading_number
    extension_rows_lem hs a least most =
        ap (flat_map (extension_rows_at text words k)) (matching_cards hs a least most)
        ∙ flat_numbered At (λ (h : Heading). h.number) (extension_rows_at text words k) (λ h. rows_of_kind k (own_components h)) rows_at
        (filter (is_of ext (card_name text words owner)) hs) (all_filter At (is_of ext (card_name text words owner)) hs a)
        ∙ sym (kind_flat k own_components (filter (is_of ext (card_name text words owner)) hs))

    pub extensions_found : (hs : List Heading) → All At hs → All Found (of_extensions (extensions_of ext (card_name text words owner) hs))
    unfolding of_extensions extensions_of own_components
    extensions_found hs a =
        let es = filter (is_of ext (card_name text words owner)) hs in
        all_flat_map Found own_components es
        (all_to At (λ h. All Found (own_components h)) (λ h b. components_found h.number h b) es (all_filter At (is_of ext (card_name text words owner)) hs a))

  pub at_kind : (h : Heading) → At h → card_kind words h.number ≡ h.kind
  at_kind h a = sym (ap (λ (g : Heading). g.kind) a.2)

  pub at_name : (h : Heading) → At h → card_name text words h.number ≡ h.name
  at_name h a = sym (ap (λ (g : Heading). g.name) a.2)

  module _ (hs : List Heading) (all : All At hs) (d : Heading) (a : At d) where
    taken_rows : (k ext : ℕ) → extension_kind words d.number ≡ ext → 12 ≤ ext → ext ≤ 17
        → extension_rows text words k (matching text words (extensions_in hs) d.number)
        ≡ rows_of_kind k (of_extensions (extensions_of ext d.name hs))
    unfolding matching
    taken_rows k ext e least most =
        ap (λ (x : ℕ). extension_rows text words k (filter (is_matching text words x d.number) (extensions_in hs))) e
        ∙ extension_rows_lem ext d.number k hs all least most
        ∙ ap (λ (n : List ℕ). rows_of_kind k (of_extensions (extensions_of ext n hs))) (at_name d a)

    -- ---- A defined type.

    type_range : is_type_definition d ≡ true → (5 ≤ d.kind) × (d.kind ≤ 10)
    unfolding is_type_definition is_type
    type_range e =
        let b = and_true (leb 5 d.kind) (leb d.kind 10) e in
        (leb-true 5 d.kind b.0, leb-true d.kind 10 b.1)

    type_unextended : is_type_definition d ≡ true → is_type_extension_kind (card_kind words d.number) ≡ false
    unfolding is_type_extension_kind
    type_unextended e = let r = type_range e in let q = at_kind d a in rw (lt-leb 12 (card_kind words d.number) (omega arith))

    defined_list : is_type_definition d ≡ true → (k : ℕ) → list_rows text words
        (matching text words (extensions_in hs) d.number) d.number k ≡ rows_of_kind k (type_components hs d)
    unfolding list_rows head_rows type_components
    defined_list e k =
        let r = type_range e in
        let q = at_kind d a in
        let n = type_unextended e in
        let own : rows_of_kind k (components absent (heading_at text words d.number)) ≡ rows_of_kind k (components absent d) =
        ap (λ (g : Heading). rows_of_kind k (components absent g)) (sym a.2) in
        let more = taken_rows k (d.kind + 7) (extension_defined words d.number (omega arith) (omega arith) ∙ ap (λ (m : ℕ). m + 7) q) (omega arith)
        (omega arith) in
        rw (n, own, more) (sym (kind_append k (components absent d) (of_extensions (extensions_of (d.kind + 7) d.name hs))))

    defined_found : All Found (type_components hs d)
    unfolding type_components
    defined_found =
        all_append Found (components absent d) (of_extensions (extensions_of (d.kind + 7) d.name hs)) (components_found absent d a)
        (rw (← at_name d a) (extensions_found (d.kind + 7) d.number 0 hs all))

    pub type_rows_lem : is_type_definition d ≡ true → type_rows_at text words (extensions_in hs) d.number ≡ type_rows hs d
    unfolding type_rows_at type_rows block type_row_at type_row list_at
    type_rows_lem e =
        let r = type_range e in
        let q = at_kind d a in
        let n = type_unextended e in
        let what : definition_of (card_kind words d.number) ≡ d.kind = defined_kind (card_kind words d.number) (omega arith) (omega arith) ∙ q in
        let lists : flat_map (λ k. firsts (alike_rows (same_stored text words)) []
        (list_rows text words (matching text words (extensions_in hs) d.number) d.number k)) under_type
        ≡ flat_map (list_of_kind (kept (type_components hs d))) under_type =
        flat_same _ _ (λ k. ap (firsts (alike_rows (same_stored text words)) []) (defined_list e k)
        ∙ sym (listed_sticky (same_stored text words) Found agree (type_components hs d) k defined_found)) under_type in
        rw (n) (λ i. row (what i) d.number absent ∷ lists i)

    -- ---- An adopted one.

    adopted_range : is_type_extension d ≡ true → (12 ≤ d.kind) × (d.kind ≤ 17)
    unfolding is_type_extension
    adopted_range e =
        let b = and_true (leb 12 d.kind) (leb d.kind 17) e in
        (leb-true 12 d.kind b.0, leb-true d.kind 17 b.1)

    adopted_extended : is_type_extension d ≡ true → is_type_extension_kind (card_kind words d.number) ≡ true
    unfolding is_type_extension_kind is_type_extension
    adopted_extended e = ap (λ (k : ℕ). leb 12 k && leb k 17) (at_kind d a) ∙ e

    adopted_list : is_type_extension d ≡ true → (k : ℕ) → list_rows text words (matching text words (extensions_in hs) d.number)
        d.number k ≡ rows_of_kind k (of_extensions (extensions_of d.kind d.name hs))
    unfolding list_rows
    adopted_list e k =
        let r = adopted_range e in
        let q = at_kind d a in
        rw (adopted_extended e) (taken_rows k d.kind (extension_adopted words d.number (omega arith) ∙ q) (omega arith) (omega arith))

    adopted_found : All Found (of_extensions (extensions_of d.kind d.name hs))
    adopted_found = rw (← at_name d a) (extensions_found d.kind d.number 0 hs all)

    pub adopted_rows_lem : is_type_extension d ≡ true → type_rows_at text words (extensions_in hs) d.number ≡ adopted_rows hs d
    unfolding type_rows_at adopted_rows block type_row_at adopted_row list_at
    adopted_rows_lem e =
        let r = adopted_range e in
        let q = at_kind d a in
        let n = adopted_extended e in
        let what : definition_of (card_kind words d.number) ≡ d.kind - 7 =
        extended_kind (card_kind words d.number) (omega arith) ∙ ap (λ (k : ℕ). k - 7) q in
        let lists : flat_map (λ k. firsts (alike_rows (same_stored text words)) []
        (list_rows text words (matching text words (extensions_in hs) d.number) d.number k)) under_type
        ≡ flat_map (list_of_kind (kept (of_extensions (extensions_of d.kind d.name hs)))) under_type =
        flat_same _ _ (λ k. ap (firsts (alike_rows (same_stored text words)) []) (adopted_list e k)
        ∙ sym (listed_sticky (same_stored text words) Found agree (of_extensions (extensions_of d.kind d.name hs)) k adopted_found)) under_type in
        rw (n) (λ i. row (what i) d.number d.number ∷ lists i)

  -- ---- All of them.

  module _ (hs : List Heading) (all : All At hs) where
    pub types_rows : flat_map (type_rows_at text words (extensions_in hs)) (map heading_number (defined_types hs))
        ≡ flat_map (type_rows hs) (defined_types hs)
    unfolding defined_types heading_number
    types_rows =
        flat_numbered (λ d. At d × (is_type_definition d ≡ true)) (λ (h : Heading). h.number)
        (type_rows_at text words (extensions_in hs)) (type_rows hs)
        (λ d h. type_rows_lem hs all d h.0 h.1) (firsts same_named [] (filter is_type_definition hs))
        (all_firsts (λ d. At d × (is_type_definition d ≡ true)) same_named [] (filter is_type_definition hs) (filter_passes At is_type_definition hs all))

    orphan_extends : (h : Heading) → is_orphan hs h ≡ true → is_type_extension h ≡ true
    unfolding is_orphan
    orphan_extends h e = (and_true (is_type_extension h) (is_missing (definition h.name hs)) e).0

    pub orphans_rows : flat_map (type_rows_at text words (extensions_in hs)) (map heading_number (firsts same_named [] (orphans hs)))
        ≡ flat_map (adopted_rows hs) (firsts same_named [] (orphans hs))
    unfolding orphans heading_number
    orphans_rows =
        flat_numbered (λ d. At d × (is_orphan hs d ≡ true)) (λ (h : Heading). h.number)
        (type_rows_at text words (extensions_in hs)) (adopted_rows hs)
        (λ d h. adopted_rows_lem hs all d h.0 (orphan_extends d h.1)) (firsts same_named [] (filter (is_orphan hs) hs))
        (all_firsts (λ d. At d × (is_orphan hs d ≡ true)) same_named [] (filter (is_orphan hs) hs) (filter_passes At (is_orphan hs) hs all))
