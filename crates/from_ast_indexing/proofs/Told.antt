-- From the cards' numbers to the headings: what the walks leave is what the definitions say.
use mathlib.Core.Path.{◌≡◌, refl, sym, ◌∙◌, ap}
use mathlib.Core.List.{List, [], map}
use mathlib.Core.Bool.{Bool, true, false, ◌&&◌, ◌||◌}
use mathlib.Core.Option.{Option, none, some}
use Prim.Native.Nat.{ℕ, ◌≤◌, ◌<◌}
use native.Mathlib.Omega.{arith}
use lib.Dec.{eqb, leb}
use lib.ListN.{length, get_or, get_elem?, length-map}
use borrow.Author.Tests.{ne_eqb}
use Rattle.definition.specs.Lists.{choose, found, filter, find, firsts, All}
use Rattle.definition.specs.Names.{same_name}
use Rattle.definition.specs.Answers.{absent}
use Rattle.definition.specs.Cards.{is_part, is_type}
use Rattle.definition.specs.Headings.{Heading, is_type_definition, is_type_extension, is_named, same_named, defines_type, defined_types, definition}
use Rattle.definition.specs.Headings.{is_missing, is_orphan, orphans, number_of}
use Rattle.definition.specs.Refusals.{card_capacity}
use Rattle.definition.specs.Store.{cards_used_of}
use Rattle.store_reader.specs.Stored.{card_kind, card_name, stored_headings, heading_at}
use Rattle.definition.proofs.All.{all_filter, all_firsts, all_every, all_to, all_found}
use Rattle.store_reader.proofs.Lists.{get_inside, all_get}
use Rattle.store_reader.proofs.Words.{headings_at}
use Rattle.from_ast_index.proofs.Spans.{all_named}
use Rattle.from_ast_index.specs.Index.{same_cards, Listed, heading_number, is_type_extension_kind, is_typed}
use Rattle.from_ast_index.proofs.Lists.{never, chosen_both, first_filter, filter_map, pictured, first_map, firsts_map, get_all, all_kept, filter_both}
use Rattle.from_ast_index.proofs.Lists.{all_at, get_d_picture, all_picture}
use Rattle.from_ast_indexing.specs.Entering.{first_card}
use Rattle.from_ast_indexing.specs.Types.{is_type_card}
use Rattle.from_ast_indexing.specs.Extensions.{is_extension_card, is_unowned}
use Rattle.from_ast_indexing.specs.Steps.{HeadingsAre}
use Rattle.from_ast_indexing.proofs.Owners.{OwnersAre}

-- ---- Headings by their cards.

module _ (text words : List ℕ) where
  -- A heading is what the store says of its card.
  abbrev pub Told : Heading → Type 0
  Told h = (h.number < cards_used_of words) × (card_kind words h.number ≡ h.kind) × (card_name text words h.number ≡ h.name)

  told : All Told (stored_headings text words)
  told =
      all_to (λ h. (h.number < cards_used_of words) × (is_part (card_kind words h.number) ≡ false) × (h ≡ heading_at text words h.number)) Told
      (λ h a. (a.0, sym (ap (λ (g : Heading). g.kind) a.2), sym (ap (λ (g : Heading). g.name) a.2))) (stored_headings text words)
      (headings_at text words)

  type_told : (h : Heading) → Told h → is_type_card words (heading_number h) ≡ is_type_definition h
  unfolding is_type_card is_type_definition heading_number
  type_told h t = ap is_type t.1

  extension_told : (h : Heading) → Told h → is_extension_card words (heading_number h) ≡ is_type_extension h
  unfolding is_extension_card is_type_extension is_type_extension_kind heading_number
  extension_told h t = ap (λ (k : ℕ). leb 12 k && leb k 17) t.1

  same_told : (g h : Heading) → Told g → Told h → same_cards text words (heading_number g) (heading_number h) ≡ same_named g h
  unfolding same_cards same_named is_named heading_number
  same_told g h s t = ap (λ (n : List ℕ). same_name n (card_name text words h.number)) s.2 ∙ ap (same_name g.name) t.2

  -- Definitions, types and extensions.
  kept_types : (hs : List Heading) → All Told hs → filter (is_type_card words) (map heading_number hs) ≡ map heading_number (filter is_type_definition hs)
  kept_types hs a =
      filter_map heading_number is_type_definition (is_type_card words) hs
      (all_to Told (λ h. is_type_card words (heading_number h) ≡ is_type_definition h) type_told hs a)

  kept_extensions : (hs : List Heading) → All Told hs → filter (is_extension_card words) (map heading_number hs) ≡ map heading_number (filter is_type_extension hs)
  kept_extensions hs a =
      filter_map heading_number is_type_extension (is_extension_card words) hs
      (all_to Told (λ h. is_extension_card words (heading_number h) ≡ is_type_extension h) extension_told hs a)

  told_kept : (p : Heading → Bool) (hs : List Heading) → All Told hs → All Told (filter p hs)
  told_kept p hs a = all_filter Told p hs a

  firsts_told : (hs : List Heading) → All Told hs → firsts (same_cards text words) [] (map heading_number hs) ≡ map heading_number (firsts same_named [] hs)
  firsts_told hs a = firsts_map heading_number same_named (same_cards text words) Told same_told [] hs tt a

  types_told : (hs : List Heading) → All Told hs → firsts (same_cards text words) [] (filter (is_type_card words) (map heading_number hs))
      ≡ map heading_number (defined_types hs)
  unfolding defined_types
  types_told hs a =
      ap (firsts (same_cards text words) []) (kept_types hs a) ∙ firsts_told (filter is_type_definition hs) (told_kept is_type_definition hs a)

  -- The first definition of a heading's name.
  number_found : (o : Option Heading) → found (pictured heading_number o) (λ d. d) absent ≡ number_of o
  unfolding number_of heading_number
  number_found (some d) = refl
  number_found none = refl

  owner_told : (hs : List Heading) → All Told hs → (h : Heading) → Told h →
      first_card (same_cards text words) (heading_number h) (filter (is_type_card words) (map heading_number hs)) ≡ number_of (definition h.name hs)
  unfolding first_card definition same_named
  owner_told hs a h t =
      ap (λ (l : List ℕ). found (find (same_cards text words (heading_number h)) l) (λ d. d) absent) (kept_types hs a)
      ∙ ap (λ (o : Option ℕ). found o (λ d. d) absent)
      (first_map heading_number (same_named h) (same_cards text words (heading_number h)) (filter is_type_definition hs)
      (all_to Told (λ g. same_cards text words (heading_number h) (heading_number g) ≡ same_named h g) (λ g s. same_told h g t s) (filter is_type_definition hs)
      (told_kept is_type_definition hs a)))
      ∙ number_found (find (is_named h.name) (filter is_type_definition hs))
      ∙ ap number_of (first_filter (is_named h.name) is_type_definition (defines_type h.name) hs (all_named h.name hs))

  -- Orphans.
  missing_told : (hs : List Heading) → All Told hs → cards_used_of words ≤ card_capacity → (n : List ℕ) →
      eqb (number_of (definition n hs)) absent ≡ is_missing (definition n hs)
  unfolding is_missing number_of definition
  missing_told hs a few n = go (find (defines_type n) hs) refl
    where
      go : (o : Option Heading) → find (defines_type n) hs ≡ o → eqb (found o (λ h. h.number) absent) absent ≡ found o (λ d. false) true
      go (some d) e = let t = all_found Told (defines_type n) hs d a e in ne_eqb d.number absent (λ q. omega (arith, t.0))
      go none e = refl

  unowned_orphan : (hs : List Heading) (h : Heading) → choose (is_type_extension h) (is_missing (definition h.name hs)) false ≡ is_orphan hs h
  unfolding is_orphan
  unowned_orphan hs h = chosen_both (is_type_extension h) (is_missing (definition h.name hs))

  all_orphan : (hs xs : List Heading) → All (λ h. choose (is_type_extension h) (is_missing (definition h.name hs)) false ≡ is_orphan hs h) xs
  all_orphan hs xs = all_every (λ h. choose (is_type_extension h) (is_missing (definition h.name hs)) false ≡ is_orphan hs h) (unowned_orphan hs) xs

  orphans_told : (owners : List ℕ) (hs : List Heading) → All Told hs → cards_used_of words ≤ card_capacity →
      All (λ h. is_type_extension h ≡ true → get_or owners (heading_number h) 0 ≡ number_of (definition h.name hs)) hs →
      firsts (same_cards text words) [] (filter (is_unowned owners) (filter (is_extension_card words) (map heading_number hs))) ≡
      map heading_number (firsts same_named [] (orphans hs))
  unfolding orphans is_unowned
  orphans_told owners hs a few o =
      let missing : Heading → Bool = λ h. is_missing (definition h.name hs) in
      ap (λ (l : List ℕ). firsts (same_cards text words) [] (filter (is_unowned owners) l)) (kept_extensions hs a)
      ∙ ap (firsts (same_cards text words) [])
      (filter_map heading_number missing (is_unowned owners) (filter is_type_extension hs)
      (all_kept (λ h. is_unowned owners (heading_number h) ≡ missing h) is_type_extension hs
      (all_to (λ h. is_type_extension h ≡ true → get_or owners (heading_number h) 0 ≡ number_of (definition h.name hs))
      (λ h. is_type_extension h ≡ true → is_unowned owners (heading_number h) ≡ missing h)
      (λ h f y. ap (λ (n : ℕ). eqb n absent) (f y) ∙ missing_told hs a few h.name) hs o)))
      ∙ ap (λ (l : List Heading). firsts (same_cards text words) [] (map heading_number l))
      (filter_both is_type_extension missing (is_orphan hs) hs (all_orphan hs hs))
      ∙ firsts_told (filter (is_orphan hs) hs) (told_kept (is_orphan hs) hs a)

-- ---- The walks' records, told by the headings.

module _ (text words headings : List ℕ) (few : cards_used_of words ≤ card_capacity) (is : HeadingsAre words headings)
    (owners types orphan_cards extensions : List ℕ) (w : OwnersAre text words headings owners types orphan_cards extensions)
    (owners_length : cards_used_of words ≤ length owners) where
  hs : List Heading
  hs = stored_headings text words

  headings_are : headings ≡ map heading_number hs
  unfolding hs
  headings_are = is.headings_are text

  all_told : All (Told text words) hs
  unfolding hs
  all_told = told text words

  types_are : types ≡ map heading_number (defined_types hs)
  types_are =
      w.types_are ∙ ap (λ (l : List ℕ). firsts (same_cards text words) [] (filter (is_type_card words) l)) headings_are ∙ types_told text words hs all_told

  extensions_are : extensions ≡ map heading_number (filter is_type_extension hs)
  extensions_are = w.extensions_are ∙ ap (filter (is_extension_card words)) headings_are ∙ kept_extensions text words hs all_told

  at_heading : (k : ℕ) (h : Heading) → get_elem? hs k ≡ some h → (k < length headings) × (get_or headings k 0 ≡ heading_number h)
  at_heading k h e = (
    omega (arith, ap length headings_are, length-map hs heading_number, get_inside hs k h e),
    ap (λ (l : List ℕ). get_or l k 0) headings_are ∙ get_d_picture heading_number hs k h e,
  )

  first_definition : (c : ℕ) → first_card (same_cards text words) c (filter (is_type_card words) headings) ≡
      first_card (same_cards text words) c (filter (is_type_card words) (map heading_number hs))
  first_definition c = ap (λ (l : List ℕ). first_card (same_cards text words) c (filter (is_type_card words) l)) headings_are

  -- The owner of a heading's card, where it is the first definition of the card's name.
  owner_at_lem : (k : ℕ) (h : Heading) → get_elem? hs k ≡ some h →
      get_or owners (get_or headings k 0) 0 ≡ first_card (same_cards text words) (get_or headings k 0) (filter (is_type_card words) headings) →
      get_or owners (heading_number h) 0 ≡ number_of (definition h.name hs)
  owner_at_lem k h e o =
      let is = (at_heading k h e).1 in
      ap (λ (c : ℕ). get_or owners c 0) (sym is)
      ∙ o
      ∙ ap (λ (c : ℕ). first_card (same_cards text words) c (filter (is_type_card words) headings)) is
      ∙ first_definition (heading_number h)
      ∙ owner_told text words hs all_told h (all_get (Told text words) hs all_told k h e)

  definition_owner : (k : ℕ) (h : Heading) → get_elem? hs k ≡ some h → is_type_definition h ≡ true →
      get_or owners (heading_number h) 0 ≡ number_of (definition h.name hs)
  definition_owner k h e y =
      let a = at_heading k h e in
      let t = all_get (Told text words) hs all_told k h e in
      owner_at_lem k h e (w.type_owners k a.0 (ap (is_type_card words) a.1 ∙ type_told text words h t ∙ y))

  extension_owner : (k : ℕ) (h : Heading) → get_elem? hs k ≡ some h → is_type_extension h ≡ true →
      get_or owners (heading_number h) 0 ≡ number_of (definition h.name hs)
  extension_owner k h e y =
      let a = at_heading k h e in
      let t = all_get (Told text words) hs all_told k h e in
      owner_at_lem k h e (w.extension_owners k a.0 (ap (is_extension_card words) a.1 ∙ extension_told text words h t ∙ y))

  owners_are : (k : ℕ) (h : Heading) → get_elem? hs k ≡ some h → is_typed h ≡ true → get_or owners h.number 0 ≡ number_of (definition h.name hs)
  unfolding is_typed heading_number
  owners_are k h e y = go (is_type_definition h) (is_type_extension h) refl refl y
    where
      go : (a b : Bool) → is_type_definition h ≡ a → is_type_extension h ≡ b → (a || b) ≡ true → get_or owners h.number 0 ≡ number_of (definition h.name hs)
      go true b d x z = definition_owner k h e d
      go false true d x z = extension_owner k h e x
      go false false d x z = never (sym z)

  orphans_are : orphan_cards ≡ map heading_number (firsts same_named [] (orphans hs))
  orphans_are =
      w.orphans_are
      ∙ ap (λ (l : List ℕ). firsts (same_cards text words) [] (filter (is_unowned owners) (filter (is_extension_card words) l))) headings_are
      ∙ orphans_told text words owners hs all_told few
      (get_all (λ h. is_type_extension h ≡ true → get_or owners (heading_number h) 0 ≡ number_of (definition h.name hs)) hs extension_owner)

  told_firsts : (xs : List Heading) → All (Told text words) xs → All (Told text words) (firsts same_named [] xs)
  told_firsts xs a = all_firsts (Told text words) same_named [] xs a

  told_types : All (Told text words) (defined_types hs)
  unfolding defined_types
  told_types = told_firsts (filter is_type_definition hs) (told_kept text words is_type_definition hs all_told)

  told_orphans : All (Told text words) (firsts same_named [] (orphans hs))
  unfolding orphans
  told_orphans = told_firsts (filter (is_orphan hs) hs) (told_kept text words (is_orphan hs) hs all_told)

  -- All cards of an array that are numbers of headings are stored.
  stored_of_lem : (xs : List Heading) → All (Told text words) xs → (cards : List ℕ) → cards ≡ map heading_number xs →
      (k : ℕ) → k < length cards → get_or cards k 0 < cards_used_of words
  unfolding heading_number
  stored_of_lem xs a cards e =
      all_at (λ c. c < cards_used_of words) cards
      (rw e (all_picture heading_number (λ c. c < cards_used_of words) xs (all_to (Told text words) (λ g. heading_number g < cards_used_of words) (λ g t. t.0) xs a)))

  pub indexed : Listed text words headings owners types orphan_cards extensions
  unfolding hs
  indexed = record {
    headings_are = headings_are;
    types_are = types_are;
    orphans_are = orphans_are;
    extensions_are = extensions_are;
    owners_are = owners_are;
    owners_length = owners_length;
    headings_most = is.headings_most;
    types_most = w.types_most;
    orphans_most = w.orphans_most;
    extensions_most = w.extensions_most;
    headings_stored = stored_of_lem hs all_told headings headings_are;
    types_stored = stored_of_lem (defined_types hs) told_types types types_are;
    orphans_stored = stored_of_lem (firsts same_named [] (orphans hs)) told_orphans orphan_cards orphans_are;
    extensions_stored =
        stored_of_lem (filter is_type_extension hs) (told_kept text words is_type_extension hs all_told) extensions extensions_are;
  }
