-- The naming cards of a drawing's groups stand in the order of its 21s, and the 21s of types that definitions bring stand later in that order again,
-- before all 21s of other types.
use mathlib.Core.Path.{◌≡◌, refl, ◌∙◌, ap}
use mathlib.Core.Logic.{◌⊎◌, inl, inr}
use mathlib.Core.List.{List, [], ◌∷◌, ◌++◌, map, map-map, append_assoc}
use mathlib.Core.Bool.{Bool, true, false}
use Prim.Native.Nat.{ℕ, ◌≤◌, ◌<◌}
use native.Mathlib.Omega.{arith}
use lib.Dec.{eqb}
use lib.ListN.{length}
use borrow.Author.Tests.{eq-eqb}
use Rattle.definition.specs.Lists.{All, Within, done, skip, keep, is_empty, filter, flat_map, firsts}
use Rattle.definition.specs.Answers.{absent}
use Rattle.definition.specs.Headings.{Document, Heading, NamedCard, is_type_definition, is_named, same_named, headings, headings_from, defined_types}
use Rattle.definition.specs.Catalogue.{Row, rows}
use Rattle.definition.specs.Merge.{merge}
use Rattle.definition.specs.Refusals.{cards_held, card_capacity}
use Rattle.definition.specs.LentRows.{held, is_type_row}
use Rattle.definition.specs.Lookups.{Block, blocks, first_types, same_block, is_row_of, Group, Implementing, implementing, implementing_of}
use Rattle.definition.specs.Lookups.{all_implementing, same_interface, same_group, group_of, groups}
use Rattle.definition.specs.Growth.{Names, NamesBefore, ImplementedBy, Brings, list_in, list_of}
use Rattle.definition.proofs.Lists.{flat_map_append, map_append, map_flat_map, flat_map_map}
use Rattle.definition.proofs.All.{all_append, all_filter, all_firsts, all_map, all_flat_map, all_every, all_to, all_found}
use Rattle.definition.proofs.Sums.{gate, sum_map, count}
use Rattle.definition.proofs.Within.{within_then, within_append, within_left, within_right, within_filter, within_firsts, within_weighs, within_all}
use Rattle.definition.proofs.Within.{within_split, among_within, members, Once, in_left, in_fewer, within_map, within_flat_map, within_each}
use Rattle.definition.proofs.Within.{each_within}
use Rattle.definition.proofs.AddedHeadings.{types_grow}
use Rattle.definition.proofs.DocumentHeadings.{headings_joined, headings_from_lem, headings_named, From, OfCards}
use Rattle.definition.proofs.BuiltRows.{part_rows, adopted_parts, type_block, adopted_block, adoptees, built_blocks}
use Rattle.definition.proofs.TypesGrow.{OfParts, of_rows, of_adopted_lem, parts_grow, list_found}
use Rattle.definition.proofs.BuiltTypes.{among_types}
use Rattle.definition.proofs.Bounds.{built_row_once}

-- ---- Any rows.

-- The 21s under the type rows, second rows of a name too.
interfaces : List Row → List Row
interfaces rs = flat_map (list_in 21) (blocks rs).1

abbrev card_of_row : Row → ℕ
card_of_row r = r.card

under_types : (rs : List Row) → Within ((blocks rs).0 ++ flat_map (λ b. b.parts) (blocks rs).1) rs
unfolding blocks flat_map
under_types [] = done
under_types (r ∷ rs) = go (is_type_row r) refl (under_types rs)
  where
    go : (t : Bool) → is_type_row r ≡ t → Within ((blocks rs).0 ++ flat_map (λ b. b.parts) (blocks rs).1) rs →
        Within ((blocks (r ∷ rs)).0 ++ flat_map (λ b. b.parts) (blocks (r ∷ rs)).1) (r ∷ rs)
    go true e ih = rw e (skip ih)
    go false e ih = rw e (keep ih)

interfaces_within : (rs : List Row) → Within (interfaces rs) rs
unfolding interfaces list_in
interfaces_within rs =
    within_then (within_each (list_in 21) (λ b. b.parts) (λ b. within_filter (is_row_of 21) b.parts) (blocks rs).1)
    (within_then (within_right (blocks rs).0 _) (under_types rs))

-- The naming cards are some of their cards, in order.
module _ (cs : List NamedCard) where
  abbrev card_of_interface : Implementing → ℕ
  card_of_interface i = i.interface.card

  of_type : (b : Block) → Within (map card_of_interface (implementing_of cs b)) (map card_of_row (list_in 21 b))
  unfolding implementing_of list_in implementing
  of_type b =
      rw (map-map card_of_interface (implementing b.head) (firsts (same_interface cs) [] (filter (is_row_of 21) b.parts)))
      (within_map card_of_row (within_firsts (same_interface cs) [] (filter (is_row_of 21) b.parts)))

  namings_within : (rs : List Row) → Within (map (λ g. g.naming) (groups cs rs)) (map card_of_row (interfaces rs))
  unfolding groups group_of all_implementing interfaces first_types
  namings_within rs =
      let is = all_implementing cs rs in
      rw (map-map (λ (g : Group). g.naming) (group_of cs is) (firsts (same_group cs) [] is), map_flat_map card_of_row (list_in 21) (blocks rs).1)
      (within_then (within_map card_of_interface (within_firsts (same_group cs) [] is))
      (rw (map_flat_map card_of_interface (implementing_of cs) (first_types cs rs))
      (within_then (within_each (λ b. map card_of_interface (implementing_of cs b)) (λ b. map card_of_row (list_in 21 b)) of_type (first_types cs rs))
      (within_flat_map (λ b. map card_of_row (list_in 21 b)) (within_firsts (same_block cs) [] (blocks rs).1)))))

-- A card that no two rows have is not there twice.
once_of : (rs : List Row) (c : ℕ) → length (filter (λ r. eqb r.card c) rs) ≤ 1 → Once c (map card_of_row (interfaces rs))
once_of rs c l p =
    let w : ℕ → ℕ = λ i. gate (eqb i c) 1 in
    let e : w c ≡ 1 = rw (eq-eqb c c refl) in
    omega (
      arith,
      within_weighs w (within_then p (within_map card_of_row (interfaces_within rs))),
      sum_map w card_of_row rs,
      count (λ (r : Row). eqb r.card c) rs,
    )

-- ---- The rows of a drawing.

interfaces_of : List Heading → Heading → List Row
interfaces_of hs d = filter (is_row_of 21) (part_rows hs d)

-- The 21s of the types that definitions bring, and those of the adopted ones.
of_types : List Heading → List Row
of_types hs = flat_map (interfaces_of hs) (defined_types hs)

of_adopted : Bool → List Heading → List Row
of_adopted a hs = flat_map (list_in 21) (map (adopted_block hs) (adoptees a hs))

built_interfaces : (a : Bool) (hs : List Heading) → interfaces (rows a hs) ≡ of_types hs ++ of_adopted a hs
unfolding interfaces of_types of_adopted interfaces_of list_in type_block
built_interfaces a hs =
    ap (flat_map (list_in 21)) (built_blocks a hs)
    ∙ (flat_map_append (list_in 21) (map (type_block hs) (defined_types hs)) (map (adopted_block hs) (adoptees a hs))
    ∙ ap (λ l. l ++ of_adopted a hs) (flat_map_map (list_in 21) (type_block hs) (defined_types hs)))

-- What holds of the numbers of all parts holds of their cards.
of_interfaces : (P : ℕ → Type 0) (a : Bool) (hs : List Heading) → All (OfParts P) hs → All (λ r. P r.card) (interfaces (rows a hs))
unfolding of_types of_adopted interfaces_of list_in adopted_block defined_types
of_interfaces P a hs p =
    rw (built_interfaces a hs)
    (all_append (λ r. P r.card) (of_types hs) (of_adopted a hs)
    (all_flat_map (λ r. P r.card) (interfaces_of hs) (defined_types hs)
    (all_to (OfParts P) (λ d. All (λ r. P r.card) (interfaces_of hs d))
    (λ d e. all_filter (λ r. P r.card) (is_row_of 21) (part_rows hs d) (of_rows P hs d p e)) (defined_types hs)
    (all_firsts (OfParts P) same_named [] (filter is_type_definition hs) (all_filter (OfParts P) is_type_definition hs p))))
    (all_flat_map (λ r. P r.card) (list_in 21) (map (adopted_block hs) (adoptees a hs))
    (all_map (λ b. All (λ r. P r.card) (list_in 21 b)) (adopted_block hs) (adoptees a hs)
    (all_every (λ g. All (λ r. P r.card) (list_in 21 (adopted_block hs g)))
    (λ g. all_filter (λ r. P r.card) (is_row_of 21) (adopted_parts hs g) (of_adopted_lem P hs g p)) (adoptees a hs)))))

-- ---- Two drawings: of headings that have the cards before n, and of them with more, which have the cards from n on.
module _ (a b : Bool) (hs more : List Heading) (n : ℕ) (old : All (OfParts (λ i. i < n)) hs) (new : All (OfParts (λ i. n ≤ i)) more) where
  -- The 21s of the later, in two parts: those of the types that there were before, and the others.
  grown_types : List Row
  grown_types = flat_map (interfaces_of (hs ++ more)) (defined_types hs)

  others : List Row
  others = flat_map (interfaces_of (hs ++ more)) (firsts same_named (defined_types hs) (filter is_type_definition more)) ++ of_adopted b (hs ++ more)

  later_interfaces : interfaces (rows b (hs ++ more)) ≡ grown_types ++ others
  unfolding of_types grown_types others
  later_interfaces = built_interfaces b (hs ++ more) ∙ simp (types_grow hs more, flat_map_append, append_assoc)

  types_stay : Within (of_types hs) grown_types
  unfolding of_types grown_types interfaces_of
  types_stay =
      within_each (interfaces_of hs) (interfaces_of (hs ++ more))
      (λ d. let g = parts_grow (λ i. n ≤ i) hs more d 21 new in rw g.1 (within_left (filter (is_row_of 21) (part_rows hs d)) g.0)) (defined_types hs)

  -- A card of theirs was there before, or is of the added headings.
  Known : ℕ → Type 0
  Known i = Within (i ∷ []) (map card_of_row (of_types hs)) ⊎ (n ≤ i)

  all_known : All Known (map card_of_row grown_types)
  unfolding Known of_types grown_types interfaces_of
  all_known =
      all_map Known card_of_row grown_types (all_flat_map (λ r. Known r.card) (interfaces_of (hs ++ more)) (defined_types hs)
      (all_to (λ d. Within (interfaces_of hs d) (of_types hs)) (λ d. All (λ r. Known r.card) (interfaces_of (hs ++ more) d))
      (λ d w. let g = parts_grow (λ i. n ≤ i) hs more d 21 new in rw g.1
      (all_append (λ r. Known r.card) (interfaces_of hs d) g.0
      (all_to (λ r. Within (r ∷ []) (of_types hs)) (λ r. Known r.card) (λ r q. inl (within_map card_of_row q)) (interfaces_of hs d) (members w))
      (all_to (λ r. n ≤ r.card) (λ r. Known r.card) (λ r q. inr q) g.0 g.2)))
      (defined_types hs) (each_within (interfaces_of hs) (defined_types hs))))

  was_there : (d : ℕ) → d < n → Within (d ∷ []) (map card_of_row grown_types) → Within (d ∷ []) (map card_of_row (of_types hs))
  unfolding Known
  was_there d l p = go (within_all Known p all_known).0
    where
      go : Within (d ∷ []) (map card_of_row (of_types hs)) ⊎ (n ≤ d) → Within (d ∷ []) (map card_of_row (of_types hs))
      go (inl q) = q
      go (inr q) = absurd (omega arith)

  module _ (once : (c : ℕ) → c < n → Once c (map card_of_row (interfaces (rows a hs))))
      (once_later : (c : ℕ) → c < n → Once c (map card_of_row (interfaces (rows b (hs ++ more))))) (ps ps' : List NamedCard) where
    earlier_cards : map card_of_row (interfaces (rows a hs)) ≡ map card_of_row (of_types hs) ++ map card_of_row (of_adopted a hs)
    earlier_cards = ap (map card_of_row) (built_interfaces a hs) ∙ map_append card_of_row (of_types hs) (of_adopted a hs)

    later_cards : map card_of_row (interfaces (rows b (hs ++ more))) ≡ map card_of_row grown_types ++ map card_of_row others
    later_cards = ap (map card_of_row) later_interfaces ∙ map_append card_of_row grown_types others

    -- At the later c stands before d among the 21s: either d is of a type that there was before, and they stood so, or it is one of the others, which
    -- stand after all those. So it does among the naming cards.
    keeps : (c d : ℕ) → Within (c ∷ []) (map card_of_row (of_types hs)) → NamesBefore (groups ps (rows a hs)) c d →
        Names (groups ps' (rows b (hs ++ more))) c → Names (groups ps' (rows b (hs ++ more))) d → NamesBefore (groups ps' (rows b (hs ++ more))) c d
    keeps c d t e f g =
        let later = namings_within ps' (rows b (hs ++ more)) in
        let w : Within (c ∷ d ∷ []) (map card_of_row (interfaces (rows a hs))) = within_then e (namings_within ps (rows a hs)) in
        let (x, (y, _)) =
        within_all (λ i. i < n) w (all_map (λ i. i < n) card_of_row (interfaces (rows a hs)) (of_interfaces (λ i. i < n) a hs old)) in
        let v : Within (d ∷ []) (map card_of_row grown_types ++ map card_of_row others) = rw later_cards at (within_then (among_within g) later) in
        in_fewer later
        (rw later_cards (go y (rw earlier_cards at w) (rw earlier_cards at (once d y)) (within_split (map card_of_row grown_types) (map card_of_row others) v)))
        (among_within f) (among_within g) (once_later c x) (once_later d y)
      where
        go : d < n → Within (c ∷ d ∷ []) (map card_of_row (of_types hs) ++ map card_of_row (of_adopted a hs)) →
            Once d (map card_of_row (of_types hs) ++ map card_of_row (of_adopted a hs)) →
            Within (d ∷ []) (map card_of_row grown_types) ⊎ Within (d ∷ []) (map card_of_row others) →
            Within (c ∷ d ∷ []) (map card_of_row grown_types ++ map card_of_row others)
        go l w o (inl p) =
            within_then (in_left (map card_of_row (of_types hs)) (map card_of_row (of_adopted a hs)) w (was_there d l p) o)
            (within_then (within_map card_of_row types_stay) (within_left (map card_of_row grown_types) (map card_of_row others)))
        go l w o (inr p) = within_append (within_then t (within_map card_of_row types_stay)) p

-- ---- Two drawings, of documents.

in_types : (a : Bool) (ds : List Document) (n : List ℕ) (e : Heading) → Brings ds n e → (c : ℕ) → ImplementedBy (held ds) (merge a ds).rows n c →
    Within (c ∷ []) (map card_of_row (of_types (headings ds)))
unfolding merge of_types interfaces_of
in_types a ds n e h c t =
    let hs = headings ds in
    let w : Within (interfaces_of hs e) (of_types hs) =
    all_found (λ d. Within (interfaces_of hs d) (of_types hs)) (is_named n) (defined_types hs) e (each_within (interfaces_of hs) (defined_types hs))
    (among_types (held ds) n a hs (headings_named ds) ∙ h) in
    let l : list_of (held ds) (rows a hs) n 21 ≡ interfaces_of hs e = list_found (held ds) n a hs (headings_named ds) e h 21 in
    within_then (among_within (rw l at t)) (within_map card_of_row w)

once_in : (a : Bool) (ds : List Document) (c : ℕ) → c < absent → Once c (map card_of_row (interfaces (rows a (headings ds))))
unfolding merge
once_in a ds c l = once_of (rows a (headings ds)) c (built_row_once a ds c (λ e. omega arith))

module _ (a b : Bool) (ds es : List Document) (few : cards_held ds ≤ card_capacity) where
  added_headings : List Heading
  added_headings = headings_from (is_empty ds) (cards_held ds) es

  old_parts : All (OfParts (λ i. i < cards_held ds)) (headings ds)
  unfolding headings
  old_parts =
      all_to (OfCards (From 0 (cards_held ds))) (OfParts (λ i. i < cards_held ds))
      (λ h p. all_to (From 0 (cards_held ds)) (λ q. q.number < cards_held ds) (λ q r. omega arith) h.parts p.1)
      (headings ds) (headings_from_lem true 0 ds)

  new_parts : All (OfParts (λ i. cards_held ds ≤ i)) added_headings
  unfolding added_headings
  new_parts =
      all_to (OfCards (From (cards_held ds) (cards_held es))) (OfParts (λ i. cards_held ds ≤ i))
      (λ h p. all_to (From (cards_held ds) (cards_held es)) (λ q. cards_held ds ≤ q.number) (λ q r. r.0) h.parts p.1)
      added_headings (headings_from_lem (is_empty ds) (cards_held ds) es)

  pub order_stays : (n : List ℕ) (e : Heading) → Brings ds n e → (c d : ℕ) → ImplementedBy (held ds) (merge a ds).rows n c →
      NamesBefore (groups (held ds) (merge a ds).rows) c d →
      Names (groups (held (ds ++ es)) (merge b (ds ++ es)).rows) c → Names (groups (held (ds ++ es)) (merge b (ds ++ es)).rows) d →
      NamesBefore (groups (held (ds ++ es)) (merge b (ds ++ es)).rows) c d
  unfolding merge added_headings
  order_stays n e h c d t u v w =
      rw (headings_joined ds es)
      (keeps a b (headings ds) added_headings (cards_held ds) old_parts new_parts (λ i l. once_in a ds i (omega arith))
      (λ i l. rw (headings_joined ds es) at (once_in b (ds ++ es) i (omega arith))) (held ds) (held (ds ++ es)) c d (in_types a ds n e h c t) u
      (rw (headings_joined ds es) at v) (rw (headings_joined ds es) at w))
