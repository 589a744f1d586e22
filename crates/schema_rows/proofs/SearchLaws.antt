-- The search over rows: what each turn uses, and what is found in terms of types with their parts.
use mathlib.Core.Path.{◌≡◌, refl, sym, ◌∙◌, ap}
use mathlib.Core.List.{List, [], ◌∷◌}
use mathlib.Core.Bool.{Bool, true, false}
use mathlib.Core.Option.{Option, none, some}
use Prim.Native.Nat.{ℕ, suc, ◌+◌, ◌*◌, ◌/◌, ◌≤◌, ◌<◌}
use native.Mathlib.Omega.{arith}
use lib.ListN.{length, drop, get_or, get_elem?}
use Rattle.definition.specs.Lists.{choose, found, any, find}
use Rattle.definition.specs.Cards.{is_type}
use Rattle.definition.specs.Catalogue.{Row}
use Rattle.definition.specs.LentRows.{lent_rows, is_type_row, is_row_named, is_type_row_named}
use Rattle.definition.specs.Headings.{NamedCard}
use Rattle.definition.specs.Lookups.{Block, blocks, is_block_named, type_named, is_part_named, lists}
use Rattle.schema_rows.specs.Rows.{row_at}
use Rattle.std.specs.Prelude.{Option as Place, Some, None, is_some}
use Rattle.store_reader.proofs.Lists.{and_true, and_left_false, get_inside, get_drop}
use Rattle.schema_rows.proofs.Rows.{length_rows, row_get, row_next, row_end, Hit, hit_here, hit_later, never, never_row}
use Rattle.schema_rows.specs.Search.{part_from, located_from}
use Rattle.schema_rows.specs.declared.search.Located.{Located}

-- ---- The turns.

abbrev pub located : Place ℕ → Place ℕ → Located
located owner part = record { owner = owner; part = part }

module _ (hit : Row → Bool) (rows : List ℕ) (i : ℕ) where
  pub part_stop : i < length rows / 3 → is_type (get_or rows (3 * i) 0) ≡ true → part_from hit i (drop i (lent_rows rows)) ≡ None
  unfolding part_from is_type_row
  part_stop h e = rw (row_next rows i h, e)

  pub part_hit : i < length rows / 3 → is_type (get_or rows (3 * i) 0) ≡ false → hit (row_at rows i) ≡ true → part_from hit i (drop i (lent_rows rows)) ≡ Some i
  unfolding part_from is_type_row
  part_hit h e f = rw (row_next rows i h, e, f)

  pub part_miss : i < length rows / 3 → is_type (get_or rows (3 * i) 0) ≡ false → hit (row_at rows i) ≡ false →
      part_from hit i (drop i (lent_rows rows)) ≡ part_from hit (i + 1) (drop (i + 1) (lent_rows rows))
  unfolding part_from is_type_row
  part_miss h e f = rw (row_next rows i h, e, f)

  pub part_end : length rows / 3 ≤ i → part_from hit i (drop i (lent_rows rows)) ≡ None
  unfolding part_from
  part_end h = rw (row_end rows i h)

-- The type that is meant, and the part under it.
module _ (meant hit : Row → Bool) (rows : List ℕ) (i : ℕ) where
  pub owner_hit : i < length rows / 3 → meant (row_at rows i) ≡ true →
      located_from meant hit i (drop i (lent_rows rows)) ≡ located (Some i) (part_from hit (i + 1) (drop (i + 1) (lent_rows rows)))
  unfolding located_from
  owner_hit h e = rw (row_next rows i h, e)

  pub owner_miss : i < length rows / 3 → meant (row_at rows i) ≡ false →
      located_from meant hit i (drop i (lent_rows rows)) ≡ located_from meant hit (i + 1) (drop (i + 1) (lent_rows rows))
  unfolding located_from
  owner_miss h e = rw (row_next rows i h, e)

  pub owner_end : length rows / 3 ≤ i → located_from meant hit i (drop i (lent_rows rows)) ≡ located None None
  unfolding located_from
  owner_end h = rw (row_end rows i h)

-- ---- What is found, in terms of types with their parts.

-- The types and the rows before them, by the first row.
module _ (r : Row) (rs : List Row) where
  pub blocks_type : is_type_row r ≡ true → blocks (r ∷ rs) ≡ ([], record { head = r; parts = (blocks rs).0 } ∷ (blocks rs).1)
  unfolding blocks
  blocks_type e = rw e

  pub blocks_under : is_type_row r ≡ false → blocks (r ∷ rs) ≡ (r ∷ (blocks rs).0, (blocks rs).1)
  unfolding blocks
  blocks_under e = rw e

pub blocks_nil : blocks [] ≡ ([], [])
unfolding blocks
blocks_nil = refl

module _ (hit : Row → Bool) where
  first_none : find hit (blocks []).0 ≡ none
  unfolding find
  first_none = rw blocks_nil

  first_stop : (x : Row) (xs : List Row) → is_type_row x ≡ true → find hit (blocks (x ∷ xs)).0 ≡ none
  unfolding find
  first_stop x xs e = rw (blocks_type x xs e)

  first_under : (x : Row) (xs : List Row) → is_type_row x ≡ false → find hit (blocks (x ∷ xs)).0 ≡ choose (hit x) (some x) (find hit (blocks xs).0)
  unfolding find
  first_under x xs e = rw (blocks_under x xs e)

  pub part_none : (i : ℕ) (xs : List Row) → part_from hit i xs ≡ None → find hit (blocks xs).0 ≡ none
  unfolding part_from
  part_none i [] e = first_none
  part_none i (x ∷ xs) e = go (is_type_row x) (hit x) refl refl e (part_none (i + 1) xs)
    where
      go : (a b : Bool) → is_type_row x ≡ a → hit x ≡ b → choose a None (choose b (Some i) (part_from hit (i + 1) xs)) ≡ None →
          (part_from hit (i + 1) xs ≡ None → find hit (blocks xs).0 ≡ none) → find hit (blocks (x ∷ xs)).0 ≡ none
      go true b s t e ih = first_stop x xs s
      go false true s t e ih = never_row e
      go false false s t e ih = first_under x xs s ∙ rw t (ih e)

  pub part_some : (i : ℕ) (xs : List Row) (t : ℕ) → part_from hit i xs ≡ Some t → Hit i xs (find hit (blocks xs).0) t
  unfolding part_from
  part_some i [] t e = never e
  part_some i (x ∷ xs) t e = go (is_type_row x) (hit x) refl refl e (part_some (i + 1) xs t)
    where
      go : (a b : Bool) → is_type_row x ≡ a → hit x ≡ b → choose a None (choose b (Some i) (part_from hit (i + 1) xs)) ≡ Some t →
          (part_from hit (i + 1) xs ≡ Some t → Hit (i + 1) xs (find hit (blocks xs).0) t) → Hit i (x ∷ xs) (find hit (blocks (x ∷ xs)).0) t
      go true b s u e ih = never e
      go false true s u e ih = hit_here i x xs (find hit (blocks (x ∷ xs)).0) t e (first_under x xs s ∙ rw u)
      go false false s u e ih =
          let same : find hit (blocks xs).0 ≡ find hit (blocks (x ∷ xs)).0 = sym (first_under x xs s ∙ rw u) in
          rw same at (hit_later i x xs (find hit (blocks xs).0) t (ih e))

-- A type row with the rows under it, by the place of its row.
abbrev pub block_after : Row → List Row → ℕ → Block
block_after r xs k = record { head = r; parts = (blocks (drop (suc k) xs)).0 }

pub record Owner (i : ℕ) (xs : List Row) (sought : Option Block) (hit : Row → Bool) (part : Place ℕ) (t : ℕ) : Type 0 where
  pub at : ℕ
  pub row : Row
  pub place : t ≡ i + at
  pub held : get_elem? xs at ≡ some row
  pub block : sought ≡ some (block_after row xs at)
  pub under : part ≡ part_from hit (t + 1) (drop (suc at) xs)

module _ (cs : List NamedCard) (n : List ℕ) where
  block_none : find (is_block_named cs n) (blocks []).1 ≡ none
  unfolding find
  block_none = rw blocks_nil

  block_meant : (x : Row) (xs : List Row) → is_type_row_named cs n x ≡ true → find (is_block_named cs n) (blocks (x ∷ xs)).1 ≡ some (block_after x (x ∷ xs) 0)
  unfolding find is_type_row_named is_block_named
  block_meant x xs e = let k = and_true (is_type_row x) (is_row_named cs n x) e in rw (blocks_type x xs k.0, k.1)

  block_other : (x : Row) (xs : List Row) → is_type_row_named cs n x ≡ false →
      find (is_block_named cs n) (blocks (x ∷ xs)).1 ≡ find (is_block_named cs n) (blocks xs).1
  unfolding find is_type_row_named is_block_named
  block_other x xs e = go (is_type_row x) refl
    where
      go : (b : Bool) → is_type_row x ≡ b → find (is_block_named cs n) (blocks (x ∷ xs)).1 ≡ find (is_block_named cs n) (blocks xs).1
      go true t = rw (blocks_type x xs t, and_left_false (is_type_row x) (is_row_named cs n x) t e)
      go false t = rw (blocks_under x xs t)

module _ (cs : List NamedCard) (n : List ℕ) (hit : Row → Bool) where
  pub owner_none : (i : ℕ) (xs : List Row) → (located_from (is_type_row_named cs n) hit i xs).owner ≡ None → find (is_block_named cs n) (blocks xs).1 ≡ none
  unfolding located_from
  owner_none i [] e = block_none cs n
  owner_none i (x ∷ xs) e = go (is_type_row_named cs n x) refl e (owner_none (i + 1) xs)
    where
      go : (b : Bool) → is_type_row_named cs n x ≡ b →
          (choose b (located (Some i) (part_from hit (i + 1) xs)) (located_from (is_type_row_named cs n) hit (i + 1) xs)).owner ≡ None →
          ((located_from (is_type_row_named cs n) hit (i + 1) xs).owner ≡ None → find (is_block_named cs n) (blocks xs).1 ≡ none) →
          find (is_block_named cs n) (blocks (x ∷ xs)).1 ≡ none
      go true s e ih = never_row e
      go false s e ih = block_other cs n x xs s ∙ ih e

  owner_later : (i : ℕ) (x : Row) (xs : List Row) (sought : Option Block) (part : Place ℕ) (t : ℕ) → Owner (i + 1) xs sought hit part t →
      Owner i (x ∷ xs) sought hit part t
  owner_later i x xs sought part t h =
      record { at = suc h.at; row = h.row; place = omega arith; held = h.held; block = h.block; under = h.under }

  pub owner_some : (i : ℕ) (xs : List Row) (t : ℕ) → (located_from (is_type_row_named cs n) hit i xs).owner ≡ Some t →
      Owner i xs (find (is_block_named cs n) (blocks xs).1) hit (located_from (is_type_row_named cs n) hit i xs).part t
  unfolding located_from
  owner_some i [] t e = never e
  owner_some i (x ∷ xs) t e = go (is_type_row_named cs n x) refl e (owner_some (i + 1) xs t)
    where
      go : (b : Bool) → is_type_row_named cs n x ≡ b →
          (choose b (located (Some i) (part_from hit (i + 1) xs)) (located_from (is_type_row_named cs n) hit (i + 1) xs)).owner ≡ Some t →
          ((located_from (is_type_row_named cs n) hit (i + 1) xs).owner ≡ Some t →
          Owner (i + 1) xs (find (is_block_named cs n) (blocks xs).1) hit (located_from (is_type_row_named cs n) hit (i + 1) xs).part t) →
          Owner i (x ∷ xs) (find (is_block_named cs n) (blocks (x ∷ xs)).1) hit
          (choose b (located (Some i) (part_from hit (i + 1) xs)) (located_from (is_type_row_named cs n) hit (i + 1) xs)).part t
      go true s e ih =
          let q : i ≡ t = cc in
          record { at = 0; row = x; place = omega arith; held = refl; block = block_meant cs n x xs s; under = ap (λ (m : ℕ). part_from hit (m + 1) xs) q }
      go false s e ih =
          rw (block_other cs n x xs s) (owner_later i x xs (find (is_block_named cs n) (blocks xs).1) (located_from (is_type_row_named cs n) hit (i + 1) xs).part t
          (ih e))

-- ---- Of lent rows.

module _ (cs : List NamedCard) (rows : List ℕ) (n : List ℕ) where
  pub record TypeAt (t : ℕ) : Type 0 where
    pub inside : t < length rows / 3
    pub block : type_named cs (lent_rows rows) n ≡ some (block_after (row_at rows t) (lent_rows rows) t)

  module _ (hit : Row → Bool) (l : Located) (e : l ≡ located_from (is_type_row_named cs n) hit 0 (lent_rows rows)) where
    pub located_none : l.owner ≡ None → type_named cs (lent_rows rows) n ≡ none
    unfolding type_named
    located_none o = owner_none cs n hit 0 (lent_rows rows) (sym (ap (λ (l : Located). l.owner) e) ∙ o)

    module _ (t : ℕ) (o : l.owner ≡ Some t) where
      owner_at_lem : Owner 0 (lent_rows rows) (find (is_block_named cs n) (blocks (lent_rows rows)).1) hit
          (located_from (is_type_row_named cs n) hit 0 (lent_rows rows)).part t
      owner_at_lem = owner_some cs n hit 0 (lent_rows rows) t (sym (ap (λ (l : Located). l.owner) e) ∙ o)

      owner_place : owner_at_lem.at ≡ t
      owner_place = let q = owner_at_lem.place in omega arith

      owner_inside : t < length rows / 3
      owner_inside =
          let k = get_inside (lent_rows rows) owner_at_lem.at owner_at_lem.row owner_at_lem.held in
          let l = length_rows rows in
          let q = owner_place in
          omega arith

      owner_row_lem : some owner_at_lem.row ≡ some (row_at rows t)
      owner_row_lem = sym owner_at_lem.held ∙ ap (get_elem? (lent_rows rows)) owner_place ∙ row_get rows t owner_inside

      pub located_type : TypeAt t
      unfolding type_named
      located_type = record {
        inside = owner_inside;
        block =
            let r : owner_at_lem.row ≡ row_at rows t = (let q = owner_row_lem in cc) in
            owner_at_lem.block ∙ (λ j. some (block_after (r j) (lent_rows rows) (owner_place j)));
      }

      part_is : l.part ≡ part_from hit (t + 1) (drop (suc t) (lent_rows rows))
      part_is = ap (λ (l : Located). l.part) e ∙ owner_at_lem.under ∙ ap (λ (k : ℕ). part_from hit (t + 1) (drop (suc k) (lent_rows rows))) owner_place

      pub located_no_part : l.part ≡ None → find hit (blocks (drop (suc t) (lent_rows rows))).0 ≡ none
      located_no_part p = part_none hit (t + 1) (drop (suc t) (lent_rows rows)) (sym part_is ∙ p)

      pub located_part : (i : ℕ) → l.part ≡ Some i → Hit 0 (lent_rows rows) (find hit (blocks (drop (suc t) (lent_rows rows))).0) i
      located_part i p =
          let h = part_some hit (t + 1) (drop (suc t) (lent_rows rows)) i (sym part_is ∙ p) in
          record { at = suc t + h.at; row = h.row; place = omega arith; held = sym (get_drop (lent_rows rows) (suc t) h.at) ∙ h.held; first = h.first }

-- ---- Whether a part was found.

module _ (hit : Row → Bool) where
  any_none : any hit (blocks []).0 ≡ false
  unfolding any
  any_none = rw blocks_nil

  any_stop : (x : Row) (xs : List Row) → is_type_row x ≡ true → any hit (blocks (x ∷ xs)).0 ≡ false
  unfolding any
  any_stop x xs e = rw (blocks_type x xs e)

  any_under : (x : Row) (xs : List Row) → is_type_row x ≡ false → any hit (blocks (x ∷ xs)).0 ≡ choose (hit x) true (any hit (blocks xs).0)
  unfolding any
  any_under x xs e = rw (blocks_under x xs e)

  part_found : (i : ℕ) (xs : List Row) → is_some (part_from hit i xs) ≡ any hit (blocks xs).0
  unfolding part_from
  part_found i [] = sym any_none
  part_found i (x ∷ xs) = go (is_type_row x) (hit x) refl refl (part_found (i + 1) xs)
    where
      go : (a b : Bool) → is_type_row x ≡ a → hit x ≡ b → is_some (part_from hit (i + 1) xs) ≡ any hit (blocks xs).0 →
          is_some (choose a None (choose b (Some i) (part_from hit (i + 1) xs))) ≡ any hit (blocks (x ∷ xs)).0
      go true b s t ih = sym (any_stop x xs s)
      go false true s t ih = sym (any_under x xs s ∙ rw t)
      go false false s t ih = ih ∙ sym (any_under x xs s ∙ rw t)

module _ (cs : List NamedCard) (n : List ℕ) (k : ℕ) (m : List ℕ) where
  lists_is : (b : Block) → any (is_part_named cs k m) b.parts ≡ lists cs k m b
  unfolding lists
  lists_is b = refl

  listed_from : (i : ℕ) (xs : List Row) → is_some (located_from (is_type_row_named cs n) (is_part_named cs k m) i xs).part ≡
      found (find (is_block_named cs n) (blocks xs).1) (lists cs k m) false
  unfolding located_from
  listed_from i [] = sym (ap (λ (o : Option Block). found o (lists cs k m) false) (block_none cs n))
  listed_from i (x ∷ xs) = go (is_type_row_named cs n x) refl (listed_from (i + 1) xs)
    where
      go : (b : Bool) → is_type_row_named cs n x ≡ b →
          is_some (located_from (is_type_row_named cs n) (is_part_named cs k m) (i + 1) xs).part
          ≡ found (find (is_block_named cs n) (blocks xs).1) (lists cs k m) false →
          is_some (choose b (located (Some i) (part_from (is_part_named cs k m) (i + 1) xs))
          (located_from (is_type_row_named cs n) (is_part_named cs k m) (i + 1) xs)).part ≡
          found (find (is_block_named cs n) (blocks (x ∷ xs)).1) (lists cs k m) false
      go true s ih =
          part_found (is_part_named cs k m) (i + 1) xs ∙ lists_is (block_after x (x ∷ xs) 0)
          ∙ sym (ap (λ (o : Option Block). found o (lists cs k m) false) (block_meant cs n x xs s))
      go false s ih = ih ∙ sym (ap (λ (o : Option Block). found o (lists cs k m) false) (block_other cs n x xs s))

  pub listed : (rows : List ℕ) (l : Located) → l ≡ located_from (is_type_row_named cs n) (is_part_named cs k m) 0 (lent_rows rows) →
      is_some l.part ≡ found (type_named cs (lent_rows rows) n) (lists cs k m) false
  unfolding type_named
  listed rows l e = ap (λ (l : Located). is_some l.part) e ∙ listed_from 0 (lent_rows rows)
