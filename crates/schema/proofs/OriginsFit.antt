-- The lists of origins and of extensions fit: of rows that 26 does not refuse at most 2,300 have a card, and the others among the schema definition's
-- parts are default roots, of which there are at most three.
use mathlib.Core.Path.{◌≡◌, refl, sym, ◌∙◌, ap}
use mathlib.Core.List.{List, [], ◌∷◌}
use mathlib.Core.Bool.{Bool, true, false, ◌&&◌, ◌||◌, not}
use Prim.Native.Nat.{ℕ, suc, ◌+◌, ◌-◌, ◌≤◌}
use native.Mathlib.Omega.{arith}
use borrow.Author.Tests.{eq-eqb, eqb-true, eqb-false, leb-true}
use lib.Dec.{eqb, leb, ltb}
use lib.ListN.{length, length-map}
use Rattle.definition.specs.Lists.{any, choose, filter, All}
use Rattle.definition.specs.Answers.{absent}
use Rattle.definition.specs.Cards.{is_root, place_in}
use Rattle.definition.specs.Headings.{NamedCard}
use Rattle.definition.specs.Catalogue.{Row}
use Rattle.definition.specs.Refusals.{card_capacity}
use Rattle.definition.specs.Store.{account_in, sound}
use Rattle.definition.specs.LentRows.{lent_rows, is_type_row, is_default_root, row_order, in_order, order_passes, card_passes, rows_refusal}
use Rattle.definition.specs.Lookups.{blocks, is_row_of, is_schema_part, origin_of, origin_list, is_card, extension_list}
use Rattle.store_reader.specs.Stored.{stored_parts}
use Rattle.definition.proofs.Lists.{filter_yes, filter_no}
use Rattle.definition.proofs.Sums.{sum_filter, sum_one, length_kept}
use Rattle.definition.proofs.Tests.{and_true}
use Rattle.store_reader.proofs.Lists.{chosen_true}
use Rattle.schema_rows.specs.Passing.{row_passes}
use Rattle.schema_rows.proofs.Passing.{row_passed, default_root_lem}
use Rattle.schema_rows.proofs.Rows.{contradiction}
use Rattle.schema_rows.proofs.RowsWithCards.{cards_of, cards_without, cards_with, accepted, cards_capacity}
use Rattle.schema_rows.proofs.SearchLaws.{blocks_type, blocks_under, blocks_nil}
use Rattle.schema.proofs.RootsLaws.{root_range}

-- ---- Roots.

unfoldable is_root_row : Row → Bool
is_root_row r = is_root r.what

module _ (w : ℕ) where
  schema_26 : w ≡ 26 → 1 ≡ place_in (row_order 4) w
  unfolding place_in row_order any
  schema_26 e = rw e

  schema_27 : w ≡ 27 → 2 ≡ place_in (row_order 4) w
  unfolding place_in row_order any
  schema_27 e = rw e

  schema_28 : w ≡ 28 → 3 ≡ place_in (row_order 4) w
  unfolding place_in row_order any
  schema_28 e = rw e

root_place : (w : ℕ) → is_root w ≡ true → (1 ≤ place_in (row_order 4) w) × (place_in (row_order 4) w ≤ 3)
root_place w e = go (eqb w 26) (eqb w 27) refl refl
  where
    go : (a b : Bool) → eqb w 26 ≡ a → eqb w 27 ≡ b → (1 ≤ place_in (row_order 4) w) × (place_in (row_order 4) w ≤ 3)
    go true b s t = let q = schema_26 w (eqb-true w 26 s) in (omega arith, omega arith)
    go false true s t = let q = schema_27 w (eqb-true w 27 t) in (omega arith, omega arith)
    go false false s t =
        let m = eqb-false w 26 s in
        let n = eqb-false w 27 t in
        let r = root_range w e in
        let q = schema_28 w (omega arith) in
        (omega arith, omega arith)

-- A row that is no type row and keeps the order under the row 4.
pub record Follows (p : ℕ) (r : Row) (rs : List Row) : Type 0 where
  pub least : p ≤ place_in (row_order 4) r.what
  pub root : is_root r.what ≡ true → p ≡ place_in (row_order 4) r.what → ⊥
  pub next : in_order 4 (place_in (row_order 4) r.what) rs ≡ true

follows : (p : ℕ) (r : Row) (rs : List Row) → is_type_row r ≡ false → in_order 4 p (r ∷ rs) ≡ true → Follows p r rs
unfolding in_order
follows p r rs t e =
    let q = place_in (row_order 4) r.what in
    let f : choose (ltb q (length (row_order 4)) && leb p q && not (is_root r.what && eqb p q)) (in_order 4 q rs) false ≡ true = rw t at e in
    let c = chosen_true (ltb q (length (row_order 4)) && leb p q && not (is_root r.what && eqb p q)) (in_order 4 q rs) f in
    let b = three (ltb q (length (row_order 4))) (leb p q) (not (is_root r.what && eqb p q)) c.0 in
    record {
      least = leb-true p q b.0;
      root = λ s u. absurd (
          let z : not (is_root r.what && eqb p q) ≡ false = rw (s, eq-eqb p q u) in
          let y : false ≡ true = sym z ∙ b.1 in
          let x : ◌≡◌ {A = ℕ} 0 1 = cc in
          omega arith);
      next = c.1;
    }
  where
    three : (a b c : Bool) → (a && b && c) ≡ true → (b ≡ true) × (c ≡ true)
    three true true true e = (refl, refl)
    three true true false e = (refl, e)
    three true false c e = (e, contradiction (true && false && c) refl e)
    three false b c e = contradiction (false && b && c) refl e

-- How many rows before the first type row pass a test.
count : (Row → Bool) → List Row → ℕ
count p rs = length (filter p (blocks rs).0)

module _ (p : Row → Bool) where
  count_none : count p [] ≡ 0
  unfolding count filter
  count_none = rw blocks_nil

  module _ (r : Row) (rs : List Row) where
    count_type : is_type_row r ≡ true → count p (r ∷ rs) ≡ 0
    unfolding count filter
    count_type e = rw (blocks_type r rs e)

    count_yes : is_type_row r ≡ false → p r ≡ true → count p (r ∷ rs) ≡ suc (count p rs)
    unfolding count
    count_yes e f =
        ap (λ (l : List Row). length (filter p l)) (ap (λ (b : List Row × List _). b.0) (blocks_under r rs e)) ∙ ap length (filter_yes p r (blocks rs).0 f)

    count_no : is_type_row r ≡ false → p r ≡ false → count p (r ∷ rs) ≡ count p rs
    unfolding count
    count_no e f =
        ap (λ (l : List Row). length (filter p l)) (ap (λ (b : List Row × List _). b.0) (blocks_under r rs e)) ∙ ap length (filter_no p r (blocks rs).0 f)

roots_few : (p : ℕ) (rs : List Row) → in_order 4 p rs ≡ true → count is_root_row rs ≤ 3 - p
unfolding is_root_row
roots_few p [] e = let c = count_none is_root_row in omega arith
roots_few p (r ∷ rs) e = go (is_type_row r) (is_root r.what) refl refl (roots_few (place_in (row_order 4) r.what) rs)
  where
    go : (a b : Bool) → is_type_row r ≡ a → is_root r.what ≡ b →
        (in_order 4 (place_in (row_order 4) r.what) rs ≡ true → count is_root_row rs ≤ 3 - place_in (row_order 4) r.what) → count is_root_row (r ∷ rs) ≤ 3 - p
    go true b s t later = let c = count_type is_root_row r rs s in omega arith
    go false true s t later =
        let f = follows p r rs s e in
        let c = count_yes is_root_row r rs s t in
        let q = root_place r.what t in
        let n = f.root t in
        let ih = later f.next in
        let l = f.least in
        omega arith
    go false false s t later =
        let f = follows p r rs s e in
        let c = count_no is_root_row r rs s t in
        let ih = later f.next in
        let l = f.least in
        omega arith

-- ---- Parts of the schema definition.

module _ (cs : List NamedCard) (whole : List Row) where
  without_card : (r : Row) → row_passes cs whole r ≡ true → r.card ≡ absent → is_schema_part r ≡ true → is_root r.what ≡ true
  unfolding card_passes is_schema_part is_row_of is_root
  without_card r e a s = go (eqb r.what 4) refl
    where
      passed : (eqb r.what 4 || is_default_root r) ≡ true
      passed = rw (eq-eqb r.card absent a) at (row_passed cs whole r e)

      go : (b : Bool) → eqb r.what 4 ≡ b → is_root r.what ≡ true
      go true t =
          let q : r.what ≡ 4 = eqb-true r.what 4 t in
          let z : false ≡ true = rw q at s in
          contradiction false refl z
      go false t = default_root_lem r.what r.card r.origin (rw t at passed)

  parts_few : (rs : List Row) → All (λ r. row_passes cs whole r ≡ true) rs → count is_schema_part rs ≤ length (cards_of rs) + count is_root_row rs
  parts_few [] a = let c = count_none is_schema_part in omega arith
  parts_few (r ∷ rs) a = go (is_type_row r) (is_schema_part r) (eqb r.card absent) (is_root_row r) refl refl refl refl (parts_few rs a.1)
    where
      shorter : length (cards_of rs) ≤ length (cards_of (r ∷ rs))
      shorter = cut (eqb r.card absent) refl
        where
          cut : (b : Bool) → eqb r.card absent ≡ b → length (cards_of rs) ≤ length (cards_of (r ∷ rs))
          cut true s = let k = ap length (cards_without r rs (eqb-true r.card absent s)) in omega arith
          cut false s = let k = ap length (cards_with r rs (eqb-false r.card absent s)) in omega arith

      more : is_type_row r ≡ false → count is_root_row rs ≤ count is_root_row (r ∷ rs)
      more t = cut (is_root_row r) refl
        where
          cut : (b : Bool) → is_root_row r ≡ b → count is_root_row rs ≤ count is_root_row (r ∷ rs)
          cut true s = let k = count_yes is_root_row r rs t s in omega arith
          cut false s = let k = count_no is_root_row r rs t s in omega arith

      is_root_lem : is_root r.what ≡ true → is_root_row r ≡ true
      is_root_lem e = unfold is_root_row in e

      go : (a b c d : Bool) → is_type_row r ≡ a → is_schema_part r ≡ b → eqb r.card absent ≡ c → is_root_row r ≡ d →
          count is_schema_part rs ≤ length (cards_of rs) + count is_root_row rs →
          count is_schema_part (r ∷ rs) ≤ length (cards_of (r ∷ rs)) + count is_root_row (r ∷ rs)
      go true b c d s t u v ih = let k = count_type is_schema_part r rs s in omega arith
      go false false c d s t u v ih = let k = count_no is_schema_part r rs s t in let l = shorter in let m = more s in omega arith
      go false true true d s t u v ih =
          let k = count_yes is_schema_part r rs s t in
          let w = is_root_lem (without_card r a.0 (eqb-true r.card absent u) t) in
          let m = count_yes is_root_row r rs s w in
          let l = shorter in
          omega arith
      go false true false d s t u v ih =
          let k = count_yes is_schema_part r rs s t in
          let l = ap length (cards_with r rs (eqb-false r.card absent u)) in
          let m = more s in
          omega arith

-- ---- The lists.

origins_count : (rs : List Row) → length (origin_list rs) ≡ count is_schema_part rs
unfolding origin_list count
origins_count rs = length-map (filter is_schema_part (blocks rs).0) origin_of

extensions_fewer : (rs : List Row) → length (extension_list rs) ≤ length (origin_list rs)
unfolding extension_list
extensions_fewer rs =
    let os = origin_list rs in
    let cs = filter is_card os in
    omega (arith, length_kept eqb [] cs, sum_filter (λ (n : ℕ). 1) is_card os, sum_one cs, sum_one os)

-- The row 4 is no part of the schema definition.
first_row : (rs : List Row) → order_passes [] rs ≡ true → count is_root_row rs ≤ 3
unfolding order_passes
first_row [] e = contradiction false refl e
first_row (r ∷ rs) e = go (is_type_row r) refl
  where
    w : r.what ≡ 4
    w = eqb-true r.what 4 (and_true (eqb r.what 4) (in_order 4 0 rs) e).0

    none : is_root_row r ≡ false
    none = unfold is_root_row is_root in rw w

    go : (b : Bool) → is_type_row r ≡ b → count is_root_row (r ∷ rs) ≤ 3
    go true s = let k = count_type is_root_row r rs s in omega arith
    go false s =
        let k = count_no is_root_row r rs s none in
        let ih = roots_few 0 rs (and_true (eqb r.what 4) (in_order 4 0 rs) e).1 in
        omega arith

module _ (text words rows : List ℕ) (ok : sound text words ≡ true) (e : rows_refusal (account_in text words).documents rows ≡ 0) where
  pub origins_fit : length (origin_list (lent_rows rows)) ≤ card_capacity + 3
  origins_fit =
      let a = accepted text words rows ok e in
      let b = cards_capacity text words rows ok a in
      let c = parts_few (stored_parts text words) (lent_rows rows) (lent_rows rows) a.each in
      let d = first_row (lent_rows rows) a.ordered in
      let k = origins_count (lent_rows rows) in
      omega arith

  pub extensions_fit : length (extension_list (lent_rows rows)) ≤ card_capacity + 3
  extensions_fit = let a = extensions_fewer (lent_rows rows) in let b = origins_fit in omega arith
