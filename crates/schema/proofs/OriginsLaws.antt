-- The origins of the schema definition's parts: the rows before the first type row, and the turns of the walks over them.
use mathlib.Core.Path.{◌≡◌, refl, sym, ◌∙◌, ap}
use mathlib.Core.List.{List, [], ◌∷◌, ◌++◌, map}
use mathlib.Core.Bool.{Bool, true, false, ◌&&◌, ◌||◌, not}
use Prim.Native.Nat.{ℕ, zero, suc, ◌+◌, ◌*◌, ◌/◌, ◌≤◌, ◌<◌}
use native.Mathlib.Omega.{arith}
use borrow.Author.Tests.{eq-eqb, ne_eqb, eqb-true, eqb-false}
use lib.Dec.{eqb}
use lib.ListN.{length, take, drop, length-drop}
use lib.Seq.{take-length, length-take-le}
use Rattle.std.proofs.lemmas.List.{get_or-take, drop-take}
use Rattle.definition.specs.Lists.{choose, chunks, filter, any, firsts}
use Rattle.definition.specs.Answers.{absent}
use Rattle.definition.specs.Catalogue.{Row, row}
use Rattle.definition.specs.LentRows.{lent_row, lent_rows, is_type_row}
use Rattle.definition.specs.Lookups.{blocks, is_schema_part, origin_of, origin_list, is_card, extension_list}
use Rattle.std.specs.List.{list_any}
use Rattle.schema_rows.specs.Rows.{row_at, found_from}
use Rattle.std.specs.Prelude.{Option as Place, Some, None}
use Rattle.std.specs.Option.{unwrap_or}
use Rattle.schema_rows.proofs.Rows.{length_rows, found_some, found_inside, never, never_row}
use Rattle.schema.proofs.Groups.{filter_end, filter_here, filter_over}
use Rattle.schema.specs.Extensions.{is_new}
use Rattle.schema_rows.proofs.SearchLaws.{blocks_type, blocks_under, blocks_nil}

-- ---- The rows before the first type row.

chunks_taken : (k n : ℕ) (ws : List ℕ) → k ≤ n → 3 * n ≤ length ws → chunks 3 lent_row k (take (3 * k) ws) ≡ take k (chunks 3 lent_row n ws)
unfolding chunks lent_row
chunks_taken zero n ws h l = refl
chunks_taken (suc k) zero ws h l = absurd (omega arith)
chunks_taken (suc k) (suc n) ws h l =
    λ j. head j ∷ (ap (chunks 3 lent_row k) tail ∙ chunks_taken k n (drop 3 ws) (omega arith) (omega (arith, length-drop 3 ws))) j
  where
    head : lent_row (take (3 * suc k) ws) ≡ lent_row ws
    head = λ j. row (get_or-take (3 * suc k) ws 0 0 (omega arith) j) (get_or-take (3 * suc k) ws 1 0 (omega arith) j) (get_or-take (3 * suc k) ws 2 0 (omega arith) j)

    tail : drop 3 (take (3 * suc k) ws) ≡ take (3 * k) (drop 3 ws)
    tail = let z : 3 * suc k ≡ 3 + 3 * k = omega arith in ap (λ (m : ℕ). drop 3 (take m ws)) z ∙ drop-take 3 (3 * k) ws

rows_taken : (k : ℕ) (ws : List ℕ) → k ≤ length ws / 3 → lent_rows (take (3 * k) ws) ≡ take k (lent_rows ws)
unfolding lent_rows
rows_taken k ws h =
    let z : length (take (3 * k) ws) / 3 ≡ k = omega (arith, length-take-le (3 * k) ws (omega arith)) in
    ap (λ (m : ℕ). chunks 3 lent_row m (take (3 * k) ws)) z ∙ chunks_taken k (length ws / 3) ws h (omega arith)

block_before : (i : ℕ) (xs : List Row) (t m : ℕ) → found_from is_type_row i xs ≡ Some t → t ≡ i + m → take m xs ≡ (blocks xs).0
unfolding found_from
block_before i [] t m e h = never e
block_before i (x ∷ xs) t m e h = go (is_type_row x) refl e (block_before (i + 1) xs t)
  where
    go : (b : Bool) → is_type_row x ≡ b → choose b (Some i) (found_from is_type_row (i + 1) xs) ≡ Some t →
        ((m : ℕ) → found_from is_type_row (i + 1) xs ≡ Some t → t ≡ i + 1 + m → take m xs ≡ (blocks xs).0) → take m (x ∷ xs) ≡ (blocks (x ∷ xs)).0
    go true s e ih =
        let q : i ≡ t = cc in
        let z : m ≡ 0 = omega arith in
        rw (z, blocks_type x xs s)
    go false s e ih = later m h
      where
        later : (m : ℕ) → t ≡ i + m → take m (x ∷ xs) ≡ (blocks (x ∷ xs)).0
        later zero h = absurd (let k = (found_some is_type_row (i + 1) xs t e).place in omega arith)
        later (suc m) h = rw (blocks_under x xs s) (ap (λ (l : List Row). x ∷ l) (ih m e (omega arith)))

block_all : (i : ℕ) (xs : List Row) → found_from is_type_row i xs ≡ None → xs ≡ (blocks xs).0
unfolding found_from
block_all i [] e = rw blocks_nil
block_all i (x ∷ xs) e = go (is_type_row x) refl e (block_all (i + 1) xs)
  where
    go : (b : Bool) → is_type_row x ≡ b → choose b (Some i) (found_from is_type_row (i + 1) xs) ≡ None →
        (found_from is_type_row (i + 1) xs ≡ None → xs ≡ (blocks xs).0) → x ∷ xs ≡ (blocks (x ∷ xs)).0
    go true s e ih = never_row e
    go false s e ih = rw (blocks_under x xs s) (ap (λ (l : List Row). x ∷ l) (ih e))

module _ (rows : List ℕ) where
  pub block_fits : (f : Place ℕ) → f ≡ found_from is_type_row 0 (lent_rows rows) → 3 * unwrap_or f (length rows / 3) ≤ length rows
  block_fits None e = omega arith
  block_fits (Some t) e = let h : t < length rows / 3 = found_inside is_type_row rows (Some t) e in omega arith

  pub block_rows : (f : Place ℕ) → f ≡ found_from is_type_row 0 (lent_rows rows) →
      lent_rows (take (3 * unwrap_or f (length rows / 3)) rows) ≡ (blocks (lent_rows rows)).0
  block_rows None e =
      rows_taken (length rows / 3) rows (omega arith)
      ∙ ap (λ (k : ℕ). take k (lent_rows rows)) (sym (length_rows rows))
      ∙ take-length (lent_rows rows)
      ∙ block_all 0 (lent_rows rows) (sym e)
  block_rows (Some t) e =
      let h : t < length rows / 3 = found_inside is_type_row rows (Some t) e in
      rows_taken t rows (omega arith) ∙ block_before 0 (lent_rows rows) t t (sym e) (omega arith)

-- ---- The origins of the parts from a row on.

unfoldable pub origins_left : List ℕ → ℕ → List ℕ
origins_left rows i = map origin_of (filter is_schema_part (drop i (lent_rows rows)))

module _ (rows : List ℕ) where
  pub left_start : (rs : List Row) → lent_rows rows ≡ (blocks rs).0 → origins_left rows 0 ≡ origin_list rs
  unfolding origins_left origin_list
  left_start rs e = ap (λ (l : List Row). map origin_of (filter is_schema_part l)) e

  module _ (i : ℕ) where
    pub left_end : length rows / 3 ≤ i → origins_left rows i ≡ []
    unfolding origins_left
    left_end h = ap (map origin_of) (filter_end is_schema_part rows i h)

    pub left_here : i < length rows / 3 → (r : Row) → r ≡ row_at rows i → is_schema_part r ≡ true → origins_left rows i ≡ r.origin ∷ origins_left rows (i + 1)
    unfolding origins_left origin_of
    left_here h r e t = rw e (ap (map origin_of) (filter_here is_schema_part rows i h (rw e at t)))

    pub left_over : i < length rows / 3 → (r : Row) → r ≡ row_at rows i → is_schema_part r ≡ false → origins_left rows i ≡ origins_left rows (i + 1)
    unfolding origins_left
    left_over h r e t = ap (map origin_of) (filter_over is_schema_part rows i h (rw e at t))

-- ---- A word among words, as std's `contains` tells it.

pub among : (x : ℕ) (xs : List ℕ) → list_any (λ y. eqb y x) xs ≡ any (eqb x) xs
unfolding any
among x [] = refl
among x (y ∷ ys) = go (eqb y x) refl (among x ys)
  where
    go : (b : Bool) → eqb y x ≡ b → list_any (λ y. eqb y x) ys ≡ any (eqb x) ys → (b || list_any (λ y. eqb y x) ys) ≡ choose (eqb x y) true (any (eqb x) ys)
    go true t ih = rw (eq-eqb x y (sym (eqb-true y x t)))
    go false t ih = rw (ne_eqb x y (λ q. eqb-false y x t (sym q))) ih

-- ---- A turn of the walk that keeps each extension once.

module _ (seen : List ℕ) (origin : ℕ) where
  pub new_told : (origin ≡ absent → ⊥) → not (any (eqb origin) seen) ≡ is_new seen origin
  unfolding is_new is_card
  new_told e = rw (ne_eqb origin absent e)

  module _ (rest : List ℕ) where
    left_out : is_new seen origin ≡ false → firsts eqb seen (filter is_card (origin ∷ rest)) ≡ firsts eqb seen (filter is_card rest)
    unfolding filter firsts is_new
    left_out e = go (is_card origin) (any (eqb origin) seen) refl refl e
      where
        go : (a b : Bool) → is_card origin ≡ a → any (eqb origin) seen ≡ b → (a && not b) ≡ false →
            firsts eqb seen (choose a (origin ∷ filter is_card rest) (filter is_card rest)) ≡ firsts eqb seen (filter is_card rest)
        go false b s t e = refl
        go true true s t e = rw t
        go true false s t e = absurd (let z : true ≡ false = e in let y : ◌≡◌ {A = ℕ} 0 1 = cc in omega arith)

    taken_in : is_new seen origin ≡ true → firsts eqb seen (filter is_card (origin ∷ rest)) ≡ origin ∷ firsts eqb (seen ++ (origin ∷ [])) (filter is_card rest)
    unfolding filter firsts is_new
    taken_in e = go (is_card origin) (any (eqb origin) seen) refl refl e
      where
        go : (a b : Bool) → is_card origin ≡ a → any (eqb origin) seen ≡ b → (a && not b) ≡ true →
            firsts eqb seen (choose a (origin ∷ filter is_card rest) (filter is_card rest)) ≡ origin ∷ firsts eqb (seen ++ (origin ∷ [])) (filter is_card rest)
        go true false s t e = rw t
        go true true s t e = absurd (let z : true ≡ false = sym e in let y : ◌≡◌ {A = ℕ} 0 1 = cc in omega arith)
        go false b s t e = absurd (let z : true ≡ false = sym e in let y : ◌≡◌ {A = ℕ} 0 1 = cc in omega arith)

-- What is left to list where the next origin is one of the extensions, and where it is none.
module _ (seen os more : List ℕ) (origin : ℕ) (e : os ≡ origin ∷ more) where
  pub extension_here : is_new seen origin ≡ true → firsts eqb seen (filter is_card os) ≡ origin ∷ firsts eqb (seen ++ (origin ∷ [])) (filter is_card more)
  extension_here n = ap (λ (l : List ℕ). firsts eqb seen (filter is_card l)) e ∙ taken_in seen origin more n

  pub extension_over : is_new seen origin ≡ false → firsts eqb seen (filter is_card os) ≡ firsts eqb seen (filter is_card more)
  extension_over n = ap (λ (l : List ℕ). firsts eqb seen (filter is_card l)) e ∙ left_out seen origin more n

pub extension_start : (rs : List Row) (os : List ℕ) → os ≡ origin_list rs → extension_list rs ≡ firsts eqb [] (filter is_card os)
unfolding extension_list
extension_start rs os e = ap (λ (l : List ℕ). firsts eqb [] (filter is_card l)) (sym e)

pub firsts_none : (seen : List ℕ) (origins : List ℕ) → origins ≡ [] → firsts eqb seen (filter is_card origins) ≡ []
unfolding firsts filter
firsts_none seen origins e = rw e
