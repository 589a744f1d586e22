-- A row by its number, and searches over rows: what each turn of a loop uses.
use mathlib.Core.Path.{◌≡◌, refl, sym, ◌∙◌, ap}
use mathlib.Core.List.{List, [], ◌∷◌, ◌++◌}
use mathlib.Core.Bool.{Bool, true, false}
use mathlib.Core.Option.{Option, none, some}
use Prim.Native.Nat.{ℕ, suc, ◌+◌, ◌*◌, ◌/◌, ◌≤◌, ◌<◌, zero}
use native.Mathlib.Omega.{arith}
use lib.ListN.{length, drop, get_or, get_elem?, drop_of_length-le, take}
use lib.Seq.{get_or-drop}
use Rattle.definition.specs.Lists.{choose, find}
use lib.Dec.{leb}
use borrow.Author.Tests.{eq-eqb, ne_eqb, leb-true}
use Rattle.definition.specs.Names.{same_name, bytes}
use Rattle.definition.specs.Cards.{is_root}
use Rattle.definition.specs.Catalogue.{Row, row, default_name}
use Rattle.definition.specs.LentRows.{lent_row, lent_rows, is_row_named}
use Rattle.store_reader.specs.Stored.{stored_parts, card_name}
use Rattle.definition.proofs.Tests.{and_true}
use Rattle.store_reader.proofs.Lists.{length_chunks, chunk_at, drop_get, get_inside}
use Rattle.store_reader.proofs.Words.{name_stored}
use Rattle.schema_rows.specs.Rows.{row_at, found_from}
use Rattle.std.specs.Prelude.{Option as Place, Some, None, MatchOption, IfSome}
use native.Mathlib.Numerals.{add-one}

-- ---- A row by its number.

pub length_rows : (rows : List ℕ) → length (lent_rows rows) ≡ length rows / 3
unfolding lent_rows
length_rows rows = length_chunks 3 lent_row (length rows / 3) rows

module _ (rows : List ℕ) (i : ℕ) where
  lent_at : lent_row (drop (3 * i) rows) ≡ row_at rows i
  unfolding lent_row
  lent_at =
      let z : 3 * i + 0 ≡ 3 * i = omega arith in
      λ j. row ((get_or-drop (3 * i) rows 0 0 ∙ ap (λ (m : ℕ). get_or rows m 0) z) j) (get_or-drop (3 * i) rows 1 0 j) (get_or-drop (3 * i) rows 2 0 j)

  pub row_get : i < length rows / 3 → get_elem? (lent_rows rows) i ≡ some (row_at rows i)
  unfolding lent_rows
  row_get h = chunk_at 3 lent_row (length rows / 3) rows i h ∙ ap some lent_at

  pub row_next : i < length rows / 3 → drop i (lent_rows rows) ≡ row_at rows i ∷ drop (i + 1) (lent_rows rows)
  row_next h = drop_get (lent_rows rows) i (row_at rows i) (row_get h)

  pub row_end : length rows / 3 ≤ i → drop i (lent_rows rows) ≡ []
  row_end h = drop_of_length-le (lent_rows rows) {i = i} (let l = length_rows rows in omega arith)

-- The rows before the next one.
pub taken_next : (rows : List ℕ) (i : ℕ) → i < length rows / 3 → take (i + 1) (lent_rows rows) ≡ take i (lent_rows rows) ++ (row_at rows i ∷ [])
taken_next rows i h = take_get (lent_rows rows) i (row_at rows i) (row_get rows i h)
  where
    take_get : (xs : List Row) (i : ℕ) (x : Row) → get_elem? xs i ≡ some x → take (i + 1) xs ≡ take i xs ++ (x ∷ [])
    take_get xs i x e = rw add-one (go xs i e)
      where
        go : (xs : List Row) (i : ℕ) → get_elem? xs i ≡ some x → take (suc i) xs ≡ take i xs ++ (x ∷ [])
        go [] i e = absurd (let z : ◌≡◌ {A = ℕ} 0 1 = cc in omega arith)
        go (y ∷ xs) zero e = let q : y ≡ x = cc in ap (λ (y : Row). y ∷ []) q
        go (y ∷ xs) (suc i) e = ap (λ (l : List Row). y ∷ l) (go xs i e)

-- ---- A search.

module _ (p : Row → Bool) (rows : List ℕ) (i : ℕ) where
  pub found_hit : i < length rows / 3 → p (row_at rows i) ≡ true → found_from p i (drop i (lent_rows rows)) ≡ Some i
  unfolding found_from
  found_hit h e = rw (row_next rows i h, e)

  pub found_miss : i < length rows / 3 → p (row_at rows i) ≡ false → found_from p i (drop i (lent_rows rows)) ≡ found_from p (i + 1) (drop (i + 1) (lent_rows rows))
  unfolding found_from
  found_miss h e = rw (row_next rows i h, e)

  pub found_end : length rows / 3 ≤ i → found_from p i (drop i (lent_rows rows)) ≡ None
  unfolding found_from
  found_end h = rw (row_end rows i h)

-- What a search over the numbers of rows found.
module _ (p : Row → Bool) (rows : List ℕ) where
  missed : (n : ℕ) → n ≤ length rows / 3 → ((k : ℕ) → k < n → p (row_at rows k) ≡ false) →
      found_from p 0 (lent_rows rows) ≡ found_from p n (drop n (lent_rows rows))
  missed zero h f = refl
  missed (suc n) h f =
      let next : n + 1 ≡ suc n = omega arith in
      missed n (omega arith) (λ k l. f k (omega arith))
      ∙ found_miss p rows n (omega arith) (f n (omega arith))
      ∙ ap (λ (m : ℕ). found_from p m (drop m (lent_rows rows))) next

  pub first_found : (r : Place ℕ) (n : ℕ) → n ≡ length rows / 3 → MatchOption r ((k : ℕ) → 0 ≤ k → k < n → p (row_at rows k) ≡ false)
      (λ i. (0 ≤ i) × (i < n) × (p (row_at rows i) ≡ true) × ((k : ℕ) → 0 ≤ k → k < i → p (row_at rows k) ≡ false)) →
      r ≡ found_from p 0 (lent_rows rows)
  first_found None n e f = sym (missed n (omega arith) (λ k l. f k (omega arith) l) ∙ found_end p rows n (omega arith))
  first_found (Some i) n e f =
      let h : i < length rows / 3 = (let g = f.1 in omega arith) in
      sym (missed i (omega arith) (λ k l. f.3 k (omega arith) l) ∙ found_hit p rows i h f.2)

-- ---- What was found is the first row that passes.

-- The element at a place of a list, counted from i on, and that it is what a search gives.
pub record Hit (i : ℕ) (xs : List Row) (sought : Option Row) (t : ℕ) : Type 0 where
  pub at : ℕ
  pub row : Row
  pub place : t ≡ i + at
  pub held : get_elem? xs at ≡ some row
  pub first : sought ≡ some row

pub hit_here : (i : ℕ) (x : Row) (xs : List Row) (sought : Option Row) (t : ℕ) → Some i ≡ Some t → sought ≡ some x → Hit i (x ∷ xs) sought t
hit_here i x xs sought t e f = record { at = 0; row = x; place = (let q : i ≡ t = cc in omega arith); held = refl; first = f }

pub hit_later : (i : ℕ) (x : Row) (xs : List Row) (sought : Option Row) (t : ℕ) → Hit (i + 1) xs sought t → Hit i (x ∷ xs) sought t
hit_later i x xs sought t h = record { at = suc h.at; row = h.row; place = omega arith; held = h.held; first = h.first }

pub never : {A : Type 0} {t : ℕ} → None ≡ Some t → A
never e = absurd (let z : ◌≡◌ {A = ℕ} 0 1 = cc in omega arith)

pub never_row : {A : Type 0} {t : ℕ} → Some t ≡ None → A
never_row e = absurd (let z : ◌≡◌ {A = ℕ} 0 1 = cc in omega arith)

pub contradiction : {A : Type 0} (b : Bool) → false ≡ b → b ≡ true → A
contradiction b e f = let z : false ≡ true = e ∙ f in absurd (let y : ◌≡◌ {A = ℕ} 0 1 = cc in omega arith)

module _ (p : Row → Bool) where
  pub found_none : (i : ℕ) (xs : List Row) → found_from p i xs ≡ None → find p xs ≡ none
  unfolding found_from find
  found_none i [] e = refl
  found_none i (x ∷ xs) e = go (p x) e (found_none (i + 1) xs)
    where
      go : (b : Bool) → choose b (Some i) (found_from p (i + 1) xs) ≡ None → (found_from p (i + 1) xs ≡ None → find p xs ≡ none) →
          choose b (some x) (find p xs) ≡ none
      go true e ih = never_row e
      go false e ih = ih e

  pub found_some : (i : ℕ) (xs : List Row) (t : ℕ) → found_from p i xs ≡ Some t → Hit i xs (find p xs) t
  unfolding found_from find
  found_some i [] t e = never e
  found_some i (x ∷ xs) t e = go (p x) e (found_some (i + 1) xs t)
    where
      go : (b : Bool) → choose b (Some i) (found_from p (i + 1) xs) ≡ Some t → (found_from p (i + 1) xs ≡ Some t → Hit (i + 1) xs (find p xs) t) →
          Hit i (x ∷ xs) (choose b (some x) (find p xs)) t
      go true e ih = hit_here i x xs (some x) t e refl
      go false e ih = hit_later i x xs (find p xs) t (ih e)

-- Of lent rows: the row is the one of its number.
module _ (rows : List ℕ) (sought : Option Row) (t : ℕ) (h : Hit 0 (lent_rows rows) sought t) where
  placed : h.at ≡ t
  placed = omega arith

  pub hit_inside : t < length rows / 3
  hit_inside =
      let k = get_inside (lent_rows rows) h.at h.row h.held in
      let l = length_rows rows in
      let q = placed in
      omega arith

  pub hit_row : sought ≡ some (row_at rows t)
  hit_row = h.first ∙ sym h.held ∙ ap (get_elem? (lent_rows rows)) placed ∙ row_get rows t hit_inside

pub found_inside : (p : Row → Bool) (rows : List ℕ) (r : Place ℕ) → r ≡ found_from p 0 (lent_rows rows) → IfSome r (λ i. i < length rows / 3)
found_inside p rows None e = tt
found_inside p rows (Some i) e = hit_inside rows _ i (found_some p 0 (lent_rows rows) i (sym e))

-- ---- A row of a name, by its words: the origin is not asked.

module _ (text words : List ℕ) (name : List ℕ) (what card origin : ℕ) where
  pub row_named : is_row_named (stored_parts text words) name (row what card origin) ≡ same_name name (card_name text words card)
  unfolding is_row_named
  row_named = ap (same_name name) (name_stored text words card)

-- ---- The names of default roots.

module _ (what : ℕ) where
  pub default_query : what ≡ 26 → bytes "Query" ≡ default_name what
  unfolding default_name
  default_query e = rw (eq-eqb what 26 e)

  pub default_mutation : what ≡ 27 → bytes "Mutation" ≡ default_name what
  unfolding default_name
  default_mutation e = rw (ne_eqb what 26 (omega arith), eq-eqb what 27 e)

  pub default_subscription : is_root what ≡ true → (what ≡ 26 → ⊥) → (what ≡ 27 → ⊥) → bytes "Subscription" ≡ default_name what
  unfolding default_name is_root
  default_subscription r a b =
      let k = and_true (leb 26 what) (leb what 28) r in
      let l : 26 ≤ what = leb-true 26 what k.0 in
      let m : what ≤ 28 = leb-true what 28 k.1 in
      rw (ne_eqb what 26 a, ne_eqb what 27 b, eq-eqb what 28 (omega arith))
