-- Pushing rows: what was written, how pushes join, and which rows then stand from a place on.
use mathlib.Core.Path.{◌≡◌, refl, sym, ap, ◌∙◌}
use mathlib.Core.List.{List, [], ◌∷◌, ◌++◌, append_assoc, append-nil}
use Prim.Native.Nat.{ℕ, zero, suc, ◌+◌, ◌-◌, ◌*◌, ◌≤◌, ◌<◌}
use native.Mathlib.Nat.{add-zero}
use native.Mathlib.Omega.{arith}
use borrow.Rule.Slice.PartMut.{put_mid}
use lib.ListN.{length, get_or, take, drop, length-append, length-drop, get_or-append}
use Rattle.std.proofs.lemmas.Slice.{put_mid-paste}
use lib.Seq.{take-length, length-take-le, take_at, drop_at, drop-drop, paste-zero, get_or-take, get_or-append-add}
use Rattle.definition.specs.Lists.{flat_map, written}
use Rattle.definition.specs.Catalogue.{Row}
use Rattle.definition.specs.Outcomes.{words_of_row}
use Rattle.definition.proofs.Lists.{flat_map_nil, flat_map_cons, flat_map_append}
use Rattle.component.specs.Pushed.{Filled, filled, Fits, pushed, row_in, rows_from, used_from}

pub length_words : (rs : List Row) → length (flat_map words_of_row rs) ≡ 3 * length rs
unfolding flat_map words_of_row
length_words [] = refl
length_words (r ∷ rs) = let h = length_words rs in omega arith

-- ---- What is written.

written_is : (xs : List ℕ) (i : ℕ) (ys : List ℕ) → written xs i ys ≡ (take i xs ++ ys) ++ drop (i + length ys) xs
unfolding written
written_is xs i ys = rw (take-length ys)

module _ (xs : List ℕ) where
  pub written_none : (i : ℕ) → written xs i [] ≡ xs
  unfolding written
  written_none i = sym (paste-zero xs i [])

  module _ (i : ℕ) (ys : List ℕ) where
    head_length : i ≤ length xs → length (take i xs ++ ys) ≡ i + length ys
    head_length h = length-append (take i xs) ys ∙ ap (λ (n : ℕ). n + length ys) (length-take-le i xs h)

    pub length_written : i + length ys ≤ length xs → length (written xs i ys) ≡ length xs
    length_written h = ap length (written_is xs i ys) ∙ length-append (take i xs ++ ys) _
        ∙ ap (λ (n : ℕ). n + length (drop (i + length ys) xs)) (head_length (omega arith))
        ∙ ap (λ (n : ℕ). i + length ys + n) (length-drop (i + length ys) xs) ∙ omega arith

    take_written : i ≤ length xs → take (i + length ys) (written xs i ys) ≡ take i xs ++ ys
    take_written h = ap (take (i + length ys)) (written_is xs i ys) ∙ take_at (take i xs ++ ys) _ (i + length ys) (head_length h)

    drop_written : i ≤ length xs → drop (i + length ys) (written xs i ys) ≡ drop (i + length ys) xs
    drop_written h = ap (drop (i + length ys)) (written_is xs i ys) ∙ drop_at (take i xs ++ ys) _ (i + length ys) (head_length h)

    pub get_d_before : (j : ℕ) → j < i → i ≤ length xs → get_or (written xs i ys) j 0 ≡ get_or xs j 0
    get_d_before j k h =
        let a : j < length (take i xs) = rw (length-take-le i xs h) k in
        let b : j < length (take i xs ++ ys) = rw (head_length h) (omega arith) in
        ap (λ (l : List ℕ). get_or l j 0) (written_is xs i ys)
        ∙ get_or-append (take i xs ++ ys) (drop (i + length ys) xs) 0 j b
        ∙ get_or-append (take i xs) ys 0 j a
        ∙ get_or-take i xs j 0 k

    pub get_d_inside : (j : ℕ) → j < length ys → i ≤ length xs → get_or (written xs i ys) (i + j) 0 ≡ get_or ys j 0
    get_d_inside j k h =
        let b : i + j < length (take i xs ++ ys) = rw (head_length h) (omega arith) in
        let e : length (take i xs) + j ≡ i + j = ap (λ (n : ℕ). n + j) (length-take-le i xs h) in
        ap (λ (l : List ℕ). get_or l (i + j) 0) (written_is xs i ys)
        ∙ get_or-append (take i xs ++ ys) (drop (i + length ys) xs) 0 (i + j) b
        ∙ ap (λ (n : ℕ). get_or (take i xs ++ ys) n 0) (sym e)
        ∙ get_or-append-add (take i xs) ys j 0

    -- one list after another
    pub written_append : (zs : List ℕ) → i + length ys ≤ length xs → written (written xs i ys) (i + length ys) zs ≡ written xs i (ys ++ zs)
    written_append zs h =
        let n : length (ys ++ zs) ≡ length ys + length zs = length-append ys zs in
        written_is (written xs i ys) (i + length ys) zs
        ∙ ap (λ (l : List ℕ). (l ++ zs) ++ drop (i + length ys + length zs) (written xs i ys)) (take_written (omega arith))
        ∙ ap (λ (l : List ℕ). ((take i xs ++ ys) ++ zs) ++ l) (later zs)
        ∙ ap (λ (l : List ℕ). l ++ drop (i + length ys + length zs) xs) (append_assoc (take i xs) ys zs)
        ∙ (let e : i + length ys + length zs ≡ i + length (ys ++ zs) = omega arith in ap (λ (m : ℕ). (take i xs ++ (ys ++ zs)) ++ drop m xs) e)
        ∙ sym (written_is xs i (ys ++ zs))
      where
        later : (zs : List ℕ) → drop (i + length ys + length zs) (written xs i ys) ≡ drop (i + length ys + length zs) xs
        later zs =
            sym (drop-drop (length zs) (i + length ys) (written xs i ys))
            ∙ ap (drop (length zs)) (drop_written (omega arith))
            ∙ drop-drop (length zs) (i + length ys) xs

-- ---- Pushes.

module _ (s : Filled) where
  pub pushed_none : pushed [] s ≡ s
  unfolding pushed flat_map
  pushed_none = λ j. record { rows = written_none s.rows (3 * s.used) j; used = add-zero s.used j }

  module _ (rs : List Row) where
    pub length_pushed : 3 * (s.used + length rs) ≤ length s.rows → length (pushed rs s).rows ≡ length s.rows
    unfolding pushed
    length_pushed h = let n = length_words rs in length_written s.rows (3 * s.used) (flat_map words_of_row rs) (omega arith)

    pub pushed_append : (qs : List Row) → 3 * (s.used + length rs) ≤ length s.rows → pushed qs (pushed rs s) ≡ pushed (rs ++ qs) s
    unfolding pushed
    pushed_append qs h =
        let n = length_words rs in
        let e : 3 * (s.used + length rs) ≡ 3 * s.used + length (flat_map words_of_row rs) = omega arith in
        let u : s.used + length rs + length qs ≡ s.used + length (rs ++ qs) = (let a = length-append rs qs in omega arith) in
        λ j. record {
          rows = (ap (λ (m : ℕ). written (written s.rows (3 * s.used) (flat_map words_of_row rs)) m (flat_map words_of_row qs)) e
              ∙ written_append s.rows (3 * s.used) (flat_map words_of_row rs) (flat_map words_of_row qs) (omega arith)
              ∙ ap (written s.rows (3 * s.used)) (sym (flat_map_append words_of_row rs qs))) j;
          used = u j;
        }

-- ---- Which rows stand from a place on.

-- a row more at the end
rows_more : (ws : List ℕ) (i n : ℕ) → rows_from ws i (suc n) ≡ rows_from ws i n ++ (row_in ws (i + n) ∷ [])
unfolding rows_from
rows_more ws i zero = let e : i ≡ i + 0 = omega arith in ap (λ (m : ℕ). row_in ws m ∷ []) e
rows_more ws i (suc n) =
    let e : i + 1 + n ≡ i + suc n = omega arith in
    ap (λ (l : List Row). row_in ws i ∷ l) (rows_more ws (i + 1) n ∙ ap (λ (m : ℕ). rows_from ws (i + 1) n ++ (row_in ws m ∷ [])) e)

module _ (ws : List ℕ) (u : ℕ) (ys : List ℕ) (capacity : 3 * u ≤ length ws) where
  row_stays : (i : ℕ) → i < u → row_in (written ws (3 * u) ys) i ≡ row_in ws i
  unfolding row_in
  row_stays i h = λ j. record {
    what = get_d_before ws (3 * u) ys (3 * i) (omega arith) capacity j;
    card = get_d_before ws (3 * u) ys (3 * i + 1) (omega arith) capacity j;
    origin = get_d_before ws (3 * u) ys (3 * i + 2) (omega arith) capacity j;
  }

  rows_stay : (i n : ℕ) → i + n ≤ u → rows_from (written ws (3 * u) ys) i n ≡ rows_from ws i n
  unfolding rows_from
  rows_stay i zero h = refl
  rows_stay i (suc n) h = ap (λ (r : Row). r ∷ rows_from (written ws (3 * u) ys) (i + 1) n) (row_stays i (omega arith))
      ∙ ap (λ (l : List Row). row_in ws i ∷ l) (rows_stay (i + 1) n (omega arith))

row_written : (ws : List ℕ) (u : ℕ) (r : Row) → 3 * u ≤ length ws → row_in (written ws (3 * u) (words_of_row r)) u ≡ r
unfolding row_in words_of_row
row_written ws u r h = λ j. record {
  what = (let e : 3 * u ≡ 3 * u + 0 = omega arith in ap (λ (m : ℕ). get_or (written ws (3 * u) (words_of_row r)) m 0) e
      ∙ get_d_inside ws (3 * u) (words_of_row r) 0 (omega arith) h) j;
  card = get_d_inside ws (3 * u) (words_of_row r) 1 (omega arith) h j;
  origin = get_d_inside ws (3 * u) (words_of_row r) 2 (omega arith) h j;
}

module _ (start : ℕ) where
  pub used_none : (s : Filled) → s.used ≡ start → used_from start s ≡ []
  unfolding used_from rows_from
  used_none s e = let n : s.used - start ≡ 0 = omega arith in rw n

  used_one : (s : Filled) (r : Row) → start ≤ s.used → 3 * (s.used + 1) ≤ length s.rows → used_from start (pushed (r ∷ []) s) ≡ used_from start s ++ (r ∷ [])
  unfolding used_from pushed flat_map
  used_one s r h capacity =
      let n : s.used + 1 - start ≡ suc (s.used - start) = omega arith in
      let m : start + (s.used - start) ≡ s.used = omega arith in
      let ws = written s.rows (3 * s.used) (words_of_row r ++ []) in
      ap (rows_from ws start) n
      ∙ rows_more ws start (s.used - start)
      ∙ ap (λ (l : List Row). l ++ (row_in ws (start + (s.used - start)) ∷ []))
      (rows_stay s.rows s.used (words_of_row r ++ []) (omega arith) start (s.used - start) (omega arith))
      ∙ ap (λ (x : Row). rows_from s.rows start (s.used - start) ++ (x ∷ []))
      (ap (row_in ws) m ∙ ap (λ (l : List ℕ). row_in (written s.rows (3 * s.used) l) s.used) (append-nil (words_of_row r))
      ∙ row_written s.rows s.used r (omega arith))

  one_used : (s : Filled) (r : Row) → start ≤ s.used → start ≤ (pushed (r ∷ []) s).used
  unfolding pushed
  one_used s r h = omega arith

  one_capacity : (s : Filled) (r : Row) (rs : List Row) → 3 * (s.used + length (r ∷ rs)) ≤ length s.rows →
      length (pushed (r ∷ []) s).rows ≡ length s.rows → 3 * ((pushed (r ∷ []) s).used + length rs) ≤ length (pushed (r ∷ []) s).rows
  unfolding pushed
  one_capacity s r rs capacity n = omega arith

  pub used_pushed : (rs : List Row) (s : Filled) → start ≤ s.used → 3 * (s.used + length rs) ≤ length s.rows →
      used_from start (pushed rs s) ≡ used_from start s ++ rs
  used_pushed [] s h capacity = ap (used_from start) (pushed_none s) ∙ sym (append-nil (used_from start s))
  used_pushed (r ∷ rs) s h capacity =
      let one = pushed (r ∷ []) s in
      let n : length one.rows ≡ length s.rows = length_pushed s (r ∷ []) (omega arith) in
      ap (used_from start) (sym (pushed_append s (r ∷ []) rs (omega arith)))
      ∙ used_pushed rs one (one_used s r h) (one_capacity s r rs capacity n)
      ∙ ap (λ (l : List Row). l ++ rs) (used_one s r h (omega arith))
      ∙ append_assoc (used_from start s) (r ∷ []) rs

-- ---- A row written after those used.

pub row_pushed : (ws ys : List ℕ) (used : ℕ) (r : Row) → ys ≡ words_of_row r →
    filled (put_mid (3 * used) (3 * used + 3 - 3 * used) ws ys) (used + 1) ≡ pushed (r ∷ []) (filled ws used)
unfolding pushed flat_map words_of_row written
row_pushed ws ys used r e =
    ap (λ (l : List ℕ). filled l (used + 1)) (put_mid-paste (3 * used) (3 * used + 3 - 3 * used) ws ys (r.what ∷ (r.card ∷ (r.origin ∷ []))) 3 e (omega arith) refl)

pub pushed_capacity : (rs : List Row) (s : Filled) (n : ℕ) → 3 * (pushed rs s).used ≤ n → 3 * (s.used + length rs) ≤ n
unfolding pushed
pushed_capacity rs s n h = h

-- ---- A walk: the rows `left` are left to push; `goal` is what the whole walk comes to.

pub record Rest (left : List Row) (s goal : Filled) : Type 0 where
  pub whole : pushed left s ≡ goal
  pub capacity : Fits s.rows goal

module _ (left : List Row) (s goal : Filled) where
  pub rest_begin : pushed left s ≡ goal → Fits s.rows goal → Rest left s goal
  rest_begin w r = record { whole = w; capacity = r }

  module _ (rest : Rest left s goal) where
    pub rest_end : left ≡ [] → s ≡ goal
    rest_end e = sym (pushed_none s) ∙ ap (λ (l : List Row). pushed l s) (sym e) ∙ rest.whole

    -- all that is left at once
    pub rest_fits : Fits s.rows (pushed left s)
    rest_fits = let u = ap (λ (t : Filled). t.used) rest.whole in let r = rest.capacity in omega arith

    -- one list, and then the others
    module _ (rs qs : List Row) (cut : left ≡ rs ++ qs) where
      pub rest_capacity : Fits s.rows (pushed rs s)
      unfolding pushed
      rest_capacity =
          let u = ap (λ (l : List Row). (pushed l s).used) (sym cut) ∙ ap (λ (t : Filled). t.used) rest.whole in
          let m = length-append rs qs in
          let r = rest.capacity in
          omega arith

      pub rest_next : (t : Filled) → t ≡ pushed rs s → Rest qs t goal
      rest_next t e =
          let fits = pushed_capacity rs s (length s.rows) rest_capacity in
          let n : length t.rows ≡ length s.rows = ap (λ (u : Filled). length u.rows) e ∙ length_pushed s rs fits in
          let r = rest.capacity in
          record {
            whole = ap (pushed qs) e ∙ pushed_append s rs qs fits ∙ ap (λ (l : List Row). pushed l s) (sym cut) ∙ rest.whole;
            capacity = omega arith;
          }

-- The same over a list of numbers, of each of which f makes the rows to push.
abbrev pub Left : (ℕ → List Row) → List ℕ → Filled → Filled → Type 0
Left f ks s goal = Rest (flat_map f ks) s goal

module _ (f : ℕ → List Row) (s goal : Filled) where
  pub left_begin : (ks : List ℕ) → pushed (flat_map f ks) s ≡ goal → Fits s.rows goal → Left f ks s goal
  left_begin ks w r = rest_begin (flat_map f ks) s goal w r

  module _ (ks : List ℕ) (left : Left f ks s goal) where
    pub left_end : ks ≡ [] → s ≡ goal
    left_end e = rest_end (flat_map f ks) s goal left (ap (flat_map f) e ∙ flat_map_nil f)

    module _ (k : ℕ) (qs : List ℕ) (cut : ks ≡ k ∷ qs) where
      pub left_capacity : Fits s.rows (pushed (f k) s)
      left_capacity = rest_capacity (flat_map f ks) s goal left (f k) (flat_map f qs) (ap (flat_map f) cut ∙ flat_map_cons f k qs)

      pub left_next : (t : Filled) → t ≡ pushed (f k) s → Left f qs t goal
      left_next t e = rest_next (flat_map f ks) s goal left (f k) (flat_map f qs) (ap (flat_map f) cut ∙ flat_map_cons f k qs) t e
