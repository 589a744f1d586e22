-- Groups over the pairs: the turns of the walks.
use mathlib.Core.Path.{◌≡◌, refl, sym, ◌∙◌, ap}
use mathlib.Core.List.{List, [], ◌∷◌, ◌++◌, map}
use mathlib.Core.Bool.{Bool, true, false, ◌&&◌, not}
use Prim.Native.Nat.{ℕ, ◌+◌, ◌*◌, ◌/◌, ◌≤◌, ◌<◌, zero, suc}
use native.Mathlib.Omega.{arith}
use borrow.Author.Tests.{eqb-true, eqb-false}
use lib.Dec.{eqb}
use lib.ListN.{length, take, drop, get_or}
use Rattle.definition.specs.Lists.{choose, any, filter}
use Rattle.definition.specs.Headings.{NamedCard}
use Rattle.definition.specs.Catalogue.{Row}
use Rattle.definition.specs.LentRows.{lent_rows, is_row_named}
use Rattle.definition.specs.Lookups.{is_row_of, is_part_named, origin_of, same_interface}
use Rattle.store_reader.specs.Stored.{stored_parts, card_name}
use Rattle.store_reader.proofs.Words.{name_stored}
use Rattle.schema_rows.specs.Rows.{row_at, found_from}
use Rattle.std.specs.Prelude.{Option as Place, Some, None}
use Rattle.std.specs.Option.{option_eq}
use Rattle.std.specs.List.{filter as kept, range_with_len}
use Rattle.std.specs.Prelude.{cond}
use Rattle.schema_rows.proofs.Rows.{row_next, row_end, never_row, contradiction}
use Rattle.schema.specs.Owners.{named}
use Rattle.schema.specs.Groups.{implementers_named, pair_group}
use Rattle.definition.proofs.Lists.{filter_yes, filter_no, filter_nil, same_name_refl}
use Rattle.schema.proofs.SearchStops.{rows_split, taken_length}

-- ---- Where a search stops: at a row that passes, if none before it does, else before it.

module _ (p : Row → Bool) where
  found_first : (k : ℕ) (pre : List Row) (r : Row) (post : List Row) → any p pre ≡ false → p r ≡ true →
      found_from p k (pre ++ (r ∷ post)) ≡ Some (k + length pre)
  unfolding found_from any
  found_first k [] r post e f = rw f (let z : k ≡ k + 0 = omega arith in ap Some z)
  found_first k (x ∷ pre) r post e f = go (p x) e (found_first (k + 1) pre r post)
    where
      go : (b : Bool) → choose b true (any p pre) ≡ false →
          (any p pre ≡ false → p r ≡ true → found_from p (k + 1) (pre ++ (r ∷ post)) ≡ Some (k + 1 + length pre)) →
          choose b (Some k) (found_from p (k + 1) (pre ++ (r ∷ post))) ≡ Some (k + suc (length pre))
      go true e ih = contradiction false refl (sym e)
      go false e ih = ih e f ∙ (let z : k + 1 + length pre ≡ k + suc (length pre) = omega arith in ap Some z)

  found_before : (k : ℕ) (pre post : List Row) (t : ℕ) → any p pre ≡ true → found_from p k (pre ++ post) ≡ Some t → t < k + length pre
  unfolding found_from any
  found_before k [] post t e f = contradiction false refl e
  found_before k (x ∷ pre) post t e f = go (p x) e f (found_before (k + 1) pre post t)
    where
      go : (b : Bool) → choose b true (any p pre) ≡ true → choose b (Some k) (found_from p (k + 1) (pre ++ post)) ≡ Some t →
          (any p pre ≡ true → found_from p (k + 1) (pre ++ post) ≡ Some t → t < k + 1 + length pre) → t < k + suc (length pre)
      go true e f ih = let q : k ≡ t = cc in omega arith
      go false e f ih = let l = ih e f in omega arith

  -- Which of the two, by the number that was found.
  module _ (pre : List Row) (r : Row) (post : List Row) (f : p r ≡ true) where
    pub first_none : found_from p 0 (pre ++ (r ∷ post)) ≡ None → any p pre ≡ true
    first_none e = go (any p pre) refl
      where
        go : (b : Bool) → any p pre ≡ b → any p pre ≡ true
        go true s = s
        go false s = never_row (sym (found_first 0 pre r post s f) ∙ e)

    pub first_here : (t : ℕ) → found_from p 0 (pre ++ (r ∷ post)) ≡ Some t → t ≡ length pre → any p pre ≡ false
    first_here t e q = go (any p pre) refl
      where
        go : (b : Bool) → any p pre ≡ b → any p pre ≡ false
        go true s = absurd (let l = found_before 0 pre (r ∷ post) t s e in omega arith)
        go false s = s

    pub first_other : (t : ℕ) → found_from p 0 (pre ++ (r ∷ post)) ≡ Some t → (t ≡ length pre → ⊥) → any p pre ≡ true
    first_other t e n = go (any p pre) refl
      where
        go : (b : Bool) → any p pre ≡ b → any p pre ≡ true
        go true s = s
        go false s =
            absurd (n (let q : Some t ≡ Some (0 + length pre) = sym e ∙ found_first 0 pre r post s f in let z : t ≡ 0 + length pre = cc in omega arith))

-- ---- How many pass.

filter_both : (cs : List NamedCard) (k : ℕ) (n : List ℕ) (xs : List Row) → filter (is_row_of k) (filter (is_row_named cs n) xs) ≡ filter (is_part_named cs k n) xs
unfolding filter is_part_named
filter_both cs k n [] = refl
filter_both cs k n (x ∷ xs) = go (is_row_of k x) (is_row_named cs n x) refl (filter_both cs k n xs)
  where
    go : (a b : Bool) → is_row_of k x ≡ a → filter (is_row_of k) (filter (is_row_named cs n) xs) ≡ filter (is_part_named cs k n) xs →
        filter (is_row_of k) (choose b (x ∷ filter (is_row_named cs n) xs) (filter (is_row_named cs n) xs))
        ≡ choose (a && b) (x ∷ filter (is_part_named cs k n) xs) (filter (is_part_named cs k n) xs)
    go true true s ih = rw s (ap (λ (l : List Row). x ∷ l) ih)
    go true false s ih = ih
    go false true s ih = rw s ih
    go false false s ih = ih

module _ (p : Row → Bool) (pairs : List ℕ) (i : ℕ) where
  pub filter_end : length pairs / 3 ≤ i → filter p (drop i (lent_rows pairs)) ≡ []
  filter_end h = ap (filter p) (row_end pairs i h) ∙ filter_nil p

  pub filter_here : i < length pairs / 3 → p (row_at pairs i) ≡ true →
      filter p (drop i (lent_rows pairs)) ≡ row_at pairs i ∷ filter p (drop (i + 1) (lent_rows pairs))
  filter_here h e = ap (filter p) (row_next pairs i h) ∙ filter_yes p (row_at pairs i) (drop (i + 1) (lent_rows pairs)) e

  pub filter_over : i < length pairs / 3 → p (row_at pairs i) ≡ false → filter p (drop i (lent_rows pairs)) ≡ filter p (drop (i + 1) (lent_rows pairs))
  filter_over h e = ap (filter p) (row_next pairs i h) ∙ filter_no p (row_at pairs i) (drop (i + 1) (lent_rows pairs)) e

-- The same by the numbers of the rows.
count_from : (p : Row → Bool) (pairs : List ℕ) (k i : ℕ) → i + k ≡ length pairs / 3 →
    length (kept (λ j. p (row_at pairs j)) (range_with_len i k)) ≡ length (filter p (drop i (lent_rows pairs)))
count_from p pairs zero i h = sym (ap length (filter_end p pairs i (omega arith)))
count_from p pairs (suc k) i h = go (p (row_at pairs i)) refl (count_from p pairs k (i + 1) (omega arith))
  where
    go : (b : Bool) → p (row_at pairs i) ≡ b →
        length (kept (λ j. p (row_at pairs j)) (range_with_len (i + 1) k)) ≡ length (filter p (drop (i + 1) (lent_rows pairs))) →
        length (cond b (i ∷ kept (λ j. p (row_at pairs j)) (range_with_len (i + 1) k)) (kept (λ j. p (row_at pairs j)) (range_with_len (i + 1) k)))
        ≡ length (filter p (drop i (lent_rows pairs)))
    go true e ih = ap suc ih ∙ sym (ap length (filter_here p pairs i (omega arith) e))
    go false e ih = ih ∙ sym (ap length (filter_over p pairs i (omega arith) e))

pub counted : (cs : List NamedCard) (k : ℕ) (n : List ℕ) (pairs : List ℕ) (m : ℕ) →
    m ≡ length (kept (λ j. is_part_named cs k n (row_at pairs j)) (range_with_len 0 (length pairs / 3))) →
    m ≡ length (filter (is_row_of k) (filter (is_row_named cs n) (lent_rows pairs)))
counted cs k n pairs m e =
    e ∙ count_from (is_part_named cs k n) pairs (length pairs / 3) 0 (omega arith) ∙ ap length (sym (filter_both cs k n (lent_rows pairs)))

-- ---- The types that list an interface.

module _ (cs : List NamedCard) (n : List ℕ) (pairs : List ℕ) (i : ℕ) where
  pub implementers_end : length pairs / 3 ≤ i → implementers_named cs (drop i (lent_rows pairs)) n ≡ []
  unfolding implementers_named
  implementers_end h = ap (map origin_of) (filter_end (is_row_named cs n) pairs i h)

  pub implementers_here : i < length pairs / 3 → (r : Row) → r ≡ row_at pairs i → is_row_named cs n r ≡ true →
      implementers_named cs (drop i (lent_rows pairs)) n ≡ r.origin ∷ implementers_named cs (drop (i + 1) (lent_rows pairs)) n
  unfolding implementers_named origin_of
  implementers_here h r e t = rw e (ap (map origin_of) (filter_here (is_row_named cs n) pairs i h (rw e at t)))

  pub implementers_over : i < length pairs / 3 → (r : Row) → r ≡ row_at pairs i → is_row_named cs n r ≡ false →
      implementers_named cs (drop i (lent_rows pairs)) n ≡ implementers_named cs (drop (i + 1) (lent_rows pairs)) n
  unfolding implementers_named
  implementers_over h r e t = ap (map origin_of) (filter_over (is_row_named cs n) pairs i h (rw e at t))

-- ---- A group.

module _ (text words pairs : List ℕ) (i : ℕ) (name : List ℕ) (n : name ≡ card_name text words (get_or pairs (3 * i + 1) 0)) where
  is_named_lem : name ≡ named (stored_parts text words) (row_at pairs i)
  is_named_lem = n ∙ sym (name_stored text words (get_or pairs (3 * i + 1) 0))

  pub group_words_lem : (objects interfaces : ℕ) →
      objects ≡ length (filter (is_row_of 6) (filter (is_row_named (stored_parts text words) name) (lent_rows pairs))) →
      interfaces ≡ length (filter (is_row_of 7) (filter (is_row_named (stored_parts text words) name) (lent_rows pairs))) →
      pair_group (stored_parts text words) (lent_rows pairs) (row_at pairs i) ≡
      get_or pairs (3 * i + 1) 0 ∷ (objects ∷ (interfaces ∷ implementers_named (stored_parts text words) (lent_rows pairs) name))
  unfolding pair_group
  group_words_lem objects interfaces a b = rw (a, b, is_named_lem)

  -- Whether its interface is the first of its name.
  module _ (h : i < length pairs / 3) where
    passes : is_row_named (stored_parts text words) (named (stored_parts text words) (row_at pairs i)) (row_at pairs i) ≡ true
    unfolding is_row_named
    passes = same_name_refl (named (stored_parts text words) (row_at pairs i))

    search : found_from (is_row_named (stored_parts text words) name) 0 (lent_rows pairs) ≡
        found_from (is_row_named (stored_parts text words) (named (stored_parts text words) (row_at pairs i))) 0
        (take i (lent_rows pairs) ++ (row_at pairs i ∷ drop (i + 1) (lent_rows pairs)))
    search = λ j. found_from (is_row_named (stored_parts text words) (is_named_lem j)) 0 (rows_split pairs i h j)

    pair_none : found_from (is_row_named (stored_parts text words) name) 0 (lent_rows pairs) ≡ None →
        false ≡ not (any (same_interface (stored_parts text words) (row_at pairs i)) (take i (lent_rows pairs)))
    unfolding same_interface
    pair_none f = sym (ap not (first_none _ _ _ _ passes (sym search ∙ f)))

    pair_some : (t : ℕ) → found_from (is_row_named (stored_parts text words) name) 0 (lent_rows pairs) ≡ Some t →
        eqb t i ≡ not (any (same_interface (stored_parts text words) (row_at pairs i)) (take i (lent_rows pairs)))
    unfolding same_interface
    pair_some t f = go (eqb t i) refl
      where
        go : (b : Bool) → eqb t i ≡ b →
            b ≡ not (any (is_row_named (stored_parts text words) (named (stored_parts text words) (row_at pairs i))) (take i (lent_rows pairs)))
        go true s = sym (ap not (first_here _ _ _ _ passes t (sym search ∙ f) (eqb-true t i s ∙ sym (taken_length pairs i h))))
        go false s = sym (ap not (first_other _ _ _ _ passes t (sym search ∙ f) (λ z. eqb-false t i s (z ∙ taken_length pairs i h))))

    pub pair_told : (p : Place ℕ) → p ≡ found_from (is_row_named (stored_parts text words) name) 0 (lent_rows pairs) →
        option_eq eqb p (Some i) ≡ not (any (same_interface (stored_parts text words) (row_at pairs i)) (take i (lent_rows pairs)))
    pair_told None e = pair_none (sym e)
    pair_told (Some t) e = pair_some t (sym e)
