-- The walk of refusal 26: what each turn uses, and what the whole of it says.
use mathlib.Core.Path.{◌≡◌, refl, sym, ◌∙◌, ap}
use mathlib.Core.List.{List, [], ◌∷◌, ◌++◌}
use mathlib.Core.Bool.{Bool, true, false, ◌&&◌, ◌||◌, not}
use mathlib.Core.Option.{none, some}
use Prim.Native.Nat.{ℕ, ◌+◌, ◌*◌, ◌/◌, ◌%◌, ◌≤◌, ◌<◌}
use native.Mathlib.Omega.{arith}
use borrow.Author.Tests.{eq-eqb, ne_eqb, eqb-true, eqb-false, le-leb, not-true, not-false}
use lib.Dec.{eqb}
use lib.ListN.{length, take, drop, get_or, set, replicate, length-replicate, get_or-replicate, length-set}
use lib.Seq.{get_or-set_same, get_or-set_other}
use Rattle.definition.specs.Lists.{choose, found, any, all, is_empty, find, repeats}
use Rattle.definition.specs.Answers.{absent}
use Rattle.definition.specs.Cards.{is_type, place_in}
use Rattle.definition.specs.Headings.{NamedCard}
use Rattle.definition.specs.Catalogue.{Row}
use Rattle.definition.specs.Refusals.{card_capacity}
use Rattle.definition.specs.Store.{account_in, sound}
use Rattle.definition.specs.LentRows.{lent_rows, is_type_row, row_order, in_place, in_order, order_passes, same_card, cards_once, card_passes, cards_pass}
use Rattle.definition.specs.LentRows.{origin_passes, origins_pass, default_root_passes, default_roots_pass, row_clauses, passes, rows_refusal}
use Rattle.store_reader.specs.Stored.{stored_parts}
use Rattle.store_reader.proofs.Laws.{held_stored, cards_fit_lem}
use Rattle.schema_rows.specs.Rows.{row_at}
use Rattle.schema_rows.specs.Order.{is_standing, fits, kind_after, place_after}
use Rattle.schema_rows.specs.Passing.{row_passes, is_free, marked}
use Rattle.schema_rows.specs.Walk.{ordered_from, once_from, rest_passes, has_card, Marked}
use Rattle.schema_rows.proofs.Rows.{row_next, row_end, taken_next}
use Rattle.schema_rows.proofs.Passing.{type_most, card_is, card_stored, row_passed}

-- ---- The order.

module _ (k p : ℕ) (r : Row) (rs : List Row) where
  pub order_bad : fits k p r.what ≡ false → ordered_from k p (r ∷ rs) ≡ false
  unfolding fits ordered_from order_passes in_order is_type_row
  order_bad e = go (eqb k 0) (is_type r.what) refl refl e
    where
      go : (a b : Bool) → eqb k 0 ≡ a → is_type r.what ≡ b → choose a (eqb r.what 4) (choose b true (in_place k p r.what)) ≡ false →
          ordered_from k p (r ∷ rs) ≡ false
      go true b s t e = rw (s, e)
      go false true s t e = let z : true ≡ false = e in absurd (let y : ◌≡◌ {A = ℕ} 0 1 = cc in omega arith)
      go false false s t e = rw (s, t, e)

  pub order_next : is_standing k ≡ true → fits k p r.what ≡ true → ordered_from k p (r ∷ rs) ≡ ordered_from (kind_after k r.what) (place_after k r.what) rs
  unfolding fits ordered_from order_passes in_order is_type_row kind_after place_after
  order_next st e = go (eqb k 0) (is_type r.what) refl refl e
    where
      go : (a b : Bool) → eqb k 0 ≡ a → is_type r.what ≡ b → choose a (eqb r.what 4) (choose b true (in_place k p r.what)) ≡ true →
          ordered_from k p (r ∷ rs) ≡ ordered_from (choose a r.what (choose b r.what k)) (choose a 0 (choose b 0 (place_in (row_order k) r.what))) rs
      go true b s t e = let w : r.what ≡ 4 = eqb-true r.what 4 e in rw (s, w)
      go false true s t e = let w = type_most r.what t in rw (s, t, ne_eqb r.what 0 (omega arith))
      go false false s t e = rw (s, t, e)

pub standing_next : (k p w : ℕ) → is_standing k ≡ true → fits k p w ≡ true → is_standing (kind_after k w) ≡ true
unfolding fits kind_after
standing_next k p w st e = go (eqb k 0) (is_type w) refl e
  where
    four : is_standing 4 ≡ true
    four = unfold is_standing in refl

    ten : (w : ℕ) → 5 ≤ w → w ≤ 10 → is_standing w ≡ true
    ten w h l = unfold is_standing in rw (ne_eqb w 0 (omega arith), le-leb 4 w (omega arith), le-leb w 10 l)

    go : (a b : Bool) → is_type w ≡ b → choose a (eqb w 4) (choose b true (in_place k p w)) ≡ true → is_standing (choose a w (choose b w k)) ≡ true
    go true b t e = let z : w ≡ 4 = eqb-true w 4 e in rw z four
    go false true t e = let z = type_most w t in ten w z.0 z.1
    go false false t e = st

-- ---- Cards once.

module _ (r : Row) (seen rs : List Row) where
  first_any : (xs : List Row) → any (same_card r) xs ≡ false → find (same_card r) xs ≡ none
  unfolding any find
  first_any [] e = refl
  first_any (x ∷ xs) e = go (same_card r x) e (first_any xs)
    where
      go : (b : Bool) → choose b true (any (same_card r) xs) ≡ false → (any (same_card r) xs ≡ false → find (same_card r) xs ≡ none) →
          choose b (some x) (find (same_card r) xs) ≡ none
      go true e ih = let z : true ≡ false = e in absurd (let y : ◌≡◌ {A = ℕ} 0 1 = cc in omega arith)
      go false e ih = ih e

  pub once_next : any (same_card r) seen ≡ false → once_from seen (r ∷ rs) ≡ once_from (seen ++ (r ∷ [])) rs
  unfolding once_from repeats
  once_next e = rw (first_any seen e)

  found_any : (xs : List Row) → any (same_card r) xs ≡ true →
      is_empty (found (find (same_card r) xs) (λ y. (r, y) ∷ repeats same_card seen rs) (repeats same_card (seen ++ (r ∷ [])) rs)) ≡ false
  unfolding any find
  found_any [] e = let z : true ≡ false = sym e in absurd (let y : ◌≡◌ {A = ℕ} 0 1 = cc in omega arith)
  found_any (x ∷ xs) e = go (same_card r x) e (found_any xs)
    where
      go : (b : Bool) → choose b true (any (same_card r) xs) ≡ true →
          (any (same_card r) xs ≡ true → is_empty (found (find (same_card r) xs) (λ y. (r, y) ∷ repeats same_card seen rs) (repeats same_card (seen ++ (r ∷ [])) rs))
          ≡ false) →
          is_empty (found (choose b (some x) (find (same_card r) xs)) (λ y. (r, y) ∷ repeats same_card seen rs) (repeats same_card (seen ++ (r ∷ [])) rs)) ≡ false
      go true e ih = refl
      go false e ih = ih e

  pub once_bad : any (same_card r) seen ≡ true → once_from seen (r ∷ rs) ≡ false
  unfolding once_from repeats
  once_bad e = found_any seen e

-- ---- Marks.

module _ (r : Row) where
  absent_none : r.card ≡ absent → (xs : List Row) → any (same_card r) xs ≡ false
  unfolding any
  absent_none e [] = refl
  absent_none e (x ∷ xs) = rw (unlike x) (absent_none e xs)
    where
      unlike : (x : Row) → same_card r x ≡ false
      unlike x = unfold same_card in rw (eq-eqb r.card absent e) (none (eqb r.card x.card))
        where
          none : (b : Bool) → (b && false) ≡ false
          none true = refl
          none false = refl

  pub present_same : (r.card ≡ absent → ⊥) → (xs : List Row) → any (same_card r) xs ≡ any (has_card r.card) xs
  unfolding any
  present_same e [] = refl
  present_same e (x ∷ xs) = rw (like x, present_same e xs)
    where
      like : (x : Row) → same_card r x ≡ has_card r.card x
      like x = unfold same_card has_card in rw (ne_eqb r.card absent e) (same (eqb r.card x.card))
        where
          same : (b : Bool) → (b && true) ≡ b
          same true = refl
          same false = refl

pub any_snoc : {A : Type 0} (p : A → Bool) (xs : List A) (x : A) → any p (xs ++ (x ∷ [])) ≡ choose (p x) true (any p xs)
unfolding any
any_snoc p [] x = refl
any_snoc p (y ∷ xs) x = go (p y) (p x) (any_snoc p xs x)
  where
    go : (a b : Bool) → any p (xs ++ (x ∷ [])) ≡ choose b true (any p xs) → choose a true (any p (xs ++ (x ∷ []))) ≡ choose b true (choose a true (any p xs))
    go true true ih = refl
    go true false ih = refl
    go false b ih = ih

module _ (marks : List Bool) (seen : List Row) (m : Marked marks seen) (r : Row) (inside : (r.card ≡ absent → ⊥) → r.card < card_capacity) where
  pub free_any : is_free marks r.card ≡ not (any (same_card r) seen)
  unfolding is_free
  free_any = go (eqb r.card absent) refl
    where
      go : (b : Bool) → eqb r.card absent ≡ b → (b || not (get_or marks r.card false)) ≡ not (any (same_card r) seen)
      go true e = rw (absent_none r (eqb-true r.card absent e) seen)
      go false e =
          let n : r.card ≡ absent → ⊥ = eqb-false r.card absent e in
          rw (present_same r n seen, m.told r.card (inside n))

  has_is : (c : ℕ) (b : Bool) → eqb c r.card ≡ b → has_card c r ≡ b
  unfolding has_card
  has_is c b t = t

  after : (c : ℕ) (b : Bool) → eqb c r.card ≡ b → choose b true (any (has_card c) seen) ≡ any (has_card c) (seen ++ (r ∷ []))
  after c b t =
      ap (λ (b : Bool). choose b true (any (has_card c) seen)) (sym (has_is c b t)) ∙ sym (any_snoc (has_card c) seen r)

  marked_at : (c : ℕ) → c < card_capacity → (r.card ≡ absent → ⊥) → (b : Bool) → eqb c r.card ≡ b →
      get_or (set marks r.card true) c false ≡ any (has_card c) (seen ++ (r ∷ []))
  marked_at c h n true t =
      let q : c ≡ r.card = eqb-true c r.card t in
      let l : r.card < length marks = (let s = m.size in omega arith) in
      ap (λ (c : ℕ). get_or (set marks r.card true) c false) q ∙ get_or-set_same marks r.card true false l ∙ after c true t
  marked_at c h n false t = get_or-set_other marks r.card c true false (eqb-false c r.card t) ∙ m.told c h ∙ after c false t

  pub marked_next : Marked (marked marks r.card) (seen ++ (r ∷ []))
  unfolding marked
  marked_next = go (eqb r.card absent) refl
    where
      go : (b : Bool) → eqb r.card absent ≡ b → Marked (choose b marks (set marks r.card true)) (seen ++ (r ∷ []))
      go true e = record {
        size = m.size;
        told = λ c h. m.told c h ∙ after c false (ne_eqb c r.card (let a = eqb-true r.card absent e in omega arith));
      }
      go false e = record {
        size = length-set marks r.card true ∙ m.size;
        told = λ c h. marked_at c h (eqb-false r.card absent e) (eqb c r.card) refl;
      }

pub marked_start : (marks : List Bool) → marks ≡ replicate card_capacity false → Marked marks []
unfolding any
marked_start marks e = record {
  size = ap length e ∙ length-replicate {A = Bool} card_capacity false;
  told = λ c h. ap (λ (l : List Bool). get_or l c false) e ∙ get_or-replicate {A = Bool} card_capacity c false false h;
}

pub marked_same : (marks marks' : List Bool) (seen : List Row) → marks' ≡ marks → Marked marks seen → Marked marks' seen
marked_same marks marks' seen e m = rw e m

-- ---- A turn.

module _ (cs : List NamedCard) (rs : List Row) (k p : ℕ) (seen : List Row) (r : Row) (xs : List Row) where
  never_order : ordered_from k p (r ∷ xs) ≡ false → rest_passes cs rs k p seen (r ∷ xs) ≡ false
  unfolding rest_passes
  never_order e = rw e

  never_once : (a : Bool) → ordered_from k p (r ∷ xs) ≡ a → once_from seen (r ∷ xs) ≡ false → rest_passes cs rs k p seen (r ∷ xs) ≡ false
  unfolding rest_passes
  never_once true s e = rw (s, e)
  never_once false s e = rw s

  never_row : (a b : Bool) → ordered_from k p (r ∷ xs) ≡ a → once_from seen (r ∷ xs) ≡ b → row_passes cs rs r ≡ false → rest_passes cs rs k p seen (r ∷ xs) ≡ false
  unfolding rest_passes all
  never_row true true s t e = rw (s, t, e)
  never_row true false s t e = rw (s, t)
  never_row false b s t e = rw s

  pub turn_order : fits k p r.what ≡ false → rest_passes cs rs k p seen (r ∷ xs) ≡ false
  turn_order e = never_order (order_bad k p r xs e)

  pub turn_row : row_passes cs rs r ≡ false → rest_passes cs rs k p seen (r ∷ xs) ≡ false
  turn_row e = never_row (ordered_from k p (r ∷ xs)) (once_from seen (r ∷ xs)) refl refl e

  pub turn_card : any (same_card r) seen ≡ true → rest_passes cs rs k p seen (r ∷ xs) ≡ false
  turn_card e = never_once (ordered_from k p (r ∷ xs)) refl (once_bad r seen xs e)

  pub turn_next : is_standing k ≡ true → fits k p r.what ≡ true → row_passes cs rs r ≡ true → any (same_card r) seen ≡ false →
      rest_passes cs rs k p seen (r ∷ xs) ≡ rest_passes cs rs (kind_after k r.what) (place_after k r.what) (seen ++ (r ∷ [])) xs
  unfolding rest_passes all
  turn_next st e f g = rw (order_next k p r xs st e, once_next r seen xs g, f)

pub turn_end : (cs : List NamedCard) (rs : List Row) (k p : ℕ) (seen : List Row) → rest_passes cs rs k p seen [] ≡ not (eqb k 0)
unfolding rest_passes ordered_from order_passes in_order once_from repeats all
turn_end cs rs k p seen = go (eqb k 0)
  where
    go : (b : Bool) → choose (choose b false true) (choose true true false) false ≡ not b
    go true = refl
    go false = refl

-- ---- The whole.

module _ (cs : List NamedCard) (rs : List Row) where
  all_rows : (xs : List Row) → all (row_passes cs rs) xs ≡
      choose (all (card_passes cs) xs) (choose (all (origin_passes cs) xs) (choose (all (default_root_passes cs rs) xs) true false) false) false
  unfolding all
  all_rows [] = refl
  all_rows (x ∷ xs) = row_passes_is x ∙ go (card_passes cs x) (origin_passes cs x) (default_root_passes cs rs x) (all_rows xs)
    where
      C : Bool
      C = all (card_passes cs) xs

      O : Bool
      O = all (origin_passes cs) xs

      D : Bool
      D = all (default_root_passes cs rs) xs

      row_passes_is : (x : Row) → choose (row_passes cs rs x) (all (row_passes cs rs) xs) false ≡
          choose (choose (card_passes cs x) (choose (origin_passes cs x) (default_root_passes cs rs x) false) false) (all (row_passes cs rs) xs) false
      row_passes_is x = unfold row_passes in refl

      no : (a b : Bool) → false ≡ choose a (choose b false false) false
      no true true = refl
      no true false = refl
      no false b = refl

      no_one : (a : Bool) → false ≡ choose a false false
      no_one true = refl
      no_one false = refl

      go : (a b c : Bool) → all (row_passes cs rs) xs ≡ choose C (choose O (choose D true false) false) false →
          choose (choose a (choose b c false) false) (all (row_passes cs rs) xs) false ≡
          choose (choose a C false) (choose (choose b O false) (choose (choose c D false) true false) false) false
      go true true true ih = ih
      go true true false ih = no C O
      go true false c ih = no_one C
      go false b c ih = refl

  order_any : (xs : List Row) → order_passes cs xs ≡ order_passes [] xs
  unfolding order_passes
  order_any [] = refl
  order_any (x ∷ xs) = refl

  all_clauses : all (passes cs rs) row_clauses ≡ rest_passes cs rs 0 0 [] rs
  unfolding all passes row_clauses rest_passes ordered_from once_from cards_once cards_pass origins_pass default_roots_pass
  all_clauses = rw (order_any rs, all_rows rs)

-- The refusal's number, by what the walk says.
abbrev pub walk_number : Bool → ℕ
walk_number b = choose b 0 26

pub walk_passed : (b : Bool) → walk_number b ≡ 0 → b ≡ true
walk_passed true e = refl
walk_passed false e = absurd (omega arith)

module _ (text words rows : List ℕ) (ok : sound text words ≡ true) where
  pub whole : length rows % 3 ≡ 0 →
      rows_refusal (account_in text words).documents rows
      ≡ walk_number (rest_passes (stored_parts text words) (lent_rows rows) 0 0 [] (drop 0 (lent_rows rows)))
  unfolding rows_refusal
  whole e =
      rw (eq-eqb (length rows % 3) 0 e) (
      ap (λ (cs : List NamedCard). walk_number (all (passes cs (lent_rows rows)) row_clauses)) (held_stored text words ok)
      ∙ ap walk_number (all_clauses (stored_parts text words) (lent_rows rows)))

  pub not_whole : (length rows % 3 ≡ 0 → ⊥) → 26 ≡ rows_refusal (account_in text words).documents rows
  unfolding rows_refusal
  not_whole e = rw (ne_eqb (length rows % 3) 0 e)

-- ---- The same at a row of a number.

module _ (text words rows : List ℕ) (k p i : ℕ) (h : i < length rows / 3) where
  pub walk_order : fits k p (get_or rows (3 * i) 0) ≡ false →
      rest_passes (stored_parts text words) (lent_rows rows) k p (take i (lent_rows rows)) (drop i (lent_rows rows)) ≡ false
  walk_order e = ap (rest_passes (stored_parts text words) (lent_rows rows) k p (take i (lent_rows rows))) (row_next rows i h)
      ∙ turn_order (stored_parts text words) (lent_rows rows) k p (take i (lent_rows rows)) (row_at rows i) (drop (i + 1) (lent_rows rows)) e

  pub walk_row : row_passes (stored_parts text words) (lent_rows rows) (row_at rows i) ≡ false →
      rest_passes (stored_parts text words) (lent_rows rows) k p (take i (lent_rows rows)) (drop i (lent_rows rows)) ≡ false
  walk_row e = ap (rest_passes (stored_parts text words) (lent_rows rows) k p (take i (lent_rows rows))) (row_next rows i h)
      ∙ turn_row (stored_parts text words) (lent_rows rows) k p (take i (lent_rows rows)) (row_at rows i) (drop (i + 1) (lent_rows rows)) e

  pub card_inside : sound text words ≡ true → row_passes (stored_parts text words) (lent_rows rows) (row_at rows i) ≡ true →
      (get_or rows (3 * i + 1) 0 ≡ absent → ⊥) → get_or rows (3 * i + 1) 0 < card_capacity
  card_inside ok e n =
      let c = row_passed (stored_parts text words) (lent_rows rows) (row_at rows i) e in
      let s = card_stored (get_or rows (3 * i) 0) (get_or rows (3 * i + 1) 0) (get_or rows (3 * i + 2) 0) words (card_is _ _ _ words text ∙ c) n in
      let f = cards_fit_lem text words ok in
      omega arith

  module _ (marks : List Bool) (m : Marked marks (take i (lent_rows rows))) (ok : sound text words ≡ true)
      (e : row_passes (stored_parts text words) (lent_rows rows) (row_at rows i) ≡ true) where
    pub walk_card : is_free marks (get_or rows (3 * i + 1) 0) ≡ false →
        rest_passes (stored_parts text words) (lent_rows rows) k p (take i (lent_rows rows)) (drop i (lent_rows rows)) ≡ false
    walk_card f =
        ap (rest_passes (stored_parts text words) (lent_rows rows) k p (take i (lent_rows rows))) (row_next rows i h)
        ∙ turn_card (stored_parts text words) (lent_rows rows) k p (take i (lent_rows rows)) (row_at rows i) (drop (i + 1) (lent_rows rows))
        (not-false _ (sym (free_any marks (take i (lent_rows rows)) m (row_at rows i) (card_inside ok e)) ∙ f))

    module _ (f : is_free marks (get_or rows (3 * i + 1) 0) ≡ true) where
      pub walk_marks : Marked (marked marks (get_or rows (3 * i + 1) 0)) (take (i + 1) (lent_rows rows))
      walk_marks = rw (taken_next rows i h) (marked_next marks (take i (lent_rows rows)) m (row_at rows i) (card_inside ok e))

      pub walk_next : is_standing k ≡ true → fits k p (get_or rows (3 * i) 0) ≡ true → (k' p' : ℕ) →
          k' ≡ kind_after k (get_or rows (3 * i) 0) → p' ≡ place_after k (get_or rows (3 * i) 0) →
          rest_passes (stored_parts text words) (lent_rows rows) k p (take i (lent_rows rows)) (drop i (lent_rows rows)) ≡
          rest_passes (stored_parts text words) (lent_rows rows) k' p' (take (i + 1) (lent_rows rows)) (drop (i + 1) (lent_rows rows))
      walk_next st g k' p' a b =
          rw (taken_next rows i h, a, b) (
          ap (rest_passes (stored_parts text words) (lent_rows rows) k p (take i (lent_rows rows))) (row_next rows i h)
          ∙ turn_next (stored_parts text words) (lent_rows rows) k p (take i (lent_rows rows)) (row_at rows i) (drop (i + 1) (lent_rows rows)) st g e
          (not-true _ (sym (free_any marks (take i (lent_rows rows)) m (row_at rows i) (card_inside ok e)) ∙ f)))

pub walk_end : (cs : List NamedCard) (rows : List ℕ) (k p i : ℕ) → length rows / 3 ≤ i →
    rest_passes cs (lent_rows rows) k p (take i (lent_rows rows)) (drop i (lent_rows rows)) ≡ not (eqb k 0)
walk_end cs rows k p i h =
    ap (rest_passes cs (lent_rows rows) k p (take i (lent_rows rows))) (row_end rows i h) ∙ turn_end cs (lent_rows rows) k p (take i (lent_rows rows))
