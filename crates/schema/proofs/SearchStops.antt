-- Where a search stops: at a row that passes, if none before it does, else before it.
use mathlib.Core.Path.{◌≡◌, refl, sym, ◌∙◌, ap}
use mathlib.Core.List.{List, [], ◌∷◌, ◌++◌}
use mathlib.Core.Bool.{Bool, true, false, ◌&&◌, not}
use Prim.Native.Nat.{ℕ, suc, ◌+◌, ◌*◌, ◌/◌, ◌≤◌, ◌<◌}
use native.Mathlib.Omega.{arith}
use borrow.Author.Tests.{eq-eqb, ne_eqb, ltb-true, ltb-false}
use lib.Dec.{eqb, ltb}
use lib.ListN.{length, take, drop, get_or, length-drop, take-append-drop}
use lib.Seq.{length-take-le, drop-append-le}
use Rattle.definition.specs.Lists.{choose, any}
use Rattle.definition.specs.Cards.{is_type}
use Rattle.definition.specs.Headings.{NamedCard}
use Rattle.definition.specs.Catalogue.{Row}
use Rattle.definition.specs.LentRows.{lent_rows, is_row_named, is_type_row, is_type_row_named}
use Rattle.definition.specs.Lookups.{is_row_of, is_part_named}
use Rattle.definition.proofs.Lists.{same_name_refl}
use Rattle.store_reader.specs.Stored.{stored_parts, card_name}
use Rattle.store_reader.proofs.Words.{name_stored}
use Rattle.schema_rows.specs.Rows.{row_at}
use Rattle.std.specs.Prelude.{Option as Place, Some, None}
use Rattle.std.specs.Option.{option_eq}
use Rattle.schema_rows.proofs.Rows.{length_rows, row_next, never, never_row, contradiction}
use Rattle.schema_rows.specs.declared.search.Located.{Located}
use Rattle.schema_rows.specs.Search.{part_from, located_from}
use Rattle.schema_rows.proofs.SearchLaws.{located}
use Rattle.schema.specs.Owners.{named, first_type, owner_of, OwnerAt, LastType, is_listed}

-- ---- Lists.

module _ (hit : Row → Bool) where
  part_first : (k : ℕ) (mid : List Row) (r : Row) (post : List Row) → any is_type_row mid ≡ false → is_type_row r ≡ false → any hit mid ≡ false → hit r ≡ true →
      part_from hit k (mid ++ (r ∷ post)) ≡ Some (k + length mid)
  unfolding part_from any
  part_first k [] r post t u e f = rw (u, f) (let z : k ≡ k + 0 = omega arith in ap Some z)
  part_first k (x ∷ mid) r post t u e f = go (is_type_row x) (hit x) t e (part_first (k + 1) mid r post)
    where
      go : (a b : Bool) → choose a true (any is_type_row mid) ≡ false → choose b true (any hit mid) ≡ false →
          (any is_type_row mid ≡ false → is_type_row r ≡ false → any hit mid ≡ false → hit r ≡ true →
          part_from hit (k + 1) (mid ++ (r ∷ post)) ≡ Some (k + 1 + length mid)) →
          choose a None (choose b (Some k) (part_from hit (k + 1) (mid ++ (r ∷ post)))) ≡ Some (k + suc (length mid))
      go true b t e ih = contradiction false refl (sym t)
      go false true t e ih = contradiction false refl (sym e)
      go false false t e ih = ih t u e f ∙ (let z : k + 1 + length mid ≡ k + suc (length mid) = omega arith in ap Some z)

  part_before : (k : ℕ) (mid post : List Row) (t : ℕ) → any is_type_row mid ≡ false → any hit mid ≡ true → part_from hit k (mid ++ post) ≡ Some t →
      t < k + length mid
  unfolding part_from any
  part_before k [] post t u e f = contradiction false refl e
  part_before k (x ∷ mid) post t u e f = go (is_type_row x) (hit x) u e f (part_before (k + 1) mid post t)
    where
      go : (a b : Bool) → choose a true (any is_type_row mid) ≡ false → choose b true (any hit mid) ≡ true →
          choose a None (choose b (Some k) (part_from hit (k + 1) (mid ++ post))) ≡ Some t →
          (any is_type_row mid ≡ false → any hit mid ≡ true → part_from hit (k + 1) (mid ++ post) ≡ Some t → t < k + 1 + length mid) → t < k + suc (length mid)
      go true b u e f ih = contradiction false refl (sym u)
      go false true u e f ih = let q : k ≡ t = cc in omega arith
      go false false u e f ih = let l = ih u e f in omega arith

  part_stopped : (k : ℕ) (mid : List Row) (r : Row) (post : List Row) (j : ℕ) → is_type_row r ≡ true → part_from hit k (mid ++ (r ∷ post)) ≡ Some j →
      j < k + length mid
  unfolding part_from
  part_stopped k [] r post j t e = never (rw t at e)
  part_stopped k (x ∷ mid) r post j t e = go (is_type_row x) (hit x) e (part_stopped (k + 1) mid r post j t)
    where
      go : (a b : Bool) → choose a None (choose b (Some k) (part_from hit (k + 1) (mid ++ (r ∷ post)))) ≡ Some j →
          (part_from hit (k + 1) (mid ++ (r ∷ post)) ≡ Some j → j < k + 1 + length mid) → j < k + suc (length mid)
      go true b e ih = never e
      go false true e ih = let q : k ≡ j = cc in omega arith
      go false false e ih = let l = ih e in omega arith

  part_later : (k : ℕ) (xs : List Row) (j : ℕ) → part_from hit k xs ≡ Some j → k ≤ j
  unfolding part_from
  part_later k [] j e = never e
  part_later k (x ∷ xs) j e = go (is_type_row x) (hit x) e (part_later (k + 1) xs j)
    where
      go : (a b : Bool) → choose a None (choose b (Some k) (part_from hit (k + 1) xs)) ≡ Some j → (part_from hit (k + 1) xs ≡ Some j → k + 1 ≤ j) → k ≤ j
      go true b e ih = never e
      go false true e ih = let q : k ≡ j = cc in omega arith
      go false false e ih = let l = ih e in omega arith

  module _ (meant : Row → Bool) where
    located_first : (k : ℕ) (pre : List Row) (r : Row) (post : List Row) → any meant pre ≡ false → meant r ≡ true →
        located_from meant hit k (pre ++ (r ∷ post)) ≡ located (Some (k + length pre)) (part_from hit (k + length pre + 1) post)
    unfolding located_from any
    located_first k [] r post e f = rw f (let z : k ≡ k + 0 = omega arith in ap (λ (m : ℕ). located (Some m) (part_from hit (m + 1) post)) z)
    located_first k (x ∷ pre) r post e f = go (meant x) e (located_first (k + 1) pre r post)
      where
        go : (b : Bool) → choose b true (any meant pre) ≡ false →
            (any meant pre ≡ false → meant r ≡ true →
            located_from meant hit (k + 1) (pre ++ (r ∷ post)) ≡ located (Some (k + 1 + length pre)) (part_from hit (k + 1 + length pre + 1) post)) →
            choose b (located (Some k) (part_from hit (k + 1) (pre ++ (r ∷ post)))) (located_from meant hit (k + 1) (pre ++ (r ∷ post))) ≡
            located (Some (k + suc (length pre))) (part_from hit (k + suc (length pre) + 1) post)
        go true e ih = contradiction false refl (sym e)
        go false e ih =
            ih e f ∙ (let z : k + 1 + length pre ≡ k + suc (length pre) = omega arith in ap (λ (m : ℕ). located (Some m) (part_from hit (m + 1) post)) z)

    -- Where an earlier row is meant, a type row bounds what is found.
    located_stopped : (k : ℕ) (pre : List Row) (r : Row) (post : List Row) (j : ℕ) → any meant pre ≡ true → is_type_row r ≡ true →
        (located_from meant hit k (pre ++ (r ∷ post))).part ≡ Some j → j < k + length pre
    unfolding located_from any
    located_stopped k [] r post j m t e = contradiction false refl m
    located_stopped k (x ∷ pre) r post j m t e = go (meant x) m e (located_stopped (k + 1) pre r post j)
      where
        go : (b : Bool) → choose b true (any meant pre) ≡ true →
            (choose b (located (Some k) (part_from hit (k + 1) (pre ++ (r ∷ post)))) (located_from meant hit (k + 1) (pre ++ (r ∷ post)))).part ≡ Some j →
            (any meant pre ≡ true → is_type_row r ≡ true → (located_from meant hit (k + 1) (pre ++ (r ∷ post))).part ≡ Some j → j < k + 1 + length pre) →
            j < k + suc (length pre)
        go true m e ih = let l = part_stopped (k + 1) pre r post j t e in omega arith
        go false m e ih = let l = ih m t e in omega arith

    -- Where only type rows are meant and there are none, what is found comes later.
    located_later : (k : ℕ) (xs : List Row) (j : ℕ) → (located_from meant hit k xs).part ≡ Some j → k < j
    unfolding located_from
    located_later k [] j e = never e
    located_later k (x ∷ xs) j e = go (meant x) e (located_later (k + 1) xs j)
      where
        go : (b : Bool) → (choose b (located (Some k) (part_from hit (k + 1) xs)) (located_from meant hit (k + 1) xs)).part ≡ Some j →
            ((located_from meant hit (k + 1) xs).part ≡ Some j → k + 1 < j) → k < j
        go true e ih = let l = part_later (k + 1) xs j e in omega arith
        go false e ih = let l = ih e in omega arith

    located_after : ((x : Row) → is_type_row x ≡ false → meant x ≡ false) → (k : ℕ) (pre post : List Row) (j : ℕ) → any is_type_row pre ≡ false →
        (located_from meant hit k (pre ++ post)).part ≡ Some j → k + length pre < j
    unfolding located_from any
    located_after w k [] post j t e = let l = located_later k post j e in omega arith
    located_after w k (x ∷ pre) post j t e = go (is_type_row x) refl t (located_after w (k + 1) pre post j)
      where
        go : (b : Bool) → is_type_row x ≡ b → choose b true (any is_type_row pre) ≡ false →
            (any is_type_row pre ≡ false → (located_from meant hit (k + 1) (pre ++ post)).part ≡ Some j → k + 1 + length pre < j) → k + suc (length pre) < j
        go true s t ih = contradiction false refl (sym t)
        go false s t ih = let l = ih t (rw (w x s) at e) in omega arith

-- ---- Lent rows.

module _ (rows : List ℕ) (i : ℕ) (h : i < length rows / 3) where
  pub taken_length : length (take i (lent_rows rows)) ≡ i
  taken_length = length-take-le i (lent_rows rows) (let l = length_rows rows in omega arith)

  pub rows_split : lent_rows rows ≡ take i (lent_rows rows) ++ (row_at rows i ∷ drop (i + 1) (lent_rows rows))
  rows_split = sym (take-append-drop i (lent_rows rows)) ∙ ap (λ (l : List Row). take i (lent_rows rows) ++ l) (row_next rows i h)

  pub rows_split_under : (t : ℕ) → t < i → drop (t + 1) (lent_rows rows) ≡ drop (t + 1) (take i (lent_rows rows)) ++ (row_at rows i ∷ drop (i + 1) (lent_rows rows))
  rows_split_under t l =
      ap (drop (t + 1)) rows_split ∙ drop-append-le (t + 1) (take i (lent_rows rows)) (row_at rows i ∷ drop (i + 1) (lent_rows rows))
      (let k = taken_length in omega arith)

module _ (cs : List NamedCard) (rows : List ℕ) (i : ℕ) where
  own_type : is_type (get_or rows (3 * i) 0) ≡ true → is_type_row_named cs (named cs (row_at rows i)) (row_at rows i) ≡ true
  unfolding is_type_row_named is_type_row is_row_named
  own_type e = rw (e, same_name_refl (named cs (row_at rows i)))

  own_part : get_or rows (3 * i) 0 ≡ 21 → is_part_named cs 21 (named cs (row_at rows i)) (row_at rows i) ≡ true
  unfolding is_part_named is_row_of is_row_named
  own_part e = rw (eq-eqb (get_or rows (3 * i) 0) 21 e, same_name_refl (named cs (row_at rows i)))

  own_no_type : get_or rows (3 * i) 0 ≡ 21 → is_type_row (row_at rows i) ≡ false
  unfolding is_type_row is_type
  own_no_type e = rw e

-- One search tells whether an interface counts.
module _ (text words rows : List ℕ) (t i : ℕ) (h : i < length rows / 3) (e : get_or rows (3 * i) 0 ≡ 21)
    (owner name : List ℕ) (m : owner ≡ card_name text words (get_or rows (3 * t + 1) 0)) (n : name ≡ card_name text words (get_or rows (3 * i + 1) 0))
    (l : Located) (f : l ≡ located_from (is_type_row_named (stored_parts text words) owner) (is_part_named (stored_parts text words) 21 name) 0 (lent_rows rows)) where
  abbrev meant : Row → Bool
  meant = is_type_row_named (stored_parts text words) (named (stored_parts text words) (row_at rows t))

  abbrev hit : Row → Bool
  hit = is_part_named (stored_parts text words) 21 (named (stored_parts text words) (row_at rows i))

  searched : l.part ≡ (located_from meant hit 0 (lent_rows rows)).part
  searched =
      ap (λ (l : Located). l.part) (
      f ∙ (λ j. located_from (is_type_row_named (stored_parts text words) ((m ∙ sym (name_stored text words (get_or rows (3 * t + 1) 0))) j))
      (is_part_named (stored_parts text words) 21 ((n ∙ sym (name_stored text words (get_or rows (3 * i + 1) 0))) j)) 0 (lent_rows rows)))

  part_of : (rs : List Row) → lent_rows rows ≡ rs → l.part ≡ (located_from meant hit 0 rs).part
  part_of rs q = searched ∙ ap (λ (rs : List Row). (located_from meant hit 0 rs).part) q

  -- Where no type row stands before it, what is found stands after it.
  found_after : any is_type_row (take i (lent_rows rows)) ≡ false → (k : ℕ) → l.part ≡ Some k → i < k
  found_after s k p =
      let q = located_after hit meant typed 0 (take i (lent_rows rows)) (drop i (lent_rows rows)) k s
      (sym (part_of _ (sym (take-append-drop i (lent_rows rows)))) ∙ p) in
      let a = taken_length rows i h in
      omega arith
    where
      typed : (x : Row) → is_type_row x ≡ false → meant x ≡ false
      typed x s = unfold is_type_row_named in rw s

  module _ (below : t < i) where
    split : lent_rows rows ≡ take t (lent_rows rows) ++ (row_at rows t ∷ drop (t + 1) (lent_rows rows))
    split = rows_split rows t (omega arith)

    before_length : length (take t (lent_rows rows)) ≡ t
    before_length = taken_length rows t (omega arith)

    -- Where an earlier type row has the name, what is found stands before the type row.
    found_before : is_type (get_or rows (3 * t) 0) ≡ true → any meant (take t (lent_rows rows)) ≡ true → (k : ℕ) → l.part ≡ Some k → k < t
    unfolding is_type_row
    found_before s u k p =
        let q = located_stopped hit meant 0 (take t (lent_rows rows)) (row_at rows t) (drop (t + 1) (lent_rows rows)) k u s (sym (part_of _ split) ∙ p) in
        let a = before_length in
        omega arith

  -- Where it is the first of its name, the search looks at the rows under it.
  module _ (o : OwnerAt (stored_parts text words) rows t i) where
    abbrev between : List Row
    between = drop (t + 1) (take i (lent_rows rows))

    part_is : l.part ≡ part_from hit (t + 1) (between ++ (row_at rows i ∷ drop (i + 1) (lent_rows rows)))
    part_is =
        let q = located_first hit meant 0 (take t (lent_rows rows)) (row_at rows t) (drop (t + 1) (lent_rows rows)) o.first
        (own_type (stored_parts text words) rows t o.type) in
        let z : 0 + length (take t (lent_rows rows)) + 1 ≡ t + 1 = (let a = before_length o.before in omega arith) in
        part_of _ (split o.before)
        ∙ ap (λ (l : Located). l.part) q
        ∙ (λ j. part_from hit (z j) (rows_split_under rows i h t o.before j))

    between_length : t + 1 + length between ≡ i
    between_length = let a = length-drop (t + 1) (take i (lent_rows rows)) in let b = taken_length rows i h in let c = o.before in omega arith

    listed_first : any hit between ≡ false → l.part ≡ Some i
    listed_first s =
        part_is ∙ part_first hit (t + 1) between (row_at rows i) (drop (i + 1) (lent_rows rows)) o.between (own_no_type (stored_parts text words) rows i e) s
        (own_part (stored_parts text words) rows i e) ∙ ap Some between_length

    listed_none : l.part ≡ None → false ≡ not (any hit between)
    listed_none p = go (any hit between) refl
      where
        go : (b : Bool) → any hit between ≡ b → false ≡ not b
        go true s = refl
        go false s = never_row (sym (listed_first s) ∙ p)

    listed_some : (k : ℕ) → l.part ≡ Some k → eqb k i ≡ not (any hit between)
    listed_some k p = go (any hit between) refl
      where
        go : (b : Bool) → any hit between ≡ b → eqb k i ≡ not b
        go true s =
            let b = part_before hit (t + 1) between (row_at rows i ∷ drop (i + 1) (lent_rows rows)) k o.between s (sym part_is ∙ p) in
            ne_eqb k i (let c = between_length in omega arith)
        go false s = let q : Some k ≡ Some i = sym p ∙ listed_first s in let z : k ≡ i = cc in eq-eqb k i z

  module _ (o : LastType rows t i) where
    owned : is_type (get_or rows (3 * t) 0) ≡ true → ltb t i ≡ true → any meant (take t (lent_rows rows)) ≡ false → OwnerAt (stored_parts text words) rows t i
    owned s u v = record { before = ltb-true t i u; type = s; first = v; between = o.between }

    -- A type row is not the interface.
    other_row : is_type (get_or rows (3 * t) 0) ≡ true → ltb t i ≡ true
    unfolding is_type
    other_row s = go (ltb t i) refl
      where
        go : (b : Bool) → ltb t i ≡ b → ltb t i ≡ true
        go true u = u
        go false u =
            let z : t ≡ i = (let a = ltb-false t i u in let b = o.before in omega arith) in
            let q : get_or rows (3 * t) 0 ≡ 21 = ap (λ (k : ℕ). get_or rows (3 * k) 0) z ∙ e in
            contradiction false refl (rw q at s)

    interface_none : l.part ≡ None → false ≡ is_listed (stored_parts text words) rows (owner_of (stored_parts text words) rows t i) i
    unfolding owner_of first_type
    interface_none p = go (is_type (get_or rows (3 * t) 0)) (ltb t i) (any meant (take t (lent_rows rows))) refl refl refl
      where
        go : (a b c : Bool) → is_type (get_or rows (3 * t) 0) ≡ a → ltb t i ≡ b → any meant (take t (lent_rows rows)) ≡ c →
            false ≡ is_listed (stored_parts text words) rows (choose (a && b) (choose c None (Some t)) None) i
        go true true false s u v = listed_none (owned s u v) p
        go true true true s u v = refl
        go true false c s u v = refl
        go false b c s u v = refl

    interface_some : (k : ℕ) → l.part ≡ Some k → eqb k i ≡ is_listed (stored_parts text words) rows (owner_of (stored_parts text words) rows t i) i
    unfolding owner_of first_type
    interface_some k p = go (is_type (get_or rows (3 * t) 0)) (ltb t i) (any meant (take t (lent_rows rows))) refl refl refl
      where
        go : (a b c : Bool) → is_type (get_or rows (3 * t) 0) ≡ a → ltb t i ≡ b → any meant (take t (lent_rows rows)) ≡ c →
            eqb k i ≡ is_listed (stored_parts text words) rows (choose (a && b) (choose c None (Some t)) None) i
        go true true false s u v = listed_some (owned s u v) k p
        go true true true s u v = ne_eqb k i (let a = ltb-true t i u in let b = found_before a s v k p in omega arith)
        go true false c s u v = contradiction false refl (sym u ∙ other_row s)
        go false b c s u v = ne_eqb k i (let a = found_after (o.outside s) k p in omega arith)

    -- Whether it is the row that was found.
    pub interface_told : (p : Place ℕ) → l.part ≡ p → option_eq eqb p (Some i) ≡ is_listed (stored_parts text words) rows (owner_of (stored_parts text words) rows t i) i
    interface_told None e = interface_none e
    interface_told (Some k) e = interface_some k e
