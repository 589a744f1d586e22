-- All groups: the turns of the walk over the pairs, what they come to, and that they fit.
use mathlib.Core.Path.{◌≡◌, refl, sym, ◌∙◌, ap}
use mathlib.Core.List.{List, [], ◌∷◌, ◌++◌, map}
use mathlib.Core.Bool.{Bool, true, false, not}
use mathlib.Core.Option.{Option, none, some}
use Prim.Native.Nat.{ℕ, suc, ◌+◌, ◌*◌, ◌/◌, ◌≤◌, ◌<◌}
use native.Mathlib.Omega.{arith}
use borrow.Author.Tests.{eq-eqb, eqb-true, eqb-false, not-true, not-false}
use lib.Dec.{eqb}
use lib.ListN.{length, length-map, take, drop, length-append}
use Rattle.definition.specs.Lists.{choose, any, filter, firsts, flat_map, written, All}
use Rattle.definition.specs.Answers.{absent}
use Rattle.definition.specs.Cards.{is_root}
use Rattle.definition.specs.Headings.{NamedCard}
use Rattle.definition.specs.Catalogue.{Row}
use Rattle.definition.specs.Refusals.{card_capacity, groups_capacity}
use Rattle.definition.specs.Store.{account_in, sound}
use Rattle.definition.specs.LentRows.{held, lent_rows, is_row_named, is_type_row, is_type_row_named, is_default_root, card_passes, rows_refusal}
use Rattle.definition.specs.Lookups.{is_row_of, is_part_named, origin_of, Implementing, same_interface, all_implementing, same_group}
use Rattle.definition.specs.Lookups.{is_implementing, type_card, group_of, groups, group_words}
use Rattle.name.proofs.Laws.{same_sym}
use Rattle.store_reader.specs.Stored.{stored_parts}
use Rattle.store_reader.proofs.Laws.{held_stored}
use Rattle.schema_rows.specs.Passing.{row_passes}
use Rattle.schema_rows.specs.Rows.{row_at}
use Rattle.schema_rows.proofs.Rows.{row_next, row_end, contradiction, taken_next}
use Rattle.schema_rows.proofs.Passing.{row_passed}
use Rattle.schema_rows.proofs.RowsWithCards.{cards_of, cards_without, cards_with, accepted, cards_capacity}
use Rattle.definition.proofs.All.{all_to}
use Rattle.definition.proofs.BuiltWords.{words_length, rows_back}
use Rattle.definition.proofs.Lists.{map_append}
use Rattle.definition.proofs.Sums.{length_kept}
use Rattle.schema_rows.proofs.Walk.{any_snoc}
use Rattle.schema.specs.Gather.{news, gather, as_row, pair_words, pairs_capacity}
use Rattle.schema.specs.Owners.{named}
use Rattle.schema.specs.Groups.{implementers_named, pair_group, pair_groups}
use Rattle.schema.proofs.Gather.{news_nil, news_old, news_new, news_firsts, interfaces_same, gather_type, gather_outside}
use Rattle.schema.proofs.Gather.{gather_other, gather_again, gather_new, gather_nil, gather_all}

-- ---- The turns.

module _ (cs : List NamedCard) (pairs : List ℕ) (i : ℕ) where
  pub new_end : length pairs / 3 ≤ i → news (same_interface cs) (take i (lent_rows pairs)) (drop i (lent_rows pairs)) ≡ []
  new_end h = ap (news (same_interface cs) (take i (lent_rows pairs))) (row_end pairs i h) ∙ news_nil (same_interface cs) (take i (lent_rows pairs))

  module _ (h : i < length pairs / 3) where
    pub new_over : false ≡ not (any (same_interface cs (row_at pairs i)) (take i (lent_rows pairs))) →
        news (same_interface cs) (take i (lent_rows pairs)) (drop i (lent_rows pairs))
        ≡ news (same_interface cs) (take (i + 1) (lent_rows pairs)) (drop (i + 1) (lent_rows pairs))
    new_over e =
        ap (news (same_interface cs) (take i (lent_rows pairs))) (row_next pairs i h)
        ∙ news_old (same_interface cs) (take i (lent_rows pairs)) (row_at pairs i) (drop (i + 1) (lent_rows pairs)) (not-false _ (sym e))
        ∙ ap (λ (l : List Row). news (same_interface cs) l (drop (i + 1) (lent_rows pairs))) (sym (taken_next pairs i h))

    pub new_here : true ≡ not (any (same_interface cs (row_at pairs i)) (take i (lent_rows pairs))) →
        news (same_interface cs) (take i (lent_rows pairs)) (drop i (lent_rows pairs)) ≡
        row_at pairs i ∷ news (same_interface cs) (take (i + 1) (lent_rows pairs)) (drop (i + 1) (lent_rows pairs))
    new_here e =
        ap (news (same_interface cs) (take i (lent_rows pairs))) (row_next pairs i h)
        ∙ news_new (same_interface cs) (take i (lent_rows pairs)) (row_at pairs i) (drop (i + 1) (lent_rows pairs)) (not-true _ (sym e))
        ∙ ap (λ (l : List Row). row_at pairs i ∷ news (same_interface cs) l (drop (i + 1) (lent_rows pairs))) (sym (taken_next pairs i h))

-- ---- The pairs are read back as they were written.

pub pair_rows : (is : List Implementing) → lent_rows (pair_words is) ≡ map as_row is
unfolding pair_words
pair_rows is = rows_back (map as_row is)

pub pair_length : (is : List Implementing) → length (pair_words is) ≡ 3 * length is
unfolding pair_words
pair_length is = let a = words_length (map as_row is) in let b = length-map is as_row in omega arith

-- ---- The groups of the pairs are the groups.

filter_map : {A B : Type 0} (f : A → B) (p : A → Bool) (q : B → Bool) → ((x : A) → q (f x) ≡ p x) → (xs : List A) → filter q (map f xs) ≡ map f (filter p xs)
unfolding filter
filter_map f p q h [] = refl
filter_map {A} {B} f p q h (x ∷ xs) = ap (λ (b : Bool). choose b (f x ∷ filter q (map f xs)) (filter q (map f xs))) (h x) ∙ go (p x) (filter_map f p q h xs)
  where
    go : (b : Bool) → filter q (map f xs) ≡ map f (filter p xs) →
        choose b (f x ∷ filter q (map f xs)) (filter q (map f xs)) ≡ map f (choose b (x ∷ filter p xs) (filter p xs))
    go true ih = ap (λ (l : List B). f x ∷ l) ih
    go false ih = ih

any_map : {A B : Type 0} (f : A → B) (p : A → Bool) (q : B → Bool) → ((x : A) → q (f x) ≡ p x) → (xs : List A) → any q (map f xs) ≡ any p xs
unfolding any
any_map f p q h [] = refl
any_map f p q h (x ∷ xs) = λ j. choose (h x j) true (any_map f p q h xs j)

firsts_map : {A B : Type 0} (f : A → B) (a : A → A → Bool) (b : B → B → Bool) → ((x y : A) → b (f x) (f y) ≡ a x y) → (seen xs : List A) →
    firsts b (map f seen) (map f xs) ≡ map f (firsts a seen xs)
unfolding firsts
firsts_map f a b h seen [] = refl
firsts_map {A} {B} f a b h seen (x ∷ xs) =
    ap (λ (t : Bool). choose t (firsts b (map f seen) (map f xs)) (f x ∷ firsts b (map f seen ++ (f x ∷ [])) (map f xs))) (any_map f (a x) (b (f x)) (h x) seen)
    ∙ go (any (a x) seen) (firsts_map f a b h seen xs)
    (ap (λ (l : List B). firsts b l (map f xs)) (sym (map_append f seen (x ∷ []))) ∙ firsts_map f a b h (seen ++ (x ∷ [])) xs)
  where
    go : (t : Bool) → firsts b (map f seen) (map f xs) ≡ map f (firsts a seen xs) →
        firsts b (map f seen ++ (f x ∷ [])) (map f xs) ≡ map f (firsts a (seen ++ (x ∷ [])) xs) →
        choose t (firsts b (map f seen) (map f xs)) (f x ∷ firsts b (map f seen ++ (f x ∷ [])) (map f xs))
        ≡ map f (choose t (firsts a seen xs) (x ∷ firsts a (seen ++ (x ∷ [])) xs))
    go true s n = s
    go false s n = ap (λ (l : List B). f x ∷ l) n

module _ (cs : List NamedCard) where
  same_groups : (i j : Implementing) → same_interface cs (as_row i) (as_row j) ≡ same_group cs i j
  unfolding same_interface same_group is_row_named as_row
  same_groups i j = refl

  firsts_are : (is : List Implementing) → news (same_interface cs) [] (map as_row is) ≡ map as_row (firsts (same_group cs) [] is)
  firsts_are is = news_firsts (same_interface cs) (interfaces_same cs) (map as_row is) ∙ firsts_map as_row (same_group cs) (same_interface cs) same_groups [] is

  module _ (is : List Implementing) (i : Implementing) where
    named_are : filter (is_row_named cs (named cs (as_row i))) (map as_row is) ≡ map as_row (filter (same_group cs i) is)
    named_are = filter_map as_row (same_group cs i) (is_row_named cs (named cs (as_row i))) (λ j. told j) is
      where
        told : (j : Implementing) → is_row_named cs (named cs (as_row i)) (as_row j) ≡ same_group cs i j
        told j = unfold same_group same_interface is_row_named as_row in refl

    kinds_are : (k : ℕ) → length (filter (is_row_of k) (map as_row (filter (same_group cs i) is))) ≡ length (filter (is_implementing k) (filter (same_group cs i) is))
    kinds_are k =
        ap length (filter_map as_row (is_implementing k) (is_row_of k) (λ j. told j) (filter (same_group cs i) is))
        ∙ length-map (filter (is_implementing k) (filter (same_group cs i) is)) as_row
      where
        told : (j : Implementing) → is_row_of k (as_row j) ≡ is_implementing k j
        told j = unfold is_row_of is_implementing as_row in refl

    cards_are : (js : List Implementing) → map origin_of (map as_row js) ≡ map type_card js
    unfolding origin_of as_row type_card
    cards_are [] = refl
    cards_are (j ∷ js) = ap (λ (l : List ℕ). j.type.card ∷ l) (cards_are js)

    group_is : pair_group cs (map as_row is) (as_row i) ≡ group_words (group_of cs is i)
    unfolding pair_group implementers_named group_words group_of
    group_is = rw (named_are, kinds_are 6, kinds_are 7, cards_are (filter (same_group cs i) is)) (unfold as_row in refl)

  flat_is : (is js : List Implementing) → flat_map (pair_group cs (map as_row is)) (map as_row js) ≡ flat_map group_words (map (group_of cs is) js)
  unfolding flat_map
  flat_is is [] = refl
  flat_is is (j ∷ js) = λ t. group_is is j t ++ flat_is is js t

  module _ (rs : List Row) where
    pub groups_are : pair_groups cs (map as_row (all_implementing cs rs)) ≡ flat_map group_words (groups cs rs)
    unfolding pair_groups groups
    groups_are =
        ap (flat_map (pair_group cs (map as_row (all_implementing cs rs)))) (firsts_are (all_implementing cs rs))
        ∙ flat_is (all_implementing cs rs) (firsts (same_group cs) [] (all_implementing cs rs))

    pub groups_count : length (news (same_interface cs) [] (map as_row (all_implementing cs rs))) ≡ length (groups cs rs)
    unfolding groups
    groups_count =
        ap length (firsts_are (all_implementing cs rs))
        ∙ length-map (firsts (same_group cs) [] (all_implementing cs rs)) as_row
        ∙ sym (length-map (firsts (same_group cs) [] (all_implementing cs rs)) (group_of cs (all_implementing cs rs)))

-- ---- They fit: every pair is in one group.

module _ (cs : List NamedCard) where
  alike_sym : (x y : Row) → same_interface cs x y ≡ same_interface cs y x
  unfolding same_interface is_row_named
  alike_sym x y = same_sym (named cs x) (named cs y)

  abbrev Distinct : List Row → Type 0
  Distinct [] = Unit {0}
  Distinct (x ∷ xs) = All (λ y. same_interface cs x y ≡ false) xs × Distinct xs

  -- What is kept is like nothing seen, nor like one another.
  snoc_head : (y : Row) (seen : List Row) (x : Row) → any (same_interface cs y) (seen ++ (x ∷ [])) ≡ false → (any (same_interface cs y) seen ≡ false)
      × (same_interface cs y x ≡ false)
  snoc_head y seen x e = go (same_interface cs y x) refl (sym (any_snoc (same_interface cs y) seen x) ∙ e)
    where
      go : (b : Bool) → same_interface cs y x ≡ b → choose (same_interface cs y x) true (any (same_interface cs y) seen) ≡ false →
          (any (same_interface cs y) seen ≡ false) × (same_interface cs y x ≡ false)
      go true t e = let z : true ≡ false = (rw t at e) in contradiction true (sym z) refl
      go false t e = (rw t at e, t)

  kept_new : (seen xs : List Row) → All (λ y. any (same_interface cs y) seen ≡ false) (firsts (same_interface cs) seen xs)
  unfolding firsts
  kept_new seen [] = tt
  kept_new seen (x ∷ xs) = go (any (same_interface cs x) seen) refl (kept_new seen xs) (kept_new (seen ++ (x ∷ [])) xs)
    where
      go : (b : Bool) → any (same_interface cs x) seen ≡ b → All (λ y. any (same_interface cs y) seen ≡ false) (firsts (same_interface cs) seen xs) →
          All (λ y. any (same_interface cs y) (seen ++ (x ∷ [])) ≡ false) (firsts (same_interface cs) (seen ++ (x ∷ [])) xs) →
          All (λ y. any (same_interface cs y) seen ≡ false) (choose b (firsts (same_interface cs) seen xs) (x ∷ firsts (same_interface cs) (seen ++ (x ∷ [])) xs))
      go true t s n = s
      go false t s n = (
        t,
        all_to (λ y. any (same_interface cs y) (seen ++ (x ∷ [])) ≡ false) (λ y. any (same_interface cs y) seen ≡ false) (λ y e. (snoc_head y seen x e).0)
            (firsts (same_interface cs) (seen ++ (x ∷ [])) xs) n,
      )

  kept_distinct : (seen xs : List Row) → Distinct (firsts (same_interface cs) seen xs)
  unfolding firsts
  kept_distinct seen [] = tt
  kept_distinct seen (x ∷ xs) =
      go (any (same_interface cs x) seen) (kept_distinct seen xs) (kept_distinct (seen ++ (x ∷ [])) xs) (kept_new (seen ++ (x ∷ [])) xs)
    where
      go : (b : Bool) → Distinct (firsts (same_interface cs) seen xs) → Distinct (firsts (same_interface cs) (seen ++ (x ∷ [])) xs) →
          All (λ y. any (same_interface cs y) (seen ++ (x ∷ [])) ≡ false) (firsts (same_interface cs) (seen ++ (x ∷ [])) xs) →
          Distinct (choose b (firsts (same_interface cs) seen xs) (x ∷ firsts (same_interface cs) (seen ++ (x ∷ [])) xs))
      go true s n k = s
      go false s n k = (
        all_to (λ y. any (same_interface cs y) (seen ++ (x ∷ [])) ≡ false) (λ y. same_interface cs x y ≡ false)
            (λ y e. alike_sym x y ∙ (snoc_head y seen x e).1) (firsts (same_interface cs) (seen ++ (x ∷ [])) xs) k,
        n,
      )

  -- How many of a list are like y.
  likes : Row → List Row → ℕ
  likes y [] = 0
  likes y (x ∷ xs) = choose (same_interface cs x y) (suc (likes y xs)) (likes y xs)

  likes_none : (x y : Row) → same_interface cs x y ≡ true → (xs : List Row) → All (λ z. same_interface cs x z ≡ false) xs → likes y xs ≡ 0
  unfolding likes
  likes_none x y e [] a = refl
  likes_none x y e (z ∷ xs) a = go (same_interface cs z y) refl (likes_none x y e xs a.1)
    where
      go : (b : Bool) → same_interface cs z y ≡ b → likes y xs ≡ 0 → choose b (suc (likes y xs)) (likes y xs) ≡ 0
      go true t ih =
          let p : same_interface cs x ≡ same_interface cs y = interfaces_same cs x y e in
          let q : same_interface cs x z ≡ true = ap (λ (f : Row → Bool). f z) p ∙ alike_sym y z ∙ t in
          contradiction (same_interface cs x z) (sym a.0) q
      go false t ih = ih

  likes_one : (y : Row) (xs : List Row) → Distinct xs → likes y xs ≤ 1
  unfolding likes
  likes_one y [] d = omega arith
  likes_one y (x ∷ xs) d = go (same_interface cs x y) refl (likes_one y xs d.1)
    where
      go : (b : Bool) → same_interface cs x y ≡ b → likes y xs ≤ 1 → choose b (suc (likes y xs)) (likes y xs) ≤ 1
      go true t ih = let z = likes_none x y t xs d.0 in omega arith
      go false t ih = ih

  -- The members of all groups together.
  members : List Row → List Row → ℕ
  members [] ps = 0
  members (x ∷ xs) ps = length (filter (same_interface cs x) ps) + members xs ps

  members_none : (xs : List Row) → members xs [] ≡ 0
  unfolding members filter
  members_none [] = refl
  members_none (x ∷ xs) = let ih = members_none xs in omega arith

  members_more : (xs : List Row) (y : Row) (ps : List Row) → members xs (y ∷ ps) ≡ likes y xs + members xs ps
  unfolding members likes filter
  members_more [] y ps = refl
  members_more (x ∷ xs) y ps = go (same_interface cs x y) (members_more xs y ps)
    where
      go : (b : Bool) → members xs (y ∷ ps) ≡ likes y xs + members xs ps →
          length (choose b (y ∷ filter (same_interface cs x) ps) (filter (same_interface cs x) ps)) + members xs (y ∷ ps) ≡
          choose b (suc (likes y xs)) (likes y xs) + (length (filter (same_interface cs x) ps) + members xs ps)
      go true ih = omega arith
      go false ih = omega arith

  members_fit : (xs ps : List Row) → Distinct xs → members xs ps ≤ length ps
  members_fit xs [] d = let e = members_none xs in omega arith
  members_fit xs (y ∷ ps) d =
      let e = members_more xs y ps in
      let o = likes_one y xs d in
      let ih = members_fit xs ps d in
      omega arith

  words_are : (ps xs : List Row) → length (flat_map (pair_group cs ps) xs) ≡ 3 * length xs + members xs ps
  unfolding flat_map members
  words_are ps [] = refl
  words_are ps (x ∷ xs) = length-append (pair_group cs ps x) (flat_map (pair_group cs ps) xs) ∙ (let a = one x in let ih = words_are ps xs in omega arith)
    where
      one : (x : Row) → length (pair_group cs ps x) ≡ 3 + length (filter (same_interface cs x) ps)
      one x = unfold pair_group implementers_named same_interface in (let k = length-map (filter (is_row_named cs (named cs x)) ps) origin_of in omega arith)

  pub groups_fit : (ps : List Row) → length (pair_groups cs ps) ≤ 4 * length ps
  unfolding pair_groups
  groups_fit ps =
      let e = ap (λ (l : List Row). length (flat_map (pair_group cs ps) l)) (news_firsts (same_interface cs) (interfaces_same cs) ps) in
      let a = words_are ps (firsts (same_interface cs) [] ps) in
      let b = length_kept (same_interface cs) [] ps in
      let c = members_fit (firsts (same_interface cs) [] ps) ps (kept_distinct [] ps) in
      omega arith

-- ---- At most as many pairs as rows with a card.

module _ (cs : List NamedCard) (whole : List Row) where
  has_card_lem : (r : Row) → row_passes cs whole r ≡ true → is_row_of 21 r ≡ true → r.card ≡ absent → ⊥
  unfolding card_passes is_row_of is_default_root is_root
  has_card_lem r e f a =
      let w : r.what ≡ 21 = eqb-true r.what 21 f in
      let z : false ≡ true = (rw (eq-eqb r.card absent a, w) at (row_passed cs whole r e)) in
      let y : ◌≡◌ {A = ℕ} 0 1 = cc in
      omega arith

  shorter : (r : Row) (rs : List Row) → length (cards_of rs) ≤ length (cards_of (r ∷ rs))
  shorter r rs = go (eqb r.card absent) refl
    where
      go : (b : Bool) → eqb r.card absent ≡ b → length (cards_of rs) ≤ length (cards_of (r ∷ rs))
      go true s = let k = ap length (cards_without r rs (eqb-true r.card absent s)) in omega arith
      go false s = let k = ap length (cards_with r rs (eqb-false r.card absent s)) in omega arith

  gather_few : (pre mid : List Row) (o : Option Row) (rs : List Row) → All (λ r. row_passes cs whole r ≡ true) rs →
      length (gather cs pre mid o rs) ≤ length (cards_of rs)
  gather_few pre mid o [] a = let k = ap length (gather_nil cs pre mid o) in omega arith
  gather_few pre mid o (r ∷ rs) a =
      go o (is_type_row r) (is_row_of 21 r) (any (is_part_named cs 21 (named cs r)) mid) refl refl refl
      (λ m p. gather_few (pre ++ (r ∷ [])) m p rs a.1)
    where
      go : (o : Option Row) (x y z : Bool) → is_type_row r ≡ x → is_row_of 21 r ≡ y → any (is_part_named cs 21 (named cs r)) mid ≡ z →
          ((m : List Row) (p : Option Row) → length (gather cs (pre ++ (r ∷ [])) m p rs) ≤ length (cards_of rs)) →
          length (gather cs pre mid o (r ∷ rs)) ≤ length (cards_of (r ∷ rs))
      go o true y z s t u ih =
          let k = ap length (gather_type cs pre mid r rs o s) in
          let i = ih [] (choose (any (is_type_row_named cs (named cs r)) pre) none (some r)) in let l = shorter r rs in omega arith
      go none false y z s t u ih = let k = ap length (gather_outside cs pre mid r rs s) in let i = ih [] none in let l = shorter r rs in omega arith
      go (some p) false false z s t u ih =
          let k = ap length (gather_other cs pre mid r rs s p t) in let i = ih (mid ++ (r ∷ [])) (some p) in let l = shorter r rs in omega arith
      go (some p) false true true s t u ih =
          let k = ap length (gather_again cs pre mid r rs s p t u) in let i = ih (mid ++ (r ∷ [])) (some p) in let l = shorter r rs in omega arith
      go (some p) false true false s t u ih =
          let k = ap length (gather_new cs pre mid r rs s p t u) in
          let i = ih (mid ++ (r ∷ [])) (some p) in
          let l = ap length (cards_with r rs (has_card_lem r a.0 t)) in
          omega arith

pub implementing_few : (text words rows : List ℕ) → sound text words ≡ true → rows_refusal (account_in text words).documents rows ≡ 0 →
    length (all_implementing (stored_parts text words) (lent_rows rows)) ≤ card_capacity
implementing_few text words rows ok e =
    let a = accepted text words rows ok e in
    let b = cards_capacity text words rows ok a in
    let c = gather_few (stored_parts text words) (lent_rows rows) [] [] none (lent_rows rows) a.each in
    let d = ap length (gather_all (stored_parts text words) (lent_rows rows)) in
    omega arith

-- ---- The same as words.

unfoldable pub groups_left : List NamedCard → List ℕ → ℕ → List ℕ
groups_left cs pairs i = flat_map (pair_group cs (lent_rows pairs)) (news (same_interface cs) (take i (lent_rows pairs)) (drop i (lent_rows pairs)))

unfoldable pub count_left : List NamedCard → List ℕ → ℕ → ℕ
count_left cs pairs i = length (news (same_interface cs) (take i (lent_rows pairs)) (drop i (lent_rows pairs)))

module _ (cs : List NamedCard) (pairs : List ℕ) where
  pub left_start : (groups_left cs pairs 0 ≡ pair_groups cs (lent_rows pairs)) × (count_left cs pairs 0 ≡ length (news (same_interface cs) [] (lent_rows pairs)))
  unfolding groups_left count_left pair_groups
  left_start = (refl, refl)

  module _ (i : ℕ) where
    pub left_end : length pairs / 3 ≤ i → (groups_left cs pairs i ≡ []) × (count_left cs pairs i ≡ 0)
    unfolding groups_left count_left flat_map
    left_end h = (ap (flat_map (pair_group cs (lent_rows pairs))) (new_end cs pairs i h), ap length (new_end cs pairs i h))

    module _ (h : i < length pairs / 3) where
      pub left_over : false ≡ not (any (same_interface cs (row_at pairs i)) (take i (lent_rows pairs))) →
          (groups_left cs pairs i ≡ groups_left cs pairs (i + 1)) × (count_left cs pairs i ≡ count_left cs pairs (i + 1))
      unfolding groups_left count_left
      left_over e = (ap (flat_map (pair_group cs (lent_rows pairs))) (new_over cs pairs i h e), ap length (new_over cs pairs i h e))

      pub left_here : true ≡ not (any (same_interface cs (row_at pairs i)) (take i (lent_rows pairs))) →
          (groups_left cs pairs i ≡ pair_group cs (lent_rows pairs) (row_at pairs i) ++ groups_left cs pairs (i + 1))
          × (count_left cs pairs i ≡ suc (count_left cs pairs (i + 1)))
      unfolding groups_left count_left flat_map
      left_here e = (ap (flat_map (pair_group cs (lent_rows pairs))) (new_here cs pairs i h e), ap length (new_here cs pairs i h e))

-- ---- What `implementers_map` leaves.

module _ (text words rows : List ℕ) (ok : sound text words ≡ true) (e : rows_refusal (account_in text words).documents rows ≡ 0) where
  pub pairs_fit : length (pair_words (all_implementing (stored_parts text words) (lent_rows rows))) ≤ pairs_capacity
  pairs_fit =
      let a = implementing_few text words rows ok e in
      let b = pair_length (all_implementing (stored_parts text words) (lent_rows rows)) in
      omega arith

  -- What was collected is lent again.
  module _ (lent : List ℕ) (lent_is : lent ≡ pair_words (all_implementing (stored_parts text words) (lent_rows rows))) where
    rows_are : lent_rows lent ≡ map as_row (all_implementing (stored_parts text words) (lent_rows rows))
    rows_are = ap lent_rows lent_is ∙ pair_rows (all_implementing (stored_parts text words) (lent_rows rows))

    pub lent_fits : length lent ≤ pairs_capacity
    lent_fits = let a = pairs_fit in let b = ap length lent_is in omega arith

    pub lent_capacity : (list : List ℕ) → groups_capacity ≤ length list → length (pair_groups (stored_parts text words) (lent_rows lent)) ≤ length list
    lent_capacity list h =
        let a = groups_fit (stored_parts text words) (lent_rows lent) in
        let b = ap length rows_are in
        let c = length-map (all_implementing (stored_parts text words) (lent_rows rows)) as_row in
        let d = implementing_few text words rows ok e in
        omega arith

    pub lent_groups : (r : ℕ) (list list' : List ℕ) → r ≡ length (news (same_interface (stored_parts text words)) [] (lent_rows lent)) →
        list' ≡ written list 0 (pair_groups (stored_parts text words) (lent_rows lent)) →
        (r ≡ length (groups (held (account_in text words).documents) (lent_rows rows)))
        × (list' ≡ written list 0 (flat_map group_words (groups (held (account_in text words).documents) (lent_rows rows))))
    lent_groups r list list' p q =
        let cs = stored_parts text words in
        let h = sym (held_stored text words ok) in (
          p ∙ ap (λ (l : List Row). length (news (same_interface cs) [] l)) rows_are ∙ groups_count cs (lent_rows rows)
              ∙ ap (λ (cs : List NamedCard). length (groups cs (lent_rows rows))) h,
          q ∙ ap (λ (l : List Row). written list 0 (pair_groups cs l)) rows_are ∙ ap (written list 0) (groups_are cs (lent_rows rows))
              ∙ ap (λ (cs : List NamedCard). written list 0 (flat_map group_words (groups cs (lent_rows rows)))) h,
        )
