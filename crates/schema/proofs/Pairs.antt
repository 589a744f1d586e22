-- The turns of the walk that collects interfaces with the types that list them.
use mathlib.Core.Path.{◌≡◌, refl, sym, ◌∙◌, ap}
use mathlib.Core.List.{List, [], ◌∷◌, ◌++◌, map}
use mathlib.Core.Bool.{Bool, true, false, ◌&&◌}
use mathlib.Core.Option.{Option, none, some}
use Prim.Native.Nat.{ℕ, ◌+◌, ◌*◌, ◌/◌, ◌≤◌, ◌<◌}
use native.Mathlib.Omega.{arith}
use borrow.Author.Tests.{eq-eqb, ne_eqb, ltb-true, ltb-false, lt-ltb, not-true, not-false}
use lib.Dec.{ltb}
use lib.ListN.{length, take, drop, get_or, drop_of_length-le}
use lib.Seq.{drop-append-le, length-take-le}
use Rattle.definition.specs.Lists.{choose, any, flat_map}
use Rattle.definition.specs.Cards.{is_type}
use Rattle.definition.specs.Headings.{NamedCard}
use Rattle.definition.specs.Catalogue.{Row}
use Rattle.definition.specs.LentRows.{lent_rows, is_type_row, is_type_row_named}
use Rattle.definition.specs.Lookups.{is_row_of, is_part_named, Implementing, implementing, all_implementing}
use Rattle.definition.specs.Outcomes.{words_of_row}
use Rattle.schema_rows.specs.Rows.{row_at}
use Rattle.std.specs.Prelude.{Option as Place}
use Rattle.std.specs.Prelude.{Some, None}
use Rattle.schema_rows.proofs.Rows.{length_rows, row_next, row_end, taken_next, contradiction}
use Rattle.schema.specs.Owners.{named, first_type, owner_of, LastType, LastSeen, owner_seen, is_listed}
use Rattle.definition.proofs.Lists.{any_nil}
use Rattle.schema_rows.proofs.Walk.{any_snoc}
use Rattle.schema.specs.Gather.{gather, owner_row, under_owner, as_row, pair_words, pairs_left}
use Rattle.schema.proofs.Gather.{gather_type, gather_outside, gather_other, gather_again, gather_new, gather_nil, gather_all}
use Rattle.schema.proofs.SearchStops.{taken_length}

-- ---- The start: no type row was seen.

pub pairs_start : (cs : List NamedCard) (rows : List ℕ) → pair_words (all_implementing cs (lent_rows rows)) ≡ pairs_left cs rows None 0
unfolding pairs_left
pairs_start cs rows = ap pair_words (sym (gather_all cs (lent_rows rows)))

pub pairs_end : (cs : List NamedCard) (rows : List ℕ) (owner : Place ℕ) (i : ℕ) → length rows / 3 ≤ i → pairs_left cs rows owner i ≡ []
unfolding pairs_left pair_words flat_map
pairs_end cs rows owner i h =
    let rs = lent_rows rows in
    ap (λ (l : List Row). flat_map words_of_row (map as_row (gather cs (take i rs) (under_owner rs owner i) (owner_row rows owner) l))) (row_end rows i h)
    ∙ ap (λ (l : List Implementing). flat_map words_of_row (map as_row l)) (gather_nil cs (take i rs) (under_owner rs owner i) (owner_row rows owner))

-- ---- The last type row, and the rows under it.

module _ (rows : List ℕ) (i : ℕ) (h : i < length rows / 3) where
  under_next : (t : ℕ) → t < i → drop (t + 1) (take (i + 1) (lent_rows rows)) ≡ drop (t + 1) (take i (lent_rows rows)) ++ (row_at rows i ∷ [])
  under_next t l =
      ap (drop (t + 1)) (taken_next rows i h)
      ∙ drop-append-le (t + 1) (take i (lent_rows rows)) (row_at rows i ∷ []) (let k = taken_length rows i h in omega arith)

  under_none : drop (i + 1) (take (i + 1) (lent_rows rows)) ≡ []
  under_none =
      drop_of_length-le (take (i + 1) (lent_rows rows)) {i = i + 1}
      (let a = length-take-le (i + 1) (lent_rows rows) (let l = length_rows rows in omega arith) in omega arith)

  pub type_last : is_type (get_or rows (3 * i) 0) ≡ true → LastType rows i (i + 1)
  type_last e = record {
    before = omega arith;
    outside = λ f. contradiction (is_type (get_or rows (3 * i) 0)) (sym f) e;
    between = ap (any is_type_row) under_none ∙ any_nil is_type_row;
  }

  module _ (e : is_type (get_or rows (3 * i) 0) ≡ false) where
    no_type : is_type_row (row_at rows i) ≡ false
    unfolding is_type_row
    no_type = e

    module _ (t : ℕ) (o : LastType rows t i) where
      same_row : ltb t i ≡ false → t ≡ i
      same_row u = let a = ltb-false t i u in let b = o.before in omega arith

      between_next : (b : Bool) → ltb t i ≡ b → any is_type_row (drop (t + 1) (take (i + 1) (lent_rows rows))) ≡ false
      between_next true u =
          ap (any is_type_row) (under_next t (ltb-true t i u)) ∙ any_snoc is_type_row (drop (t + 1) (take i (lent_rows rows))) (row_at rows i)
          ∙ ap (λ (b : Bool). choose b true (any is_type_row (drop (t + 1) (take i (lent_rows rows))))) no_type ∙ o.between
      between_next false u = rw (same_row u) (ap (any is_type_row) under_none ∙ any_nil is_type_row)

      pub last_next : LastType rows t (i + 1)
      last_next = record {
        before = (let b = o.before in omega arith);
        outside =
            λ s. ap (any is_type_row) (taken_next rows i h) ∙ any_snoc is_type_row (take i (lent_rows rows)) (row_at rows i)
            ∙ ap (λ (b : Bool). choose b true (any is_type_row (take i (lent_rows rows)))) no_type ∙ o.outside s;
        between = between_next (ltb t i) refl;
      }

-- ---- The turns.

module _ (cs : List NamedCard) (rows : List ℕ) (i : ℕ) (h : i < length rows / 3) where
  here : (mid : List Row) (o : Option Row) → pair_words (gather cs (take i (lent_rows rows)) mid o (drop i (lent_rows rows))) ≡
      pair_words (gather cs (take i (lent_rows rows)) mid o (row_at rows i ∷ drop (i + 1) (lent_rows rows)))
  here mid o = ap (λ (l : List Row). pair_words (gather cs (take i (lent_rows rows)) mid o l)) (row_next rows i h)

  there : (mid : List Row) (o : Option Row) → pair_words (gather cs (take i (lent_rows rows) ++ (row_at rows i ∷ [])) mid o (drop (i + 1) (lent_rows rows))) ≡
      pair_words (gather cs (take (i + 1) (lent_rows rows)) mid o (drop (i + 1) (lent_rows rows)))
  there mid o = ap (λ (l : List Row). pair_words (gather cs l mid o (drop (i + 1) (lent_rows rows)))) (sym (taken_next rows i h))

  -- A type row.
  module _ (e : is_type (get_or rows (3 * i) 0) ≡ true) where
    is_type_lem : is_type_row (row_at rows i) ≡ true
    unfolding is_type_row
    is_type_lem = e

    owner_first : owner_of cs rows i (i + 1) ≡ first_type cs (lent_rows rows) (row_at rows i) i
    unfolding owner_of
    owner_first = rw (e, lt-ltb i (i + 1) (omega arith))

    pub type_left : (owner : Place ℕ) → pairs_left cs rows owner i ≡ pairs_left cs rows (owner_of cs rows i (i + 1)) (i + 1)
    unfolding pairs_left first_type
    type_left owner =
        let rs = lent_rows rows in
        let r = row_at rows i in
        let mid = under_owner rs owner i in
        let o = owner_row rows owner in
        here mid o
        ∙ ap pair_words (gather_type cs (take i rs) mid r (drop (i + 1) rs) o is_type_lem)
        ∙ there [] (choose (any (is_type_row_named cs (named cs r)) (take i rs)) none (some r))
        ∙ go (any (is_type_row_named cs (named cs r)) (take i rs)) (owner_of cs rows i (i + 1)) owner_first
      where
        go : (b : Bool) (next : Place ℕ) → next ≡ choose b None (Some i) →
            pair_words (gather cs (take (i + 1) (lent_rows rows)) [] (choose b none (some (row_at rows i))) (drop (i + 1) (lent_rows rows))) ≡
            pair_words (gather cs (take (i + 1) (lent_rows rows)) (under_owner (lent_rows rows) next (i + 1)) (owner_row rows next) (drop (i + 1) (lent_rows rows)))
        go true next f = rw f
        go false next f =
            rw f (ap (λ (l : List Row). pair_words (gather cs (take (i + 1) (lent_rows rows)) l (some (row_at rows i)) (drop (i + 1) (lent_rows rows))))
            (sym (under_none rows i h)))

  -- A row under a type row, or before the first one.
  module _ (e : is_type (get_or rows (3 * i) 0) ≡ false) where
    pub outside_at : pairs_left cs rows None i ≡ pairs_left cs rows None (i + 1)
    unfolding pairs_left
    outside_at =
        here [] none
        ∙ ap pair_words (gather_outside cs (take i (lent_rows rows)) [] (row_at rows i) (drop (i + 1) (lent_rows rows)) (no_type rows i h e))
        ∙ there [] none

    module _ (t : ℕ) (l : t < i) where
      onwards : pair_words (gather cs (take i (lent_rows rows) ++ (row_at rows i ∷ [])) (drop (t + 1) (take i (lent_rows rows)) ++ (row_at rows i ∷ []))
          (some (row_at rows t)) (drop (i + 1) (lent_rows rows))) ≡
          pairs_left cs rows (Some t) (i + 1)
      unfolding pairs_left
      onwards =
          there (drop (t + 1) (take i (lent_rows rows)) ++ (row_at rows i ∷ [])) (some (row_at rows t))
          ∙ ap (λ (m : List Row). pair_words (gather cs (take (i + 1) (lent_rows rows)) m (some (row_at rows t)) (drop (i + 1) (lent_rows rows))))
          (sym (under_next rows i h t l))

      arrived : pairs_left cs rows (Some t) i ≡
          pair_words (gather cs (take i (lent_rows rows)) (drop (t + 1) (take i (lent_rows rows))) (some (row_at rows t))
          (row_at rows i ∷ drop (i + 1) (lent_rows rows)))
      unfolding pairs_left
      arrived = here (drop (t + 1) (take i (lent_rows rows))) (some (row_at rows t))

      other_at : is_row_of 21 (row_at rows i) ≡ false → pairs_left cs rows (Some t) i ≡ pairs_left cs rows (Some t) (i + 1)
      other_at f =
          arrived
          ∙ ap pair_words (gather_other cs (take i (lent_rows rows)) (drop (t + 1) (take i (lent_rows rows))) (row_at rows i) (drop (i + 1) (lent_rows rows))
          (no_type rows i h e) (row_at rows t) f)
          ∙ onwards

      again_at : is_row_of 21 (row_at rows i) ≡ true → any (is_part_named cs 21 (named cs (row_at rows i))) (drop (t + 1) (take i (lent_rows rows))) ≡ true →
          pairs_left cs rows (Some t) i ≡ pairs_left cs rows (Some t) (i + 1)
      again_at f g =
          arrived
          ∙ ap pair_words (gather_again cs (take i (lent_rows rows)) (drop (t + 1) (take i (lent_rows rows))) (row_at rows i) (drop (i + 1) (lent_rows rows))
          (no_type rows i h e) (row_at rows t) f g)
          ∙ onwards

      words_of : (is : List Implementing) → pair_words (implementing (row_at rows t) (row_at rows i) ∷ is) ≡
          get_or rows (3 * t) 0 ∷ (get_or rows (3 * i + 1) 0 ∷ (get_or rows (3 * t + 1) 0 ∷ pair_words is))
      unfolding pair_words flat_map words_of_row as_row implementing
      words_of is = refl

      new_at : is_row_of 21 (row_at rows i) ≡ true → any (is_part_named cs 21 (named cs (row_at rows i))) (drop (t + 1) (take i (lent_rows rows))) ≡ false →
          pairs_left cs rows (Some t) i ≡ get_or rows (3 * t) 0 ∷ (get_or rows (3 * i + 1) 0 ∷ (get_or rows (3 * t + 1) 0 ∷ pairs_left cs rows (Some t) (i + 1)))
      new_at f g =
          arrived
          ∙ ap pair_words (gather_new cs (take i (lent_rows rows)) (drop (t + 1) (take i (lent_rows rows))) (row_at rows i) (drop (i + 1) (lent_rows rows))
          (no_type rows i h e) (row_at rows t) f g)
          ∙ words_of _
          ∙ ap (λ (w : List ℕ). get_or rows (3 * t) 0 ∷ (get_or rows (3 * i + 1) 0 ∷ (get_or rows (3 * t + 1) 0 ∷ w))) onwards

    not_21 : (get_or rows (3 * i) 0 ≡ 21 → ⊥) → is_row_of 21 (row_at rows i) ≡ false
    unfolding is_row_of
    not_21 f = ne_eqb (get_or rows (3 * i) 0) 21 f

    is_21 : get_or rows (3 * i) 0 ≡ 21 → is_row_of 21 (row_at rows i) ≡ true
    unfolding is_row_of
    is_21 f = eq-eqb (get_or rows (3 * i) 0) 21 f

    module _ (t : ℕ) (o : LastType rows t i) where
      owner_stays : owner_of cs rows t i ≡ owner_of cs rows t (i + 1)
      unfolding owner_of
      owner_stays = go (ltb t i) refl
        where
          go : (b : Bool) → ltb t i ≡ b →
              choose (is_type (get_or rows (3 * t) 0) && ltb t i) (first_type cs (lent_rows rows) (row_at rows t) t) None ≡
              choose (is_type (get_or rows (3 * t) 0) && ltb t (i + 1)) (first_type cs (lent_rows rows) (row_at rows t) t) None
          go true u = rw (u, lt-ltb t (i + 1) (let a = ltb-true t i u in omega arith))
          go false u = let q : is_type (get_or rows (3 * t) 0) ≡ false = ap (λ (k : ℕ). is_type (get_or rows (3 * k) 0)) (same_row rows i h e t o u) ∙ e in rw q

      owner_either : (P : Place ℕ → Type 0) → P None → (t < i → P (Some t)) → P (owner_of cs rows t i)
      unfolding owner_of first_type
      owner_either P outside under =
          go (is_type (get_or rows (3 * t) 0)) (ltb t i) (any (is_type_row_named cs (named cs (row_at rows t))) (take t (lent_rows rows))) refl
        where
          go : (a b c : Bool) → ltb t i ≡ b → P (choose (a && b) (choose c None (Some t)) None)
          go true true true u = outside
          go true true false u = under (ltb-true t i u)
          go true false c u = outside
          go false b c u = outside

      pub left_other : (get_or rows (3 * i) 0 ≡ 21 → ⊥) → pairs_left cs rows (owner_of cs rows t i) i ≡ pairs_left cs rows (owner_of cs rows t (i + 1)) (i + 1)
      left_other f =
          owner_either (λ owner. pairs_left cs rows owner i ≡ pairs_left cs rows owner (i + 1)) outside_at (λ l. other_at t l (not_21 f))
          ∙ ap (λ (owner : Place ℕ). pairs_left cs rows owner (i + 1)) owner_stays

      module _ (f : get_or rows (3 * i) 0 ≡ 21) where
        pub left_again : false ≡ is_listed cs rows (owner_of cs rows t i) i →
            pairs_left cs rows (owner_of cs rows t i) i ≡ pairs_left cs rows (owner_of cs rows t (i + 1)) (i + 1)
        left_again g =
            owner_either (λ owner. false ≡ is_listed cs rows owner i → pairs_left cs rows owner i ≡ pairs_left cs rows owner (i + 1)) (λ g. outside_at)
            (λ l g. again_at t l (is_21 f) (not-false _ (sym g))) g
            ∙ ap (λ (owner : Place ℕ). pairs_left cs rows owner (i + 1)) owner_stays

        pub left_new : true ≡ is_listed cs rows (owner_of cs rows t i) i →
            pairs_left cs rows (owner_of cs rows t i) i ≡
            get_or rows (3 * t) 0 ∷ (get_or rows (3 * i + 1) 0 ∷ (get_or rows (3 * t + 1) 0 ∷ pairs_left cs rows (owner_of cs rows t (i + 1)) (i + 1)))
        left_new g =
            owner_either
            (λ owner. true ≡ is_listed cs rows owner i →
            pairs_left cs rows owner i ≡ get_or rows (3 * t) 0 ∷ (get_or rows (3 * i + 1) 0 ∷ (get_or rows (3 * t + 1) 0 ∷ pairs_left cs rows owner (i + 1))))
            (λ g. contradiction false refl (sym g))
            (λ l g. new_at t l (is_21 f) (not-true _ (sym g))) g
            ∙ ap (λ (owner : Place ℕ). get_or rows (3 * t) 0 ∷ (get_or rows (3 * i + 1) 0 ∷ (get_or rows (3 * t + 1) 0 ∷ pairs_left cs rows owner (i + 1)))) owner_stays

-- ---- The same where a type row was seen, or none.

module _ (cs : List NamedCard) (rows : List ℕ) (i : ℕ) (o : Place ℕ) where
  pub left_outside : i < length rows / 3 → is_type (get_or rows (3 * i) 0) ≡ false → o ≡ None →
      LastSeen rows o (i + 1) × (pairs_left cs rows (owner_seen cs rows o i) i ≡ pairs_left cs rows (owner_seen cs rows o (i + 1)) (i + 1))
  left_outside h e n = rw n (tt, outside_at cs rows i h e)

  module _ (t : ℕ) (s : o ≡ Some t) where
    pub seen_type : LastSeen rows o i → LastType rows t i
    seen_type l = rw s at l

    pub seen_left : pairs_left cs rows (owner_seen cs rows o i) i ≡ pairs_left cs rows (owner_of cs rows t i) i
    seen_left = rw s refl
