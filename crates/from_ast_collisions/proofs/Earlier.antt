-- The search for the card that stands for a part: over rows that hold the lists of merged components, it finds the first component alike the part.
use mathlib.Core.Path.{◌≡◌, refl, sym, ◌∙◌, ap, subst}
use mathlib.Core.List.{List, [], ◌∷◌, ◌++◌, map, append-nil}
use mathlib.Core.Bool.{Bool, true, false, ◌&&◌, ◌||◌}
use mathlib.Core.Option.{Option}
use Prim.Native.Nat.{ℕ}
use lib.Dec.{eqb, ltb}
use borrow.Author.Tests.{eqb-true, eqb-false, eq-eqb, ne_eqb}
use Rattle.definition.specs.Lists.{All, found, filter, any, find, flat_map}
use Rattle.definition.specs.Names.{same_name}
use Rattle.definition.specs.Cards.{is_root}
use Rattle.definition.specs.Headings.{NamedCard, alike}
use Rattle.definition.specs.Catalogue.{Component, Row, part_in, alike_components, kept, component_row, is_component_of, list_of_kind}
use Rattle.definition.specs.Outcomes.{words_of_row}
use Rattle.std.specs.Prelude.{Option as Answer, Some, None}
use Rattle.from_ast_collisions.specs.Earlier.{View, stands_for, earlier_in, is_row_of, earlier_under}
use Rattle.definition.proofs.Lists.{flat_map_nil, flat_map_cons, filter_nil, filter_yes, filter_no, filter_none, filter_append, first_nil, first_yes}
use Rattle.definition.proofs.Lists.{first_no, any_nil, any_no, first_both, first_firsts}
use Rattle.definition.proofs.BuiltRows.{listed_kind}
use Rattle.definition.proofs.All.{all_firsts, all_to, filter_all, first_cong}
use Rattle.from_ast_collisions.proofs.Walks.{first_mapped}
use Rattle.from_ast_collisions.proofs.Repeats.{alike_both}

-- ---- The words of rows.

abbrev pub row_words : List Row → List ℕ
row_words rs = flat_map words_of_row rs

module _ (k d : ℕ) (test : ℕ → ℕ → Bool) where
  pub under_here : (r : Row) (rs : List Row) → is_row_of k d r.what r.card ≡ true →
      earlier_under k d test (row_words (r ∷ rs)) ≡ earlier_in test (row_words rs)
  unfolding earlier_under flat_map words_of_row
  under_here r rs e = rw e

  under_next : (r : Row) (rs : List Row) → is_row_of k d r.what r.card ≡ false →
      earlier_under k d test (row_words (r ∷ rs)) ≡ earlier_under k d test (row_words rs)
  unfolding earlier_under flat_map words_of_row
  under_next r rs e = rw e

  pub under_skip : (xs rs : List Row) → All (λ r. is_row_of k d r.what r.card ≡ false) xs →
      earlier_under k d test (row_words (xs ++ rs)) ≡ earlier_under k d test (row_words rs)
  under_skip [] rs a = refl
  under_skip (x ∷ xs) rs a = under_next x (xs ++ rs) a.0 ∙ under_skip xs rs a.1

-- Rows after which no part of what stands above them follows.
abbrev pub Stops : List Row → Type 0
Stops [] = Unit {0}
Stops (r ∷ rs) = ltb r.what 20 ≡ true

abbrev pub row_test : (ℕ → ℕ → Bool) → Row → Bool
row_test test r = test r.what r.card

unfoldable pub card_of : Option Row → Answer ℕ
card_of o = found o (λ r. Some r.card) None

module _ (test : ℕ → ℕ → Bool) where
  in_end : (rs : List Row) → Stops rs → earlier_in test (row_words rs) ≡ None
  unfolding earlier_in flat_map words_of_row
  in_end [] s = refl
  in_end (r ∷ rs) s = rw s

  in_hit : (r : Row) (rs : List Row) → ltb r.what 20 ≡ false → row_test test r ≡ true → earlier_in test (row_words (r ∷ rs)) ≡ Some r.card
  unfolding earlier_in flat_map words_of_row
  in_hit r rs l e = rw (l, e)

  in_miss : (r : Row) (rs : List Row) → ltb r.what 20 ≡ false → row_test test r ≡ false → earlier_in test (row_words (r ∷ rs)) ≡ earlier_in test (row_words rs)
  unfolding earlier_in flat_map words_of_row
  in_miss r rs l e = rw (l, e)

  pub in_block : (xs rs : List Row) → All (λ r. ltb r.what 20 ≡ false) xs → Stops rs →
      earlier_in test (row_words (xs ++ rs)) ≡ card_of (find (row_test test) xs)
  unfolding card_of
  in_block [] rs a s = in_end rs s ∙ sym (rw (first_nil (row_test test)))
  in_block (x ∷ xs) rs a s = go (row_test test x) refl (in_block xs rs a.1 s)
    where
      go : (b : Bool) → row_test test x ≡ b → earlier_in test (row_words (xs ++ rs)) ≡ card_of (find (row_test test) xs) →
          earlier_in test (row_words (x ∷ (xs ++ rs))) ≡ card_of (find (row_test test) (x ∷ xs))
      go true e ih = in_hit x (xs ++ rs) a.0 e ∙ sym (rw (first_yes (row_test test) x xs e))
      go false e ih = in_miss x (xs ++ rs) a.0 e ∙ (ih ∙ sym (rw (first_no (row_test test) x xs e)))

-- ---- The list of a kind, out of all lists under a row.

abbrev pub of_kind : ℕ → Row → Bool
of_kind k r = eqb r.what k

list_in_lem : (cs : List Component) (k : ℕ) (js : List ℕ) → filter (of_kind k) (flat_map (list_of_kind cs) js) ≡ flat_map (list_of_kind cs) (filter (λ j. eqb j k) js)
list_in_lem cs k [] = simp (flat_map_nil, filter_nil)
list_in_lem cs k (j ∷ js) = go (eqb j k) refl (list_in_lem cs k js)
  where
    of : (b : Bool) → eqb j k ≡ b → All (λ r. of_kind k r ≡ b) (list_of_kind cs j)
    of b e = all_to (λ r. r.what ≡ j) (λ r. of_kind k r ≡ b) (λ r f. ap (λ m. eqb m k) f ∙ e) (list_of_kind cs j) (listed_kind cs j)

    filter_out : (xs : List Row) → All (λ r. of_kind k r ≡ false) xs → filter (of_kind k) xs ≡ []
    filter_out [] a = filter_nil (of_kind k)
    filter_out (x ∷ xs) a = filter_no (of_kind k) x xs a.0 ∙ filter_out xs a.1

    go : (b : Bool) → eqb j k ≡ b → filter (of_kind k) (flat_map (list_of_kind cs) js) ≡ flat_map (list_of_kind cs) (filter (λ j. eqb j k) js) →
        filter (of_kind k) (flat_map (list_of_kind cs) (j ∷ js)) ≡ flat_map (list_of_kind cs) (filter (λ j. eqb j k) (j ∷ js))
    go true e ih =
        simp (
          flat_map_cons,
          filter_append (of_kind k) (list_of_kind cs j) (flat_map (list_of_kind cs) js),
          filter_all (of_kind k) (list_of_kind cs j) (of true e),
          filter_yes (λ j. eqb j k) j js e,
          ih,
        )
    go false e ih =
        simp (
          flat_map_cons,
          filter_append (of_kind k) (list_of_kind cs j) (flat_map (list_of_kind cs) js),
          filter_out (list_of_kind cs j) (of false e),
          filter_no (λ j. eqb j k) j js e,
          ih,
        )

-- Kinds that are listed once.
abbrev pub Fresh : List ℕ → Type 0
Fresh [] = Unit {0}
Fresh (j ∷ js) = (any (λ i. eqb i j) js ≡ false) × Fresh js

abbrev pub is_in : ℕ → List ℕ → Bool
is_in k js = any (λ j. eqb j k) js

once : (k : ℕ) (js : List ℕ) → Fresh js → is_in k js ≡ true → filter (λ j. eqb j k) js ≡ k ∷ []
once k [] f h = let z : false ≡ true = sym (any_nil (λ j. eqb j k)) ∙ h in cc
once k (j ∷ js) f h = go (eqb j k) refl (once k js f.1)
  where
    go : (b : Bool) → eqb j k ≡ b → (is_in k js ≡ true → filter (λ j. eqb j k) js ≡ k ∷ []) → filter (λ j. eqb j k) (j ∷ js) ≡ k ∷ []
    go true e ih =
        let q : j ≡ k = eqb-true j k e in
        let n : any (λ i. eqb i k) js ≡ false = subst (λ m. any (λ i. eqb i m) js ≡ false) q f.0 in
        filter_yes (λ i. eqb i k) j js e ∙ (ap (λ l. j ∷ l) (filter_none (λ i. eqb i k) js n) ∙ ap (λ m. m ∷ []) q)
    go false e ih = filter_no (λ i. eqb i k) j js e ∙ ih (sym (any_no (λ i. eqb i k) j js e) ∙ h)

pub list_of : (cs : List Component) (k : ℕ) (js : List ℕ) → Fresh js → is_in k js ≡ true → filter (of_kind k) (flat_map (list_of_kind cs) js) ≡ list_of_kind cs k
list_of cs k js f h = list_in_lem cs k js ∙ rw (once k js f h, flat_map_cons (list_of_kind cs) k [], flat_map_nil (list_of_kind cs), append-nil)

-- ---- The first component alike a part.

-- The card of the first of some parts that is alike a part.
unfoldable pub standing_among : List NamedCard → NamedCard → Answer ℕ
standing_among ps x = found (find (alike x) ps) (λ p. Some p.number) None

-- Components whose names are told by their numbers; roots need none.
abbrev pub Told : View → NamedCard → Component → Type 0
Told v x c =
    (is_root x.kind || (ltb c.part.number v.used && same_name x.name (v.name c.part.number))) ≡
    (is_root x.kind || same_name x.name c.part.name)

eqb_sym : (m n : ℕ) → eqb m n ≡ eqb n m
eqb_sym m n = go (eqb n m) refl
  where
    go : (b : Bool) → eqb n m ≡ b → eqb m n ≡ eqb n m
    go true e = eq-eqb m n (sym (eqb-true n m e)) ∙ sym e
    go false e = ne_eqb m n (λ q. eqb-false n m e (sym q)) ∙ sym e

alike_told : (v : View) (x : NamedCard) (c : Component) → eqb x.kind 20 ≡ false → Told v x c →
    (eqb c.part.kind x.kind && (is_root x.kind || (ltb c.part.number v.used && same_name x.name (v.name c.part.number)))) ≡
    alike x c.part
unfolding alike
alike_told v x c e t = rw (t, e, eqb_sym c.part.kind x.kind)

module _ (v : View) (x : NamedCard) (plain : eqb x.kind 20 ≡ false) (cs : List Component) (told : All (Told v x) cs) where
  q : Row → Bool
  q r = is_root x.kind || (ltb r.card v.used && same_name x.name (v.name r.card))

  alike_in : Component → Bool
  alike_in c = alike x c.part

  pub standing_listed : (js : List ℕ) → Fresh js → is_in x.kind js ≡ true →
      card_of (find (row_test (stands_for v x)) (flat_map (list_of_kind (kept cs)) js)) ≡ standing_among (map part_in cs) x
  unfolding card_of stands_for kept list_of_kind is_component_of component_row standing_among part_in q alike_in alike_components
  standing_listed js f h =
      ap card_of (first_both (of_kind x.kind) q (flat_map (list_of_kind (kept cs)) js))
      ∙ (ap (λ l. card_of (find q l)) (list_of (kept cs) x.kind js f h)
      ∙ (first_mapped q component_row (λ r. Some r.card) None (filter (is_component_of x.kind) (kept cs))
      ∙ (ap (λ o. found o (λ c. Some c.part.number) None)
      (sym (first_both (is_component_of x.kind) (λ c. q (component_row c)) (kept cs))
      ∙ (first_cong (λ c. is_component_of x.kind c && q (component_row c)) alike_in (kept cs)
      (all_to (Told v x) (λ c. (is_component_of x.kind c && q (component_row c)) ≡ alike_in c) (λ c t. alike_told v x c plain t) (kept cs)
      (all_firsts (Told v x) alike_components [] cs told))
      ∙ first_firsts alike_components alike_in (λ a b t. alike_both x a.part b.part t) [] cs (any_nil alike_in)))
      ∙ sym (first_mapped (alike x) part_in (λ p. Some p.number) None cs))))
