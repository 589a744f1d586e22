-- Turns of the searches over rows of three words, at the index i of a row's first word.
use mathlib.Core.Path.{◌≡◌, refl, sym, ◌∙◌, ap}
use mathlib.Core.List.{List, [], ◌∷◌, ◌++◌}
use mathlib.Core.Bool.{Bool, true, false, ◌&&◌}
use Prim.Native.Nat.{ℕ, zero, suc, ◌+◌, ◌-◌, ◌*◌, ◌≤◌, ◌<◌, min}
use native.Mathlib.Omega.{arith}
use native.Mathlib.Numerals.{towards_suc}
use lib.Dec.{eqb, ltb}
use lib.ListN.{length, get_or, take, drop, length-drop, length-append, drop_of_length-le}
use lib.Seq.{drop-cons, drop-drop, drop-length, take_all}
use borrow.Author.Tests.{eq-eqb, ne_eqb, lt-ltb, le-ltb, ltb-true, ltb-false}
use Rattle.definition.specs.Lists.{choose}
use Rattle.definition.specs.Names.{same_name}
use Rattle.definition.specs.Cards.{is_root}
use Rattle.definition.specs.Headings.{NamedCard}
use Rattle.definition.specs.Errors.{collision_numbers, collision_number}
use Rattle.std.specs.Prelude.{Some, None}
use Rattle.from_ast_collisions.specs.Earlier.{View, stands_for, earlier_in, is_row_of, earlier_under, row_offset, rows_under}
use Rattle.definition.specs.Store.{cards_used_of}
use Rattle.store_reader.specs.Stored.{card_kind, card_name, card_at}
use Rattle.from_ast_index.specs.Index.{same_cards, same_stored}
use Rattle.from_ast_collisions.specs.Views.{card_view}
use Rattle.from_ast_collisions.proofs.Tests.{and_false}

drop3 : (s : List ℕ) (i : ℕ) → i + 2 < length s → drop i s ≡ get_or s i 0 ∷ (get_or s (i + 1) 0 ∷ (get_or s (i + 2) 0 ∷ drop (i + 3) s))
drop3 s i h =
    simp towards_suc (
    drop-cons s i 0 (omega arith)
    ∙ ap (λ (l : List ℕ). get_or s i 0 ∷ l) (drop-cons s (suc i) 0 (omega arith)
    ∙ ap (λ (l : List ℕ). get_or s (suc i) 0 ∷ l) (drop-cons s (suc (suc i)) 0 (omega arith)))
    )

-- A row is the one looked for where both words are.
pub row_is : (k d w c : ℕ) → w ≡ k → c ≡ d → is_row_of k d w c ≡ true
unfolding is_row_of
row_is k d w c e f = rw (eq-eqb w k e, eq-eqb c d f)

pub row_no_what : (k d w c : ℕ) → (w ≡ k → ⊥) → is_row_of k d w c ≡ false
unfolding is_row_of
row_no_what k d w c e = rw (ne_eqb w k e)

pub row_no_card : (k d w c : ℕ) → (c ≡ d → ⊥) → is_row_of k d w c ≡ false
unfolding is_row_of
row_no_card k d w c e = rw (ne_eqb c d e) (and_false (eqb w k))

-- A row that is passed over.
pub row_miss : (k d : ℕ) (s : List ℕ) (i : ℕ) → i + 2 < length s → is_row_of k d (get_or s i 0) (get_or s (i + 1) 0) ≡ false →
    row_offset k d (drop i s) ≡ 3 + row_offset k d (drop (i + 3) s)
unfolding row_offset
row_miss k d s i h e = rw (drop3 s i h, e)

pub row_inside : (k d : ℕ) (s : List ℕ) → row_offset k d s ≤ length s
unfolding row_offset
row_inside k d [] = omega arith
row_inside k d (w ∷ []) = omega arith
row_inside k d (w ∷ (c ∷ [])) = omega arith
row_inside k d (w ∷ (c ∷ (o ∷ s))) = go (is_row_of k d w c) (row_inside k d s)
  where
    go : (b : Bool) → row_offset k d s ≤ length s → choose b 0 (3 + row_offset k d s) ≤ length (w ∷ (c ∷ (o ∷ s)))
    go true h = omega arith
    go false h = omega arith

-- The search under the row is that among the rows after it.
pub under_after_lem : (k d : ℕ) (test : ℕ → ℕ → Bool) (s : List ℕ) → earlier_under k d test s ≡ earlier_in test (rows_under k d s)
unfolding rows_under row_offset earlier_under earlier_in
under_after_lem k d test [] = refl
under_after_lem k d test (w ∷ []) = refl
under_after_lem k d test (w ∷ (c ∷ [])) = refl
under_after_lem k d test (w ∷ (c ∷ (o ∷ s))) = go (is_row_of k d w c) refl (under_after_lem k d test s)
  where
    go : (b : Bool) → is_row_of k d w c ≡ b → earlier_under k d test s ≡ earlier_in test (drop (3 + row_offset k d s) s) →
        choose (is_row_of k d w c) (earlier_in test s) (earlier_under k d test s) ≡
        earlier_in test (drop (3 + choose (is_row_of k d w c) 0 (3 + row_offset k d s)) (w ∷ (c ∷ (o ∷ s))))
    go true e ih = rw e refl
    go false e ih = rw e (ih ∙ ap (earlier_in test) (drop-drop (3 + row_offset k d s) 3 (w ∷ (c ∷ (o ∷ s)))))

-- ---- The number of a collision.

module _ (k p : ℕ) where
  pub collision_interface : k ≡ 7 → get_or collision_numbers (p - 21) 0 + 1 ≡ collision_number k p
  unfolding collision_number
  collision_interface e = rw (eq-eqb k 7 e)

  pub collision_other : (k ≡ 7 → ⊥) → get_or collision_numbers (p - 21) 0 ≡ collision_number k p
  unfolding collision_number
  collision_other e = rw (ne_eqb k 7 e)

-- Past input fields are roots, up to 28.
pub collision_root : (p : ℕ) → 26 ≤ p → p ≤ 28 → get_or collision_numbers (p - 21) 0 ≡ 9
collision_root p l u = go (p - 26) (omega arith)
  where
    go : (i : ℕ) → p ≡ i + 26 → get_or collision_numbers (p - 21) 0 ≡ 9
    go zero e = rw e refl
    go (suc zero) e = rw e refl
    go (suc (suc zero)) e = rw e refl
    go (suc (suc (suc i))) e = absurd (omega arith)

-- ---- What stands for a part.

module _ (v : View) (p : NamedCard) (w c : ℕ) where
  pub stands_other : (w ≡ p.kind → ⊥) → stands_for v p w c ≡ false
  unfolding stands_for
  stands_other e = rw (ne_eqb w p.kind e)

  pub stands_root : w ≡ p.kind → is_root p.kind ≡ true → stands_for v p w c ≡ true
  unfolding stands_for
  stands_root e r = rw (eq-eqb w p.kind e, r)

  named_part : w ≡ p.kind → is_root p.kind ≡ false → stands_for v p w c ≡ (ltb c v.used && same_name p.name (v.name c))
  unfolding stands_for
  named_part e r = rw (eq-eqb w p.kind e, r)

chosen_and : (b s : Bool) → (b && s) ≡ choose b s false
chosen_and true s = refl
chosen_and false s = refl

pub stands_stored : (text words : List ℕ) (part w c : ℕ) → part < cards_used_of words → w ≡ card_kind words part → is_root (card_kind words part) ≡ false →
    stands_for (card_view text words) (card_at text words part) w c ≡ same_stored text words part c
unfolding same_stored same_cards
stands_stored text words part w c h e r =
    named_part (card_view text words) (card_at text words part) w c e r
    ∙ (chosen_and (ltb c (cards_used_of words)) (same_name (card_name text words part) (card_name text words c)) ∙ sym (rw (lt-ltb part (cards_used_of words) h) refl))

-- ---- Rows one after another: x is the next one, t what follows.

three_words : (x : List ℕ) → length x ≡ 3 → x ≡ get_or x 0 0 ∷ (get_or x 1 0 ∷ (get_or x 2 0 ∷ []))
three_words [] h = absurd (omega arith)
three_words (a ∷ []) h = absurd (omega arith)
three_words (a ∷ (b ∷ [])) h = absurd (omega arith)
three_words (a ∷ (b ∷ (c ∷ []))) h = refl
three_words (a ∷ (b ∷ (c ∷ (d ∷ x)))) h = absurd (omega arith)

-- Past the row i stands what follows it.
pub row_after : (rows s x t : List ℕ) (i : ℕ) → 3 * i ≤ length rows → s ≡ drop (3 * i) rows → s ≡ x ++ t → length x ≡ 3 →
    (3 * (i + 1) ≤ length rows) × (t ≡ drop (3 * (i + 1)) rows)
row_after rows s x t i h p q n =
    let l : length (x ++ t) ≡ length rows - 3 * i = sym (ap length q) ∙ (ap length p ∙ length-drop (3 * i) rows) in
    let m : drop 3 (x ++ t) ≡ t = rw (three_words x n) refl in
    let e : 3 * i + 3 ≡ 3 * (i + 1) = omega arith in (
      omega (arith, l, length-append x t, n),
      sym m ∙ (ap (drop 3) (sym q ∙ p) ∙ (drop-drop 3 (3 * i) rows ∙ ap (λ k. drop k rows) e)),
    )

-- What holds of lists that have no whole row.
short : (P : List ℕ → Type 0) → P [] → ((w : ℕ) → P (w ∷ [])) → ((w c : ℕ) → P (w ∷ (c ∷ []))) → (t : List ℕ) → length t < 3 → P t
short P none one two [] h = none
short P none one two (w ∷ []) h = one w
short P none one two (w ∷ (c ∷ [])) h = two w c
short P none one two (w ∷ (c ∷ (o ∷ t))) h = absurd (omega arith)

module _ (test : ℕ → ℕ → Bool) where
  module _ (s x t : List ℕ) (q : s ≡ x ++ t) (h : length x ≡ 3) where
    pub in_stop : get_or x 0 0 < 20 → earlier_in test s ≡ None
    unfolding earlier_in
    in_stop e = rw (q, three_words x h, lt-ltb (get_or x 0 0) 20 e)

    pub in_hit : 20 ≤ get_or x 0 0 → test (get_or x 0 0) (get_or x 1 0) ≡ true → earlier_in test s ≡ Some (get_or x 1 0)
    unfolding earlier_in
    in_hit e f = rw (q, three_words x h, le-ltb (get_or x 0 0) 20 e, f)

    pub in_miss : 20 ≤ get_or x 0 0 → test (get_or x 0 0) (get_or x 1 0) ≡ false → earlier_in test s ≡ earlier_in test t
    unfolding earlier_in
    in_miss e f = rw (q, three_words x h, le-ltb (get_or x 0 0) 20 e, f)

  pub in_end : (t : List ℕ) → length t < 3 → earlier_in test t ≡ None
  unfolding earlier_in
  in_end t h = short (λ l. earlier_in test l ≡ None) refl (λ w. refl) (λ w c. refl) t h

module _ (k d : ℕ) where
  module _ (s x t : List ℕ) (q : s ≡ x ++ t) (h : length x ≡ 3) where
    pub sought_hit : get_or x 0 0 ≡ k → get_or x 1 0 ≡ d → row_offset k d s ≡ 0
    unfolding row_offset
    sought_hit e f = rw (q, three_words x h, row_is k d (get_or x 0 0) (get_or x 1 0) e f)

    sought_miss : is_row_of k d (get_or x 0 0) (get_or x 1 0) ≡ false → row_offset k d s ≡ 3 + row_offset k d t
    unfolding row_offset
    sought_miss e = rw (q, three_words x h, e) refl

    pub sought_no_what : (get_or x 0 0 ≡ k → ⊥) → row_offset k d s ≡ 3 + row_offset k d t
    sought_no_what e = sought_miss (row_no_what k d (get_or x 0 0) (get_or x 1 0) e)

    pub sought_no_card : (get_or x 1 0 ≡ d → ⊥) → row_offset k d s ≡ 3 + row_offset k d t
    sought_no_card e = sought_miss (row_no_card k d (get_or x 0 0) (get_or x 1 0) e)

    -- The rows under it, by the row that stands first.
    pub under_hit : get_or x 0 0 ≡ k → get_or x 1 0 ≡ d → rows_under k d s ≡ t
    unfolding rows_under row_offset
    under_hit e f = rw (q, three_words x h, row_is k d (get_or x 0 0) (get_or x 1 0) e f)

    under_miss : is_row_of k d (get_or x 0 0) (get_or x 1 0) ≡ false → rows_under k d s ≡ rows_under k d t
    unfolding rows_under row_offset
    under_miss e = rw (q, three_words x h, e) (sym (drop-drop (3 + row_offset k d t) 3 (get_or x 0 0 ∷ (get_or x 1 0 ∷ (get_or x 2 0 ∷ t)))))

    pub under_no_what : (get_or x 0 0 ≡ k → ⊥) → rows_under k d s ≡ rows_under k d t
    under_no_what e = under_miss (row_no_what k d (get_or x 0 0) (get_or x 1 0) e)

    pub under_no_card : (get_or x 1 0 ≡ d → ⊥) → rows_under k d s ≡ rows_under k d t
    under_no_card e = under_miss (row_no_card k d (get_or x 0 0) (get_or x 1 0) e)

  pub sought_end : (t : List ℕ) → length t < 3 → row_offset k d t ≡ 0
  unfolding row_offset
  sought_end t h = short (λ l. row_offset k d l ≡ 0) refl (λ w. refl) (λ w c. refl) t h

  pub under_end : (t : List ℕ) → length t < 3 → rows_under k d t ≡ []
  unfolding rows_under row_offset
  under_end t h = short (λ l. rows_under k d l ≡ []) refl (λ w. refl) (λ w c. refl) t h

  -- The rows under a row that was sought, where the part of all words ends with them.
  pub under_sought : (rows : List ℕ) (at : ℕ) → at ≡ row_offset k d rows →
      take (length rows - min (at + 3) (length rows)) (drop (min (at + 3) (length rows)) rows) ≡ rows_under k d rows
  unfolding rows_under
  under_sought rows at e = go (ltb (at + 3) (length rows)) refl
    where
      go : (b : Bool) → ltb (at + 3) (length rows) ≡ b →
          take (length rows - min (at + 3) (length rows)) (drop (min (at + 3) (length rows)) rows) ≡ drop (3 + row_offset k d rows) rows
      go true t =
          let l = ltb-true (at + 3) (length rows) t in
          let m : min (at + 3) (length rows) ≡ 3 + row_offset k d rows = omega arith in
          rw m (take_all _ (drop (3 + row_offset k d rows) rows) (rw length-drop (omega arith)))
      go false t =
          let l = ltb-false (at + 3) (length rows) t in
          let m : min (at + 3) (length rows) ≡ length rows = omega arith in
          rw m (take_all _ (drop (length rows) rows) (rw length-drop (omega arith)) ∙ drop-length rows ∙ sym (drop_of_length-le rows (omega arith)))

  -- A search from a place that the row does not stand before finds what one among all rows finds.
  pub under_from : (rows : List ℕ) (from : ℕ) → row_offset k d rows ≡ from + row_offset k d (drop from rows) → rows_under k d (drop from rows) ≡ rows_under k d rows
  unfolding rows_under
  under_from rows from e = drop-drop (3 + row_offset k d (drop from rows)) from rows ∙ ap (λ n. drop n rows) (omega (arith, e))
