-- The errors of one part that is merged, and of the parts of a heading one after another.
use mathlib.Core.Path.{◌≡◌, refl, ◌∙◌, ap}
use mathlib.Core.List.{List, [], ◌∷◌, ◌++◌}
use mathlib.Core.Bool.{Bool, true, false, ◌&&◌}
use Prim.Native.Nat.{ℕ, ◌+◌, ◌≤◌, ◌<◌}
use native.Mathlib.Omega.{arith}
use lib.Dec.{leb}
use borrow.Author.Tests.{eq-eqb, ne_eqb, leb-true}
use Rattle.definition.specs.Lists.{flat_map}
use Rattle.definition.specs.Cards.{is_part}
use Rattle.definition.specs.Headings.{NamedCard}
use Rattle.definition.specs.Errors.{Error, error, collision_number}
use Rattle.definition.specs.Merge.{error_numbers}
use Rattle.definition.specs.Store.{cards_used_of}
use Rattle.store_reader.specs.Stored.{stored_parts, card_kind, card_at, parts_from}
use Rattle.store_reader.proofs.Words.{parts_next, parts_stop, parts_end}
use Rattle.std.specs.Prelude.{Some, None}
use Rattle.from_ast_collisions.specs.declared.pushing.Errors.{Errors}
use Rattle.from_ast_collisions.specs.Pushing.{Capacity}
use Rattle.from_ast_collisions.specs.Earlier.{View, stands_for, earlier_in, rows_under, collision_with, collision_under, merge_errors}
use Rattle.from_ast_collisions.proofs.Turns.{under_after_lem}
use Rattle.from_ast_collisions.specs.Views.{view_of, card_view}
use Rattle.definition.proofs.Lists.{flat_map_nil, flat_map_cons}
use Rattle.definition.proofs.Tests.{zero_one}

-- ---- One part, by the rows under its owner's.

module _ (v : View) (rows : List ℕ) (k d : ℕ) (p : NamedCard) where
  pub collision_use : p.kind ≡ 20 → collision_under v rows k d p ≡ []
  unfolding collision_under
  collision_use e = rw (eq-eqb p.kind 20 e)

  module _ (under : List ℕ) (u : under ≡ rows_under k d rows) (e : p.kind ≡ 20 → ⊥) where
    by_under : collision_under v rows k d p ≡ collision_with k p (earlier_in (stands_for v p) under)
    unfolding collision_under
    by_under = rw (ne_eqb p.kind 20 e, u) (ap (collision_with k p) (under_after_lem k d (stands_for v p) rows))

    pub collision_nothing : earlier_in (stands_for v p) under ≡ None → collision_under v rows k d p ≡ []
    unfolding collision_with
    collision_nothing f = by_under ∙ rw f refl

    pub collision_own : (c : ℕ) → earlier_in (stands_for v p) under ≡ Some c → c ≡ p.number → collision_under v rows k d p ≡ []
    unfolding collision_with
    collision_own c f h = by_under ∙ rw (f, eq-eqb c p.number h) refl

    pub collision_other : (c n : ℕ) → earlier_in (stands_for v p) under ≡ Some c → (c ≡ p.number → ⊥) → n ≡ collision_number k p.kind →
        collision_under v rows k d p ≡ error n p.number c ∷ []
    unfolding collision_with
    collision_other c n f h q = by_under ∙ rw (f, ne_eqb c p.number h, q) refl

-- An error that there is room for has one of the numbers.
pub number_most : (l : Errors) (n c e : ℕ) → Capacity l (error n c e ∷ []) → n ≤ error_numbers
unfolding Capacity error
number_most l n c e r = r.0.most

-- A part that is no directive use has a kind of 21 to 28.
pub collision_kind : (n : ℕ) → is_part n ≡ true → (n ≡ 20 → ⊥) → (21 ≤ n) × (n ≤ 28)
unfolding is_part
collision_kind n h e = go (leb 20 n) refl h
  where
    go : (b : Bool) → leb 20 n ≡ b → (b && leb n 28) ≡ true → (21 ≤ n) × (n ≤ 28)
    go true f h = let l = leb-true 20 n f in let u = leb-true n 28 h in (omega arith, u)
    go false f h = let z : false ≡ true = h in absurd (zero_one cc)

-- ---- The parts of a heading.

-- What is left of them, from the card i on.
abbrev pub merge_rest : List ℕ → List ℕ → List ℕ → ℕ → ℕ → ℕ → List Error
merge_rest text words rows k d i = flat_map (collision_under (card_view text words) rows k d) (parts_from (stored_parts text words) i)

module _ (text words rows : List ℕ) (k d : ℕ) where
  pub merge_all : (c : ℕ) → merge_errors (card_view text words) rows k d c ≡ merge_rest text words rows k d (c + 1)
  unfolding merge_errors
  merge_all c = refl

  pub merge_next : (i : ℕ) → i < cards_used_of words → is_part (card_kind words i) ≡ true →
      merge_rest text words rows k d i ≡ collision_under (card_view text words) rows k d (card_at text words i) ++ merge_rest text words rows k d (i + 1)
  merge_next i h p =
      ap (flat_map (collision_under (card_view text words) rows k d)) (parts_next text words i h p)
      ∙ flat_map_cons (collision_under (card_view text words) rows k d) (card_at text words i) (parts_from (stored_parts text words) (i + 1))

  pub merge_stop : (i : ℕ) → i < cards_used_of words → is_part (card_kind words i) ≡ false → merge_rest text words rows k d i ≡ []
  merge_stop i h p =
      ap (flat_map (collision_under (card_view text words) rows k d)) (parts_stop text words i h p)
      ∙ flat_map_nil (collision_under (card_view text words) rows k d)

  pub merge_end : (i : ℕ) → cards_used_of words ≤ i → merge_rest text words rows k d i ≡ []
  merge_end i h =
      ap (flat_map (collision_under (card_view text words) rows k d)) (parts_end text words i h)
      ∙ flat_map_nil (collision_under (card_view text words) rows k d)

-- Owners do not bear on it.
pub merge_owners : (text words owners rows : List ℕ) (k d c : ℕ) → merge_errors (view_of text words owners) rows k d c ≡
    merge_errors (card_view text words) rows k d c
unfolding merge_errors collision_under stands_for
merge_owners text words owners rows k d c = refl
