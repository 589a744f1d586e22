-- The order of rows.
use mathlib.Core.Path.{◌≡◌, refl}
use mathlib.Core.List.{List, [], ◌∷◌}
use mathlib.Core.Bool.{Bool, true, false, ◌&&◌, not}
use Prim.Native.Nat.{ℕ, suc, ◌≤◌}
use native.Mathlib.Omega.{arith}
use borrow.Author.Tests.{ne_eqb, le-leb, lt-leb, leb-true, ltb-false}
use lib.Dec.{eqb, leb, ltb}
use lib.ListN.{length}
use Rattle.std.specs.Prelude.{Option, Some, None}
use Rattle.std.specs.Option.{is_some, unwrap_or}
use Rattle.definition.specs.Lists.{choose, any}
use Rattle.definition.specs.Cards.{definition_of, part_order, place_in}
use Rattle.definition.specs.LentRows.{row_order}
use Rattle.definition.proofs.Tests.{and_true}
use Rattle.schema_rows.specs.Order.{is_standing, place_told}
use Rattle.schema_rows.specs.Places.{kind_of}
use Rattle.schema_rows.specs.declared.order.RowPlace.{RowPlace}

-- Under a type row the order is that of the type's parts.
pub order_under : (k : ℕ) → (k ≡ 4 → ⊥) → (4 ≤ k) × (k ≤ 10) → part_order (definition_of k) ≡ row_order k
unfolding row_order definition_of
order_under k z h = rw (lt-leb 11 k (omega arith), le-leb 4 k h.0, ne_eqb k 4 z)

-- A kind under which a row stands: 0 before the row 4, or 4 to 10.
pub standing_range : (k : ℕ) → is_standing k ≡ true → (k ≡ 0 → ⊥) → (4 ≤ k) × (k ≤ 10)
unfolding is_standing
standing_range k s z =
    let r : (leb 4 k && leb k 10) ≡ true = rw (ne_eqb k 0 z) at s in
    let a = and_true (leb 4 k) (leb k 10) r in
    (leb-true 4 k a.0, leb-true k 10 a.1)

pub range_standing : (k : ℕ) → (4 ≤ k) × (k ≤ 10) → is_standing k ≡ true
unfolding is_standing
range_standing k h = rw (ne_eqb k 0 (omega arith), le-leb 4 k h.0, le-leb k 10 h.1)

-- A kind that has no place in an order is past the last.
place_most : (order : List (List ℕ)) (w : ℕ) → place_in order w ≤ length order
unfolding place_in
place_most [] w = omega arith
place_most (ks ∷ order) w = go (any (eqb w) ks) (place_most order w)
  where
    go : (b : Bool) → place_in order w ≤ length order → choose b 0 (suc (place_in order w)) ≤ suc (length order)
    go true h = omega arith
    go false h = omega arith

-- The place that is told, or else past the last.
pub place_told_or : (k w : ℕ) → unwrap_or (place_told k w) (length (row_order k)) ≡ place_in (row_order k) w
unfolding place_told
place_told_or k w = go (ltb (place_in (row_order k) w) (length (row_order k))) refl
  where
    go : (b : Bool) → ltb (place_in (row_order k) w) (length (row_order k)) ≡ b →
        unwrap_or (choose b (Some (place_in (row_order k) w)) None) (length (row_order k)) ≡ place_in (row_order k) w
    go true e = refl
    go false e =
        let h = ltb-false (place_in (row_order k) w) (length (row_order k)) e in
        let m = place_most (row_order k) w in
        omega arith

-- A row that the next one stands under is the row 4 or a type row; before the first row there is none.
pub place_standing : (o : Option RowPlace) → is_standing (kind_of o) ≡ true
unfolding is_standing
place_standing None = refl
place_standing (Some p) = range_standing p.kind p.standing

pub place_any : (o : Option RowPlace) → not (eqb (kind_of o) 0) ≡ is_some o
place_any None = refl
place_any (Some p) = let h = p.standing in rw (ne_eqb p.kind 0 (omega arith)) refl
