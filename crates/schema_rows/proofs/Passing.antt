-- What 26 asks of a row by itself.
use mathlib.Core.Path.{◌≡◌, refl, sym, ◌∙◌, ap}
use mathlib.Core.List.{List}
use mathlib.Core.Bool.{Bool, true, false, ◌&&◌, ◌||◌}
use Prim.Native.Nat.{ℕ, ◌*◌, ◌/◌, ◌≤◌, ◌<◌}
use native.Mathlib.Omega.{arith}
use borrow.Author.Tests.{ne_eqb, ltb-true, ltb-false, leb-true}
use lib.Dec.{eqb, leb, ltb}
use lib.ListN.{length, get_or}
use Rattle.definition.specs.Lists.{choose, find}
use Rattle.definition.specs.Answers.{absent}
use Rattle.definition.specs.Cards.{is_root, is_type, is_extension}
use Rattle.definition.specs.Headings.{NamedCard}
use Rattle.definition.specs.Catalogue.{Row, row, default_name}
use Rattle.definition.specs.Store.{cards_used_of}
use Rattle.definition.specs.LentRows.{lent_rows, is_type_row_named, first_type_row, is_default_root, wanted_kind, card_passes, origin_passes, default_root_passes}
use Rattle.store_reader.specs.Stored.{stored_parts, card_kind}
use Rattle.definition.proofs.Tests.{and_true}
use Rattle.store_reader.proofs.Words.{found_stored, kind_past}
use Rattle.schema_rows.specs.Rows.{found_from}
use Rattle.schema_rows.specs.Passing.{card_fits, origin_fits, row_passes}
use Rattle.std.specs.Prelude.{Some, None}
use Rattle.schema_rows.proofs.Rows.{found_none, found_some, hit_inside, hit_row}

-- ---- A default root, and the kind that a row's card has.

module _ (what card origin : ℕ) where
  pub default_root_lem : is_default_root (row what card origin) ≡ true → is_root what ≡ true
  unfolding is_default_root
  default_root_lem e = go (is_root what) (eqb card absent) (eqb origin absent) e
    where
      go : (a b c : Bool) → (a && b && c) ≡ true → a ≡ true
      go true b c e = refl
      go false b c e = e

  -- ---- Its card.

  module _ (words : List ℕ) where
    -- A card that passes is stored, or it is `-`.
    pub card_stored : card_fits words (row what card origin) ≡ true → (card ≡ absent → ⊥) → card < cards_used_of words
    unfolding card_fits
    card_stored e f = go (ltb card (cards_used_of words)) refl
      where
        go : (b : Bool) → ltb card (cards_used_of words) ≡ b → card < cards_used_of words
        go true t = ltb-true card (cards_used_of words) t
        go false t =
            let z : false ≡ true = (rw (ne_eqb card absent f, t) at e) in
            absurd (let y : ◌≡◌ {A = ℕ} 0 1 = cc in omega arith)

    module _ (text : List ℕ) where
      pub card_is : card_fits words (row what card origin) ≡ card_passes (stored_parts text words) (row what card origin)
      unfolding card_fits card_passes
      card_is =
          ap (choose (eqb card absent) (eqb what 4 || is_default_root (row what card origin)))
          (sym (found_stored text words card (λ c. eqb c.kind (wanted_kind (row what card origin))) false))

      pub origin_is : origin_fits words origin ≡ origin_passes (stored_parts text words) (row what card origin)
      unfolding origin_fits origin_passes
      origin_is =
          ap (λ (b : Bool). eqb origin absent || b)
          (go (ltb origin (cards_used_of words)) refl ∙ sym (found_stored text words origin (λ c. is_extension c.kind) false))
        where
          go : (b : Bool) → ltb origin (cards_used_of words) ≡ b →
              is_extension (card_kind words origin) ≡ choose (ltb origin (cards_used_of words)) (is_extension (card_kind words origin)) false
          go true t = rw t
          go false t = rw t (ap is_extension (kind_past words origin (ltb-false origin (cards_used_of words) t)) ∙ none)
            where
              none : is_extension 0 ≡ false
              none = unfold is_extension in refl

-- ---- A default root's object.

module _ (cs : List NamedCard) (rows : List ℕ) (r : Row) where
  pub root_plain : is_default_root r ≡ false → true ≡ default_root_passes cs (lent_rows rows) r
  unfolding default_root_passes
  root_plain e = rw e

  module _ (e : is_default_root r ≡ true) where
    pub root_missing : found_from (is_type_row_named cs (default_name r.what)) 0 (lent_rows rows) ≡ None → false ≡ default_root_passes cs (lent_rows rows) r
    unfolding default_root_passes first_type_row
    root_missing f = rw (e, found_none (is_type_row_named cs (default_name r.what)) 0 (lent_rows rows) f)

    module _ (t : ℕ) (f : found_from (is_type_row_named cs (default_name r.what)) 0 (lent_rows rows) ≡ Some t) where
      pub root_inside : t < length rows / 3
      root_inside = hit_inside rows _ t (found_some _ 0 (lent_rows rows) t f)

      pub root_object : eqb (get_or rows (3 * t) 0) 6 ≡ default_root_passes cs (lent_rows rows) r
      unfolding default_root_passes first_type_row
      root_object = rw (e, hit_row rows (find (is_type_row_named cs (default_name r.what)) (lent_rows rows)) t (found_some _ 0 (lent_rows rows) t f))

-- ---- All three.

module _ (cs : List NamedCard) (rs : List Row) (r : Row) where
  pub row_passed : row_passes cs rs r ≡ true → card_passes cs r ≡ true
  unfolding row_passes
  row_passed e = go (card_passes cs r) (choose (origin_passes cs r) (default_root_passes cs rs r) false) e
    where
      go : (a b : Bool) → choose a b false ≡ true → a ≡ true
      go true b e = refl
      go false b e = e

pub type_most : (what : ℕ) → is_type what ≡ true → (5 ≤ what) × (what ≤ 10)
unfolding is_type
type_most what e = let a = and_true (leb 5 what) (leb what 10) e in (leb-true 5 what a.0, leb-true what 10 a.1)
