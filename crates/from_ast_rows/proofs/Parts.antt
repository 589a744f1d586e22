-- The index tells the part of all extensions in which those of a defined type stand: with its part a defined type has the rows that it has with all.
use mathlib.Core.Path.{◌≡◌, refl, sym, ap, ◌∙◌}
use mathlib.Core.Bool.{Bool, true, false}
use mathlib.Core.List.{List, ◌∷◌}
use Prim.Native.Nat.{ℕ, ◌+◌, ◌-◌, ◌≤◌, ◌<◌}
use native.Mathlib.Omega.{arith}
use lib.ListN.{length, get_or, take, drop, length-drop, length-take}
use lib.Seq.{get_or-take, get_or-drop}
use Rattle.definition.specs.Catalogue.{Row}
use Rattle.definition.specs.Store.{cards_used_of}
use Rattle.from_ast_index.specs.Index.{same_cards, Listed, Spanned, part, own_extensions}
use Rattle.from_ast_index.proofs.Lists.{taken_most}
use Rattle.from_ast_index.proofs.Spans.{kept_spanned}
use Rattle.component.specs.Pushed.{Filled, Fits, pushed}
use Rattle.component.specs.RowsByCards.{Stored, extension_kind, is_matching, matching, lists_at, type_row_at, type_rows_at}
use Rattle.component.proofs.Matching.{matching_unlike}
use Rattle.from_ast_rows.specs.Parted.{Parted}

matching_named : (text words : List ℕ) (ext owner n : ℕ) → is_matching text words ext owner n ≡ true → same_cards text words owner n ≡ true
matching_named text words ext owner n h = go (same_cards text words owner n) refl
  where
    go : (b : Bool) → same_cards text words owner n ≡ b → same_cards text words owner n ≡ true
    go true e = e
    go false e = let q : true ≡ false = sym h ∙ matching_unlike text words ext owner n e in cc

-- ---- What is in a part is in the list.

taken_inside : (n : ℕ) (xs : List ℕ) → length (take n xs) ≤ length xs
taken_inside n xs = simp length-take (omega arith)

part_most : (start end : ℕ) (xs : List ℕ) → length (part start end xs) ≤ length xs
unfolding part
part_most start end xs = omega (arith, taken_inside (end - start) (drop start xs), length-drop start xs)

part_entry : (start end : ℕ) (xs : List ℕ) (i : ℕ) → i < length (part start end xs) →
    (get_or (part start end xs) i 0 ≡ get_or xs (start + i) 0) × (start + i < length xs)
unfolding part
part_entry start end xs i h =
    let few = taken_most (end - start) (drop start xs) in
    let most = taken_inside (end - start) (drop start xs) in
    let size = length-drop start xs in
    let l : i < end - start = omega arith in
    (get_or-take (end - start) (drop start xs) i 0 l ∙ get_or-drop start xs i 0, omega arith)

-- ---- The part of a type.

module _ {text words headings owners types orphan_cards extensions starts ends : List ℕ} (x : Listed text words headings owners types orphan_cards extensions)
    (s : Spanned words owners extensions starts ends) where
  part_matching : (k : ℕ) → k < length types →
      matching text words (own_extensions extensions starts ends (get_or types k 0)) (get_or types k 0) ≡ matching text words extensions (get_or types k 0)
  unfolding matching
  part_matching k k-t =
      let c = get_or types k 0 in
      sym (kept_spanned x s k k-t (is_matching text words (extension_kind words c) c) (λ d h. matching_named text words (extension_kind words c) c d h))

  part_built : (k : ℕ) → k < length types →
      type_rows_at text words (own_extensions extensions starts ends (get_or types k 0)) (get_or types k 0) ≡ type_rows_at text words extensions (get_or types k 0)
  unfolding type_rows_at
  part_built k k-t =
      let c = get_or types k 0 in
      ap (λ (l : List ℕ). type_row_at words c ∷ lists_at text words l c) (part_matching k k-t)

  pub spanned_parted : Parted text words types extensions starts ends
  spanned_parted = record { starts_length = s.starts_length; ends_length = s.ends_length; part_builds = part_built }

module _ {text words types extensions starts ends : List ℕ} (x : Parted text words types extensions starts ends) (k : ℕ) (k-t : k < length types)
    (own : List ℕ) (is : own ≡ own_extensions extensions starts ends (get_or types k 0)) where
  own_builds : type_rows_at text words own (get_or types k 0) ≡ type_rows_at text words extensions (get_or types k 0)
  own_builds = ap (λ (l : List ℕ). type_rows_at text words l (get_or types k 0)) is ∙ x.part_builds k k-t

  pub own_capacity : (s : Filled) (rows : List ℕ) → Fits rows (pushed (type_rows_at text words extensions (get_or types k 0)) s) →
      Fits rows (pushed (type_rows_at text words own (get_or types k 0)) s)
  own_capacity s rows h = rw own_builds h

  pub own_pushed : (s : Filled) → pushed (type_rows_at text words own (get_or types k 0)) s ≡ pushed (type_rows_at text words extensions (get_or types k 0)) s
  own_pushed s = ap (λ (l : List Row). pushed l s) own_builds

module _ (extensions starts ends : List ℕ) (c : ℕ) (own : List ℕ) (is : own ≡ own_extensions extensions starts ends c) where
  pub own_most : length own ≤ length extensions
  unfolding own_extensions
  own_most = omega (arith, ap length is, part_most (get_or starts c 0) (get_or ends c 0) extensions)

  pub own_stored : (words : List ℕ) → Stored words extensions → Stored words own
  unfolding own_extensions
  own_stored words x = record { stored = λ i h. entry i h }
    where
      entry : (i : ℕ) → i < length own → get_or own i 0 < cards_used_of words
      entry i h =
          let start = get_or starts c 0 in
          let w = part_entry start (get_or ends c 0) extensions i (omega (arith, ap length is)) in
          let at : get_or own i 0 ≡ get_or extensions (start + i) 0 = ap (λ (ns : List ℕ). get_or ns i 0) is ∙ w.0 in
          rw at (x.stored (start + i) w.1)
