-- The extensions before a type's definition stand in the type's part of all extensions: those outside give no errors.
use mathlib.Core.Path.{◌≡◌, refl, sym, ◌∙◌, ap, ap₂, subst}
use mathlib.Core.List.{List, [], ◌∷◌, ◌++◌, append-nil}
use mathlib.Core.Bool.{false}
use Prim.Native.Nat.{ℕ, zero, suc, ◌+◌, ◌-◌, ◌≤◌, ◌<◌}
use native.Mathlib.Omega.{arith}
use lib.Dec.{eqb, ltb}
use lib.ListN.{length, take, drop, get_or, length-take, length-drop, take-append-drop}
use lib.Seq.{get_or-take, get_or-drop, drop-drop}
use borrow.Author.Tests.{ne_eqb}
use Rattle.definition.specs.Lists.{flat_map}
use Rattle.definition.specs.Store.{cards_used_of}
use Rattle.definition.specs.Errors.{Error}
use Rattle.store_reader.specs.Stored.{card_kind}
use Rattle.from_ast_index.specs.Index.{owner_at, Spanned, part, own_extensions}
use Rattle.from_ast_index.proofs.Lists.{taken_most}
use Rattle.from_ast_collisions.specs.Earlier.{View, merge_errors}
use Rattle.from_ast_collisions.specs.ErrorsByCards.{is_early, early_errors, type_errors_at}
use Rattle.from_ast_collisions.specs.Views.{view_of, card_view, view, cards, merged, Ascending}
use Rattle.from_ast_index.specs.declared.Index.{Index}
use Rattle.from_ast_collisions.specs.declared.owner.Owner.{Owner}
use Rattle.definition.proofs.Lists.{flat_map_nil, flat_map_cons, flat_map_append}
use Rattle.from_ast_collisions.proofs.Tests.{and_false}
use Rattle.from_ast_collisions.proofs.Branches.{defined_first, held_before, owner_merged}

-- ---- What a list gives, a part of it gives where all else gives nothing.

module _ {ℓ} {B : Type ℓ} (f : ℕ → List B) where
  flat_none : (xs : List ℕ) → ((i : ℕ) → i < length xs → f (get_or xs i 0) ≡ []) → flat_map f xs ≡ []
  flat_none [] h = flat_map_nil f
  flat_none (x ∷ xs) h = flat_map_cons f x xs ∙ ap₂ (λ l m. l ++ m) (h 0 (omega arith)) (flat_none xs (λ i l. h (suc i) (omega arith)))

  module _ (xs : List ℕ) (start end : ℕ) (outside : (i : ℕ) → i < length xs → (start ≤ i → i < end → ⊥) → f (get_or xs i 0) ≡ []) where
    none_before : flat_map f (take start xs) ≡ []
    none_before = flat_none (take start xs) (λ i l. no i l)
      where
        no : (i : ℕ) → i < length (take start xs) → f (get_or (take start xs) i 0) ≡ []
        no i l =
            let m = taken_most start xs in
            let s : i < start = omega arith in
            ap f (get_or-take start xs i 0 s) ∙ outside i (omega (arith, length-take start xs)) (λ a b. omega arith)

    none_after : flat_map f (drop (end - start) (drop start xs)) ≡ []
    none_after = ap (flat_map f) (drop-drop (end - start) start xs) ∙ flat_none (drop (start + (end - start)) xs) (λ i l. no i l)
      where
        no : (i : ℕ) → i < length (drop (start + (end - start)) xs) → f (get_or (drop (start + (end - start)) xs) i 0) ≡ []
        no i l =
            let d = length-drop (start + (end - start)) xs in
            ap f (get_or-drop (start + (end - start)) xs i 0) ∙ outside (start + (end - start) + i) (omega arith) (λ a b. omega arith)

    flat_part : flat_map f xs ≡ flat_map f (part start end xs)
    unfolding part
    flat_part =
        ap (flat_map f) (sym (take-append-drop start xs))
        ∙ flat_map_append f (take start xs) (drop start xs)
        ∙ ap (λ (l : List B). l ++ flat_map f (drop start xs)) none_before
        ∙ ap (flat_map f) (sym (take-append-drop (end - start) (drop start xs)))
        ∙ flat_map_append f (take (end - start) (drop start xs)) (drop (end - start) (drop start xs))
        ∙ ap (λ (l : List B). flat_map f (take (end - start) (drop start xs)) ++ l) none_after
        ∙ append-nil (flat_map f (take (end - start) (drop start xs)))

-- ---- A part ascends where the whole does.

ascending_drop : (n : ℕ) (xs : List ℕ) → Ascending xs → Ascending (drop n xs)
ascending_drop zero xs a = a
ascending_drop (suc n) [] a = tt
ascending_drop (suc n) (x ∷ xs) a = ascending_drop n xs a.1

ascending_take : (n : ℕ) (xs : List ℕ) → Ascending xs → Ascending (take n xs)
ascending_take zero xs a = tt
ascending_take (suc n) [] a = tt
ascending_take (suc n) (x ∷ xs) a = (held_before (λ y. x < y) n xs a.0, ascending_take n xs a.1)

own_ascends : (extensions starts ends : List ℕ) (c : ℕ) → Ascending extensions → Ascending (own_extensions extensions starts ends c)
unfolding own_extensions part
own_ascends extensions starts ends c a =
    ascending_take (get_or ends c 0 - get_or starts c 0) (drop (get_or starts c 0) extensions) (ascending_drop (get_or starts c 0) extensions a)

pub told_ascends : (extensions starts ends : List ℕ) (c : ℕ) (own : List ℕ) → own ≡ own_extensions extensions starts ends c → Ascending extensions →
    Ascending own
told_ascends extensions starts ends c own e a = subst Ascending (sym e) (own_ascends extensions starts ends c a)

-- ---- The extensions before a definition.

never_early : (v : View) (h c : ℕ) → (v.owner c ≡ h → ⊥) → is_early v h c ≡ false
unfolding is_early
never_early v h c n = rw (ne_eqb (v.owner c) h n) (rw (and_false (eqb (v.kind c) (v.kind h + 7))) (and_false (ltb c h)))

-- One of another owner gives nothing.
early_unowned : (v : View) (rows : List ℕ) (h c : ℕ) → (v.owner c ≡ h → ⊥) → early_errors v rows h c ≡ []
unfolding early_errors
early_unowned v rows h c n = rw (never_early v h c n) refl

module _ (text words owners rows extensions starts ends : List ℕ) (h : ℕ) (spanned : Spanned words owners extensions starts ends)
    (stored : h < cards_used_of words) where
  early_spanned : flat_map (early_errors (view_of text words owners) rows h) extensions ≡
      flat_map (early_errors (view_of text words owners) rows h) (own_extensions extensions starts ends h)
  unfolding own_extensions
  early_spanned =
      flat_part (early_errors (view_of text words owners) rows h) extensions (get_or starts h 0) (get_or ends h 0)
      (λ i l out. early_unowned (view_of text words owners) rows h (get_or extensions i 0) (other i l out))
    where
      other : (i : ℕ) → i < length extensions → (get_or starts h 0 ≤ i → i < get_or ends h 0 → ⊥) → owner_at owners extensions i ≡ h → ⊥
      other i l out at =
          out
          (rw at at (spanned.starts_are.at_or_after i (omega arith) l (omega (arith, at, spanned.starts_length))))
          (rw at at (spanned.ends_are.before_end i l (omega (arith, at, spanned.ends_length))))

  -- The errors of a first definition by its own part.
  pub defined_spanned : (o : ℕ) → o ≡ get_or owners h 0 → h ≤ o → (kind : ℕ) → kind ≡ card_kind words h → (own : List ℕ) →
      own ≡ own_extensions extensions starts ends h →
      type_errors_at (view_of text words owners) rows extensions h ≡ merge_errors (card_view text words) rows kind h h
      ++ flat_map (early_errors (view_of text words owners) rows h) own
  defined_spanned o e l kind q own is =
      defined_first text words owners rows extensions h o e l kind q
      ∙ ap (λ (m : List Error). merge_errors (card_view text words) rows kind h h ++ m)
      (early_spanned ∙ ap (flat_map (early_errors (view_of text words owners) rows h)) (sym is))

-- The same by the row of the definition.
pub defined_owned : (i : Index) (rows : List ℕ) (r : Owner) (h o : ℕ) → h < cards_used_of i.collection.words.now → o ≡ get_or i.owners.now h 0 → h ≤ o →
    (kind : ℕ) → kind ≡ card_kind i.collection.words.now h → r.rows.now ≡ rows → r.kind ≡ kind → r.card ≡ h →
    (own : List ℕ) → own ≡ own_extensions i.extensions.now i.starts.now i.ends.now h →
    type_errors_at (view i) rows i.extensions.now h ≡ merged (cards i.collection) r h ++ flat_map (early_errors (view i) r.rows.now r.card) own
defined_owned i rows r h o stored e l kind q a b c own is =
    defined_spanned i.collection.text.now i.collection.words.now i.owners.now rows i.extensions.now i.starts.now i.ends.now h i.spanned stored o e l kind q own is
    ∙ ap₂ (λ (x y : List Error). x ++ y) (owner_merged (cards i.collection) r rows kind h h a b c)
    (ap₂ (λ (s : List ℕ) (d : ℕ). flat_map (early_errors (view i) s d) own) (sym a) (sym c))
