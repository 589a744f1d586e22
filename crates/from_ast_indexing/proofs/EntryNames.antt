-- One more card of a list, and the first cards of each name then.
use mathlib.Core.Path.{◌≡◌, refl, sym, ◌∙◌, ap}
use mathlib.Core.List.{List, [], ◌∷◌, ◌++◌, append-nil}
use mathlib.Core.Bool.{Bool, true, false}
use mathlib.Core.Option.{Option, none, some}
use mathlib.Core.Logic.{◌≢◌}
use Prim.Native.Nat.{ℕ, suc, ◌+◌, ◌<◌}
use native.Mathlib.Numerals.{add-one}
use native.Mathlib.Omega.{arith}
use lib.ListN.{length, take, drop, get_or}
use lib.Seq.{take-suc, split_at}
use Rattle.definition.specs.Lists.{choose, found, filter, find, firsts, or_else}
use Rattle.definition.specs.Answers.{absent}
use Rattle.definition.specs.Names.{same_name}
use Rattle.store_reader.specs.Stored.{card_name}
use Rattle.from_ast_index.specs.Index.{same_cards}
use Rattle.definition.proofs.Lists.{filter_yes, filter_append, first_yes, any_nil, first_firsts, same_name_eq, same_name_refl}
use Rattle.from_ast_index.proofs.Lists.{first_append, firsts_again, firsts_more}
use Rattle.from_ast_indexing.specs.Entering.{first_card, entered_in, first_entered}

-- ---- One more card of a list.

pub taken_more : (cards : List ℕ) (k : ℕ) → k < length cards → take (k + 1) cards ≡ take k cards ++ (get_or cards k 0 ∷ [])
taken_more cards k h = rw add-one (take-suc cards k 0 h)

filter_one : (p : ℕ → Bool) (c : ℕ) → filter p (c ∷ []) ≡ choose (p c) (c ∷ []) []
unfolding filter
filter_one p c = refl

module _ (p : ℕ → Bool) (cards : List ℕ) (k : ℕ) (h : k < length cards) where
  kept_more : filter p (take (k + 1) cards) ≡ filter p (take k cards) ++ choose (p (get_or cards k 0)) (get_or cards k 0 ∷ []) []
  kept_more =
      ap (filter p) (taken_more cards k h)
      ∙ filter_append p (take k cards) (get_or cards k 0 ∷ [])
      ∙ ap (λ (l : List ℕ). filter p (take k cards) ++ l) (filter_one p (get_or cards k 0))

  pub kept_yes : p (get_or cards k 0) ≡ true → filter p (take (k + 1) cards) ≡ filter p (take k cards) ++ (get_or cards k 0 ∷ [])
  kept_yes e = rw e at kept_more

  pub kept_no : p (get_or cards k 0) ≡ false → filter p (take (k + 1) cards) ≡ filter p (take k cards)
  kept_no e = (rw e at kept_more) ∙ append-nil (filter p (take k cards))

  -- What is kept of the whole has the card where it stands.
  pub kept_split : p (get_or cards k 0) ≡ true → filter p cards ≡ filter p (take k cards) ++ (get_or cards k 0 ∷ filter p (drop (suc k) cards))
  kept_split e =
      ap (filter p) (split_at cards k 0 h)
      ∙ filter_append p (take k cards) (get_or cards k 0 ∷ drop (suc k) cards)
      ∙ ap (λ (l : List ℕ). filter p (take k cards) ++ l) (filter_yes p (get_or cards k 0) (drop (suc k) cards) e)

-- Cards in rising order are other cards.
pub apart : (a b : ℕ) → a < b → a ≢ b
apart a b h e = omega arith

-- ---- Cards of one name.

module _ (text words : List ℕ) where
  pub same_fair : (c x y : ℕ) → same_cards text words x y ≡ true → same_cards text words c x ≡ same_cards text words c y
  unfolding same_cards
  same_fair c x y e = ap (same_name (card_name text words c)) (same_name_eq (card_name text words x) (card_name text words y) e)

  pub same_card_lem : (c : ℕ) → same_cards text words c c ≡ true
  unfolding same_cards
  same_card_lem c = same_name_refl (card_name text words c)

  -- The first ones and the first one of a name, after one more card.
  pub firsts_entered : (D : List ℕ) (c : ℕ) → firsts (same_cards text words) [] (D ++ (c ∷ []))
      ≡ entered_in (same_cards text words) c (firsts (same_cards text words) [] D)
  unfolding entered_in
  firsts_entered D c = go (find (same_cards text words c) (firsts (same_cards text words) [] D)) refl
    where
      go : (o : Option ℕ) → find (same_cards text words c) (firsts (same_cards text words) [] D) ≡ o →
          firsts (same_cards text words) [] (D ++ (c ∷ [])) ≡
          found (find (same_cards text words c) (firsts (same_cards text words) [] D)) (λ d. firsts (same_cards text words) [] D)
          (firsts (same_cards text words) [] D ++ (c ∷ []))
      go (some d) e = rw e (firsts_again (same_cards text words) D c d e)
      go none e = rw e (firsts_more (same_cards text words) D c e)

  firsts_same : (D : List ℕ) (c : ℕ) → find (same_cards text words c) (firsts (same_cards text words) [] D) ≡ find (same_cards text words c) D
  firsts_same D c = first_firsts (same_cards text words) (same_cards text words c) (same_fair c) [] D (any_nil (same_cards text words c))

  pub card_of_firsts : (D : List ℕ) (c : ℕ) → first_card (same_cards text words) c (firsts (same_cards text words) [] D) ≡ first_card (same_cards text words) c D
  unfolding first_card
  card_of_firsts D c = ap (λ (o : Option ℕ). found o (λ d. d) absent) (firsts_same D c)

  either : (o : Option ℕ) (c : ℕ) → found (or_else o (some c)) (λ d. d) absent ≡ found o (λ d. d) c
  either (some d) c = refl
  either none c = refl

  pub owner_entered : (D rest : List ℕ) (c : ℕ) →
      first_entered (same_cards text words) c (firsts (same_cards text words) [] D) ≡ first_card (same_cards text words) c (D ++ (c ∷ rest))
  unfolding first_entered first_card
  owner_entered D rest c =
      ap (λ (o : Option ℕ). found o (λ d. d) c) (firsts_same D c)
      ∙ sym (either (find (same_cards text words c) D) c)
      ∙ ap (λ (o : Option ℕ). found (or_else (find (same_cards text words c) D) o) (λ d. d) absent)
      (sym (first_yes (same_cards text words c) c rest (same_card_lem c)))
      ∙ ap (λ (o : Option ℕ). found o (λ d. d) absent) (sym (first_append (same_cards text words c) D (c ∷ rest)))
