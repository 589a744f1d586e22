-- The extensions that a type takes in: listed one after another, each a stored card.
use mathlib.Core.Path.{◌≡◌, sym, ap, ◌∙◌}
use mathlib.Core.Bool.{Bool, true, false}
use mathlib.Core.List.{List, [], ◌∷◌, ◌++◌, append_assoc, append-nil}
use Prim.Native.Nat.{ℕ, ◌+◌, ◌-◌, ◌≤◌, ◌<◌}
use native.Mathlib.Omega.{arith}
use borrow.Author.Tests.{eq-eqb, ne_eqb, le-leb, lt-leb}
use lib.Dec.{eqb}
use lib.ListN.{length, get_or, drop}
use Rattle.definition.specs.Lists.{filter}
use Rattle.definition.specs.Cards.{definition_of}
use Rattle.definition.specs.Headings.{is_of, is_kind, is_named}
use Rattle.definition.specs.Store.{cards_used_of}
use Rattle.store_reader.specs.Stored.{card_kind}
use Rattle.definition.proofs.Lists.{filter_yes, filter_no}
use Rattle.definition.proofs.All.{all_filter}
use Rattle.from_ast_index.specs.Index.{same_cards}
use Rattle.from_ast_index.proofs.Lists.{drop_next, drop_end, all_places, all_at}
use Rattle.component.specs.RowsByCards.{Stored, extension_kind, is_matching, matching, lists_at, type_row_at, type_rows_at}
use Rattle.component.proofs.Turns.{and_false}

-- ---- The kind that is sought.

pub extended_kind : (k : ℕ) → 11 ≤ k → definition_of k ≡ k - 7
unfolding definition_of
extended_kind k h = rw (le-leb 11 k h)

pub defined_kind : (k : ℕ) → 4 ≤ k → k < 11 → definition_of k ≡ k
unfolding definition_of
defined_kind k l h = rw (lt-leb 11 k h, le-leb 4 k l)

module _ (words : List ℕ) (card : ℕ) where
  pub extension_adopted : 11 ≤ card_kind words card → extension_kind words card ≡ card_kind words card
  unfolding extension_kind
  extension_adopted h = let e = extended_kind (card_kind words card) h in omega arith

  pub extension_defined : 4 ≤ card_kind words card → card_kind words card < 11 → extension_kind words card ≡ card_kind words card + 7
  unfolding extension_kind
  extension_defined l h = ap (λ (k : ℕ). k + 7) (defined_kind (card_kind words card) l h)

-- ---- One extension.

module _ (text words : List ℕ) (ext owner n : ℕ) where
  pub matching_other : (card_kind words n ≡ ext → ⊥) → is_matching text words ext owner n ≡ false
  unfolding is_matching is_of is_kind
  matching_other e = rw (ne_eqb (card_kind words n) ext e)

  pub matching_unlike : same_cards text words owner n ≡ false → is_matching text words ext owner n ≡ false
  unfolding is_matching is_of is_kind is_named same_cards
  matching_unlike s = rw s (and_false (eqb (card_kind words n) ext))

  pub matching_is : card_kind words n ≡ ext → same_cards text words owner n ≡ true → is_matching text words ext owner n ≡ true
  unfolding is_matching is_of is_kind is_named same_cards
  matching_is e s = rw (eq-eqb (card_kind words n) ext e, s)

-- ---- A walk that lists the cards that pass a test: those listed so far, then what is left.

module _ (p : ℕ → Bool) (ns : List ℕ) (i : ℕ) (mine : List ℕ) where
  pub kept_end : length ns ≤ i → mine ++ filter p (drop i ns) ≡ mine
  unfolding filter
  kept_end h = ap (λ (l : List ℕ). mine ++ filter p l) (drop_end ns i h) ∙ append-nil mine

  module _ (h : i < length ns) where
    pub kept_miss : p (get_or ns i 0) ≡ false → mine ++ filter p (drop (i + 1) ns) ≡ mine ++ filter p (drop i ns)
    kept_miss e = sym (ap (λ (l : List ℕ). mine ++ l) (ap (filter p) (drop_next ns i h) ∙ filter_no p (get_or ns i 0) (drop (i + 1) ns) e))

    pub kept_hit : p (get_or ns i 0) ≡ true → (mine ++ (get_or ns i 0 ∷ [])) ++ filter p (drop (i + 1) ns) ≡ mine ++ filter p (drop i ns)
    kept_hit e =
        append_assoc mine (get_or ns i 0 ∷ []) (filter p (drop (i + 1) ns))
        ∙ sym (ap (λ (l : List ℕ). mine ++ l) (ap (filter p) (drop_next ns i h) ∙ filter_yes p (get_or ns i 0) (drop (i + 1) ns) e))

-- ---- All that are listed are stored.

module _ (text words extensions mine : List ℕ) (card : ℕ) (is : mine ≡ matching text words extensions card) where
  pub matching_stored : Stored words extensions → Stored words mine
  unfolding matching
  matching_stored s = record {
    stored =
        all_at (λ c. c < cards_used_of words) mine
        (rw is (all_filter (λ c. c < cards_used_of words) (is_matching text words (extension_kind words card) card) extensions
        (all_places (λ c. c < cards_used_of words) extensions s.stored)));
  }

  pub type_cut : type_rows_at text words extensions card ≡ (type_row_at words card ∷ []) ++ lists_at text words mine card
  unfolding type_rows_at
  type_cut = ap (λ (l : List ℕ). type_row_at words card ∷ lists_at text words l card) (sym is)
