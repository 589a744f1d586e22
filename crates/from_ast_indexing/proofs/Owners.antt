-- Types, extensions and orphans of all headings' cards, out of the three walks.
use mathlib.Core.Path.{◌≡◌, ◌∙◌, ap}
use mathlib.Core.List.{List, []}
use mathlib.Core.Bool.{true, false}
use Prim.Native.Nat.{ℕ, ◌≤◌, ◌<◌}
use native.Mathlib.Omega.{arith}
use lib.Dec.{leb}
use lib.ListN.{length, get_or}
use lib.Seq.{take-length}
use borrow.Author.Tests.{leb-true, lt-leb}
use Rattle.definition.specs.Lists.{filter, firsts}
use Rattle.definition.specs.Cards.{is_type}
use Rattle.definition.specs.Store.{cards_used_of}
use Rattle.store_reader.specs.Stored.{card_kind}
use Rattle.definition.proofs.All.{all_filter}
use Rattle.store_reader.proofs.Lists.{and_true}
use Rattle.from_ast_index.specs.Index.{Cards, same_cards, is_type_extension_kind}
use Rattle.from_ast_index.proofs.Lists.{all_places, all_at, taken_most}
use Rattle.from_ast_indexing.specs.declared.entry.FirstCards.{FirstCards}
use Rattle.from_ast_indexing.specs.Entering.{first_card, cards_of}
use Rattle.from_ast_indexing.proofs.EntryNames.{card_of_firsts}
use Rattle.from_ast_indexing.specs.Types.{is_type_card, TypesAre}
use Rattle.from_ast_indexing.specs.Extensions.{is_extension_card, is_unowned, ExtensionsAre, OrphansAre}

-- A definition's kind is no extension's.
pub type_no_extension : (words : List ℕ) (c : ℕ) → is_type_card words c ≡ true → is_extension_card words c ≡ false
unfolding is_type_card is_extension_card is_type is_type_extension_kind
type_no_extension words c e =
    let k : card_kind words c ≤ 10 = leb-true (card_kind words c) 10 (and_true (leb 5 (card_kind words c)) (leb (card_kind words c) 10) e).1 in
    simp (lt-leb 12 (card_kind words c) (omega arith))

-- What the three walks leave.
pub record OwnersAre (text words cards owners types orphans extensions : List ℕ) : Type 0 where
  pub types_are : types ≡ firsts (same_cards text words) [] (filter (is_type_card words) cards)
  pub extensions_are : extensions ≡ filter (is_extension_card words) cards
  pub orphans_are : orphans ≡ firsts (same_cards text words) [] (filter (is_unowned owners) (filter (is_extension_card words) cards))
  pub type_owners :
      (j : ℕ) → j < length cards → is_type_card words (get_or cards j 0) ≡ true →
      get_or owners (get_or cards j 0) 0 ≡ first_card (same_cards text words) (get_or cards j 0) (filter (is_type_card words) cards)
  pub extension_owners :
      (j : ℕ) → j < length cards → is_extension_card words (get_or cards j 0) ≡ true →
      get_or owners (get_or cards j 0) 0 ≡ first_card (same_cards text words) (get_or cards j 0) (filter (is_type_card words) cards)
  pub types_most : length types ≤ length cards
  pub extensions_most : length extensions ≤ length cards
  pub orphans_most : length orphans ≤ length extensions

module _ (text words hashes cards : List ℕ) (a : Cards text words hashes cards) (owners₁ : List ℕ) (types : FirstCards)
    (owners extensions : List ℕ) (ex : ExtensionsAre text words cards (cards_of types) owners₁ owners extensions (length cards)) where
  extended : extensions ≡ filter (is_extension_card words) cards
  extended = ex.extensions_are ∙ ap (filter (is_extension_card words)) (take-length cards)

  pub extensions_stored : (j : ℕ) → j < length extensions → get_or extensions j 0 < cards_used_of words
  extensions_stored =
      all_at (λ c. c < cards_used_of words) extensions
      (rw extended (all_filter (λ c. c < cards_used_of words) (is_extension_card words) cards
      (all_places (λ c. c < cards_used_of words) cards a.stored)))

  pub extensions_owned : cards_used_of words ≤ length owners → (j : ℕ) → j < length extensions → get_or extensions j 0 < length owners
  extensions_owned l j h = omega (arith, extensions_stored j h)

  pub owners_done : TypesAre text words cards owners₁ types (length cards) → (orphans : List ℕ) →
      OrphansAre text words owners extensions orphans (length extensions) → length extensions ≤ length cards → length orphans ≤ length extensions →
      OwnersAre text words cards owners (cards_of types) orphans extensions
  owners_done ty orphans r most orphans_most =
      let typed : cards_of types ≡ firsts (same_cards text words) [] (filter (is_type_card words) cards) =
      ty.types_are ∙ ap (λ (l : List ℕ). firsts (same_cards text words) [] (filter (is_type_card words) l)) (take-length cards) in
      record {
        types_are = typed;
        extensions_are = extended;
        orphans_are = r ∙ ap (λ (l : List ℕ). firsts (same_cards text words) [] (filter (is_unowned owners) l)) (take-length extensions ∙ extended);
        type_owners = λ j h y. ex.others_stay (get_or cards j 0) (type_no_extension words (get_or cards j 0) y) ∙ ty.owners_are j h y;
        extension_owners = λ j h y.
            ex.owners_are j h y
            ∙ ap (first_card (same_cards text words) (get_or cards j 0)) typed
            ∙ card_of_firsts text words (filter (is_type_card words) cards) (get_or cards j 0);
        types_most = omega (arith, ty.types_most, taken_most types.len types.cards.now);
        extensions_most = most;
        orphans_most = orphans_most;
      }
