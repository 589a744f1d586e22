-- What a definition gives, by the words that stand for owners.
use mathlib.Core.Path.{◌≡◌, sym, ◌∙◌, ap₂}
use mathlib.Core.List.{List, [], ◌++◌}
use Prim.Native.Nat.{ℕ, ◌≤◌, ◌<◌}
use lib.ListN.{get_or}
use Rattle.definition.specs.Lists.{flat_map}
use Rattle.definition.specs.Errors.{Error}
use Rattle.definition.specs.Store.{cards_used_of}
use Rattle.store_reader.specs.Stored.{card_kind}
use Rattle.from_ast_index.specs.declared.Collection.{Collection}
use Rattle.from_ast_index.specs.Index.{Spanned, own_extensions}
use Rattle.from_ast_collisions.specs.declared.owner.Owner.{Owner}
use Rattle.from_ast_collisions.specs.ErrorsByCards.{early_errors, redefinition_errors_at, type_errors_at}
use Rattle.from_ast_collisions.specs.Views.{view_of, cards, merged}
use Rattle.from_ast_collisions.proofs.Branches.{defined_again, owner_merged}
use Rattle.from_ast_collisions.proofs.Spans.{defined_spanned}
use Rattle.from_ast_errors.specs.Views.{owned_view}

-- A second definition gives the errors of one, which no name bears on.
pub defined_twice : (c : Collection) (owners rows extensions : List ℕ) (h o : ℕ) → o ≡ get_or owners h 0 → o < h →
    type_errors_at (owned_view c owners) rows extensions h ≡ redefinition_errors_at (view_of [] c.words.now owners) h
unfolding redefinition_errors_at
defined_twice c owners rows extensions h o e l =
    defined_again c.text.now c.words.now owners rows extensions h o e l

-- A first one gives what is merged into its row, and what the extensions give that stand in its part of all.
pub defined_once : (c : Collection) (owners rows extensions starts ends : List ℕ) → Spanned c.words.now owners extensions starts ends →
    (r : Owner) (h o : ℕ) → h < cards_used_of c.words.now → o ≡ get_or owners h 0 → h ≤ o →
    (kind : ℕ) → kind ≡ card_kind c.words.now h → r.rows.now ≡ rows → r.kind ≡ kind → r.card ≡ h →
    (own : List ℕ) → own ≡ own_extensions extensions starts ends h →
    type_errors_at (owned_view c owners) rows extensions h ≡ merged (cards c) r h ++ flat_map (early_errors (owned_view c owners) r.rows.now r.card) own
defined_once c owners rows extensions starts ends spanned r h o stored e l kind q a b d own is =
    defined_spanned c.text.now c.words.now owners rows extensions starts ends h spanned stored o e l kind q own is
    ∙ ap₂ (λ (x y : List Error). x ++ y) (owner_merged (cards c) r rows kind h h a b d)
    (ap₂ (λ (s : List ℕ) (k : ℕ). flat_map (early_errors (owned_view c owners) s k) own) (sym a) (sym d))
