-- What a store and the owners say of cards by their numbers.
use Rattle.std.specs.Prelude.{List, [], ◌∷◌, ℕ, ◌+◌, ◌≤◌, ◌<◌, get_or}
use Rattle.definition.specs.Lists.{All}
use Rattle.definition.specs.Errors.{Error}
use Rattle.definition.specs.Store.{cards_used_of}
use Rattle.store_reader.specs.Stored.{stored_parts, card_kind, card_name, card_at, built_in_at, ignored_at, parts_from}
use Rattle.from_ast_index.specs.declared.Collection.{Collection}
use Rattle.from_ast_index.specs.declared.Index.{Index}
use Rattle.from_ast_collisions.specs.declared.owner.Owner.{Owner}
use Rattle.from_ast_collisions.specs.Earlier.{View, collision_under, merge_errors}
use Rattle.from_ast_collisions.specs.ErrorsByCards.{schema_merge_errors}

abbrev pub view_of : List ℕ → List ℕ → List ℕ → View
view_of text words owners = record {
  used = cards_used_of words;
  kind = card_kind words;
  name = card_name text words;
  built_in = built_in_at words;
  ignored = ignored_at words;
  parts = λ c. parts_from (stored_parts text words) (c + 1);
  owner = λ c. get_or owners c 0;
}

-- Of cards alone: which owners there are does not bear on what stands for a part.
abbrev pub card_view : List ℕ → List ℕ → View
card_view text words = view_of text words []

-- The same of a collection and of an index.
abbrev pub cards : Collection → View
cards c = card_view c.text.now c.words.now

abbrev pub view : Index → View
view i = view_of i.collection.text.now i.collection.words.now i.owners.now

-- The errors of one part that is merged into the row of an owner, of the parts of a heading, and of those of a schema extension.
abbrev pub collision : Collection → Owner → ℕ → List Error
collision c o part = collision_under (cards c) o.rows.now o.kind o.card (card_at c.text.now c.words.now part)

abbrev pub merged : View → Owner → ℕ → List Error
merged v o heading = merge_errors v o.rows.now o.kind o.card heading

abbrev pub schema_merged : View → Owner → ℕ → List Error
schema_merged v o heading = schema_merge_errors v o.rows.now o.card heading

-- Every one is a stored card's number.
abbrev pub Held : List ℕ → List ℕ → Type 0
Held words cards = All (λ c. c < cards_used_of words) cards

-- Every one is the number of a stored card with a heading's kind.
abbrev pub HeldHeadings : List ℕ → List ℕ → Type 0
HeldHeadings words cards = All (λ c. (c < cards_used_of words) × (card_kind words c ≤ 17)) cards

-- The number of a stored card with an extension's kind.
pub record HeldExtension (words : List ℕ) (c : ℕ) : Type 0 where
  pub stored : c < cards_used_of words
  pub least : 11 ≤ card_kind words c
  pub most : card_kind words c ≤ 17

-- Every one is such.
abbrev pub HeldExtensions : List ℕ → List ℕ → Type 0
HeldExtensions words cards = All (HeldExtension words) cards

-- Each is below those after it.
abbrev pub Ascending : List ℕ → Type 0
Ascending [] = Unit {0}
Ascending (x ∷ xs) = All (λ y. x < y) xs × Ascending xs
