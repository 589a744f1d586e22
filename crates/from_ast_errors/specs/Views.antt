-- What a collection says of cards by their numbers, and any words that stand for their owners.
use Rattle.std.specs.Prelude.{List, ℕ}
use Rattle.from_ast_index.specs.declared.Collection.{Collection}
use Rattle.from_ast_collisions.specs.Earlier.{View}
use Rattle.from_ast_collisions.specs.Views.{view_of}

abbrev pub owned_view : Collection → List ℕ → View
owned_view c owners = view_of c.text.now c.words.now owners
