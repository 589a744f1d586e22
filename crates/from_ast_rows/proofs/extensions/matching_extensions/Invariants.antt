use mathlib.Core.Path.{◌≡◌}
use mathlib.Core.List.{◌++◌}
use Prim.Native.Nat.{◌+◌, ◌≤◌}
use lib.ListN.{length, drop}
use Rattle.definition.specs.Lists.{filter}
use Rattle.word_list.specs.Listed.{listed_in}
use Rattle.component.specs.RowsByCards.{is_matching}
use Rattle.from_ast_rows.proofs.extensions.matching_extensions.Given as goal

-- Those listed so far, and then those that match of the extensions from `extension` on, are all that match.
abbrev pub invariant-loop-extension : goal.invariant-loop-extension
invariant-loop-extension l = record {
  same_slice : l.list.words.ghost_name ≡ l.initial.list.words.ghost_name;
  inside : l.list.len ≤ l.extension-index;
  room : length l.extensions ≤ length l.list.words.now;
  left : listed_in l.list ++ filter (is_matching l.collection.text.now l.collection.words.now (l.definition + 7) l.card) (drop l.extension-index l.extensions)
      ≡ filter (is_matching l.collection.text.now l.collection.words.now (l.definition + 7) l.card) l.extensions;
}
