use mathlib.Core.Path.{◌≡◌}
use mathlib.Core.List.{map}
use lib.ListN.{take}
use Rattle.store_reader.specs.Stored.{stored_parts}
use Rattle.from_ast_index.specs.Index.{part_hash}
use Rattle.from_ast_indexing.proofs.hash_names.Given as goal

-- The first `i` entries are the hashes of the first `i` cards.
abbrev pub invariant-loop-i : goal.invariant-loop-i
invariant-loop-i l = take l.i l.hashes ≡ take l.i (map part_hash (stored_parts l.text l.words))
