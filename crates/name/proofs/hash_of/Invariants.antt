use mathlib.Core.Path.{◌≡◌}
use lib.ListN.{drop}
use Rattle.name.specs.Hashes.{hash_of, hash_from}
use Rattle.name.proofs.hash_of.Given as goal

-- What was made so far turns into the hash of the whole by the bytes that are left.
abbrev pub invariant-loop-byte : goal.invariant-loop-byte
invariant-loop-byte l = hash_of l.name ≡ hash_from l.hash (drop l.byte-index l.name)
