use Prim.Native.Nat.{ℕ, ◌<◌}
use mathlib.Core.Path.{◌≡◌}
use lib.ListN.{length, get_or}
use Rattle.name.specs.Hashes.{hash_of}
use Rattle.numbering.specs.Named.{named}
use Rattle.numbering.proofs.hashes.hash_names.Given as goal

abbrev pub invariant-loop-card : goal.invariant-loop-card
invariant-loop-card l =
    (length l.hashes ≡ length l.initial.hashes)
    × ((i : ℕ) → i < l.card → get_or l.hashes i 0 ≡ hash_of (named l.names i))
