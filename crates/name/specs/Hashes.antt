-- A number below 2 ^ 32 that is made of a name's bytes: names with other hashes are other names.
use Rattle.std.specs.Prelude.{List, [], ◌∷◌, ℕ, ◌+◌, ◌*◌, ◌%◌}

unfoldable pub hash_from : ℕ → List ℕ → ℕ
hash_from h [] = h
hash_from h (b ∷ bs) = hash_from ((h * 16777619 + b) % 4294967296) bs

unfoldable pub hash_of : List ℕ → ℕ
hash_of bs = hash_from 0 bs
