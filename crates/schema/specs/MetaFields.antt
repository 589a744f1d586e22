-- Which types have the meta field that is not the query root's.
use Rattle.std.specs.Prelude.{List, Bool, ◌&&◌, ℕ, leb}
use Rattle.definition.specs.Names.{same_name, bytes}

-- The first test of `meta_field`.
unfoldable pub is_typename : ℕ → List ℕ → Bool
is_typename kind field = leb 6 kind && leb kind 8 && same_name field (bytes "__typename")
