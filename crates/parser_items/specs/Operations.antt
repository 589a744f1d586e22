-- Root operations: the kinds of their cards follow each other as the sorts of their words do.
use Rattle.std.specs.Prelude.{ℕ, ◌+◌, ◌-◌, Option, Some, None}
use Rattle.definition.specs.Lists.{choose}
use Rattle.definition.specs.Grammar.{within}

-- The kind of the operation that a word of a sort names.
abbrev pub operation_kind : ℕ → Option ℕ
operation_kind s = choose (within 32 34 s) (Some (s - 32 + 26)) None
