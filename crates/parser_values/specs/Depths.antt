-- How deep values and types may still nest.
use Rattle.std.specs.Prelude.{◌≡◌, ◌+◌, Option, Some, None}
use Rattle.parser_values.specs.declared.depth.Depth.{Depth}

-- One level fewer is left; or there is none.
abbrev pub Deeper : Depth → Option Depth → Type 0
Deeper d (Some e) = d.levels ≡ e.levels + 1
Deeper d None = d.levels ≡ 0
