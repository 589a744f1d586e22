use mathlib.Core.Path.{◌∙◌, ap}
use mathlib.Core.List.{List}
use Prim.Native.Nat.{ℕ}
use Rattle.definition.specs.Outcomes.{RootName}
use Rattle.gimletaspen.proofs.Named.{operation_named, nothing_named}
use Rattle.gimletaspen.proofs.root_of.Goals as goal

-- Here a name's bytes alone are told.
abbrev bytes_of : RootName → List ℕ
bytes_of name = name.bytes

pub returns-in_default : goal.returns-in_default
returns-in_default c = let none = c.in_default.ensures in nothing_named _ _ _ _ none.0 none.1 none.2

pub returns : goal.returns
returns c = ap bytes_of c.root_operation.ensures.0 ∙ operation_named _ _ _ _ _ c.in-Some.ensures
