-- Which of its bytes tells, with its size, which word of the grammar a name can be.
use Rattle.std.specs.Prelude.{ℕ, eqb}
use Rattle.definition.specs.Lists.{choose}

-- The place of that byte in a name of a size.
abbrev pub telling_place : ℕ → ℕ
telling_place n = choose (eqb n 4) 1 (choose (eqb n 6) 2 0)
