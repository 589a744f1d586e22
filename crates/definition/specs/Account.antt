-- 01, "The plain account of a run": "It holds the documents in order, cards numbered on through them, each with the ignore switch when filed, and both
-- switches." It is also what a store holds.
use Rattle.std.specs.Prelude.{List, Bool}
use Rattle.definition.specs.Headings.{Document}

pub record Account : Type 0 where
  pub documents : List Document
  pub adopt : Bool
  pub ignore : Bool
