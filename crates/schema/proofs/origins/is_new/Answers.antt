use mathlib.Core.Path.{◌∙◌, ap}
use mathlib.Core.Bool.{not}
use Rattle.schema.proofs.OriginsLaws.{among, new_told}
use Rattle.schema.proofs.origins.is_new.Goals as goal

pub returns-then-origin : goal.returns-then-origin
returns-then-origin c = ap not (c.contains.ensures.value ∙ among _ _) ∙ new_told _ _ c.if-origin.true
