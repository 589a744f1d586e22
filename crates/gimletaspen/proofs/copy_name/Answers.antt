use mathlib.Core.Path.{refl, ◌∙◌}
use Rattle.gimletaspen.proofs.Named.{copied}
use Rattle.gimletaspen.proofs.copy_name.Goals as goal

pub returns-then-found-name : goal.returns-then-found-name
returns-then-found-name c = (refl, c.copy_text.ensures ∙ copied _ _ c.if-found-name.true)
