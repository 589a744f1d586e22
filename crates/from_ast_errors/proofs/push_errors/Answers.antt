use mathlib.Core.Path.{refl}
use Rattle.from_ast_collisions.proofs.Push.{both_pushed}
use Rattle.from_ast_errors.proofs.push_errors.Goals as goal

pub returns-clause-pushed : goal.returns-clause-pushed
returns-clause-pushed c = both_pushed _ _ _ _ _ refl _ c.reading_errors.ensures c.drawing_errors.ensures
