use mathlib.Core.Path.{refl}
use Rattle.api.proofs.BuildOutcomes.{build_done}
use Rattle.api.proofs.build.Goals as goal

pub returns : goal.returns
returns c =
    let e = c.args in
    build_done e.text.now e.words.now e.rows.now e.errors.now _ _ c.in_ok-check_build.ensures refl _ _ c.build_inner.ensures
