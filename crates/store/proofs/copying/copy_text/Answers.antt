use mathlib.Core.Path.{refl, ◌∙◌}
use native.Mathlib.Omega.{arith}
use lib.ListN.{length-set}
use Rattle.store.proofs.Copied.{copied_none, copied_next, copied_all}
use Rattle.store.proofs.copying.copy_text.Goals as goal

pub loop-i-init : goal.loop-i-init
loop-i-init c = (omega arith, copied_none _ c.args.text.now, refl)

pub loop-i-preserved : goal.loop-i-preserved
loop-i-preserved c = (
  omega arith,
  rw c.loop-i.invariant.1
      (copied_next c.args.unused.now _ _ (omega arith) c.loop-i-test.true),
  simp length-set (omega arith),
)

pub returns : goal.returns
returns c = c.loop-i.invariant.1 ∙ copied_all _ c.args.text.now c.loop-i.i (omega (arith, c.loop-i-test.false))
