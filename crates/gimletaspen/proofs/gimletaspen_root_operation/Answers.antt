use mathlib.Core.Path.{ap, ◌∙◌}
use lib.ListN.{length}
use Rattle.gimletaspen.specs.Exported.{copied_name}
use Rattle.gimletaspen.proofs.gimletaspen_root_operation.Goals as goal

pub returns : goal.returns
returns c =
    let e = c.root_of.ensures in
    let n = c.copy_name.ensures in
    (n.0 ∙ ap length e, n.1 ∙ ap (copied_name _) e)
