use mathlib.Core.Path.{refl}
use Prim.Native.Nat.{◌*◌, ◌%◌}
use native.Mathlib.Nat.{mod-lt}
use native.Mathlib.Omega.{arith}
use Rattle.numbering.specs.Table.{home}
use Rattle.numbering.proofs.TableLaws.{home_less}
use Rattle.numbering.proofs.table.home_of.Goals as goal

pub returns : goal.returns
unfolding home
returns c =
    let product = c.args.hash * 2654435769 in
    rw c.from.ensures (refl, home_less (product % 4294967296) c.args.slots (mod-lt product (omega arith)) c.requires.0)
