use mathlib.Core.Path.{refl}
use native.Mathlib.Omega.{arith}
use Prim.Native.Nat.{◌-◌}
use lib.ListN.{length}
use Rattle.numbering.specs.Named.{named, count}
use Rattle.numbering.specs.Table.{most_probes}
use Rattle.numbering.proofs.TableLaws.{words_most, start_is}
use Rattle.numbering.proofs.LookupLaws.{found_far, found_word}
use Rattle.numbering.proofs.lookup.find_by_table.Goals as goal

pub probe-requires : goal.probe-requires
probe-requires c = (
  omega (arith, c.requires.0, c.home_of-start.ensures.1),
  words_most (named c.args.hashed.names) (length c.args.table.now - most_probes) (count c.args.hashed.names) c.args.table.now c.requires.2,
)

pub returns-in_err-d : goal.returns-in_err-d
returns-in_err-d c =
    let e = c.args in
    let home = c.home_of-start in
    let slots = length e.table.now - most_probes in
    let at = start_is slots e.sought.hash home.result e.sought.name.now home.ensures.0 e.sought.hashed in
    rw c.from_residual.ensures (found_far (named e.hashed.names) slots (count e.hashed.names) e.table.now e.sought.name.now c.requires.2 home.result most_probes at c.in_err-d.ensures.probed refl)

pub returns : goal.returns
returns c =
    let e = c.args in
    let home = c.home_of-start in
    let slots = length e.table.now - most_probes in
    let at = start_is slots e.sought.hash home.result e.sought.name.now home.ensures.0 e.sought.hashed in
    found_word (named e.hashed.names) slots (count e.hashed.names) e.table.now e.sought.name.now c.requires.2 home.result c.in_ok-d.d at c.in_ok-d.ensures.probed
    c.in_ok-d.ensures.near c.checked_sub.result c.checked_sub.ensures
