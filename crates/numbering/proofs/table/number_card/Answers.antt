use mathlib.Core.Path.{◌≡◌, ◌∙◌, ap}
use native.Mathlib.Omega.{arith}
use borrow.Author.Rules.{rules}
use Prim.Native.Nat.{◌+◌, ◌-◌, ◌<◌}
use lib.ListN.{length, get_or, set}
use lib.Seq.{get_or-set_same}
use Rattle.std.proofs.Common.{Some}
use Rattle.name.specs.Hashes.{hash_of}
use Rattle.numbering.specs.Named.{named}
use Rattle.numbering.specs.Table.{most_probes}
use Rattle.numbering.proofs.TableLaws.{words_most, start_is, turned_new, turned_old}
use Rattle.numbering.proofs.table.number_card.Goals as goal
use Rattle.numbering.proofs.table.number_card.Goals.{then-table-start-eq0, else-table-start-eq0}

pub probe-requires : goal.probe-requires
probe-requires c = (
  omega (arith, c.requires.2, c.home_of-start.ensures.1),
  (λ k. omega (arith, c.requires.0, words_most (named c.args.hashed.names) (length c.args.table.now - most_probes) c.args.card c.args.table.now c.requires.5 k)),
)

pub returns : goal.returns
returns c =
    let e = c.args in
    let home = c.home_of-start in
    let d = c.in_ok-d.d in
    let card = e.card in
    let table = e.table.now in
    let found : c.probe.result ≡ Some d = search rules in
    let near : d < most_probes = rw found at c.probe.ensures.near in
    let probed = rw (found, c.sought-sought.ensures) at c.probe.ensures.probed in
    let at = start_is (length table - most_probes) c.sought-sought.result.hash home.result (named e.hashed.names card) home.ensures.0
    (c.sought-sought.result.hashed ∙ ap hash_of c.sought-sought.ensures) in
    let room : home.result + d < length table = omega (arith, c.requires.2, home.ensures.1) in
    elim c.if-table-start-eq0.branch [
      | then-table-start-eq0 w ↦
          let new : get_or (set table (home.result + d) (card + 1)) (home.result + d) 0 ≡ card + 1 = get_or-set_same table (home.result + d) (card + 1) 0 room in
          let its : get_or (set table (home.result + d) (card + 1)) (home.result + d) 0 - 1 ≡ card = omega arith in
          rw (w.table-is, its)
          (turned_new (named e.hashed.names) table e.numbers.now card home.result d c.requires.5 at probed (λ q. omega arith) w.if-table-start-eq0.true room)
      | else-table-start-eq0 w ↦
          rw w.table-is (turned_old (named e.hashed.names) table e.numbers.now card home.result d c.requires.5 at probed (λ q. omega arith) w.if-table-start-eq0.false)
    ]
