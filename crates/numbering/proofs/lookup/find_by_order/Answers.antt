use mathlib.Core.Path.{◌≡◌, sym, ◌∙◌, ap}
use Prim.Native.Nat.{ℕ, ◌≤◌, ◌<◌}
use native.Mathlib.Omega.{arith}
use borrow.Author.Rules.{rules}
use lib.ListN.{length, get_or, take}
use Rattle.definition.specs.Names.{same_name}
use Rattle.numbering.specs.Named.{named, count}
use Rattle.numbering.proofs.OrderNumbers.{front_sorted, front_long}
use Rattle.numbering.proofs.LookupLaws.{ordered_card, ordered_none}
use Rattle.numbering.proofs.lookup.find_by_order.Goals as goal

pub place_of-requires : goal.place_of-requires
place_of-requires c = (front_long c.args.order.now c.count.ensures c.requires.0, front_sorted c.count.ensures c.requires.1)

pub returns-in_err-card : goal.returns-in_err-card
returns-in_err-card c =
    let e = c.args.hashed in
    let q = c.args.sought in
    let long = front_long c.args.order.now c.count.ensures c.requires.0 in
    let past : length (take c.count.result c.args.order.now) ≤ c.place_of.result = search rules in
    rw c.from_residual.ensures (ordered_none (named e.names) e.hashes.now q.name.now q.hash (count e.names) (take c.count.result c.args.order.now) c.place_of.result
    e.hashed q.hashed (front_sorted c.count.ensures c.requires.1) c.place_of.ensures (λ l. absurd (omega arith)))

pub returns-then-has_name : goal.returns-then-has_name
returns-then-has_name c =
    let e = c.args.hashed in
    let q = c.args.sought in
    let long = front_long c.args.order.now c.count.ensures c.requires.0 in
    let is : c.in_ok-card.field-0.now ≡ get_or (take c.count.result c.args.order.now) c.place_of.result 0 = search rules in
    let here : c.place_of.result < length (take c.count.result c.args.order.now) = search rules in
    rw is (ordered_card (named e.names) e.hashes.now q.name.now q.hash (count e.names) (take c.count.result c.args.order.now) c.place_of.result
    e.hashed q.hashed (front_sorted c.count.ensures c.requires.1) c.place_of.ensures (omega arith)
    (ap (λ (k : ℕ). same_name q.name.now (named e.names k)) (sym is) ∙ sym c.has_name.ensures ∙ c.if-has_name.true))

pub returns-else-has_name : goal.returns-else-has_name
returns-else-has_name c =
    let e = c.args.hashed in
    let q = c.args.sought in
    let is : c.in_ok-card.field-0.now ≡ get_or (take c.count.result c.args.order.now) c.place_of.result 0 = search rules in
    ordered_none (named e.names) e.hashes.now q.name.now q.hash (count e.names) (take c.count.result c.args.order.now) c.place_of.result
    e.hashed q.hashed (front_sorted c.count.ensures c.requires.1) c.place_of.ensures
    (λ l. ap (λ (k : ℕ). same_name q.name.now (named e.names k)) (sym is) ∙ sym c.has_name.ensures ∙ c.if-has_name.false)
