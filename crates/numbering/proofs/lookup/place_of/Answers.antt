use borrow.Author.Rules.{rules}
use Rattle.std.proofs.lemmas.Fn.{always_returns_same}
use Rattle.numbering.specs.Named.{named, count}
use Rattle.numbering.specs.Lookup.{is_earlier}
use Rattle.numbering.proofs.LookupLaws.{order_parted, begins_at}
use Rattle.numbering.proofs.lookup.place_of.Goals as goal

pub returns : goal.returns
returns c =
    let e = c.args.hashed in
    let q = c.args.sought in
    let parted = order_parted (named e.names) (count e.names) e.hashes.now c.args.order.now q.name.now q.hash c.requires.0 c.requires.1 in
    begins_at (named e.names) (count e.names) e.hashes.now c.args.order.now q.name.now q.hash c.requires.0 c.requires.1 c.partition_point.result c.partition_point.ensures.bound
    (c.partition_point.ensures.partitioned (is_earlier (named e.names) e.hashes.now q.name.now q.hash) (always_returns_same _ _ _ (λ a r f k. search rules)) parted)
