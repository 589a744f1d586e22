use Rattle.schema.proofs.AllGroups.{pairs_fit, lent_fits, lent_capacity, lent_groups}
use Rattle.schema.proofs.implementers.implementers_map.Goals as goal

pub collect-requires : goal.collect-requires
collect-requires c = let p = c.requires in pairs_fit _ _ _ p.0 p.1

pub invariant_of-pairs : goal.invariant_of-pairs
invariant_of-pairs c = let p = c.requires in record { few = lent_fits _ _ _ p.0 p.1 _ c.collect.ensures }

pub write_groups-requires : goal.write_groups-requires
write_groups-requires c = let p = c.requires in lent_capacity _ _ _ p.0 p.1 _ c.collect.ensures c.args.list.now p.2

pub returns : goal.returns
returns c =
    let p = c.requires in
    lent_groups _ _ _ p.0 p.1 _ c.collect.ensures _ _ _ c.write_groups.ensures.0 c.write_groups.ensures.1
