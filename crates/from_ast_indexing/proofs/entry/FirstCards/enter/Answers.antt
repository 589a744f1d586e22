-- A card that comes to the first ones.
use mathlib.Core.Path.{refl, ap}
use native.Mathlib.Omega.{arith}
use lib.ListN.{length}
use Rattle.from_ast_index.proofs.Lists.{taken_most}
use Rattle.from_ast_index.proofs.Search.{hash_at}
use Rattle.from_ast_indexing.proofs.EntrySearch.{firsts_new}
use Rattle.from_ast_indexing.proofs.entry.FirstCards.enter.Goals as goal

pub returns-in-None-clause-firsts : goal.returns-in-None-clause-firsts
returns-in-None-clause-firsts c =
    let f = c.args.self.now in
    let k = c.known-known.ensures in
    firsts_new _ _ f c.args.card _ c.hint-from.result c.requires.firsts c.requires.room
    (hash_at _ _ _ c.args.collection.now.hashed c.args.card c.requires.stored)
    (omega (arith, c.hint-from.ensures.0, ap length k.cards, taken_most f.len f.cards.now))
    (rw (c.slot-slot.ensures, k.buckets) at c.hint-from.ensures.1) _ refl refl (rw (c.slot-slot.ensures, k.buckets) refl) refl
