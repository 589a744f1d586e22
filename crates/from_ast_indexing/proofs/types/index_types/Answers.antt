use native.Mathlib.Omega.{arith}
use Rattle.from_ast_indexing.proofs.EntrySearch.{same_on}
use Rattle.from_ast_indexing.proofs.TypesTurns.{types_turn}
use Rattle.from_ast_indexing.proofs.types.index_types.Goals as goal

pub loop-card-preserved : goal.loop-card-preserved
loop-card-preserved c =
    let l = c.loop-card in
    let r = c.index_type.ensures in
    record {
      types =
          types_turn _ _ _ c.args.headings.now c.requires.headings l.card-index (omega arith) _ _ l.invariant.types _ _
          (omega (arith, c.requires.owners)) r.turn;
      firsts = r.firsts;
      same = same_on _ _ l.invariant.same _ r.same;
    }
