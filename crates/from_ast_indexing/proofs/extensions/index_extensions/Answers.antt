use native.Mathlib.Omega.{arith}
use Rattle.from_ast_indexing.proofs.ExtensionsTurns.{extensions_turn}
use Rattle.from_ast_indexing.proofs.extensions.index_extensions.Goals as goal

pub loop-card-preserved : goal.loop-card-preserved
loop-card-preserved c =
    let l = c.loop-card in
    let r = c.index_extension.ensures in
    record {
      extensions =
          extensions_turn _ _ _ c.args.headings.now c.requires.headings l.card-index (omega arith) _ _ _ _ l.invariant.extensions _ _
          (omega (arith, c.requires.owners)) r.turn;
      len_most = omega (arith, r.turn.len_most, l.invariant.len_most);
      room = omega (arith, r.room, l.invariant.room);
    }
