use mathlib.Core.Path.{refl}
use native.Mathlib.Omega.{arith}
use Rattle.from_ast_indexing.proofs.Headings.{headings_begin, headings_done}
use Rattle.from_ast_indexing.proofs.index_headings.Goals as goal

pub loop-card-init : goal.loop-card-init
loop-card-init c = (headings_begin _ _ refl c.requires.room c.requires.headed, c.cards_used-used.ensures)

pub returns : goal.returns
returns c =
    let l = c.loop-card in
    rw c.into_slice.ensures (headings_done c.args.words.now l.list l.card l.invariant.0 (omega (arith, c.loop-card-test.false, l.invariant.1)))
