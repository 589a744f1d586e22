use mathlib.Core.Path.{◌≡◌}
use Prim.Native.Nat.{min, ◌*◌}
use native.Mathlib.Omega.{arith}
use lib.ListN.{length}
use Rattle.definition.specs.Cards.{card_words}
use Rattle.ast.proofs.Walk.{card_read}
use Rattle.ast.proofs.card_at.Goals as goal

pub returns : goal.returns
returns c =
    let from : c.min-from.result ≡ min (card_words * c.args.i) (length c.args.cards.now) = omega arith in
    card_read _ _ _ from _ _ _ _ _ c.word.ensures c.word-2.ensures c.word-3.ensures c.word-4.ensures c.word-5.ensures
