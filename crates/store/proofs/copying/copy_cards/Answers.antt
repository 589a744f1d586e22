use native.Mathlib.Omega.{arith}
use Rattle.store.proofs.Moved.{within_read, copying_next, copied_all}
use Rattle.store.proofs.copying.copy_cards.Goals as goal

pub moved-card-requires : goal.moved-card-requires
moved-card-requires c =
    let b = within_read _ _ _ _ _ _ c.loop-i.invariant c.loop-i-test.true c.card_at.result c.card_at.ensures in
    (omega (arith, b.0, c.requires.2), omega (arith, b.1, c.requires.2))

pub loop-i-preserved : goal.loop-i-preserved
loop-i-preserved c =
    copying_next _ _ _ _ _ _ c.loop-i.invariant c.loop-i-test.true c.card_at.result c.card_at.ensures c.moved-card.result _ c.requires.0
    c.moved-card.ensures c.write_card.ensures

pub returns : goal.returns
returns c = copied_all _ _ _ _ _ _ c.loop-i.invariant c.loop-i-test.false c.loop-i.auto.i-end c.requires.1 c.requires.0
