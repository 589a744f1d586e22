use native.Mathlib.Nat.{add-zero}
use borrow.Author.Tests.{le-leb, lt-leb}
use Rattle.parser_items.specs.Lists.{put_card}
use Rattle.parser_items.proofs.cards.put_card.Goals as goal

pub returns-then-n-ge-CARD_CAPACITY : goal.returns-then-n-ge-CARD_CAPACITY
unfolding put_card
returns-then-n-ge-CARD_CAPACITY c = rw (le-leb _ _ c.if-n-ge-CARD_CAPACITY.true)

pub returns : goal.returns
unfolding put_card
returns c = rw (add-zero, lt-leb _ _ c.if-n-ge-CARD_CAPACITY.false)
