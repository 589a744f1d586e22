use mathlib.Core.Path.{sym, ◌∙◌}
use Prim.Native.Nat.{◌*◌}
use Rattle.name.proofs.HashLaws.{hash_start, hash_turn, hash_end, wraps}
use Rattle.name.proofs.hash_of.Goals as goal

pub loop-byte-init : goal.loop-byte-init
loop-byte-init c = hash_start c.args.name.now

pub loop-byte-preserved : goal.loop-byte-preserved
loop-byte-preserved c =
    let l = c.loop-byte in
    rw (wraps (l.hash * 16777619) c.from.result, c.from.ensures) (l.invariant ∙ hash_turn l.hash c.args.name.now l.byte-index c.loop-byte-test.true)

pub returns : goal.returns
returns c = let l = c.loop-byte in sym (l.invariant ∙ hash_end l.hash c.args.name.now l.byte-index c.loop-byte-test.false)
