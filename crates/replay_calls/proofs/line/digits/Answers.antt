use Rattle.std.proofs.Common.{sym, ◌∙◌}
use Rattle.replay_calls.proofs.LineWords.{digit_low, digit_high, digit_large, digit_more, digit_end}
use Rattle.replay_calls.proofs.line.digits.Goals as goal
use Rattle.replay_calls.proofs.line.digits.Goals.{then-b-lt48-via-then-b-lt48, then-b-lt48-via-else-b-lt48+then-b-gt-LAST_DIGIT, then-b-lt48-via-else-b-lt48+else-b-gt-LAST_DIGIT+then-n-gt-MOST}

pub returns-then-b-lt48 : goal.returns-then-b-lt48
returns-then-b-lt48 c =
    let s = c.args.word.now in
    let i = c.loop-b.b-index in
    let n = c.loop-b.n in
    let l = c.loop-b-test.true in
    sym (elim c.then-b-lt48.branch [
      | then-b-lt48-via-then-b-lt48 w ↦ digit_low s i n l w.if-b-lt48.true
      | then-b-lt48-via-else-b-lt48+then-b-gt-LAST_DIGIT w ↦ digit_high s i n l w.if-b-lt48.false w.if-b-gt-LAST_DIGIT.true
      | then-b-lt48-via-else-b-lt48+else-b-gt-LAST_DIGIT+then-n-gt-MOST w ↦ digit_large s i n l w.if-b-lt48.false w.if-b-gt-LAST_DIGIT.false w.if-n-gt-MOST.true
    ])
    ∙ c.loop-b.invariant

pub loop-b-preserved : goal.loop-b-preserved
loop-b-preserved c =
    digit_more c.args.word.now c.loop-b.b-index c.loop-b.n c.loop-b-test.true c.if-b-lt48.false c.if-b-gt-LAST_DIGIT.false c.if-n-gt-MOST.false ∙ c.loop-b.invariant

pub returns : goal.returns
returns c = sym (digit_end c.args.word.now c.loop-b.b-index c.loop-b.n c.loop-b-test.false) ∙ c.loop-b.invariant
