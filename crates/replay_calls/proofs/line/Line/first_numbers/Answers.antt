use Rattle.std.proofs.Common.{sym, ◌∙◌, ap, ◌+◌, ◌≡◌, ℕ, arith, add-zero}
use Rattle.std.proofs.Math.ListN.{length-set, length-replicate}
use Rattle.replay_calls.specs.LineWords.{after_words, number_of}
use Rattle.replay_calls.proofs.LineWords.{after_more, word_after, was_there, more_read}
use Rattle.replay_calls.proofs.line.Line.first_numbers.Goals as goal

pub loop-number-init : goal.loop-number-init
loop-number-init g c = record {
  at = rw add-zero c.after-rest.ensures;
  size = length-replicate {A = ℕ} g.row.N 0;
  read = λ i h. absurd (omega arith);
}

pub loop-number-preserved : goal.loop-number-preserved
loop-number-preserved g c =
    let line = c.args.self.now.bytes.now in
    let a = c.loop-number in
    let k : (c.args.from + a.number-index) + 1 ≡ c.args.from + (a.number-index + 1) = omega arith in
    record {
      at = c.cut_word.ensures.rest ∙ after_more (c.args.from + a.number-index) line a.rest.now a.invariant.at ∙ ap (λ (n : ℕ). after_words n line) k;
      size = simp length-set a.invariant.size;
      read =
          more_read line a.number-items c.args.from a.number-index _ (let s = a.invariant.size in let t = c.loop-number-test.true in omega arith) a.invariant.read
          (ap number_of (sym (c.cut_word.ensures.word ∙ word_after (c.args.from + a.number-index) line a.rest.now a.invariant.at))
          ∙ sym c.number_of.ensures ∙ was_there c.number_of.result _ c.ok_or.result c.in_ok-number.field-0 c.ok_or.ensures.value c.in_ok-number.was);
    }
