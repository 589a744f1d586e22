use Rattle.std.proofs.Common.{sym, ◌∙◌, ap, arith, below_more}
use Rattle.replay_calls.specs.LineWords.{after_words, number_of}
use Rattle.replay_calls.proofs.LineWords.{after_none, after_more, word_after, is_that}
use Rattle.replay_calls.proofs.line.Line.has.Goals as goal

pub loop-expected-init : goal.loop-expected-init
loop-expected-init c = record {
  at = c.after-rest.ensures ∙ sym (after_none (after_words c.args.from c.args.self.now.bytes.now));
  read = λ i h. absurd (omega arith);
}

pub loop-expected-preserved : goal.loop-expected-preserved
loop-expected-preserved c =
    let rest = after_words c.args.from c.args.self.now.bytes.now in
    let a = c.loop-expected in
    record {
      at = c.cut_word.ensures.rest ∙ after_more a.expected-index rest a.rest.now a.invariant.at;
      read =
          below_more _ _ a.invariant.read
          (ap number_of (sym (c.cut_word.ensures.word ∙ word_after a.expected-index rest a.rest.now a.invariant.at))
          ∙ sym c.number_of.ensures ∙ is_that c.number_of.result _ c.if-ne.ensures);
    }
