use Rattle.replay_calls.proofs.LineWords.{word_found, rest_found, word_last, rest_last}
use Rattle.std.proofs.Common.{◌∙◌, sym}
use Rattle.replay_calls.proofs.line.cut_word.Goals as goal

pub returns-in-Some-clause-word : goal.returns-in-Some-clause-word
returns-in-Some-clause-word c = word_found c.args.line.now c.in-Some.end (sym c.first_space.ensures ∙ c.in-Some.is)

pub returns-in-Some-clause-rest : goal.returns-in-Some-clause-rest
returns-in-Some-clause-rest c = rest_found c.args.line.now c.in-Some.end (sym c.first_space.ensures ∙ c.in-Some.is)

pub returns-in-None-clause-word : goal.returns-in-None-clause-word
returns-in-None-clause-word c = word_last c.args.line.now (sym c.first_space.ensures ∙ c.in-None.is)

pub returns-in-None-clause-rest : goal.returns-in-None-clause-rest
returns-in-None-clause-rest c = rest_last c.args.line.now (sym c.first_space.ensures ∙ c.in-None.is)
