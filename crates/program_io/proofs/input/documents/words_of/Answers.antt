use Rattle.std.proofs.Common.{rules}
use Rattle.program_io.proofs.Words.{all_words}
use Rattle.program_io.proofs.input.documents.words_of.Goals as goal

pub returns-clause-words : goal.returns-clause-words
returns-clause-words c = rw (all_words c.args.bytes.now) (search rules)
