use mathlib.Core.Path.{refl}
use Rattle.word_list.proofs.Filling.{word_written}
use Rattle.word_list.proofs.WordList.push.Goals as goal

pub returns-clause-appends : goal.returns-clause-appends
returns-clause-appends c = record { same_slice = refl; grown = refl; words = word_written _ _ _ c.requires }
