use mathlib.Core.Path.{refl}
use native.Mathlib.Omega.{arith}
use Rattle.std.proofs.lemmas.Slice.{put_mid-paste}
use Rattle.definition.specs.Lists.{written}
use Rattle.word_list.proofs.WordList.extend_from_slice.Goals as goal

pub returns : goal.returns
unfolding written
returns c = record {
  same_slice = refl;
  grown = refl;
  words = put_mid-paste _ _ _ _ _ _ c.copy_from_slice.ensures.after (omega arith) refl;
}
