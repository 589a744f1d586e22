use Rattle.store.proofs.Filed.{opening_fits, text_opened, words_opened}
use Rattle.store.proofs.filing.file_built_in.Goals as goal

pub file-requires : goal.file-requires
file-requires c = opening_fits _ _ _ _ _ c.requires (c.fill.ensures.after (λ y e. e))

pub returns : goal.returns
returns c = record {
  text_after = text_opened _ _ _ _ _ c.requires (c.fill.ensures.after (λ y e. e)) _ c.file.ensures.text_after;
  words_after = words_opened _ _ _ _ _ c.requires (c.fill.ensures.after (λ y e. e)) _ c.file.ensures.words_after;
}
