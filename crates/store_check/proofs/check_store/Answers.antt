use mathlib.Core.Path.{sym, ◌∙◌}
use Rattle.store_check.proofs.Sound.{counts_held}
use Rattle.store_check.proofs.Checked.{found_sound}
use Rattle.store_check.proofs.check_store.Goals as goal

pub rows_sound-requires : goal.rows_sound-requires
rows_sound-requires c =
    let k = counts_held _ (sym c.counts_sound.ensures ∙ c.if-counts_sound.true) in
    (k.some, k.few)

pub returns-then-zero_sound : goal.returns-then-zero_sound
returns-then-zero_sound c =
    found_sound _ _ c.if-text-lt-TEXT_CAPACITY.false c.if-words-lt-WORDS_CAPACITY.false
    (sym c.counts_sound.ensures ∙ c.if-counts_sound.true)
    (sym c.rows_sound.ensures ∙ c.if-rows_sound.true)
    (sym c.cards_sound.ensures ∙ c.if-cards_sound.true) (sym c.zero_sound.ensures ∙ c.if-zero_sound.true)
