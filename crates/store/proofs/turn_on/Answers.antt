use native.Mathlib.Omega.{arith}
use Rattle.store_check.proofs.Checked.{sound_store}
use Rattle.store.proofs.turn_on.Goals as goal

pub bounds-words-switch : goal.bounds-words-switch
bounds-words-switch c =
    let s = sound_store _ _ _ c.check_store.ensures c.in_ok-check_store.was in
    omega (arith, s.words_long, c.requires)
