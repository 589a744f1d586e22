use mathlib.Core.Path.{sym, ◌∙◌}
use native.Mathlib.Nat.{add-sub_cancel_left}
use native.Mathlib.Omega.{arith}
use lib.Seq.{length-take-le}
use Rattle.store_reader.specs.Rows.{row_of}
use Rattle.store_check.proofs.Zero.{zero_lengths, zero_told}
use Rattle.store_check.proofs.zero_sound.Goals as goal

pub slice_bounds-built_ins-end : goal.slice_bounds-built_ins-end
slice_bounds-built_ins-end c =
    let l = zero_lengths c.args.text.now _ c.requires.1 (row_of c.at-row.result) c.at-row.ensures in
    sym (length-take-le _ _ (omega (arith, c.requires.0, l.0)))

pub slice_bounds-built_ins-end-2 : goal.slice_bounds-built_ins-end-2
slice_bounds-built_ins-end-2 c =
    let l = zero_lengths c.args.text.now _ c.requires.1 (row_of c.at-row.result) c.at-row.ensures in
    omega (arith, c.requires.1.long, l.1)

pub returns : goal.returns
returns c =
    c.is_ok.ensures.value
    ∙ zero_told _ _ c.requires.1 (row_of c.at-row.result) c.at-row.ensures c.check_built_in.result
    (simp add-sub_cancel_left at c.check_built_in.ensures)
