-- What the rows leave is what the errors ask; the last law tells both by the account.
use native.Mathlib.Omega.{arith}
use Prim.Native.Nat.{◌*◌}
use lib.ListN.{length-take}
use Rattle.definition.specs.Store.{adopt_word}
use Rattle.from_ast_errors.proofs.Fits.{errors_fit_lem}
use Rattle.from_ast.proofs.Bounds.{rows_alike, count_alike, rows_stand, rows_within, errors_capacity_lem, built}
use Rattle.from_ast.proofs.build_indexed.Goals as goal

pub slice_bounds-drawn-end-2 : goal.slice_bounds-drawn-end-2
slice_bounds-drawn-end-2 c =
    let w = rows_within _ _ _ _ c.write_rows-used.ensures.count c.write_rows-used.ensures.rows in
    omega (arith, length-take (3 * c.write_rows-used.result) c.write_rows-used.new.rows)

pub write_errors-told-requires : goal.write_errors-told-requires
write_errors-told-requires c =
    let y = c.write_rows-used.ensures in
    let same = c.new.ensures.collection in
    record {
      store_sound = c.requires.asked.store_sound;
      rows_are = rows_stand _ _ _ _ (count_alike same _ y.count) (rows_alike same _ _ _ y.rows);
      errors_most = errors_fit_lem _ _ c.requires.asked.store_sound _;
      errors_capacity_lem = errors_capacity_lem _ _ c.requires.asked.store_sound _ c.args.errors.now c.requires.asked.errors_length;
    }

pub returns : goal.returns
unfolding adopt_word
returns c =
    let y = c.write_rows-used.ensures in
    let same = c.new.ensures.collection in
    built _ _ c.requires.asked.store_sound _ _ _ _ _ _ (rows_alike same _ _ _ y.rows) (count_alike same _ y.count) c.write_errors-told.ensures
