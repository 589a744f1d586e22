use mathlib.Core.Path.{sym}
use native.Mathlib.Omega.{arith}
use lib.Seq.{length-take-le}
use Rattle.schema.proofs.OriginsLaws.{block_fits, block_rows}
use Rattle.schema.proofs.origins.schema_block.Goals as goal

pub overflow_mul-result : goal.overflow_mul-result
overflow_mul-result c =
    let fits = rw (sym c.row_count.ensures, sym c.unwrap_or-end.ensures) at (block_fits c.args.schema.rows.now _ c.find_type_row.ensures) in
    omega arith

pub slice_bounds-result-end : goal.slice_bounds-result-end
slice_bounds-result-end c =
    let fits = rw (sym c.row_count.ensures, sym c.unwrap_or-end.ensures) at (block_fits c.args.schema.rows.now _ c.find_type_row.ensures) in
    sym (length-take-le _ _ fits)

pub returns : goal.returns
returns c = rw (c.unwrap_or-end.ensures, c.row_count.ensures) (block_rows c.args.schema.rows.now _ c.find_type_row.ensures)
