use Rattle.from_ast_rows.proofs.Catalogue.{listed_arrays}
use Rattle.from_ast_rows.proofs.Parts.{spanned_parted}
use Rattle.from_ast_rows.proofs.Lists.new.Goals as goal

pub invariant_of-result : goal.invariant_of-result
invariant_of-result c =
    let i = c.args.index.now in
    record { arrays = listed_arrays i.collection.hashed i.listed; parted = spanned_parted i.listed i.spanned }
