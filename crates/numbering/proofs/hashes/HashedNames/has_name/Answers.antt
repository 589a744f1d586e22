use mathlib.Core.Path.{sym, ◌∙◌}
use borrow.Author.Tests.{ne_eqb}
use Rattle.numbering.specs.Named.{named, count}
use Rattle.numbering.proofs.HashLaws.{name_differs}
use Rattle.numbering.proofs.hashes.HashedNames.has_name.Goals as goal

pub returns-else-self-card : goal.returns-else-self-card
returns-else-self-card c =
    let e = c.args.self in
    ne_eqb _ _ c.if-self-card.false
    ∙ sym (name_differs (named e.names) (count e.names) e.hashes.now e.hashed c.args.card c.args.sought.name.now c.args.sought.hash c.requires c.args.sought.hashed c.if-self-card.false)
