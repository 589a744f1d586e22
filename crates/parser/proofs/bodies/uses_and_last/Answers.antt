use mathlib.Core.Path.{refl}
use mathlib.Core.List.{[], ◌∷◌}
use Rattle.definition.specs.Grammar.{part, DirectiveUse*}
use Rattle.parser_values.proofs.Readers.{handed}
use Rattle.parser_items.proofs.Items.{begins, list_on, list_ends, list_fails}
use Rattle.parser.specs.Symbols.{last_of}
use Rattle.parser.proofs.bodies.uses_and_last.Goals as goal

pub returns-in_err-k : goal.returns-in_err-k
returns-in_err-k c =
    let a = c.args in
    let text = a.c.text.now in
    let ps = part DirectiveUse* ∷ last_of a.kind in
    rw (handed _ _ c.from_residual.ensures)
    (list_fails text ps (part DirectiveUse* ∷ []) (last_of a.kind) (begins text ps a.cards.now refl) c.in_err-k.ensures)

pub last_part-requires : goal.last_part-requires
last_part-requires c = rw c.in_ok-k.ensures.1.0 c.requires

pub returns : goal.returns
returns c =
    let a = c.args in
    let text = a.c.text.now in
    let ps = part DirectiveUse* ∷ last_of a.kind in
    let begun = list_on text ps (part DirectiveUse* ∷ []) (last_of a.kind) (begins text ps a.cards.now refl) c.in_ok-k.ensures in
    list_ends text ps (last_of a.kind) c.last_part.result begun c.last_part.ensures
