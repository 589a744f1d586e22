-- An adopted type has its extensions' parts; a defined one first its own.
use mathlib.Core.Path.{sym, ◌∙◌}
use Rattle.component.proofs.Sticky.{grow_as, grow_fits}
use Rattle.component.specs.RowsByCards.{list_at}
use Rattle.component.proofs.Loops.{two_begun, two_both}
use Rattle.component.proofs.Turns.{list_adopted, list_defined, list_begin}
use Rattle.from_ast_rows.proofs.types.Type.collect_sticky.Goals as goal

pub type_extensions-requires-clause-room : goal.type_extensions-requires-clause-room
type_extensions-requires-clause-room c =
    let w = list_begin _ _ _ _ c.args.kind _ c.requires in
    let all = list_adopted _ _ _ _ c.args.kind (sym c.args.self.now.adopted_is ∙ c.if-self.true) in
    grow_fits _ _ _ _ _ (grow_as _ _ _ _ _ _ all w)

pub returns-then-self : goal.returns-then-self
returns-then-self c =
    let w = list_begin _ _ _ _ c.args.kind _ c.requires in
    let all = list_adopted _ _ _ _ c.args.kind (sym c.args.self.now.adopted_is ∙ c.if-self.true) in
    let r = c.type_extensions.ensures in
    record { same_slice = r.same_slice; rows_are = r.rows_are ∙ (grow_as _ _ _ _ _ _ all w).whole }

pub type_extensions-requires-2-clause-begun : goal.type_extensions-requires-2-clause-begun
unfolding list_at
type_extensions-requires-2-clause-begun c =
    two_begun _ _ _ _ _ (list_defined _ _ _ _ c.args.kind (sym c.args.self.now.adopted_is ∙ c.if-self.false)) c.requires _ c.extend_ast.ensures

pub returns : goal.returns
unfolding list_at
returns c =
    let cut = list_defined _ _ _ _ c.args.kind (sym c.args.self.now.adopted_is ∙ c.if-self.false) in
    two_both _ _ _ _ _ cut c.requires _ c.extend_ast.ensures _ c.type_extensions-2.ensures
