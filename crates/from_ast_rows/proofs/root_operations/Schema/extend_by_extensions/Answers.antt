use mathlib.Core.Path.{sym, ap, ◌∙◌}
use native.Mathlib.Omega.{arith}
use mathlib.Core.List.{List}
use Prim.Native.Nat.{ℕ}
use Rattle.definition.specs.Catalogue.{Row}
use Rattle.component.specs.Pushed.{Filled, filled_of, extend_sticky}
use Rattle.from_ast_index.specs.Index.{same_stored}
use Rattle.component.proofs.Loops.{extends_fits, extends_next, extends_past}
use Rattle.component.proofs.Turns.{extended_nothing}
use Rattle.from_ast_rows.proofs.SchemaTurns.{schema_extension_not, schema_extension_is}
use Rattle.from_ast_rows.proofs.root_operations.Schema.extend_by_extensions.Goals as goal

pub loop-card-preserved-then-kind-ne-SCHEMA_EXTENSION : goal.loop-card-preserved-then-kind-ne-SCHEMA_EXTENSION
loop-card-preserved-then-kind-ne-SCHEMA_EXTENSION c =
    let none = schema_extension_not c.args.self.now.collection.text.now _ c.args.kind _ (λ q. c.if-kind-ne-SCHEMA_EXTENSION.true (c.kind.ensures ∙ q)) in
    extends_past _ _ _ _ _ _ _ c.loop-card.invariant (omega arith) (extended_nothing _ c.args.start _ _ none)

pub extend_ast-requires-clause-room : goal.extend_ast-requires-clause-room
extend_ast-requires-clause-room c =
    let i = c.args.self.now.collection in
    let is = schema_extension_is i.text.now i.words.now c.args.kind _ (sym c.kind.ensures ∙ c.if-kind-ne-SCHEMA_EXTENSION.false) in
    let made : List Row → ℕ = λ l. (extend_sticky (same_stored i.text.now i.words.now) c.args.start l (filled_of c.loop-card.rows)).used in
    let fits = extends_fits _ _ _ _ _ _ _ c.loop-card.invariant (omega arith) in
    omega (arith, fits, ap made is)

pub loop-card-preserved : goal.loop-card-preserved
loop-card-preserved c =
    let i = c.args.self.now.collection in
    let is = schema_extension_is i.text.now i.words.now c.args.kind _ (sym c.kind.ensures ∙ c.if-kind-ne-SCHEMA_EXTENSION.false) in
    let made : List Row → Filled = λ l. extend_sticky (same_stored i.text.now i.words.now) c.args.start l (filled_of c.loop-card.rows) in
    let r = c.extend_ast.ensures in
    extends_next _ _ _ _ _ _ _ c.loop-card.invariant (omega arith) _ (record { same_slice = r.same_slice; rows_are = r.rows_are ∙ sym (ap made is) })
