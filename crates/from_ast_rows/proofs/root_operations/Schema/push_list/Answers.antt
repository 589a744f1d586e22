-- Each branch takes what is left of the list one step after the other.
use mathlib.Core.Path.{refl, ap, ◌∙◌}
use Prim.Native.Nat.{ℕ}
use native.Mathlib.Omega.{arith}
use Rattle.std.specs.Prelude.{Option}
use Rattle.std.specs.Option.{unwrap_or}
use Rattle.definition.specs.Answers.{absent}
use Rattle.component.specs.RowsByCards.{schema_list_at}
use Rattle.component.proofs.Loops.{two_first, two_begun, two_second, two_both}
use Rattle.component.proofs.Sticky.{grow_as, grow_end}
use Rattle.from_ast_rows.proofs.SchemaTurns.{schema_begin, schema_defined, schema_adopting, schema_adopted, schema_unrooted, schema_unset, schema_default}
use Rattle.from_ast_rows.proofs.root_operations.Schema.push_list.Goals as goal

pub extend_ast-requires-clause-room : goal.extend_ast-requires-clause-room
unfolding schema_list_at
extend_ast-requires-clause-room c =
    let i = c.args.self.now in
    let cut = schema_defined _ _ c.args.self.now.adopt _ _ c.args.self.now.implicit c.args.kind c.in-Some.card (ap (λ (o : Option ℕ). unwrap_or o absent) c.in-Some.is)
    (omega (arith, i.collection.hashed.cards_most, c.args.self.now.card_stored c.in-Some.card c.in-Some.is)) in
    two_first _ c.args.rows.now _ _ _ cut c.requires

pub extend_by_extensions-requires-clause-begun : goal.extend_by_extensions-requires-clause-begun
unfolding schema_list_at
extend_by_extensions-requires-clause-begun c =
    let i = c.args.self.now in
    let cut = schema_defined _ _ c.args.self.now.adopt _ _ c.args.self.now.implicit c.args.kind c.in-Some.card (ap (λ (o : Option ℕ). unwrap_or o absent) c.in-Some.is)
    (omega (arith, i.collection.hashed.cards_most, c.args.self.now.card_stored c.in-Some.card c.in-Some.is)) in
    two_begun _ _ _ _ _ cut c.requires _ c.extend_ast.ensures

pub extend_by_extensions-requires-clause-room : goal.extend_by_extensions-requires-clause-room
unfolding schema_list_at
extend_by_extensions-requires-clause-room c =
    let i = c.args.self.now in
    let cut = schema_defined _ _ c.args.self.now.adopt _ _ c.args.self.now.implicit c.args.kind c.in-Some.card (ap (λ (o : Option ℕ). unwrap_or o absent) c.in-Some.is)
    (omega (arith, i.collection.hashed.cards_most, c.args.self.now.card_stored c.in-Some.card c.in-Some.is)) in
    two_second _ _ _ _ _ cut c.requires _ c.extend_ast.ensures

pub returns-in-Some : goal.returns-in-Some
unfolding schema_list_at
returns-in-Some c =
    let i = c.args.self.now in
    let cut = schema_defined _ _ c.args.self.now.adopt _ _ c.args.self.now.implicit c.args.kind c.in-Some.card (ap (λ (o : Option ℕ). unwrap_or o absent) c.in-Some.is)
    (omega (arith, i.collection.hashed.cards_most, c.args.self.now.card_stored c.in-Some.card c.in-Some.is)) in
    two_both _ _ _ _ _ cut c.requires _ c.extend_ast.ensures _ c.extend_by_extensions.ensures

pub extend_by_extensions-requires-then-self-clause-room : goal.extend_by_extensions-requires-then-self-clause-room
unfolding schema_list_at
extend_by_extensions-requires-then-self-clause-room c =
    let none = ap (λ (o : Option ℕ). unwrap_or o absent) c.in_default.is in
    let cut = schema_adopting _ _ _ _ _ _ c.args.kind none c.if-self.true in
    two_first _ c.args.rows.now _ _ _ cut c.requires

pub add_implicit_root-requires : goal.add_implicit_root-requires
unfolding schema_list_at
add_implicit_root-requires c =
    let none = ap (λ (o : Option ℕ). unwrap_or o absent) c.in_default.is in
    let cut = schema_adopted _ _ _ _ _ _ c.args.kind none c.if-self.true c.if-self-2.true in
    two_second _ _ _ _ _ cut c.requires _ c.extend_by_extensions-then-self.ensures

pub returns-then-self-2 : goal.returns-then-self-2
unfolding schema_list_at
returns-then-self-2 c =
    let none = ap (λ (o : Option ℕ). unwrap_or o absent) c.in_default.is in
    let cut = schema_adopted _ _ _ _ _ _ c.args.kind none c.if-self.true c.if-self-2.true in
    two_both _ _ _ _ _ cut c.requires _ c.extend_by_extensions-then-self.ensures _ c.add_implicit_root.ensures

pub returns-then-self : goal.returns-then-self
returns-then-self c =
    let w = schema_begin _ _ _ _ _ _ c.args.kind _ c.requires in
    let none = ap (λ (o : Option ℕ). unwrap_or o absent) c.in_default.is in
    let all = schema_unrooted _ _ _ _ _ _ c.args.kind none c.if-self.true c.if-self-2.false in
    let r = c.extend_by_extensions-then-self.ensures in
    record { same_slice = r.same_slice; rows_are = r.rows_are ∙ (grow_as _ _ _ _ _ _ all w).whole }

pub add_implicit_root-requires-then-self-3 : goal.add_implicit_root-requires-then-self-3
unfolding schema_list_at
add_implicit_root-requires-then-self-3 c =
    let none = ap (λ (o : Option ℕ). unwrap_or o absent) c.in_default.is in
    let cut = schema_default _ _ _ _ _ _ c.args.kind none c.if-self.false c.if-self-3.true in
    two_first _ c.args.rows.now _ _ _ cut c.requires

pub extend_by_extensions-requires-then-self-3-clause-begun : goal.extend_by_extensions-requires-then-self-3-clause-begun
unfolding schema_list_at
extend_by_extensions-requires-then-self-3-clause-begun c =
    let none = ap (λ (o : Option ℕ). unwrap_or o absent) c.in_default.is in
    let cut = schema_default _ _ _ _ _ _ c.args.kind none c.if-self.false c.if-self-3.true in
    two_begun _ _ _ _ _ cut c.requires _ c.add_implicit_root-then-self-3.ensures

pub extend_by_extensions-requires-then-self-3-clause-room : goal.extend_by_extensions-requires-then-self-3-clause-room
unfolding schema_list_at
extend_by_extensions-requires-then-self-3-clause-room c =
    let none = ap (λ (o : Option ℕ). unwrap_or o absent) c.in_default.is in
    let cut = schema_default _ _ _ _ _ _ c.args.kind none c.if-self.false c.if-self-3.true in
    two_second _ _ _ _ _ cut c.requires _ c.add_implicit_root-then-self-3.ensures

pub returns-then-self-3 : goal.returns-then-self-3
unfolding schema_list_at
returns-then-self-3 c =
    let none = ap (λ (o : Option ℕ). unwrap_or o absent) c.in_default.is in
    let cut = schema_default _ _ _ _ _ _ c.args.kind none c.if-self.false c.if-self-3.true in
    two_both _ _ _ _ _ cut c.requires _ c.add_implicit_root-then-self-3.ensures _ c.extend_by_extensions-then-self-3.ensures

pub returns-else-self-3 : goal.returns-else-self-3
returns-else-self-3 c =
    let w = schema_begin _ _ _ _ _ _ c.args.kind _ c.requires in
    let none = ap (λ (o : Option ℕ). unwrap_or o absent) c.in_default.is in
    record { same_slice = refl; rows_are = grow_end _ _ _ _ _ w (schema_unset _ _ _ _ _ _ c.args.kind none c.if-self.false c.if-self-3.false) }
