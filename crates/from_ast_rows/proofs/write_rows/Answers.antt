-- The schema, the directive definitions, the types: what each leaves is what the next one takes.
use mathlib.Core.Path.{refl, sym, ◌∙◌}
use Rattle.std.proofs.Common.{rules}
use Rattle.component.proofs.Pushing.{rest_capacity, rest_next, rest_fits}
use Rattle.from_ast_rows.proofs.Catalogue.{arrays_rest, pushed_first}
use Rattle.from_ast_rows.proofs.write_rows.Goals as goal

pub push_schema-requires-clause-room : goal.push_schema-requires-clause-room
push_schema-requires-clause-room c =
    rest_capacity _ _ _ (arrays_rest c.args.lists.now.arrays c.args.adopt _ c.requires.room) _ _ refl

pub directive_definitions-requires-clause-room : goal.directive_definitions-requires-clause-room
directive_definitions-requires-clause-room c =
    let rest = arrays_rest c.args.lists.now.arrays c.args.adopt _ c.requires.room in
    rest_capacity _ _ _ (rest_next _ _ _ rest _ _ refl _ c.push_schema.ensures.rows_are) _ _ refl

pub push_all_types-requires-clause-room : goal.push_all_types-requires-clause-room
push_all_types-requires-clause-room c =
    let rest = arrays_rest c.args.lists.now.arrays c.args.adopt _ c.requires.room in
    let n = rest_next _ _ _ rest _ _ refl _ c.push_schema.ensures.rows_are in
    rest_fits _ _ _ (rest_next _ _ _ n _ _ refl _ c.directive_definitions.ensures.rows_are)

pub returns-clause-rows : goal.returns-clause-rows
returns-clause-rows c =
    let rest = arrays_rest c.args.lists.now.arrays c.args.adopt _ c.requires.room in
    let n = rest_next _ _ _ rest _ _ refl _ c.push_schema.ensures.rows_are in
    let o = rest_next _ _ _ n _ _ refl _ c.directive_definitions.ensures.rows_are in
    let e = (pushed_first _ _ _ _ (c.push_all_types.ensures.rows_are ∙ o.whole)).0 in
    let same = sym (c.push_all_types.ensures.same_slice ∙ c.directive_definitions.ensures.same_slice ∙ c.push_schema.ensures.same_slice) in
    search (rules, same, e)

pub returns-clause-count : goal.returns-clause-count
returns-clause-count c =
    let rest = arrays_rest c.args.lists.now.arrays c.args.adopt _ c.requires.room in
    let n = rest_next _ _ _ rest _ _ refl _ c.push_schema.ensures.rows_are in
    let o = rest_next _ _ _ n _ _ refl _ c.directive_definitions.ensures.rows_are in
    (pushed_first _ _ _ _ (c.push_all_types.ensures.rows_are ∙ o.whole)).1
