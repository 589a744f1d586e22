-- What is left after the defined types is nothing or, adopting, the adopted ones.
use mathlib.Core.Path.{refl, ◌∙◌}
use Rattle.component.proofs.Pushing.{rest_begin, rest_end, rest_capacity, rest_next}
use Rattle.component.specs.RowsByCards.{types_rows_at}
use Rattle.from_ast_rows.proofs.Catalogue.{choose_left, choose_right}
use Rattle.from_ast_rows.proofs.types.push_all_types.Goals as goal

pub push_defined_types-requires-clause-room : goal.push_defined_types-requires-clause-room
push_defined_types-requires-clause-room c = rest_capacity _ _ _ (rest_begin _ _ _ refl c.requires.room) _ _ refl

pub returns-then-not-adopt : goal.returns-then-not-adopt
returns-then-not-adopt c =
    let r = c.push_defined_types.ensures in
    let n = rest_next _ _ _ (rest_begin _ _ _ refl c.requires.room) _ _ refl _ r.rows_are in
    record { same_slice = r.same_slice; rows_are = rest_end _ _ _ n (choose_right c.args.adopt _ c.if-not-adopt.true) }

pub push_adopted_types-requires-clause-room : goal.push_adopted_types-requires-clause-room
push_adopted_types-requires-clause-room c =
    let n = rest_next _ _ _ (rest_begin _ _ _ refl c.requires.room) _ _ refl _ c.push_defined_types.ensures.rows_are in
    let i = c.args.lists.now in
    let adopted = types_rows_at i.collection.text.now i.collection.words.now i.orphans.now i.extensions.now in
    rest_capacity _ _ _ n _ _ (choose_left c.args.adopt adopted c.if-not-adopt.false)

pub returns : goal.returns
returns c =
    let n = rest_next _ _ _ (rest_begin _ _ _ refl c.requires.room) _ _ refl _ c.push_defined_types.ensures.rows_are in
    let i = c.args.lists.now in
    let adopted = types_rows_at i.collection.text.now i.collection.words.now i.orphans.now i.extensions.now in
    let left = choose_left c.args.adopt adopted c.if-not-adopt.false in
    let r = c.push_adopted_types.ensures in
    record {
      same_slice = r.same_slice ∙ c.push_defined_types.ensures.same_slice;
      rows_are = rest_end _ _ _ (rest_next _ _ _ n _ _ left _ r.rows_are) refl;
    }
