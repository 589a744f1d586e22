use mathlib.Core.Path.{◌≡◌, sym, ◌∙◌, ap}
use mathlib.Core.List.{◌∷◌, []}
use Rattle.definition.specs.Errors.{error, collision_number}
use Rattle.from_ast_collisions.specs.Views.{collision}
use Rattle.from_ast_collisions.proofs.Push.{same_pushed, same_capacity}
use Rattle.from_ast_collisions.proofs.Merge.{collision_other, number_most}
use Rattle.from_ast_collisions.proofs.merging.push_collision.Goals as goal

pub collision_error-requires-clause-known : goal.collision_error-requires-clause-known
collision_error-requires-clause-known c =
    let a = c.args in
    let pushed : collision a.collection.now a.owner.now a.part ≡ error (collision_number a.owner.now.kind c.kind-what.result) a.part c.in-Some.card ∷ [] =
    collision_other _ _ _ _ _ _ c.args.owner.now.under_it (λ q. c.if-what-eq-DIRECTIVE.false (c.kind-what.ensures ∙ q)) c.in-Some.card _
    (sym c.find_earlier.ensures ∙ c.in-Some.is) c.if-card-part.true (ap (collision_number a.owner.now.kind) c.kind-what.ensures) in
    number_most _ _ _ _ (same_capacity _ _ _ pushed c.requires.capacity)

pub push-requires : goal.push-requires
push-requires c =
    same_capacity _ _ _ (collision_other _ _ _ _ _ _ c.args.owner.now.under_it (λ q. c.if-what-eq-DIRECTIVE.false (c.kind-what.ensures ∙ q)) c.in-Some.card _
    (sym c.find_earlier.ensures ∙ c.in-Some.is) c.if-card-part.true
    (c.collision_error.ensures ∙ ap (collision_number c.args.owner.now.kind) c.kind-what.ensures)) c.requires.capacity

pub returns-then-card-part : goal.returns-then-card-part
returns-then-card-part c =
    same_pushed _ _ _ _ (collision_other _ _ _ _ _ _ c.args.owner.now.under_it (λ q. c.if-what-eq-DIRECTIVE.false (c.kind-what.ensures ∙ q)) c.in-Some.card _
    (sym c.find_earlier.ensures ∙ c.in-Some.is) c.if-card-part.true
    (c.collision_error.ensures ∙ ap (collision_number c.args.owner.now.kind) c.kind-what.ensures)) c.push.ensures
