use Rattle.from_ast_collisions.specs.Views.{cards, merged}
use Rattle.from_ast_collisions.proofs.Push.{Going}
use Rattle.from_ast_collisions.proofs.Merge.{merge_rest}
use Rattle.from_ast_collisions.proofs.merging.merge_errors.Given as goal

abbrev pub invariant-loop-part : goal.invariant-loop-part
invariant-loop-part l =
    Going l.initial.errors l.errors (merged (cards l.collection) l.owner l.heading)
    (merge_rest l.collection.text.now l.collection.words.now l.owner.rows.now l.owner.kind l.owner.card l.part)
