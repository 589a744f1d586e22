use Rattle.from_ast_collisions.specs.Views.{cards, schema_merged}
use Rattle.from_ast_collisions.proofs.Push.{Turn}
use Rattle.from_ast_collisions.proofs.merging.merge_schema_extensions.Given as goal

abbrev pub invariant-loop-heading : goal.invariant-loop-heading
invariant-loop-heading l = Turn (schema_merged (cards l.collection) l.schema) l.headings l.initial.errors l.errors l.heading-index
