-- A heading that is no type definition changes nothing; one that is enters the types.
use Rattle.from_ast_indexing.proofs.TypesTurns.{type_skipped, type_entered}
use Rattle.from_ast_indexing.proofs.types.index_type.Goals as goal

pub returns-then-not-is_type-clause-turn : goal.returns-then-not-is_type-clause-turn
returns-then-not-is_type-clause-turn c = type_skipped _ _ _ _ _ _ _ c.kind.ensures c.is_type.ensures c.if-not-is_type.true

pub returns-clause-turn : goal.returns-clause-turn
returns-clause-turn c =
    let e = c.enter.ensures in
    type_entered _ _ _ _ _ _ _ c.kind.ensures c.is_type.ensures c.if-not-is_type.false _ _ e.first e.cards e.len
