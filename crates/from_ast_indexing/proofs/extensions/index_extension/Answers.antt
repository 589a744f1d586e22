-- A heading that is no type extension changes nothing; one that is gets an owner or none.
use Rattle.from_ast_indexing.proofs.ExtensionsTurns.{extension_skipped, extension_told}
use Rattle.from_ast_indexing.proofs.extensions.index_extension.Goals as goal

pub returns-then-not-is_type_extension-clause-turn : goal.returns-then-not-is_type_extension-clause-turn
returns-then-not-is_type_extension-clause-turn c =
    extension_skipped _ _ _ _ _ _ _ _ c.kind.ensures c.is_type_extension.ensures c.if-not-is_type_extension.true

pub returns-clause-turn : goal.returns-clause-turn
returns-clause-turn c =
    extension_told _ _ _ _ _ _ _ _ c.kind.ensures c.is_type_extension.ensures c.if-not-is_type_extension.false _ c.find.result _ c.unwrap_or.ensures
    c.find.ensures c.push.ensures.listed c.push.ensures.len
