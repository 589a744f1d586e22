use mathlib.Core.Path.{◌∙◌, ap}
use borrow.Author.Rules.{rules}
use Rattle.definition.specs.Names.{bytes}
use Rattle.schema_rows.specs.Rows.{type_found}
use Rattle.schema_rows.proofs.Rows.{default_query, default_mutation, default_subscription}
use Rattle.schema_rows.proofs.Schema.find_default_root.Goals as goal

-- The bytes of the quoted names are those of the definition.
pub returns-in-26-clause-found : goal.returns-in-26-clause-found
unfolding bytes
returns-in-26-clause-found c = c.find_type.ensures.found ∙ ap (type_found c.args.self) (default_query _ c.in-26.is)

pub returns-in-27-clause-found : goal.returns-in-27-clause-found
unfolding bytes
returns-in-27-clause-found c = c.find_type-in-27.ensures.found ∙ ap (type_found c.args.self) (default_mutation _ c.in-27.is)

pub returns-in_default-clause-found : goal.returns-in_default-clause-found
unfolding bytes
returns-in_default-clause-found c =
    c.find_type-in_default.ensures.found
    ∙ ap (type_found c.args.self) (default_subscription _ c.requires (search rules) (search rules))
