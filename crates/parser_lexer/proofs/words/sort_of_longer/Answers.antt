use borrow.Author.Rules.{rules}
use mathlib.Core.Path.{refl, ◌∙◌}
use mathlib.Core.List.{[], ◌∷◌}
use Rattle.definition.specs.Lists.{all, any}
use Rattle.definition.specs.Names.{same_name, bytes, compare_names}
use Rattle.definition.specs.Grammar.{words, place_of, sort_of_name}
use Rattle.parser_lexer.proofs.NameLaws.{alone, only, deciding, no_byte, sizes, no_size}
use Rattle.parser_lexer.proofs.words.sort_of_longer.Goals as goal

pub returns-in-10-eq105 : goal.returns-in-10-eq105
unfolding alone all words bytes same_name compare_names place_of sort_of_name
returns-in-10-eq105 c = c.sort_if.ensures ∙ only c.args.name.now 10 c.in-10-eq105.is-0 (bytes "implements") refl c.telling_byte.ensures c.in-10-eq105.is-1

pub returns-in-10-eq114 : goal.returns-in-10-eq114
unfolding alone all words bytes same_name compare_names place_of sort_of_name
returns-in-10-eq114 c = c.sort_if-in-10-eq114.ensures ∙ only c.args.name.now 10 c.in-10-eq114.is-0 (bytes "repeatable") refl c.telling_byte.ensures c.in-10-eq114.is-1

pub returns-in-10-eq69 : goal.returns-in-10-eq69
unfolding alone all words bytes same_name compare_names place_of sort_of_name
returns-in-10-eq69 c = c.sort_if-in-10-eq69.ensures ∙ only c.args.name.now 10 c.in-10-eq69.is-0 (bytes "ENUM_VALUE") refl c.telling_byte.ensures c.in-10-eq69.is-1

pub returns-in-12-eq115 : goal.returns-in-12-eq115
unfolding alone all words bytes same_name compare_names place_of sort_of_name
returns-in-12-eq115 c = c.sort_if-in-12-eq115.ensures ∙ only c.args.name.now 12 c.in-12-eq115.is-0 (bytes "subscription") refl c.telling_byte.ensures c.in-12-eq115.is-1

pub returns-in-12-eq83 : goal.returns-in-12-eq83
unfolding alone all words bytes same_name compare_names place_of sort_of_name
returns-in-12-eq83 c = c.sort_if-in-12-eq83.ensures ∙ only c.args.name.now 12 c.in-12-eq83.is-0 (bytes "SUBSCRIPTION") refl c.telling_byte.ensures c.in-12-eq83.is-1

pub returns-in-12-eq73 : goal.returns-in-12-eq73
unfolding alone all words bytes same_name compare_names place_of sort_of_name
returns-in-12-eq73 c = c.sort_if-in-12-eq73.ensures ∙ only c.args.name.now 12 c.in-12-eq73.is-0 (bytes "INPUT_OBJECT") refl c.telling_byte.ensures c.in-12-eq73.is-1

pub returns-in-15-eq70 : goal.returns-in-15-eq70
unfolding alone all words bytes same_name compare_names place_of sort_of_name
returns-in-15-eq70 c = c.sort_if-in-15-eq70.ensures ∙ only c.args.name.now 15 c.in-15-eq70.is-0 (bytes "FRAGMENT_SPREAD") refl c.telling_byte.ensures c.in-15-eq70.is-1

pub returns-in-15-eq73 : goal.returns-in-15-eq73
unfolding alone all words bytes same_name compare_names place_of sort_of_name
returns-in-15-eq73 c = c.sort_if-in-15-eq73.ensures ∙ only c.args.name.now 15 c.in-15-eq73.is-0 (bytes "INLINE_FRAGMENT") refl c.telling_byte.ensures c.in-15-eq73.is-1

pub returns-in-16-eq70 : goal.returns-in-16-eq70
unfolding alone all words bytes same_name compare_names place_of sort_of_name
returns-in-16-eq70 c = c.sort_if-in-16-eq70.ensures ∙ only c.args.name.now 16 c.in-16-eq70.is-0 (bytes "FIELD_DEFINITION") refl c.telling_byte.ensures c.in-16-eq70.is-1

pub returns-in-19-eq70 : goal.returns-in-19-eq70
unfolding alone all words bytes same_name compare_names place_of sort_of_name
returns-in-19-eq70 c = c.sort_if-in-19-eq70.ensures ∙ only c.args.name.now 19 c.in-19-eq70.is-0 (bytes "FRAGMENT_DEFINITION") refl c.telling_byte.ensures c.in-19-eq70.is-1

pub returns-in-19-eq86 : goal.returns-in-19-eq86
unfolding alone all words bytes same_name compare_names place_of sort_of_name
returns-in-19-eq86 c = c.sort_if-in-19-eq86.ensures ∙ only c.args.name.now 19 c.in-19-eq86.is-0 (bytes "VARIABLE_DEFINITION") refl c.telling_byte.ensures c.in-19-eq86.is-1

pub returns-in-19-eq65 : goal.returns-in-19-eq65
unfolding alone all words bytes same_name compare_names place_of sort_of_name
returns-in-19-eq65 c = c.sort_if-in-19-eq65.ensures ∙ only c.args.name.now 19 c.in-19-eq65.is-0 (bytes "ARGUMENT_DEFINITION") refl c.telling_byte.ensures c.in-19-eq65.is-1

pub returns-in-22-eq73 : goal.returns-in-22-eq73
unfolding alone all words bytes same_name compare_names place_of sort_of_name
returns-in-22-eq73 c = c.sort_if-in-22-eq73.ensures ∙ only c.args.name.now 22 c.in-22-eq73.is-0 (bytes "INPUT_FIELD_DEFINITION") refl c.telling_byte.ensures c.in-22-eq73.is-1

pub returns-in_default : goal.returns-in_default
unfolding deciding all any words bytes
returns-in_default c = no_byte c.args.name.now 10 c.in_default.is-0 (69 ∷ 114 ∷ 105 ∷ []) refl c.telling_byte.ensures (search rules)

pub returns-in_default-2 : goal.returns-in_default-2
unfolding deciding all any words bytes
returns-in_default-2 c = no_byte c.args.name.now 12 c.in_default.is-0 (73 ∷ 83 ∷ 115 ∷ []) refl c.telling_byte.ensures (search rules)

pub returns-in_default-3 : goal.returns-in_default-3
unfolding deciding all any words bytes
returns-in_default-3 c = no_byte c.args.name.now 15 c.in_default.is-0 (73 ∷ 70 ∷ []) refl c.telling_byte.ensures (search rules)

pub returns-in_default-4 : goal.returns-in_default-4
unfolding deciding all any words bytes
returns-in_default-4 c = no_byte c.args.name.now 16 c.in_default.is-0 (70 ∷ []) refl c.telling_byte.ensures (search rules)

pub returns-in_default-5 : goal.returns-in_default-5
unfolding deciding all any words bytes
returns-in_default-5 c = no_byte c.args.name.now 19 c.in_default.is-0 (65 ∷ 86 ∷ 70 ∷ []) refl c.telling_byte.ensures (search rules)

pub returns-in_default-6 : goal.returns-in_default-6
unfolding deciding all any words bytes
returns-in_default-6 c = no_byte c.args.name.now 22 c.in_default.is-0 (73 ∷ []) refl c.telling_byte.ensures (search rules)

pub returns-in_default-7 : goal.returns-in_default-7
unfolding sizes all any words bytes
returns-in_default-7 c = no_size c.args.name.now (22 ∷ 19 ∷ 16 ∷ 15 ∷ 12 ∷ 10 ∷ 9 ∷ 8 ∷ 6 ∷ 5 ∷ 4 ∷ 2 ∷ []) refl (search rules)
