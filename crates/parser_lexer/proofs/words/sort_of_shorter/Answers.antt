use borrow.Author.Rules.{rules}
use mathlib.Core.Path.{refl, ◌∙◌}
use mathlib.Core.List.{[], ◌∷◌}
use Rattle.definition.specs.Lists.{all, any}
use Rattle.definition.specs.Names.{same_name, bytes, compare_names}
use Rattle.definition.specs.Grammar.{words, place_of, sort_of_name}
use Rattle.parser_lexer.proofs.NameLaws.{alone, only, deciding, no_byte, sizes, no_size}
use Rattle.parser_lexer.proofs.words.sort_of_shorter.Goals as goal

pub returns-in-2-eq111 : goal.returns-in-2-eq111
unfolding alone all words bytes same_name compare_names place_of sort_of_name
returns-in-2-eq111 c = c.sort_if.ensures ∙ only c.args.name.now 2 c.in-2-eq111.is-0 (bytes "on") refl c.telling_byte.ensures c.in-2-eq111.is-1

pub returns-in-4-eq121 : goal.returns-in-4-eq121
unfolding alone all words bytes same_name compare_names place_of sort_of_name
returns-in-4-eq121 c = c.sort_if-in-4-eq121.ensures ∙ only c.args.name.now 4 c.in-4-eq121.is-0 (bytes "type") refl c.telling_byte.ensures c.in-4-eq121.is-1

pub returns-in-4-eq110 : goal.returns-in-4-eq110
unfolding alone all words bytes same_name compare_names place_of sort_of_name
returns-in-4-eq110 c = c.sort_if-in-4-eq110.ensures ∙ only c.args.name.now 4 c.in-4-eq110.is-0 (bytes "enum") refl c.telling_byte.ensures c.in-4-eq110.is-1

pub returns-in-4-eq114 : goal.returns-in-4-eq114
unfolding alone all words bytes same_name compare_names place_of sort_of_name
returns-in-4-eq114 c = c.sort_if-in-4-eq114.ensures ∙ only c.args.name.now 4 c.in-4-eq114.is-0 (bytes "true") refl c.telling_byte.ensures c.in-4-eq114.is-1

pub returns-in-4-eq117 : goal.returns-in-4-eq117
unfolding alone all words bytes same_name compare_names place_of sort_of_name
returns-in-4-eq117 c = c.sort_if-in-4-eq117.ensures ∙ only c.args.name.now 4 c.in-4-eq117.is-0 (bytes "null") refl c.telling_byte.ensures c.in-4-eq117.is-1

pub returns-in-4-eq78 : goal.returns-in-4-eq78
unfolding alone all words bytes same_name compare_names place_of sort_of_name
returns-in-4-eq78 c = c.sort_if-in-4-eq78.ensures ∙ only c.args.name.now 4 c.in-4-eq78.is-0 (bytes "ENUM") refl c.telling_byte.ensures c.in-4-eq78.is-1

pub returns-in-5-eq102 : goal.returns-in-5-eq102
unfolding alone all words bytes same_name compare_names place_of sort_of_name
returns-in-5-eq102 c = c.sort_if-in-5-eq102.ensures ∙ only c.args.name.now 5 c.in-5-eq102.is-0 (bytes "false") refl c.telling_byte.ensures c.in-5-eq102.is-1

pub returns-in-5-eq117 : goal.returns-in-5-eq117
unfolding alone all words bytes same_name compare_names place_of sort_of_name
returns-in-5-eq117 c = c.sort_if-in-5-eq117.ensures ∙ only c.args.name.now 5 c.in-5-eq117.is-0 (bytes "union") refl c.telling_byte.ensures c.in-5-eq117.is-1

pub returns-in-5-eq105 : goal.returns-in-5-eq105
unfolding alone all words bytes same_name compare_names place_of sort_of_name
returns-in-5-eq105 c = c.sort_if-in-5-eq105.ensures ∙ only c.args.name.now 5 c.in-5-eq105.is-0 (bytes "input") refl c.telling_byte.ensures c.in-5-eq105.is-1

pub returns-in-5-eq113 : goal.returns-in-5-eq113
unfolding alone all words bytes same_name compare_names place_of sort_of_name
returns-in-5-eq113 c = c.sort_if-in-5-eq113.ensures ∙ only c.args.name.now 5 c.in-5-eq113.is-0 (bytes "query") refl c.telling_byte.ensures c.in-5-eq113.is-1

pub returns-in-5-eq81 : goal.returns-in-5-eq81
unfolding alone all words bytes same_name compare_names place_of sort_of_name
returns-in-5-eq81 c = c.sort_if-in-5-eq81.ensures ∙ only c.args.name.now 5 c.in-5-eq81.is-0 (bytes "QUERY") refl c.telling_byte.ensures c.in-5-eq81.is-1

pub returns-in-5-eq70 : goal.returns-in-5-eq70
unfolding alone all words bytes same_name compare_names place_of sort_of_name
returns-in-5-eq70 c = c.sort_if-in-5-eq70.ensures ∙ only c.args.name.now 5 c.in-5-eq70.is-0 (bytes "FIELD") refl c.telling_byte.ensures c.in-5-eq70.is-1

pub returns-in-5-eq85 : goal.returns-in-5-eq85
unfolding alone all words bytes same_name compare_names place_of sort_of_name
returns-in-5-eq85 c = c.sort_if-in-5-eq85.ensures ∙ only c.args.name.now 5 c.in-5-eq85.is-0 (bytes "UNION") refl c.telling_byte.ensures c.in-5-eq85.is-1

pub returns-in-6-eq104 : goal.returns-in-6-eq104
unfolding alone all words bytes same_name compare_names place_of sort_of_name
returns-in-6-eq104 c = c.sort_if-in-6-eq104.ensures ∙ only c.args.name.now 6 c.in-6-eq104.is-0 (bytes "schema") refl c.telling_byte.ensures c.in-6-eq104.is-1

pub returns-in-6-eq97 : goal.returns-in-6-eq97
unfolding alone all words bytes same_name compare_names place_of sort_of_name
returns-in-6-eq97 c = c.sort_if-in-6-eq97.ensures ∙ only c.args.name.now 6 c.in-6-eq97.is-0 (bytes "scalar") refl c.telling_byte.ensures c.in-6-eq97.is-1

pub returns-in-6-eq116 : goal.returns-in-6-eq116
unfolding alone all words bytes same_name compare_names place_of sort_of_name
returns-in-6-eq116 c = c.sort_if-in-6-eq116.ensures ∙ only c.args.name.now 6 c.in-6-eq116.is-0 (bytes "extend") refl c.telling_byte.ensures c.in-6-eq116.is-1

pub returns-in-6-eq72 : goal.returns-in-6-eq72
unfolding alone all words bytes same_name compare_names place_of sort_of_name
returns-in-6-eq72 c = c.sort_if-in-6-eq72.ensures ∙ only c.args.name.now 6 c.in-6-eq72.is-0 (bytes "SCHEMA") refl c.telling_byte.ensures c.in-6-eq72.is-1

pub returns-in-6-eq65 : goal.returns-in-6-eq65
unfolding alone all words bytes same_name compare_names place_of sort_of_name
returns-in-6-eq65 c = c.sort_if-in-6-eq65.ensures ∙ only c.args.name.now 6 c.in-6-eq65.is-0 (bytes "SCALAR") refl c.telling_byte.ensures c.in-6-eq65.is-1

pub returns-in-6-eq74 : goal.returns-in-6-eq74
unfolding alone all words bytes same_name compare_names place_of sort_of_name
returns-in-6-eq74 c = c.sort_if-in-6-eq74.ensures ∙ only c.args.name.now 6 c.in-6-eq74.is-0 (bytes "OBJECT") refl c.telling_byte.ensures c.in-6-eq74.is-1

pub returns-in-8-eq109 : goal.returns-in-8-eq109
unfolding alone all words bytes same_name compare_names place_of sort_of_name
returns-in-8-eq109 c = c.sort_if-in-8-eq109.ensures ∙ only c.args.name.now 8 c.in-8-eq109.is-0 (bytes "mutation") refl c.telling_byte.ensures c.in-8-eq109.is-1

pub returns-in-8-eq77 : goal.returns-in-8-eq77
unfolding alone all words bytes same_name compare_names place_of sort_of_name
returns-in-8-eq77 c = c.sort_if-in-8-eq77.ensures ∙ only c.args.name.now 8 c.in-8-eq77.is-0 (bytes "MUTATION") refl c.telling_byte.ensures c.in-8-eq77.is-1

pub returns-in-9-eq105 : goal.returns-in-9-eq105
unfolding alone all words bytes same_name compare_names place_of sort_of_name
returns-in-9-eq105 c = c.sort_if-in-9-eq105.ensures ∙ only c.args.name.now 9 c.in-9-eq105.is-0 (bytes "interface") refl c.telling_byte.ensures c.in-9-eq105.is-1

pub returns-in-9-eq100 : goal.returns-in-9-eq100
unfolding alone all words bytes same_name compare_names place_of sort_of_name
returns-in-9-eq100 c = c.sort_if-in-9-eq100.ensures ∙ only c.args.name.now 9 c.in-9-eq100.is-0 (bytes "directive") refl c.telling_byte.ensures c.in-9-eq100.is-1

pub returns-in-9-eq73 : goal.returns-in-9-eq73
unfolding alone all words bytes same_name compare_names place_of sort_of_name
returns-in-9-eq73 c = c.sort_if-in-9-eq73.ensures ∙ only c.args.name.now 9 c.in-9-eq73.is-0 (bytes "INTERFACE") refl c.telling_byte.ensures c.in-9-eq73.is-1

pub returns-in_default : goal.returns-in_default
unfolding deciding all any words bytes
returns-in_default c = no_byte c.args.name.now 2 c.in_default.is-0 (111 ∷ []) refl c.telling_byte.ensures (search rules)

pub returns-in_default-2 : goal.returns-in_default-2
unfolding deciding all any words bytes
returns-in_default-2 c = no_byte c.args.name.now 4 c.in_default.is-0 (78 ∷ 117 ∷ 114 ∷ 110 ∷ 121 ∷ []) refl c.telling_byte.ensures (search rules)

pub returns-in_default-3 : goal.returns-in_default-3
unfolding deciding all any words bytes
returns-in_default-3 c = no_byte c.args.name.now 5 c.in_default.is-0 (85 ∷ 70 ∷ 81 ∷ 113 ∷ 105 ∷ 117 ∷ 102 ∷ []) refl c.telling_byte.ensures (search rules)

pub returns-in_default-4 : goal.returns-in_default-4
unfolding deciding all any words bytes
returns-in_default-4 c = no_byte c.args.name.now 6 c.in_default.is-0 (74 ∷ 65 ∷ 72 ∷ 116 ∷ 97 ∷ 104 ∷ []) refl c.telling_byte.ensures (search rules)

pub returns-in_default-5 : goal.returns-in_default-5
unfolding deciding all any words bytes
returns-in_default-5 c = no_byte c.args.name.now 8 c.in_default.is-0 (77 ∷ 109 ∷ []) refl c.telling_byte.ensures (search rules)

pub returns-in_default-6 : goal.returns-in_default-6
unfolding deciding all any words bytes
returns-in_default-6 c = no_byte c.args.name.now 9 c.in_default.is-0 (73 ∷ 100 ∷ 105 ∷ []) refl c.telling_byte.ensures (search rules)

pub returns-in_default-7 : goal.returns-in_default-7
unfolding sizes all any words bytes
returns-in_default-7 c = no_size c.args.name.now (9 ∷ 8 ∷ 6 ∷ 5 ∷ 4 ∷ 2 ∷ 22 ∷ 19 ∷ 16 ∷ 15 ∷ 12 ∷ 10 ∷ []) refl (search rules)
