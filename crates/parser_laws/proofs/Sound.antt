-- Written by tools/grammar_sets: what Facts.antt asks of every part's sets holds, by computation.
use mathlib.Core.Path.{◌≡◌, refl}
use mathlib.Core.Bool.{true}
use Rattle.definition.specs.Lists.{any, all}
use Rattle.definition.specs.Grammar.{Part, rule, Document, Definition*, Definition, Description?, Described, Extended, SchemaMore, ObjectMore}
use Rattle.definition.specs.Grammar.{UnionMore, EnumMore, InputMore, Roots, Roots?, Root*, Root, Implements, Implements?, Amp?, Interface, AndInterface*}
use Rattle.definition.specs.Grammar.{Fields, Fields?, Field*, Field, Members, Members?, Bar?, Member, OrMember*, EnumValues, EnumValues?, EnumValue*}
use Rattle.definition.specs.Grammar.{EnumValue, InputFields, InputFields?, InputField*, InputField, ArgumentDefinitions?, ArgumentDefinition*}
use Rattle.definition.specs.Grammar.{ArgumentDefinition, Repeatable?, Location, OrLocation*, TypeReference, Bang?, Default?, DirectiveUse*, DirectiveUse}
use Rattle.definition.specs.Grammar.{Directive*, Directive, Arguments?, Argument*, Argument, Value, Value*, ObjectValue, ObjectField*, ObjectField}
use Rattle.definition.specs.GrammarSets.{nullable, first, follow, weight, rank, short}
use Rattle.definition.specs.Machine.{has, first_set_of, empties, weigh}
use Rattle.parser_laws.proofs.Tests.{subset, disjoint}
use Rattle.parser_laws.proofs.Facts.{covered, followed, unlike, lone, lower, numbered, sound, spelled_all, is_start, clean, tidy}

pub all_sound : (n : Part) → sound n ≡ true
unfolding sound covered followed unlike lone lower numbered subset disjoint all any has first_set_of empties weigh rule
    nullable first follow weight rank short
all_sound Document = refl
all_sound Definition* = refl
all_sound Definition = refl
all_sound Description? = refl
all_sound Described = refl
all_sound Extended = refl
all_sound SchemaMore = refl
all_sound ObjectMore = refl
all_sound UnionMore = refl
all_sound EnumMore = refl
all_sound InputMore = refl
all_sound Roots = refl
all_sound Roots? = refl
all_sound Root* = refl
all_sound Root = refl
all_sound Implements = refl
all_sound Implements? = refl
all_sound Amp? = refl
all_sound Interface = refl
all_sound AndInterface* = refl
all_sound Fields = refl
all_sound Fields? = refl
all_sound Field* = refl
all_sound Field = refl
all_sound Members = refl
all_sound Members? = refl
all_sound Bar? = refl
all_sound Member = refl
all_sound OrMember* = refl
all_sound EnumValues = refl
all_sound EnumValues? = refl
all_sound EnumValue* = refl
all_sound EnumValue = refl
all_sound InputFields = refl
all_sound InputFields? = refl
all_sound InputField* = refl
all_sound InputField = refl
all_sound ArgumentDefinitions? = refl
all_sound ArgumentDefinition* = refl
all_sound ArgumentDefinition = refl
all_sound Repeatable? = refl
all_sound Location = refl
all_sound OrLocation* = refl
all_sound TypeReference = refl
all_sound Bang? = refl
all_sound Default? = refl
all_sound DirectiveUse* = refl
all_sound DirectiveUse = refl
all_sound Directive* = refl
all_sound Directive = refl
all_sound Arguments? = refl
all_sound Argument* = refl
all_sound Argument = refl
all_sound Value = refl
all_sound Value* = refl
all_sound ObjectValue = refl
all_sound ObjectField* = refl
all_sound ObjectField = refl

pub all_spelled : (n : Part) → all spelled_all (rule n) ≡ true
unfolding all spelled_all rule
all_spelled Document = refl
all_spelled Definition* = refl
all_spelled Definition = refl
all_spelled Description? = refl
all_spelled Described = refl
all_spelled Extended = refl
all_spelled SchemaMore = refl
all_spelled ObjectMore = refl
all_spelled UnionMore = refl
all_spelled EnumMore = refl
all_spelled InputMore = refl
all_spelled Roots = refl
all_spelled Roots? = refl
all_spelled Root* = refl
all_spelled Root = refl
all_spelled Implements = refl
all_spelled Implements? = refl
all_spelled Amp? = refl
all_spelled Interface = refl
all_spelled AndInterface* = refl
all_spelled Fields = refl
all_spelled Fields? = refl
all_spelled Field* = refl
all_spelled Field = refl
all_spelled Members = refl
all_spelled Members? = refl
all_spelled Bar? = refl
all_spelled Member = refl
all_spelled OrMember* = refl
all_spelled EnumValues = refl
all_spelled EnumValues? = refl
all_spelled EnumValue* = refl
all_spelled EnumValue = refl
all_spelled InputFields = refl
all_spelled InputFields? = refl
all_spelled InputField* = refl
all_spelled InputField = refl
all_spelled ArgumentDefinitions? = refl
all_spelled ArgumentDefinition* = refl
all_spelled ArgumentDefinition = refl
all_spelled Repeatable? = refl
all_spelled Location = refl
all_spelled OrLocation* = refl
all_spelled TypeReference = refl
all_spelled Bang? = refl
all_spelled Default? = refl
all_spelled DirectiveUse* = refl
all_spelled DirectiveUse = refl
all_spelled Directive* = refl
all_spelled Directive = refl
all_spelled Arguments? = refl
all_spelled Argument* = refl
all_spelled Argument = refl
all_spelled Value = refl
all_spelled Value* = refl
all_spelled ObjectValue = refl
all_spelled ObjectField* = refl
all_spelled ObjectField = refl

pub all_tidy : (n : Part) → all tidy (rule n) ≡ true
unfolding all tidy clean is_start rule
all_tidy Document = refl
all_tidy Definition* = refl
all_tidy Definition = refl
all_tidy Description? = refl
all_tidy Described = refl
all_tidy Extended = refl
all_tidy SchemaMore = refl
all_tidy ObjectMore = refl
all_tidy UnionMore = refl
all_tidy EnumMore = refl
all_tidy InputMore = refl
all_tidy Roots = refl
all_tidy Roots? = refl
all_tidy Root* = refl
all_tidy Root = refl
all_tidy Implements = refl
all_tidy Implements? = refl
all_tidy Amp? = refl
all_tidy Interface = refl
all_tidy AndInterface* = refl
all_tidy Fields = refl
all_tidy Fields? = refl
all_tidy Field* = refl
all_tidy Field = refl
all_tidy Members = refl
all_tidy Members? = refl
all_tidy Bar? = refl
all_tidy Member = refl
all_tidy OrMember* = refl
all_tidy EnumValues = refl
all_tidy EnumValues? = refl
all_tidy EnumValue* = refl
all_tidy EnumValue = refl
all_tidy InputFields = refl
all_tidy InputFields? = refl
all_tidy InputField* = refl
all_tidy InputField = refl
all_tidy ArgumentDefinitions? = refl
all_tidy ArgumentDefinition* = refl
all_tidy ArgumentDefinition = refl
all_tidy Repeatable? = refl
all_tidy Location = refl
all_tidy OrLocation* = refl
all_tidy TypeReference = refl
all_tidy Bang? = refl
all_tidy Default? = refl
all_tidy DirectiveUse* = refl
all_tidy DirectiveUse = refl
all_tidy Directive* = refl
all_tidy Directive = refl
all_tidy Arguments? = refl
all_tidy Argument* = refl
all_tidy Argument = refl
all_tidy Value = refl
all_tidy Value* = refl
all_tidy ObjectValue = refl
all_tidy ObjectField* = refl
all_tidy ObjectField = refl
