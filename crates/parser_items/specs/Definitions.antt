-- The definitions that stand in braces, each with a description or none, a name and more: what the grammar has for each.
use Rattle.std.specs.Prelude.{List, [], ◌∷◌, ◌++◌, ℕ}
use Rattle.definition.specs.Grammar.{Symbol, Part, one, part, mark, item, named, item_ends, colon, Field, EnumValue, InputField, Description?}
use Rattle.definition.specs.Grammar.{ArgumentDefinitions?, TypeReference, Default?, Directive*}
use Rattle.parser_items.specs.declared.definitions.ItemDefinition.{ItemDefinition}
use Rattle.parser_items.specs.declared.definitions.ItemDefinition.TheVariants as definition

abbrev pub part_of : ItemDefinition → Part
part_of definition.Field = Field
part_of definition.EnumValue = EnumValue
part_of definition.InputField = InputField

abbrev pub kind_of : ItemDefinition → ℕ
kind_of definition.Field = 22
kind_of definition.EnumValue = 24
kind_of definition.InputField = 25

-- The first sort that its name may have.
abbrev pub first_name : ItemDefinition → ℕ
first_name definition.Field = 17
first_name definition.EnumValue = 20
first_name definition.InputField = 17

abbrev pub field_rest : List Symbol
field_rest = part ArgumentDefinitions? ∷ colon ∷ part TypeReference ∷ part Directive* ∷ []

-- What comes after its name.
abbrev pub rest_of : ItemDefinition → List Symbol
rest_of definition.Field = field_rest
rest_of definition.EnumValue = part Directive* ∷ []
rest_of definition.InputField = colon ∷ part TypeReference ∷ part Default? ∷ part Directive* ∷ []

abbrev pub symbols_of : ItemDefinition → List Symbol
symbols_of d = mark (item (kind_of d)) ∷ part Description? ∷ mark named ∷ one (first_name d) 54 ∷ (rest_of d ++ (mark item_ends ∷ []))
