-- Written by tools/grammar_sets from Grammar.antt. Nothing need be believed of it: parser_laws checks it by computation.
use Rattle.std.specs.Prelude.{List, [], ◌∷◌, Bool, true, false, ℕ}
use Rattle.definition.specs.Grammar.{Part, Document, Definition*, Definition, Description?, Described, Extended, SchemaMore, ObjectMore, UnionMore, EnumMore}
use Rattle.definition.specs.Grammar.{InputMore, Roots, Roots?, Root*, Root, Implements, Implements?, Amp?, Interface, AndInterface*, Fields, Fields?, Field*}
use Rattle.definition.specs.Grammar.{Field, Members, Members?, Bar?, Member, OrMember*, EnumValues, EnumValues?, EnumValue*, EnumValue, InputFields}
use Rattle.definition.specs.Grammar.{InputFields?, InputField*, InputField, ArgumentDefinitions?, ArgumentDefinition*, ArgumentDefinition, Repeatable?}
use Rattle.definition.specs.Grammar.{Location, OrLocation*, TypeReference, Bang?, Default?, DirectiveUse*, DirectiveUse, Directive*, Directive, Arguments?}
use Rattle.definition.specs.Grammar.{Argument*, Argument, Value, Value*, ObjectValue, ObjectField*, ObjectField}

-- Every part.
unfoldable pub parts : List Part
parts =
    Document ∷ Definition* ∷ Definition ∷ Description? ∷ Described ∷ Extended ∷
    SchemaMore ∷ ObjectMore ∷ UnionMore ∷ EnumMore ∷ InputMore ∷ Roots ∷
    Roots? ∷ Root* ∷ Root ∷ Implements ∷ Implements? ∷ Amp? ∷
    Interface ∷ AndInterface* ∷ Fields ∷ Fields? ∷ Field* ∷ Field ∷
    Members ∷ Members? ∷ Bar? ∷ Member ∷ OrMember* ∷ EnumValues ∷
    EnumValues? ∷ EnumValue* ∷ EnumValue ∷ InputFields ∷ InputFields? ∷ InputField* ∷
    InputField ∷ ArgumentDefinitions? ∷ ArgumentDefinition* ∷ ArgumentDefinition ∷ Repeatable? ∷ Location ∷
    OrLocation* ∷ TypeReference ∷ Bang? ∷ Default? ∷ DirectiveUse* ∷ DirectiveUse ∷
    Directive* ∷ Directive ∷ Arguments? ∷ Argument* ∷ Argument ∷ Value ∷
    Value* ∷ ObjectValue ∷ ObjectField* ∷ ObjectField ∷
    []

-- Whether the part can come by no token.
unfoldable pub nullable : Part → Bool
nullable Document = false
nullable Definition* = true
nullable Definition = false
nullable Description? = true
nullable Described = false
nullable Extended = false
nullable SchemaMore = false
nullable ObjectMore = false
nullable UnionMore = false
nullable EnumMore = false
nullable InputMore = false
nullable Roots = false
nullable Roots? = true
nullable Root* = true
nullable Root = false
nullable Implements = false
nullable Implements? = true
nullable Amp? = true
nullable Interface = false
nullable AndInterface* = true
nullable Fields = false
nullable Fields? = true
nullable Field* = true
nullable Field = false
nullable Members = false
nullable Members? = true
nullable Bar? = true
nullable Member = false
nullable OrMember* = true
nullable EnumValues = false
nullable EnumValues? = true
nullable EnumValue* = true
nullable EnumValue = false
nullable InputFields = false
nullable InputFields? = true
nullable InputField* = true
nullable InputField = false
nullable ArgumentDefinitions? = true
nullable ArgumentDefinition* = true
nullable ArgumentDefinition = false
nullable Repeatable? = true
nullable Location = false
nullable OrLocation* = true
nullable TypeReference = false
nullable Bang? = true
nullable Default? = true
nullable DirectiveUse* = true
nullable DirectiveUse = false
nullable Directive* = true
nullable Directive = false
nullable Arguments? = true
nullable Argument* = true
nullable Argument = false
nullable Value = false
nullable Value* = true
nullable ObjectValue = false
nullable ObjectField* = true
nullable ObjectField = false

-- The sorts of token that the part can begin with, as ranges.
unfoldable pub first : Part → List (ℕ × ℕ)
first Document = (16, 16) ∷ (20, 28) ∷ []
first Definition* = (16, 16) ∷ (20, 28) ∷ []
first Definition = (16, 16) ∷ (20, 28) ∷ []
first Description? = (16, 16) ∷ []
first Described = (20, 27) ∷ []
first Extended = (20, 26) ∷ []
first SchemaMore = (8, 8) ∷ (11, 11) ∷ []
first ObjectMore = (8, 8) ∷ (11, 11) ∷ (29, 29) ∷ []
first UnionMore = (7, 8) ∷ []
first EnumMore = (8, 8) ∷ (11, 11) ∷ []
first InputMore = (8, 8) ∷ (11, 11) ∷ []
first Roots = (11, 11) ∷ []
first Roots? = (11, 11) ∷ []
first Root* = (32, 34) ∷ []
first Root = (32, 34) ∷ []
first Implements = (29, 29) ∷ []
first Implements? = (29, 29) ∷ []
first Amp? = (2, 2) ∷ []
first Interface = (17, 54) ∷ []
first AndInterface* = (2, 2) ∷ []
first Fields = (11, 11) ∷ []
first Fields? = (11, 11) ∷ []
first Field* = (16, 54) ∷ []
first Field = (16, 54) ∷ []
first Members = (7, 7) ∷ []
first Members? = (7, 7) ∷ []
first Bar? = (12, 12) ∷ []
first Member = (17, 54) ∷ []
first OrMember* = (12, 12) ∷ []
first EnumValues = (11, 11) ∷ []
first EnumValues? = (11, 11) ∷ []
first EnumValue* = (16, 16) ∷ (20, 54) ∷ []
first EnumValue = (16, 16) ∷ (20, 54) ∷ []
first InputFields = (11, 11) ∷ []
first InputFields? = (11, 11) ∷ []
first InputField* = (16, 54) ∷ []
first InputField = (16, 54) ∷ []
first ArgumentDefinitions? = (3, 3) ∷ []
first ArgumentDefinition* = (16, 54) ∷ []
first ArgumentDefinition = (16, 54) ∷ []
first Repeatable? = (30, 30) ∷ []
first Location = (35, 53) ∷ []
first OrLocation* = (12, 12) ∷ []
first TypeReference = (9, 9) ∷ (17, 54) ∷ []
first Bang? = (0, 0) ∷ []
first Default? = (7, 7) ∷ []
first DirectiveUse* = (8, 8) ∷ []
first DirectiveUse = (8, 8) ∷ []
first Directive* = (8, 8) ∷ []
first Directive = (8, 8) ∷ []
first Arguments? = (3, 3) ∷ []
first Argument* = (17, 54) ∷ []
first Argument = (17, 54) ∷ []
first Value = (9, 9) ∷ (11, 11) ∷ (14, 54) ∷ []
first Value* = (9, 9) ∷ (11, 11) ∷ (14, 54) ∷ []
first ObjectValue = (11, 11) ∷ []
first ObjectField* = (17, 54) ∷ []
first ObjectField = (17, 54) ∷ []

-- The sorts of token that can stand after the part.
unfoldable pub follow : Part → List (ℕ × ℕ)
follow Document = []
follow Definition* = []
follow Definition = (16, 16) ∷ (20, 28) ∷ []
follow Description? = (17, 54) ∷ []
follow Described = (16, 16) ∷ (20, 28) ∷ []
follow Extended = (16, 16) ∷ (20, 28) ∷ []
follow SchemaMore = (16, 16) ∷ (20, 28) ∷ []
follow ObjectMore = (16, 16) ∷ (20, 28) ∷ []
follow UnionMore = (16, 16) ∷ (20, 28) ∷ []
follow EnumMore = (16, 16) ∷ (20, 28) ∷ []
follow InputMore = (16, 16) ∷ (20, 28) ∷ []
follow Roots = (16, 16) ∷ (20, 28) ∷ []
follow Roots? = (16, 16) ∷ (20, 28) ∷ []
follow Root* = (13, 13) ∷ []
follow Root = (13, 13) ∷ (32, 34) ∷ []
follow Implements = (8, 8) ∷ (11, 11) ∷ (16, 16) ∷ (20, 28) ∷ []
follow Implements? = (8, 8) ∷ (11, 11) ∷ (16, 16) ∷ (20, 28) ∷ []
follow Amp? = (17, 54) ∷ []
follow Interface = (2, 2) ∷ (8, 8) ∷ (11, 11) ∷ (16, 16) ∷ (20, 28) ∷ []
follow AndInterface* = (8, 8) ∷ (11, 11) ∷ (16, 16) ∷ (20, 28) ∷ []
follow Fields = (16, 16) ∷ (20, 28) ∷ []
follow Fields? = (16, 16) ∷ (20, 28) ∷ []
follow Field* = (13, 13) ∷ []
follow Field = (13, 13) ∷ (16, 54) ∷ []
follow Members = (16, 16) ∷ (20, 28) ∷ []
follow Members? = (16, 16) ∷ (20, 28) ∷ []
follow Bar? = (17, 54) ∷ []
follow Member = (12, 12) ∷ (16, 16) ∷ (20, 28) ∷ []
follow OrMember* = (16, 16) ∷ (20, 28) ∷ []
follow EnumValues = (16, 16) ∷ (20, 28) ∷ []
follow EnumValues? = (16, 16) ∷ (20, 28) ∷ []
follow EnumValue* = (13, 13) ∷ []
follow EnumValue = (13, 13) ∷ (16, 16) ∷ (20, 54) ∷ []
follow InputFields = (16, 16) ∷ (20, 28) ∷ []
follow InputFields? = (16, 16) ∷ (20, 28) ∷ []
follow InputField* = (13, 13) ∷ []
follow InputField = (13, 13) ∷ (16, 54) ∷ []
follow ArgumentDefinitions? = (6, 6) ∷ (30, 31) ∷ []
follow ArgumentDefinition* = (4, 4) ∷ []
follow ArgumentDefinition = (4, 4) ∷ (16, 54) ∷ []
follow Repeatable? = (31, 31) ∷ []
follow Location = (12, 12) ∷ (16, 16) ∷ (20, 28) ∷ []
follow OrLocation* = (16, 16) ∷ (20, 28) ∷ []
follow TypeReference = (4, 4) ∷ (7, 8) ∷ (10, 10) ∷ (13, 13) ∷ (16, 54) ∷ []
follow Bang? = (4, 4) ∷ (7, 8) ∷ (10, 10) ∷ (13, 13) ∷ (16, 54) ∷ []
follow Default? = (4, 4) ∷ (8, 8) ∷ (13, 13) ∷ (16, 54) ∷ []
follow DirectiveUse* = (7, 7) ∷ (11, 11) ∷ (16, 16) ∷ (20, 28) ∷ []
follow DirectiveUse = (7, 8) ∷ (11, 11) ∷ (16, 16) ∷ (20, 28) ∷ []
follow Directive* = (4, 4) ∷ (13, 13) ∷ (16, 54) ∷ []
follow Directive = (4, 4) ∷ (8, 8) ∷ (13, 13) ∷ (16, 54) ∷ []
follow Arguments? = (4, 4) ∷ (7, 8) ∷ (11, 11) ∷ (13, 13) ∷ (16, 54) ∷ []
follow Argument* = (4, 4) ∷ []
follow Argument = (4, 4) ∷ (17, 54) ∷ []
follow Value = (4, 4) ∷ (8, 11) ∷ (13, 54) ∷ []
follow Value* = (10, 10) ∷ []
follow ObjectValue = (4, 4) ∷ (8, 11) ∷ (13, 54) ∷ []
follow ObjectField* = (13, 13) ∷ []
follow ObjectField = (13, 13) ∷ (17, 54) ∷ []

-- More than the steps before the first token.
unfoldable pub weight : Part → ℕ
weight Document = 5
weight Definition* = 5
weight Definition = 4
weight Description? = 1
weight Described = 1
weight Extended = 1
weight SchemaMore = 3
weight ObjectMore = 3
weight UnionMore = 3
weight EnumMore = 3
weight InputMore = 3
weight Roots = 1
weight Roots? = 2
weight Root* = 3
weight Root = 2
weight Implements = 1
weight Implements? = 2
weight Amp? = 1
weight Interface = 3
weight AndInterface* = 1
weight Fields = 1
weight Fields? = 2
weight Field* = 5
weight Field = 4
weight Members = 1
weight Members? = 2
weight Bar? = 1
weight Member = 3
weight OrMember* = 1
weight EnumValues = 1
weight EnumValues? = 2
weight EnumValue* = 5
weight EnumValue = 4
weight InputFields = 1
weight InputFields? = 2
weight InputField* = 5
weight InputField = 4
weight ArgumentDefinitions? = 1
weight ArgumentDefinition* = 3
weight ArgumentDefinition = 2
weight Repeatable? = 1
weight Location = 1
weight OrLocation* = 1
weight TypeReference = 2
weight Bang? = 1
weight Default? = 1
weight DirectiveUse* = 3
weight DirectiveUse = 2
weight Directive* = 2
weight Directive = 1
weight Arguments? = 1
weight Argument* = 2
weight Argument = 1
weight Value = 3
weight Value* = 4
weight ObjectValue = 2
weight ObjectField* = 2
weight ObjectField = 1

-- How far the shortest text of the part is away.
unfoldable pub rank : Part → ℕ
rank Document = 3
rank Definition* = 0
rank Definition = 2
rank Description? = 0
rank Described = 1
rank Extended = 2
rank SchemaMore = 2
rank ObjectMore = 2
rank UnionMore = 2
rank EnumMore = 2
rank InputMore = 2
rank Roots = 1
rank Roots? = 0
rank Root* = 0
rank Root = 0
rank Implements = 1
rank Implements? = 0
rank Amp? = 0
rank Interface = 0
rank AndInterface* = 0
rank Fields = 3
rank Fields? = 0
rank Field* = 0
rank Field = 2
rank Members = 1
rank Members? = 0
rank Bar? = 0
rank Member = 0
rank OrMember* = 0
rank EnumValues = 2
rank EnumValues? = 0
rank EnumValue* = 0
rank EnumValue = 1
rank InputFields = 3
rank InputFields? = 0
rank InputField* = 0
rank InputField = 2
rank ArgumentDefinitions? = 0
rank ArgumentDefinition* = 0
rank ArgumentDefinition = 2
rank Repeatable? = 0
rank Location = 0
rank OrLocation* = 0
rank TypeReference = 1
rank Bang? = 0
rank Default? = 0
rank DirectiveUse* = 0
rank DirectiveUse = 1
rank Directive* = 0
rank Directive = 1
rank Arguments? = 0
rank Argument* = 0
rank Argument = 1
rank Value = 0
rank Value* = 0
rank ObjectValue = 1
rank ObjectField* = 0
rank ObjectField = 1

-- The number of the alternative that leads to it.
unfoldable pub short : Part → ℕ
short Document = 0
short Definition* = 1
short Definition = 0
short Description? = 1
short Described = 1
short Extended = 1
short SchemaMore = 1
short ObjectMore = 0
short UnionMore = 1
short EnumMore = 0
short InputMore = 0
short Roots = 0
short Roots? = 1
short Root* = 1
short Root = 0
short Implements = 0
short Implements? = 1
short Amp? = 1
short Interface = 0
short AndInterface* = 1
short Fields = 0
short Fields? = 1
short Field* = 1
short Field = 0
short Members = 0
short Members? = 1
short Bar? = 1
short Member = 0
short OrMember* = 1
short EnumValues = 0
short EnumValues? = 1
short EnumValue* = 1
short EnumValue = 0
short InputFields = 0
short InputFields? = 1
short InputField* = 1
short InputField = 0
short ArgumentDefinitions? = 1
short ArgumentDefinition* = 1
short ArgumentDefinition = 0
short Repeatable? = 1
short Location = 0
short OrLocation* = 1
short TypeReference = 0
short Bang? = 1
short Default? = 1
short DirectiveUse* = 1
short DirectiveUse = 0
short Directive* = 1
short Directive = 0
short Arguments? = 1
short Argument* = 1
short Argument = 0
short Value = 0
short Value* = 1
short ObjectValue = 0
short ObjectField* = 1
short ObjectField = 0
