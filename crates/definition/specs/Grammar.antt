-- The grammar of type system documents: specification of October 2021, appendix B.3 with the productions that it uses, as a table.
-- Each part of the grammar has its alternatives; an alternative is a list of symbols. Left out against the appendix are executable definitions.
-- Optional and repeated parts, `X?` and `X*`, have a line of their own. What several definitions begin with alike stands once (a description, the
-- word `extend`), and lists that the appendix grows to the left grow to the right. `[lookahead ≠ {]` needs no line: no definition begins with `{`.
use Rattle.std.specs.Prelude.{List, [], ◌∷◌, Bool, ◌&&◌, ℕ, ◌+◌, leb}
use Rattle.definition.specs.Lists.{choose}
use Rattle.definition.specs.Names.{bytes, same_name}

-- ---- Sorts of tokens.
-- 0 to 13 are the punctuators in the order `! $ & ( ) ... : = @ [ ] { | }` (2.1.8), 14 an IntValue, 15 a FloatValue, 16 a StringValue, block
-- strings included. From 17 on they are Names: one sort for each word of the list below, in its order, and the next for every other Name.

unfoldable pub words : List (List ℕ)
words =
    bytes "true" ∷ bytes "false" ∷ bytes "null" ∷
    bytes "schema" ∷ bytes "scalar" ∷ bytes "type" ∷ bytes "interface" ∷ bytes "union" ∷ bytes "enum" ∷ bytes "input" ∷ bytes "directive" ∷
    bytes "extend" ∷ bytes "implements" ∷ bytes "repeatable" ∷ bytes "on" ∷ bytes "query" ∷ bytes "mutation" ∷ bytes "subscription" ∷
    bytes "QUERY" ∷ bytes "MUTATION" ∷ bytes "SUBSCRIPTION" ∷ bytes "FIELD" ∷ bytes "FRAGMENT_DEFINITION" ∷ bytes "FRAGMENT_SPREAD" ∷
    bytes "INLINE_FRAGMENT" ∷ bytes "VARIABLE_DEFINITION" ∷
    bytes "SCHEMA" ∷ bytes "SCALAR" ∷ bytes "OBJECT" ∷ bytes "FIELD_DEFINITION" ∷ bytes "ARGUMENT_DEFINITION" ∷ bytes "INTERFACE" ∷
    bytes "UNION" ∷ bytes "ENUM" ∷ bytes "ENUM_VALUE" ∷ bytes "INPUT_OBJECT" ∷ bytes "INPUT_FIELD_DEFINITION" ∷
    []

-- The place of a word in a list, or the list's length.
unfoldable pub place_of : List ℕ → List (List ℕ) → ℕ
place_of w [] = 0
place_of w (x ∷ xs) = let r = place_of w xs in choose (same_name w x) 0 (1 + r)

unfoldable pub sort_of_name : List ℕ → ℕ
sort_of_name w = 17 + place_of w words

-- ---- Marks: what is noted where. They take no room in the text.
pub data Mark : Type 0 where
  -- a heading's item begins with the next token; its kind is k; it ends with the token just read
  heading : Mark
  kind : ℕ → Mark
  heading_ends : Mark
  -- the same of a part, whose kind is known as it begins
  item : ℕ → Mark
  item_ends : Mark
  -- the next token is the name of the item that began last
  named : Mark
  -- the next token opens a level of a value or a list type; the token just read closed one
  deeper : Mark
  shallower : Mark

-- ---- Parts of the grammar.
pub data Part : Type 0 where
  Document Definition Definition* Described Extended : Part
  Description? : Part
  Roots Roots? Root Root* : Part
  Implements Implements? Interface AndInterface* Amp? : Part
  Fields Fields? Field Field* : Part
  Members Members? Member OrMember* Bar? : Part
  EnumValues EnumValues? EnumValue EnumValue* : Part
  InputFields InputFields? InputField InputField* : Part
  SchemaMore ObjectMore UnionMore EnumMore InputMore : Part
  ArgumentDefinitions? ArgumentDefinition ArgumentDefinition* : Part
  Repeatable? Location OrLocation* : Part
  TypeReference Bang? : Part
  Default? : Part
  DirectiveUse DirectiveUse* : Part
  Directive Directive* : Part
  Arguments? Argument Argument* : Part
  Value Value* ObjectValue ObjectField ObjectField* : Part

pub data Symbol : Type 0 where
  -- a token of a sort from the first to the second
  one : ℕ → ℕ → Symbol
  part : Part → Symbol
  mark : Mark → Symbol

unfoldable pub within : ℕ → ℕ → ℕ → Bool
within lo hi s = leb lo s && leb s hi

-- ---- Tokens by name.
abbrev pub bang : Symbol
bang = one 0 0

abbrev pub amp : Symbol
amp = one 2 2

abbrev pub paren_opens : Symbol
paren_opens = one 3 3

abbrev pub paren_closes : Symbol
paren_closes = one 4 4

abbrev pub colon : Symbol
colon = one 6 6

abbrev pub equals : Symbol
equals = one 7 7

abbrev pub at : Symbol
at = one 8 8

abbrev pub bracket_opens : Symbol
bracket_opens = one 9 9

abbrev pub bracket_closes : Symbol
bracket_closes = one 10 10

abbrev pub brace_opens : Symbol
brace_opens = one 11 11

abbrev pub bar : Symbol
bar = one 12 12

abbrev pub brace_closes : Symbol
brace_closes = one 13 13

abbrev pub number : Symbol
number = one 14 15

abbrev pub string : Symbol
string = one 16 16

-- Name (2.1.9); EnumValue: Name but not `true`, `false` or `null` (2.9.6); BooleanValue and NullValue (2.9.3, 2.9.5).
abbrev pub name : Symbol
name = one 17 54

abbrev pub enum_name : Symbol
enum_name = one 20 54

abbrev pub boolean_or_null : Symbol
boolean_or_null = one 17 19

abbrev pub schema : Symbol
schema = one 20 20

abbrev pub scalar : Symbol
scalar = one 21 21

abbrev pub type : Symbol
type = one 22 22

abbrev pub interface : Symbol
interface = one 23 23

abbrev pub union : Symbol
union = one 24 24

abbrev pub enum : Symbol
enum = one 25 25

abbrev pub input : Symbol
input = one 26 26

abbrev pub directive : Symbol
directive = one 27 27

abbrev pub extend : Symbol
extend = one 28 28

abbrev pub implements : Symbol
implements = one 29 29

abbrev pub repeatable : Symbol
repeatable = one 30 30

abbrev pub on : Symbol
on = one 31 31

abbrev pub query : Symbol
query = one 32 32

abbrev pub mutation : Symbol
mutation = one 33 33

abbrev pub subscription : Symbol
subscription = one 34 34

-- ExecutableDirectiveLocation and TypeSystemDirectiveLocation (3.13).
abbrev pub location : Symbol
location = one 35 53

-- ---- The table.
unfoldable pub rule : Part → List (List Symbol)
-- 3: TypeSystemDocument, here with extensions (TypeSystemExtensionDocument), one definition at least.
rule Document = (part Definition ∷ part Definition* ∷ []) ∷ []
rule Definition* = (part Definition ∷ part Definition* ∷ []) ∷ [] ∷ []
rule Definition =
    (mark heading ∷ part Description? ∷ part Described ∷ mark heading_ends ∷ []) ∷
    (mark heading ∷ extend ∷ part Extended ∷ mark heading_ends ∷ []) ∷
    []
-- 2.9.4, 3.2: Description is a StringValue.
rule Description? = (string ∷ []) ∷ [] ∷ []
-- 3.3 SchemaDefinition, 3.5 ScalarTypeDefinition, 3.6 ObjectTypeDefinition, 3.7 InterfaceTypeDefinition, 3.8 UnionTypeDefinition,
-- 3.9 EnumTypeDefinition, 3.10 InputObjectTypeDefinition, 3.13 DirectiveDefinition, each after its description.
rule Described =
    (schema ∷ mark (kind 4) ∷ part DirectiveUse* ∷ part Roots ∷ []) ∷
    (scalar ∷ mark (kind 5) ∷ mark named ∷ name ∷ part DirectiveUse* ∷ []) ∷
    (type ∷ mark (kind 6) ∷ mark named ∷ name ∷ part Implements? ∷ part DirectiveUse* ∷ part Fields? ∷ []) ∷
    (interface ∷ mark (kind 7) ∷ mark named ∷ name ∷ part Implements? ∷ part DirectiveUse* ∷ part Fields? ∷ []) ∷
    (union ∷ mark (kind 8) ∷ mark named ∷ name ∷ part DirectiveUse* ∷ part Members? ∷ []) ∷
    (enum ∷ mark (kind 9) ∷ mark named ∷ name ∷ part DirectiveUse* ∷ part EnumValues? ∷ []) ∷
    (input ∷ mark (kind 10) ∷ mark named ∷ name ∷ part DirectiveUse* ∷ part InputFields? ∷ []) ∷
    (directive ∷ mark (kind 3) ∷ at ∷ mark named ∷ name ∷ part ArgumentDefinitions? ∷ part Repeatable? ∷ on ∷ part Bar? ∷
    part Location ∷ part OrLocation* ∷ []) ∷
    []
-- The extensions of the same sections, each after `extend`: at least one of what may follow the name must follow.
rule Extended =
    (schema ∷ mark (kind 11) ∷ part SchemaMore ∷ []) ∷
    (scalar ∷ mark (kind 12) ∷ mark named ∷ name ∷ part DirectiveUse ∷ part DirectiveUse* ∷ []) ∷
    (type ∷ mark (kind 13) ∷ mark named ∷ name ∷ part ObjectMore ∷ []) ∷
    (interface ∷ mark (kind 14) ∷ mark named ∷ name ∷ part ObjectMore ∷ []) ∷
    (union ∷ mark (kind 15) ∷ mark named ∷ name ∷ part UnionMore ∷ []) ∷
    (enum ∷ mark (kind 16) ∷ mark named ∷ name ∷ part EnumMore ∷ []) ∷
    (input ∷ mark (kind 17) ∷ mark named ∷ name ∷ part InputMore ∷ []) ∷
    []
rule SchemaMore =
    (part DirectiveUse ∷ part DirectiveUse* ∷ part Roots? ∷ []) ∷
    (part Roots ∷ []) ∷
    []
rule ObjectMore =
    (part Implements ∷ part DirectiveUse* ∷ part Fields? ∷ []) ∷
    (part DirectiveUse ∷ part DirectiveUse* ∷ part Fields? ∷ []) ∷
    (part Fields ∷ []) ∷
    []
rule UnionMore =
    (part DirectiveUse ∷ part DirectiveUse* ∷ part Members? ∷ []) ∷
    (part Members ∷ []) ∷
    []
rule EnumMore =
    (part DirectiveUse ∷ part DirectiveUse* ∷ part EnumValues? ∷ []) ∷
    (part EnumValues ∷ []) ∷
    []
rule InputMore =
    (part DirectiveUse ∷ part DirectiveUse* ∷ part InputFields? ∷ []) ∷
    (part InputFields ∷ []) ∷
    []
-- 3.3 RootOperationTypeDefinition: OperationType : NamedType. The name is the root's type.
rule Roots = (brace_opens ∷ part Root ∷ part Root* ∷ brace_closes ∷ []) ∷ []
rule Roots? = (part Roots ∷ []) ∷ [] ∷ []
rule Root* = (part Root ∷ part Root* ∷ []) ∷ [] ∷ []
rule Root =
    (mark (item 26) ∷ query ∷ colon ∷ mark named ∷ name ∷ mark item_ends ∷ []) ∷
    (mark (item 27) ∷ mutation ∷ colon ∷ mark named ∷ name ∷ mark item_ends ∷ []) ∷
    (mark (item 28) ∷ subscription ∷ colon ∷ mark named ∷ name ∷ mark item_ends ∷ []) ∷
    []
-- 3.6 ImplementsInterfaces.
rule Implements = (implements ∷ part Amp? ∷ part Interface ∷ part AndInterface* ∷ []) ∷ []
rule Implements? = (part Implements ∷ []) ∷ [] ∷ []
rule Amp? = (amp ∷ []) ∷ [] ∷ []
rule Interface = (mark (item 21) ∷ mark named ∷ name ∷ mark item_ends ∷ []) ∷ []
rule AndInterface* = (amp ∷ part Interface ∷ part AndInterface* ∷ []) ∷ [] ∷ []
-- 3.6 FieldsDefinition, FieldDefinition.
rule Fields = (brace_opens ∷ part Field ∷ part Field* ∷ brace_closes ∷ []) ∷ []
rule Fields? = (part Fields ∷ []) ∷ [] ∷ []
rule Field* = (part Field ∷ part Field* ∷ []) ∷ [] ∷ []
rule Field =
    (mark (item 22) ∷ part Description? ∷ mark named ∷ name ∷ part ArgumentDefinitions?
    ∷ colon ∷ part TypeReference ∷ part Directive* ∷ mark item_ends ∷ []) ∷
    []
-- 3.8 UnionMemberTypes.
rule Members = (equals ∷ part Bar? ∷ part Member ∷ part OrMember* ∷ []) ∷ []
rule Members? = (part Members ∷ []) ∷ [] ∷ []
rule Bar? = (bar ∷ []) ∷ [] ∷ []
rule Member = (mark (item 23) ∷ mark named ∷ name ∷ mark item_ends ∷ []) ∷ []
rule OrMember* = (bar ∷ part Member ∷ part OrMember* ∷ []) ∷ [] ∷ []
-- 3.9 EnumValuesDefinition, EnumValueDefinition.
rule EnumValues = (brace_opens ∷ part EnumValue ∷ part EnumValue* ∷ brace_closes ∷ []) ∷ []
rule EnumValues? = (part EnumValues ∷ []) ∷ [] ∷ []
rule EnumValue* = (part EnumValue ∷ part EnumValue* ∷ []) ∷ [] ∷ []
rule EnumValue = (mark (item 24) ∷ part Description? ∷ mark named ∷ enum_name ∷ part Directive* ∷ mark item_ends ∷ []) ∷ []
-- 3.10 InputFieldsDefinition, of InputValueDefinition (3.6.1).
rule InputFields = (brace_opens ∷ part InputField ∷ part InputField* ∷ brace_closes ∷ []) ∷ []
rule InputFields? = (part InputFields ∷ []) ∷ [] ∷ []
rule InputField* = (part InputField ∷ part InputField* ∷ []) ∷ [] ∷ []
rule InputField =
    (mark (item 25) ∷ part Description? ∷ mark named ∷ name
    ∷ colon ∷ part TypeReference ∷ part Default? ∷ part Directive* ∷ mark item_ends ∷ []) ∷
    []
-- 3.6.1 ArgumentsDefinition, of InputValueDefinition: no cards.
rule ArgumentDefinitions? = (paren_opens ∷ part ArgumentDefinition ∷ part ArgumentDefinition* ∷ paren_closes ∷ []) ∷ [] ∷ []
rule ArgumentDefinition* = (part ArgumentDefinition ∷ part ArgumentDefinition* ∷ []) ∷ [] ∷ []
rule ArgumentDefinition = (part Description? ∷ name ∷ colon ∷ part TypeReference ∷ part Default? ∷ part Directive* ∷ []) ∷ []
-- 3.13 DirectiveLocations.
rule Repeatable? = (repeatable ∷ []) ∷ [] ∷ []
rule Location = (location ∷ []) ∷ []
rule OrLocation* = (bar ∷ part Location ∷ part OrLocation* ∷ []) ∷ [] ∷ []
-- 2.11 Type: NamedType, ListType, and either with `!`. A list type is a level.
rule TypeReference =
    (name ∷ part Bang? ∷ []) ∷
    (mark deeper ∷ bracket_opens ∷ part TypeReference ∷ bracket_closes ∷ mark shallower ∷ part Bang? ∷ []) ∷
    []
rule Bang? = (bang ∷ []) ∷ [] ∷ []
-- 2.10 DefaultValue, constant.
rule Default? = (equals ∷ part Value ∷ []) ∷ [] ∷ []
-- 2.12 Directives, constant: with a card on a heading, without one elsewhere.
rule DirectiveUse* = (part DirectiveUse ∷ part DirectiveUse* ∷ []) ∷ [] ∷ []
rule DirectiveUse = (mark (item 20) ∷ at ∷ mark named ∷ name ∷ part Arguments? ∷ mark item_ends ∷ []) ∷ []
rule Directive* = (part Directive ∷ part Directive* ∷ []) ∷ [] ∷ []
rule Directive = (at ∷ name ∷ part Arguments? ∷ []) ∷ []
-- 2.6 Arguments, constant.
rule Arguments? = (paren_opens ∷ part Argument ∷ part Argument* ∷ paren_closes ∷ []) ∷ [] ∷ []
rule Argument* = (part Argument ∷ part Argument* ∷ []) ∷ [] ∷ []
rule Argument = (name ∷ colon ∷ part Value ∷ []) ∷ []
-- 2.9 Value, constant: no Variable. A list or an object is a level.
rule Value =
    (number ∷ []) ∷
    (string ∷ []) ∷
    (boolean_or_null ∷ []) ∷
    (enum_name ∷ []) ∷
    (mark deeper ∷ bracket_opens ∷ part Value* ∷ bracket_closes ∷ mark shallower ∷ []) ∷
    (part ObjectValue ∷ []) ∷
    []
rule Value* = (part Value ∷ part Value* ∷ []) ∷ [] ∷ []
rule ObjectValue = (mark deeper ∷ brace_opens ∷ part ObjectField* ∷ brace_closes ∷ mark shallower ∷ []) ∷ []
rule ObjectField* = (part ObjectField ∷ part ObjectField* ∷ []) ∷ [] ∷ []
rule ObjectField = (name ∷ colon ∷ part Value ∷ []) ∷ []
