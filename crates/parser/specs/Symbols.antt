-- The symbols of a heading behind its keyword, by its kind: 3 directive, 4 schema, 5 to 10 scalar, object, interface, union, enum, input object; 11 to
-- 17 the extensions of the schema and of these. The laws say that Grammar's table has just these, so there is nothing here to believe.
use Rattle.std.specs.Prelude.{List, [], ◌∷◌, ℕ, ◌-◌, leb}
use Rattle.definition.specs.Lists.{choose}
use Rattle.definition.specs.Grammar.{Symbol, part, within, on}
use Rattle.definition.specs.Grammar.{Roots, Roots?, Implements?, Fields?, Members?, EnumValues?, InputFields?, DirectiveUse, DirectiveUse*}
use Rattle.definition.specs.Grammar.{SchemaMore, ObjectMore, UnionMore, EnumMore, InputMore, ArgumentDefinitions?, Repeatable?, Bar?, Location, OrLocation*}

-- What a body ends with. A schema must have roots (4), and its extension may (11).
unfoldable pub last_of : ℕ → List Symbol
last_of k =
    choose (leb k 4) (part Roots ∷ [])
    (choose (leb k 5) []
    (choose (leb k 7) (part Fields? ∷ [])
    (choose (leb k 8) (part Members? ∷ [])
    (choose (leb k 9) (part EnumValues? ∷ [])
    (choose (leb k 10) (part InputFields? ∷ []) (part Roots? ∷ []))))))

-- A body: what follows the name, or the word `schema`. Objects and interfaces may name interfaces first.
unfoldable pub body_of : ℕ → List Symbol
body_of k = choose (within 6 7 k) (part Implements? ∷ part DirectiveUse* ∷ last_of k) (part DirectiveUse* ∷ last_of k)

-- The same of an extension, of which something must be there.
unfoldable pub more_of : ℕ → List Symbol
more_of k =
    choose (leb k 5) (part DirectiveUse ∷ part DirectiveUse* ∷ [])
    (choose (leb k 7) (part ObjectMore ∷ [])
    (choose (leb k 8) (part UnionMore ∷ [])
    (choose (leb k 9) (part EnumMore ∷ [])
    (choose (leb k 10) (part InputMore ∷ []) (part SchemaMore ∷ [])))))

-- 3.13 DirectiveDefinition, behind its name.
abbrev pub locations : List Symbol
locations = part Bar? ∷ part Location ∷ part OrLocation* ∷ []

abbrev pub directive_rest : List Symbol
directive_rest = part ArgumentDefinitions? ∷ part Repeatable? ∷ on ∷ locations

-- What follows the name, by the heading's own kind.
unfoldable pub rest_of : ℕ → List Symbol
rest_of k =
    choose (leb k 3) directive_rest
    (choose (leb k 10) (body_of k)
    (choose (leb k 11) (more_of k) (more_of (k - 7))))
