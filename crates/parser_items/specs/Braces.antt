-- Lists in braces: what the grammar has for them.
use Rattle.std.specs.Prelude.{◌≡◌, refl, List, [], ◌∷◌, true, false}
use Rattle.definition.specs.Lists.{Among, here, there, all, any}
use Rattle.definition.specs.Grammar.{Symbol, Part, part, rule, within, brace_opens, brace_closes, Root, Root*, Roots, Roots?, Field, Field*, Fields, Fields?}
use Rattle.definition.specs.Grammar.{EnumValue, EnumValue*, EnumValues, EnumValues?, InputField, InputField*, InputFields, InputFields?}
use Rattle.definition.specs.GrammarSets.{nullable, first}
use Rattle.definition.specs.Machine.{has, first_set_of}
use Rattle.parser_laws.proofs.Tests.{subset}

-- Behind the opener.
abbrev pub items_of : Part → Part → List Symbol
items_of item more = part item ∷ part more ∷ brace_closes ∷ []

-- The part `list` is `item`s in braces, `more` are those after the first, and `optional` is the list, or empty.
pub record InBraces (optional list item more : Part) : Type 0 where
  pub standing : Among (part list ∷ []) (rule optional)
  pub absent : Among [] (rule optional)
  pub opener : first optional ≡ (11, 11) ∷ []
  pub whole : Among (brace_opens ∷ items_of item more) (rule list)
  pub opens : first list ≡ (11, 11) ∷ []
  pub some_there : nullable list ≡ false
  pub begins : has (first_set_of (part list ∷ [])) 11 ≡ true
  pub again : Among (part item ∷ part more ∷ []) (rule more)
  pub done : Among [] (rule more)
  pub never_empty : nullable item ≡ false
  pub follows : subset (first more) (first item) ≡ true
  pub tokens : subset (first item) ((0, 54) ∷ []) ≡ true
  pub closed : has (first more) 13 ≡ false

pub roots_rules : InBraces Roots? Roots Root Root*
unfolding rule nullable first first_set_of subset all any has within
roots_rules = record {
  standing = here;
  absent = there here;
  opener = refl;
  whole = here;
  opens = refl;
  some_there = refl;
  begins = refl;
  again = here;
  done = there here;
  never_empty = refl;
  follows = refl;
  tokens = refl;
  closed = refl;
}

pub fields_rules : InBraces Fields? Fields Field Field*
unfolding rule nullable first first_set_of subset all any has within
fields_rules = record {
  standing = here;
  absent = there here;
  opener = refl;
  whole = here;
  opens = refl;
  some_there = refl;
  begins = refl;
  again = here;
  done = there here;
  never_empty = refl;
  follows = refl;
  tokens = refl;
  closed = refl;
}

pub enum_values_rules : InBraces EnumValues? EnumValues EnumValue EnumValue*
unfolding rule nullable first first_set_of subset all any has within
enum_values_rules = record {
  standing = here;
  absent = there here;
  opener = refl;
  whole = here;
  opens = refl;
  some_there = refl;
  begins = refl;
  again = here;
  done = there here;
  never_empty = refl;
  follows = refl;
  tokens = refl;
  closed = refl;
}

pub input_fields_rules : InBraces InputFields? InputFields InputField InputField*
unfolding rule nullable first first_set_of subset all any has within
input_fields_rules = record {
  standing = here;
  absent = there here;
  opener = refl;
  whole = here;
  opens = refl;
  some_there = refl;
  begins = refl;
  again = here;
  done = there here;
  never_empty = refl;
  follows = refl;
  tokens = refl;
  closed = refl;
}
