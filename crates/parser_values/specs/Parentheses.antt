-- Lists in parentheses: what the grammar has for them.
use Rattle.std.specs.Prelude.{◌≡◌, refl, [], ◌∷◌, true, false}
use Rattle.definition.specs.Lists.{Among, here, there, all, any}
use Rattle.definition.specs.Grammar.{Part, part, rule, within, paren_opens, paren_closes, Argument, Argument*, Arguments?}
use Rattle.definition.specs.Grammar.{ArgumentDefinition, ArgumentDefinition*, ArgumentDefinitions?}
use Rattle.definition.specs.GrammarSets.{nullable, first}
use Rattle.definition.specs.Machine.{has}
use Rattle.parser_laws.proofs.Tests.{subset}

-- The part `list` is `item`s in parentheses, or empty, and `more` are those after the first.
pub record InParentheses (list item more : Part) : Type 0 where
  pub whole : Among (paren_opens ∷ part item ∷ part more ∷ paren_closes ∷ []) (rule list)
  pub absent : Among [] (rule list)
  pub opener : first list ≡ (3, 3) ∷ []
  pub again : Among (part item ∷ part more ∷ []) (rule more)
  pub done : Among [] (rule more)
  pub never_empty : nullable item ≡ false
  pub begins : subset (first more) (first item) ≡ true
  pub tokens : subset (first item) ((0, 54) ∷ []) ≡ true
  pub closed : has (first more) 4 ≡ false

pub arguments_rules : InParentheses Arguments? Argument Argument*
unfolding rule nullable first subset all any has within
arguments_rules = record {
  whole = here;
  absent = there here;
  opener = refl;
  again = here;
  done = there here;
  never_empty = refl;
  begins = refl;
  tokens = refl;
  closed = refl;
}

pub definitions_rules : InParentheses ArgumentDefinitions? ArgumentDefinition ArgumentDefinition*
unfolding rule nullable first subset all any has within
definitions_rules = record {
  whole = here;
  absent = there here;
  opener = refl;
  again = here;
  done = there here;
  never_empty = refl;
  begins = refl;
  tokens = refl;
  closed = refl;
}
