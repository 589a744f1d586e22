-- Items that are a name alone, and lists of them.
use Rattle.std.specs.Prelude.{◌≡◌, List, [], ◌∷◌, true, false, ℕ}
use Rattle.definition.specs.Lists.{Among}
use Rattle.definition.specs.Grammar.{Symbol, Part, one, part, mark, rule, item, named, name, item_ends}
use Rattle.definition.specs.GrammarSets.{nullable, first}
use Rattle.definition.specs.Machine.{has, first_set_of}
use Rattle.parser_lexer.specs.Ahead.{Ahead}
use Rattle.parser_lexer.specs.declared.cursor.Cursor.{Cursor}
use Rattle.parser_values.specs.Reads.{End, Stays, Optional}
use Rattle.parser_items.specs.Lists.{Lists}

abbrev pub name_item : ℕ → List Symbol
name_item k = mark (item k) ∷ mark named ∷ name ∷ mark item_ends ∷ []

-- The parts of such a list: the list or none, the list, a joining token or none before the first name, a name, and the names after the first.
pub record NameList : Type 0 where
  pub optional : Part
  pub list : Part
  pub lead : Part
  pub name : Part
  pub more : Part

abbrev pub name_list : ℕ → NameList → List Symbol
name_list x l = one x x ∷ part l.lead ∷ part l.name ∷ part l.more ∷ []

-- What the grammar has for them: the list begins with a token of the sort x, its names are joined by tokens of the sort y, each has a card of kind k.
pub record Joined (x y k : ℕ) (l : NameList) : Type 0 where
  pub standing : Among (part l.list ∷ []) (rule l.optional)
  pub absent : Among [] (rule l.optional)
  pub opener : first l.optional ≡ (x, x) ∷ []
  pub whole : Among (name_list x l) (rule l.list)
  pub begins : has (first_set_of (part l.list ∷ [])) x ≡ true
  pub leads : Optional l.lead y
  pub names : Among (name_item k) (rule l.name)
  pub never_empty : nullable l.name ≡ false
  pub letters : first l.name ≡ (17, 54) ∷ []
  pub again : Among (one y y ∷ part l.name ∷ part l.more ∷ []) (rule l.more)
  pub done : Among [] (rule l.more)
  pub joiner : first l.more ≡ (y, y) ∷ []

-- Whichever list of names it is that begins, is joined and has cards so.
abbrev pub NamesListed : (x y k : ℕ) → Cursor → End → List ℕ → List ℕ → Type 0
NamesListed x y k c e before after =
    (Ahead c.text.now c → (l : NameList) → Joined x y k l → Lists (part l.optional ∷ []) c.text.now c e before after) × Stays c.text.now c e
