use mathlib.Core.Path.{refl}
use Rattle.definition.specs.Lists.{here, there}
use Rattle.definition.specs.Grammar.{rule, within, Members?, Members, Bar?, Member, OrMember*}
use Rattle.definition.specs.GrammarSets.{nullable, first}
use Rattle.definition.specs.Machine.{has, first_set_of}
use Rattle.parser_items.specs.Names.{NameList, Joined}
use Rattle.parser_items.proofs.names.members.Goals as goal

parts : NameList
parts = record { optional = Members?; list = Members; lead = Bar?; name = Member; more = OrMember* }

joined : Joined 7 12 23 parts
unfolding parts rule nullable first first_set_of has within
joined = record {
  standing = here;
  absent = there here;
  opener = refl;
  whole = here;
  begins = refl;
  leads = (here, there here, refl);
  names = here;
  never_empty = refl;
  letters = refl;
  again = here;
  done = there here;
  joiner = refl;
}

pub returns : goal.returns
unfolding parts
returns c =
    let r = c.names.ensures in
    (λ a. r.0 a parts joined, r.1)
