use mathlib.Core.Path.{◌≡◌, refl, sym, ◌∙◌}
use mathlib.Core.List.{List, [], ◌∷◌, ◌++◌}
use mathlib.Core.Bool.{true}
use Prim.Native.Nat.{◌+◌}
use native.Mathlib.Omega.{arith}
use Rattle.definition.specs.Lists.{here}
use Rattle.definition.specs.Cards.{Card}
use Rattle.definition.specs.Grammar.{Symbol, one, part, mark, named, item_ends, rule, Description?}
use Rattle.definition.specs.GrammarSets.{nullable}
use Rattle.definition.specs.ItemCards.{begun, named_by}
use Rattle.parser_laws.proofs.Ahead.{token_of}
use Rattle.parser_lexer.specs.Sorts.{sort_number}
use Rattle.parser_lexer.specs.declared.cursor.Cursor.{Cursor}
use Rattle.std.specs.Prelude.{Ok, Err}
use Rattle.parser_values.specs.Reads.{May, Flat}
use Rattle.parser_values.proofs.Readers.{handed}
use Rattle.parser_items.specs.declared.definitions.ItemDefinition.{ItemDefinition}
use Rattle.parser_items.specs.declared.definitions.ItemDefinition.TheVariants.{Field, EnumValue, InputField}
use Rattle.parser_items.specs.Definitions.{part_of, kind_of, first_name, rest_of, symbols_of}
use Rattle.parser_items.proofs.Beginning.{wanting, covers, Sole}
use Rattle.parser_items.proofs.Items.{InItem, must, taken, starts, called, past, on, fails, ends, alone}
use Rattle.parser_items.proofs.definitions.definition.Goals as goal

-- From the name on.
abbrev name_on : ItemDefinition → List Symbol
name_on d = one (first_name d) 54 ∷ (rest_of d ++ (mark item_ends ∷ []))

sole : (d : ItemDefinition) → Sole (part_of d) (symbols_of d)
unfolding rule nullable wanting covers
sole Field = record { among = here; never_empty = refl; wants_token = refl; covered = refl }
sole EnumValue = record { among = here; never_empty = refl; wants_token = refl; covered = refl }
sole InputField = record { among = here; never_empty = refl; wants_token = refl; covered = refl }

wants : (d : ItemDefinition) → wanting (name_on d) ≡ true
unfolding wanting
wants Field = refl
wants EnumValue = refl
wants InputField = refl

-- The card after the name, which stands ahead of n.
abbrev card : ItemDefinition → Cursor → Cursor → Card
card d b n = named_by (token_of (sort_number n.sort) n.begins n.ends) (begun (kind_of d) b.begins)

module _ (d : ItemDefinition) {b n : Cursor} (f : May (part Description? ∷ []) b.text.now b 0 (Ok n)) where
  at_name : InItem b.last (symbols_of d) b.text.now b (name_on d) n (card d b n)
  unfolding wanting
  at_name =
      let i = starts b.text.now (kind_of d) (part Description? ∷ mark named ∷ name_on d) (sole d).wants_token refl in
      called b.text.now (symbols_of d) (name_on d) (wants d) (on b.text.now (symbols_of d) (part Description? ∷ []) (mark named ∷ name_on d) i f)

  at_rest : {k : Cursor} → Flat (one (first_name d) 54 ∷ []) n.text.now n (Ok k) →
      InItem (b.last + 1) (symbols_of d) b.text.now b (rest_of d ++ (mark item_ends ∷ [])) k (card d b n)
  at_rest g =
      past b.text.now (symbols_of d) (one (first_name d) 54 ∷ []) (rest_of d ++ (mark item_ends ∷ [])) at_name
      (must b.text.now (one (first_name d) 54 ∷ []) g)

pub returns-in_err-k : goal.returns-in_err-k
returns-in_err-k c =
    let a = c.args in
    let text = a.c.text.now in
    let name = one (first_name a.d) 54 ∷ [] in
    let f : Flat name c.description-name.result.text.now c.description-name.result (Err c.in_err-k.field-0.0) = rw c.first_name.ensures at c.in_err-k.ensures in
    rw (handed _ _ c.from_residual.ensures)
    (alone text (part_of a.d) (symbols_of a.d) (sole a.d)
    (fails text a.cards.now (symbols_of a.d) name (rest_of a.d ++ (mark item_ends ∷ [])) (at_name a.d c.description-name.ensures) (taken text name _ f)))

pub returns-in_err-j : goal.returns-in_err-j
returns-in_err-j c =
    let a = c.args in
    let text = a.c.text.now in
    let f : Flat (one (first_name a.d) 54 ∷ []) c.description-name.result.text.now c.description-name.result (Ok c.in_ok-k.k) =
    rw c.first_name.ensures at c.in_ok-k.ensures in
    rw (handed _ _ c.from_residual-in_err-j.ensures)
    (alone text (part_of a.d) (symbols_of a.d) (sole a.d)
    (fails text a.cards.now (symbols_of a.d) (rest_of a.d) (mark item_ends ∷ []) (at_rest a.d c.description-name.ensures f) c.in_err-j.ensures))

pub end_item-requires : goal.end_item-requires
end_item-requires c =
    let n = c.description-name.ensures.1 in
    let k = c.in_ok-k.ensures.1 in
    let j = c.in_ok-j.ensures.1 in
    let e = j.0 ∙ k.0 in
    (rw (e ∙ n.0) c.requires, sym (e ∙ n.0), sym e, omega (arith, n.1, k.1, j.1))

pub returns : goal.returns
returns c =
    let a = c.args in
    let text = a.c.text.now in
    let n = c.description-name in
    let f : Flat (one (first_name a.d) 54 ∷ []) n.result.text.now n.result (Ok c.in_ok-k.k) = rw c.first_name.ensures at c.in_ok-k.ensures in
    let i = at_rest a.d n.ensures f in
    let j = on text (symbols_of a.d) (rest_of a.d) (mark item_ends ∷ []) i c.in_ok-j.ensures in
    alone text (part_of a.d) (symbols_of a.d) (sole a.d)
    (ends text (symbols_of a.d) (kind_of a.d) n.result j (omega arith) (rw c.kind_of.ensures at c.end_item.ensures))
