-- The type's name, compared with the query root's.
use mathlib.Core.Path.{◌∙◌, sym, refl, ap}
use Prim.Native.Nat.{ℕ}
use Rattle.definition.specs.declared.OperationType.TheVariants.{Query}
use Rattle.definition.specs.Cards.{is_root}
use Rattle.definition.specs.Catalogue.{Row}
use Rattle.definition.specs.Lookups.{root_card}
use Rattle.definition.specs.Names.{same_name}
use Rattle.store_reader.specs.Stored.{card_name}
use Rattle.schema_rows.specs.Rows.{cards_of, rows_of}
use Rattle.schema.proofs.RootsLaws.{root_none, root_some, root_what, query_none, query_named}
use Rattle.schema.proofs.roots.is_query_root.Goals as goal

pub returns-in_default : goal.returns-in_default
returns-in_default c = query_none _ _ _ _ (root_none _ Query 26 refl (sym c.find_row.ensures.found ∙ c.in_default.is))

pub root_card-requires : goal.root_card-requires
root_card-requires c =
    ap (λ (r : Row). is_root r.what) c.row.ensures ∙ root_what _ Query 26 refl _ (sym c.find_row.ensures.found ∙ c.in-Some.is)

pub returns : goal.returns
returns c =
    let e = c.args.schema in
    let card = c.root_card.ensures ∙ ap (root_card (cards_of e) (rows_of e)) c.row.ensures in
    c.is_named.ensures
    ∙ ap (λ (k : ℕ). same_name c.args.name.now (card_name e.text.now e.words.now k)) card
    ∙ query_named _ _ _ _ _ (root_some _ Query 26 refl _ (sym c.find_row.ensures.found ∙ c.in-Some.is))
