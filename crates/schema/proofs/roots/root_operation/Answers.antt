-- The name's bytes stand in the text where the definition's span says.
use mathlib.Core.Path.{refl, ◌∙◌, sym, subst, ap}
use Prim.Native.Nat.{ℕ}
use native.Mathlib.Nat.{add_comm}
use Rattle.definition.specs.Cards.{is_root}
use Rattle.definition.specs.Catalogue.{Row}
use Rattle.definition.specs.Lookups.{root_card}
use Rattle.store_reader.specs.Cards.{card_name, NamePart}
use Rattle.schema_rows.specs.Rows.{cards_of, rows_of}
use Rattle.schema.proofs.RootsLaws.{root_none, root_some, root_what, root_empty, root_named_lem}
use Rattle.schema.proofs.RootPlaces.{none_part, named_part}
use Rattle.schema.proofs.roots.root_operation.Goals as goal

pub returns-in_default : goal.returns-in_default
returns-in_default c =
    let n = root_none _ _ _ c.root_kind.ensures (sym c.find_row.ensures.found ∙ c.in_default.is) in
    (root_empty _ _ _ _ c.requires.0 c.requires.1 n, λ pass. none_part c.args.schema.text _ _ _ _ n refl (add_comm _ _) refl)

pub root_card-card-requires : goal.root_card-card-requires
root_card-card-requires c =
    let f = sym c.find_row.ensures.found ∙ c.in-Some.is in
    ap (λ (r : Row). is_root r.what) c.row.ensures ∙ root_what _ c.args.op _ c.root_kind.ensures _ f

pub returns : goal.returns
unfolding card_name
returns c =
    let k = c.root_kind.ensures in
    let f = sym c.find_row.ensures.found ∙ c.in-Some.is in
    let card = c.root_card-card.ensures ∙ ap (root_card (cards_of c.args.schema) (rows_of c.args.schema)) c.row.ensures in
    let part = subst (λ (n : ℕ). NamePart c.args.schema.text c.args.schema.words.now n c.read_name.result) card c.read_name.ensures in
    let row = root_some _ _ _ k _ f in (
      part.bytes ∙ root_named_lem _ _ _ _ c.requires.0 c.requires.1 _ row,
      λ pass. named_part _ _ _ _ _ c.requires.0 c.requires.1 pass _ c.in-Some.ensures.inside (root_what _ c.args.op _ k _ f) row part,
    )
