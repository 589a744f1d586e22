-- Three words, then the types.
use mathlib.Core.Path.{◌∙◌, refl, sym, ap}
use mathlib.Core.List.{[], ◌∷◌, append-nil}
use native.Mathlib.Omega.{arith}
use lib.ListN.{length}
use Rattle.definition.specs.Catalogue.{Row}
use Rattle.store_reader.specs.Stored.{card_name}
use Rattle.schema_rows.specs.Rows.{cards_of, rows_of}
use Rattle.schema.specs.Groups.{implementers_named}
use Rattle.schema.proofs.Groups.{group_words_lem}
use Rattle.word_list.proofs.Filling.{filling_start, filling_capacity, filling_next, filling_done}
use Rattle.schema.proofs.implementers.Pairs.push_group.Goals as goal

pub extend_from_slice-requires : goal.extend_from_slice-requires
extend_from_slice-requires c =
    let p = c.args.self.schema in
    let named = c.card_name-name.ensures ∙ ap (λ (r : Row). card_name p.text.now p.words.now r.card) c.row-naming.ensures in
    let types = implementers_named (cards_of p) (rows_of p) c.card_name-name.result.now in
    let objects = c.count_kind-objects.result in
    let interfaces = c.count_kind-interfaces.result in
    let group = group_words_lem p.text.now p.words.now p.rows.now c.args.i _ named _ _ c.count_kind-objects.ensures c.count_kind-interfaces.ensures
    ∙ ap (λ (r : Row). r.card ∷ (objects ∷ (interfaces ∷ types))) (sym c.row-naming.ensures) in
    let k = ap length group in
    let h = c.requires.1 in
    omega arith

pub push_implementers-requires : goal.push_implementers-requires
push_implementers-requires c =
    let p = c.args.self.schema in
    let named = c.card_name-name.ensures ∙ ap (λ (r : Row). card_name p.text.now p.words.now r.card) c.row-naming.ensures in
    let types = implementers_named (cards_of p) (rows_of p) c.card_name-name.result.now in
    let objects = c.count_kind-objects.result in
    let interfaces = c.count_kind-interfaces.result in
    let group = group_words_lem p.text.now p.words.now p.rows.now c.args.i _ named _ _ c.count_kind-objects.ensures c.count_kind-interfaces.ensures
    ∙ ap (λ (r : Row). r.card ∷ (objects ∷ (interfaces ∷ types))) (sym c.row-naming.ensures) in
    let headed = filling_next _ _ _ _ (filling_start _ _ c.requires.1) (c.row-naming.result.card ∷ (objects ∷ (interfaces ∷ []))) types group _
    c.extend_from_slice.ensures in
    filling_capacity _ _ _ _ headed

pub returns : goal.returns
returns c =
    let p = c.args.self.schema in
    let named = c.card_name-name.ensures ∙ ap (λ (r : Row). card_name p.text.now p.words.now r.card) c.row-naming.ensures in
    let types = implementers_named (cards_of p) (rows_of p) c.card_name-name.result.now in
    let objects = c.count_kind-objects.result in
    let interfaces = c.count_kind-interfaces.result in
    let group = group_words_lem p.text.now p.words.now p.rows.now c.args.i _ named _ _ c.count_kind-objects.ensures c.count_kind-interfaces.ensures
    ∙ ap (λ (r : Row). r.card ∷ (objects ∷ (interfaces ∷ types))) (sym c.row-naming.ensures) in
    let headed = filling_next _ _ _ _ (filling_start _ _ c.requires.1) (c.row-naming.result.card ∷ (objects ∷ (interfaces ∷ []))) types group _
    c.extend_from_slice.ensures in
    filling_done _ _ _ _ (filling_next _ _ _ _ headed types [] (sym (append-nil types)) _ c.push_implementers.ensures) refl
