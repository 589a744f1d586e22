use mathlib.Core.Path.{◌∙◌, sym, ap}
use native.Mathlib.Omega.{arith}
use Rattle.definition.specs.Cards.{is_type}
use Rattle.definition.specs.Catalogue.{Row}
use Rattle.definition.specs.LentRows.{is_type_row_named}
use Rattle.definition.specs.Lookups.{is_part_named}
use Rattle.schema_rows.specs.Rows.{cards_of}
use Rattle.schema_rows.proofs.SearchLaws.{located, part_stop, part_hit, part_miss, part_end, owner_hit, owner_miss, owner_end}
use Rattle.schema_rows.proofs.Schema.find_part.Goals as goal

pub loop-j-init : goal.loop-j-init
loop-j-init c =
    let meant = is_type_row_named (cards_of c.args.self) c.args.owner_name.now in
    let named = sym (ap meant c.row.ensures) ∙ sym c.is_type_named.ensures ∙ c.if-is_type_named.true in
    (c.search.invariant.1, omega arith, c.search.invariant.2 ∙ owner_hit _ _ _ _ (omega arith) named)

pub loop-j-preserved : goal.loop-j-preserved
loop-j-preserved c =
    let type = sym (ap (λ (r : Row). is_type r.what) c.row-row.ensures) ∙ sym c.is_type.ensures ∙ c.if-is_type.false in
    let hit = is_part_named (cards_of c.args.self) c.args.kind c.args.part_name.now in
    let named = sym (ap hit c.row-row.ensures) ∙ sym c.is_part_named.ensures ∙ c.if-is_part_named.false in
    (c.loop-j.invariant.0, c.loop-j.invariant.1, c.loop-j.invariant.2 ∙ ap (located _) (part_miss _ _ _ (omega arith) type named))

pub search-preserved : goal.search-preserved
search-preserved c =
    let meant = is_type_row_named (cards_of c.args.self) c.args.owner_name.now in
    let other = sym (ap meant c.row.ensures) ∙ sym c.is_type_named.ensures ∙ c.if-is_type_named.false in
    (c.search.invariant.0, c.search.invariant.1, c.search.invariant.2 ∙ owner_miss _ _ _ _ (omega arith) other)

pub returns-after-search-clause-found : goal.returns-after-search-clause-found
returns-after-search-clause-found c =
    (λ j. located (c.search.invariant.0 j) (c.search.invariant.1 j)) ∙ sym (c.search.invariant.2 ∙ owner_end _ _ _ _ (omega arith))

pub returns-then-is_type-clause-found : goal.returns-then-is_type-clause-found
returns-then-is_type-clause-found c =
    let type = sym (ap (λ (r : Row). is_type r.what) c.row-row.ensures) ∙ sym c.is_type.ensures ∙ c.if-is_type.true in
    ap (located _) c.loop-j.invariant.0 ∙ sym (c.loop-j.invariant.2 ∙ ap (located _) (part_stop _ _ _ (omega arith) type))

pub returns-then-is_part_named-clause-found : goal.returns-then-is_part_named-clause-found
returns-then-is_part_named-clause-found c =
    let type = sym (ap (λ (r : Row). is_type r.what) c.row-row.ensures) ∙ sym c.is_type.ensures ∙ c.if-is_type.false in
    let hit = is_part_named (cards_of c.args.self) c.args.kind c.args.part_name.now in
    let named = sym (ap hit c.row-row.ensures) ∙ sym c.is_part_named.ensures ∙ c.if-is_part_named.true in
    sym (c.loop-j.invariant.2 ∙ ap (located _) (part_hit _ _ _ (omega arith) type named))

pub returns-after-loop-j-clause-found : goal.returns-after-loop-j-clause-found
returns-after-loop-j-clause-found c =
    ap (located _) c.loop-j.invariant.0 ∙ sym (c.loop-j.invariant.2 ∙ ap (located _) (part_end _ _ _ (omega arith)))
