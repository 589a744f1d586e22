use mathlib.Core.Path.{◌≡◌, ◌∙◌, ap, sym}
use borrow.Author.Rules.{rules}
use Rattle.definition.specs.Catalogue.{Row}
use Rattle.schema.proofs.Subtypes.{subtype_none, subtype_interface, subtype_union, subtype_neither}
use Rattle.schema.proofs.lookup.is_subtype.Goals as goal

-- The search finds the type's row and whether the other is listed.
pub returns-in_default : goal.returns-in_default
returns-in_default c = subtype_none _ _ _ _ _ c.requires _ c.find_part-union.ensures.found c.in_default.is

pub returns-in-7 : goal.returns-in-7
returns-in-7 c =
    let kind = sym (ap (λ (r : Row). r.what) c.row.ensures) ∙ c.in-7.is in
    c.is_some.ensures
    ∙ subtype_interface _ _ _ _ _ c.requires _ c.find_part-union.ensures.found _ c.in-Some.is kind _ c.find_part-interface.ensures.found

pub returns-in-8 : goal.returns-in-8
returns-in-8 c =
    let kind = sym (ap (λ (r : Row). r.what) c.row.ensures) ∙ c.in-8.is in
    c.is_some-in-8.ensures ∙ subtype_union _ _ _ _ _ c.requires _ c.find_part-union.ensures.found _ c.in-Some.is kind

pub returns-in_default-what : goal.returns-in_default-what
returns-in_default-what c =
    let same = ap (λ (r : Row). r.what) c.row.ensures in
    let no_interface : c.row.result.what ≡ 7 → ⊥ = search rules in
    let no_union : c.row.result.what ≡ 8 → ⊥ = search rules in
    subtype_neither _ _ _ _ _ c.requires _ c.find_part-union.ensures.found _ c.in-Some.is
    (λ k. no_interface (same ∙ k)) (λ k. no_union (same ∙ k))
