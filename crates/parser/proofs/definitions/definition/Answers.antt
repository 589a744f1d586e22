use mathlib.Core.Path.{◌≡◌, refl, sym, ap, ◌∙◌}
use mathlib.Core.Bool.{Bool, true, false}
use Prim.Native.Nat.{ℕ}
use native.Mathlib.Omega.{arith}
use Rattle.parser_laws.proofs.Tests.{clash, within_is, within_bounds}
use Rattle.definition.specs.Grammar.{within}
use Rattle.parser_lexer.specs.declared.sorts.Sort.TheVariants as S
use Rattle.parser_lexer.proofs.SortLaws.{one_sort}
use Rattle.parser_lexer.specs.Sorts.{sort_number}
use Rattle.parser_values.proofs.Readers.{lies, stays, moves_on}
use Rattle.parser.proofs.Headings.{definition_in, extends, describes, undescribed, undefined}
use Rattle.parser.proofs.definitions.definition.Goals as goal

-- No keyword, and not the word `extend` either.
no_word : (n : ℕ) → within 20 27 n ≡ false → (n ≡ 28 → ⊥) → within 20 28 n ≡ false
no_word n w f = go (within 20 28 n) refl
  where
    go : (t : Bool) → within 20 28 n ≡ t → t ≡ false
    go true v =
        let b = within_bounds 20 28 n v in
        clash (sym w ∙ within_is 20 27 n b.0 (omega (arith, b.1, f)))
    go false v = refl

pub returns-in-Extend : goal.returns-in-Extend
returns-in-Extend c =
    let a = c.args in
    let text = a.c.text.now in
    let p = lies a.c refl in
    let k = c.next_token in
    let n = k.ensures in
    let s = ap sort_number c.in-Extend.is in
    let e = definition_in n.1 c.extended.ensures in (
      λ h. e.0 (extends text a.c k.result h s n.0 n.2),
      moves_on text a.c k.result c.extended.result (omega (arith, n.2, p.0, p.4 (omega (arith, s)))) (stays text k.result c.extended.result e.1),
    )

pub returns-in-String : goal.returns-in-String
returns-in-String c =
    let a = c.args in
    let text = a.c.text.now in
    let p = lies a.c refl in
    let k = c.next_token-in-String in
    let n = k.ensures in
    let s = ap sort_number c.in-String.is in
    let e = definition_in n.1 c.described.ensures in (
      λ h. e.0 (describes text a.c k.result h s n.0 n.2),
      moves_on text a.c k.result c.described.result (omega (arith, n.2, p.0, p.4 (omega (arith, s)))) (stays text k.result c.described.result e.1),
    )

pub returns-in_default : goal.returns-in_default
returns-in_default c =
    let a = c.args in
    let w = within_bounds 20 27 (sort_number a.c.sort) (sym c.is_within.ensures ∙ c.if-is_within.true) in
    let e = c.described-in_default in
    (λ h. e.ensures.0 (undescribed a.c.text.now a.c h w.0 w.1), e.ensures.1)

pub returns-in_default-2 : goal.returns-in_default-2
returns-in_default-2 c =
    let a = c.args in
    let p = lies a.c refl in
    let s = a.c.sort in
    let w = sym c.is_within.ensures ∙ c.if-is_within.false in
    let string : sort_number s ≡ 16 → ⊥ = λ e. c.in_default-2.not-String (one_sort s S.String e) in
    let extend : sort_number s ≡ 28 → ⊥ = λ e. c.in_default-2.not-Extend (one_sort s S.Extend e) in (
      λ h. undefined a.c.text.now a.c h string (no_word (sort_number s) w extend) a.cards.now a.cards.now,
      omega (arith, p.1, p.2),
    )
