use mathlib.Core.Path.{◌≡◌, refl, sym, ap, ◌∙◌}
use mathlib.Core.Bool.{Bool, true}
use mathlib.Core.List.{[], ◌∷◌}
use Prim.Native.Nat.{ℕ, ◌-◌, ◌≤◌}
use native.Mathlib.Omega.{arith}
use Rattle.definition.specs.Grammar.{mark, named, name, at, heading_ends, within, Described}
use Rattle.definition.specs.GrammarSets.{nullable, first}
use Rattle.definition.specs.Machine.{has}
use Rattle.parser_laws.proofs.Tests.{within_bounds}
use Rattle.parser_lexer.specs.declared.sorts.Sort.{Sort}
use Rattle.parser_lexer.specs.declared.sorts.Sort.TheVariants as S
use Rattle.parser_lexer.proofs.SortLaws.{one_sort}
use Rattle.parser.specs.Symbols.{rest_of}
use Rattle.parser_values.proofs.Readers.{lies, moves_on}
use Rattle.parser.proofs.Headings.{heading_in, lacks_part, by_keyword}
use Rattle.parser.proofs.ByKind.{described, described_schema, described_directive}
use Rattle.parser.proofs.definitions.described.Goals as goal
use Rattle.parser_lexer.specs.Sorts.{sort_number}

-- A keyword, and one that is neither the first nor the last.
keyword : (n lo hi : ℕ) {r : Bool} → r ≡ within lo hi n → r ≡ true → (lo ≤ n) × (n ≤ hi)
keyword n lo hi e f = within_bounds lo hi n (sym e ∙ f)

pub returns-then-not-is_within : goal.returns-then-not-is_within
unfolding nullable first has
returns-then-not-is_within c =
    let a = c.args in
    let p = lies a.c refl in (
      λ h. lacks_part a.c.text.now (mark heading_ends ∷ []) Described h refl (rw (sym c.is_within.ensures ∙ c.if-not-is_within.true)) a.cards.now a.cards.now,
      omega (arith, p.1, p.2),
    )

pub next_token-k-requires : goal.next_token-k-requires
next_token-k-requires c =
    let p = lies c.args.c refl in
    let w = keyword (sort_number c.args.c.sort) 20 27 c.is_within.ensures c.if-not-is_within.false in
    (p.2, omega (arith, p.0, p.4 (omega (arith, w.1)), c.requires.2))

pub unnamed-requires : goal.unnamed-requires
unnamed-requires c =
    let p = lies c.args.c refl in
    let n = c.next_token-k.ensures in
    (rw n.1 c.requires.0, (omega (arith, n.2, p.1, c.requires.1), n.3), omega arith)

pub returns-in-Schema : goal.returns-in-Schema
returns-in-Schema c =
    let a = c.args in
    let w = keyword (sort_number c.args.c.sort) 20 27 c.is_within.ensures c.if-not-is_within.false in
    let p = lies a.c refl in
    let k = c.next_token-k in
    let n = k.ensures in
    let e = heading_in n.1 c.unnamed.ensures in (
      λ h. e.0 (by_keyword a.c.text.now Described 20 4 (rest_of 4) k.result h (ap sort_number c.in-Schema.is) (omega arith) described_schema n.0 n.2),
      moves_on a.c.text.now a.c k.result c.unnamed.result (omega (arith, n.2, p.0, p.4 (omega (arith, w.1)))) e.1,
    )

pub directive_definition-requires : goal.directive_definition-requires
directive_definition-requires c =
    let p = lies c.args.c refl in
    let n = c.next_token-k.ensures in
    (rw n.1 c.requires.0, (omega (arith, n.2, p.1, c.requires.1), n.3))

pub returns-in-Directive : goal.returns-in-Directive
returns-in-Directive c =
    let a = c.args in
    let w = keyword (sort_number c.args.c.sort) 20 27 c.is_within.ensures c.if-not-is_within.false in
    let p = lies a.c refl in
    let k = c.next_token-k in
    let n = k.ensures in
    let e = heading_in n.1 c.directive_definition.ensures in (
      λ h. e.0 (by_keyword a.c.text.now Described 27 3 (at ∷ mark named ∷ name ∷ rest_of 3) k.result h (ap sort_number c.in-Directive.is) (omega arith) described_directive n.0 n.2),
      moves_on a.c.text.now a.c k.result c.directive_definition.result (omega (arith, n.2, p.0, p.4 (omega (arith, w.1)))) e.1,
    )

-- A keyword of a type.
of_type : (s : Sort) → (20 ≤ sort_number s) × (sort_number s ≤ 27) → (s ≡ S.Schema → ⊥) → (s ≡ S.Directive → ⊥) →
    (21 ≤ sort_number s) × (sort_number s ≤ 26)
of_type s w p q =
    let u : sort_number s ≡ 20 → ⊥ = λ e. p (one_sort s S.Schema e) in
    let v : sort_number s ≡ 27 → ⊥ = λ e. q (one_sort s S.Directive e) in
    (omega (arith, w, u), omega (arith, w, v))

pub type_kind-requires : goal.type_kind-requires
type_kind-requires c =
    let w = keyword (sort_number c.args.c.sort) 20 27 c.is_within.ensures c.if-not-is_within.false in
    of_type c.args.c.sort w c.in_default.not-Schema c.in_default.not-Directive

pub named-requires : goal.named-requires
named-requires c =
    let p = lies c.args.c refl in
    let n = c.next_token-k.ensures in
    let w = keyword (sort_number c.args.c.sort) 20 27 c.is_within.ensures c.if-not-is_within.false in
    let v = of_type c.args.c.sort w c.in_default.not-Schema c.in_default.not-Directive in
    (rw n.1 c.requires.0, (omega (arith, n.2, p.1, c.requires.1), n.3), omega (arith, c.type_kind.ensures, v.1))

pub returns-in_default : goal.returns-in_default
returns-in_default c =
    let a = c.args in
    let p = lies a.c refl in
    let k = c.next_token-k in
    let n = k.ensures in
    let w = keyword (sort_number c.args.c.sort) 20 27 c.is_within.ensures c.if-not-is_within.false in
    let v = of_type c.args.c.sort w c.in_default.not-Schema c.in_default.not-Directive in
    let x = sort_number a.c.sort in
    let e = heading_in n.1 (rw c.type_kind.ensures at c.named.ensures) in (
      λ h. e.0 (by_keyword a.c.text.now Described x (x - 16) (mark named ∷ name ∷ rest_of (x - 16)) k.result h refl (omega (arith, v.1)) (described x v.0 v.1) n.0 n.2),
      moves_on a.c.text.now a.c k.result c.named.result (omega (arith, n.2, p.0, p.4 (omega (arith, v.1)))) e.1,
    )
