use mathlib.Core.Path.{◌≡◌, refl, sym, ◌∙◌}
use mathlib.Core.Bool.{true}
use mathlib.Core.List.{[], ◌∷◌, ◌++◌}
use native.Mathlib.Omega.{arith}
use Rattle.definition.specs.Grammar.{mark, heading_ends, within}
use Rattle.parser_values.proofs.Readers.{handed, lies}
use Rattle.parser_items.proofs.Items.{list_in}
use Rattle.parser.specs.Symbols.{rest_of}
use Rattle.parser.proofs.Headings.{lacks_name, by_name, ends, fails}
use Rattle.parser.proofs.definitions.named.Goals as goal
use Rattle.parser_lexer.specs.Sorts.{sort_number}

pub returns-then-not-is_within : goal.returns-then-not-is_within
returns-then-not-is_within c =
    let a = c.args in
    let p = lies a.c refl in (
      λ h. lacks_name a.c.text.now (rest_of a.kind ++ (mark heading_ends ∷ [])) 17 54 h (sym c.is_within.ensures ∙ c.if-not-is_within.true)
          a.cards.now a.cards.now,
      omega (arith, p.1, p.2),
    )

pub heading_rest-requires : goal.heading_rest-requires
heading_rest-requires c = (rw c.next.ensures.1 c.requires.0, c.requires.2)

pub returns-in_err-k : goal.returns-in_err-k
returns-in_err-k c =
    let a = c.args in
    let n = c.next.ensures in
    let e = list_in n.1 c.in_err-k.ensures in
    let w : within 17 54 (sort_number a.c.sort) ≡ true = sym c.is_within.ensures ∙ c.if-not-is_within.false in
    rw (handed _ _ c.from_residual.ensures) (
      λ h.
          let i = by_name a.c.text.now 17 54 (rest_of a.kind ++ (mark heading_ends ∷ [])) c.next.result h (omega arith) w n.0 n.2 in
          fails a.c.text.now (rest_of a.kind) i (e.0 n.0),
      e.1,
    )

pub end_heading-requires : goal.end_heading-requires
end_heading-requires c =
    let p = lies c.args.c refl in
    let n = c.next.ensures in
    let m = c.in_ok-k.ensures.1 in (
      rw (m.0 ∙ n.1) c.requires.0,
      omega (arith, m.1, n.2, p.0, p.1, c.requires.1.0),
      omega (arith, p.1, p.2, c.requires.0),
      omega (arith, p.1, p.2, c.requires.0),
    )

pub returns : goal.returns
returns c =
    let a = c.args in
    let p = lies a.c refl in
    let n = c.next.ensures in
    let e = list_in n.1 c.in_ok-k.ensures in
    let w : within 17 54 (sort_number a.c.sort) ≡ true = sym c.is_within.ensures ∙ c.if-not-is_within.false in (
      λ h.
          let i = by_name a.c.text.now 17 54 (rest_of a.kind ++ (mark heading_ends ∷ [])) c.next.result h (omega arith) w n.0 n.2 in
          ends a.c.text.now (rest_of a.kind) i (n.3 ∙ c.requires.1.1) (e.0 n.0) c.end_heading.ensures,
      (e.1.0, omega (arith, e.1.1, n.2, p.0, p.1)),
    )
