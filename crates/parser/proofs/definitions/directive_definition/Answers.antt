use mathlib.Core.Path.{refl, ◌∙◌}
use mathlib.Core.List.{[], ◌∷◌, ◌++◌}
use native.Mathlib.Omega.{arith}
use Rattle.definition.specs.Grammar.{mark, named, name, heading_ends}
use Rattle.parser_lexer.proofs.SortLaws.{differs, differs_not}
use Rattle.parser_laws.proofs.Tests.{within_is}
use Rattle.parser_laws.proofs.Picking.{other}
use Rattle.parser_values.proofs.Readers.{lies, stays_on}
use Rattle.parser.specs.Symbols.{rest_of}
use Rattle.parser.proofs.Headings.{heading_in, lacks_token, reads_token}
use Rattle.parser.proofs.definitions.directive_definition.Goals as goal
use Rattle.parser_lexer.specs.Sorts.{sort_number}

pub returns-then-ne : goal.returns-then-ne
returns-then-ne c =
    let a = c.args in
    let p = lies a.c refl in (
      λ h. lacks_token a.c.text.now (mark named ∷ name ∷ (rest_of 3 ++ (mark heading_ends ∷ []))) 8 8 h (other 8 (sort_number a.c.sort) (differs c.args.c.sort c.ne.ensures c.if-ne.true))
          a.cards.now a.cards.now,
      omega (arith, p.1, p.2),
    )

pub named-requires : goal.named-requires
named-requires c =
    let p = lies c.args.c refl in
    let n = c.next-k.ensures in
    (rw n.1 c.requires.0, (omega (arith, n.2, p.0, p.1, c.requires.1.0), n.3 ∙ c.requires.1.1), omega arith)

pub returns : goal.returns
returns c =
    let a = c.args in
    let text = a.c.text.now in
    let p = lies a.c refl in
    let k = c.next-k in
    let n = k.ensures in
    let e = heading_in n.1 c.named.ensures in (
      λ h. e.0 (reads_token text (mark named ∷ name ∷ (rest_of 3 ++ (mark heading_ends ∷ []))) 8 8 k.result h n.0 n.2 (omega arith)
          (within_is 8 8 (sort_number a.c.sort) (omega (arith, (differs_not c.args.c.sort c.ne.ensures c.if-ne.false))) (omega (arith, (differs_not c.args.c.sort c.ne.ensures c.if-ne.false))))),
      stays_on text a.c k.result c.named.result (omega (arith, n.2, p.0, p.1)) e.1,
    )
