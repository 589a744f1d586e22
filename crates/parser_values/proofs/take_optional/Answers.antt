use mathlib.Core.Path.{refl}
use mathlib.Core.List.{[]}
use native.Mathlib.Omega.{arith}
use Rattle.parser_lexer.specs.Sorts.{sort_number}
use Rattle.parser_lexer.proofs.SortLaws.{is_same, is_not_same}
use Rattle.parser_values.proofs.Readers.{there_it_is, not_there, nothing, lies}
use Rattle.parser_values.proofs.take_optional.Goals as goal

pub returns-then-eq : goal.returns-then-eq
returns-then-eq c =
    let n = c.next.ensures in
    let l = lies c.args.c refl in (
      λ a level s p o. (there_it_is p (sort_number c.args.sort) [] o.0 c.requires s (is_same c.args.c.sort c.args.sort c.eq.ensures c.if-eq.true) refl n (nothing c.next.result)).0 a,
      (n.1, omega (arith, l.0, l.1, n.2)),
    )

pub returns-else-eq : goal.returns-else-eq
returns-else-eq c = (λ a level s p o. (not_there p (sort_number c.args.sort) o.1 o.2 (is_not_same c.args.c.sort c.args.sort c.eq.ensures c.if-eq.false) refl).0 a, (refl, omega arith))
