use borrow.Author.Rules.{rules}
use mathlib.Core.List.{List, ◌++◌}
use mathlib.Core.Path.{sym, ap, ◌∙◌}
use Prim.Native.Nat.{ℕ, ◌*◌}
use native.Mathlib.Omega.{arith}
use lib.ListN.{drop}
use Rattle.std.specs.Prelude.{Err}
use Rattle.std.proofs.lemmas.Result.{err_from_is_err_and}
use Rattle.definition.specs.Outcomes.{unlisted}
use Rattle.parser.proofs.Outcomes.{parse_long, refused_so, copied_so}
use Rattle.parser.proofs.parse.Goals as goal

pub returns-then-text-gt-TEXT_CAPACITY : goal.returns-then-text-gt-TEXT_CAPACITY
unfolding unlisted
returns-then-text-gt-TEXT_CAPACITY c =
    let a = c.args in
    rw c.into-then-text-gt-TEXT_CAPACITY.ensures (sym (parse_long a.text.now a.cards.now (omega arith) c.if-text-gt-TEXT_CAPACITY.true))

pub returns-in_err-count : goal.returns-in_err-count
returns-in_err-count c =
    let a = c.args in
    let p = err_from_is_err_and c.from_residual.result c.from_residual.ensures.1 in
    refused_so a.text.now a.cards.now (omega arith) c.if-text-gt-TEXT_CAPACITY.false c.in_err-count.field-0.0 c.from_residual.result
    (p.1 ∙ ap Err p.2) c.in_err-count.ensures

pub returns : goal.returns
returns c =
    let a = c.args in
    let n = c.in_ok-count.count in
    copied_so a.text.now a.cards.now (omega arith) c.if-text-gt-TEXT_CAPACITY.false n _ _ _ c.in_ok-count.ensures (omega arith) (search rules)
    (ap (λ (x : List ℕ). x ++ drop (n * 5) a.cards.now) c.copy_from_slice.ensures.after)
