use mathlib.Core.List.{[], ◌∷◌}
use Rattle.std.proofs.lemmas.Result.{err_from_is_err_and}
use Rattle.definition.specs.Grammar.{part, Definition*}
use Rattle.parser_lexer.proofs.SortLaws.{is, is_other}
use Rattle.parser_values.proofs.Readers.{step_falls}
use Rattle.parser.proofs.Documents.{begins, further, again, whole, refuses}
use Rattle.parser.proofs.Headings.{next_in}
use Rattle.parser.proofs.read_document.Goals as goal

pub loop-k-init : goal.loop-k-init
loop-k-init c =
    let n = c.next_token-c.ensures in
    (begins c.args.text.now c.next_token-c.result c.args.cards.now n.0 n.2 n.3, n.1)

pub definition-requires : goal.definition-requires
definition-requires c = rw c.loop-k.invariant.1 c.requires

pub returns-in_err-k : goal.returns-in_err-k
returns-in_err-k c =
    let text = c.args.text.now in
    let i = c.loop-k.invariant in
    let d = next_in i.1 c.in_err-k.ensures in
    let p = err_from_is_err_and c.from_residual.result c.from_residual.ensures.1 in
    rw (p.1, p.2) (refuses text (part Definition* ∷ []) i.0 (d.0 i.0.ahead))

pub returns-then-eq : goal.returns-then-eq
returns-then-eq c =
    let text = c.args.text.now in
    let i = c.loop-k.invariant in
    let d = next_in i.1 c.in_ok-k.ensures in
    whole text (is c.in_ok-k.k.sort c.eq.ensures c.if-eq.true) (further text (part Definition* ∷ []) i.0 (d.0 i.0.ahead))

pub loop-k-smaller : goal.loop-k-smaller
loop-k-smaller c = step_falls c.args.text.now c.loop-k.c c.in_ok-k.k c.loop-k.invariant.1 c.in_ok-k.ensures.1

pub loop-k-preserved : goal.loop-k-preserved
loop-k-preserved c =
    let text = c.args.text.now in
    let i = c.loop-k.invariant in
    let d = next_in i.1 c.in_ok-k.ensures in
    (again text (is_other c.in_ok-k.k.sort c.eq.ensures c.if-eq.false) (further text (part Definition* ∷ []) i.0 (d.0 i.0.ahead)), d.1.0)
