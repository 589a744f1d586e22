use mathlib.Core.Path.{sym, ap, ◌∙◌}
use native.Mathlib.Omega.{arith}
use Rattle.std.proofs.lemmas.List.{take_rest}
use Rattle.definition.specs.Lexical.{plain}
use Rattle.std.specs.Prelude.{Some}
use Rattle.parser_lexer.specs.Strings.{later, PlainPart}
use Rattle.parser_lexer.proofs.StringLaws.{reads_on, plain_closes, plain_end}
use Rattle.parser_lexer.proofs.strings.plain_string.Goals as goal

pub returns-then-first-eq34 : goal.returns-then-first-eq34
returns-then-first-eq34 c = sym (c.loop-rest.invariant.1 ∙
    ap (later _) (plain_closes c.loop-rest.rest.now (omega arith) c.if-first-eq34.true))

pub returns-in_err-size : goal.returns-in_err-size
returns-in_err-size c = rw c.from_residual.ensures (sym (c.loop-rest.invariant.1 ∙ ap (later _) c.in_err-size.ensures))

pub loop-rest-preserved : goal.loop-rest-preserved
loop-rest-preserved c =
    let rest = c.loop-rest.rest.now in
    let n = c.in_ok-size.size in
    let g : PlainPart rest (Some n) = rw c.in_ok-size.was at c.plain_part.ensures in
    rw (take_rest rest n) (reads_on (plain 0) 1 c.args.bytes.now rest n c.loop-rest.invariant g.1 g.2)

pub returns : goal.returns
returns c = sym (c.loop-rest.invariant.1 ∙ ap (later _) (plain_end c.loop-rest.rest.now (omega arith)))
