use native.Mathlib.Omega.{arith}
use Rattle.parser_values.proofs.Readers.{handed}
use Rattle.parser.specs.Symbols.{rest_of}
use Rattle.parser.proofs.Headings.{ends, fails}
use Rattle.parser.proofs.definitions.unnamed.Goals as goal

pub returns-in_err-k : goal.returns-in_err-k
returns-in_err-k c =
    let a = c.args in
    let e = c.in_err-k.ensures in
    rw (handed _ _ c.from_residual.ensures) (λ h. fails a.c.text.now (rest_of a.kind) h (e.0 h.ahead), e.1)

pub end_heading-requires : goal.end_heading-requires
end_heading-requires c =
    let m = c.in_ok-k.ensures.1 in
    (rw m.0 c.requires.0, omega (arith, m.1), omega arith, omega arith)

pub returns : goal.returns
returns c =
    let a = c.args in
    let e = c.in_ok-k.ensures in
    (λ h. ends a.c.text.now (rest_of a.kind) h c.requires.1.1 (e.0 h.ahead) c.end_heading.ensures, e.1)
