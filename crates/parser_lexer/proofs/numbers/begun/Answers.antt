use mathlib.Core.Path.{refl, sym, ◌∙◌}
use native.Mathlib.Omega.{arith}
use lib.ListN.{drop, length-drop}
use Rattle.std.proofs.lemmas.List.{take_rest}
use Rattle.definition.specs.Lexical.{run, is_digit}
use Rattle.parser_lexer.proofs.CharacterLaws.{counted_none, counted_some}
use Rattle.parser_laws.proofs.Gluing.{run_size}
use Rattle.parser_lexer.proofs.NumberLaws.{begun_none, begun_some}
use Rattle.parser_lexer.proofs.numbers.begun.Goals as goal

pub overflow_add-result : goal.overflow_add-result
overflow_add-result c =
    let bs = c.args.bytes.now in
    let m = c.args.mark in
    let d = counted_some (run is_digit (drop m bs)) _ (rw (take_rest bs m) at (sym c.in_ok-size.was ∙ c.digits.ensures)) in
    omega (arith, d.0, run_size is_digit (drop m bs), length-drop m bs)

pub returns-in_err-size : goal.returns-in_err-size
returns-in_err-size c =
    let bs = c.args.bytes.now in
    let m = c.args.mark in
    let z = counted_none (run is_digit (drop m bs)) (rw (take_rest bs m) at (sym c.in_err-size.was ∙ c.digits.ensures)) in
    rw c.from_residual.ensures (sym (begun_none bs m (run is_digit (drop m bs)) refl z))

pub returns : goal.returns
returns c =
    let bs = c.args.bytes.now in
    let m = c.args.mark in
    let z = counted_some (run is_digit (drop m bs)) _ (rw (take_rest bs m) at (sym c.in_ok-size.was ∙ c.digits.ensures)) in
    sym (begun_some bs m _ (sym z.0) (omega (arith, z.1)))
