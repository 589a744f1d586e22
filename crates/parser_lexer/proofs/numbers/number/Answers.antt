use mathlib.Core.Path.{refl, sym, ap, ◌∙◌}
use native.Mathlib.Omega.{arith}
use lib.ListN.{drop}
use Rattle.std.proofs.lemmas.List.{take_rest}
use Rattle.definition.specs.Lexical.{integer}
use Rattle.parser_lexer.specs.Measures.{numbered}
use Rattle.parser_lexer.proofs.CharacterLaws.{counted_none, counted_some}
use Rattle.parser_lexer.proofs.NumberLaws.{number_none, number_some, whole_fits}
use Rattle.parser_lexer.proofs.numbers.number.Goals as goal

pub returns-in_default : goal.returns-in_default
returns-in_default c =
    let bs = c.args.bytes.now in
    let s = c.sign-sign.result in
    let z = counted_none (integer (drop s bs)) (rw (take_rest bs s) at (sym c.in_default.is ∙ c.integer.ensures)) in
    sym (number_none bs s (integer (drop s bs)) c.sign-sign.ensures refl z)

pub overflow_add-sign : goal.overflow_add-sign
overflow_add-sign c =
    let bs = c.args.bytes.now in
    let s = c.sign-sign.result in
    let z = counted_some (integer (drop s bs)) _ (rw (take_rest bs s) at (sym c.in-Some.is ∙ c.integer.ensures)) in
    omega (arith, whole_fits bs s c.in-Some.whole c.sign-sign.ensures (sym z.0))

pub number_from-requires : goal.number_from-requires
number_from-requires c =
    let bs = c.args.bytes.now in
    let s = c.sign-sign.result in
    let z = counted_some (integer (drop s bs)) _ (rw (take_rest bs s) at (sym c.in-Some.is ∙ c.integer.ensures)) in
    whole_fits bs s c.in-Some.whole c.sign-sign.ensures (sym z.0)

pub returns-in-Some-number_from : goal.returns-in-Some-number_from
returns-in-Some-number_from c =
    let bs = c.args.bytes.now in
    let s = c.sign-sign.result in
    let z = counted_some (integer (drop s bs)) _ (rw (take_rest bs s) at (sym c.in-Some.is ∙ c.integer.ensures)) in
    sym (ap numbered c.in-Some-number_from.is) ∙ c.number_from.ensures ∙ sym (number_some bs s c.in-Some.whole c.sign-sign.ensures (sym z.0) (omega (arith, z.1)))

pub returns-in-None : goal.returns-in-None
returns-in-None c =
    let bs = c.args.bytes.now in
    let s = c.sign-sign.result in
    let z = counted_some (integer (drop s bs)) _ (rw (take_rest bs s) at (sym c.in-Some.is ∙ c.integer.ensures)) in
    sym (ap numbered c.in-None.is) ∙ c.number_from.ensures ∙ sym (number_some bs s c.in-Some.whole c.sign-sign.ensures (sym z.0) (omega (arith, z.1)))
