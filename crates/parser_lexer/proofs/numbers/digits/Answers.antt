use mathlib.Core.Path.{sym, ◌∙◌}
use native.Mathlib.Omega.{arith}
use Rattle.std.proofs.Common.{rules, tests}
use Rattle.std.proofs.lemmas.Iterator.{YieldsList-from_slice}
use Rattle.std.proofs.lemmas.Iterator.Consumers.{count_from_yields_List}
use Rattle.std.proofs.lemmas.Iterator.Search.{YieldsList-from_take_while}
use Rattle.std.proofs.lemmas.List.Folds.{length-prefix_len}
use Rattle.std.specs.Char.{is_ascii_digit}
use Rattle.definition.specs.Lexical.{run, is_digit}
use Rattle.parser_lexer.proofs.CharacterLaws.{same_count, counted_other}
use Rattle.parser_lexer.proofs.NumberLaws.{run_digits}
use Rattle.parser_lexer.proofs.numbers.digits.Goals as goal

pub returns-in-0 : goal.returns-in-0
returns-in-0 c =
    let count = count_from_yields_List c.take_while.result _ c.count.ensures.ran
    (YieldsList-from_take_while _ is_ascii_digit (YieldsList-from_slice c.args.bytes.now (cc)) c.take_while.ensures.closure
    c.take_while.ensures.done (λ x b q k. search (rules, tests))) ∙ length-prefix_len is_ascii_digit c.args.bytes.now in
    same_count 0 (run is_digit c.args.bytes.now) (sym c.in-0.is ∙ count ∙ sym (run_digits c.args.bytes.now))

pub returns-in_default : goal.returns-in_default
returns-in_default c =
    let count = count_from_yields_List c.take_while.result _ c.count.ensures.ran
    (YieldsList-from_take_while _ is_ascii_digit (YieldsList-from_slice c.args.bytes.now (cc)) c.take_while.ensures.closure
    c.take_while.ensures.done (λ x b q k. search (rules, tests))) ∙ length-prefix_len is_ascii_digit c.args.bytes.now in
    counted_other _ (run is_digit c.args.bytes.now) (count ∙ sym (run_digits c.args.bytes.now)) (omega arith)
