use borrow.Author.Rules.{rules}
use mathlib.Core.Path.{refl, sym, ◌∙◌}
use native.Mathlib.Omega.{arith}
use lib.ListN.{drop, length-drop}
use Rattle.std.proofs.lemmas.List.{take_rest}
use Rattle.definition.specs.Lexical.{escape}
use Rattle.parser_lexer.proofs.CharacterLaws.{counted_none, counted_some}
use Rattle.parser_lexer.proofs.StringLaws.{escape_size, plain_simple, plain_no_escape, plain_escape, plain_line, plain_character}
use Rattle.parser_lexer.proofs.strings.plain_part.Goals as goal

pub overflow_add-result : goal.overflow_add-result
overflow_add-result c =
    let bs = c.args.bytes.now in
    let z = counted_some (escape (drop 1 bs)) _ (rw (take_rest bs 1) at (sym c.in_ok-size-in-92.was ∙ c.escape.ensures)) in
    omega (arith, z.0, escape_size (drop 1 bs), length-drop 1 bs)

pub returns-in_err-size-in-92 : goal.returns-in_err-size-in-92
returns-in_err-size-in-92 c =
    let bs = c.args.bytes.now in
    let z = counted_none (escape (drop 1 bs)) (rw (take_rest bs 1) at (sym c.in_err-size-in-92.was ∙ c.escape.ensures)) in
    rw c.from_residual.ensures (plain_no_escape bs c.requires.0 c.requires.1 (escape (drop 1 bs)) refl c.in-92.is z)

pub returns-in_ok-size-in-92 : goal.returns-in_ok-size-in-92
returns-in_ok-size-in-92 c =
    let bs = c.args.bytes.now in
    let z = counted_some (escape (drop 1 bs)) _ (rw (take_rest bs 1) at (sym c.in_ok-size-in-92.was ∙ c.escape.ensures)) in
    plain_escape bs c.requires.0 c.requires.1 c.in_ok-size-in-92.size (sym z.0) c.in-92.is (omega (arith, z.1))

pub returns-then-is_simple : goal.returns-then-is_simple
returns-then-is_simple c = plain_simple c.args.bytes.now c.requires.0 (sym c.is_simple.ensures ∙ c.if-is_simple.true)

pub returns-in-10 : goal.returns-in-10
returns-in-10 c = plain_line c.args.bytes.now c.requires.0 c.requires.1 c.in-10.is

pub returns-in_default : goal.returns-in_default
returns-in_default c = rw c.character.ensures (plain_character c.args.bytes.now c.requires.0 c.requires.1 (omega arith) (search rules))
