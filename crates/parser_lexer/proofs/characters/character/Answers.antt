use mathlib.Core.Path.{sym, ◌∙◌}
use native.Mathlib.Omega.{arith}
use Rattle.definition.specs.Lexical.{character}
use Rattle.parser_lexer.proofs.CharacterLaws.{same_count, three_counted, by_three, of_first, of_control}
use Rattle.parser_lexer.proofs.characters.character.Goals as goal

pub returns-in-9 : goal.returns-in-9
returns-in-9 c = same_count 1 (character c.args.bytes.now) (sym (by_three c.args.bytes.now ∙ of_first _ _ _ (omega arith) (omega arith) (λ h n. omega arith)))

pub returns-in-9-2 : goal.returns-in-9-2
returns-in-9-2 c = same_count 1 (character c.args.bytes.now) (sym (by_three c.args.bytes.now ∙ of_first _ _ _ (omega arith) (omega arith) (λ h n. omega arith)))

pub returns-in-9-3 : goal.returns-in-9-3
returns-in-9-3 c = same_count 1 (character c.args.bytes.now) (sym (by_three c.args.bytes.now ∙ of_first _ _ _ (omega arith) (omega arith) (λ h n. omega arith)))

pub returns-in_default : goal.returns-in_default
returns-in_default c = same_count 0 (character c.args.bytes.now) (sym (by_three c.args.bytes.now ∙ of_control _ _ _ (omega arith) (omega arith) (omega arith) (omega arith)))

pub returns-in_default-2 : goal.returns-in_default-2
returns-in_default-2 c = same_count 0 (character c.args.bytes.now) (sym (by_three c.args.bytes.now ∙ of_control _ _ _ (omega arith) (omega arith) (omega arith) (omega arith)))

pub returns-in_default-3 : goal.returns-in_default-3
returns-in_default-3 c = same_count 0 (character c.args.bytes.now) (sym (by_three c.args.bytes.now ∙ of_control _ _ _ (omega arith) (omega arith) (omega arith) (omega arith)))

pub returns-then-first-gt-LAST_OF_ONE : goal.returns-then-first-gt-LAST_OF_ONE
returns-then-first-gt-LAST_OF_ONE c = c.wide.ensures ∙ rw (c.byte_at.ensures, c.byte_at-then-first-gt-LAST_OF_ONE.ensures) (three_counted c.args.bytes.now)
