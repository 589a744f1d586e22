use mathlib.Core.Path.{sym, ◌∙◌}
use mathlib.Core.List.{[], ◌∷◌}
use native.Mathlib.Omega.{arith}
use Rattle.definition.specs.Lexical.{character}
use Rattle.parser_lexer.proofs.CharacterLaws.{same_count, of_none, of_two, of_three, of_more}
use Rattle.parser_lexer.proofs.characters.wide.Goals as goal

pub returns-in-194-to-223 : goal.returns-in-194-to-223
returns-in-194-to-223 c =
    let a = c.args in
    same_count 2 (character (a.b ∷ a.c ∷ a.d ∷ [])) (sym (of_two _ _ _ c.requires (omega arith) (omega arith) ∙ simp (sym c.continues.ensures ∙ c.if-continues.true)))

pub returns-in-224-to-239 : goal.returns-in-224-to-239
returns-in-224-to-239 c =
    let a = c.args in
    same_count 3 (character (a.b ∷ a.c ∷ a.d ∷ [])) (sym (of_three _ _ _ c.requires (omega arith) (omega arith) ∙
    simp (sym c.is_second.ensures ∙ c.if-is_second.true, sym c.continues-then-is_second.ensures ∙ c.if-continues-2.true)))

pub returns-in_default : goal.returns-in_default
returns-in_default c =
    let a = c.args in
    same_count 0 (character (a.b ∷ a.c ∷ a.d ∷ [])) (sym (of_none _ _ _ c.requires (omega arith)))

pub returns-in_default-2 : goal.returns-in_default-2
returns-in_default-2 c =
    let a = c.args in
    same_count 0 (character (a.b ∷ a.c ∷ a.d ∷ [])) (sym (of_two _ _ _ c.requires (omega arith) (omega arith) ∙ simp (sym c.continues.ensures ∙ c.if-continues.false)))

pub returns-in_default-3 : goal.returns-in_default-3
returns-in_default-3 c =
    let a = c.args in
    same_count 0 (character (a.b ∷ a.c ∷ a.d ∷ [])) (sym (of_three _ _ _ c.requires (omega arith) (omega arith) ∙
    simp (sym c.is_second.ensures ∙ c.if-is_second.true, sym c.continues-then-is_second.ensures ∙ c.if-continues-2.false)))

pub returns-in_default-4 : goal.returns-in_default-4
returns-in_default-4 c =
    let a = c.args in
    same_count 0 (character (a.b ∷ a.c ∷ a.d ∷ [])) (sym (of_three _ _ _ c.requires (omega arith) (omega arith) ∙ simp (sym c.is_second.ensures ∙ c.if-is_second.false)))

pub returns-in_default-5 : goal.returns-in_default-5
returns-in_default-5 c =
    let a = c.args in
    same_count 0 (character (a.b ∷ a.c ∷ a.d ∷ [])) (sym (of_more _ _ _ c.requires (omega arith)))
