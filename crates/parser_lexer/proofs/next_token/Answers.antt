use native.Mathlib.Nat.{add-zero}
use native.Mathlib.Omega.{arith}
use mathlib.Core.Path.{refl, sym, ap, ◌∙◌}
use mathlib.Core.Logic.{inl, inr}
use lib.ListN.{drop}
use lib.Seq.{get_or-drop}
use Rattle.std.proofs.lemmas.List.{take_rest}
use Rattle.parser_lexer.specs.Lexemes.{told}
use Rattle.parser_lexer.specs.Sorts.{sort_number}
use Rattle.parser_lexer.proofs.SizeLaws.{ignored_sizes, token_sizes}
use Rattle.parser_lexer.proofs.LexemeLaws.{of_blank}
use Rattle.parser_lexer.proofs.AheadLaws.{ignored_on, token_ahead, unreadable_ahead, end_ahead}
use Rattle.parser_lexer.proofs.next_token.Goals as goal
use Rattle.parser_lexer.proofs.next_token.Goals.{then-text-i, else-text-i+else-text-i-eq-SPACE+in-Token, else-text-i+else-text-i-eq-SPACE+in-Unreadable}

pub loop-i-preserved-then-text-i-eq-SPACE : goal.loop-i-preserved-then-text-i-eq-SPACE
loop-i-preserved-then-text-i-eq-SPACE c = (
  omega arith,
  omega arith,
  ignored_on c.args.text.now c.args.at c.loop-i.i c.loop-i.invariant.2 1 (omega arith)
      (of_blank (drop c.loop-i.i c.args.text.now) (inr (inr (inl (simp (get_or-drop, add-zero) c.if-text-i-eq-SPACE.true))))),
)

pub overflow_add-i-in-Ignored : goal.overflow_add-i-in-Ignored
overflow_add-i-in-Ignored c =
    let e = sym (rw (take_rest c.args.text.now c.loop-i.i) at c.lexeme.ensures) ∙ ap told c.in-Ignored.is in
    let z = ignored_sizes c.args.text.now c.loop-i.i (omega arith) c.in-Ignored.size e in
    omega (arith, z.1)

pub loop-i-smaller : goal.loop-i-smaller
loop-i-smaller c =
    let e = sym (rw (take_rest c.args.text.now c.loop-i.i) at c.lexeme.ensures) ∙ ap told c.in-Ignored.is in
    let z = ignored_sizes c.args.text.now c.loop-i.i (omega arith) c.in-Ignored.size e in
    omega (arith, z.0, z.1)

pub loop-i-preserved : goal.loop-i-preserved
loop-i-preserved c =
    let e = sym (rw (take_rest c.args.text.now c.loop-i.i) at c.lexeme.ensures) ∙ ap told c.in-Ignored.is in
    let z = ignored_sizes c.args.text.now c.loop-i.i (omega arith) c.in-Ignored.size e in (
      omega arith,
      omega (arith, z.1),
      ignored_on c.args.text.now c.args.at c.loop-i.i c.loop-i.invariant.2 c.in-Ignored.size (omega arith) e,
    )

pub overflow_add-result : goal.overflow_add-result
overflow_add-result c =
    elim c.if-text-i.branch [
      | then-text-i w ↦ rw w.sort-is (omega arith)
      | else-text-i+else-text-i-eq-SPACE+in-Token w ↦
          let e = sym (rw (take_rest c.args.text.now c.loop-i.i) at w.lexeme.ensures) ∙ ap told w.in-Token.is in
          let z = token_sizes c.args.text.now c.loop-i.i (omega arith) (sort_number w.in-Token.sort) w.in-Token.size e in
          rw w.sort-is (omega (arith, z.1))
      | else-text-i+else-text-i-eq-SPACE+in-Unreadable w ↦ rw w.sort-is (omega arith)
    ]

pub invariant_of-result : goal.invariant_of-result
invariant_of-result c =
    elim c.if-text-i.branch [
      | then-text-i w ↦ rw w.sort-is (record { lies = (c.loop-i.invariant.0, omega arith, omega arith, c.requires.1, λ h. omega arith) })
      | else-text-i+else-text-i-eq-SPACE+in-Token w ↦
          let e = sym (rw (take_rest c.args.text.now c.loop-i.i) at w.lexeme.ensures) ∙ ap told w.in-Token.is in
          let z = token_sizes c.args.text.now c.loop-i.i (omega arith) (sort_number w.in-Token.sort) w.in-Token.size e in
          rw w.sort-is (record { lies = (c.loop-i.invariant.0, omega arith, omega (arith, z.1), c.requires.1, λ h. omega (arith, z.0)) })
      | else-text-i+else-text-i-eq-SPACE+in-Unreadable w ↦
          rw w.sort-is (record { lies = (c.loop-i.invariant.0, omega arith, omega arith, c.requires.1, λ h. omega arith) })
    ]

pub returns : goal.returns
returns c =
    let l = c.loop-i in
    elim c.if-text-i.branch [
      | then-text-i w ↦ rw w.sort-is (end_ahead c.args.text.now c.args.at l.i l.invariant.2 w.if-text-i.true, refl, refl, refl)
      | else-text-i+else-text-i-eq-SPACE+in-Token w ↦
          let e = sym (rw (take_rest c.args.text.now c.loop-i.i) at w.lexeme.ensures) ∙ ap told w.in-Token.is in
          let z = token_ahead c.args.text.now c.args.at l.i l.invariant.2 (sort_number w.in-Token.sort) w.in-Token.size w.if-text-i.false e in
          rw w.sort-is (z, refl, refl, refl)
      | else-text-i+else-text-i-eq-SPACE+in-Unreadable w ↦
          let e = sym (rw (take_rest c.args.text.now c.loop-i.i) at w.lexeme.ensures) ∙ ap told w.in-Unreadable.is in
          rw w.sort-is (unreadable_ahead c.args.text.now c.args.at l.i l.invariant.2 w.if-text-i.false e, refl, refl, refl)
    ]
