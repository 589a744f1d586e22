use borrow.Author.Rules.{rules}
use mathlib.Core.Path.{sym, ap, ◌∙◌}
use Prim.Native.Nat.{ℕ, ◌+◌}
use native.Mathlib.Omega.{arith}
use lib.ListN.{drop, length-drop}
use lib.Seq.{length-take-le}
use Rattle.std.proofs.lemmas.List.{take_rest}
use Rattle.definition.specs.Names.{is_name_byte}
use Rattle.definition.specs.Lexical.{named, ignored}
use Rattle.parser_laws.proofs.Gluing.{run_size, comment_size}
use Rattle.parser_lexer.proofs.LexemeLaws.{of_name, of_tab, of_blank, of_quote, of_hash, of_dots, of_mark, of_minus, of_digit, no_dots, no_mark}
use Rattle.parser_lexer.proofs.LexemeLaws.{of_low, of_high}
use Rattle.parser_lexer.proofs.tokens.lexeme.Goals as goal
use Rattle.parser_lexer.proofs.tokens.lexeme.Goals.{in_default-via-in-46+else-is_followed, in_default-via-in-239+else-is_followed-2}
use Rattle.parser_lexer.proofs.tokens.lexeme.Goals.{in-45-1, in_default+else-byte-lt48+then-byte-lt58}
use Rattle.parser_lexer.proofs.tokens.lexeme.Goals.{in_default-via-in_default+then-byte-lt48, in_default-via-in_default+else-byte-lt48+else-byte-lt58}

pub returns-then-begins : goal.returns-then-begins
unfolding named
returns-then-begins c =
    sym (of_name c.args.bytes.now (sym c.begins.ensures ∙ c.if-begins.true) ∙
    rw (← c.name_size-size.ensures, ← c.word_sort.ensures))

pub returns-in-34 : goal.returns-in-34
returns-in-34 c = c.string.ensures ∙ sym (of_quote c.args.bytes.now c.in-34.is)

pub overflow_add-result : goal.overflow_add-result
overflow_add-result c =
    let bs = c.args.bytes.now in
    let e = rw (take_rest bs 1) at c.comment.ensures in
    omega (arith, e, comment_size 0 (drop 1 bs), length-drop 1 bs)

pub returns-in-35 : goal.returns-in-35
returns-in-35 c = ap (λ (n : ℕ). ignored (1 + n)) (rw (take_rest c.args.bytes.now 1) at c.comment.ensures) ∙ sym (of_hash c.args.bytes.now c.in-35.is)

pub returns-in-46 : goal.returns-in-46
returns-in-46 c = sym (of_dots c.args.bytes.now c.in-46.is (sym c.is_followed.ensures ∙ c.if-is_followed.true))

pub slice_bounds-word_sort-end : goal.slice_bounds-word_sort-end
slice_bounds-word_sort-end c =
    let bs = c.args.bytes.now in
    sym (length-take-le c.name_size-size.result bs (omega (arith, c.name_size-size.ensures, run_size is_name_byte bs)))

pub returns-in-45 : goal.returns-in-45
returns-in-45 c =
    elim c.in-45-1.branch [
      | in-45-1 w ↦ c.number.ensures ∙ sym (of_minus c.args.bytes.now (omega arith))
      | in_default+else-byte-lt48+then-byte-lt58 w ↦ c.number.ensures ∙ sym (of_digit c.args.bytes.now (omega arith) (omega arith))
    ]

pub returns-in-239 : goal.returns-in-239
returns-in-239 c = sym (of_mark c.args.bytes.now c.in-239.is (sym c.if-is_followed-2.ensures))

pub returns-in-32 : goal.returns-in-32
returns-in-32 c = sym (of_blank c.args.bytes.now c.in-32.is)

pub returns-in-9 : goal.returns-in-9
returns-in-9 c = sym (of_tab c.args.bytes.now c.in-9.is)

pub returns-in_default : goal.returns-in_default
returns-in_default c =
    elim c.in_default.branch [
      | in_default-via-in-46+else-is_followed w ↦
          c.punctuator.ensures ∙ sym (no_dots c.args.bytes.now w.in-46.is (sym w.is_followed.ensures ∙ w.if-is_followed.false))
      | in_default-via-in-239+else-is_followed-2 w ↦
          c.punctuator.ensures ∙ sym (no_mark c.args.bytes.now w.in-239.is (sym w.if-is_followed-2.ensures))
      | in_default-via-in_default+then-byte-lt48 w ↦
          c.punctuator.ensures ∙ sym (of_low c.args.bytes.now (sym c.begins.ensures ∙ c.if-begins.false) (omega arith) (search rules) (search rules) (search rules)
          (search rules) (search rules) (search rules))
      | in_default-via-in_default+else-byte-lt48+else-byte-lt58 w ↦
          c.punctuator.ensures ∙ sym (of_high c.args.bytes.now (sym c.begins.ensures ∙ c.if-begins.false) (omega arith) (search rules))
    ]
