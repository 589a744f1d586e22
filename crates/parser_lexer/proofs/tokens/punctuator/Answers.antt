use native.Mathlib.Omega.{arith}
use borrow.Author.Tests.{ne_eqb}
use Rattle.definition.specs.Lexical.{punctuators}
use Rattle.definition.specs.Lexical as lexical
use Rattle.parser_lexer.proofs.tokens.punctuator.Goals as goal

pub returns-in-58 : goal.returns-in-58
unfolding lexical.punctuator punctuators
returns-in-58 c = rw c.in-58.is

pub returns-in-33 : goal.returns-in-33
unfolding lexical.punctuator punctuators
returns-in-33 c = rw c.in-33.is

pub returns-in-123 : goal.returns-in-123
unfolding lexical.punctuator punctuators
returns-in-123 c = rw c.in-123.is

pub returns-in-125 : goal.returns-in-125
unfolding lexical.punctuator punctuators
returns-in-125 c = rw c.in-125.is

pub returns-in-40 : goal.returns-in-40
unfolding lexical.punctuator punctuators
returns-in-40 c = rw c.in-40.is

pub returns-in-41 : goal.returns-in-41
unfolding lexical.punctuator punctuators
returns-in-41 c = rw c.in-41.is

pub returns-in-91 : goal.returns-in-91
unfolding lexical.punctuator punctuators
returns-in-91 c = rw c.in-91.is

pub returns-in-93 : goal.returns-in-93
unfolding lexical.punctuator punctuators
returns-in-93 c = rw c.in-93.is

pub returns-in-64 : goal.returns-in-64
unfolding lexical.punctuator punctuators
returns-in-64 c = rw c.in-64.is

pub returns-in-61 : goal.returns-in-61
unfolding lexical.punctuator punctuators
returns-in-61 c = rw c.in-61.is

pub returns-in-124 : goal.returns-in-124
unfolding lexical.punctuator punctuators
returns-in-124 c = rw c.in-124.is

pub returns-in-38 : goal.returns-in-38
unfolding lexical.punctuator punctuators
returns-in-38 c = rw c.in-38.is

pub returns-in-36 : goal.returns-in-36
unfolding lexical.punctuator punctuators
returns-in-36 c = rw c.in-36.is

pub returns-in_default : goal.returns-in_default
unfolding lexical.punctuator punctuators
returns-in_default c =
    rw (
      ne_eqb c.args.byte 33 (omega arith),
      ne_eqb c.args.byte 36 (omega arith),
      ne_eqb c.args.byte 38 (omega arith),
      ne_eqb c.args.byte 40 (omega arith),
      ne_eqb c.args.byte 41 (omega arith),
      ne_eqb c.args.byte 58 (omega arith),
      ne_eqb c.args.byte 61 (omega arith),
      ne_eqb c.args.byte 64 (omega arith),
      ne_eqb c.args.byte 91 (omega arith),
      ne_eqb c.args.byte 93 (omega arith),
      ne_eqb c.args.byte 123 (omega arith),
      ne_eqb c.args.byte 124 (omega arith),
      ne_eqb c.args.byte 125 (omega arith),
    )
