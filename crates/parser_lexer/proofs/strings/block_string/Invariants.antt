use lib.ListN.{length}
use Rattle.definition.specs.Lexical.{block}
use Rattle.parser_lexer.proofs.StringLaws.{read_to}
use Rattle.parser_lexer.proofs.strings.block_string.Given as goal

abbrev pub invariant-loop-rest : goal.invariant-loop-rest
invariant-loop-rest l = read_to (block 0) 3 l.bytes l.rest

abbrev pub decreases-loop-rest : goal.decreases-loop-rest
decreases-loop-rest l = length l.rest
