use native.Mathlib.Omega.{arith}
use lib.ListN.{length-drop}
use Rattle.std.proofs.lemmas.List.{take_rest}
use Rattle.std.specs.Prelude.{Some}
use Rattle.parser_lexer.specs.Comments.{CommentPart}
use Rattle.parser_lexer.proofs.CommentLaws.{comment_ends}
use Rattle.parser_lexer.proofs.ignored.comment.Goals as goal
use Rattle.parser_lexer.proofs.ignored.comment.Goals.{in_default, in-len1-up+in_default-taken}

pub loop-rest-preserved : goal.loop-rest-preserved
loop-rest-preserved c =
    let rest = c.loop-rest.rest.now in
    let n = c.in-Some.size in
    let g : CommentPart rest (Some n) = rw c.in-Some.is at c.taken.ensures in
    rw (take_rest rest n) (omega (arith, length-drop n rest), omega (arith, g, length-drop n rest))

pub returns : goal.returns
returns c =
    elim c.if-rest-lt1.branch [
      | in_default w ↦ omega (arith, comment_ends c.loop-rest.rest.now (omega arith))
      | in-len1-up+in_default-taken w ↦ let z = w.in_default-taken.ensures in omega (arith, z)
    ]
