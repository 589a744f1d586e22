use borrow.Author.Rules.{rules}
use mathlib.Core.Path.{◌≡◌, ◌∙◌, refl, ap}
use Rattle.from_ast_collisions.specs.declared.pushing.Errors.{Errors}
use Rattle.from_ast_collisions.proofs.Push.{pushed_reference}
use Rattle.from_ast_errors.proofs.Written.{total_least, errors_written}
use Rattle.from_ast_errors.proofs.write_errors.Goals as goal

pub overflow_sub-result : goal.overflow_sub-result
overflow_sub-result c =
    total_least _ _ _ _ c.requires _ refl _ (rw c.new-errors.ensures at c.push_errors-reading.ensures.pushed) _
    (rw c.new-errors.ensures at c.push_errors-reading.ensures.reading)

pub returns : goal.returns
returns c =
    let same : c.push_errors-reading.new.errors.words.ghost_name ≡ c.new-errors.result.words.ghost_name =
    ap (λ (l : Errors). l.words.ghost_name) c.push_errors-reading.ensures.pushed ∙ pushed_reference _ _ in
    errors_written _ _ _ _ c.requires _ refl _ (rw c.new-errors.ensures at c.push_errors-reading.ensures.pushed) _
    (rw c.new-errors.ensures at c.push_errors-reading.ensures.reading) _ (search rules)
