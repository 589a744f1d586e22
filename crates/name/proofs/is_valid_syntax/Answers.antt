use mathlib.Core.Path.{◌≡◌, sym, ◌∙◌}
use Rattle.std.specs.List.{list_all}
use borrow.Author.Rules.{rules}
use borrow.Author.Tests.{tests}
use Rattle.std.proofs.lemmas.Iterator.{YieldsList-from_slice}
use Rattle.std.proofs.lemmas.Iterator.Search.{all_from_yields_List}
use Rattle.definition.specs.Names.{is_name_byte}
use Rattle.name.proofs.Laws.{name_good, name_bad}
use Rattle.name.proofs.is_valid_syntax.Goals as goal

pub returns-then-is_name_start : goal.returns-then-is_name_start
returns-then-is_name_start c =
    let all : c.all.result ≡ list_all is_name_byte c.in-Some.rest.now = all_from_yields_List is_name_byte _ _ _ c.all.ensures.ran (YieldsList-from_slice c.in-Some.rest.now c.iter.ensures.rest) (λ x b q k. search (rules, tests)) in
    all ∙ sym (name_good _ _ _ c.in-Some.ensures.cases.0 (sym c.is_name_start.ensures ∙ c.if-is_name_start.true))

pub returns-else-is_name_start : goal.returns-else-is_name_start
returns-else-is_name_start c =
    c.if-is_name_start.false ∙ sym (name_bad _ _ _ c.in-Some.ensures.cases.0 (sym c.is_name_start.ensures ∙ c.if-is_name_start.false))
