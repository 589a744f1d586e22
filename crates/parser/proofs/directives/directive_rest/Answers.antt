use mathlib.Core.Path.{refl}
use mathlib.Core.List.{◌∷◌}
use native.Mathlib.Omega.{arith}
use Rattle.definition.specs.Lists.{here, there}
use Rattle.definition.specs.Grammar.{part, rule, Repeatable?}
use Rattle.definition.specs.Grammar.{on as on_word}
use Rattle.definition.specs.GrammarSets.{first}
use Rattle.parser_values.proofs.Readers.{handed, may, may_in, flat, at_start, optional, on, ends, fails}
use Rattle.parser.specs.Symbols.{locations, directive_rest}
use Rattle.parser.proofs.directives.directive_rest.Goals as goal

pub returns-in_err-k : goal.returns-in_err-k
returns-in_err-k c =
    rw (handed _ _ c.from_residual.ensures) (fails (part Repeatable? ∷ on_word ∷ locations) (at_start directive_rest refl) c.in_err-k.ensures)

pub returns-in_err-e : goal.returns-in_err-e
unfolding rule first
returns-in_err-e c =
    let begun = on (part Repeatable? ∷ on_word ∷ locations) (at_start directive_rest refl) c.in_ok-k.ensures in
    let repeated = on (on_word ∷ locations) begun (optional 0 Repeatable? (omega arith) (here, there here, refl) c.take_optional-j.ensures) in
    rw (handed _ _ c.from_residual-in_err-e.ensures) (fails locations repeated (may (flat 0 (omega arith) c.in_err-e.ensures)))

pub returns : goal.returns
unfolding rule first
returns c =
    let begun = on (part Repeatable? ∷ on_word ∷ locations) (at_start directive_rest refl) c.in_ok-k.ensures in
    let repeated = on (on_word ∷ locations) begun (optional 0 Repeatable? (omega arith) (here, there here, refl) c.take_optional-j.ensures) in
    let all = on locations repeated (may (flat 0 (omega arith) c.in_ok-e.ensures)) in
    ends all (may_in all.1 c.directive_locations.ensures)
