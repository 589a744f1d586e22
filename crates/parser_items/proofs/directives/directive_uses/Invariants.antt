use mathlib.Core.List.{List, [], ◌∷◌}
use Prim.Native.Nat.{◌-◌}
use lib.ListN.{length}
use Rattle.definition.specs.Grammar.{Symbol, part, DirectiveUse*}
use Rattle.parser_items.proofs.Items.{InList}
use Rattle.parser_items.proofs.directives.directive_uses.Given as goal

abbrev uses : List Symbol
uses = part DirectiveUse* ∷ []

abbrev pub invariant-loop-k : goal.invariant-loop-k
invariant-loop-k l = InList uses l.initial.k.text.now l.initial.k l.initial.cards uses l.k l.cards

abbrev pub decreases-loop-k : goal.decreases-loop-k
decreases-loop-k l = length l.initial.k.text.now - l.k.last
