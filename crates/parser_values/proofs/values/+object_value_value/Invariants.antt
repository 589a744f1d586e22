use Prim.Native.Nat.{◌+◌, ◌-◌, ◌*◌}
use lib.ListN.{length}
use Rattle.definition.specs.Grammar.{Value*, ObjectField*}
use Rattle.parser_values.proofs.Readers.{Mid, any_of}
use Rattle.parser_values.proofs.values.+object_value_value.Given as goal

-- The depth falls; and at one depth a value may be an object.
abbrev pub decreases-object_value : goal.decreases-object_value
decreases-object_value l = 2 * l.depth.levels

abbrev pub decreases-value : goal.decreases-value
decreases-value l = 2 * l.depth.levels + 1

abbrev pub invariant-object_value-loop-inner : goal.invariant-object_value-loop-inner
invariant-object_value-loop-inner l = Mid (any_of ObjectField* 13) l.initial.k.text.now l.initial.k (32 - l.inner.levels) (any_of ObjectField* 13) l.k

abbrev pub decreases-object_value-loop-inner : goal.decreases-object_value-loop-inner
decreases-object_value-loop-inner l = length l.initial.k.text.now - l.k.last

abbrev pub invariant-value-loop-inner : goal.invariant-value-loop-inner
invariant-value-loop-inner l = Mid (any_of Value* 10) l.initial.k.text.now l.initial.k (32 - l.inner.levels) (any_of Value* 10) l.k

abbrev pub decreases-value-loop-inner : goal.decreases-value-loop-inner
decreases-value-loop-inner l = length l.initial.k.text.now - l.k.last
