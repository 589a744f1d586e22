use Prim.Native.Nat.{◌-◌}
use mathlib.Core.Path.{◌≡◌}
use Rattle.definition.specs.Store.{cards_used_of}
use Rattle.from_ast_indexing.proofs.Headings.{HeadingsSoFar}
use Rattle.from_ast_indexing.proofs.index_headings.Given as goal

-- The list so far, then the headings from `card` on, are all headings; and `card` is a heading or the end.
abbrev pub invariant-loop-card : goal.invariant-loop-card
invariant-loop-card l = HeadingsSoFar l.words l.list l.card × (l.used ≡ cards_used_of l.words)

abbrev pub decreases-loop-card : goal.decreases-loop-card
decreases-loop-card l = l.used - l.card
