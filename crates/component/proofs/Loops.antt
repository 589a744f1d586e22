-- Loops over numbers, each of which makes rows: the turn i of one has those from i on left.
use mathlib.Core.Path.{◌≡◌, refl, ◌∙◌}
use mathlib.Core.Bool.{Bool}
use mathlib.Core.List.{List, [], ◌++◌}
use Prim.Native.Nat.{ℕ, ◌+◌, ◌≤◌, ◌<◌}
use lib.ListN.{length, get_or, drop}
use Rattle.definition.specs.Lists.{flat_map, firsts}
use Rattle.definition.specs.Catalogue.{Row}
use Rattle.from_ast_index.proofs.Lists.{drop_next, drop_end}
use Rattle.component.specs.declared.Rows.{Rows}
use Rattle.component.specs.Pushed.{HasRoom, Becomes, filled_of, pushed, alike_rows, extend_sticky}
use Rattle.component.proofs.Pushing.{Rest, rest_begin, rest_capacity, rest_next, rest_fits, Left, left_begin, left_capacity, left_next, left_end}
use Rattle.component.proofs.Sticky.{Growing, grow_fresh, grow_fits, grow_capacity, grow_next, Extending, extending, extending_capacity, extending_next, extending_end}

-- ---- A list is extended by them.

module _ (same : ℕ → ℕ → Bool) (start : ℕ) (f : ℕ → List Row) (xs : List ℕ) (before : Rows) where
  pub record Extends (now : Rows) (i : ℕ) : Type 0 where
    pub same_slice : now.words.ghost_name ≡ before.words.ghost_name
    pub left : Extending same start f (drop i xs) (filled_of now) (extend_sticky same start (flat_map f xs) (filled_of before))

  pub extends_first : start ≤ before.used → HasRoom before (extend_sticky same start (flat_map f xs)) → Extends before 0
  extends_first b r = record { same_slice = refl; left = extending same start f (filled_of before) _ xs refl r b }

  module _ (now : Rows) (i : ℕ) (turn : Extends now i) where
    pub extends_fits : i < length xs → HasRoom now (extend_sticky same start (f (get_or xs i 0)))
    extends_fits h = extending_capacity same start f (filled_of now) _ (drop i xs) turn.left (get_or xs i 0) _ (drop_next xs i h)

    pub extends_next : i < length xs → (after : Rows) → Becomes now after (extend_sticky same start (f (get_or xs i 0))) → Extends after (i + 1)
    extends_next h after b = record {
      same_slice = b.same_slice ∙ turn.same_slice;
      left = extending_next same start f (filled_of now) _ (drop i xs) turn.left (get_or xs i 0) _ (drop_next xs i h) (filled_of after) b.rows_are;
    }

    -- A number that makes no rows changes nothing.
    pub extends_past : i < length xs → filled_of now ≡ extend_sticky same start (f (get_or xs i 0)) (filled_of now) → Extends now (i + 1)
    extends_past h e = extends_next h now (record { same_slice = refl; rows_are = e })

    pub extends_last : length xs ≤ i → Becomes before now (extend_sticky same start (flat_map f xs))
    extends_last h = record {
      same_slice = turn.same_slice;
      rows_are = extending_end same start f (filled_of now) _ (drop i xs) turn.left (drop_end xs i h);
    }

-- ---- They are pushed.

module _ (f : ℕ → List Row) (xs : List ℕ) (before : Rows) where
  pub record Pushes (now : Rows) (i : ℕ) : Type 0 where
    pub same_slice : now.words.ghost_name ≡ before.words.ghost_name
    pub left : Left f (drop i xs) (filled_of now) (pushed (flat_map f xs) (filled_of before))

  pub pushes_first : HasRoom before (pushed (flat_map f xs)) → Pushes before 0
  pushes_first r = record { same_slice = refl; left = left_begin f (filled_of before) _ xs refl r }

  module _ (now : Rows) (i : ℕ) (turn : Pushes now i) where
    pub pushes_fits : i < length xs → HasRoom now (pushed (f (get_or xs i 0)))
    pushes_fits h = left_capacity f (filled_of now) _ (drop i xs) turn.left (get_or xs i 0) _ (drop_next xs i h)

    pub pushes_next : i < length xs → (after : Rows) → Becomes now after (pushed (f (get_or xs i 0))) → Pushes after (i + 1)
    pushes_next h after b = record {
      same_slice = b.same_slice ∙ turn.same_slice;
      left = left_next f (filled_of now) _ (drop i xs) turn.left (get_or xs i 0) _ (drop_next xs i h) (filled_of after) b.rows_are;
    }

    pub pushes_last : length xs ≤ i → Becomes before now (pushed (flat_map f xs))
    pushes_last h = record {
      same_slice = turn.same_slice;
      rows_are = left_end f (filled_of now) _ (drop i xs) turn.left (drop_end xs i h);
    }

-- ---- A new list is extended by two runs of rows, one after the other.

module _ (same : ℕ → ℕ → Bool) (before : Rows) (left rs qs : List Row) (cut : left ≡ rs ++ qs)
    (room : HasRoom before (pushed (firsts (alike_rows same) [] left))) where
  whole : Growing same before.used left (filled_of before) (pushed (firsts (alike_rows same) [] left) (filled_of before))
  whole = grow_fresh same before.used left (filled_of before) refl room

  pub two_first : HasRoom before (extend_sticky same before.used rs)
  two_first = grow_capacity same before.used left (filled_of before) _ whole rs qs cut

  module _ (mid : Rows) (first : Becomes before mid (extend_sticky same before.used rs)) where
    rest : Growing same before.used qs (filled_of mid) (pushed (firsts (alike_rows same) [] left) (filled_of before))
    rest = grow_next same before.used left (filled_of before) _ whole rs qs cut (filled_of mid) first.rows_are

    pub two_begun : before.used ≤ mid.used
    two_begun = rest.begun

    pub two_second : HasRoom mid (extend_sticky same before.used qs)
    two_second = grow_fits same before.used qs (filled_of mid) _ rest

    pub two_both : (after : Rows) → Becomes mid after (extend_sticky same before.used qs) → Becomes before after (pushed (firsts (alike_rows same) [] left))
    two_both after b = record { same_slice = b.same_slice ∙ first.same_slice; rows_are = b.rows_are ∙ rest.whole }

-- ---- Two runs of rows are pushed, one after the other.

module _ (before : Rows) (left rs qs : List Row) (cut : left ≡ rs ++ qs) (room : HasRoom before (pushed left)) where
  pub run_first : HasRoom before (pushed rs)
  run_first = rest_capacity left (filled_of before) _ (rest_begin left (filled_of before) _ refl room) rs qs cut

  module _ (mid : Rows) (first : Becomes before mid (pushed rs)) where
    left_over : Rest qs (filled_of mid) (pushed left (filled_of before))
    left_over = rest_next left (filled_of before) _ (rest_begin left (filled_of before) _ refl room) rs qs cut (filled_of mid) first.rows_are

    pub run_second : HasRoom mid (pushed qs)
    run_second = rest_fits qs (filled_of mid) _ left_over

    pub run_both : (after : Rows) → Becomes mid after (pushed qs) → Becomes before after (pushed left)
    run_both after b = record { same_slice = b.same_slice ∙ first.same_slice; rows_are = b.rows_are ∙ left_over.whole }
