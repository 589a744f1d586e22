-- "The first of a name stays": pushes that keep to it, and walks that make them.
use mathlib.Core.Path.{◌≡◌, sym, ap, ◌∙◌}
use mathlib.Core.Bool.{Bool, true, false}
use mathlib.Core.List.{List, [], ◌∷◌, ◌++◌}
use Prim.Native.Nat.{ℕ, ◌+◌, ◌*◌, ◌≤◌}
use native.Mathlib.Omega.{arith}
use lib.ListN.{length, length-append}
use Rattle.definition.specs.Lists.{any, flat_map, firsts}
use Rattle.definition.specs.Catalogue.{Row}
use Rattle.definition.proofs.Lists.{flat_map_nil, flat_map_cons, firsts_nil, firsts_old, firsts_new, firsts_append}
use Rattle.component.specs.Pushed.{Filled, Fits, pushed, used_from, alike_rows, extend_sticky}
use Rattle.component.proofs.Pushing.{pushed_none, pushed_append, length_pushed, used_none, used_pushed}

module _ (same : ℕ → ℕ → Bool) (start : ℕ) where
  pub extended_none : (s : Filled) → extend_sticky same start [] s ≡ s
  unfolding extend_sticky firsts
  extended_none s = pushed_none s

  -- a list that begins here
  pub extended_fresh : (rs : List Row) (s : Filled) → s.used ≡ start → extend_sticky same start rs s ≡ pushed (firsts (alike_rows same) [] rs) s
  unfolding extend_sticky
  extended_fresh rs s e = rw (used_none start s e)

  pub extended_least : (rs : List Row) (s : Filled) → s.used ≤ (extend_sticky same start rs s).used
  unfolding extend_sticky pushed
  extended_least rs s = omega arith

  pub length_extended : (rs : List Row) (s : Filled) → 3 * (extend_sticky same start rs s).used ≤ length s.rows →
      length (extend_sticky same start rs s).rows ≡ length s.rows
  unfolding extend_sticky pushed
  length_extended rs s h = length_pushed s (firsts (alike_rows same) (used_from start s) rs) h

  pub extended_append : (rs qs : List Row) (s : Filled) → start ≤ s.used → 3 * (extend_sticky same start rs s).used ≤ length s.rows
      → extend_sticky same start qs (extend_sticky same start rs s) ≡ extend_sticky same start (rs ++ qs) s
  unfolding extend_sticky pushed
  extended_append rs qs s h capacity =
      let new = firsts (alike_rows same) (used_from start s) rs in
      ap (λ (l : List Row). pushed (firsts (alike_rows same) l qs) (pushed new s)) (used_pushed start new s h capacity)
      ∙ pushed_append s new (firsts (alike_rows same) (used_from start s ++ new) qs) capacity
      ∙ ap (λ (l : List Row). pushed l s) (sym (firsts_append (alike_rows same) (used_from start s) rs qs))

  -- one row
  module _ (r : Row) (s : Filled) where
    pub extended_old : any (alike_rows same r) (used_from start s) ≡ true → extend_sticky same start (r ∷ []) s ≡ s
    unfolding extend_sticky
    extended_old e = rw (firsts_old (alike_rows same) (used_from start s) r [] e, firsts_nil (alike_rows same) (used_from start s)) (pushed_none s)

    pub extended_new : any (alike_rows same r) (used_from start s) ≡ false → extend_sticky same start (r ∷ []) s ≡ pushed (r ∷ []) s
    unfolding extend_sticky
    extended_new e = rw (firsts_new (alike_rows same) (used_from start s) r [] e, firsts_nil (alike_rows same) (used_from start s ++ (r ∷ [])))

    pub capacity_least : (n : ℕ) → 3 * (extend_sticky same start (r ∷ []) s).used ≤ n → 3 * s.used ≤ n
    capacity_least n h = let l = extended_least (r ∷ []) s in omega arith

    pub capacity_new : (n : ℕ) → any (alike_rows same r) (used_from start s) ≡ false → 3 * (extend_sticky same start (r ∷ []) s).used ≤ n → 3 * (s.used + 1) ≤ n
    unfolding pushed
    capacity_new n e h = let u : (extend_sticky same start (r ∷ []) s).used ≡ s.used + 1 = ap (λ (t : Filled). t.used) (extended_new e) in omega arith

  -- ---- A walk: the rows `left` are left to extend by; `goal` is what the whole walk comes to.

  pub record Growing (left : List Row) (s goal : Filled) : Type 0 where
    pub whole : extend_sticky same start left s ≡ goal
    pub capacity : Fits s.rows goal
    pub begun : start ≤ s.used

  -- a list that begins here
  pub grow_fresh : (left : List Row) (s : Filled) → s.used ≡ start → Fits s.rows (pushed (firsts (alike_rows same) [] left) s) →
      Growing left s (pushed (firsts (alike_rows same) [] left) s)
  grow_fresh left s e f = record { whole = extended_fresh left s e; capacity = f; begun = omega arith }

  module _ (left : List Row) (s goal : Filled) where
    pub grow_begin : extend_sticky same start left s ≡ goal → Fits s.rows goal → start ≤ s.used → Growing left s goal
    grow_begin w r b = record { whole = w; capacity = r; begun = b }

    pub grow_as : (rs : List Row) → left ≡ rs → Growing left s goal → Growing rs s goal
    grow_as rs e w = record {
      whole = ap (λ (l : List Row). extend_sticky same start l s) (sym e) ∙ w.whole;
      capacity = w.capacity;
      begun = w.begun;
    }

    module _ (w : Growing left s goal) where
      pub grow_end : left ≡ [] → s ≡ goal
      grow_end e = sym (extended_none s) ∙ ap (λ (l : List Row). extend_sticky same start l s) (sym e) ∙ w.whole

      -- all that is left at once
      pub grow_fits : Fits s.rows (extend_sticky same start left s)
      grow_fits = let u = ap (λ (t : Filled). t.used) w.whole in let r = w.capacity in omega arith

      -- one list, and then the others
      module _ (rs qs : List Row) (cut : left ≡ rs ++ qs) where
        pub grow_capacity : Fits s.rows (extend_sticky same start rs s)
        unfolding extend_sticky pushed
        grow_capacity =
            let seen = used_from start s in
            let new = firsts (alike_rows same) seen rs in
            let n = ap length (firsts_append (alike_rows same) seen rs qs) ∙ length-append new (firsts (alike_rows same) (seen ++ new) qs) in
            let u = ap (λ (l : List Row). (extend_sticky same start l s).used) (sym cut) ∙ ap (λ (t : Filled). t.used) w.whole in
            let r = w.capacity in
            omega arith

        pub grow_next : (t : Filled) → t ≡ extend_sticky same start rs s → Growing qs t goal
        grow_next t e =
            let n : length t.rows ≡ length s.rows = ap (λ (u : Filled). length u.rows) e ∙ length_extended rs s grow_capacity in
            let u : t.used ≡ (extend_sticky same start rs s).used = ap (λ (t : Filled). t.used) e in
            let l = extended_least rs s in
            let r = w.capacity in
            let b = w.begun in
            record {
              whole =
                  ap (extend_sticky same start qs) e
                  ∙ extended_append rs qs s w.begun grow_capacity
                  ∙ ap (λ (l : List Row). extend_sticky same start l s) (sym cut)
                  ∙ w.whole;
              capacity = omega arith;
              begun = omega arith;
            }

  -- The same over a list of numbers, of each of which f makes the rows to extend by.
  abbrev pub Extending : (ℕ → List Row) → List ℕ → Filled → Filled → Type 0
  Extending f ks s goal = Growing (flat_map f ks) s goal

  module _ (f : ℕ → List Row) (s goal : Filled) where
    pub extending : (ks : List ℕ) → extend_sticky same start (flat_map f ks) s ≡ goal → Fits s.rows goal → start ≤ s.used → Extending f ks s goal
    extending ks w r b = grow_begin (flat_map f ks) s goal w r b

    module _ (ks : List ℕ) (left : Extending f ks s goal) where
      pub extending_end : ks ≡ [] → s ≡ goal
      extending_end e = grow_end (flat_map f ks) s goal left (ap (flat_map f) e ∙ flat_map_nil f)

      module _ (k : ℕ) (qs : List ℕ) (cut : ks ≡ k ∷ qs) where
        pub extending_capacity : Fits s.rows (extend_sticky same start (f k) s)
        extending_capacity = grow_capacity (flat_map f ks) s goal left (f k) (flat_map f qs) (ap (flat_map f) cut ∙ flat_map_cons f k qs)

        pub extending_next : (t : Filled) → t ≡ extend_sticky same start (f k) s → Extending f qs t goal
        extending_next t e = grow_next (flat_map f ks) s goal left (f k) (flat_map f qs) (ap (flat_map f) cut ∙ flat_map_cons f k qs) t e
