-- Bodies by kind: that Grammar's table has them, and that an extension reads as the body does where something of it stands ahead.
use mathlib.Core.Path.{◌≡◌, refl, sym, subst, ◌∙◌}
use mathlib.Core.List.{List, [], ◌∷◌, ◌++◌}
use mathlib.Core.Bool.{Bool, true, false, not}
use mathlib.Core.Logic.{◌⊎◌, inl, inr}
use Prim.Native.Nat.{ℕ, zero, suc, ◌+◌, ◌-◌, ◌≤◌, ◌<◌}
use native.Mathlib.Omega.{arith}
use borrow.Author.Tests.{eqb-true, eqb-false}
use lib.Dec.{eqb, leb}
use Rattle.definition.specs.Lists.{choose, all, any, Among, here, there}
use Rattle.definition.specs.Grammar.{Symbol, one, part, mark, Part, rule, within, kind, named, name, at}
use Rattle.definition.specs.Grammar.{Described, Extended, Roots, Roots?, Implements, Implements?, Fields, Fields?, Members, Members?, EnumValues, EnumValues?}
use Rattle.definition.specs.Grammar.{InputFields, InputFields?, DirectiveUse, DirectiveUse*}
use Rattle.definition.specs.Grammar.{SchemaMore, ObjectMore, UnionMore, EnumMore, InputMore}
use Rattle.definition.specs.GrammarSets.{nullable, first}
use Rattle.definition.specs.Machine.{has, first_set_of, empties}
use Rattle.definition.specs.Cards.{Card}
use Rattle.parser_laws.specs.Verdict.{fails}
use Rattle.parser_laws.specs.Standing.{standing, AheadOf}
use Rattle.parser_laws.proofs.Tests.{clash, within_is, within_bounds, has_append, subset, subset_has, disjoint, disjoint_has}
use Rattle.parser_laws.proofs.Picking.{other}
use Rattle.parser_laws.proofs.Theory.{has_left}
use Rattle.parser_laws.proofs.Ahead.{open_part, skip_part, no_part}
use Rattle.parser_lexer.specs.Sorts.{sort_number}
use Rattle.parser_lexer.specs.Ahead.{Ahead}
use Rattle.parser_lexer.specs.declared.cursor.Cursor.{Cursor}
use Rattle.std.specs.Prelude.{Err}
use Rattle.parser_values.specs.declared.error.SyntaxError.TheVariants.{NotInGrammar}
use Rattle.parser_values.specs.Reads.{End}
use Rattle.parser_items.specs.Lists.{put_cards, Lists}
use Rattle.parser.specs.Symbols.{last_of, body_of, more_of, rest_of}

-- ---- What holds of each number of a range holds of every number in it.

abbrev Each : (ℕ → Type 0) → ℕ → ℕ → Type 0
Each P lo zero = Unit {0}
Each P lo (suc n) = P lo × Each P (suc lo) n

each : (P : ℕ → Type 0) (n lo k : ℕ) → Each P lo n → lo ≤ k → k < lo + n → P k
each P zero lo k t l u = absurd (omega arith)
each P (suc n) lo k t l u = go (eqb lo k) refl (λ m. each P n (suc lo) k t.1 m (omega arith))
  where
    go : (b : Bool) → eqb lo k ≡ b → (lo < k → P k) → P k
    go true e f = subst P (eqb-true lo k e) t.0
    go false e f = f (let z = eqb-false lo k e in omega arith)

-- ---- The table has what specs/Symbols.antt says.

pub described : (s : ℕ) → 21 ≤ s → s ≤ 26 → Among (one s s ∷ mark (kind (s - 16)) ∷ mark named ∷ name ∷ rest_of (s - 16)) (rule Described)
unfolding rule rest_of body_of last_of within
described s l u =
    each (λ (s : ℕ). Among (one s s ∷ mark (kind (s - 16)) ∷ mark named ∷ name ∷ rest_of (s - 16)) (rule Described)) 6 21 s (
      there here,
      (
        there (there here),
        (
          there (there (there here)),
          (
            there (there (there (there here))),
            (there (there (there (there (there here)))), (there (there (there (there (there (there here))))), tt)),
          ),
        ),
      ),
    )
    l (omega arith)

pub extended : (s : ℕ) → 21 ≤ s → s ≤ 26 → Among (one s s ∷ mark (kind (s - 9)) ∷ mark named ∷ name ∷ rest_of (s - 9)) (rule Extended)
unfolding rule rest_of more_of
extended s l u =
    each (λ (s : ℕ). Among (one s s ∷ mark (kind (s - 9)) ∷ mark named ∷ name ∷ rest_of (s - 9)) (rule Extended)) 6 21 s (
      there here,
      (
        there (there here),
        (
          there (there (there here)),
          (
            there (there (there (there here))),
            (there (there (there (there (there here)))), (there (there (there (there (there (there here))))), tt)),
          ),
        ),
      ),
    )
    l (omega arith)

pub described_schema : Among (one 20 20 ∷ mark (kind 4) ∷ rest_of 4) (rule Described)
unfolding rule rest_of body_of last_of within
described_schema = here

pub extended_schema : Among (one 20 20 ∷ mark (kind 11) ∷ rest_of 11) (rule Extended)
unfolding rule rest_of more_of
extended_schema = here

pub described_directive : Among (one 27 27 ∷ mark (kind 3) ∷ at ∷ mark named ∷ name ∷ rest_of 3) (rule Described)
unfolding rule rest_of
described_directive = there (there (there (there (there (there (there here))))))

-- ---- Which token begins what an extension must have.

pub by_at : (k : ℕ) → 5 ≤ k → k ≤ 11 → has (first_set_of (more_of k)) 8 ≡ true
unfolding has first_set_of more_of first nullable within
by_at k l u = each (λ (k : ℕ). has (first_set_of (more_of k)) 8 ≡ true) 7 5 k (refl, (refl, (refl, (refl, (refl, (refl, (refl, tt))))))) l (omega arith)

pub by_equals : (k : ℕ) → 5 ≤ k → k ≤ 11 → has (first_set_of (more_of k)) 7 ≡ eqb k 8
unfolding has first_set_of more_of first nullable within
by_equals k l u = each (λ (k : ℕ). has (first_set_of (more_of k)) 7 ≡ eqb k 8) 7 5 k (refl, (refl, (refl, (refl, (refl, (refl, (refl, tt))))))) l (omega arith)

pub by_brace : (k : ℕ) → 5 ≤ k → k ≤ 11 → has (first_set_of (more_of k)) 11 ≡ choose (leb k 5) false (not (eqb k 8))
unfolding has first_set_of more_of first nullable within
by_brace k l u = each (λ (k : ℕ). has (first_set_of (more_of k)) 11 ≡ choose (leb k 5) false (not (eqb k 8))) 7 5 k (
  refl,
  (refl, (refl, (refl, (refl, (refl, (refl, tt)))))),
) l (omega arith)

pub by_implements : (k : ℕ) → 5 ≤ k → k ≤ 11 → has (first_set_of (more_of k)) 29 ≡ choose (leb k 5) false (leb k 7)
unfolding has first_set_of more_of first nullable within
by_implements k l u = each (λ (k : ℕ). has (first_set_of (more_of k)) 29 ≡ choose (leb k 5) false (leb k 7)) 7 5 k (
  refl,
  (refl, (refl, (refl, (refl, (refl, (refl, tt)))))),
) l (omega arith)

-- No other token does.
begins_more : List (ℕ × ℕ)
begins_more = (7, 8) ∷ (11, 11) ∷ (29, 29) ∷ []

none_else : (k : ℕ) → 5 ≤ k → k ≤ 11 → subset (first_set_of (more_of k)) begins_more ≡ true
unfolding subset all any first_set_of more_of first nullable within begins_more
none_else k l u = each (λ (k : ℕ). subset (first_set_of (more_of k)) begins_more ≡ true) 7 5 k (refl, (refl, (refl, (refl, (refl, (refl, (refl, tt))))))) l
    (omega arith)

small : subset begins_more ((0, 54) ∷ []) ≡ true
unfolding subset all any begins_more
small = refl

not_begun : (s : ℕ) → (s ≡ 7 → ⊥) → (s ≡ 8 → ⊥) → (s ≡ 11 → ⊥) → (s ≡ 29 → ⊥) → has begins_more s ≡ false
unfolding has begins_more
not_begun s a b c d = rw (neither (within 7 8 s) refl, other 11 s c, other 29 s d)
  where
    neither : (t : Bool) → within 7 8 s ≡ t → within 7 8 s ≡ false
    neither true e = let w = within_bounds 7 8 s e in absurd (omega arith)
    neither false e = e

pub by_nothing : (k s : ℕ) → 5 ≤ k → k ≤ 11 → (s ≡ 7 → ⊥) → (s ≡ 8 → ⊥) → (s ≡ 11 → ⊥) → (s ≡ 29 → ⊥) → has (first_set_of (more_of k)) s ≡ false
by_nothing k s l u a b c d = go (has (first_set_of (more_of k)) s) refl
  where
    go : (t : Bool) → has (first_set_of (more_of k)) s ≡ t → t ≡ false
    go true e = clash (sym (not_begun s a b c d) ∙ subset_has (first_set_of (more_of k)) begins_more s (none_else k l u) e)
    go false e = refl

-- What begins so is a token.
a_token : (k s : ℕ) → 5 ≤ k → k ≤ 11 → has (first_set_of (more_of k)) s ≡ true → s ≤ 54
unfolding has begins_more
a_token k s l u w = go (within 0 54 s) refl (subset_has begins_more ((0, 54) ∷ []) s small (subset_has (first_set_of (more_of k)) begins_more s (none_else k l u) w))
  where
    go : (t : Bool) → within 0 54 s ≡ t → choose t true false ≡ true → s ≤ 54
    go true e p = (within_bounds 0 54 s e).1
    go false e p = clash p

-- ---- Where one does, an extension reads as the body does.

-- The second where the first does not begin so.
or_else : (s : ℕ) (m n : List (ℕ × ℕ)) → has (m ++ n) s ≡ true → has m s ≡ false → has n s ≡ true
or_else s m n w f = go (has_append m n s w)
  where
    go : (has m s ≡ true) ⊎ (has n s ≡ true) → has n s ≡ true
    go (inl k) = clash (sym f ∙ k)
    go (inr k) = k

-- The same where two sorts make one range.
seven_or_eight : (s : ℕ) → has ((7, 8) ∷ []) s ≡ true → has ((8, 8) ∷ []) s ≡ false → has ((7, 7) ∷ []) s ≡ true
unfolding has
seven_or_eight s w f = go (within 7 8 s) refl w (within 8 8 s) refl f
  where
    go : (t : Bool) → within 7 8 s ≡ t → choose t true false ≡ true → (u : Bool) → within 8 8 s ≡ u → choose u true false ≡ false →
        choose (within 7 7 s) true false ≡ true
    go true e w true i f = clash (sym f)
    go true e w false i f =
        let v = within_bounds 7 8 s e in
        let n : s ≡ 8 → ⊥ = λ z. clash (sym i ∙ within_is 8 8 s (omega arith) (omega arith)) in
        rw (within_is 7 7 s (omega arith) (omega arith))
    go false e w u i f = clash w

module _ (text : List ℕ) (at s b e : ℕ) (a : AheadOf text at s b e) (k : s ≤ 54) (ss : List Symbol) (cs : List Card) (h : ℕ) where
  -- A part M that is directive uses and perhaps N, or N: as directive uses, or none, and N, or none.
  two_ways : (M O N : Part) → Among (part DirectiveUse ∷ part DirectiveUse* ∷ part O ∷ []) (rule M) → Among (part N ∷ []) (rule M) →
      Among (part N ∷ []) (rule O) → disjoint (first N) (first DirectiveUse*) ≡ true → (has (first DirectiveUse) s ≡ false → has (first N) s ≡ true) →
      standing text at (part M ∷ ss) 0 cs h ≡ standing text at (part DirectiveUse* ∷ part O ∷ ss) 0 cs h
  unfolding rule first_set_of nullable empties
  two_ways M O N i j m d f = go (has (first DirectiveUse) s) refl
    where
      not_so : has (first N) s ≡ true → (t : Bool) → has (first DirectiveUse*) s ≡ t → t ≡ false
      not_so w true z = absurd (disjoint_has (first N) (first DirectiveUse*) s d w z)
      not_so w false z = refl

      go : (t : Bool) → has (first DirectiveUse) s ≡ t → standing text at (part M ∷ ss) 0 cs h ≡ standing text at (part DirectiveUse* ∷ part O ∷ ss) 0 cs h
      go true w =
          open_part text at s b e a ss 0 cs h M (part DirectiveUse ∷ part DirectiveUse* ∷ part O ∷ []) k i (has_left (first DirectiveUse) [] s w) ∙
          sym (open_part text at s b e a (part O ∷ ss) 0 cs h DirectiveUse* (part DirectiveUse ∷ part DirectiveUse* ∷ []) k here
          (has_left (first DirectiveUse) [] s w))
      go false w =
          open_part text at s b e a ss 0 cs h M (part N ∷ []) k j (has_left (first N) _ s (f w)) ∙
          sym
          (skip_part text at s b e a (part O ∷ ss) 0 cs h DirectiveUse* [] (there here) refl (not_so (f w) (has (first DirectiveUse*) s) refl) ∙
          open_part text at s b e a ss 0 cs h O (part N ∷ []) k m (has_left (first N) _ s (f w)))

  object_more : has (first ObjectMore) s ≡ true → standing text at (part ObjectMore ∷ ss) 0 cs h ≡
      standing text at (part Implements? ∷ part DirectiveUse* ∷ part Fields? ∷ ss) 0 cs h
  unfolding rule first_set_of nullable empties first disjoint all any subset
  object_more f = go (has (first Implements) s) refl
    where
      go : (t : Bool) → has (first Implements) s ≡ t → standing text at (part ObjectMore ∷ ss) 0 cs h ≡
          standing text at (part Implements? ∷ part DirectiveUse* ∷ part Fields? ∷ ss) 0 cs h
      go true w =
          open_part text at s b e a ss 0 cs h ObjectMore (part Implements ∷ part DirectiveUse* ∷ part Fields? ∷ []) k here w ∙
          sym (open_part text at s b e a (part DirectiveUse* ∷ part Fields? ∷ ss) 0 cs h Implements? (part Implements ∷ []) k here w)
      go false w =
          two_ways ObjectMore Fields? Fields (there here) (there (there here)) here refl (fields f w) ∙
          sym (skip_part text at s b e a (part DirectiveUse* ∷ part Fields? ∷ ss) 0 cs h Implements? [] (there here) refl w)
        where
          fields : has (first ObjectMore) s ≡ true → has (first Implements) s ≡ false → has (first DirectiveUse) s ≡ false → has (first Fields) s ≡ true
          fields f i d = or_else s (first DirectiveUse) (first Fields) (or_else s (first Implements) (first DirectiveUse ++ first Fields)
              (subset_has (first ObjectMore) (first Implements ++ (first DirectiveUse ++ first Fields)) s refl f) i) d

  reads_as : (j : ℕ) → 5 ≤ j → j ≤ 11 → has (first_set_of (more_of j)) s ≡ true → standing text at (more_of j ++ ss) 0 cs h ≡ standing text at (body_of j ++ ss) 0 cs h
  unfolding more_of body_of last_of rule first_set_of nullable empties first disjoint all any subset within
  reads_as j l u =
      each (λ (j : ℕ). has (first_set_of (more_of j)) s ≡ true → standing text at (more_of j ++ ss) 0 cs h ≡ standing text at (body_of j ++ ss) 0 cs h) 7 5 j (
        (λ w. sym (open_part text at s b e a ss 0 cs h DirectiveUse* (part DirectiveUse ∷ part DirectiveUse* ∷ []) k here w)),
        (
          object_more,
          (
            object_more,
            (
              (λ w. two_ways UnionMore Members? Members here (there here) here refl (seven_or_eight s w)),
              (
                (λ w. two_ways EnumMore EnumValues? EnumValues here (there here) here refl (or_else s (first DirectiveUse) (first EnumValues) w)),
                (
                  (λ w. two_ways InputMore InputFields? InputFields here (there here) here refl (or_else s (first DirectiveUse) (first InputFields) w)),
                  ((λ w. two_ways SchemaMore Roots? Roots here (there here) here refl (or_else s (first DirectiveUse) (first Roots) w)), tt),
                ),
              ),
            ),
          ),
        ),
      )
      l (omega arith)

-- Where none does, it is refused.
module _ (text : List ℕ) (at s b e : ℕ) (a : AheadOf text at s b e) (ss : List Symbol) (cs : List Card) (h : ℕ) where
  reads_none : (j : ℕ) → 5 ≤ j → j ≤ 11 → has (first_set_of (more_of j)) s ≡ false → standing text at (more_of j ++ ss) 0 cs h ≡ fails 29 b
  unfolding more_of first_set_of nullable first
  reads_none j l u =
      each (λ (j : ℕ). has (first_set_of (more_of j)) s ≡ false → standing text at (more_of j ++ ss) 0 cs h ≡ fails 29 b) 7 5 j (
        no_part text at s b e a (part DirectiveUse* ∷ ss) 0 cs h DirectiveUse refl,
        (
          no_part text at s b e a ss 0 cs h ObjectMore refl,
          (
            no_part text at s b e a ss 0 cs h ObjectMore refl,
            (
              no_part text at s b e a ss 0 cs h UnionMore refl,
              (
                no_part text at s b e a ss 0 cs h EnumMore refl,
                (
                  no_part text at s b e a ss 0 cs h InputMore refl,
                  (no_part text at s b e a ss 0 cs h SchemaMore refl, tt),
                ),
              ),
            ),
          ),
        ),
      )
      l (omega arith)

module _ (text : List ℕ) {c : Cursor} (a : Ahead text c) (j : ℕ) (l : 5 ≤ j) (u : j ≤ 11) where
  pub more_reads : {r : End} {before after : List ℕ} → has (first_set_of (more_of j)) (sort_number c.sort) ≡ true → Lists (body_of j) text c r before after →
      Lists (more_of j) text c r before after
  more_reads w f = record {
    cards = f.cards;
    written = f.written;
    goes = λ ss cs h. reads_as text c.last (sort_number c.sort) c.begins c.ends a (a_token j (sort_number c.sort) l u w) ss cs h j l u w ∙ f.goes ss cs h;
    ready = f.ready;
  }

  pub more_lacks : (before : List ℕ) → has (first_set_of (more_of j)) (sort_number c.sort) ≡ false → Lists (more_of j) text c (Err (NotInGrammar c.begins)) before before
  unfolding put_cards
  more_lacks before w = record {
    cards = [];
    written = refl;
    goes = λ ss cs h. reads_none text c.last (sort_number c.sort) c.begins c.ends a ss cs h j l u w;
    ready = tt;
  }
