-- Symbols that want a token, of which none is empty: where the token ahead does not begin them, or there is none, they are refused there. So what an
-- item notes of the token ahead need not be asked for before the token is read.
use mathlib.Core.Path.{◌≡◌, refl, sym, ap, ◌∙◌}
use mathlib.Core.List.{List, [], ◌∷◌, ◌++◌}
use mathlib.Core.Bool.{Bool, true, false, ◌&&◌}
use Prim.Native.Nat.{ℕ, zero, suc, ◌≤◌, ◌<◌}
use native.Mathlib.Omega.{arith}
use borrow.Author.Tests.{leb-true, leb-false}
use lib.Dec.{leb}
use Rattle.definition.specs.Lists.{choose, any, all, Among, here, there}
use Rattle.definition.specs.Grammar.{Symbol, one, part, mark, Part, rule, within, Mark, heading, kind, heading_ends, item, item_ends, named, deeper, shallower}
use Rattle.definition.specs.GrammarSets.{nullable, first}
use Rattle.definition.specs.Machine.{has, first_set_of, empties}
use Rattle.definition.specs.Cards.{Card}
use Rattle.definition.specs.ItemCards.{noting, level_after}
use Rattle.parser_laws.specs.Verdict.{fails}
use Rattle.parser_laws.specs.Standing.{from, standing}
use Rattle.parser_laws.proofs.Tests.{clash, both, within_bounds, subset, subset_has}
use Rattle.parser_laws.proofs.Theory.{has_left, has_right}
use Rattle.parser_laws.proofs.Steps.{by_mark}
use Rattle.parser_laws.proofs.Ahead.{no_token_lem, open_part, skip_part, no_part}
use Rattle.parser_lexer.specs.Sorts.{sort_number}
use Rattle.parser_lexer.specs.Ahead.{Ahead}
use Rattle.parser_lexer.specs.declared.cursor.Cursor.{Cursor}

-- Whether one of the alternatives is empty.
unfoldable leaves : List (List Symbol) → Bool
leaves [] = false
leaves ([] ∷ rs) = true
leaves ((x ∷ r) ∷ rs) = leaves rs

leaves_among : (rs : List (List Symbol)) → leaves rs ≡ true → Among [] rs
unfolding leaves
leaves_among [] e = clash e
leaves_among ([] ∷ rs) e = here
leaves_among ((x ∷ r) ∷ rs) e = there (leaves_among rs e)

-- The marks that an item has before its name.
abbrev opening : Mark → Bool → Bool
opening (item k) b = b
opening named b = b
opening heading b = false
opening (kind k) b = false
opening heading_ends b = false
opening item_ends b = false
opening deeper b = false
opening shallower b = false

unfoldable wants : List Symbol → Bool
wants [] = false
wants (one lo hi ∷ ss) = true
wants (mark m ∷ ss) = opening m (wants ss)
wants (part n ∷ ss) = let r = wants ss in choose (nullable n) (leaves (rule n) && r) true

-- Symbols that want a token, of a sort up to 54.
unfoldable pub wanting : List Symbol → Bool
unfolding wants leaves rule nullable first first_set_of subset all any
wanting ss = wants ss && subset (first_set_of ss) ((0, 54) ∷ [])

-- Every sort below k of one set is one of the other.
unfoldable pub covers : List (ℕ × ℕ) → List (ℕ × ℕ) → ℕ → Bool
unfolding first first_set_of nullable has within
covers a b zero = true
covers a b (suc k) = let r = covers a b k in choose (has a k) (has b k && r) r

covers_has : (a b : List (ℕ × ℕ)) (k s : ℕ) → covers a b k ≡ true → s < k → has a s ≡ true → has b s ≡ true
unfolding covers
covers_has a b zero s e l h = absurd (omega arith)
covers_has a b (suc k) s e l h = go (leb k s) refl (has a k) refl e (covers_has a b k s)
  where
    go : (t : Bool) → leb k s ≡ t → (u : Bool) → has a k ≡ u → choose u (has b k && covers a b k) (covers a b k) ≡ true →
        (covers a b k ≡ true → s < k → has a s ≡ true → has b s ≡ true) → has b s ≡ true
    go true p u q i f =
        last u q i
      where
        last : (v : Bool) → has a k ≡ v → choose v (has b k && covers a b k) (covers a b k) ≡ true → has b s ≡ true
        last true j g = let z : k ≡ s = omega (arith, leb-true k s p) in ap (has b) (sym z) ∙ (both (has b k) (covers a b k) g).0
        last false j g = let z : k ≡ s = omega (arith, leb-true k s p) in clash (sym j ∙ ap (has a) z ∙ h)
    go false p true q i f = f (both (has b k) (covers a b k) i).1 (leb-false k s p) h
    go false p false q i f = f i (leb-false k s p) h

not_left : (a b : List (ℕ × ℕ)) (s : ℕ) → has (a ++ b) s ≡ false → has a s ≡ false
not_left a b s e = go (has a s) refl
  where
    go : (t : Bool) → has a s ≡ t → t ≡ false
    go true k = clash (sym e ∙ has_left a b s k)
    go false k = refl

not_right : (a b : List (ℕ × ℕ)) (s : ℕ) → has (a ++ b) s ≡ false → has b s ≡ false
not_right a b s e = go (has b s) refl
  where
    go : (t : Bool) → has b s ≡ t → t ≡ false
    go true k = clash (sym e ∙ has_right a b s k)
    go false k = refl

-- Of one range.
pub range : (lo hi s : ℕ) → has ((lo, hi) ∷ []) s ≡ within lo hi s
unfolding has
range lo hi s = go (within lo hi s)
  where
    go : (t : Bool) → choose t true false ≡ t
    go true = refl
    go false = refl

up_to_54 : (ss : List Symbol) (s : ℕ) → subset (first_set_of ss) ((0, 54) ∷ []) ≡ true → has (first_set_of ss) s ≡ true → s ≤ 54
up_to_54 ss s u h = (within_bounds 0 54 s (sym (range 0 54 s) ∙ subset_has (first_set_of ss) ((0, 54) ∷ []) s u h)).1

module _ (text : List ℕ) (c : Cursor) (a : Ahead text c) where
  not_begun : (ps ss : List Symbol) → wants ps ≡ true → has (first_set_of ps) (sort_number c.sort) ≡ false → (cs : List Card) (h : ℕ) →
      standing text c.last (ps ++ ss) 0 cs h ≡ fails 29 c.begins
  unfolding wants first_set_of standing noting level_after empties
  not_begun [] ss w f cs h = clash w
  not_begun (one lo hi ∷ ps) ss w f cs h = no_token_lem text c.last (sort_number c.sort) c.begins c.ends a (ps ++ ss) 0 cs h lo hi (sym (range lo hi (sort_number c.sort)) ∙ f)
  not_begun (mark (item k) ∷ ps) ss w f cs h = by_mark (from text c.last) (ps ++ ss) 0 (record { cards = cs; head = h; end = c.last }) (item k) ∙
      not_begun ps ss w f _ h
  not_begun (mark named ∷ ps) ss w f cs h = by_mark (from text c.last) (ps ++ ss) 0 (record { cards = cs; head = h; end = c.last }) named ∙
      not_begun ps ss w f _ h
  not_begun (mark heading ∷ ps) ss w f cs h = clash w
  not_begun (mark (kind k) ∷ ps) ss w f cs h = clash w
  not_begun (mark heading_ends ∷ ps) ss w f cs h = clash w
  not_begun (mark item_ends ∷ ps) ss w f cs h = clash w
  not_begun (mark deeper ∷ ps) ss w f cs h = clash w
  not_begun (mark shallower ∷ ps) ss w f cs h = clash w
  not_begun (part n ∷ ps) ss w f cs h = go (nullable n) refl w f (not_begun ps ss)
    where
      go : (t : Bool) → nullable n ≡ t → choose t (leaves (rule n) && wants ps) true ≡ true → has (first n ++ choose t (first_set_of ps) []) (sort_number c.sort) ≡ false →
          (wants ps ≡ true → has (first_set_of ps) (sort_number c.sort) ≡ false → (cs : List Card) (h : ℕ) →
          standing text c.last (ps ++ ss) 0 cs h ≡ fails 29 c.begins) → standing text c.last (part n ∷ (ps ++ ss)) 0 cs h ≡ fails 29 c.begins
      go true e i k f =
          let b = both (leaves (rule n)) (wants ps) i in
          skip_part text c.last (sort_number c.sort) c.begins c.ends a (ps ++ ss) 0 cs h n [] (leaves_among (rule n) b.0) refl
          (not_left (first n) (first_set_of ps) (sort_number c.sort) k) ∙
          f b.1 (not_right (first n) (first_set_of ps) (sort_number c.sort) k) cs h
      go false e i k f = no_part text c.last (sort_number c.sort) c.begins c.ends a (ps ++ ss) 0 cs h n e (not_left (first n) [] (sort_number c.sort) k)

  -- Two things to be shown of symbols that want a token: where one is ahead; and where none is, that both sides are refused.
  pub by_token : (ps qs ss : List Symbol) (cs ds : List Card) (h : ℕ) → wanting ps ≡ true → wanting qs ≡ true →
      (sort_number c.sort ≤ 54 → standing text c.last (ps ++ ss) 0 cs h ≡ standing text c.last (qs ++ ss) 0 ds h) →
      standing text c.last (ps ++ ss) 0 cs h ≡ standing text c.last (qs ++ ss) 0 ds h
  unfolding wanting
  by_token ps qs ss cs ds h w v f = go (leb (sort_number c.sort) 54) refl
    where
      none : (rs : List Symbol) → subset (first_set_of rs) ((0, 54) ∷ []) ≡ true → 54 < (sort_number c.sort) → (t : Bool) → has (first_set_of rs) (sort_number c.sort) ≡ t → t ≡ false
      none rs u l true e = absurd (omega (arith, up_to_54 rs (sort_number c.sort) u e))
      none rs u l false e = refl

      refusal : (rs : List Symbol) → (wants rs && subset (first_set_of rs) ((0, 54) ∷ [])) ≡ true → 54 < (sort_number c.sort) → (es : List Card) →
          standing text c.last (rs ++ ss) 0 es h ≡ fails 29 c.begins
      refusal rs i l es =
          let b = both (wants rs) (subset (first_set_of rs) ((0, 54) ∷ [])) i in
          not_begun rs ss b.0 (none rs b.1 l (has (first_set_of rs) (sort_number c.sort)) refl) es h

      go : (t : Bool) → leb (sort_number c.sort) 54 ≡ t → standing text c.last (ps ++ ss) 0 cs h ≡ standing text c.last (qs ++ ss) 0 ds h
      go true e = f (leb-true (sort_number c.sort) 54 e)
      go false e = let l = leb-false (sort_number c.sort) 54 e in refusal ps w l cs ∙ sym (refusal qs v l ds)

-- A part with one alternative that is not empty.
pub record Sole (n : Part) (r : List Symbol) : Type 0 where
  pub among : Among r (rule n)
  pub never_empty : nullable n ≡ false
  pub wants_token : wanting r ≡ true
  pub covered : covers (first n) (first_set_of r) 57 ≡ true

-- It is read as its alternative, also where it is refused.
pub as_sole : (text : List ℕ) (c : Cursor) → Ahead text c → (n : Part) (r ss : List Symbol) (cs : List Card) (h : ℕ) → Sole n r →
    standing text c.last (part n ∷ ss) 0 cs h ≡ standing text c.last (r ++ ss) 0 cs h
unfolding wanting
as_sole text c a n r ss cs h t = go (has (first_set_of r) (sort_number c.sort)) refl
  where
    w : (wants r ≡ true) × (subset (first_set_of r) ((0, 54) ∷ []) ≡ true)
    w = both (wants r) (subset (first_set_of r) ((0, 54) ∷ [])) t.wants_token

    none : has (first_set_of r) (sort_number c.sort) ≡ false → (u : Bool) → has (first n) (sort_number c.sort) ≡ u → u ≡ false
    none k true e = clash (sym k ∙ covers_has (first n) (first_set_of r) 57 (sort_number c.sort) t.covered (omega (arith, a.told)) e)
    none k false e = refl

    go : (u : Bool) → has (first_set_of r) (sort_number c.sort) ≡ u → standing text c.last (part n ∷ ss) 0 cs h ≡ standing text c.last (r ++ ss) 0 cs h
    go true k = open_part text c.last (sort_number c.sort) c.begins c.ends a ss 0 cs h n r (up_to_54 r (sort_number c.sort) w.1 k) t.among k
    go false k =
        no_part text c.last (sort_number c.sort) c.begins c.ends a ss 0 cs h n t.never_empty (none k (has (first n) (sort_number c.sort)) refl) ∙
        sym (not_begun text c a r ss w.0 k cs h)
