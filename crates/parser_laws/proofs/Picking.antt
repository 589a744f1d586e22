-- Which alternative the next token picks, for code that has looked at its sort.
use mathlib.Core.Path.{◌≡◌, refl, sym, ◌∙◌}
use mathlib.Core.List.{List, [], ◌∷◌}
use mathlib.Core.Bool.{Bool, true, false, ◌&&◌}
use mathlib.Core.Option.{Option, none, some}
use Prim.Native.Nat.{ℕ, ◌<◌}
use native.Mathlib.Omega.{arith}
use borrow.Author.Tests.{lt-leb}
use lib.Dec.{leb}
use Rattle.definition.specs.Lists.{choose, Among, here, there}
use Rattle.definition.specs.Grammar.{Symbol, Part, rule, within}
use Rattle.definition.specs.GrammarSets.{nullable, first}
use Rattle.definition.specs.Machine.{has, first_set_of, empties, emptied, pick}
use Rattle.parser_laws.proofs.Tests.{clash, within_bounds}
use Rattle.parser_laws.proofs.Theory.{facts, begins_so, empty_so, beginning_is, beginning_none, emptied_is}

pub below : (lo hi s : ℕ) → s < lo → within lo hi s ≡ false
unfolding within
below lo hi s h = rw (lt-leb lo s h)

pub above : (lo hi s : ℕ) → hi < s → within lo hi s ≡ false
unfolding within
above lo hi s h = go (leb lo s)
  where
    go : (b : Bool) → (b && leb s hi) ≡ false
    go true = lt-leb s hi h
    go false = refl

pub other : (x s : ℕ) → (s ≡ x → ⊥) → within x x s ≡ false
other x s n = go (within x x s) refl
  where
    go : (b : Bool) → within x x s ≡ b → b ≡ false
    go true e = let w = within_bounds x x s e in absurd (n (omega arith))
    go false e = refl

no_empty : (rs : List (List Symbol)) → ((r : List Symbol) → Among r rs → empties r ≡ true → ⊥) → emptied rs ≡ none
unfolding emptied
no_empty [] h = refl
no_empty (r ∷ rs) h = go (empties r) refl (no_empty rs (λ q a. h q (there a)))
  where
    go : (b : Bool) → empties r ≡ b → emptied rs ≡ none → choose b (some r) (emptied rs) ≡ none
    go true k f = absurd (h r here k)
    go false k f = f

module _ (n : Part) where
  -- The alternative that the token begins.
  pub picks : (s : ℕ) (r : List Symbol) → Among r (rule n) → has (first_set_of r) s ≡ true → pick (some s) n ≡ some r
  unfolding pick
  picks s r a h = rw (beginning_is s (rule n) (facts n).unalike a h)

  -- The empty one, where no alternative begins so, or at the end.
  pub skips : (o : Option ℕ) (r : List Symbol) → Among r (rule n) → empties r ≡ true → ((s : ℕ) → o ≡ some s → has (first n) s ≡ false) → pick o n ≡ some r
  unfolding pick
  skips none r a e h = emptied_is (rule n) (facts n).single a e
  skips (some s) r a e h =
      let k = h s refl in
      rw (beginning_none s (rule n) (λ q i j. clash (sym k ∙ begins_so n i s j))) (emptied_is (rule n) (facts n).single a e)

  -- None.
  pub rejects : (o : Option ℕ) → nullable n ≡ false → ((s : ℕ) → o ≡ some s → has (first n) s ≡ false) → pick o n ≡ none
  unfolding pick
  rejects none e h = no_empty (rule n) (λ q i j. clash (sym e ∙ empty_so n i j))
  rejects (some s) e h =
      let k = h s refl in
      rw (beginning_none s (rule n) (λ q i j. clash (sym k ∙ begins_so n i s j))) (no_empty (rule n) (λ q i j. clash (sym e ∙ empty_so n i j)))
