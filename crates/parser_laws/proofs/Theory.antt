-- The machine comes by just what the grammar derives, and stops at the first token that no text of the grammar has there. All of the table that is
-- used here is `all_sound`.
use mathlib.Core.Path.{◌≡◌, refl, sym, ap, ◌∙◌, subst}
use mathlib.Core.List.{List, [], ◌∷◌, ◌++◌}
use mathlib.Core.Bool.{Bool, true, false, ◌&&◌, ◌||◌, not}
use mathlib.Core.Option.{Option, none, some}
use mathlib.Core.Logic.{◌⊎◌, inl, inr}
use Prim.Native.Nat.{ℕ, ◌≤◌, ◌<◌}
use native.Mathlib.Omega.{arith}
use borrow.Author.Tests.{leb-true, ltb-true}
use lib.Dec.{leb, ltb}
use lib.ListN.{length}
use Rattle.definition.specs.Lists.{choose, found, all, Among, here, there}
use Rattle.definition.specs.Grammar.{Symbol, one, part, mark, Part, Document, rule, within}
use Rattle.definition.specs.GrammarSets.{nullable, first, follow, weight, rank, short}
use Rattle.definition.specs.Derivation.{Seen, Derives, nothing, reads, marks, expands, tokens_of}
use Rattle.definition.specs.Machine.{has, first_set_of, empties, weigh, beginning, emptied, pick, ahead}
use Rattle.parser_laws.proofs.Tests.{clash, both, all_among, has_append, subset, subset_has, disjoint, disjoint_has}
use Rattle.parser_laws.proofs.Facts.{covered, followed, unlike, lone, lower, numbered, sound}
use Rattle.parser_laws.proofs.Sound.{all_sound}

-- ---- The facts of a part, one by one.

pub record Facts (n : Part) : Type 0 where
  pub covers : all (covered n) (rule n) ≡ true
  pub follows : all (followed (follow n)) (rule n) ≡ true
  pub unalike : unlike (rule n) ≡ true
  pub single : lone (rule n) ≡ true
  pub distinct : (not (nullable n) || disjoint (first n) (follow n)) ≡ true
  pub there_is : ltb (short n) (length (rule n)) ≡ true
  pub sinks : lower (rank n) (numbered (short n) (rule n)) ≡ true

pub facts : (n : Part) → Facts n
unfolding sound
facts n =
    let g = both _ _ (all_sound n) in
    let f = both _ _ g.0 in
    let e = both _ _ f.0 in
    let d = both _ _ e.0 in
    let c = both _ _ d.0 in
    let b = both _ _ c.0 in
    record { covers = b.0; follows = b.1; unalike = c.1; single = d.1; distinct = e.1; there_is = f.1; sinks = g.1 }

implied : (a b : Bool) → (not a || b) ≡ true → a ≡ true → b ≡ true
implied true b e h = e
implied false b e h = clash h

module _ (n : Part) {r : List Symbol} (a : Among r (rule n)) where
  covers_it : ((subset (first_set_of r) (first n) ≡ true) × ((not (empties r) || nullable n) ≡ true)) × (ltb (weigh r) (weight n) ≡ true)
  unfolding covered
  covers_it =
      let e = all_among (covered n) (rule n) (facts n).covers a in
      let b = both (subset (first_set_of r) (first n) && (not (empties r) || nullable n)) (ltb (weigh r) (weight n)) e in
      (both (subset (first_set_of r) (first n)) (not (empties r) || nullable n) b.0, b.1)

  pub begins_so : (s : ℕ) → has (first_set_of r) s ≡ true → has (first n) s ≡ true
  begins_so s h = subset_has (first_set_of r) (first n) s covers_it.0.0 h

  pub empty_so : empties r ≡ true → nullable n ≡ true
  empty_so h = implied (empties r) (nullable n) covers_it.0.1 h

  pub lighter : weigh r < weight n
  lighter = ltb-true (weigh r) (weight n) covers_it.1

  pub follows_it : followed (follow n) r ≡ true
  follows_it = all_among (followed (follow n)) (rule n) (facts n).follows a

-- ---- Beginnings of joined lists.

pub has_left : (a b : List (ℕ × ℕ)) (s : ℕ) → has a s ≡ true → has (a ++ b) s ≡ true
unfolding has
has_left [] b s h = clash h
has_left (p ∷ ps) b s h = go (within p.0 p.1 s) h (has_left ps b s)
  where
    go : (t : Bool) → choose t true (has ps s) ≡ true → (has ps s ≡ true → has (ps ++ b) s ≡ true) → choose t true (has (ps ++ b) s) ≡ true
    go true k f = refl
    go false k f = f k

pub has_right : (a b : List (ℕ × ℕ)) (s : ℕ) → has b s ≡ true → has (a ++ b) s ≡ true
unfolding has
has_right [] b s h = h
has_right (p ∷ ps) b s h = go (within p.0 p.1 s) (has_right ps b s h)
  where
    go : (t : Bool) → has (ps ++ b) s ≡ true → choose t true (has (ps ++ b) s) ≡ true
    go true k = refl
    go false k = k

-- What a joined list begins with is what the first begins with, or, where that can be empty, what the second begins with.
abbrev First : List Symbol → List Symbol → ℕ → Type 0
First r ss s = (has (first_set_of r) s ≡ true) ⊎ ((empties r ≡ true) × (has (first_set_of ss) s ≡ true))

first_append : (r ss : List Symbol) (s : ℕ) → has (first_set_of (r ++ ss)) s ≡ true → First r ss s
unfolding first_set_of empties has
first_append [] ss s h = inr (refl, h)
first_append (one lo hi ∷ r) ss s h = inl h
first_append (mark m ∷ r) ss s h = first_append r ss s h
first_append (part n ∷ r) ss s h = go (nullable n) (has_append (first n) (choose (nullable n) (first_set_of (r ++ ss)) []) s h) (first_append r ss s)
  where
    go :
        (b : Bool) → (has (first n) s ≡ true) ⊎ (has (choose b (first_set_of (r ++ ss)) []) s ≡ true) → (has (first_set_of (r ++ ss)) s ≡ true → First r ss s) →
        (has (first n ++ choose b (first_set_of r) []) s ≡ true) ⊎ ((choose b (empties r) false ≡ true) × (has (first_set_of ss) s ≡ true))
    go true (inl k) f = inl (has_left (first n) (first_set_of r) s k)
    go false (inl k) f = inl (has_left (first n) [] s k)
    go true (inr k) f = next (f k)
      where
        next : First r ss s → (has (first n ++ first_set_of r) s ≡ true) ⊎ ((empties r ≡ true) × (has (first_set_of ss) s ≡ true))
        next (inl g) = inl (has_right (first n) (first_set_of r) s g)
        next (inr g) = inr g
    go false (inr k) f = clash k

empties_append : (r ss : List Symbol) → empties (r ++ ss) ≡ true → (empties r ≡ true) × (empties ss ≡ true)
unfolding empties
empties_append [] ss h = (refl, h)
empties_append (one lo hi ∷ r) ss h = clash h
empties_append (mark m ∷ r) ss h = empties_append r ss h
empties_append (part n ∷ r) ss h = go (nullable n) h (empties_append r ss)
  where
    go :
        (b : Bool) → choose b (empties (r ++ ss)) false ≡ true → (empties (r ++ ss) ≡ true → (empties r ≡ true) × (empties ss ≡ true)) →
        (choose b (empties r) false ≡ true) × (empties ss ≡ true)
    go true k f = f k
    go false k f = clash k

-- The list can begin with the token ahead, or be empty where there is none.
abbrev Begins : Option ℕ → List Symbol → Type 0
Begins none ss = empties ss ≡ true
Begins (some s) ss = has (first_set_of ss) s ≡ true

begins_part : (n : Part) {r : List Symbol} (ss : List Symbol) (o : Option ℕ) → Among r (rule n) → Begins o (r ++ ss) → Begins o (part n ∷ ss)
unfolding first_set_of empties
begins_part n {r} ss none a h =
    let e = empties_append r ss h in
    rw (empty_so n a e.0) e.1
begins_part n {r} ss (some s) a h = go (first_append r ss s h)
  where
    go : First r ss s → has (first n ++ choose (nullable n) (first_set_of ss) []) s ≡ true
    go (inl k) = has_left (first n) (choose (nullable n) (first_set_of ss) []) s (begins_so n a s k)
    go (inr k) = rw (empty_so n a k.0) (has_right (first n) (first_set_of ss) s k.1)

pub begins : {ss : List Symbol} {es : List Seen} → Derives ss es → Begins (ahead (tokens_of es)) ss
unfolding tokens_of first_set_of empties has
begins nothing = refl
begins (reads h d) = rw h
begins (marks {m = m} {ss = ss} {es = es} d) = same (ahead (tokens_of es)) (begins d)
  where
    same : (o : Option ℕ) → Begins o ss → Begins o (mark m ∷ ss)
    same none h = h
    same (some s) h = h
begins (expands {n = n} {ss = ss} {es = es} a d) = begins_part n ss (ahead (tokens_of es)) a (begins d)

-- ---- A list of symbols that the machine may hold: what stands after a part may follow it.

abbrev pub Good : List Symbol → Type 0
Good [] = Unit {0}
Good (one lo hi ∷ ss) = (lo ≤ hi) × Good ss
Good (mark m ∷ ss) = Good ss
Good (part n ∷ ss) = ((s : ℕ) → has (first_set_of ss) s ≡ true → has (follow n) s ≡ true) × Good ss

good_append : (f : List (ℕ × ℕ)) (r ss : List Symbol) → followed f r ≡ true → ((s : ℕ) → has (first_set_of ss) s ≡ true → has f s ≡ true) → Good ss → Good (r ++ ss)
unfolding followed
good_append f [] ss e h g = g
good_append f (one lo hi ∷ r) ss e h g =
    let b = both (leb lo hi) (followed f r) e in
    (leb-true lo hi b.0, good_append f r ss b.1 h g)
good_append f (mark m ∷ r) ss e h g = good_append f r ss e h g
good_append f (part n ∷ r) ss e h g =
    let b = both (subset (first_set_of r) (follow n) && (not (empties r) || subset f (follow n))) (followed f r) e in
    let c = both (subset (first_set_of r) (follow n)) (not (empties r) || subset f (follow n)) b.0 in
    (after c, good_append f r ss b.1 h g)
  where
    after :
        (subset (first_set_of r) (follow n) ≡ true) × ((not (empties r) || subset f (follow n)) ≡ true) → (s : ℕ) → has (first_set_of (r ++ ss)) s ≡ true →
        has (follow n) s ≡ true
    after c s k = go (first_append r ss s k)
      where
        go : First r ss s → has (follow n) s ≡ true
        go (inl i) = subset_has (first_set_of r) (follow n) s c.0 i
        go (inr i) = subset_has f (follow n) s (implied (empties r) (subset f (follow n)) c.1 i.0) (h s i.1)

pub good_expand : (n : Part) {r : List Symbol} (ss : List Symbol) → Among r (rule n) → Good (part n ∷ ss) → Good (r ++ ss)
good_expand n {r} ss a g = good_append (follow n) r ss (follows_it n a) g.0 g.1

pub good_document : Good (part Document ∷ [])
unfolding first_set_of has
good_document = (λ s h. clash h, tt)

-- ---- The alternative that is picked.

pub beginning_is : (s : ℕ) (rs : List (List Symbol)) {r : List Symbol} → unlike rs ≡ true → Among r rs → has (first_set_of r) s ≡ true → beginning s rs ≡ some r
unfolding beginning unlike
beginning_is s [] e a h = elim a [ ]
beginning_is s (r ∷ rs) e here h = rw h
beginning_is s (q ∷ rs) {r} e (there a) h = go (has (first_set_of q) s) refl (beginning_is s rs two.1 a h)
  where
    two : (all (λ p. disjoint (first_set_of q) (first_set_of p)) rs ≡ true) × (unlike rs ≡ true)
    two = both (all (λ p. disjoint (first_set_of q) (first_set_of p)) rs) (unlike rs) e

    go : (b : Bool) → has (first_set_of q) s ≡ b → beginning s rs ≡ some r → choose b (some q) (beginning s rs) ≡ some r
    go true k f = absurd (disjoint_has (first_set_of q) (first_set_of r) s (all_among (λ p. disjoint (first_set_of q) (first_set_of p)) rs two.0 a) k h)
    go false k f = f

pub beginning_none : (s : ℕ) (rs : List (List Symbol)) → ((r : List Symbol) → Among r rs → has (first_set_of r) s ≡ true → ⊥) → beginning s rs ≡ none
unfolding beginning
beginning_none s [] h = refl
beginning_none s (r ∷ rs) h = go (has (first_set_of r) s) refl (beginning_none s rs (λ q a. h q (there a)))
  where
    go : (b : Bool) → has (first_set_of r) s ≡ b → beginning s rs ≡ none → choose b (some r) (beginning s rs) ≡ none
    go true k f = absurd (h r here k)
    go false k f = f

pub emptied_is : (rs : List (List Symbol)) {r : List Symbol} → lone rs ≡ true → Among r rs → empties r ≡ true → emptied rs ≡ some r
unfolding emptied lone
emptied_is [] e a h = elim a [ ]
emptied_is (r ∷ rs) e here h = rw h
emptied_is (q ∷ rs) {r} e (there a) h = go (empties q) refl two.0 (emptied_is rs two.1 a h)
  where
    two : ((not (empties q) || all (λ p. not (empties p)) rs) ≡ true) × (lone rs ≡ true)
    two = both (not (empties q) || all (λ p. not (empties p)) rs) (lone rs) e

    go : (b : Bool) → empties q ≡ b → (not b || all (λ p. not (empties p)) rs) ≡ true → emptied rs ≡ some r → choose b (some q) (emptied rs) ≡ some r
    go true k n f = clash (sym (ap not h) ∙ all_among (λ p. not (empties p)) rs n a)
    go false k n f = f

pub chosen : (n : Part) {r : List Symbol} (ss : List Symbol) (o : Option ℕ) → Among r (rule n) → Good (part n ∷ ss) → Begins o (r ++ ss) → pick o n ≡ some r
unfolding pick
chosen n {r} ss none a g h = emptied_is (rule n) (facts n).single a (empties_append r ss h).0
chosen n {r} ss (some s) a g h = go (first_append r ss s h)
  where
    go : First r ss s → found (beginning s (rule n)) (λ r. some r) (emptied (rule n)) ≡ some r
    go (inl k) = rw (beginning_is s (rule n) (facts n).unalike a k)
    go (inr k) =
        let d = implied (nullable n) (disjoint (first n) (follow n)) (facts n).distinct (empty_so n a k.0) in
        let b = beginning_none s (rule n) (λ q i j. disjoint_has (first n) (follow n) s d (begins_so n i s j) (g.0 s k.1)) in
        rw b (emptied_is (rule n) (facts n).single a k.0)

-- What is picked is an alternative.
beginning_among : (s : ℕ) (rs : List (List Symbol)) (r : List Symbol) → beginning s rs ≡ some r → Among r rs
unfolding beginning
beginning_among s [] r e = let z : ◌≡◌ {A = ℕ} 0 1 = cc in absurd (omega arith)
beginning_among s (q ∷ rs) r e = go (has (first_set_of q) s) e (beginning_among s rs r)
  where
    go : (b : Bool) → choose b (some q) (beginning s rs) ≡ some r → (beginning s rs ≡ some r → Among r rs) → Among r (q ∷ rs)
    go true k f = let z : q ≡ r = cc in subst (λ (x : List Symbol). Among x (q ∷ rs)) z here
    go false k f = there (f k)

emptied_among : (rs : List (List Symbol)) (r : List Symbol) → emptied rs ≡ some r → Among r rs
unfolding emptied
emptied_among [] r e = let z : ◌≡◌ {A = ℕ} 0 1 = cc in absurd (omega arith)
emptied_among (q ∷ rs) r e = go (empties q) e (emptied_among rs r)
  where
    go : (b : Bool) → choose b (some q) (emptied rs) ≡ some r → (emptied rs ≡ some r → Among r rs) → Among r (q ∷ rs)
    go true k f = let z : q ≡ r = cc in subst (λ (x : List Symbol). Among x (q ∷ rs)) z here
    go false k f = there (f k)

pub picked : (o : Option ℕ) (n : Part) (r : List Symbol) → pick o n ≡ some r → Among r (rule n)
unfolding pick
picked none n r e = emptied_among (rule n) r e
picked (some s) n r e = go (beginning s (rule n)) refl e
  where
    go : (b : Option (List Symbol)) → beginning s (rule n) ≡ b → found b (λ r. some r) (emptied (rule n)) ≡ some r → Among r (rule n)
    go none k f = emptied_among (rule n) r f
    go (some q) k f = beginning_among s (rule n) r (k ∙ f)
