-- What code goes by: how a reading that has come to a place ends, as a function of the tokens from there on, the symbols still to come, the levels open
-- and the cards so far; and one law for each step. A function that reads a part says: for all symbols after it, the reading from here with the part
-- before them ends as the reading from where it stops without it, or in the refusal that it returns.
use mathlib.Core.Path.{◌≡◌, refl, sym, ap, ◌∙◌, subst}
use mathlib.Core.List.{List, [], ◌∷◌, ◌++◌}
use mathlib.Core.Bool.{Bool, true, false}
use mathlib.Core.Option.{Option, none, some}
use Prim.Native.Nat.{ℕ, ◌≤◌, ◌<◌}
use native.Mathlib.Omega.{arith}
use borrow.Author.Tests.{le-leb, lt-leb}
use lib.Dec.{leb}
use Rattle.definition.specs.Lists.{choose, found}
use Rattle.definition.specs.Grammar.{Mark, Symbol, one, part, mark, Part, Document, within}
use Rattle.definition.specs.Derivation.{Token, Seen, token, marked}
use Rattle.definition.specs.Lexical.{Lexed}
use Rattle.definition.specs.Machine.{pick, ahead, Ending, whole, stops, Walks, finish, surplus, shift, wrong, missing, note, expand, stuck, Walked, walk}
use Rattle.definition.specs.ItemCards.{Listing, noting, passed, next, listed, nothing_listed, too_deep, level_after, levels}
use Rattle.definition.specs.Reading.{Reading, accepted, refused, place_at, judged}
use Rattle.parser_laws.specs.Verdict.{Verdict, passes, fails, ended_by, verdict_of, verdict, before, next_of}
use Rattle.parser_laws.proofs.Tests.{clash}
use Rattle.parser_laws.proofs.Walking.{walks}

-- ---- The machine has one way.

pub record Same (es : List Seen) (e : Ending) (w : Walked) : Type 0 where
  pub seen : w.seen ≡ es
  pub ending : w.ending ≡ e

one_way_lem : {ts : List Token} {ss : List Symbol} {es fs : List Seen} {e f : Ending} → Walks ts ss es e → Walks ts ss fs f → (fs ≡ es) × (f ≡ e)
one_way_lem finish finish = (refl, refl)
one_way_lem surplus surplus = (refl, refl)
one_way_lem (shift {t = t} h w) (shift k v) = let i = one_way_lem w v in (ap (λ (xs : List Seen). token t ∷ xs) i.0, i.1)
one_way_lem (shift h w) (wrong k) = clash (sym k ∙ h)
one_way_lem (wrong h) (shift k v) = clash (sym h ∙ k)
one_way_lem (wrong h) (wrong k) = (refl, refl)
one_way_lem missing missing = (refl, refl)
one_way_lem (note {m = m} w) (note v) = let i = one_way_lem w v in (ap (λ (xs : List Seen). marked m ∷ xs) i.0, i.1)
one_way_lem (expand {r = r} {ts = ts} {ss = ss} h w) (expand {r = q} {es = fs} {e = f} k v) = let z : q ≡ r = cc in
    one_way_lem w (subst (λ (x : List Symbol). Walks ts (x ++ ss) fs f) z v)
one_way_lem (expand h w) (stuck k) = let z : ◌≡◌ {A = ℕ} 0 1 = cc in absurd (omega arith)
one_way_lem (stuck h) (expand k v) = let z : ◌≡◌ {A = ℕ} 0 1 = cc in absurd (omega arith)
one_way_lem (stuck h) (stuck k) = (refl, refl)

goes : {ts : List Token} {ss : List Symbol} {es : List Seen} {e : Ending} → Walks ts ss es e → walk ts ss ≡ record { seen = es; ending = e }
goes {ts} {ss} w = let i = one_way_lem w (walks ts ss) in λ j. record { seen = i.0 j; ending = i.1 j }

-- ---- The steps.

module _ (l : Lexed) (ss : List Symbol) (level : ℕ) (c : Listing) where
  pub by_part : (n : Part) (r : List Symbol) → pick (ahead l.tokens) n ≡ some r → verdict l (part n ∷ ss) level c ≡ verdict l (r ++ ss) level c
  unfolding verdict
  by_part n r h = ap (verdict_of l level c) (goes (expand h (walks l.tokens (r ++ ss))))

  pub by_stuck : (n : Part) → pick (ahead l.tokens) n ≡ none → verdict l (part n ∷ ss) level c ≡ fails 29 (place_at l.tokens l.ends)
  unfolding verdict verdict_of too_deep
  by_stuck n h = ap (verdict_of l level c) (goes (stuck h))

  pub by_token : (t : Token) (lo hi : ℕ) → within lo hi t.sort ≡ true → level ≤ 32 →
      verdict (before t l) (one lo hi ∷ ss) level c ≡ verdict l ss level (passed t c)
  unfolding verdict verdict_of too_deep listed
  by_token t lo hi h k = ap (verdict_of (before t l) level c) (goes (shift h (walks l.tokens ss))) ∙ go (walk l.tokens ss).ending
    where
      go : (e : Ending) → found (choose (leb level levels) (too_deep level (walk l.tokens ss).seen) (some t.begins)) (λ p. fails 30 p)
          (ended_by (before t l) c (token t ∷ (walk l.tokens ss).seen) e) ≡
          found (too_deep level (walk l.tokens ss).seen) (λ p. fails 30 p) (ended_by l (passed t c) (walk l.tokens ss).seen e)
      go whole = rw (le-leb level 32 k)
      go (stops us) = rw (le-leb level 32 k)

  -- At the opener of a 33rd level.
  pub by_level : (t : Token) (lo hi : ℕ) → within lo hi t.sort ≡ true → 32 < level → verdict (before t l) (one lo hi ∷ ss) level c ≡ fails 30 t.begins
  unfolding verdict verdict_of too_deep
  by_level t lo hi h k = ap (verdict_of (before t l) level c) (goes (shift h (walks l.tokens ss))) ∙ rw (lt-leb level 32 k)

  pub by_wrong : (t : Token) (lo hi : ℕ) → within lo hi t.sort ≡ false → verdict (before t l) (one lo hi ∷ ss) level c ≡ fails 29 t.begins
  unfolding verdict verdict_of too_deep
  by_wrong t lo hi h = ap (verdict_of (before t l) level c) (goes (wrong h))

module _ (ends : ℕ) (level : ℕ) (c : Listing) where
  abbrev pub ending : Bool → Lexed
  ending b = record { tokens = []; ends = ends; broken = b }

  pub by_missing : (b : Bool) (lo hi : ℕ) (ss : List Symbol) → verdict (ending b) (one lo hi ∷ ss) level c ≡ fails 29 ends
  unfolding verdict verdict_of too_deep
  by_missing b lo hi ss = ap (verdict_of (ending b) level c) (goes missing)

  pub by_end : verdict (ending false) [] level c ≡ passes c
  unfolding verdict verdict_of too_deep listed
  by_end = ap (verdict_of (ending false) level c) (goes finish)

  pub by_unreadable : verdict (ending true) [] level c ≡ fails 29 ends
  unfolding verdict verdict_of too_deep listed
  by_unreadable = ap (verdict_of (ending true) level c) (goes finish)

pub by_surplus : (l : Lexed) (level : ℕ) (c : Listing) (t : Token) → verdict (before t l) [] level c ≡ fails 29 t.begins
unfolding verdict verdict_of too_deep
by_surplus l level c t = ap (verdict_of (before t l) level c) (goes surplus)

next_is : {ts : List Token} {ss : List Symbol} {es : List Seen} → Walks ts ss es whole → next es ≡ next_of ts
unfolding next
next_is finish = refl
next_is (shift h w) = refl
next_is (note w) = next_is w
next_is (expand h w) = next_is w

pub by_mark : (l : Lexed) (ss : List Symbol) (level : ℕ) (c : Listing) (m : Mark) →
    verdict l (mark m ∷ ss) level c ≡ verdict l ss (level_after m level) (noting m (next_of l.tokens) c)
unfolding verdict verdict_of too_deep listed
by_mark l ss level c m = ap (verdict_of l level c) (goes (note (walks l.tokens ss))) ∙
    go (walk l.tokens ss).seen (walk l.tokens ss).ending (walks l.tokens ss)
  where
    go : (es : List Seen) (e : Ending) → Walks l.tokens ss es e → found (too_deep (level_after m level) es) (λ p. fails 30 p)
        (ended_by l c (marked m ∷ es) e) ≡ found (too_deep (level_after m level) es) (λ p. fails 30 p) (ended_by l (noting m (next_of l.tokens) c) es e)
    go es whole w = ap (λ (x : Token). found (too_deep (level_after m level) es) (λ p. fails 30 p)
        (choose l.broken (fails 29 l.ends) (passes (listed (noting m x c) es)))) (next_is w)
    go es (stops us) w = refl

-- ---- The reading of a whole text is the verdict on it.

abbrev pub told : Reading → Verdict
told (accepted es) = passes (listed nothing_listed es)
told (refused n p) = fails n p

pub whole_verdict : (l : Lexed) → told (judged l (walk l.tokens (part Document ∷ []))) ≡ verdict l (part Document ∷ []) 0 nothing_listed
unfolding verdict verdict_of judged
whole_verdict l = go (walk l.tokens (part Document ∷ []))
  where
    go : (w : Walked) → told (judged l w) ≡ verdict_of l 0 nothing_listed w
    go w = deep (too_deep 0 w.seen) w.ending
      where
        deep : (o : Option ℕ) (e : Ending) → told (found o (λ p. refused 30 p)
            (elim e [ whole ↦ choose l.broken (refused 29 l.ends) (accepted w.seen) | stops ts ↦ refused 29 (place_at ts l.ends) ])) ≡
            found o (λ p. fails 30 p) (ended_by l nothing_listed w.seen e)
        deep (some p) e = refl
        deep none (stops us) = refl
        deep none whole = bit l.broken
          where
            bit : (b : Bool) → told (choose b (refused 29 l.ends) (accepted w.seen)) ≡
                choose b (fails 29 l.ends) (passes (listed nothing_listed w.seen))
            bit true = refl
            bit false = refl
