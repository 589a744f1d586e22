-- Taking a derivation apart and putting pieces together: what a text of the grammar is made of, and what other texts can be made of it.
use mathlib.Core.Path.{◌≡◌, refl, sym, ap, ◌∙◌, subst}
use mathlib.Core.List.{List, [], ◌∷◌, ◌++◌, append_assoc}
use mathlib.Core.Bool.{true}
use mathlib.Core.Logic.{◌⊎◌, inl, inr}
use Prim.Native.Nat.{ℕ, zero, suc, ◌≤◌}
use native.Mathlib.Omega.{arith}
use Rattle.definition.specs.Lists.{Among, here, there}
use Rattle.definition.specs.Grammar.{Mark, Symbol, one, part, mark, Part, Document, Definition, Definition*, rule, within}
use Rattle.definition.specs.Derivation.{Token, Seen, token, marked, Derives, nothing, reads, marks, expands}

-- ---- Two derivations, one after the other.

pub join : {ss us : List Symbol} {es fs : List Seen} → Derives ss es → Derives us fs → Derives (ss ++ us) (es ++ fs)
join nothing f = f
join (reads h d) f = reads h (join d f)
join (marks d) f = marks (join d f)
join {us = us} {fs = fs} (expands {r = r} {ss = ss} {es = es} a d) f = expands a
    (subst (λ (v : List Symbol). Derives v (es ++ fs)) (append_assoc r ss us) (join d f))

-- ---- A derivation of joined symbols is two.

-- A derivation with its length.
pub data Long : ℕ → List Symbol → List Seen → Type 0 where
  l_nothing : Long 0 [] []
  l_reads : {n lo hi : ℕ} {t : Token} {ss : List Symbol} {es : List Seen} → within lo hi t.sort ≡ true → Long n ss es →
      Long (suc n) (one lo hi ∷ ss) (token t ∷ es)
  l_marks : {n : ℕ} {m : Mark} {ss : List Symbol} {es : List Seen} → Long n ss es → Long (suc n) (mark m ∷ ss) (marked m ∷ es)
  l_expands : {k : ℕ} {n : Part} {r ss : List Symbol} {es : List Seen} → Among r (rule n) → Long k (r ++ ss) es → Long (suc k) (part n ∷ ss) es

pub record Measured (ss : List Symbol) (es : List Seen) : Type 0 where
  pub length : ℕ
  pub long : Long length ss es

pub measured : {ss : List Symbol} {es : List Seen} → Derives ss es → Measured ss es
measured nothing = record { length = 0; long = l_nothing }
measured (reads h d) = let m = measured d in record { length = suc m.length; long = l_reads h m.long }
measured (marks d) = let m = measured d in record { length = suc m.length; long = l_marks m.long }
measured (expands a d) = let m = measured d in record { length = suc m.length; long = l_expands a m.long }

pub unmeasured : {n : ℕ} {ss : List Symbol} {es : List Seen} → Long n ss es → Derives ss es
unmeasured l_nothing = nothing
unmeasured (l_reads h d) = reads h (unmeasured d)
unmeasured (l_marks d) = marks (unmeasured d)
unmeasured (l_expands a d) = expands a (unmeasured d)

pub record Parted (ss us : List Symbol) (es : List Seen) (n : ℕ) : Type 0 where
  pub front : List Seen
  pub back : List Seen
  pub is : es ≡ front ++ back
  pub first : Derives ss front
  pub length : ℕ
  pub second : Long length us back
  pub less : length ≤ n

none_left : {A : Type 0} (s : Symbol) (ss us : List Symbol) → [] ≡ (s ∷ ss) ++ us → A
none_left s ss us i = let z : ◌≡◌ {A = ℕ} 0 1 = cc in absurd (omega arith)

whole_back : {n : ℕ} {vs : List Symbol} {es : List Seen} → Long n vs es → (us : List Symbol) → vs ≡ us → Parted [] us es n
whole_back {n} {vs} {es} d us i = record {
  front = [];
  back = es;
  is = refl;
  first = nothing;
  length = n;
  second =
      subst (λ (v : List Symbol). Long n v es) i d;
  less = omega arith;
}

pub part_at : {n : ℕ} {vs : List Symbol} {es : List Seen} → Long n vs es → (ss us : List Symbol) → vs ≡ ss ++ us → Parted ss us es n
part_at l_nothing ss us i = go ss i
  where
    go : (ss : List Symbol) → [] ≡ ss ++ us → Parted ss us [] 0
    go [] i = whole_back l_nothing us i
    go (s ∷ ss) i = none_left s ss us i
part_at (l_reads {n = n} {lo = lo} {hi = hi} {t = t} {ss = vs} {es = es} h d) ss us i = go ss i (part_at d)
  where
    go : (ss : List Symbol) → one lo hi ∷ vs ≡ ss ++ us → ((ss us : List Symbol) → vs ≡ ss ++ us → Parted ss us es n) → Parted ss us (token t ∷ es) (suc n)
    go [] i f = whole_back (l_reads h d) us i
    go (s ∷ ss) i f =
        let z : one lo hi ≡ s = cc in
        let p = f ss us (cc) in
        record {
          front = token t ∷ p.front;
          back = p.back;
          is = ap (λ (x : List Seen). token t ∷ x) p.is;
          first =
              subst (λ (x : Symbol). Derives (x ∷ ss) (token t ∷ p.front)) z (reads h p.first);
          length = p.length;
          second = p.second;
          less =
              omega (arith, p.less);
        }
part_at (l_marks {n = n} {m = m} {ss = vs} {es = es} d) ss us i = go ss i (part_at d)
  where
    go : (ss : List Symbol) → mark m ∷ vs ≡ ss ++ us → ((ss us : List Symbol) → vs ≡ ss ++ us → Parted ss us es n) → Parted ss us (marked m ∷ es) (suc n)
    go [] i f = whole_back (l_marks d) us i
    go (s ∷ ss) i f =
        let z : mark m ≡ s = cc in
        let p = f ss us (cc) in
        record {
          front = marked m ∷ p.front;
          back = p.back;
          is = ap (λ (x : List Seen). marked m ∷ x) p.is;
          first =
              subst (λ (x : Symbol). Derives (x ∷ ss) (marked m ∷ p.front)) z (marks p.first);
          length = p.length;
          second = p.second;
          less =
              omega (arith, p.less);
        }
part_at (l_expands {k = k} {n = n} {r = r} {ss = vs} {es = es} a d) ss us i = go ss i (part_at d)
  where
    go : (ss : List Symbol) → part n ∷ vs ≡ ss ++ us → ((ss us : List Symbol) → r ++ vs ≡ ss ++ us → Parted ss us es k) → Parted ss us es (suc k)
    go [] i f = whole_back (l_expands a d) us i
    go (s ∷ ss) i f =
        let z : part n ≡ s = cc in
        let y : vs ≡ ss ++ us = cc in
        let p = f (r ++ ss) us (ap (λ (x : List Symbol). r ++ x) y ∙ sym (append_assoc r ss us)) in
        record {
          front = p.front;
          back = p.back;
          is = p.is;
          first = subst (λ (x : Symbol). Derives (x ∷ ss) p.front) z (expands a p.first);
          length = p.length;
          second = p.second;
          less = omega (arith, p.less);
        }

-- The pieces of two lists of symbols.
pub record Pieces (ss us : List Symbol) (es : List Seen) : Type 0 where
  pub front : List Seen
  pub back : List Seen
  pub is : es ≡ front ++ back
  pub first : Derives ss front
  pub second : Derives us back

pub split : (ss us : List Symbol) {es : List Seen} → Derives (ss ++ us) es → Pieces ss us es
split ss us d =
    let p = part_at (measured d).long ss us refl in
    record { front = p.front; back = p.back; is = p.is; first = p.first; second = unmeasured p.second }

-- ---- A repeated part is a list of pieces, and any list of pieces is one.

-- Things seen that are pieces of a part, one after another.
pub data Repeated (n : Part) : List Seen → Type 0 where
  none : Repeated n []
  more : {es fs : List Seen} → Derives (part n ∷ []) es → Repeated n fs → Repeated n (es ++ fs)

pub repeated_in : (n m : Part) → Among (part n ∷ part m ∷ []) (rule m) → Among [] (rule m) → {es : List Seen} → Repeated n es → Derives (part m ∷ []) es
repeated_in n m a b none = expands b nothing
repeated_in n m a b (more d r) = expands a (join d (repeated_in n m a b r))

-- The alternatives of a repeated part are these two.
abbrev pub TwoWays : Part → Part → Type 0
TwoWays n m = rule m ≡ (part n ∷ part m ∷ []) ∷ [] ∷ []

single : (r q : List Symbol) → Among r (q ∷ []) → r ≡ q
single r q here = refl
single r q (there a) = elim a [ ]

way : (n m : Part) (r : List Symbol) → Among r ((part n ∷ part m ∷ []) ∷ [] ∷ []) → (r ≡ part n ∷ part m ∷ []) ⊎ (r ≡ [])
way n m r here = inl refl
way n m r (there a) = inr (single r [] a)

no_seen : (n : Part) {j : ℕ} {es : List Seen} → Long j [] es → Repeated n es
no_seen n l_nothing = none

repeated_by : (n m : Part) → TwoWays n m → (k j : ℕ) (es : List Seen) → Long j (part m ∷ []) es → j ≤ k → Repeated n es
repeated_by n m t zero j es (l_expands a d) h = absurd (omega arith)
repeated_by n m t (suc k) j es (l_expands {k = i} {r = r} a d) h = go (way n m r (subst (λ (rs : List (List Symbol)). Among r rs) t a)) (repeated_by n m t k)
  where
    go : (r ≡ part n ∷ part m ∷ []) ⊎ (r ≡ []) → ((j : ℕ) (es : List Seen) → Long j (part m ∷ []) es → j ≤ k → Repeated n es) → Repeated n es
    go (inl e) f =
        let p = part_at (subst (λ (x : List Symbol). Long i (x ++ []) es) e d) (part n ∷ []) (part m ∷ []) refl in
        subst (λ (x : List Seen). Repeated n x) (sym p.is) (more p.first (f p.length p.back p.second (omega (arith, p.less))))
    go (inr e) f = no_seen n (subst (λ (x : List Symbol). Long i (x ++ []) es) e d)

pub repeated_out : (n m : Part) → TwoWays n m → {es : List Seen} → Derives (part m ∷ []) es → Repeated n es
repeated_out n m t {es} d = let l = measured d in repeated_by n m t l.length l.length es l.long (omega arith)

-- ---- A document is its definitions: a text of the grammar falls apart into them, and any definitions make one.

pub record Definitions (es : List Seen) : Type 0 where
  pub head : List Seen
  pub tail : List Seen
  pub is : es ≡ head ++ tail
  pub one : Derives (part Definition ∷ []) head
  pub others : Repeated Definition tail

pub definitions : {es : List Seen} → Derives (part Document ∷ []) es → Definitions es
unfolding rule
definitions {es} (expands {r = r} a d) =
    let e = single r (part Definition ∷ part Definition* ∷ []) a in
    let p = split (part Definition ∷ []) (part Definition* ∷ []) (subst (λ (x : List Symbol). Derives (x ++ []) es) e d) in
    record { head = p.front; tail = p.back; is = p.is; one = p.first; others = repeated_out Definition Definition* refl p.second }

pub document : {es fs : List Seen} → Derives (part Definition ∷ []) es → Repeated Definition fs → Derives (part Document ∷ []) (es ++ fs)
unfolding rule
document d r = expands here (join d (repeated_in Definition Definition* here (there here) r))
