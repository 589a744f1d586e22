-- The machine is right: what it comes by is derived, it stops nowhere too early and nowhere too late.
use mathlib.Core.Path.{◌≡◌, refl, sym, ap, ◌∙◌, subst}
use mathlib.Core.List.{List, [], ◌∷◌, ◌++◌}
use mathlib.Core.Bool.{true}
use mathlib.Core.Option.{some}
use Prim.Native.Nat.{ℕ, zero, suc, ◌≤◌, ◌<◌}
use native.Mathlib.Omega.{arith}
use borrow.Author.Tests.{leb-true, ltb-true}
use lib.Dec.{leb, ltb}
use lib.ListN.{length}
use Rattle.definition.specs.Lists.{Among, here, there}
use Rattle.definition.specs.Grammar.{Symbol, one, part, mark, Part, rule, within}
use Rattle.definition.specs.GrammarSets.{rank, short}
use Rattle.definition.specs.Derivation.{Token, Seen, token, marked, Derives, nothing, reads, marks, expands, tokens_of}
use Rattle.definition.specs.Machine.{pick, ahead, whole, stops, Walks, finish, surplus, shift, wrong, missing, note, expand, stuck}
use Rattle.parser_laws.proofs.Tests.{clash, both, within_is}
use Rattle.parser_laws.proofs.Facts.{lower, numbered}
use Rattle.parser_laws.proofs.Theory.{facts, Good, good_expand, begins, chosen, picked}

-- ---- A reading to the end is a derivation.

pub sound : {ts : List Token} {ss : List Symbol} {es : List Seen} → Walks ts ss es whole → Derives ss es
sound finish = nothing
sound (shift h w) = reads h (sound w)
sound (note w) = marks (sound w)
sound (expand {n = n} {r = r} {ts = ts} e w) = expands (picked (ahead ts) n r e) (sound w)

pub read_all : {ts : List Token} {ss : List Symbol} {es : List Seen} → Walks ts ss es whole → tokens_of es ≡ ts
unfolding tokens_of
read_all finish = refl
read_all (shift {t = t} h w) = ap (λ (us : List Token). t ∷ us) (read_all w)
read_all (note w) = read_all w
read_all (expand e w) = read_all w

-- A reading that stops has come by the tokens before the one that is not wanted.
pub parted : {ts us : List Token} {ss : List Symbol} {es : List Seen} → Walks ts ss es (stops us) → ts ≡ tokens_of es ++ us
unfolding tokens_of
parted surplus = refl
parted (shift {t = t} h w) = ap (λ (vs : List Token). t ∷ vs) (parted w)
parted (wrong h) = refl
parted missing = refl
parted (note w) = parted w
parted (expand e w) = parted w
parted (stuck e) = refl

-- ---- Whatever symbols are still to come, some text comes by them.

pub record Completed (ss : List Symbol) : Type 0 where
  pub seen : List Seen
  pub derived : Derives ss seen

pub numbered_among : (i : ℕ) (rs : List (List Symbol)) → i < length rs → Among (numbered i rs) rs
unfolding numbered
numbered_among i [] h = absurd (omega arith)
numbered_among zero (r ∷ rs) h = here
numbered_among (suc i) (r ∷ rs) h = there (numbered_among i rs (omega arith))

read_one : (lo hi : ℕ) (ss : List Symbol) → lo ≤ hi → Completed ss → Completed (one lo hi ∷ ss)
read_one lo hi ss h c =
    let t : Token = record { sort = lo; begins = 0; size = 0 } in
    record { seen = token t ∷ c.seen; derived = reads (within_is lo hi lo (omega arith) h) c.derived }

onto :
    (k : ℕ) → ((n : Part) (ss : List Symbol) → rank n < k → Completed ss → Completed (part n ∷ ss)) → (r ss : List Symbol) → lower k r ≡ true →
    Completed ss → Completed (r ++ ss)
unfolding lower
onto k f [] ss e c = c
onto k f (one lo hi ∷ r) ss e c =
    let b = both (leb lo hi) (lower k r) e in
    read_one lo hi (r ++ ss) (leb-true lo hi b.0) (onto k f r ss b.1 c)
onto k f (mark m ∷ r) ss e c =
    let d = onto k f r ss e c in
    record { seen = marked m ∷ d.seen; derived = marks d.derived }
onto k f (part n ∷ r) ss e c =
    let b = both (ltb (rank n) k) (lower k r) e in
    f n (r ++ ss) (ltb-true (rank n) k b.0) (onto k f r ss b.1 c)

part_onto : (k : ℕ) (n : Part) (ss : List Symbol) → rank n < k → Completed ss → Completed (part n ∷ ss)
part_onto zero n ss h c = absurd (omega arith)
part_onto (suc k) n ss h c =
    let d = onto (rank n) (λ m us i b. part_onto k m us (omega arith) b) (numbered (short n) (rule n)) ss (facts n).sinks c in
    record { seen = d.seen; derived = expands (numbered_among (short n) (rule n) (ltb-true _ _ (facts n).there_is)) d.derived }

pub complete : (ss : List Symbol) → Good ss → Completed ss
complete [] g = record { seen = []; derived = nothing }
complete (one lo hi ∷ ss) g = read_one lo hi ss g.0 (complete ss g.1)
complete (mark m ∷ ss) g = let d = complete ss g in record { seen = marked m ∷ d.seen; derived = marks d.derived }
complete (part n ∷ ss) g = part_onto (suc (rank n)) n ss (omega arith) (complete ss g.1)

-- ---- It stops nowhere too late: what it has come by can be completed to a text of the grammar.

pub record Begun (ss : List Symbol) (es : List Seen) : Type 0 where
  pub rest : List Seen
  pub derived : Derives ss (es ++ rest)

begun : {ss : List Symbol} → Completed ss → Begun ss []
begun c = record { rest = c.seen; derived = c.derived }

pub begun_so : {ts us : List Token} {ss : List Symbol} {es : List Seen} → Walks ts ss es (stops us) → Good ss → Begun ss es
begun_so surplus g = begun (complete [] tt)
begun_so (shift h w) g = let b = begun_so w g.1 in record { rest = b.rest; derived = reads h b.derived }
begun_so (wrong {lo = lo} {hi = hi} {ss = ss} h) g = begun (complete (one lo hi ∷ ss) g)
begun_so (missing {lo = lo} {hi = hi} {ss = ss}) g = begun (complete (one lo hi ∷ ss) g)
begun_so (note w) g = let b = begun_so w g in record { rest = b.rest; derived = marks b.derived }
begun_so (expand {n = n} {r = r} {ts = ts} {ss = ss} e w) g =
    let a = picked (ahead ts) n r e in
    let b = begun_so w (good_expand n ss a g) in
    record { rest = b.rest; derived = expands a b.derived }
begun_so (stuck {n = n} {ss = ss} e) g = begun (complete (part n ∷ ss) g)

-- ---- It stops nowhere too early: no text of the grammar has there what it stops at.

-- vs begins with the first of us; where us is empty, so is vs.
abbrev pub Alike : List Token → List Token → Type 0
Alike [] vs = vs ≡ []
Alike (u ∷ us) vs = (ws : List Token) × (vs ≡ u ∷ ws)

ahead_alike : (xs us vs : List Token) → Alike us vs → ahead (xs ++ us) ≡ ahead (xs ++ vs)
ahead_alike [] [] vs h = rw h
ahead_alike [] (u ∷ us) vs h = rw h.1
ahead_alike (x ∷ xs) us vs h = refl

never : {A : Type 0} → {x : Token} {xs : List Token} → (x ∷ xs) ≡ [] → A
never e = let z : ◌≡◌ {A = ℕ} 0 1 = cc in absurd (omega arith)

-- The alternative that a derivation takes is the one that the machine picks.
pub same_way :
    (ts : List Token) (n : Part) (r q ss : List Symbol) {fs : List Seen} → pick (ahead ts) n ≡ some r → Among q (rule n) → Good (part n ∷ ss) →
    ahead ts ≡ ahead (tokens_of fs) → Derives (q ++ ss) fs → Derives (r ++ ss) fs
same_way ts n r q ss {fs} e a g h d =
    let c = chosen n ss (ahead (tokens_of fs)) a g (begins d) in
    let z : q ≡ r = cc in
    subst (λ (x : List Symbol). Derives (x ++ ss) fs) z d

pub unwanted :
    {ts us : List Token} {ss : List Symbol} {es fs : List Seen} → Walks ts ss es (stops us) → Good ss → Derives ss fs → (vs : List Token) →
    tokens_of fs ≡ tokens_of es ++ vs → Alike us vs → ⊥
unfolding tokens_of
unwanted surplus g nothing vs e h = never (sym (e ∙ h.1))
unwanted (shift i w) g (reads j d) vs e h = unwanted w g.1 d vs (cc) h
unwanted (wrong {lo = lo} {hi = hi} {t = t} i) g (reads {t = u} j d) vs e h =
    let f = e ∙ h.1 in
    let z : u ≡ t = cc in
    clash (sym i ∙ ap (λ (x : Token). within lo hi x.sort) (sym z) ∙ j)
unwanted missing g (reads j d) vs e h = never (e ∙ h)
unwanted (note w) g (marks d) vs e h = unwanted w g d vs e h
unwanted {us = us} (expand {n = n} {r = r} {ts = ts} {ss = ss} {es = es} i w) g (expands {r = q} {es = fs} a d) vs e h =
    let k : ahead ts ≡ ahead (tokens_of fs) = ap ahead (parted w) ∙ ahead_alike (tokens_of es) us vs h ∙ ap ahead (sym e) in
    unwanted w (good_expand n ss (picked (ahead ts) n r i) g) (same_way ts n r q ss i a g k d) vs e h
unwanted (stuck {n = n} {ts = ts} {ss = ss} i) g (expands {r = q} {es = fs} a d) vs e h =
    let k : ahead ts ≡ ahead (tokens_of fs) = ahead_alike [] ts vs h ∙ ap ahead (sym e) in
    let c = chosen n ss (ahead (tokens_of fs)) a g (begins d) in
    let z : ◌≡◌ {A = ℕ} 0 1 = cc in
    omega arith

-- ---- A text of the grammar is come by in one way only.

pub unique : {ts : List Token} {ss : List Symbol} {es fs : List Seen} → Walks ts ss es whole → Good ss → Derives ss fs → tokens_of fs ≡ ts → fs ≡ es
unfolding tokens_of
unique finish g nothing e = refl
unique (shift {t = t} {es = es} i w) g (reads {t = u} {es = fs} j d) e =
    let z : u ≡ t = cc in
    let q = unique w g.1 d (cc) in
    ap (λ (x : Token). token x ∷ fs) z ∙ ap (λ (xs : List Seen). token t ∷ xs) q
unique (note {m = m} w) g (marks d) e = ap (λ (xs : List Seen). marked m ∷ xs) (unique w g d e)
unique (expand {n = n} {r = r} {ts = ts} {ss = ss} i w) g (expands {r = q} a d) e =
    unique w (good_expand n ss (picked (ahead ts) n r i) g) (same_way ts n r q ss i a g (ap ahead (sym e)) d) e

-- Where some derivation has just these tokens, the machine reads to the end.
pub never_stops : {ts us : List Token} {ss : List Symbol} {es fs : List Seen} → Walks ts ss es (stops us) → Good ss → Derives ss fs → tokens_of fs ≡ ts → ⊥
never_stops {us = us} w g d e = unwanted w g d us (e ∙ parted w) (alike us)
  where
    alike : (us : List Token) → Alike us us
    alike [] = refl
    alike (u ∷ us) = (us, refl)
