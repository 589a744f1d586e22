-- What functions promise of symbols, joined as their code goes: one call after the other, a refusal handed on, a loop.
use mathlib.Core.Path.{◌≡◌, refl, sym, ap, subst, ◌∙◌}
use mathlib.Core.List.{List, [], ◌∷◌, ◌++◌}
use mathlib.Core.Bool.{Bool, true, false}
use mathlib.Core.Logic.{◌⊎◌, inl, inr}
use Prim.Native.Nat.{ℕ, ◌+◌, ◌-◌, ◌≤◌, ◌<◌}
use native.Mathlib.Omega.{arith}
use lib.ListN.{length}
use Rattle.definition.specs.Lists.{choose, Among}
use Rattle.definition.specs.Grammar.{Symbol, one, part, mark, Part, rule, within, deeper, shallower}
use Rattle.definition.specs.GrammarSets.{nullable, first}
use Rattle.definition.specs.Machine.{has, first_set_of}
use Rattle.parser_laws.proofs.Tests.{clash, within_is, within_bounds, subset, subset_has, has_append}
use Rattle.parser_laws.proofs.Picking.{other}
use Rattle.parser_lexer.specs.Sorts.{sort_number}
use Rattle.parser_lexer.specs.Ahead.{Ahead, Next}
use Rattle.parser_lexer.specs.Places.{Lies}
use Rattle.parser_lexer.specs.declared.cursor.Cursor.{Cursor}
use Rattle.parser_values.specs.Reads.{End, Reads, Within, Stays, Moves, Must, May, Flat, FlatRead, Optional, OptionalRead}
use Rattle.std.specs.Prelude.{Ok, Err, IsErr, IsErrAnd}
use Rattle.std.proofs.lemmas.Result.{err_from_is_err_and}
use Rattle.parser_values.specs.declared.error.SyntaxError.{SyntaxError}
use Rattle.parser_values.specs.declared.error.SyntaxError.TheVariants.{NotInGrammar, NestedTooDeep}
use Rattle.parser_values.proofs.Joining.{and_then, or_err, reads_none, reads_token, lacks_token, opens, skips, refuses, a_level_deeper, too_deep_lem}
use Rattle.parser_values.proofs.Joining.{at_first, finished, further, once_more, opened}

-- ---- What is promised: of the next token, and in the middle.

-- In the middle of ps, which begins at b: the symbols us are left, from k on.
abbrev pub Mid : List Symbol → List ℕ → Cursor → ℕ → List Symbol → Cursor → Type 0
Mid ps text b level us k = (Ahead text b → Within ps text b level us k) × (k.text.now ≡ text) × (b.last ≤ k.last)

-- What `?` hands on is the refusal that it was given.
pub handed : (r : End) (e : SyntaxError) → IsErr r × IsErrAnd r (λ x. x ≡ e) → r ≡ Err e
handed r e h = let p = err_from_is_err_and r h.1 in p.1 ∙ ap Err p.2

-- The places of a cursor of a text lie in it.
pub lies : {text : List ℕ} (c : Cursor) → c.text.now ≡ text → Lies (length text) (sort_number c.sort) c.begins c.ends c.last c.cards
lies c e = subst (λ (t : List ℕ). Lies (length t) (sort_number c.sort) c.begins c.ends c.last c.cards) e c.lies

pub stays : (text : List ℕ) (c : Cursor) (e : End) → Moves text c e → Stays text c e
stays text c (Ok k) m = (m.0, omega arith)
stays text c (Err x) m = m

pub moves_on : (text : List ℕ) (c k : Cursor) (e : End) → c.last < k.last → Stays text k e → Moves text c e
moves_on text c k (Ok j) l m = (m.0, omega arith)
moves_on text c k (Err x) l m = m

pub stays_on : (text : List ℕ) (c k : Cursor) (e : End) → c.last ≤ k.last → Stays text k e → Stays text c e
stays_on text c k (Ok j) l m = (m.0, omega arith)
stays_on text c k (Err x) l m = m

moves_after : (text : List ℕ) (c k : Cursor) (e : End) → c.last ≤ k.last → Moves text k e → Moves text c e
moves_after text c k (Ok j) l m = (m.0, omega arith)
moves_after text c k (Err x) l m = m

-- ---- Small tests on sorts.

a_token : (s : ℕ) → has ((0, 54) ∷ []) s ≡ true → s ≤ 54
unfolding has
a_token s e = go (within 0 54 s) refl e
  where
    go : (t : Bool) → within 0 54 s ≡ t → choose t true false ≡ true → s ≤ 54
    go true k p = (within_bounds 0 54 s k).1
    go false k p = clash p

pub not_among : (x s : ℕ) → (s ≡ x → ⊥) → has ((x, x) ∷ []) s ≡ false
unfolding has
not_among x s n = rw (other x s n)

lacking : (lo hi s : ℕ) → has ((lo, hi) ∷ []) s ≡ false → within lo hi s ≡ false
unfolding has
lacking lo hi s e = go (within lo hi s) refl e
  where
    go : (t : Bool) → within lo hi s ≡ t → choose t true false ≡ false → t ≡ false
    go true k p = clash (sym p)
    go false k p = refl

pub begins_with : (x s : ℕ) (rest : List Symbol) → s ≡ x → has (first_set_of (one x x ∷ rest)) s ≡ true
unfolding has first_set_of
begins_with x s rest e = rw (within_is x x s (omega arith) (omega arith))

bracket_begins : (x : ℕ) (rest : List Symbol) → has (first_set_of (mark deeper ∷ one x x ∷ rest)) x ≡ true
unfolding has first_set_of
bracket_begins x rest = rw (within_is x x x (omega arith) (omega arith))

module _ {text : List ℕ} {level : ℕ} where
  pub may : {c : Cursor} {ps : List Symbol} {e : End} → Must ps text c level e → May ps text c level e
  may {c} {ps} {e} f = (f.0, stays text c e f.1)

  -- What is promised of a cursor's own text.
  pub must_in : {k : Cursor} {ps : List Symbol} {e : End} → k.text.now ≡ text → Must ps k.text.now k level e → Must ps text k level e
  must_in {k} {ps} {e} i f = subst (λ (t : List ℕ). Must ps t k level e) i f

  pub may_in : {k : Cursor} {ps : List Symbol} {e : End} → k.text.now ≡ text → May ps k.text.now k level e → May ps text k level e
  may_in {k} {ps} {e} i f = subst (λ (t : List ℕ). May ps t k level e) i f

  -- ---- One call after the other.

  and_so : {c k : Cursor} (ps qs : List Symbol) {r : End} → (Ahead text c → Reads ps text c level (Ok k)) → (Ahead text k → Reads qs text k level r) →
      Ahead text c → Reads (ps ++ qs) text c level r
  and_so ps qs f g a = let x = f a in and_then text level ps qs x (g x.ready.0)

  -- The second may be empty.
  pub joined_may : {c k : Cursor} {r : End} {ps qs : List Symbol} → Must ps text c level (Ok k) → May qs k.text.now k level r → Must (ps ++ qs) text c level r
  joined_may {c} {k} {r} {ps} {qs} f h =
      let g : May qs text k level r = may_in f.1.0 h in
      (and_so ps qs f.0 g.0, moves_on text c k r f.1.1 g.1)

  pub joined : {c k : Cursor} {r : End} {ps qs : List Symbol} → Must ps text c level (Ok k) → Must qs k.text.now k level r → Must (ps ++ qs) text c level r
  joined {c} {k} {r} {ps} {qs} f g = joined_may f (g.0, stays k.text.now k r g.1)

  -- The first may be empty.
  pub may_joined : {c k : Cursor} {r : End} {ps qs : List Symbol} → May ps text c level (Ok k) → Must qs k.text.now k level r → Must (ps ++ qs) text c level r
  may_joined {c} {k} {r} {ps} {qs} f h =
      let g : Must qs text k level r = must_in f.1.0 h in
      (and_so ps qs f.0 g.0, moves_after text c k r f.1.1 g.1)

  -- A refusal handed on, before the symbols qs.
  pub may_stop : {c : Cursor} {ps : List Symbol} {e : SyntaxError} (qs : List Symbol) → May ps text c level (Err e) → Must (ps ++ qs) text c level (Err e)
  may_stop {c} {ps} {e} qs f = (λ a. or_err text level ps qs (f.0 a), f.1)

  pub stops : {c : Cursor} {ps : List Symbol} {e : SyntaxError} (qs : List Symbol) → Must ps text c level (Err e) → Must (ps ++ qs) text c level (Err e)
  stops qs f = may_stop qs (f.0, f.1)

  -- ---- A token whose sort the code has seen.

  pub token : {c k : Cursor} (x : ℕ) → sort_number c.sort ≡ x → x ≤ 54 → level ≤ 32 → c.text.now ≡ text → Next text c.ends c.cards k → Must (one x x ∷ []) text c level (Ok k)
  token {c} {k} x i s l m n =
      let p = lies c m in (
        λ a. reads_token text level c k a n.0 n.2 n.3 x x s (within_is x x (sort_number c.sort) (omega arith) (omega arith)) l,
        (n.1, omega (arith, p.4 (omega arith), n.2)),
      )

  -- ---- A part.

  -- By the alternative r, where no other begins with the token ahead. If r does not begin so either, both are refused.
  pub by_rest : {c : Cursor} {e : End} → Ahead text c → (n : Part) (r : List Symbol) → Among r (rule n) → nullable n ≡ false →
      subset (first_set_of r) ((0, 54) ∷ []) ≡ true → (has (first_set_of r) (sort_number c.sort) ≡ false →
      (has (first n) (sort_number c.sort) ≡ false) × Reads r text c level (Err (NotInGrammar c.begins))) → Reads r text c level e → Reads (part n ∷ []) text c level e
  by_rest {c} {e} a n r i u g q h = go (has (first_set_of r) (sort_number c.sort)) refl
    where
      go : (t : Bool) → has (first_set_of r) (sort_number c.sort) ≡ t → Reads (part n ∷ []) text c level e
      go true k = opens text level a n r (a_token (sort_number c.sort) (subset_has (first_set_of r) ((0, 54) ∷ []) (sort_number c.sort) g k)) i k h
      go false k =
          let z = q k in
          record {
            goes = λ ss cs v. (refuses text level c a n u z.0).goes ss cs v ∙ sym (z.1.goes ss cs v) ∙ h.goes ss cs v;
            ready = h.ready;
          }

  -- The same of an alternative that begins with a token; what begins the part and not r lies in `others`.
  pub by_token : {c : Cursor} {e : End} (n : Part) (lo hi : ℕ) (rest : List Symbol) (others : List (ℕ × ℕ)) → Among (one lo hi ∷ rest) (rule n) →
      nullable n ≡ false → subset (first n) ((lo, hi) ∷ others) ≡ true → subset ((lo, hi) ∷ []) ((0, 54) ∷ []) ≡ true → has others (sort_number c.sort) ≡ false →
      Must (one lo hi ∷ rest) text c level e → Must (part n ∷ []) text c level e
  unfolding first_set_of
  by_token {c} n lo hi rest others i u f g w h = (
    λ a. by_rest a n (one lo hi ∷ rest) i u g (λ k. (
      none k (has (first n) (sort_number c.sort)) refl,
      lacks_token text level c a lo hi (lacking lo hi (sort_number c.sort) k) rest,
    )) (h.0 a),
    h.1,
  )
    where
      none : has ((lo, hi) ∷ []) (sort_number c.sort) ≡ false → (t : Bool) → has (first n) (sort_number c.sort) ≡ t → t ≡ false
      none k true z = meet (has_append ((lo, hi) ∷ []) others (sort_number c.sort) (subset_has (first n) ((lo, hi) ∷ others) (sort_number c.sort) f z))
        where
          meet : (has ((lo, hi) ∷ []) (sort_number c.sort) ≡ true) ⊎ (has others (sort_number c.sort) ≡ true) → true ≡ false
          meet (inl p) = clash (sym k ∙ p)
          meet (inr p) = clash (sym w ∙ p)
      none k false z = refl

  -- By the alternative that the token ahead begins.
  pub chosen : {c : Cursor} {e : End} (n : Part) (r : List Symbol) (x : ℕ) → Among r (rule n) → has (first_set_of r) x ≡ true → x ≤ 54 → sort_number c.sort ≡ x →
      Must r text c level e → Must (part n ∷ []) text c level e
  chosen n r x i w s k h = (λ a. opens text level a n r (omega arith) i (ap (has (first_set_of r)) k ∙ w) (h.0 a), h.1)

  -- A part of one alternative, or empty: it stands there, from its first token on, which the code has seen; or not.
  pub there_it_is : {c k : Cursor} {e : End} (n : Part) (x : ℕ) (rest : List Symbol) → Among (one x x ∷ rest) (rule n) → x ≤ 54 → level ≤ 32 → sort_number c.sort ≡ x →
      c.text.now ≡ text → Next text c.ends c.cards k → May rest k.text.now k level e → May (part n ∷ []) text c level e
  there_it_is {c} {k} {e} n x rest i s l q p z f =
      let h : Must (one x x ∷ rest) text c level e = joined_may (token x q s l p z) f in
      (λ a. opens text level a n (one x x ∷ rest) (omega arith) i (begins_with x (sort_number c.sort) rest q) (h.0 a), stays text c e h.1)

  pub not_there : {c : Cursor} (n : Part) (x : ℕ) → Among [] (rule n) → first n ≡ (x, x) ∷ [] → (sort_number c.sort ≡ x → ⊥) → c.text.now ≡ text →
      May (part n ∷ []) text c level (Ok c)
  not_there {c} n x i f k l =
      (λ a. skips text level c a n i (ap (λ (l : List (ℕ × ℕ)). has l (sort_number c.sort)) f ∙ not_among x (sort_number c.sort) k), (l, omega arith))

  -- ---- A level; and the opener of a 33rd.

  pub a_level : {c : Cursor} {e : End} {inner : ℕ} (ps : List Symbol) → inner ≡ level + 1 → Must ps text c inner e →
      Must (mark deeper ∷ (ps ++ (mark shallower ∷ []))) text c level e
  a_level {c} {e} ps i h =
      let f : Must ps text c (level + 1) e = rw i at h in
      (λ a. a_level_deeper text level ps (f.0 a), f.1)

  pub no_level : {c : Cursor} (x : ℕ) (qs : List Symbol) → sort_number c.sort ≡ x → x ≤ 54 → 32 ≤ level → c.text.now ≡ text →
      Must (mark deeper ∷ one x x ∷ qs) text c level (Err (NestedTooDeep c.begins))
  no_level {c} x qs k s l i =
      let p = lies c i in
      (λ a. too_deep_lem text level c a x x s (within_is x x (sort_number c.sort) (omega arith) (omega arith)) l qs, omega (arith, p.1, p.2))

  -- ---- In the middle, and loops.

  pub at_start : {b : Cursor} (ps : List Symbol) → b.text.now ≡ text → Mid ps text b level ps b
  at_start {b} ps i = (λ a. at_first text level ps b a, i, omega arith)

  -- A part of what is left is read.
  pub on : {b c k : Cursor} {ps qs : List Symbol} (us : List Symbol) → Mid ps text b level (qs ++ us) c → May qs c.text.now c level (Ok k) →
      Mid ps text b level us k
  on {b} {c} {k} {ps} {qs} us m f =
      let h : May qs text c level (Ok k) = may_in m.1 f in
      (λ a. let w = m.0 a in further text level ps qs us w (h.0 w.ahead), h.1.0, omega (arith, m.2, h.1.1))

  -- The alternative that the token ahead begins of the part that is next.
  pub opening : {b c : Cursor} {ps : List Symbol} (us : List Symbol) (n : Part) (r : List Symbol) (x : ℕ) → Among r (rule n) → has (first_set_of r) x ≡ true →
      x ≤ 54 → sort_number c.sort ≡ x → Mid ps text b level (part n ∷ us) c → Mid ps text b level (r ++ us) c
  opening {b} {c} {ps} us n r x i w s k m =
      (λ a. opened text level ps us n r (omega arith) i (ap (has (first_set_of r)) k ∙ w) (m.0 a), m.1, m.2)

  -- All that is left is read; or its beginning is refused.
  pub ends : {b c : Cursor} {ps qs : List Symbol} {r : End} → Mid ps text b level qs c → May qs text c level r → May ps text b level r
  ends {b} {c} {ps} {qs} {r} m f =
      (λ a. let w = m.0 a in finished text level ps qs w (f.0 w.ahead), stays_on text b c r m.2 f.1)

  pub fails : {b c : Cursor} {ps qs : List Symbol} {e : SyntaxError} (us : List Symbol) → Mid ps text b level (qs ++ us) c → May qs c.text.now c level (Err e) →
      May ps text b level (Err e)
  fails us m f = ends m (may (may_stop us (may_in m.1 f)))

-- ---- Nothing, and one token of a range.

pub nothing : {level : ℕ} (k : Cursor) → May [] k.text.now k level (Ok k)
nothing {level} k = (λ a. reads_none k.text.now level k a, (refl, omega arith))

-- A loop that goes on has less of the text left.
pub step_falls : (text : List ℕ) (k j : Cursor) → k.text.now ≡ text → (j.text.now ≡ k.text.now) × (k.last < j.last) → length text - j.last < length text - k.last
step_falls text k j i m =
    let l = lies j (m.0 ∙ i) in
    let n = lies k i in
    omega (arith, l, n, m.1)

pub takes : (lo hi : ℕ) (c k : Cursor) → hi ≤ 54 → within lo hi (sort_number c.sort) ≡ true → Next c.text.now c.ends c.cards k → FlatRead (one lo hi ∷ []) c (Ok k)
takes lo hi c k i w n =
    let p = lies c refl in
    let b = within_bounds lo hi (sort_number c.sort) w in (
      λ a level s. reads_token c.text.now level c k a n.0 n.2 n.3 lo hi i w s,
      (n.1, omega (arith, p.4 (omega arith), n.2)),
    )

pub lacks : (lo hi : ℕ) (c : Cursor) → within lo hi (sort_number c.sort) ≡ false → FlatRead (one lo hi ∷ []) c (Err (NotInGrammar c.begins))
lacks lo hi c w =
    let p = lies c refl in
    (λ a level s. lacks_token c.text.now level c a lo hi w [], omega (arith, p.1, p.2))

-- ---- What holds at every level.

module _ {text : List ℕ} where
  pub flat : {c : Cursor} {e : End} {ps : List Symbol} (level : ℕ) → level ≤ 32 → Flat ps text c e → Must ps text c level e
  flat level l f = (λ a. f.0 a level l, f.1)

  pub every_level : {c : Cursor} {e : End} {ps : List Symbol} → ((level : ℕ) → level ≤ 32 → Must ps text c level e) → Flat ps text c e
  every_level f = (λ a level l. (f level l).0 a, (f 0 (omega arith)).1)

-- A token of one sort or none, as a part.
pub optional : {c k : Cursor} {x : ℕ} (level : ℕ) (n : Part) → level ≤ 32 → Optional n x → OptionalRead x c k → May (part n ∷ []) c.text.now c level (Ok k)
optional level n l o f = (λ a. f.0 a level l n o, f.1)

-- ---- Repeated parts before a closer of the sort y: any number, and at least one.

abbrev pub any_of : Part → ℕ → List Symbol
any_of m y = part m ∷ one y y ∷ []

abbrev pub some_of : Part → Part → ℕ → List Symbol
some_of n m y = part n ∷ any_of m y

-- The part m repeats n: the facts of the table.
pub record Repeated (n m : Part) (y : ℕ) : Type 0 where
  pub more : Among (part n ∷ part m ∷ []) (rule m)
  pub none : Among [] (rule m)
  pub never_empty : nullable n ≡ false
  pub begins : subset (first m) (first n) ≡ true
  pub tokens : subset (first n) ((0, 54) ∷ []) ≡ true
  pub closed : has (first m) y ≡ false
  pub closer : y ≤ 54

module _ {text : List ℕ} {level : ℕ} {n m : Part} {y : ℕ} (t : Repeated n m y) where
  -- No closer: another n. (If none begins so, both are refused.)
  another : {b c : Cursor} {ps : List Symbol} → (sort_number c.sort ≡ y → ⊥) → Mid ps text b level (any_of m y) c → Mid ps text b level (some_of n m y) c
  another {b} {c} {ps} k i = (λ a. once_more text level ps [] n m t.more t.none t.never_empty t.begins t.tokens y k (i.0 a), i.1, i.2)

  read : {b c j : Cursor} {ps : List Symbol} → Mid ps text b level (some_of n m y) c → Must (part n ∷ []) c.text.now c level (Ok j) →
      Mid ps text b level (any_of m y) j
  read {c = c} {j} i f = on (any_of m y) i (f.0, stays c.text.now c (Ok j) f.1)

  refuse : {b c : Cursor} {e : SyntaxError} {ps : List Symbol} → Mid ps text b level (some_of n m y) c → Must (part n ∷ []) c.text.now c level (Err e) →
      May ps text b level (Err e)
  refuse i f = fails (any_of m y) i (f.0, f.1)

  -- Any number, with the closer or an n next at c.
  pub any_closes : {b c k : Cursor} {ps : List Symbol} → level ≤ 32 → sort_number c.sort ≡ y → Next c.text.now c.ends c.cards k → Mid ps text b level (any_of m y) c →
      May ps text b level (Ok k)
  any_closes {b} {c} {k} {ps} l e x i =
      let skip : May (part m ∷ []) c.text.now c level (Ok c) = (λ a. skips c.text.now level c a m t.none (ap (has (first m)) e ∙ t.closed), (refl, omega arith)) in
      let close : Must (one y y ∷ []) c.text.now c level (Ok k) = token y e t.closer l refl x in
      let both : Must (any_of m y) c.text.now c level (Ok k) = may_joined skip close in
      ends i (may (must_in i.1 both))

  pub any_refused : {b c : Cursor} {e : SyntaxError} → (sort_number c.sort ≡ y → ⊥) → Mid (any_of m y) text b level (any_of m y) c →
      Must (part n ∷ []) c.text.now c level (Err e) → May (any_of m y) text b level (Err e)
  any_refused k i f = refuse (another k i) f

  pub any_next : {b c j : Cursor} → (sort_number c.sort ≡ y → ⊥) → Mid (any_of m y) text b level (any_of m y) c →
      Must (part n ∷ []) c.text.now c level (Ok j) → Mid (any_of m y) text b level (any_of m y) j
  any_next k i f = read (another k i) f

  -- At least one, with an n next at c: it is refused, it is the last, or another comes.
  pub some_refused : {b c : Cursor} {e : SyntaxError} → Mid (some_of n m y) text b level (some_of n m y) c → Must (part n ∷ []) c.text.now c level (Err e) →
      May (some_of n m y) text b level (Err e)
  some_refused i f = refuse i f

  pub some_closes : {b c j k : Cursor} → level ≤ 32 → sort_number j.sort ≡ y → Next j.text.now j.ends j.cards k →
      Mid (some_of n m y) text b level (some_of n m y) c → Must (part n ∷ []) c.text.now c level (Ok j) → May (some_of n m y) text b level (Ok k)
  some_closes l z x i f = any_closes l z x (read i f)

  pub some_next : {b c j : Cursor} → (sort_number j.sort ≡ y → ⊥) → Mid (some_of n m y) text b level (some_of n m y) c →
      Must (part n ∷ []) c.text.now c level (Ok j) → Mid (some_of n m y) text b level (some_of n m y) j
  some_next z i f = another z (read i f)

-- ---- A part that is a repeated part in brackets, which are a level: from the opener on, and at a level too deep.

module _ {text : List ℕ} {level : ℕ} {c : Cursor} (n m : Part) (x y : ℕ)
    (i : Among (mark deeper ∷ one x x ∷ part m ∷ one y y ∷ mark shallower ∷ []) (rule n)) (s : x ≤ 54) (k : sort_number c.sort ≡ x) (p : c.text.now ≡ text) where
  pub bracketed : {k : Cursor} {inner : ℕ} {e : End} → inner ≡ level + 1 → inner ≤ 32 → Next text c.ends c.cards k → May (any_of m y) k.text.now k inner e →
      Must (part n ∷ []) text c level e
  bracketed {k = j} {inner} {e} q l z f =
      let h : Must (one x x ∷ any_of m y) text c inner e = joined_may (token x k s l p z) f in
      chosen n (mark deeper ∷ one x x ∷ part m ∷ one y y ∷ mark shallower ∷ []) x i (bracket_begins x (part m ∷ one y y ∷ mark shallower ∷ [])) s k
      (a_level (one x x ∷ any_of m y) q h)

  pub bracketed_deep : 32 ≤ level → Must (part n ∷ []) text c level (Err (NestedTooDeep c.begins))
  bracketed_deep l =
      chosen n (mark deeper ∷ one x x ∷ part m ∷ one y y ∷ mark shallower ∷ []) x i (bracket_begins x (part m ∷ one y y ∷ mark shallower ∷ [])) s k
      (no_level x (part m ∷ one y y ∷ mark shallower ∷ []) k s l p)
