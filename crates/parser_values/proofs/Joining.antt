-- How readings are put together: one after the other, a token, an alternative of a part, a level, a repeated part.
use mathlib.Core.Path.{◌≡◌, refl, sym, ap, ◌∙◌}
use mathlib.Core.List.{List, [], ◌∷◌, ◌++◌, append_assoc}
use mathlib.Core.Bool.{true, false}
use Prim.Native.Nat.{ℕ, ◌+◌, ◌-◌, ◌≤◌}
use native.Mathlib.Omega.{arith}
use Rattle.definition.specs.Lists.{Among}
use Rattle.definition.specs.Grammar.{Symbol, one, part, mark, Part, rule, within, deeper, shallower}
use Rattle.definition.specs.GrammarSets.{nullable, first}
use Rattle.definition.specs.Machine.{has, first_set_of, empties}
use Rattle.definition.specs.Cards.{Card}
use Rattle.parser_laws.specs.Standing.{standing}
use Rattle.parser_laws.proofs.Tests.{subset}
use Rattle.parser_laws.proofs.Ahead.{take_token, no_token_lem, open_deep, open_part, skip_part, no_part, go_deeper, go_back, repeats}
use Rattle.parser_lexer.specs.Sorts.{sort_number}
use Rattle.parser_lexer.specs.Ahead.{Ahead}
use Rattle.parser_lexer.specs.declared.cursor.Cursor.{Cursor}
use Rattle.parser_values.specs.Reads.{End, goes_on, Ready, Reads, Within}
use Rattle.std.specs.Prelude.{Ok, Err}
use Rattle.parser_values.specs.declared.error.SyntaxError.{SyntaxError}
use Rattle.parser_values.specs.declared.error.SyntaxError.TheVariants.{NotInGrammar, NestedTooDeep}

module _ (text : List ℕ) (level : ℕ) where
  ready_same : {m n : ℕ} (r : End) → m ≡ n → Ready text m r → Ready text n r
  ready_same (Ok k) e (a, f) = (a, f ∙ e)
  ready_same (Err x) e u = u

  -- ---- One after the other.

  pub and_then : {c k : Cursor} {r : End} (ps qs : List Symbol) → Reads ps text c level (Ok k) → Reads qs text k level r → Reads (ps ++ qs) text c level r
  and_then {c} {k} {r} ps qs f g = record {
    goes = λ ss cs h.
        ap (λ (x : List Symbol). standing text c.last x level cs h) (append_assoc ps qs ss) ∙
        f.goes (qs ++ ss) cs h ∙
        g.goes ss cs h;
    ready = ready_same r f.ready.1 g.ready;
  }

  -- What is refused in the beginning is refused.
  pub or_err : {c : Cursor} {e : SyntaxError} (ps qs : List Symbol) → Reads ps text c level (Err e) → Reads (ps ++ qs) text c level (Err e)
  or_err {c} ps qs f = record {
    goes = λ ss cs h. ap (λ (x : List Symbol). standing text c.last x level cs h) (append_assoc ps qs ss) ∙ f.goes (qs ++ ss) cs h;
    ready = tt;
  }

  -- Nothing to read.
  pub reads_none : (c : Cursor) → Ahead text c → Reads [] text c level (Ok c)
  reads_none c a = record { goes = λ ss cs h. refl; ready = (a, refl) }

  -- ---- A token: k is the cursor behind it.

  pub reads_token : (c k : Cursor) → Ahead text c → Ahead text k → k.last ≡ c.ends → k.cards ≡ c.cards → (lo hi : ℕ) → hi ≤ 54 →
      within lo hi (sort_number c.sort) ≡ true → level ≤ 32 → Reads (one lo hi ∷ []) text c level (Ok k)
  reads_token c k a b e f lo hi i w l = record {
    goes = λ ss cs h.
        take_token text c.last (sort_number c.sort) c.begins c.ends a ss level cs h lo hi i w l ∙
        ap (λ (n : ℕ). standing text n ss level cs h) (sym e);
    ready = (b, f);
  }

  pub lacks_token : (c : Cursor) → Ahead text c → (lo hi : ℕ) → within lo hi (sort_number c.sort) ≡ false → (qs : List Symbol) →
      Reads (one lo hi ∷ qs) text c level (Err (NotInGrammar c.begins))
  lacks_token c a lo hi w qs = record {
    goes = λ ss cs h. no_token_lem text c.last (sort_number c.sort) c.begins c.ends a (qs ++ ss) level cs h lo hi w;
    ready = tt;
  }

  -- A token of two ranges is read by either.
  pub narrower : {c : Cursor} {e : End} → Ahead text c → (lo hi lo' hi' : ℕ) → hi ≤ 54 → hi' ≤ 54 → within lo hi (sort_number c.sort) ≡ true →
      within lo' hi' (sort_number c.sort) ≡ true → level ≤ 32 → Reads (one lo' hi' ∷ []) text c level e → Reads (one lo hi ∷ []) text c level e
  narrower {c} a lo hi lo' hi' i i' w w' l f = record {
    goes = λ ss cs h.
        take_token text c.last (sort_number c.sort) c.begins c.ends a ss level cs h lo hi i w l ∙
        sym (take_token text c.last (sort_number c.sort) c.begins c.ends a ss level cs h lo' hi' i' w' l) ∙
        f.goes ss cs h;
    ready = f.ready;
  }

  -- ---- A part: by the alternative that the token ahead begins; by the empty one; or refused.

  pub opens : {c : Cursor} {e : End} → Ahead text c → (n : Part) (r : List Symbol) → sort_number c.sort ≤ 54 → Among r (rule n) → has (first_set_of r) (sort_number c.sort) ≡ true →
      Reads r text c level e → Reads (part n ∷ []) text c level e
  opens {c} a n r k i w f = record {
    goes = λ ss cs h. open_part text c.last (sort_number c.sort) c.begins c.ends a ss level cs h n r k i w ∙ f.goes ss cs h;
    ready = f.ready;
  }

  pub skips : (c : Cursor) → Ahead text c → (n : Part) → Among [] (rule n) → has (first n) (sort_number c.sort) ≡ false → Reads (part n ∷ []) text c level (Ok c)
  unfolding empties
  skips c a n i w = record {
    goes = λ ss cs h. skip_part text c.last (sort_number c.sort) c.begins c.ends a ss level cs h n [] i refl w;
    ready = (a, refl);
  }

  pub refuses : (c : Cursor) → Ahead text c → (n : Part) → nullable n ≡ false → has (first n) (sort_number c.sort) ≡ false →
      Reads (part n ∷ []) text c level (Err (NotInGrammar c.begins))
  refuses c a n i w = record {
    goes = λ ss cs h. no_part text c.last (sort_number c.sort) c.begins c.ends a ss level cs h n i w;
    ready = tt;
  }

  -- ---- A level.

  pub a_level_deeper : {c : Cursor} {r : End} (ps : List Symbol) → Reads ps text c (level + 1) r →
      Reads (mark deeper ∷ (ps ++ (mark shallower ∷ []))) text c level r
  a_level_deeper {c} {r} ps f = record {
    goes = λ ss cs h.
        go_deeper text c.last level ((ps ++ (mark shallower ∷ [])) ++ ss) cs h ∙
        ap (λ (x : List Symbol). standing text c.last x (level + 1) cs h) (append_assoc ps (mark shallower ∷ []) ss) ∙
        f.goes (mark shallower ∷ ss) cs h ∙
        back r ss cs h;
    ready = f.ready;
  }
    where
      back : (r : End) (ss : List Symbol) (cs : List Card) (h : ℕ) → goes_on text r (mark shallower ∷ ss) (level + 1) cs h ≡ goes_on text r ss level cs h
      back (Ok k) ss cs h =
          let z : level + 1 - 1 ≡ level = omega arith in
          go_back text k.last (level + 1) ss cs h ∙ ap (λ (n : ℕ). standing text k.last ss n cs h) z
      back (Err x) ss cs h = refl

  -- The opener of a 33rd level.
  pub too_deep_lem : (c : Cursor) → Ahead text c → (lo hi : ℕ) → hi ≤ 54 → within lo hi (sort_number c.sort) ≡ true → 32 ≤ level → (qs : List Symbol) →
      Reads (mark deeper ∷ one lo hi ∷ qs) text c level (Err (NestedTooDeep c.begins))
  too_deep_lem c a lo hi i w l qs = record {
    goes = λ ss cs h.
        go_deeper text c.last level (one lo hi ∷ (qs ++ ss)) cs h ∙
        open_deep text c.last (sort_number c.sort) c.begins c.ends a (qs ++ ss) (level + 1) cs h lo hi i w (omega arith);
    ready = tt;
  }

  -- ---- In the middle: what loops go by.

  -- The beginning of ps ++ qs is read.
  pub begun : {b c : Cursor} (ps qs : List Symbol) → Reads ps text b level (Ok c) → Within (ps ++ qs) text b level qs c
  begun {b} ps qs f = record {
    goes = λ ss cs h. ap (λ (x : List Symbol). standing text b.last x level cs h) (append_assoc ps qs ss) ∙ f.goes (qs ++ ss) cs h;
    ahead = f.ready.0;
    cards = f.ready.1;
  }

  -- At the beginning.
  pub at_first : (ps : List Symbol) (b : Cursor) → Ahead text b → Within ps text b level ps b
  at_first ps b a = record { goes = λ ss cs h. refl; ahead = a; cards = refl }

  -- What is left is read.
  pub finished : {b c : Cursor} {r : End} (ps qs : List Symbol) → Within ps text b level qs c → Reads qs text c level r → Reads ps text b level r
  finished {b} {c} {r} ps qs i f = record {
    goes = λ ss cs h. i.goes ss cs h ∙ f.goes ss cs h;
    ready = ready_same r i.cards f.ready;
  }

  -- A part of what is left is read: what is left is us after the part's qs.
  pub further : {b c k : Cursor} (ps qs us : List Symbol) → Within ps text b level (qs ++ us) c → Reads qs text c level (Ok k) → Within ps text b level us k
  further {b} {c} ps qs us i f = record {
    goes = λ ss cs h. i.goes ss cs h ∙ ap (λ (x : List Symbol). standing text c.last x level cs h) (append_assoc qs us ss) ∙ f.goes (us ++ ss) cs h;
    ahead = f.ready.0;
    cards = f.ready.1 ∙ i.cards;
  }

  -- A repeated part m = n m before its closer x, which does not stand ahead: n comes first.
  pub once_more : {b c : Cursor} (ps us : List Symbol) (n m : Part) → Among (part n ∷ part m ∷ []) (rule m) → Among [] (rule m) → nullable n ≡ false →
      subset (first m) (first n) ≡ true → subset (first n) ((0, 54) ∷ []) ≡ true → (x : ℕ) → (sort_number c.sort ≡ x → ⊥) →
      Within ps text b level (part m ∷ one x x ∷ us) c → Within ps text b level (part n ∷ part m ∷ one x x ∷ us) c
  once_more {b} {c} ps us n m i j u f g x z w = record {
    goes = λ ss cs h. w.goes ss cs h ∙ repeats text c.last (sort_number c.sort) c.begins c.ends w.ahead (us ++ ss) level cs h n m i j u f g x z;
    ahead = w.ahead;
    cards = w.cards;
  }

  -- An alternative of the part that is next.
  pub opened : {b c : Cursor} (ps us : List Symbol) (n : Part) (r : List Symbol) → sort_number c.sort ≤ 54 → Among r (rule n) → has (first_set_of r) (sort_number c.sort) ≡ true →
      Within ps text b level (part n ∷ us) c → Within ps text b level (r ++ us) c
  opened {b} {c} ps us n r k i w f = record {
    goes = λ ss cs h.
        f.goes ss cs h ∙
        open_part text c.last (sort_number c.sort) c.begins c.ends f.ahead (us ++ ss) level cs h n r k i w ∙
        ap (λ (x : List Symbol). standing text c.last x level cs h) (sym (append_assoc r us ss));
    ahead = f.ahead;
    cards = f.cards;
  }
