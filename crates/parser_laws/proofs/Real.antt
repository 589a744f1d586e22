-- Whatever the grammar lets go on can go on as a text: a completion can be spelled.
use mathlib.Core.Path.{◌≡◌, refl, sym, ap, ◌∙◌, subst}
use mathlib.Core.List.{List, [], ◌∷◌, ◌++◌, append-nil}
use mathlib.Core.Bool.{Bool, true, false, ◌&&◌, not}
use Prim.Native.Nat.{ℕ, zero, suc, ◌+◌, ◌-◌, ◌≤◌, ◌<◌}
use native.Mathlib.Omega.{arith}
use borrow.Author.Tests.{eqb-true, eqb-false, leb-true}
use lib.Dec.{eqb, leb}
use lib.ListN.{length, get_or, take, drop, take-append-drop}
use Rattle.definition.specs.Lists.{any, Among}
use Rattle.definition.specs.Names.{bytes, same_name, compare_names}
use Rattle.definition.specs.Grammar.{Symbol, one, part, mark, Document, rule, within, words, place_of, sort_of_name}
use Rattle.definition.specs.Derivation.{Token, Seen, token, marked, Derives, nothing, reads, marks, expands, tokens_of}
use Rattle.definition.specs.Lexical.{Lexeme, ignored, lexed, unreadable, lexeme, Lexed, lexed_by, tokens_from, tokens_in}
use Rattle.definition.specs.Reading.{place_at}
use Rattle.definition.specs.Promise.{TextOf, sorts, SomeText}
use Rattle.parser_laws.proofs.Tests.{clash, both, within_bounds, all_among}
use Rattle.parser_laws.proofs.Facts.{spelled_all}
use Rattle.parser_laws.proofs.Sound.{all_spelled}
use Rattle.parser_laws.proofs.Right.{Begins, tokens_append}
use Rattle.parser_laws.proofs.Gluing.{tokens_glue, tokens_joined, tokens_moved, moved_tokens, Small, lexeme_small, Sized, lexeme_sized, Fits}
use Rattle.parser_laws.proofs.Cutting.{lexeme_cut, later}

-- ---- A derivation asks for sorts alone.

pub record Respanned (ss : List Symbol) (ts : List Token) : Type 0 where
  pub seen : List Seen
  pub derived : Derives ss seen
  pub read : tokens_of seen ≡ ts

pub respan : {ss : List Symbol} {es : List Seen} → Derives ss es → (ts : List Token) → sorts (tokens_of es) ≡ sorts ts → Respanned ss ts
unfolding tokens_of sorts
respan nothing [] e = record { seen = []; derived = nothing; read = refl }
respan nothing (t ∷ ts) e = let z : ◌≡◌ {A = ℕ} 0 1 = cc in absurd (omega arith)
respan (reads h d) [] e = let z : ◌≡◌ {A = ℕ} 0 1 = cc in absurd (omega arith)
respan (reads {lo = lo} {hi = hi} {t = u} h d) (t ∷ ts) e =
    let z : u.sort ≡ t.sort = cc in
    let r = respan d ts (cc) in
    record { seen = token t ∷ r.seen; derived = reads (ap (within lo hi) (sym z) ∙ h) r.derived; read = ap (λ (x : List Token). t ∷ x) r.read }
respan (marks {m = m} d) ts e = let r = respan d ts e in record { seen = marked m ∷ r.seen; derived = marks r.derived; read = r.read }
respan (expands a d) ts e = let r = respan d ts e in record { seen = r.seen; derived = expands a r.derived; read = r.read }

-- The same of what comes after a beginning, which stays.
pub record RespannedFrom (ss : List Symbol) (es : List Seen) (ts : List Token) : Type 0 where
  pub more : List Seen
  pub derived : Derives ss (es ++ more)
  pub read : tokens_of more ≡ ts

pub respan_from :
    {ss : List Symbol} {gs : List Seen} (es more : List Seen) → Derives ss gs → gs ≡ es ++ more → (ts : List Token) →
    sorts (tokens_of more) ≡ sorts ts → RespannedFrom ss es ts
respan_from [] more nothing i ts e =
    let r = respan nothing ts (ap (λ (x : List Seen). sorts (tokens_of x)) i ∙ e) in
    record { more = r.seen; derived = r.derived; read = r.read }
respan_from [] more (reads h d) i ts e =
    let r = respan (reads h d) ts (ap (λ (x : List Seen). sorts (tokens_of x)) i ∙ e) in
    record { more = r.seen; derived = r.derived; read = r.read }
respan_from [] more (marks d) i ts e =
    let r = respan (marks d) ts (ap (λ (x : List Seen). sorts (tokens_of x)) i ∙ e) in
    record { more = r.seen; derived = r.derived; read = r.read }
respan_from [] more (expands a d) i ts e =
    let r = respan (expands a d) ts (ap (λ (x : List Seen). sorts (tokens_of x)) i ∙ e) in
    record { more = r.seen; derived = r.derived; read = r.read }
respan_from (x ∷ es) more nothing i ts e = let z : ◌≡◌ {A = ℕ} 0 1 = cc in absurd (omega arith)
respan_from (x ∷ es) more (reads {lo = lo} {hi = hi} {t = t} {ss = ss} h d) i ts e =
    let z : token t ≡ x = cc in
    let r = respan_from es more d (cc) ts e in
    record {
      more = r.more;
      derived = subst (λ (y : Seen). Derives (one lo hi ∷ ss) (y ∷ (es ++ r.more))) z (reads h r.derived);
      read = r.read;
    }
respan_from (x ∷ es) more (marks {m = m} {ss = ss} d) i ts e =
    let z : marked m ≡ x = cc in
    let r = respan_from es more d (cc) ts e in
    record {
      more = r.more;
      derived = subst (λ (y : Seen). Derives (mark m ∷ ss) (y ∷ (es ++ r.more))) z (marks r.derived);
      read = r.read;
    }
respan_from (x ∷ es) more (expands a d) i ts e =
    let r = respan_from (x ∷ es) more d i ts e in
    record { more = r.more; derived = expands a r.derived; read = r.read }

-- ---- Every sort of a derived text is one that some word has.

abbrev pub Low : List ℕ → Type 0
Low [] = Unit {0}
Low (s ∷ ss) = (s ≤ 54) × Low ss

spelled_append : (r ss : List Symbol) → spelled_all r ≡ true → spelled_all ss ≡ true → spelled_all (r ++ ss) ≡ true
unfolding spelled_all
spelled_append [] ss h k = k
spelled_append (one lo hi ∷ r) ss h k = let b = both (leb hi 54) (spelled_all r) h in rw b.0 (spelled_append r ss b.1 k)
spelled_append (mark m ∷ r) ss h k = spelled_append r ss h k
spelled_append (part n ∷ r) ss h k = spelled_append r ss h k

pub low : {ss : List Symbol} {es : List Seen} → Derives ss es → spelled_all ss ≡ true → Low (sorts (tokens_of es))
unfolding tokens_of sorts spelled_all
low nothing h = tt
low (reads {lo = lo} {hi = hi} {t = t} {ss = ss} w d) h =
    let b = both (leb hi 54) (spelled_all ss) h in
    let v = within_bounds lo hi t.sort w in
    (omega (arith, leb-true hi 54 b.0), low d b.1)
low (marks d) h = low d h
low (expands {n = n} {r = r} {ss = ss} a d) h = low d (spelled_append r ss (all_among spelled_all (rule n) (all_spelled n) a) h)

spelled_document : spelled_all (part Document ∷ []) ≡ true
unfolding spelled_all
spelled_document = refl

-- ---- Spelling.

-- A word of each sort.
unfoldable pub punctuation : List (List ℕ)
punctuation =
    bytes "!" ∷ bytes "$" ∷ bytes "&" ∷ bytes "(" ∷ bytes ")" ∷ bytes "..." ∷ bytes ":" ∷ bytes "=" ∷ bytes "@" ∷ bytes "[" ∷ bytes "]" ∷
    bytes "{" ∷ bytes "|" ∷ bytes "}" ∷ bytes "0" ∷ bytes "0.0" ∷ bytes "\"\"" ∷ []

unfoldable pub word_of : ℕ → List ℕ
word_of s = get_or (punctuation ++ words ++ (bytes "a" ∷ [])) s []

-- One token of a sort, and no more.
unfoldable pub is_one : ℕ → List Token → Bool → Bool
is_one s [] b = false
is_one s (t ∷ []) b = eqb t.sort s && not b
is_one s (t ∷ u ∷ ts) b = false

unfoldable pub spells : ℕ → Bool
unfolding tokens_in
spells s = let l = tokens_in (word_of s) in is_one s l.tokens l.broken

-- The test for the n sorts from 0 on.
unfoldable pub all_spell : ℕ → Bool
all_spell zero = true
all_spell (suc n) = spells n && all_spell n

all_spell_lem : all_spell 55 ≡ true
unfolding all_spell spells tokens_in is_one word_of punctuation words bytes sort_of_name place_of same_name compare_names any
all_spell_lem = refl

spells_each : (n s : ℕ) → all_spell n ≡ true → s < n → spells s ≡ true
unfolding all_spell
spells_each zero s e h = absurd (omega arith)
spells_each (suc n) s e h = go (eqb s n) refl (both (spells n) (all_spell n) e) (spells_each n s)
  where
    go : (t : Bool) → eqb s n ≡ t → (spells n ≡ true) × (all_spell n ≡ true) → (all_spell n ≡ true → s < n → spells s ≡ true) → spells s ≡ true
    go true i b f = ap spells (eqb-true s n i) ∙ b.0
    go false i b f = let k = eqb-false s n i in f b.1 (omega arith)

-- What a word is read as.
pub record OneWord (at s : ℕ) : Type 0 where
  pub read : sorts (tokens_from 0 at (word_of s)).tokens ≡ s ∷ []
  pub readable : (tokens_from 0 at (word_of s)).broken ≡ false

one_so : (s : ℕ) (ts : List Token) (b : Bool) → is_one s ts b ≡ true → (sorts ts ≡ s ∷ []) × (b ≡ false)
unfolding is_one sorts
one_so s [] b e = clash e
one_so s (t ∷ []) true e = let q = both (eqb t.sort s) false e in clash q.1
one_so s (t ∷ []) false e = (ap (λ (n : ℕ). n ∷ []) (eqb-true t.sort s (both (eqb t.sort s) true e).0), refl)
one_so s (t ∷ u ∷ ts) b e = clash e

sorts_moved : (d : ℕ) (ts : List Token) → sorts (moved_tokens d ts) ≡ sorts ts
unfolding sorts moved_tokens
sorts_moved d [] = refl
sorts_moved d (t ∷ ts) = ap (λ (x : List ℕ). t.sort ∷ x) (sorts_moved d ts)

pub sorts_append : (ts us : List Token) → sorts (ts ++ us) ≡ sorts ts ++ sorts us
unfolding sorts
sorts_append [] us = refl
sorts_append (t ∷ ts) us = ap (λ (x : List ℕ). t.sort ∷ x) (sorts_append ts us)

one_word : (at s : ℕ) → s ≤ 54 → OneWord at s
unfolding spells tokens_in
one_word at s h =
    let q = one_so s (tokens_from 0 0 (word_of s)).tokens (tokens_from 0 0 (word_of s)).broken (spells_each 55 s all_spell_lem (omega arith)) in
    let z : at ≡ at + 0 = omega arith in
    let m = ap (λ (n : ℕ). tokens_from 0 n (word_of s)) z ∙ tokens_moved at 0 0 (word_of s) in
    record {
      read = ap (λ (l : Lexed). sorts l.tokens) m ∙ sorts_moved at (tokens_from 0 0 (word_of s)).tokens ∙ q.0;
      readable = ap (λ (l : Lexed). l.broken) m ∙ q.1;
    }

-- Words of sorts, each with a line feed after it.
unfoldable pub spell : List ℕ → List ℕ
spell [] = []
spell (s ∷ ss) = word_of s ++ (10 ∷ spell ss)

nothing_spelled : (at : ℕ) → (sorts (tokens_from 0 at []).tokens ≡ []) × ((tokens_from 0 at []).broken ≡ false)
unfolding tokens_from sorts
nothing_spelled at = (refl, refl)

pub spelled : (at : ℕ) (ss : List ℕ) → Low ss → (sorts (tokens_from 0 at (spell ss)).tokens ≡ ss) × ((tokens_from 0 at (spell ss)).broken ≡ false)
unfolding spell
spelled at [] h = nothing_spelled at
spelled at (s ∷ ss) h =
    let w = one_word at s h.0 in
    let r = spelled (1 + (at + length (word_of s))) ss h.1 in
    let g = tokens_glue (spell ss) 0 at (word_of s) (omega arith) w.readable in (
      ap (λ (l : Lexed). sorts l.tokens) g ∙
          sorts_append (tokens_from 0 at (word_of s)).tokens (tokens_from 0 (1 + (at + length (word_of s))) (spell ss)).tokens ∙
          ap (λ (x : List ℕ). x ++ sorts (tokens_from 0 (1 + (at + length (word_of s))) (spell ss)).tokens) w.read ∙ ap (λ (x : List ℕ). s ∷ x) r.0,
      ap (λ (l : Lexed). l.broken) g ∙ r.1,
    )

-- ---- The piece of a text that has its first tokens.

-- Where the last of some tokens ends, or else a place.
unfoldable pub end_of : ℕ → List Token → ℕ
end_of p [] = p
end_of p (t ∷ ts) = end_of (t.begins + t.size) ts

-- The piece through the last of them.
pub record Through (k at : ℕ) (text : List ℕ) (us : List Token) : Type 0 where
  pub size : ℕ
  pub over : k ≤ length (take size text)
  pub read : (tokens_from k at (take size text)).tokens ≡ us
  pub readable : (tokens_from k at (take size text)).broken ≡ false
  pub reaches : at + size ≡ end_of (at + k) us
  pub inside : size ≤ length text

-- The piece up to the next thing, at a place.
pub record UpTo (k at : ℕ) (text : List ℕ) (us : List Token) (place : ℕ) : Type 0 where
  pub size : ℕ
  pub over : k ≤ length (take size text)
  pub read : (tokens_from k at (take size text)).tokens ≡ us
  pub readable : (tokens_from k at (take size text)).broken ≡ false
  pub reaches : at + size ≡ place
  pub inside : size ≤ length text

first_token : {A : Type 0} (u : Token) (us vs : List Token) → [] ≡ (u ∷ us) ++ vs → A
first_token u us vs e = let z : ◌≡◌ {A = ℕ} 0 1 = cc in absurd (omega arith)

nothing_yet : (at : ℕ) (text : List ℕ) → Through zero at text []
unfolding tokens_from end_of
nothing_yet at text = record { size = 0; over = omega arith; read = refl; readable = refl; reaches = refl; inside = omega arith }

here_already : (at : ℕ) (text : List ℕ) → UpTo zero at text [] at
unfolding tokens_from
here_already at text = record { size = 0; over = omega arith; read = refl; readable = refl; reaches = omega arith; inside = omega arith }

-- What stands at the beginning of a text stands there in a piece that holds it.
keeps :
    (x : ℕ) (bs : List ℕ) (m : ℕ) (l : Lexeme) → lexeme (x ∷ bs) ≡ l → Fits (suc (length (take m bs))) l → lexeme (x ∷ take m bs) ≡ l
keeps x bs m l e g =
    let y : lexeme (x ∷ (take m bs ++ drop m bs)) ≡ l = ap (λ (r : List ℕ). lexeme (x ∷ r)) (take-append-drop m bs) ∙ e in
    lexeme_cut (drop m bs) x (take m bs) (subst (λ (q : Lexeme). Fits (suc (length (take m bs))) q) (sym y) g) ∙ y

module _ (at x : ℕ) (bs : List ℕ) where
  -- The tokens of a piece of so many bytes after the first, by what stands at its beginning.
  pieced : ℕ → Lexeme → Lexed
  pieced m l = lexed_by at (λ k. tokens_from k (1 + at) (take m bs)) l

  module _ (f : (k : ℕ) (us vs : List Token) → k ≤ length bs → (tokens_from k (1 + at) bs).tokens ≡ us ++ vs → Through k (1 + at) bs us) where
    through_lexeme :
        (u : Token) (us vs : List Token) (l : Lexeme) → lexeme (x ∷ bs) ≡ l → Small (suc (length bs)) l → Sized l →
        (lexed_by at (λ k. tokens_from k (1 + at) bs) l).tokens ≡ (u ∷ us) ++ vs → Through zero at (x ∷ bs) (u ∷ us)
    unfolding tokens_from end_of pieced
    through_lexeme u us vs (ignored n) i s q e =
        let p = f (n - 1) (u ∷ us) vs (omega arith) e in
        let m = keeps x bs p.size (ignored n) i (omega (arith, p.over)) in
        let z : at + suc p.size ≡ 1 + at + p.size = omega arith in
        record {
          size = suc p.size;
          over = omega arith;
          read = ap (λ (l : Lexeme). (pieced p.size l).tokens) m ∙ p.read;
          readable = ap (λ (l : Lexeme). (pieced p.size l).broken) m ∙ p.readable;
          reaches = z ∙ p.reaches;
          inside = omega (arith, p.inside);
        }
    through_lexeme u us vs (lexed t n) i s q e =
        let y : record { sort = t; begins = at; size = n } ≡ u = cc in
        let p = f (n - 1) us vs (omega arith) (cc) in
        let m = keeps x bs p.size (lexed t n) i (omega (arith, p.over)) in
        let z : at + suc p.size ≡ 1 + at + p.size = omega arith in
        let w : 1 + at + (n - 1) ≡ at + n = omega arith in
        record {
          size = suc p.size;
          over = omega arith;
          read =
              ap (λ (l : Lexeme). (pieced p.size l).tokens) m ∙
              ap (λ (v : Token). v ∷ (tokens_from (n - 1) (1 + at) (take p.size bs)).tokens) y ∙ ap (λ (r : List Token). u ∷ r) p.read;
          readable = ap (λ (l : Lexeme). (pieced p.size l).broken) m ∙ p.readable;
          reaches = z ∙ p.reaches ∙ ap (λ (v : ℕ). end_of v us) (w ∙ ap (λ (v : Token). v.begins + v.size) y);
          inside = omega (arith, p.inside);
        }
    through_lexeme u us vs unreadable i s q e = first_token u us vs e

    through_start : (us vs : List Token) → (tokens_from zero at (x ∷ bs)).tokens ≡ us ++ vs → Through zero at (x ∷ bs) us
    unfolding tokens_from
    through_start [] vs e = nothing_yet at (x ∷ bs)
    through_start (u ∷ us) vs e = through_lexeme u us vs (lexeme (x ∷ bs)) refl (lexeme_small x bs) (lexeme_sized x bs) e

  module _ (
      f :
      (k : ℕ) (us vs : List Token) → k ≤ length bs → (tokens_from k (1 + at) bs).tokens ≡ us ++ vs →
      UpTo k (1 + at) bs us (place_at vs (tokens_from k (1 + at) bs).ends)) where
    up_to_lexeme :
        (us vs : List Token) (l : Lexeme) → lexeme (x ∷ bs) ≡ l → Small (suc (length bs)) l →
        (lexed_by at (λ k. tokens_from k (1 + at) bs) l).tokens ≡ us ++ vs →
        UpTo zero at (x ∷ bs) us (place_at vs (lexed_by at (λ k. tokens_from k (1 + at) bs) l).ends)
    unfolding tokens_from pieced
    up_to_lexeme us vs (ignored n) i s e =
        let p = f (n - 1) us vs (omega arith) e in
        let m = keeps x bs p.size (ignored n) i (omega (arith, p.over)) in
        let z : at + suc p.size ≡ 1 + at + p.size = omega arith in
        record {
          size = suc p.size;
          over = omega arith;
          read = ap (λ (l : Lexeme). (pieced p.size l).tokens) m ∙ p.read;
          readable = ap (λ (l : Lexeme). (pieced p.size l).broken) m ∙ p.readable;
          reaches = z ∙ p.reaches;
          inside = omega (arith, p.inside);
        }
    up_to_lexeme [] [] (lexed t n) i s e =
        first_token (record { sort = t; begins = at; size = n }) (tokens_from (n - 1) (1 + at) bs).tokens [] (sym e ∙ sym (append-nil _))
    up_to_lexeme [] (v ∷ vs) (lexed t n) i s e =
        let y : record { sort = t; begins = at; size = n } ≡ v = cc in
        subst (λ (p : ℕ). UpTo zero at (x ∷ bs) [] p) (ap (λ (w : Token). w.begins) y) (here_already at (x ∷ bs))
    up_to_lexeme (u ∷ us) vs (lexed t n) i s e =
        let y : record { sort = t; begins = at; size = n } ≡ u = cc in
        let p = f (n - 1) us vs (omega arith) (cc) in
        let m = keeps x bs p.size (lexed t n) i (omega (arith, p.over)) in
        let z : at + suc p.size ≡ 1 + at + p.size = omega arith in
        record {
          size = suc p.size;
          over = omega arith;
          read =
              ap (λ (l : Lexeme). (pieced p.size l).tokens) m ∙
              ap (λ (v : Token). v ∷ (tokens_from (n - 1) (1 + at) (take p.size bs)).tokens) y ∙ ap (λ (r : List Token). u ∷ r) p.read;
          readable = ap (λ (l : Lexeme). (pieced p.size l).broken) m ∙ p.readable;
          reaches = z ∙ p.reaches;
          inside = omega (arith, p.inside);
        }
    up_to_lexeme [] [] unreadable i s e = here_already at (x ∷ bs)
    up_to_lexeme [] (v ∷ vs) unreadable i s e = first_token v vs [] (e ∙ sym (append-nil _))
    up_to_lexeme (u ∷ us) vs unreadable i s e = first_token u us vs e

pub through :
    (k at : ℕ) (text : List ℕ) (us vs : List Token) → k ≤ length text → (tokens_from k at text).tokens ≡ us ++ vs → Through k at text us
unfolding tokens_from
through zero at [] us vs h e = go us e
  where
    go : (us : List Token) → [] ≡ us ++ vs → Through zero at [] us
    go [] e = nothing_yet at []
    go (u ∷ us) e = first_token u us vs e
through (suc k) at [] us vs h e = absurd (omega arith)
through (suc k) at (x ∷ bs) us vs h e =
    let p = through k (1 + at) bs us vs (omega arith) e in
    let y : at + suc p.size ≡ 1 + at + p.size = omega arith in
    let z : 1 + at + k ≡ at + suc k = omega arith in
    record {
      size = suc p.size;
      over = omega (arith, p.over);
      read = p.read;
      readable = p.readable;
      reaches = y ∙ p.reaches ∙ ap (λ (n : ℕ). end_of n us) z;
      inside = omega (arith, p.inside);
    }
through zero at (x ∷ bs) us vs h e = through_start at x bs (λ k us vs h e. through k (1 + at) bs us vs h e) us vs e

pub up_to :
    (k at : ℕ) (text : List ℕ) (us vs : List Token) → k ≤ length text → (tokens_from k at text).tokens ≡ us ++ vs →
    UpTo k at text us (place_at vs (tokens_from k at text).ends)
unfolding tokens_from
up_to zero at [] us vs h e = go us vs e
  where
    go : (us vs : List Token) → [] ≡ us ++ vs → UpTo zero at [] us (place_at vs at)
    go [] [] e = here_already at []
    go [] (v ∷ vs) e = first_token v vs [] (e ∙ sym (append-nil _))
    go (u ∷ us) vs e = first_token u us vs e
up_to (suc k) at [] us vs h e = absurd (omega arith)
up_to (suc k) at (x ∷ bs) us vs h e =
    let p = up_to k (1 + at) bs us vs (omega arith) e in
    let y : at + suc p.size ≡ 1 + at + p.size = omega arith in
    record {
      size = suc p.size;
      over = omega (arith, p.over);
      read = p.read;
      readable = p.readable;
      reaches = y ∙ p.reaches;
      inside = omega (arith, p.inside);
    }
up_to zero at (x ∷ bs) us vs h e =
    up_to_lexeme at x bs (λ k us vs h e. up_to k (1 + at) bs us vs h e) us vs (lexeme (x ∷ bs)) refl (lexeme_small x bs) e

-- ---- What some text of the grammar comes by and then more, a text that begins with given bytes comes by and then more.

low_append : (xs ys : List ℕ) → Low (xs ++ ys) → Low ys
low_append [] ys h = h
low_append (x ∷ xs) ys h = low_append xs ys h.1

pub record Onward (a : List ℕ) (es : List Seen) : Type 0 where
  pub added : List ℕ
  pub more : List Seen
  pub is : TextOf (a ++ (10 ∷ added)) (es ++ more)
  pub after : (t : Token) → Among t (tokens_of more) → length a < t.begins

pub onward : (a : List ℕ) (es : List Seen) → Begins es → (tokens_in a).tokens ≡ tokens_of es → (tokens_in a).broken ≡ false → Onward a es
unfolding tokens_in
onward a es b e i =
    let ss = sorts (tokens_of b.more) in
    let lows = subst Low (ap sorts (tokens_append es b.more) ∙ sorts_append (tokens_of es) (tokens_of b.more)) (low b.derived spelled_document) in
    let w = spelled (1 + length a) (sorts (tokens_of b.more)) (low_append (sorts (tokens_of es)) (sorts (tokens_of b.more)) lows) in
    let added : List ℕ = spell (sorts (tokens_of b.more)) in
    let g = tokens_joined a (spell (sorts (tokens_of b.more))) i in
    let new : List Token = (tokens_from 0 (1 + length a) (spell (sorts (tokens_of b.more)))).tokens in
    let r = respan_from es b.more b.derived refl (tokens_from 0 (1 + length a) (spell (sorts (tokens_of b.more)))).tokens (sym w.0) in
    record {
      added = added;
      more = r.more;
      is = record {
        readable = ap (λ (l : Lexed). l.broken) g ∙ w.1;
        comes = record {
          derived = r.derived;
          read =
              tokens_append es r.more ∙ ap (λ (ts : List Token). tokens_of es ++ ts) r.read ∙ ap (λ (ts : List Token). ts ++ new) (sym e) ∙
              sym (ap (λ (l : Lexed). l.tokens) g);
        };
      };
      after = λ t h.
          let k = later 0 (1 + length a) (spell (sorts (tokens_of b.more))) (subst (λ (ts : List Token). Among t ts) r.read h) in
          omega arith;
    }

-- Whatever is derived is so of some text.
pub some_text : (es : List Seen) → Derives (part Document ∷ []) es → SomeText (sorts (tokens_of es))
unfolding tokens_in
some_text es d =
    let w = spelled 0 (sorts (tokens_of es)) (low d spelled_document) in
    let r = respan d (tokens_from 0 0 (spell (sorts (tokens_of es)))).tokens (sym w.0) in
    record {
      text = spell (sorts (tokens_of es));
      seen = r.seen;
      is = record { readable = w.1; comes = record { derived = r.derived; read = r.read } };
      sorted = w.0;
    }
