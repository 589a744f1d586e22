-- The function is what is promised, and nothing else is: said of lists of tokens. Promised carries it to texts.
use mathlib.Core.Path.{◌≡◌, refl, sym, ap, ◌∙◌, subst}
use mathlib.Core.List.{List, [], ◌∷◌, ◌++◌, append_assoc, append-nil}
use mathlib.Core.Bool.{Bool, true, false}
use mathlib.Core.Option.{Option, none, some}
use mathlib.Core.Logic.{◌⊎◌, inl, inr}
use Prim.Native.Nat.{ℕ}
use native.Mathlib.Omega.{arith}
use lib.Dec.{leb}
use Rattle.definition.specs.Lists.{choose, found}
use Rattle.definition.specs.Grammar.{Symbol, part, Document, within}
use Rattle.definition.specs.Derivation.{Token, Seen, token, marked, Derives, nothing, reads, marks, expands, tokens_of, Comes}
use Rattle.definition.specs.Lexical.{Lexed, tokens_in}
use Rattle.definition.specs.Machine.{ahead, Ending, whole, stops, Walks, finish, surplus, shift, wrong, missing, note, expand, stuck, Walked, walk}
use Rattle.definition.specs.ItemCards.{too_deep, level_after, levels}
use Rattle.definition.specs.Reading.{Reading, accepted, refused, place_at, judged, reading}
use Rattle.parser_laws.proofs.Tests.{clash}
use Rattle.parser_laws.proofs.Theory.{Good, good_expand, good_document, begins, chosen, picked}
use Rattle.parser_laws.proofs.Viability.{sound, read_all, parted, begun_so, unwanted, unique, never_stops, same_way, Alike}
use Rattle.parser_laws.proofs.Walking.{walks}

-- ---- What is promised, of tokens.

-- Some text of the grammar begins with these tokens.
pub record Viable (ts : List Token) : Type 0 where
  pub more : List Token
  pub seen : List Seen
  pub comes : Comes (ts ++ more) seen

-- Some text of the grammar has the next thing there: after the tokens `before` the first of `rest`, or where there is none the end of the text,
-- unless something unreadable stands there.
abbrev pub Has : List Token → List Token → Bool → Type 0
Has before (t ∷ rest) broken = Viable (before ++ (t ∷ []))
Has before [] true = ⊥
Has before [] false = (es : List Seen) × Comes before es

-- Some text of the grammar comes by these things, and then by more.
pub record Begins (es : List Seen) : Type 0 where
  pub more : List Seen
  pub derived : Derives (part Document ∷ []) (es ++ more)

-- What tokens are read as.
pub data Reads (l : Lexed) : Reading → Type 0 where
  -- those of a text of the grammar, with no 33rd level, that is read to its end
  accepts : {es : List Seen} → Comes l.tokens es → l.broken ≡ false → too_deep 0 es ≡ none → Reads l (accepted es)
  -- 29 at the first place that no text of the grammar has there, and no 33rd level before it
  refuses_29 :
      (es : List Seen) (rest : List Token) → Begins es → l.tokens ≡ tokens_of es ++ rest → too_deep 0 es ≡ none →
      (Has (tokens_of es) rest l.broken → ⊥) → Reads l (refused 29 (place_at rest l.ends))
  -- 30 where a text of the grammar that begins so opens a 33rd level
  refuses_30 :
      {p : ℕ} (es : List Seen) (rest : List Token) → Begins es → l.tokens ≡ tokens_of es ++ rest → too_deep 0 es ≡ some p → Reads l (refused 30 p)

-- ---- The function is what is promised.

module _ (l : Lexed) where
  -- what a reading that stops is told of
  no_more : (us : List Token) {es : List Seen} → Walks l.tokens (part Document ∷ []) es (stops us) → (b : Bool) → Has (tokens_of es) us b → ⊥
  no_more [] {es} w true h = h
  no_more [] {es} w false h = unwanted w good_document h.1.derived [] (h.1.read ∙ sym (append-nil _)) refl
  no_more (u ∷ us) {es} w b h =
      unwanted w good_document h.comes.derived (u ∷ h.more) (h.comes.read ∙ append_assoc (tokens_of es) (u ∷ []) h.more) (h.more, refl)

  begins_whole : {es : List Seen} → Derives (part Document ∷ []) es → Begins es
  begins_whole {es} d = record { more = []; derived = rw (append-nil es) d }

  begins_stops : {es : List Seen} {us : List Token} → Walks l.tokens (part Document ∷ []) es (stops us) → Begins es
  begins_stops w = let b = begun_so w good_document in record { more = b.rest; derived = b.derived }

  right_so : (es : List Seen) (e : Ending) → Walks l.tokens (part Document ∷ []) es e → Reads l (judged l (record { seen = es; ending = e }))
  unfolding judged
  right_so es e w = go (too_deep 0 es) refl e w
    where
      go :
          (o : Option ℕ) → too_deep 0 es ≡ o → (e : Ending) → Walks l.tokens (part Document ∷ []) es e →
          Reads l (found o (λ p. refused 30 p) (elim e [
            | whole ↦ choose l.broken (refused 29 l.ends) (accepted es)
            | stops ts ↦ refused 29 (place_at ts l.ends)
          ]))
      go (some p) d whole w = refuses_30 es [] (begins_whole (sound w)) (sym (read_all w) ∙ sym (append-nil _)) d
      go (some p) d (stops us) w = refuses_30 es us (begins_stops w) (parted w) d
      go none d whole w = ended l.broken refl
        where
          ended : (b : Bool) → l.broken ≡ b → Reads l (choose b (refused 29 l.ends) (accepted es))
          ended true i =
              refuses_29 es [] (begins_whole (sound w)) (sym (read_all w) ∙ sym (append-nil _)) d (λ h. subst (λ (b : Bool). Has (tokens_of es) [] b) i h)
          ended false i = accepts (record { derived = sound w; read = read_all w }) i d
      go none d (stops us) w = refuses_29 es us (begins_stops w) (parted w) d (no_more us w l.broken)

pub right : (l : Lexed) → Reads l (judged l (walk l.tokens (part Document ∷ [])))
right l = right_so l _ _ (walks l.tokens (part Document ∷ []))

-- ---- Nothing else is promised.

pub tokens_append : (es fs : List Seen) → tokens_of (es ++ fs) ≡ tokens_of es ++ tokens_of fs
unfolding tokens_of
tokens_append [] fs = refl
tokens_append (token t ∷ es) fs = ap (λ (ts : List Token). t ∷ ts) (tokens_append es fs)
tokens_append (marked m ∷ es) fs = tokens_append es fs

-- Without a token there is no 33rd level.
no_token_lem : (l : ℕ) (es : List Seen) (p : ℕ) → tokens_of es ≡ [] → too_deep l es ≡ some p → ⊥
unfolding tokens_of too_deep
no_token_lem l [] p e d = let z : ◌≡◌ {A = ℕ} 0 1 = cc in omega arith
no_token_lem l (token t ∷ es) p e d = let z : ◌≡◌ {A = ℕ} 0 1 = cc in omega arith
no_token_lem l (marked m ∷ es) p e d = no_token_lem (level_after m l) es p e d

-- Lists that begin alike with some token have the same token ahead.
ahead_same : (xs ys zs : List Token) → (xs ≡ [] → ⊥) → ahead (xs ++ ys) ≡ ahead (xs ++ zs)
ahead_same [] ys zs h = absurd (h refl)
ahead_same (x ∷ xs) ys zs h = refl

token_ahead :
    {ts : List Token} {gs : List Seen} (es more : List Seen) (rest : List Token) → ts ≡ tokens_of es ++ rest → gs ≡ es ++ more →
    (tokens_of es ≡ [] → ⊥) → ahead ts ≡ ahead (tokens_of gs)
token_ahead es more rest e i h = ap ahead e ∙ ahead_same (tokens_of es) rest (tokens_of more) h ∙ ap ahead (sym (ap tokens_of i ∙ tokens_append es more))

-- es is a beginning of fs, but for marks after its last token.
pub data Leading : List Seen → List Seen → Type 0 where
  bare : {es fs : List Seen} → tokens_of es ≡ [] → Leading es fs
  step : {x : Seen} {es fs : List Seen} → Leading es fs → Leading (x ∷ es) (x ∷ fs)

leading_deep : {es fs : List Seen} (l p : ℕ) → Leading es fs → too_deep l es ≡ some p → too_deep l fs ≡ some p
unfolding too_deep
leading_deep {es} l p (bare e) d = absurd (no_token_lem l es p e d)
leading_deep l p (step {x = token t} {es = es} {fs = fs} h) d = go (leb l levels) d (leading_deep l p h)
  where
    go :
        (b : Bool) → choose b (too_deep l es) (some t.begins) ≡ some p → (too_deep l es ≡ some p → too_deep l fs ≡ some p) →
        choose b (too_deep l fs) (some t.begins) ≡ some p
    go true k f = f k
    go false k f = k
leading_deep l p (step {x = marked m} h) d = leading_deep (level_after m l) p h d

-- With as many tokens it goes both ways.
leading_back : {es fs : List Seen} → Leading es fs → tokens_of es ≡ tokens_of fs → Leading fs es
unfolding tokens_of
leading_back (bare h) e = bare (sym e ∙ h)
leading_back (step {x = token t} h) e = step (leading_back h (cc))
leading_back (step {x = marked m} h) e = step (leading_back h e)

-- What a list of things seen begins with, where it has a token and begins with a given thing.
pub record Split (x : Seen) (gs es more : List Seen) : Type 0 where
  pub rest : List Seen
  pub is : es ≡ x ∷ rest
  pub tail : gs ≡ rest ++ more

split : (x : Seen) (gs es more : List Seen) → (x ∷ gs) ≡ es ++ more → (tokens_of es ≡ [] → ⊥) → Split x gs es more
unfolding tokens_of
split x gs [] more i h = absurd (h refl)
split x gs (y ∷ es) more i h = let z : y ≡ x = cc in record { rest = es; is = ap (λ (v : Seen). v ∷ es) z; tail = cc }

nil_append : (es more : List Seen) → [] ≡ es ++ more → tokens_of es ≡ []
unfolding tokens_of
nil_append [] more i = refl
nil_append (x ∷ es) more i = let z : ◌≡◌ {A = ℕ} 0 1 = cc in absurd (omega arith)

nil_tokens : (ts rest : List Token) → [] ≡ ts ++ rest → ts ≡ []
nil_tokens [] rest i = refl
nil_tokens (t ∷ ts) rest i = let z : ◌≡◌ {A = ℕ} 0 1 = cc in absurd (omega arith)

tokenless : (es : List Seen) → (tokens_of es ≡ []) ⊎ (tokens_of es ≡ [] → ⊥)
unfolding tokens_of
tokenless [] = inl refl
tokenless (token t ∷ es) = inr (λ e. let z : ◌≡◌ {A = ℕ} 0 1 = cc in omega arith)
tokenless (marked m ∷ es) = tokenless es

tail_of : (es : List Seen) {fs : List Seen} → (tokens_of es ≡ []) ⊎ (tokens_of es ≡ [] → ⊥) → ((tokens_of es ≡ [] → ⊥) → Leading es fs) → Leading es fs
tail_of es (inl e) f = bare e
tail_of es (inr k) f = f k

joined : {x y : Seen} {es tail fs : List Seen} → es ≡ x ∷ tail → x ≡ y → Leading tail fs → Leading es (y ∷ fs)
joined {x} {y} {es} {tail} {fs} e z h =
    let q : y ∷ tail ≡ es = cc in
    subst (λ (v : List Seen). Leading v (y ∷ fs)) q (step h)

-- Whatever text of the grammar begins as the machine's tokens do, the machine comes by the same things.
pub leading :
    {ts : List Token} {ss : List Symbol} {fs gs : List Seen} {e : Ending} (es more : List Seen) (rest : List Token) → Walks ts ss fs e → Good ss →
    Derives ss gs → gs ≡ es ++ more → ts ≡ tokens_of es ++ rest → (tokens_of es ≡ [] → ⊥) → Leading es fs
unfolding tokens_of
leading es more rest finish g nothing i j k = bare (nil_append es more i)
leading es more rest surplus g nothing i j k = bare (nil_append es more i)
leading es more rest (shift {t = t} {ts = ts} h w) g (reads {t = u} {es = gs} v d) i j k =
    let q = split (token u) gs es more i k in
    let f : t ∷ ts ≡ u ∷ (tokens_of q.rest ++ rest) = j ∙ ap (λ (x : List Seen). tokens_of x ++ rest) q.is in
    let z : u ≡ t = cc in
    let m : ts ≡ tokens_of q.rest ++ rest = cc in
    joined q.is (ap token z) (tail_of q.rest (tokenless q.rest) (λ n. leading q.rest more rest w g.1 d q.tail m n))
leading es more rest (wrong {lo = lo} {hi = hi} {t = t} {ts = ts} h) g (reads {t = u} {es = gs} v d) i j k =
    let q = split (token u) gs es more i k in
    let f : t ∷ ts ≡ u ∷ (tokens_of q.rest ++ rest) = j ∙ ap (λ (x : List Seen). tokens_of x ++ rest) q.is in
    let z : u ≡ t = cc in
    clash (sym h ∙ ap (λ (x : Token). within lo hi x.sort) (sym z) ∙ v)
leading es more rest missing g (reads v d) i j k = absurd (k (nil_tokens (tokens_of es) rest j))
leading es more rest (note {m = m} w) g (marks {es = gs} d) i j k =
    let q = split (marked m) gs es more i k in
    let f = j ∙ ap (λ (x : List Seen). tokens_of x ++ rest) q.is in
    joined q.is refl (leading q.rest more rest w g d q.tail f (λ e. k (ap tokens_of q.is ∙ e)))
leading es more rest (expand {n = n} {r = r} {ts = ts} {ss = ss} h w) g (expands {r = q} a d) i j k =
    leading es more rest w (good_expand n ss (picked (ahead ts) n r h) g) (same_way ts n r q ss h a g (token_ahead es more rest j i k) d) i j k
leading es more rest (stuck {n = n} {ts = ts} {ss = ss} h) g (expands {r = q} {es = gs} a d) i j k =
    let b = token_ahead es more rest j i k in
    let c = chosen n ss (ahead (tokens_of gs)) a g (begins d) in
    let z : ◌≡◌ {A = ℕ} 0 1 = cc in
    absurd (omega arith)

-- Two ways to part one list.
data Cut : List Token → List Token → List Token → List Token → Type 0 where
  even : {a b : List Token} → Cut a b a b
  short : {a d : List Token} (y : Token) (x : List Token) → Cut a (y ∷ (x ++ d)) (a ++ (y ∷ x)) d
  long : {c b : List Token} (y : Token) (x : List Token) → Cut (c ++ (y ∷ x)) b c (y ∷ (x ++ b))

cut : (a b c d : List Token) → a ++ b ≡ c ++ d → Cut a b c d
cut [] b [] d e = subst (λ (v : List Token). Cut [] b [] v) e even
cut [] b (y ∷ c) d e = subst (λ (v : List Token). Cut [] v (y ∷ c) d) (sym e) (short y c)
cut (x ∷ a) b [] d e = subst (λ (v : List Token). Cut (x ∷ a) b [] v) e (long x a)
cut (x ∷ a) b (y ∷ c) d e =
    let z : x ≡ y = cc in
    subst (λ (v : Token). Cut (x ∷ a) b (v ∷ c) d) z (more x (cut a b c d (cc)))
  where
    more : {a b c d : List Token} (x : Token) → Cut a b c d → Cut (x ∷ a) b (x ∷ c) d
    more x even = even
    more x (short y z) = short y z
    more x (long y z) = long y z

-- With the same tokens, neither opens a 33rd level where the other does not.
none_too : (es fs : List Seen) → tokens_of es ≡ tokens_of fs → ((tokens_of es ≡ [] → ⊥) → Leading es fs) → too_deep 0 es ≡ none → too_deep 0 fs ≡ none
none_too es fs e f d = go (too_deep 0 fs) refl (tail_of es (tokenless es) f)
  where
    go : (o : Option ℕ) → too_deep 0 fs ≡ o → Leading es fs → o ≡ none
    go none i h = refl
    go (some p) i h = let j = leading_deep 0 p (leading_back h e) i in let z : ◌≡◌ {A = ℕ} 0 1 = cc in absurd (omega arith)

module _ (l : Lexed) where
  judged_deep : (w : Walked) (p : ℕ) → too_deep 0 w.seen ≡ some p → refused 30 p ≡ judged l w
  unfolding judged
  judged_deep w p d = rw d

  judged_stops :
      (fs : List Seen) (us : List Token) → too_deep 0 fs ≡ none →
      refused 29 (place_at us l.ends) ≡ judged l (record { seen = fs; ending = stops us })
  unfolding judged
  judged_stops fs us d = rw d

  judged_broken : (fs : List Seen) → too_deep 0 fs ≡ none → l.broken ≡ true → refused 29 l.ends ≡ judged l (record { seen = fs; ending = whole })
  unfolding judged
  judged_broken fs d b = rw (d, b)

  judged_whole : (fs : List Seen) → too_deep 0 fs ≡ none → l.broken ≡ false → accepted fs ≡ judged l (record { seen = fs; ending = whole })
  unfolding judged
  judged_whole fs d b = rw (d, b)

  viable_so :
      (before : List Token) {ts : List Token} {fs : List Seen} (t : Token) (more : List Token) → Comes ts fs → ts ≡ before ++ (t ∷ more) →
      Viable (before ++ (t ∷ []))
  viable_so before {ts} {fs} t more c e = record {
    more = more;
    seen = fs;
    comes = record { derived = c.derived; read = c.read ∙ e ∙ sym (append_assoc before (t ∷ []) more) };
  }

  module _ (
      es : List Seen) (rest : List Token) (b : Begins es) (j : l.tokens ≡ tokens_of es ++ rest) (d : too_deep 0 es ≡ none) (
      n : Has (tokens_of es) rest l.broken → ⊥) (fs : List Seen) where
    before_too : {e : Ending} → Walks l.tokens (part Document ∷ []) fs e → tokens_of es ≡ tokens_of fs → too_deep 0 fs ≡ none
    before_too w i = none_too es fs i (λ k. leading es b.more rest w good_document b.derived refl j k) d

    with_stops :
        (us : List Token) → Walks l.tokens (part Document ∷ []) fs (stops us) →
        refused 29 (place_at rest l.ends) ≡ judged l (record { seen = fs; ending = stops us })
    with_stops us w = go (tokens_of es) rest (tokens_of fs) us (cut (tokens_of es) rest (tokens_of fs) us (sym j ∙ parted w)) refl refl refl refl
      where
        go :
            (p q r s : List Token) → Cut p q r s → p ≡ tokens_of es → q ≡ rest → r ≡ tokens_of fs → s ≡ us →
            refused 29 (place_at rest l.ends) ≡ judged l (record { seen = fs; ending = stops us })
        go p q r s even ip iq ir is =
            let z : rest ≡ us = cc in
            ap (λ (v : List Token). refused 29 (place_at v l.ends)) z ∙ judged_stops fs us (before_too w (cc))
        go p q r s (short y x) ip iq ir is =
            let c = begun_so w good_document in
            let f = tokens_append fs c.rest ∙ ap (λ (k : List Token). k ++ tokens_of c.rest) (sym ir) in
            let v : Viable (p ++ (y ∷ [])) =
            viable_so p y (x ++ tokens_of c.rest) (record { derived = c.derived; read = f }) (append_assoc p (y ∷ x) (tokens_of c.rest)) in
            absurd (n (subst (λ (k : List Token). Has (tokens_of es) k l.broken) iq (subst (λ (k : List Token). Viable (k ++ (y ∷ []))) ip v)))
        go p q r s (long y x) ip iq ir is =
            absurd (unwanted w good_document b.derived (y ∷ (x ++ tokens_of b.more))
            (tokens_append es b.more ∙ ap (λ (k : List Token). k ++ tokens_of b.more) (sym ip) ∙ append_assoc r (y ∷ x) (tokens_of b.more) ∙
            ap (λ (k : List Token). k ++ (y ∷ (x ++ tokens_of b.more))) ir)
            (subst (λ (k : List Token). Alike k (y ∷ (x ++ tokens_of b.more))) is (x ++ tokens_of b.more, refl)))

  with_whole :
      (es : List Seen) (rest : List Token) (b : Begins es) (j : l.tokens ≡ tokens_of es ++ rest) (d : too_deep 0 es ≡ none)
      (n : Has (tokens_of es) rest l.broken → ⊥) (fs : List Seen) →
      Walks l.tokens (part Document ∷ []) fs whole → refused 29 (place_at rest l.ends) ≡ judged l (record { seen = fs; ending = whole })
  with_whole es (t ∷ more) b j d n fs w = absurd (n (viable_so (tokens_of es) t more (record { derived = sound w; read = read_all w }) j))
  with_whole es [] b j d n fs w = go l.broken refl
    where
      same : tokens_of fs ≡ tokens_of es
      same = read_all w ∙ j ∙ append-nil _

      go : (c : Bool) → l.broken ≡ c → refused 29 l.ends ≡ judged l (record { seen = fs; ending = whole })
      go true i = judged_broken fs (before_too es [] b j d n fs w (sym same)) i
      go false i = absurd (n (subst (λ (c : Bool). Has (tokens_of es) [] c) (sym i) (fs, record { derived = sound w; read = same })))

  only_so :
      {r : Reading} (fs : List Seen) (e : Ending) → Walks l.tokens (part Document ∷ []) fs e → Reads l r →
      r ≡ judged l (record { seen = fs; ending = e })
  only_so fs whole w (accepts {es = es} c b d) =
      let z = unique w good_document c.derived c.read in
      ap accepted z ∙ judged_whole fs (ap (too_deep 0) (sym z) ∙ d) b
  only_so fs (stops us) w (accepts c b d) = absurd (never_stops w good_document c.derived c.read)
  only_so fs e w (refuses_30 {p = p} es rest b j d) =
      let k : tokens_of es ≡ [] → ⊥ = λ i. no_token_lem 0 es p i d in
      judged_deep (record { seen = fs; ending = e }) p (leading_deep 0 p (leading es b.more rest w good_document b.derived refl j k) d)
  only_so fs whole w (refuses_29 es rest b j d n) = with_whole es rest b j d n fs w
  only_so fs (stops us) w (refuses_29 es rest b j d n) = with_stops es rest b j d n fs us w

-- Whatever a text is promised to be read as is what the function says.
pub only : (l : Lexed) {r : Reading} → Reads l r → r ≡ judged l (walk l.tokens (part Document ∷ []))
only l h = only_so l _ _ (walks l.tokens (part Document ∷ [])) h

-- ---- In short.

-- The function says what is promised, there is one such thing, and a text is accepted just where it is one of the grammar, read to its end, with no 33rd level.
pub reading_right : (text : List ℕ) → Reads (tokens_in text) (reading text)
unfolding reading
reading_right text = right (tokens_in text)

pub one_reading : (l : Lexed) {r s : Reading} → Reads l r → Reads l s → r ≡ s
one_reading l h k = only l h ∙ sym (only l k)

pub accepted_there :
    (text : List ℕ) (es : List Seen) → Comes (tokens_in text).tokens es → (tokens_in text).broken ≡ false → too_deep 0 es ≡ none →
    reading text ≡ accepted es
unfolding reading
accepted_there text es c b d = sym (only (tokens_in text) (accepts c b d))

pub record Accepted (text : List ℕ) (es : List Seen) : Type 0 where
  pub comes : Comes (tokens_in text).tokens es
  pub readable : (tokens_in text).broken ≡ false
  pub shallow : too_deep 0 es ≡ none

pub accepted_only : (text : List ℕ) (es : List Seen) → reading text ≡ accepted es → Accepted text es
accepted_only text es e = go (reading text) (reading_right text) e
  where
    go : (r : Reading) → Reads (tokens_in text) r → r ≡ accepted es → Accepted text es
    go r (accepts {es = fs} c b d) e =
        let z : fs ≡ es = cc in
        subst (λ (x : List Seen). Accepted text x) z (record { comes = c; readable = b; shallow = d })
    go r (refuses_29 fs rest b j d n) e = let z : ◌≡◌ {A = ℕ} 0 1 = cc in absurd (omega arith)
    go r (refuses_30 fs rest b j d) e = let z : ◌≡◌ {A = ℕ} 0 1 = cc in absurd (omega arith)
