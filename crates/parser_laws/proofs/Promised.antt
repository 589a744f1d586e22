-- The function is what is promised, and nothing else is: said of texts.
use mathlib.Core.Path.{◌≡◌, refl, sym, ap, ◌∙◌, subst}
use mathlib.Core.List.{List, [], ◌∷◌, ◌++◌, append_assoc, append-nil}
use mathlib.Core.Bool.{Bool, true, false}
use mathlib.Core.Option.{Option, none, some}
use Prim.Native.Nat.{ℕ, zero, suc, ◌+◌, ◌-◌, ◌≤◌, ◌<◌}
use native.Mathlib.Omega.{arith}
use borrow.Author.Tests.{ltb-false, le-ltb}
use lib.Dec.{leb, ltb}
use lib.ListN.{length, take, drop}
use lib.Seq.{length-take-le, take-take, take_at}
use Rattle.definition.specs.Lists.{choose, flat_map, Among, here, there}
use Rattle.definition.specs.Grammar.{part, Document}
use Rattle.definition.specs.Derivation.{Token, Seen, token, marked, Derives, tokens_of, Comes}
use Rattle.definition.specs.Lexical.{Lexeme, ignored, lexed, unreadable, lexeme, Lexed, lexed_by, tokens_from, tokens_in}
use Rattle.definition.specs.Machine.{Ending, whole, stops, Walks}
use Rattle.definition.specs.ItemCards.{cards_read, too_deep, level_after, levels}
use Rattle.definition.specs.Cards.{words_of_card}
use Rattle.definition.specs.Reading.{Reading, refused, place_at, reading}
use Rattle.definition.specs.Refusals.{text_capacity, card_capacity, read_cards_capacity}
use Rattle.definition.specs.Outcomes.{ListOutcome, unlisted, listed_in, is_short, parsed, parse}
use Rattle.definition.proofs.RefusedCalls.{parse_stays}
use Rattle.definition.specs.Promise.{TextOf, GoesOn, sorts, SomeText, NoneHas, no_token_lem, no_reading, no_end, Promised, accepts, refuses_29, refuses_30}
use Rattle.definition.specs.Promise.{Passes, ReadingPromised}
use Rattle.parser_laws.proofs.Tests.{clash}
use Rattle.parser_laws.proofs.Theory.{good_document}
use Rattle.parser_laws.proofs.Viability.{unique, never_stops}
use Rattle.parser_laws.proofs.Walking.{walks}
use Rattle.parser_laws.proofs.Right.{Viable, Has, Begins, Reads, accepts as accepts-tokens, refuses_29 as refuses-29-tokens}
use Rattle.parser_laws.proofs.Right.{refuses_30 as refuses-30-tokens, tokens_append, reading_right, only, Accepted, accepted_there, accepted_only}
use Rattle.parser_laws.proofs.Gluing.{Small, lexeme_small, tokens_joined}
use Rattle.parser_laws.proofs.Cutting.{later, earlier}
use Rattle.parser_laws.proofs.Real.{respan, sorts_append, end_of, through, up_to, onward, some_text}

-- ---- Levels.

-- A 33rd level that is opened stays opened, whatever comes after.
deep_first : (l : ℕ) (es fs : List Seen) (q : ℕ) → too_deep l es ≡ some q → too_deep l (es ++ fs) ≡ some q
unfolding too_deep
deep_first l [] fs q d = let z : ◌≡◌ {A = ℕ} 0 1 = cc in absurd (omega arith)
deep_first l (token t ∷ es) fs q d = go (leb l levels) d (deep_first l es fs q)
  where
    go :
        (b : Bool) → choose b (too_deep l es) (some t.begins) ≡ some q → (too_deep l es ≡ some q → too_deep l (es ++ fs) ≡ some q) →
        choose b (too_deep l (es ++ fs)) (some t.begins) ≡ some q
    go true k f = f k
    go false k f = k
deep_first l (marked m ∷ es) fs q d = deep_first (level_after m l) es fs q d

-- The token that opens it.
record Opener (l : ℕ) (es : List Seen) (q : ℕ) : Type 0 where
  before : List Seen
  opens : Token
  after : List Seen
  parts : es ≡ before ++ (token opens ∷ after)
  begins : opens.begins ≡ q
  deep : too_deep l (before ++ (token opens ∷ [])) ≡ some opens.begins

opener : (l : ℕ) (es : List Seen) (q : ℕ) → too_deep l es ≡ some q → Opener l es q
unfolding too_deep
opener l [] q d = let z : ◌≡◌ {A = ℕ} 0 1 = cc in absurd (omega arith)
opener l (token t ∷ es) q d = go (leb l levels) refl d (opener l es q)
  where
    go :
        (b : Bool) → leb l levels ≡ b → choose b (too_deep l es) (some t.begins) ≡ some q → (too_deep l es ≡ some q → Opener l es q) →
        Opener l (token t ∷ es) q
    go true i k f =
        let o = f k in
        record {
          before = token t ∷ o.before;
          opens = o.opens;
          after = o.after;
          parts = ap (λ (x : List Seen). token t ∷ x) o.parts;
          begins = o.begins;
          deep = rw i o.deep;
        }
    go false i k f = record { before = []; opens = t; after = es; parts = refl; begins = cc; deep = rw i refl }
opener l (marked m ∷ es) q d =
    let o = opener (level_after m l) es q d in
    record {
      before = marked m ∷ o.before;
      opens = o.opens;
      after = o.after;
      parts = ap (λ (x : List Seen). marked m ∷ x) o.parts;
      begins = o.begins;
      deep = o.deep;
    }

among_middle : {A : Type 0} (xs : List A) (t : A) (ys : List A) → Among t (xs ++ (t ∷ ys))
among_middle [] t ys = here
among_middle (x ∷ xs) t ys = there (among_middle xs t ys)

-- A token among those of what was seen.
record TokenAt (es : List Seen) (q : ℕ) : Type 0 where
  one : Token
  among : Among one (tokens_of es)
  begins : one.begins ≡ q

opens_at : (l : ℕ) (es : List Seen) (q : ℕ) → too_deep l es ≡ some q → TokenAt es q
unfolding tokens_of
opens_at l es q d =
    let o = opener l es q d in
    let e : tokens_of es ≡ tokens_of o.before ++ (o.opens ∷ tokens_of o.after) =
    ap tokens_of o.parts ∙ tokens_append o.before (token o.opens ∷ o.after) in
    record {
      one = o.opens;
      among = rw e (among_middle (tokens_of o.before) o.opens (tokens_of o.after));
      begins = o.begins;
    }

-- A 33rd level that is not opened at first is opened by what comes after.
deep_after : (l : ℕ) (es fs : List Seen) (q : ℕ) → too_deep l es ≡ none → too_deep l (es ++ fs) ≡ some q → TokenAt fs q
unfolding too_deep
deep_after l [] fs q n d = opens_at l fs q d
deep_after l (token t ∷ es) fs q n d = go (leb l levels) n d (deep_after l es fs q)
  where
    go :
        (b : Bool) → choose b (too_deep l es) (some t.begins) ≡ none → choose b (too_deep l (es ++ fs)) (some t.begins) ≡ some q →
        (too_deep l es ≡ none → too_deep l (es ++ fs) ≡ some q → TokenAt fs q) → TokenAt fs q
    go true n d f = f n d
    go false n d f = let z : ◌≡◌ {A = ℕ} 0 1 = cc in absurd (omega arith)
deep_after l (marked m ∷ es) fs q n d = deep_after (level_after m l) es fs q n d

-- ---- What was seen, parted where its tokens are.

record Parted (gs : List Seen) (ts us : List Token) : Type 0 where
  before : List Seen
  after : List Seen
  parts : gs ≡ before ++ after
  first : tokens_of before ≡ ts
  last : tokens_of after ≡ us

part_seen : (gs : List Seen) (ts us : List Token) → tokens_of gs ≡ ts ++ us → Parted gs ts us
unfolding tokens_of
part_seen gs [] us e = record { before = []; after = gs; parts = refl; first = refl; last = e }
part_seen [] (t ∷ ts) us e = let z : ◌≡◌ {A = ℕ} 0 1 = cc in absurd (omega arith)
part_seen (token u ∷ gs) (t ∷ ts) us e =
    let z : u ≡ t = cc in
    let p = part_seen gs ts us (cc) in
    record {
      before = token u ∷ p.before;
      after = p.after;
      parts = ap (λ (x : List Seen). token u ∷ x) p.parts;
      first = ap (λ (x : Token). x ∷ tokens_of p.before) z ∙ ap (λ (x : List Token). t ∷ x) p.first;
      last = p.last;
    }
part_seen (marked m ∷ gs) (t ∷ ts) us e =
    let p = part_seen gs (t ∷ ts) us e in
    record { before = marked m ∷ p.before; after = p.after; parts = ap (λ (x : List Seen). marked m ∷ x) p.parts; first = p.first; last = p.last }

record Splits (t : Token) (ts : List Token) : Type 0 where
  before : List Token
  after : List Token
  parts : ts ≡ before ++ (t ∷ after)

split_at : {t : Token} {ts : List Token} → Among t ts → Splits t ts
split_at (here {xs = xs}) = record { before = []; after = xs; parts = refl }
split_at (there {y = y} a) = let s = split_at a in record { before = y ∷ s.before; after = s.after; parts = ap (λ (x : List Token). y ∷ x) s.parts }

cancel : {t u : Token} (xs ys zs : List Token) → xs ++ (t ∷ ys) ≡ xs ++ (u ∷ zs) → t ≡ u
cancel [] ys zs e = cc
cancel (x ∷ xs) ys zs e = cancel xs ys zs (cc)

-- ---- Where a text ends, and where nothing readable stands.

ends_at : (k at : ℕ) (text : List ℕ) → k ≤ length text → (tokens_from k at text).broken ≡ false → (tokens_from k at text).ends ≡ at + length text
unfolding tokens_from
ends_at zero at [] h e = omega arith
ends_at (suc k) at [] h e = absurd (omega arith)
ends_at (suc k) at (x ∷ bs) h e = let i = ends_at k (1 + at) bs (omega arith) e in omega arith
ends_at zero at (x ∷ bs) h e = go (lexeme (x ∷ bs)) (lexeme_small x bs) e (λ k. ends_at k (1 + at) bs)
  where
    go :
        (l : Lexeme) → Small (suc (length bs)) l → (lexed_by at (λ k. tokens_from k (1 + at) bs) l).broken ≡ false →
        ((k : ℕ) → k ≤ length bs → (tokens_from k (1 + at) bs).broken ≡ false → (tokens_from k (1 + at) bs).ends ≡ 1 + at + length bs) →
        (lexed_by at (λ k. tokens_from k (1 + at) bs) l).ends ≡ at + suc (length bs)
    go (ignored n) s e f = let i = f (n - 1) (omega arith) e in omega arith
    go (lexed t n) s e f = let i = f (n - 1) (omega arith) e in omega arith
    go unreadable s e f = clash (sym e)

record Unread (at : ℕ) (text : List ℕ) (place : ℕ) : Type 0 where
  size : ℕ
  reaches : at + size ≡ place
  inside : size < length text
  nothing : lexeme (drop size text) ≡ unreadable

unread : (k at : ℕ) (text : List ℕ) → k ≤ length text → (tokens_from k at text).broken ≡ true → Unread at text (tokens_from k at text).ends
unfolding tokens_from
unread zero at [] h e = clash e
unread (suc k) at [] h e = clash e
unread (suc k) at (x ∷ bs) h e =
    let u = unread k (1 + at) bs (omega arith) e in
    let z : at + suc u.size ≡ 1 + at + u.size = omega arith in
    record { size = suc u.size; reaches = z ∙ u.reaches; inside = omega (arith, u.inside); nothing = u.nothing }
unread zero at (x ∷ bs) h e = go (lexeme (x ∷ bs)) refl (lexeme_small x bs) e (λ k. unread k (1 + at) bs)
  where
    on : (place : ℕ) → Unread (1 + at) bs place → Unread at (x ∷ bs) place
    on place u =
        let z : at + suc u.size ≡ 1 + at + u.size = omega arith in
        record { size = suc u.size; reaches = z ∙ u.reaches; inside = omega (arith, u.inside); nothing = u.nothing }

    go :
        (l : Lexeme) → lexeme (x ∷ bs) ≡ l → Small (suc (length bs)) l → (lexed_by at (λ k. tokens_from k (1 + at) bs) l).broken ≡ true →
        ((k : ℕ) → k ≤ length bs → (tokens_from k (1 + at) bs).broken ≡ true → Unread (1 + at) bs (tokens_from k (1 + at) bs).ends) →
        Unread at (x ∷ bs) (lexed_by at (λ k. tokens_from k (1 + at) bs) l).ends
    go (ignored n) i s e f = on _ (f (n - 1) (omega arith) e)
    go (lexed t n) i s e f = on _ (f (n - 1) (omega arith) e)
    go unreadable i s e f = record { size = 0; reaches = omega arith; inside = omega arith; nothing = i }

-- ---- Pieces of a text.

-- The piece up to a place, which has the tokens before it.
record Piece (text : List ℕ) (us : List Token) (place : ℕ) : Type 0 where
  read : (tokens_in (take place text)).tokens ≡ us
  readable : (tokens_in (take place text)).broken ≡ false
  long : length (take place text) ≡ place
  inside : place ≤ length text

piece_to : (text : List ℕ) (us vs : List Token) → (tokens_in text).tokens ≡ us ++ vs → Piece text us (place_at vs (tokens_in text).ends)
unfolding tokens_in
piece_to text us vs e =
    let u = up_to 0 0 text us vs (omega arith) e in
    let z : u.size ≡ place_at vs (tokens_from 0 0 text).ends = omega (arith, u.reaches) in
    rw (← z) (record { read = u.read; readable = u.readable; long = length-take-le u.size text u.inside; inside = u.inside })

end_last : (p : ℕ) (us : List Token) (t : Token) → end_of p (us ++ (t ∷ [])) ≡ t.begins + t.size
unfolding end_of
end_last p [] t = refl
end_last p (u ∷ us) t = end_last (u.begins + u.size) us t

-- The piece through a token.
piece_through :
    (text : List ℕ) (us : List Token) (t : Token) (vs : List Token) → (tokens_in text).tokens ≡ (us ++ (t ∷ [])) ++ vs →
    Piece text (us ++ (t ∷ [])) (t.begins + t.size)
unfolding tokens_in
piece_through text us t vs e =
    let u = through 0 0 text (us ++ (t ∷ [])) vs (omega arith) e in
    let z : u.size ≡ t.begins + t.size = omega (arith, u.reaches ∙ end_last (0 + 0) us t) in
    rw (← z) (record { read = u.read; readable = u.readable; long = length-take-le u.size text u.inside; inside = u.inside })

-- ---- The function is what is promised.

-- Tokens of given sorts.
blank : List ℕ → List Token
blank [] = []
blank (s ∷ ss) = record { sort = s; begins = 0; size = 0 } ∷ blank ss

sorts_blank : (ss : List ℕ) → sorts (blank ss) ≡ ss
unfolding blank sorts
sorts_blank [] = refl
sorts_blank (s ∷ ss) = ap (λ (x : List ℕ). s ∷ x) (sorts_blank ss)

-- Tokens that some text's are like in sort come from the grammar.
of_some : (ts : List Token) → SomeText (sorts ts) → (es : List Seen) × Comes ts es
of_some ts s =
    let r = respan s.is.comes.derived ts (ap sorts s.is.comes.read ∙ s.sorted) in
    (r.seen, record { derived = r.derived; read = r.read })

sorts_next : (before : List Token) (t : Token) (more : List Token) → sorts ((before ++ (t ∷ [])) ++ more) ≡ sorts before ++ (t.sort ∷ sorts more)
unfolding sorts
sorts_next before t more = ap sorts (append_assoc before (t ∷ []) more) ∙ sorts_append before (t ∷ more)

module _ (text : List ℕ) where
  none_has :
      (before rest : List Token) (b : Bool) → (tokens_in text).tokens ≡ before ++ rest → (tokens_in text).broken ≡ b → (Has before rest b → ⊥) →
      NoneHas text (place_at rest (tokens_in text).ends)
  unfolding tokens_in
  none_has before (t ∷ rest) b j i n = no_token_lem before t rest j refl there_none
    where
      there_none : (more : List ℕ) → SomeText (sorts before ++ (t.sort ∷ more)) → ⊥
      there_none more s =
          let z : sorts before ++ (t.sort ∷ more) ≡ sorts ((before ++ (t ∷ [])) ++ blank more) =
          rw (sorts_next before t (blank more), sorts_blank more) refl in
          let c = of_some ((before ++ (t ∷ [])) ++ blank more) (subst SomeText z s) in
          n (record { more = blank more; seen = c.0; comes = c.1 })
  none_has before [] true j i n =
      let u = unread 0 0 text (omega arith) i in
      let z : u.size ≡ (tokens_from 0 0 text).ends = omega (arith, u.reaches) in
      no_reading i refl (omega (arith, u.inside)) (ap (λ (p : ℕ). lexeme (drop p text)) (sym z) ∙ u.nothing)
  none_has before [] false j i n =
      let z : length text ≡ (tokens_from 0 0 text).ends = omega (arith, ends_at 0 0 text (omega arith) i) in
      no_end i z (λ s. n (of_some before (subst SomeText (ap sorts (j ∙ append-nil before)) s)))

  promised_29 :
      (es : List Seen) (rest : List Token) → Begins es → (tokens_in text).tokens ≡ tokens_of es ++ rest → too_deep 0 es ≡ none →
      (Has (tokens_of es) rest (tokens_in text).broken → ⊥) → Promised text (refused 29 (place_at rest (tokens_in text).ends))
  promised_29 es rest b j d n =
      let place : ℕ = place_at rest (tokens_in text).ends in
      let p = piece_to text (tokens_of es) rest j in
      let o = onward (take place text) es b p.read p.readable in
      let shallow : (deep : ℕ) → too_deep 0 (es ++ o.more) ≡ some deep → place ≤ deep = λ deep i.
      let u = deep_after 0 es o.more deep d i in
      omega (arith, o.after u.one u.among, u.begins, p.long) in
      refuses_29 (record { added = o.added; seen = es ++ o.more; is = o.is }) shallow (none_has (tokens_of es) rest (tokens_in text).broken j refl n)

  promised_30 :
      (es : List Seen) (rest : List Token) → Begins es → (tokens_in text).tokens ≡ tokens_of es ++ rest →
      (before : List Seen) (t : Token) (after : List Seen) → es ≡ before ++ (token t ∷ after) → too_deep 0 (before ++ (token t ∷ [])) ≡ some t.begins →
      Promised text (refused 30 t.begins)
  unfolding tokens_of
  promised_30 es rest b j before t after i deep =
      let this : List Seen = before ++ (token t ∷ []) in
      let k : tokens_of this ≡ tokens_of before ++ (t ∷ []) = tokens_append before (token t ∷ []) in
      let e : es ≡ this ++ after = i ∙ sym (append_assoc before (token t ∷ []) after) in
      let m : (tokens_in text).tokens ≡ (tokens_of before ++ (t ∷ [])) ++ (tokens_of after ++ rest) =
      j ∙ ap (λ (x : List Seen). tokens_of x ++ rest) e ∙ ap (λ (x : List Token). x ++ rest) (tokens_append this after) ∙
      append_assoc (tokens_of this) (tokens_of after) rest ∙ ap (λ (x : List Token). x ++ (tokens_of after ++ rest)) k in
      let p = piece_through text (tokens_of before) t (tokens_of after ++ rest) m in
      let begun : Begins this = record {
        more = after ++ b.more;
        derived =
            subst (λ (x : List Seen). Derives (part Document ∷ []) x) (ap (λ (x : List Seen). x ++ b.more) e ∙ append_assoc this after b.more)
            b.derived;
      } in
      let o = onward (take (t.begins + t.size) text) this begun (p.read ∙ sym k) p.readable in
      let among : Among t (tokens_in text).tokens =
      subst (λ (x : List Token). Among t x) (sym (m ∙ append_assoc (tokens_of before) (t ∷ []) (tokens_of after ++ rest)))
      (among_middle (tokens_of before) t (tokens_of after ++ rest)) in
      refuses_30 t among refl (record { added = o.added; seen = this ++ o.more; is = o.is }) (deep_first 0 this o.more t.begins deep)

promised : (text : List ℕ) {r : Reading} → Reads (tokens_in text) r → Promised text r
promised text (accepts-tokens c b d) = accepts (record { readable = b; comes = c }) d
promised text (refuses-29-tokens es rest b j d n) = promised_29 text es rest b j d n
promised text (refuses-30-tokens {p = p} es rest b j d) =
    let o = opener 0 es p d in
    subst (λ (q : ℕ). Promised text (refused 30 q)) o.begins (promised_30 text es rest b j o.before o.opens o.after o.parts o.deep)

-- ---- Nothing else is promised.

module _ (text : List ℕ) where
  -- What a text that begins with a piece comes by, parted where the piece ends.
  piece_parted :
      (us : List Token) (place : ℕ) → Piece text us place → (c : GoesOn (take place text)) →
      Parted c.seen us (tokens_from 0 (1 + length (take place text)) c.added).tokens
  unfolding tokens_in
  piece_parted us place p c =
      let new : List Token = (tokens_from 0 (1 + length (take place text)) c.added).tokens in
      part_seen c.seen us new (
      c.is.comes.read ∙ ap (λ (l : Lexed). l.tokens) (tokens_joined (take place text) c.added p.readable) ∙
      ap (λ (ts : List Token). ts ++ new) p.read)

  parted_begins : {a : List ℕ} (c : GoesOn a) {us vs : List Token} (q : Parted c.seen us vs) → Begins q.before
  parted_begins c q = record { more = q.after; derived = subst (λ (x : List Seen). Derives (part Document ∷ []) x) q.parts c.is.comes.derived }

  only_29 :
      (us vs : List Token) → (tokens_in text).tokens ≡ us ++ vs → (c : GoesOn (take (place_at vs (tokens_in text).ends) text)) →
      ((deep : ℕ) → too_deep 0 c.seen ≡ some deep → place_at vs (tokens_in text).ends ≤ deep) → (Has us vs (tokens_in text).broken → ⊥) →
      Reads (tokens_in text) (refused 29 (place_at vs (tokens_in text).ends))
  unfolding tokens_in
  only_29 us vs j c shallow n =
      refuses-29-tokens q.before vs (parted_begins c q) (j ∙ ap (λ (x : List Token). x ++ vs) (sym q.first)) (none_before (too_deep 0 q.before) refl)
      (subst (λ (x : List Token). Has x vs (tokens_in text).broken → ⊥) (sym q.first) n)
    where
      place : ℕ
      place = place_at vs (tokens_in text).ends

      p : Piece text us (place_at vs (tokens_in text).ends)
      p = piece_to text us vs j

      q : Parted c.seen us (tokens_from 0 (1 + length (take (place_at vs (tokens_in text).ends) text)) c.added).tokens
      q = piece_parted us (place_at vs (tokens_in text).ends) p c

      none_before : (o : Option ℕ) → too_deep 0 q.before ≡ o → o ≡ none
      none_before none i = refl
      none_before (some d) i =
          let u = opens_at 0 q.before d i in
          let h = shallow d (ap (too_deep 0) q.parts ∙ deep_first 0 q.before q.after d i) in
          let a = subst (λ (x : List Token). Among u.one x) (q.first ∙ sym p.read) u.among in
          let e = earlier 0 0 (take (place_at vs (tokens_in text).ends) text) a in
          absurd (omega (arith, u.begins, p.long))

  only_30 :
      (t : Token) → Among t (tokens_in text).tokens → (c : GoesOn (take (t.begins + t.size) text)) → too_deep 0 c.seen ≡ some t.begins →
      Reads (tokens_in text) (refused 30 t.begins)
  only_30 t a c d =
      refuses-30-tokens q.before s.after (parted_begins c q) (m ∙ ap (λ (x : List Token). x ++ s.after) (sym q.first))
      (at_it (too_deep 0 q.before) refl)
    where
      s : Splits t (tokens_in text).tokens
      s = split_at a

      m : (tokens_in text).tokens ≡ (s.before ++ (t ∷ [])) ++ s.after
      m = s.parts ∙ sym (append_assoc s.before (t ∷ []) s.after)

      p : Piece text (s.before ++ (t ∷ [])) (t.begins + t.size)
      p = piece_through text s.before t s.after m

      q : Parted c.seen (s.before ++ (t ∷ [])) (tokens_from 0 (1 + length (take (t.begins + t.size) text)) c.added).tokens
      q = piece_parted (s.before ++ (t ∷ [])) (t.begins + t.size) p c

      at_it : (o : Option ℕ) → too_deep 0 q.before ≡ o → o ≡ some t.begins
      at_it (some e) i =
          sym (deep_first 0 q.before q.after e i) ∙ ap (too_deep 0) (sym q.parts) ∙ d
      at_it none i =
          let u = deep_after 0 q.before q.after t.begins i (ap (too_deep 0) (sym q.parts) ∙ d) in
          let h = later 0 (1 + length (take (t.begins + t.size) text)) c.added (subst (λ (x : List Token). Among u.one x) q.last u.among) in
          absurd (omega (arith, u.begins, p.long))

  -- That no text of the grammar has the next thing, as it was said of tokens.
  none_next : (us : List Token) (t : Token) → ((more : List ℕ) → SomeText (sorts us ++ (t.sort ∷ more)) → ⊥) → Viable (us ++ (t ∷ [])) → ⊥
  none_next us t f v =
      let z : sorts (tokens_of v.seen) ≡ sorts us ++ (t.sort ∷ sorts v.more) = ap sorts v.comes.read ∙ sorts_next us t v.more in
      f (sorts v.more) (subst SomeText z (some_text v.seen v.comes.derived))

  only_none :
      (place : ℕ) → NoneHas text place → (c : GoesOn (take place text)) → ((deep : ℕ) → too_deep 0 c.seen ≡ some deep → place ≤ deep) →
      Reads (tokens_in text) (refused 29 place)
  unfolding tokens_in
  only_none place (no_token_lem before t after j i f) =
      subst (λ (q : ℕ). (c : GoesOn (take q text)) → ((deep : ℕ) → too_deep 0 c.seen ≡ some deep → q ≤ deep) → Reads (tokens_in text) (refused 29 q)) i
      (λ c h. only_29 before (t ∷ after) j c h (none_next before t f))
  only_none place (no_reading b i l e) =
      subst (λ (q : ℕ). (c : GoesOn (take q text)) → ((deep : ℕ) → too_deep 0 c.seen ≡ some deep → q ≤ deep) → Reads (tokens_in text) (refused 29 q)) i
      (λ c h. only_29 (tokens_in text).tokens [] (sym (append-nil _)) c h (λ x. subst (λ (y : Bool). Has (tokens_in text).tokens [] y) b x))
  only_none place (no_end b i f) =
      let e : (tokens_in text).ends ≡ place = omega (arith, ends_at 0 0 text (omega arith) b) in
      subst (λ (q : ℕ). (c : GoesOn (take q text)) → ((deep : ℕ) → too_deep 0 c.seen ≡ some deep → q ≤ deep) → Reads (tokens_in text) (refused 29 q)) e
      (λ c h. only_29 (tokens_in text).tokens [] (sym (append-nil _)) c h (λ x. ended (subst (λ (y : Bool). Has (tokens_in text).tokens [] y) b x)))
    where
      ended : (es : List Seen) × Comes (tokens_in text).tokens es → ⊥
      ended x = f (subst SomeText (ap sorts x.1.read) (some_text x.0 x.1.derived))

of_tokens : (text : List ℕ) {r : Reading} → Promised text r → Reads (tokens_in text) r
of_tokens text (accepts s d) = accepts-tokens s.comes s.readable d
of_tokens text (refuses_29 {place = place} c h n) = only_none text place n c h
of_tokens text (refuses_30 t a i c d) =
    subst (λ (q : ℕ). (c : GoesOn (take (q + t.size) text)) → too_deep 0 c.seen ≡ some q → Reads (tokens_in text) (refused 30 q)) i
    (λ c d. only_30 text t a c d) c d

-- Whatever a text is promised to be read as is what the function says.
is_reading : (text : List ℕ) {r : Reading} → Reads (tokens_in text) r → r ≡ reading text
unfolding reading
is_reading text h = only (tokens_in text) h

-- ---- In short.

one_way_lem : (text : List ℕ) (es fs : List Seen) → TextOf text es → TextOf text fs → es ≡ fs
one_way_lem text es fs a b = go _ _ (walks (tokens_in text).tokens (part Document ∷ []))
  where
    go : (gs : List Seen) (e : Ending) → Walks (tokens_in text).tokens (part Document ∷ []) gs e → es ≡ fs
    go gs whole w = unique w good_document a.comes.derived a.comes.read ∙ sym (unique w good_document b.comes.derived b.comes.read)
    go gs (stops us) w = absurd (never_stops w good_document a.comes.derived a.comes.read)

-- The tokens before one that begins at a place are those of the piece before it.
before_it : (text : List ℕ) (t : Token) (xs ys : List Token) → (tokens_in text).tokens ≡ xs ++ (t ∷ ys) → (tokens_in (take t.begins text)).tokens ≡ xs
before_it text t xs ys e = (piece_to text xs (t ∷ ys) e).read

sorts_then : (ts : List Token) (u : Token) (us : List Token) → sorts (ts ++ (u ∷ us)) ≡ sorts ts ++ (u.sort ∷ sorts us)
sorts_then ts u us = ap sorts (sym (append_assoc ts (u ∷ []) us)) ∙ sorts_next ts u us

-- Two texts with the same bytes through a token that begins and ends alike in both have the same tokens up to it and with it.
record Alike (t u : Token) (xs ys : List Token) : Type 0 where
  before : xs ≡ ys
  last : t ≡ u

module _ (
    v w : List ℕ) (t u : Token) (q : u.begins ≡ t.begins) (r : u.size ≡ t.size) (
    same : take (t.begins + t.size) v ≡ take (t.begins + t.size) w) where
  alike :
      (xs xs2 ys ys2 : List Token) → (tokens_in v).tokens ≡ xs ++ (t ∷ xs2) → (tokens_in w).tokens ≡ ys ++ (u ∷ ys2) → Alike t u xs ys
  alike xs xs2 ys ys2 e f =
      let p = piece_through v xs t xs2 (e ∙ sym (append_assoc xs (t ∷ []) xs2)) in
      let o = piece_through w ys u ys2 (f ∙ sym (append_assoc ys (u ∷ []) ys2)) in
      let z : u.begins + u.size ≡ t.begins + t.size = omega arith in
      let k : take t.begins v ≡ take u.begins w =
      sym (take-take t.begins (t.begins + t.size) v (omega arith)) ∙ ap (take t.begins) same ∙
      take-take t.begins (t.begins + t.size) w (omega arith) ∙ ap (λ (n : ℕ). take n w) (sym q) in
      let b : xs ≡ ys = sym (before_it v t xs xs2 e) ∙ ap (λ (x : List ℕ). (tokens_in x).tokens) k ∙ before_it w u ys ys2 f in
      let l : xs ++ (t ∷ []) ≡ ys ++ (u ∷ []) =
      sym p.read ∙ ap (λ (x : List ℕ). (tokens_in x).tokens) (same ∙ ap (λ (n : ℕ). take n w) (sym z)) ∙ o.read in
      record { before = b; last = cancel ys [] [] (ap (λ (x : List Token). x ++ (t ∷ [])) (sym b) ∙ l) }

module _ (text more : List ℕ) (t u : Token) (es : List Seen) (a : Among t (tokens_in text).tokens) where
  no_such_text_lem :
      (place : ℕ) → NoneHas text place → place ≡ t.begins → TextOf (take (t.begins + t.size) text ++ more) es →
      Among u (tokens_in (take (t.begins + t.size) text ++ more)).tokens → u.begins ≡ t.begins → u.size ≡ t.size → ⊥
  unfolding tokens_in
  no_such_text_lem place (no_token_lem before x after j i f) e is b g h =
      let s = split_at a in
      let v : List ℕ = take (t.begins + t.size) text ++ more in
      let r = split_at b in
      let p = piece_through text s.before t s.after (s.parts ∙ sym (append_assoc s.before (t ∷ []) s.after)) in
      let same : take (t.begins + t.size) text ≡ take (t.begins + t.size) v =
      sym (take_at (take (t.begins + t.size) text) more (t.begins + t.size) p.long) in
      let k = alike text v t u g h same s.before s.after r.before r.after s.parts r.parts in
      let y : before ≡ s.before =
      sym (before_it text x before after j) ∙ ap (λ (n : ℕ). (tokens_in (take n text)).tokens) (i ∙ e) ∙ before_it text t s.before s.after s.parts in
      let z : x ≡ t = cancel s.before after s.after (ap (λ (k : List Token). k ++ (x ∷ after)) (sym y) ∙ sym j ∙ s.parts) in
      let m : r.before ++ (u ∷ r.after) ≡ before ++ (x ∷ r.after) =
      ap (λ (k : List Token). k ++ (u ∷ r.after)) (sym k.before ∙ sym y) ∙ ap (λ (n : Token). before ++ (n ∷ r.after)) (sym k.last ∙ sym z) in
      f (sorts r.after) (record { text = v; seen = es; is = is; sorted = ap sorts (r.parts ∙ m) ∙ sorts_then before x r.after })
  no_such_text_lem place (no_reading b i l h) e is c k m =
      let p = piece_to text (tokens_in text).tokens [] (sym (append-nil _)) in
      let k = earlier 0 0 (take (tokens_in text).ends text) (subst (λ (x : List Token). Among t x) (sym p.read) a) in
      omega (arith, p.long)
  no_such_text_lem place (no_end b i f) e is c k m =
      let k = earlier 0 0 text a in
      omega arith

-- The outcome of the call, by what the text is read as.
abbrev parsed_by : List ℕ → List ℕ → Reading → ListOutcome
parsed_by text ws r = choose (is_short read_cards_capacity ws) (unlisted ws 31) (choose (ltb text_capacity (length text)) (unlisted ws 24) (parsed ws r))

parse_by : (text ws : List ℕ) → parse text ws ≡ parsed_by text ws (reading text)
unfolding parse
parse_by text ws = refl

module _ (text ws : List ℕ) where
  -- Returned is 0: by the tests in turn.
  zero_of : {r : Reading} → Promised text r → (parsed_by text ws r).answer.number ≡ 0 → Passes text ws
  unfolding unlisted is_short
  zero_of {r} h e = go (ltb (length ws) read_cards_capacity) refl (ltb text_capacity (length text)) refl h e
    where
      last : {es : List Seen} → TextOf text es → too_deep 0 es ≡ none → length text ≤ text_capacity → read_cards_capacity ≤ length ws →
          (b : Bool) → ltb card_capacity (length (cards_read es)) ≡ b →
          (choose b (unlisted ws 25) (listed_in ws (length (cards_read es)) (flat_map words_of_card (cards_read es)))).answer.number ≡ 0 → Passes text ws
      last s d short room true i e = absurd (omega arith)
      last {es} s d short room false i e =
          record { seen = es; is = s; no30 = d; no24 = short; no25 = ltb-false card_capacity (length (cards_read es)) i; no31 = room }

      go : {r : Reading} (a : Bool) → ltb (length ws) read_cards_capacity ≡ a → (b : Bool) → ltb text_capacity (length text) ≡ b → Promised text r →
          (choose a (unlisted ws 31) (choose b (unlisted ws 24) (parsed ws r))).answer.number ≡ 0 → Passes text ws
      go true i b j h e = absurd (omega arith)
      go false i true j h e = absurd (omega arith)
      go false i false j (accepts {es = es} s d) e =
          last s d (ltb-false text_capacity (length text) j) (ltb-false (length ws) read_cards_capacity i) (ltb card_capacity (length (cards_read es))) refl e
      go false i false j (refuses_29 c k n) e = absurd (omega arith)
      go false i false j (refuses_30 t a k c d) e = absurd (omega arith)

  carded :
      (p : Passes text ws) →
      parsed_by text ws (reading text) ≡ listed_in ws (length (cards_read p.seen)) (flat_map words_of_card (cards_read p.seen))
  unfolding is_short
  carded p =
      rw (
        accepted_there text p.seen p.is.comes p.is.readable p.no30,
        le-ltb (length ws) read_cards_capacity p.no31,
        le-ltb text_capacity (length text) p.no24,
        le-ltb card_capacity (length (cards_read p.seen)) p.no25,
      ) refl

  number_zero : (n : ℕ) (xs : List ℕ) → (listed_in ws n xs).answer.number ≡ 0
  unfolding listed_in
  number_zero n xs = refl

-- The promise, whole, with nothing assumed.
pub reading_promised : ReadingPromised
reading_promised = record {
  kept = kept;
  alone = λ text r h. alone text h;
  accepting = λ text es. (λ e. of_accepted text es (accepted_only text es e), λ h. accepted_there text es h.0.comes h.0.readable h.1);
  one_way = one_way_lem;
  no_such_text = λ text more t u es e a is b g h. at_29 text more t u es a is b g h (kept text) e;
  passing = λ text ws. (
    λ e. zero_of text ws (kept text) (sym (ap (λ (o : ListOutcome). o.answer.number) (parse_by text ws)) ∙ e),
    λ p. ap (λ (o : ListOutcome). o.answer.number) (parse_by text ws ∙ carded text ws p) ∙ number_zero text ws _ _,
  );
  carded = λ text ws p. parse_by text ws ∙ carded text ws p;
  leaving = parse_stays;
}
  where
    kept : (text : List ℕ) → Promised text (reading text)
    kept text = promised text (reading_right text)

    alone : (text : List ℕ) {r : Reading} → Promised text r → r ≡ reading text
    alone text h = is_reading text (of_tokens text h)

    of_accepted : (text : List ℕ) (es : List Seen) → Accepted text es → TextOf text es × (too_deep 0 es ≡ none)
    of_accepted text es a = (record { readable = a.readable; comes = a.comes }, a.shallow)

    at_29 :
        (text more : List ℕ) (t u : Token) (es : List Seen) → Among t (tokens_in text).tokens → TextOf (take (t.begins + t.size) text ++ more) es →
        Among u (tokens_in (take (t.begins + t.size) text ++ more)).tokens → u.begins ≡ t.begins → u.size ≡ t.size →
        {r : Reading} → Promised text r → r ≡ refused 29 t.begins → ⊥
    at_29 text more t u es a is b g h (accepts s d) e = let z : ◌≡◌ {A = ℕ} 0 1 = cc in omega arith
    at_29 text more t u es a is b g h (refuses_29 {place = place} c k n) e = no_such_text_lem text more t u es a place n (cc) is b g h
    at_29 text more t u es a is b g h (refuses_30 v i j c d) e = let z : ◌≡◌ {A = ℕ} 30 29 = cc in omega arith
