-- The cards of an accepted text have no fault over that text: what was read is never refused for its cards where it is filed.
-- Every derivation leads from state to state as Phases.antt has it, and what the states say of the cards stays true (Holding.antt).
use mathlib.Core.Path.{◌≡◌, refl, sym, ap, ◌∙◌, subst}
use mathlib.Core.List.{List, [], ◌∷◌, ◌++◌}
use mathlib.Core.Bool.{Bool, true, false, ◌&&◌, not}
use mathlib.Core.Option.{Option, none, some}
use Prim.Native.Nat.{ℕ, ◌+◌, ◌*◌, ◌/◌, ◌%◌, ◌≤◌}
use native.Mathlib.Omega.{arith}
use borrow.Author.Tests.{eq-eqb}
use lib.Dec.{ltb}
use lib.ListN.{length, take, drop}
use lib.Seq.{take_at}
use Rattle.definition.specs.Lists.{choose, found, all, chunks, flat_map, written, Among}
use Rattle.definition.specs.Cards.{Card, words_of_card, card_from, cards_from, card_fault, broken_cards, cards_of, document_fault, card_words}
use Rattle.definition.specs.Grammar.{Mark, heading, kind, heading_ends, item, item_ends, named, deeper, shallower, Symbol, one, part, mark, Part}
use Rattle.definition.specs.Grammar.{rule}
use Rattle.definition.specs.Derivation.{Token, Seen, Derives, nothing, reads, marks, expands, tokens_of, Comes}
use Rattle.definition.specs.ItemCards.{Listing, noting, passed, next, listed, nothing_listed, cards_read}
use Rattle.definition.specs.Lexical.{tokens_in}
use Rattle.definition.specs.Reading.{Reading, accepted, refused, reading}
use Rattle.definition.specs.Refusals.{text_capacity, card_capacity, read_cards_capacity}
use Rattle.definition.specs.Outcomes.{ListOutcome, unlisted, listed_in, is_short, parsed, parse}
use Rattle.definition.specs.ReadCards.{CardsPass, WrittenPass}
use Rattle.definition.proofs.BuiltWords.{written_starts}
use Rattle.definition.proofs.ParseOutcome.{reading_is}
use Rattle.parser_laws.proofs.Tests.{clash, both, all_among}
use Rattle.parser_laws.proofs.Lined.{Lined, lined}
use Rattle.parser_laws.proofs.Right.{accepted_only}
use Rattle.parser_laws.proofs.Phases.{State, outside, begun, read_on, kinded, calling, under, full, unnamed, naming, named_it, tag, defines, bound}
use Rattle.parser_laws.proofs.Phases.{item_kind, same, same_is, is_bare, on_token, is_tolerant, on_mark, is_plain, effects, look_up, step, goes, below}
use Rattle.parser_laws.proofs.Phases.{reaches, agrees, is_plain_symbol, stays_plain, all_agree, all_plain}
use Rattle.parser_laws.proofs.Chained.{ends, chain_passes}
use Rattle.parser_laws.proofs.Holding.{Holds, Between, Sub, below_sub, token_step, mark_step}

-- ---- Symbols to come that lead from a state to the end of a text, wider states being taken where they must.

abbrev Leads : List ℕ → State → List Symbol → Type 0
Leads text s [] = Sub text s outside
Leads text s (x ∷ ss) = (u : State) × Sub text s u × (v : State) × (step x u ≡ some v) × Leads text v ss

module _ (text : List ℕ) where
  widened : (s t : State) (ss : List Symbol) → Sub text s t → Leads text t ss → Leads text s ss
  widened s t [] f k = λ l nx g. k l nx (f l nx g)
  widened s t (x ∷ ss) f k = (k.0, λ l nx g. k.1 l nx (f l nx g), k.2, k.3, k.4)

  -- An alternative that reaches a state.
  reached : (r : List Symbol) (s t : State) (ss : List Symbol) → reaches s r t ≡ true → Leads text t ss → Leads text s (r ++ ss)
  unfolding reaches goes
  reached [] s t ss e k = widened s t ss (below_sub text s t e) k
  reached (x ∷ r) s t ss e k = go (step x s) refl e (λ u i. reached r u t ss i k)
    where
      go : (o : Option State) → step x s ≡ o → found (found o (λ u. goes r u) none) (λ u. below u t) false ≡ true →
          ((u : State) → reaches u r t ≡ true → Leads text u (r ++ ss)) → Leads text s ((x ∷ r) ++ ss)
      go none i e f = clash e
      go (some u) i e f = (s, λ l nx g. g, u, i, f u e)

  -- An alternative of a part without marks of cards.
  tolerates : (lo : ℕ) (s : State) → is_tolerant s ≡ true → on_token lo s ≡ some s
  unfolding is_tolerant on_token
  tolerates lo outside e = clash e
  tolerates lo begun e = clash e
  tolerates lo read_on e = refl
  tolerates lo (kinded d) e = refl
  tolerates lo (calling d) e = clash e
  tolerates lo (under d b) e = refl
  tolerates lo full e = clash e
  tolerates lo (unnamed d b p) e = go (is_bare p) e
    where
      go : (t : Bool) → not t ≡ true → choose t none (some (unnamed d b p)) ≡ some (unnamed d b p)
      go true e = clash e
      go false e = refl
  tolerates lo (naming d b p) e = clash e
  tolerates lo (named_it d b p) e = go (is_bare p) e
    where
      go : (t : Bool) → not t ≡ true → choose t none (some (named_it d b p)) ≡ some (named_it d b p)
      go true e = clash e
      go false e = refl

  plain_step : (x : Symbol) (s : State) → is_plain_symbol x ≡ true → is_tolerant s ≡ true → step x s ≡ some s
  unfolding is_plain_symbol step on_mark
  plain_step (one lo hi) s e k = tolerates lo s k
  plain_step (part n) s e k = rw (e, k)
  plain_step (mark heading) s e k = clash e
  plain_step (mark (kind j)) s e k = clash e
  plain_step (mark heading_ends) s e k = clash e
  plain_step (mark (item j)) s e k = clash e
  plain_step (mark item_ends) s e k = clash e
  plain_step (mark named) s e k = clash e
  plain_step (mark deeper) s e k = refl
  plain_step (mark shallower) s e k = refl

  stayed : (r : List Symbol) (s : State) (ss : List Symbol) → all is_plain_symbol r ≡ true → is_tolerant s ≡ true → Leads text s ss → Leads text s (r ++ ss)
  unfolding all
  stayed [] s ss e k f = f
  stayed (x ∷ r) s ss e k f = go (is_plain_symbol x) refl e (λ i. stayed r s ss i k f)
    where
      go : (t : Bool) → is_plain_symbol x ≡ t → choose t (all is_plain_symbol r) false ≡ true → (all is_plain_symbol r ≡ true → Leads text s (r ++ ss)) →
          Leads text s ((x ∷ r) ++ ss)
      go true i e f = (s, λ l nx g. g, s, plain_step x s i k, f e)
      go false i e f = clash e

  looked_up : (u v : State) (es : List (State × State)) (p : State × State → Bool) → all p es ≡ true → look_up u es ≡ some v → p (u, v) ≡ true
  unfolding look_up all
  looked_up u v [] p a e = let z : ◌≡◌ {A = ℕ} 0 1 = cc in absurd (omega arith)
  looked_up u v (x ∷ es) p a e = go (same u x.0) refl e (p x) refl a (looked_up u v es p)
    where
      go : (t : Bool) → same u x.0 ≡ t → choose t (some x.1) (look_up u es) ≡ some v → (q : Bool) → p x ≡ q → choose q (all p es) false ≡ true →
          (all p es ≡ true → look_up u es ≡ some v → p (u, v) ≡ true) → p (u, v) ≡ true
      go t i e false j a f = clash a
      go true i e true j a f =
          let z : x.1 ≡ v = cc in
          let y = same_is u x.0 i in
          (λ k. p (y k, sym z k)) ∙ j
      go false i e true j a f = f a e

  expanded : (n : Part) (r : List Symbol) (s : State) (ss : List Symbol) → Among r (rule n) → Leads text s (part n ∷ ss) → Leads text s (r ++ ss)
  unfolding step agrees stays_plain
  expanded n r s ss a k = widened s k.0 (r ++ ss) k.1 (go (is_plain n && is_tolerant k.0) refl k.3)
    where
      go : (t : Bool) → (is_plain n && is_tolerant k.0) ≡ t → choose t (some k.0) (look_up k.0 (effects n)) ≡ some k.2 → Leads text k.0 (r ++ ss)
      go true i e =
          let b = both (is_plain n) (is_tolerant k.0) i in
          let z : k.2 ≡ k.0 = cc in
          let f : all (all is_plain_symbol) (rule n) ≡ true = rw b.0 at (all_plain n) in
          stayed r k.0 ss (all_among (all is_plain_symbol) (rule n) f a) b.1 (subst (λ (u : State). Leads text u ss) z k.4)
      go false i e =
          let f = looked_up k.0 k.2 (effects n) (λ x. all (λ r. reaches x.0 r x.1) (rule n)) (all_agree n) e in
          reached r k.0 k.2 ss (all_among (λ r. reaches k.0 r k.2) (rule n) f a) k.4

  -- ---- All of a derivation.

  noting_end : (m : Mark) (nx : Token) (l : Listing) → (noting m nx l).end ≡ l.end
  unfolding noting
  noting_end heading nx l = refl
  noting_end (kind k) nx l = refl
  noting_end heading_ends nx l = refl
  noting_end (item k) nx l = refl
  noting_end item_ends nx l = refl
  noting_end named nx l = refl
  noting_end deeper nx l = refl
  noting_end shallower nx l = refl

  kept : {ss : List Symbol} {es : List Seen} → Derives ss es → (s : State) (l : Listing) → Leads text s ss → Lined text l.end (tokens_of es) →
      l.end ≤ length text → Holds text s l (next es) → Between text (listed l es).cards (listed l es).end
  unfolding tokens_of next listed step passed
  kept nothing s l k y m g = k l (next []) g
  kept (reads {lo = lo} {hi = hi} {t = t} {es = es} w d) s l k y m g =
      kept d k.2 (passed t l) k.4 y.1 y.0.inside
      (token_step text t l y.0 (next es) lo hi k.0 k.2 k.3 w (k.1 l t g))
  kept (marks {m = q} {es = es} d) s l k y m g =
      kept d k.2 (noting q (next es) l) k.4 (rw (noting_end q (next es) l) y) (rw (noting_end q (next es) l) m)
      (mark_step text l (next es) q k.0 k.2 k.3 m (k.1 l (next es) g))
  kept (expands {n = n} {r = r} {ss = ss} a d) s l k y m g = kept d s l (expanded n r s ss a k) y m g

  -- The cards of a text of the grammar.
  pub comes_pass : (es : List Seen) → Comes (tokens_in text).tokens es → card_fault text 0 (length text) (cards_read es) ≡ none
  unfolding card_fault cards_read nothing_listed step look_up effects is_plain same tag defines bound item_kind
  comes_pass es c =
      let y : Lined text 0 (tokens_of es) = rw c.read (lined text) in
      let b = kept c.derived outside nothing_listed (outside, λ l nx g. g, outside, refl, λ l nx g. g) y (omega arith)
      (record { last = none; child = none; chain = ends; after = omega arith }) in
      chain_passes b.chain 0

-- ---- Their words, and what a call has written.

pub words_length : (cs : List Card) → length (flat_map words_of_card cs) ≡ card_words * length cs
unfolding flat_map words_of_card
words_length [] = refl
words_length (c ∷ cs) = let h = words_length cs in omega arith

cards_back : (cs : List Card) → cards_from (length cs) (flat_map words_of_card cs) ≡ cs
unfolding cards_from chunks flat_map words_of_card card_from
cards_back [] = refl
cards_back (c ∷ cs) = ap (λ (l : List Card). c ∷ l) (cards_back cs)

words_cards : (cs : List Card) → cards_of (flat_map words_of_card cs) ≡ cs
unfolding cards_of
words_cards cs =
    let h = words_length cs in
    let n : length (flat_map words_of_card cs) / card_words ≡ length cs = omega arith in
    ap (λ (n : ℕ). cards_from n (flat_map words_of_card cs)) n ∙ cards_back cs

words_whole : (cs : List Card) → broken_cards (flat_map words_of_card cs) ≡ false
unfolding broken_cards
words_whole cs =
    let h = words_length cs in
    let n : length (flat_map words_of_card cs) % card_words ≡ 0 = omega arith in
    rw (eq-eqb (length (flat_map words_of_card cs) % card_words) 0 n)

words_pass : (text : List ℕ) (cs : List Card) → card_fault text 0 (length text) cs ≡ none → document_fault text (flat_map words_of_card cs) ≡ none
unfolding document_fault
words_pass text cs e = rw (words_whole cs, words_cards cs) e

pub cards_pass_lem : CardsPass
cards_pass_lem text es e = words_pass text (cards_read es) (comes_pass text es (accepted_only text es e).comes)

-- ---- What a call writes.

-- The words that a call writes stand first.
written_first : (ws : List ℕ) (cs : List Card) → take (card_words * length cs) (written ws 0 (flat_map words_of_card cs)) ≡ flat_map words_of_card cs
written_first ws cs =
    ap (take (card_words * length cs)) (written_starts ws (flat_map words_of_card cs)) ∙
    take_at (flat_map words_of_card cs) (drop (0 + length (flat_map words_of_card cs)) ws) (card_words * length cs) (words_length cs)

-- The words that a call says to have written have no fault.
abbrev Passes : List ℕ → ListOutcome → Type 0
Passes text o = o.answer.number ≡ 0 → document_fault text (take (card_words * o.answer.card) o.list) ≡ none

accepted_passes : (text ws : List ℕ) (es : List Seen) → reading text ≡ accepted es →
    Passes text (listed_in ws (length (cards_read es)) (flat_map words_of_card (cards_read es)))
unfolding listed_in
accepted_passes text ws es i e = rw (written_first ws (cards_read es)) (cards_pass_lem text es i)

-- A refused text has a number.
parsed_passes : (text ws : List ℕ) → (r : Reading) → reading text ≡ r → Passes text (parsed ws (reading text))
unfolding unlisted
parsed_passes text ws (accepted es) i = subst (λ (r : Reading). Passes text (parsed ws r)) (sym i) (go (ltb card_capacity (length (cards_read es))))
  where
    go : (t : Bool) → Passes text (choose t (unlisted ws 25) (listed_in ws (length (cards_read es)) (flat_map words_of_card (cards_read es))))
    go true = λ e. absurd (omega arith)
    go false = accepted_passes text ws es i
parsed_passes text ws (refused n p) i =
    reading_is text (λ r. r ≡ refused n p → Passes text (parsed ws r))
    (λ es j. let z : ◌≡◌ {A = ℕ} 0 1 = cc in absurd (omega arith)) (λ q j e. absurd (omega arith)) (λ q j e. absurd (omega arith)) i

pub written_pass : WrittenPass
unfolding parse unlisted
written_pass text ws = go (is_short read_cards_capacity ws) (ltb text_capacity (length text))
  where
    go : (a b : Bool) → Passes text (choose a (unlisted ws 31) (choose b (unlisted ws 24) (parsed ws (reading text))))
    go true b = λ e. absurd (omega arith)
    go false true = λ e. absurd (omega arith)
    go false false = parsed_passes text ws (reading text) refl
