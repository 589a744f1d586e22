-- What each state of Phases.antt says of the cards of a text so far, and that tokens and marks keep it true.
use mathlib.Core.Path.{◌≡◌, refl, sym, ap, ◌∙◌, subst}
use mathlib.Core.List.{List, [], ◌∷◌, ◌++◌, append_assoc}
use mathlib.Core.Bool.{Bool, true, false, ◌&&◌, ◌||◌}
use mathlib.Core.Option.{Option, none, some}
use mathlib.Core.Logic.{◌⊎◌, inl, inr}
use Prim.Native.Nat.{ℕ, ◌+◌, ◌-◌, ◌≤◌, ◌<◌}
use native.Mathlib.Omega.{arith}
use borrow.Author.Tests.{leb-true, ne_eqb, eqb-true}
use lib.Dec.{eqb, leb, ltb}
use lib.ListN.{length}
use Rattle.definition.specs.Lists.{choose}
use Rattle.definition.specs.Names.{is_name, bytes_at}
use Rattle.definition.specs.Cards.{Card, is_heading, is_part, is_unnamed, definition_of, part_order}
use Rattle.definition.specs.Grammar.{Mark, heading, kind, heading_ends, item, item_ends, named, deeper, shallower, within}
use Rattle.definition.specs.Derivation.{Token}
use Rattle.definition.specs.ItemCards.{Listing, amend, begun as card_begun, of_kind, ended, named_by, noting, passed}
use Rattle.parser_laws.proofs.Tests.{clash, both, either, within_bounds}
use Rattle.parser_laws.proofs.Items.{amend_at, amend_last}
use Rattle.parser_laws.proofs.Lined.{Lying}
use Rattle.parser_laws.proofs.Phases.{State, outside, begun, read_on, kinded, calling, under, full, unnamed, naming, named_it, tag, defines, bound}
use Rattle.parser_laws.proofs.Phases.{item_kind, state_of, tagged, same, same_is, is_bare, is_nameless, on_token, place_under, may_begin, on_mark, below}
use Rattle.parser_laws.proofs.Chained.{end_of, placed_at, WellNamed, part_clean, heading_no_part, heading_clean, nameless_clean, Chain, ends, a_part}
use Rattle.parser_laws.proofs.Chained.{a_heading, chain_append, Fine}

-- ---- What each state says of the cards so far, cs, with `head` the number of the newest heading's, and the token just read ending at `end`.

-- Between definitions.
pub record Between (text : List ℕ) (cs : List Card) (end : ℕ) : Type 0 where
  pub last : Option Card
  pub child : Option Card
  pub chain : Chain text none none cs last child
  pub after : end_of 0 last ≤ end

-- An item that begins with the next token, or began before the token just read; not before `low`.
abbrev pub Since : ℕ → ℕ → ℕ → Token → Type 0
Since end low at nx = ((at ≡ nx.begins) × (low ≤ end)) ⊎ ((low ≤ at) × (at ≤ end))

-- A heading that has begun, its item so that P holds of the end of the heading before it and its own begin.
pub record Headed (text : List ℕ) (cs : List Card) (head : ℕ) (P : ℕ → ℕ → Type 0) : Type 0 where
  pub done : List Card
  pub last : Option Card
  pub child : Option Card
  pub at : ℕ
  pub cards : cs ≡ done ++ (card_begun 0 at ∷ [])
  pub number : head ≡ length done
  pub chain : Chain text none none done last child
  pub since : P (end_of 0 last) at

-- A heading whose kind is known, to be named: f is what has been done to its card.
pub record Making (text : List ℕ) (d : ℕ) (cs : List Card) (head end : ℕ) (f : Card → Card) : Type 0 where
  pub done : List Card
  pub last : Option Card
  pub child : Option Card
  pub at : ℕ
  pub kind : ℕ
  pub cards : cs ≡ done ++ (f (card_begun kind at) ∷ [])
  pub number : head ≡ length done
  pub chain : Chain text none none done last child
  pub known : is_heading kind ≡ true
  pub defined : definition_of kind ≡ d
  pub named : is_nameless kind ≡ false
  pub after : end_of 0 last ≤ at
  pub grown : at < end

-- A heading with parts, all by `low`: wherever it ends from there on, the cards are without fault.
pub record Under (text : List ℕ) (d b : ℕ) (cs : List Card) (head low : ℕ) : Type 0 where
  pub done : List Card
  pub top : Card
  pub parts : List Card
  pub child : Option Card
  pub cards : cs ≡ done ++ (top ∷ parts)
  pub number : head ≡ length done
  pub defined : definition_of top.kind ≡ d
  pub whole : (e : ℕ) → low ≤ e → e ≤ length text → Chain text none none (done ++ (ended e top ∷ parts)) (some (ended e top)) child
  pub starts : top.item_at ≤ low
  pub after : end_of top.item_at child ≤ low
  pub ordered : placed_at d child ≤ b

-- An item that has begun, after the cards `before`: f is what has been done to its card.
pub record Item (text : List ℕ) (d b p : ℕ) (cs : List Card) (head end : ℕ) (nx : Token) (f : Card → Card) : Type 0 where
  pub before : List Card
  pub low : ℕ
  pub at : ℕ
  pub cards : cs ≡ before ++ (f (card_begun p at) ∷ [])
  pub above : Under text d b before head low
  pub known : is_part p ≡ true
  pub place : place_under d p ≡ b
  pub fits : ltb (place_under d p) (length (part_order d)) ≡ true
  pub since : Since end low at nx
  pub bare : is_bare p ≡ true → (at ≡ nx.begins) × (low ≤ end)

-- An item whose name was read.
pub record Titled (text : List ℕ) (d b p : ℕ) (cs : List Card) (head end : ℕ) : Type 0 where
  pub before : List Card
  pub low : ℕ
  pub at : ℕ
  pub t : Token
  pub cards : cs ≡ before ++ (named_by t (card_begun p at) ∷ [])
  pub above : Under text d b before head low
  pub known : is_part p ≡ true
  pub place : place_under d p ≡ b
  pub fits : ltb (place_under d p) (length (part_order d)) ≡ true
  pub after : low ≤ at
  pub begins : at ≤ t.begins
  pub ends : t.begins + t.size ≤ end
  pub long : 1 ≤ t.size
  pub word : is_name (bytes_at text t.begins t.size) ≡ true
  pub bare : is_bare p ≡ true → (t.begins ≡ at) × (t.begins + t.size ≡ end)

abbrev pub keep : Card → Card
keep c = c

abbrev pub Holds : List ℕ → State → Listing → Token → Type 0
Holds text outside l nx = Between text l.cards l.end
Holds text begun l nx = Headed text l.cards l.head (λ low at. Since l.end low at nx)
Holds text read_on l nx = Headed text l.cards l.head (λ low at. (low ≤ at) × (at < l.end))
Holds text (kinded d) l nx = Making text d l.cards l.head l.end keep
Holds text (calling d) l nx = Making text d l.cards l.head l.end (named_by nx)
Holds text (under d b) l nx = Under text d b l.cards l.head l.end
Holds text full l nx = (d : ℕ) × (b : ℕ) × Under text d b l.cards l.head l.end
Holds text (unnamed d b p) l nx = Item text d b p l.cards l.head l.end nx keep
Holds text (naming d b p) l nx = Item text d b p l.cards l.head l.end nx (named_by nx)
Holds text (named_it d b p) l nx = Titled text d b p l.cards l.head l.end

-- ---- What a state says, a later place and a wider state say too.

raised : {text : List ℕ} {d b b' low low' : ℕ} {cs : List Card} {head : ℕ} → Under text d b cs head low → b ≤ b' → low ≤ low' → Under text d b' cs head low'
raised u h k = record {
  done = u.done;
  top = u.top;
  parts = u.parts;
  child = u.child;
  cards = u.cards;
  number = u.number;
  defined = u.defined;
  whole = λ e i j. u.whole e (omega arith) j;
  starts = omega (arith, u.starts);
  after = omega (arith, u.after);
  ordered = omega (arith, u.ordered);
}

abbrev pub Sub : List ℕ → State → State → Type 0
Sub text s t = (l : Listing) (nx : Token) → Holds text s l nx → Holds text t l nx

moved : (text : List ℕ) (l : Listing) (nx : Token) {s t : State} → s ≡ t → Holds text s l nx → Holds text t l nx
moved text l nx e g = subst (λ (u : State). Holds text u l nx) e g

at_first : (text : List ℕ) (l : Listing) (nx : Token) → Holds text read_on l nx → Holds text begun l nx
at_first text l nx g = record {
  done = g.done;
  last = g.last;
  child = g.child;
  at = g.at;
  cards = g.cards;
  number = g.number;
  chain = g.chain;
  since = inr (g.since.0, omega (arith, g.since.1));
}

abbrev Rises : State → State → Bool
Rises s t = (eqb (tag s) 5 && eqb (tag t) 5) && (eqb (defines s) (defines t) && leb (bound s) (bound t))

pub below_sub : (text : List ℕ) (s t : State) → below s t ≡ true → Sub text s t
unfolding below state_of
below_sub text s t e l nx g = first (either (same s t) _ e)
  where
    rising : Rises s t ≡ true → Holds text t l nx
    rising e =
        let a = both (eqb (tag s) 5 && eqb (tag t) 5) (eqb (defines s) (defines t) && leb (bound s) (bound t)) e in
        let b = both (eqb (tag s) 5) (eqb (tag t) 5) a.0 in
        let c = both (eqb (defines s) (defines t)) (leb (bound s) (bound t)) a.1 in
        let i : s ≡ under (defines s) (bound s) = tagged 5 s b.0 in
        let j : t ≡ under (defines t) (bound t) = tagged 5 t b.1 in
        let k : s ≡ under (defines t) (bound s) = i ∙ ap (λ (d : ℕ). under d (bound s)) (eqb-true (defines s) (defines t) c.0) in
        let u : Under text (defines t) (bound s) l.cards l.head l.end = moved text l nx k g in
        moved text l nx (sym j) (raised u (leb-true (bound s) (bound t) c.1) (omega arith))

    fourth : ((eqb (tag s) 5 && eqb (tag t) 6) ≡ true) ⊎ (Rises s t ≡ true) → Holds text t l nx
    fourth (inl e) =
        let b = both (eqb (tag s) 5) (eqb (tag t) 6) e in
        let i : s ≡ under (defines s) (bound s) = tagged 5 s b.0 in
        let j : t ≡ full = tagged 6 t b.1 in
        moved text l nx (sym j) (defines s, bound s, moved text l nx i g)
    fourth (inr e) = rising e

    second : ((eqb (tag s) 2 && eqb (tag t) 1) ≡ true) ⊎ (((eqb (tag s) 5 && eqb (tag t) 6) || Rises s t) ≡ true) → Holds text t l nx
    second (inl e) =
        let b = both (eqb (tag s) 2) (eqb (tag t) 1) e in
        let i : s ≡ read_on = tagged 2 s b.0 in
        let j : t ≡ begun = tagged 1 t b.1 in
        moved text l nx (sym j) (at_first text l nx (moved text l nx i g))
    second (inr e) = fourth (either (eqb (tag s) 5 && eqb (tag t) 6) (Rises s t) e)

    first : (same s t ≡ true) ⊎ (((eqb (tag s) 2 && eqb (tag t) 1) || ((eqb (tag s) 5 && eqb (tag t) 6) || Rises s t)) ≡ true) → Holds text t l nx
    first (inl k) = moved text l nx (same_is s t k) g
    first (inr k) = second (either (eqb (tag s) 2 && eqb (tag t) 1) ((eqb (tag s) 5 && eqb (tag t) 6) || Rises s t) k)

-- ---- Tokens.

picked_so : (t : Bool) (a b : State) → choose t (some a) none ≡ some b → (t ≡ true) × (a ≡ b)
picked_so true a b e = (refl, cc)
picked_so false a b e = let z : ◌≡◌ {A = ℕ} 0 1 = cc in absurd (omega arith)

left_so : (t : Bool) (a b : State) → choose t none (some a) ≡ some b → (t ≡ false) × (a ≡ b)
left_so true a b e = let z : ◌≡◌ {A = ℕ} 0 1 = cc in absurd (omega arith)
left_so false a b e = (refl, cc)

-- By the next token, an item that began with it or before it lies right.
since_there : (text : List ℕ) (end low at : ℕ) (t : Token) → Lying text end t → Since end low at t → (low ≤ at) × (at ≤ t.begins)
since_there text end low at t y (inl k) = (omega (arith, y.after, k.0, k.1), omega (arith, k.0))
since_there text end low at t y (inr k) = (k.0, omega (arith, y.after, k.1))

module _ (text : List ℕ) (t : Token) (l : Listing) (y : Lying text l.end t) (nx : Token) where
  on_begun : Holds text begun l t → Holds text read_on (passed t l) nx
  unfolding passed
  on_begun g =
      let k = since_there text l.end (end_of 0 g.last) g.at t y g.since in
      record {
        done = g.done;
        last = g.last;
        child = g.child;
        at = g.at;
        cards = g.cards;
        number = g.number;
        chain = g.chain;
        since = (k.0, omega (arith, k.1, y.filled));
      }

  on_read : Holds text read_on l t → Holds text read_on (passed t l) nx
  on_read g = on_begun (at_first text l t g)

  on_kinded : (d : ℕ) → Holds text (kinded d) l t → Holds text (kinded d) (passed t l) nx
  unfolding passed
  on_kinded d g = record {
    done = g.done;
    last = g.last;
    child = g.child;
    at = g.at;
    kind = g.kind;
    cards = g.cards;
    number = g.number;
    chain = g.chain;
    known = g.known;
    defined = g.defined;
    named = g.named;
    after = g.after;
    grown = omega (arith, g.grown, y.after, y.filled);
  }

  on_under : (d b : ℕ) → Holds text (under d b) l t → Holds text (under d b) (passed t l) nx
  unfolding passed
  on_under d b g = raised g (omega arith) (omega (arith, y.after, y.filled))

  heading_bare : (k : ℕ) → is_heading k ≡ true → is_bare k ≡ false
  unfolding is_heading is_bare
  heading_bare k e =
      let h = leb-true k 17 (both (leb 1 k) (leb k 17) e).1 in
      rw (ne_eqb k 21 (λ i. omega arith), ne_eqb k 23 (λ i. omega arith))

  -- The heading's name.
  on_calling : (d : ℕ) → 17 ≤ t.sort → Holds text (calling d) l t → Holds text (under d 0) (passed t l) nx
  unfolding passed named_by card_begun ended
  on_calling d w g = record {
    done = g.done;
    top = named_by t (card_begun g.kind g.at);
    parts = [];
    child = none;
    cards = g.cards;
    number = g.number;
    defined = g.defined;
    whole = λ e i j. chain_append g.chain (a_heading (heading_no_part g.kind g.known) (clean e i j) ends);
    starts = omega (arith, g.grown, y.after);
    after = omega (arith, g.grown, y.after);
    ordered = omega arith;
  }
    where
      well : (e : ℕ) → t.begins + t.size ≤ e → WellNamed text (ended e (named_by t (card_begun g.kind g.at)))
      well e i = record {
        begins = omega (arith, g.grown, y.after);
        ends = omega (arith, g.grown, y.after, i);
        long = y.filled;
        word = y.word w;
        bare = λ z. clash (sym (heading_bare g.kind g.known) ∙ z);
        nameless = g.named;
      }

      clean : (e : ℕ) → t.begins + t.size ≤ e → e ≤ length text → Fine text none g.last (ended e (named_by t (card_begun g.kind g.at)))
      clean e i j =
          heading_clean text g.last (ended e (named_by t (card_begun g.kind g.at))) g.known
          (omega (arith, g.grown, y.after, i)) (omega (arith, g.grown, y.after, i)) g.after (well e i)

  on_unnamed : (d b p : ℕ) → is_bare p ≡ false → Holds text (unnamed d b p) l t → Holds text (unnamed d b p) (passed t l) nx
  unfolding passed
  on_unnamed d b p n g =
      let k = since_there text l.end g.low g.at t y g.since in
      record {
        before = g.before;
        low = g.low;
        at = g.at;
        cards = g.cards;
        above = g.above;
        known = g.known;
        place = g.place;
        fits = g.fits;
        since = inr (k.0, omega (arith, k.1));
        bare = λ z. clash (sym n ∙ z);
      }

  -- The item's name.
  on_naming : (d b p : ℕ) → 17 ≤ t.sort → Holds text (naming d b p) l t → Holds text (named_it d b p) (passed t l) nx
  unfolding passed
  on_naming d b p w g =
      let k = since_there text l.end g.low g.at t y g.since in
      record {
        before = g.before;
        low = g.low;
        at = g.at;
        t = t;
        cards = g.cards;
        above = g.above;
        known = g.known;
        place = g.place;
        fits = g.fits;
        after = k.0;
        begins = k.1;
        ends = omega arith;
        long = y.filled;
        word = y.word w;
        bare = λ z. (sym (g.bare z).0, refl);
      }

  on_named : (d b p : ℕ) → is_bare p ≡ false → Holds text (named_it d b p) l t → Holds text (named_it d b p) (passed t l) nx
  unfolding passed
  on_named d b p n g = record {
    before = g.before;
    low = g.low;
    at = g.at;
    t = g.t;
    cards = g.cards;
    above = g.above;
    known = g.known;
    place = g.place;
    fits = g.fits;
    after = g.after;
    begins = g.begins;
    ends = omega (arith, g.ends, y.after);
    long = g.long;
    word = g.word;
    bare = λ z. clash (sym n ∙ z);
  }

  pub token_step : (lo hi : ℕ) (s u : State) → on_token lo s ≡ some u → within lo hi t.sort ≡ true → Holds text s l t → Holds text u (passed t l) nx
  unfolding on_token
  token_step lo hi outside u e w g = let z : ◌≡◌ {A = ℕ} 0 1 = cc in absurd (omega arith)
  token_step lo hi begun u e w g = let z : read_on ≡ u = cc in moved text (passed t l) nx z (on_begun g)
  token_step lo hi read_on u e w g = let z : read_on ≡ u = cc in moved text (passed t l) nx z (on_read g)
  token_step lo hi (kinded d) u e w g = let z : kinded d ≡ u = cc in moved text (passed t l) nx z (on_kinded d g)
  token_step lo hi (calling d) u e w g =
      let k = picked_so (leb 17 lo) (under d 0) u e in
      moved text (passed t l) nx k.1 (on_calling d (omega (arith, leb-true 17 lo k.0, (within_bounds lo hi t.sort w).0)) g)
  token_step lo hi (under d b) u e w g = let z : under d b ≡ u = cc in moved text (passed t l) nx z (on_under d b g)
  token_step lo hi full u e w g = let z : ◌≡◌ {A = ℕ} 0 1 = cc in absurd (omega arith)
  token_step lo hi (unnamed d b p) u e w g =
      let k = left_so (is_bare p) (unnamed d b p) u e in
      moved text (passed t l) nx k.1 (on_unnamed d b p k.0 g)
  token_step lo hi (naming d b p) u e w g =
      let k = picked_so (leb 17 lo) (named_it d b p) u e in
      moved text (passed t l) nx k.1 (on_naming d b p (omega (arith, leb-true 17 lo k.0, (within_bounds lo hi t.sort w).0)) g)
  token_step lo hi (named_it d b p) u e w g =
      let k = left_so (is_bare p) (named_it d b p) u e in
      moved text (passed t l) nx k.1 (on_named d b p k.0 g)

-- ---- Marks.

module _ (text : List ℕ) (l : Listing) (nx : Token) where
  on_heading : Holds text outside l nx → Holds text begun (noting heading nx l) nx
  unfolding noting
  on_heading g = record {
    done = l.cards;
    last = g.last;
    child = g.child;
    at = nx.begins;
    cards = refl;
    number = refl;
    chain = g.chain;
    since = inl (refl, g.after);
  }

  -- The kind of a heading, with a name to come and without one.
  kind_cards : (k : ℕ) (g : Holds text read_on l nx) → (noting (kind k) nx l).cards ≡ g.done ++ (card_begun k g.at ∷ [])
  unfolding noting of_kind card_begun
  kind_cards k g =
      ap (λ (cs : List Card). amend (of_kind k) l.head cs) g.cards ∙
      ap (λ (n : ℕ). amend (of_kind k) n (g.done ++ (card_begun 0 g.at ∷ []))) g.number ∙
      amend_at (of_kind k) g.done (card_begun 0 g.at) []

  on_kind : (k : ℕ) → is_heading k ≡ true → is_nameless k ≡ false → Holds text read_on l nx → Holds text (kinded (definition_of k)) (noting (kind k) nx l) nx
  unfolding noting
  on_kind k h n g = record {
    done = g.done;
    last = g.last;
    child = g.child;
    at = g.at;
    kind = k;
    cards = kind_cards k g;
    number = g.number;
    chain = g.chain;
    known = h;
    defined = refl;
    named = n;
    after = g.since.0;
    grown = g.since.1;
  }

  on_kind_alone : (k : ℕ) → is_heading k ≡ true → is_nameless k ≡ true → Holds text read_on l nx →
      Holds text (under (definition_of k) 0) (noting (kind k) nx l) nx
  unfolding noting card_begun ended is_unnamed
  on_kind_alone k h n g = record {
    done = g.done;
    top = card_begun k g.at;
    parts = [];
    child = none;
    cards = kind_cards k g;
    number = g.number;
    defined = refl;
    whole = λ e i j. chain_append g.chain (a_heading (heading_no_part k h) (clean e i j) ends);
    starts = omega (arith, g.since.1);
    after = omega (arith, g.since.1);
    ordered = omega arith;
  }
    where
      clean : (e : ℕ) → l.end ≤ e → e ≤ length text → Fine text none g.last (ended e (card_begun k g.at))
      clean e i j =
          nameless_clean text g.last (ended e (card_begun k g.at)) h (omega (arith, g.since.1, i)) (omega (arith, g.since.1, i)) g.since.0 refl n

  on_heading_ends : l.end ≤ length text → Holds text full l nx → Holds text outside (noting heading_ends nx l) nx
  unfolding noting ended
  on_heading_ends m w =
      let u = w.2 in
      record {
        last = some (ended l.end u.top);
        child = u.child;
        chain =
            subst (λ (cs : List Card). Chain text none none cs (some (ended l.end u.top)) u.child) (sym (is u))
            (u.whole l.end (omega arith) m);
        after = omega (arith, u.starts);
      }
    where
      is : (u : Under text w.0 w.1 l.cards l.head l.end) →
          amend (ended l.end) l.head l.cards ≡ u.done ++ (ended l.end u.top ∷ u.parts)
      is u =
          ap (λ (cs : List Card). amend (ended l.end) l.head cs) u.cards ∙
          ap (λ (n : ℕ). amend (ended l.end) n (u.done ++ (u.top ∷ u.parts))) u.number ∙
          amend_at (ended l.end) u.done u.top u.parts

  on_item : (d b p : ℕ) → is_part p ≡ true → b ≤ place_under d p → ltb (place_under d p) (length (part_order d)) ≡ true →
      Holds text (under d b) l nx → Holds text (unnamed d (place_under d p) p) (noting (item p) nx l) nx
  unfolding noting
  on_item d b p k h f g = record {
    before = l.cards;
    low = l.end;
    at = nx.begins;
    cards = refl;
    above = raised g h (omega arith);
    known = k;
    place = refl;
    fits = f;
    since = inl (refl, omega arith);
    bare = λ z. (refl, omega arith);
  }

  on_called : (d : ℕ) → Holds text (kinded d) l nx → Holds text (calling d) (noting named nx l) nx
  unfolding noting
  on_called d g = record {
    done = g.done;
    last = g.last;
    child = g.child;
    at = g.at;
    kind = g.kind;
    cards =
        ap (λ (cs : List Card). amend (named_by nx) (length cs - 1) cs) g.cards ∙
        amend_last (named_by nx) g.done (card_begun g.kind g.at);
    number = g.number;
    chain = g.chain;
    known = g.known;
    defined = g.defined;
    named = g.named;
    after = g.after;
    grown = g.grown;
  }

  on_item_named : (d b p : ℕ) → Holds text (unnamed d b p) l nx → Holds text (naming d b p) (noting named nx l) nx
  unfolding noting
  on_item_named d b p g = record {
    before = g.before;
    low = g.low;
    at = g.at;
    cards =
        ap (λ (cs : List Card). amend (named_by nx) (length cs - 1) cs) g.cards ∙
        amend_last (named_by nx) g.before (card_begun p g.at);
    above = g.above;
    known = g.known;
    place = g.place;
    fits = g.fits;
    since = g.since;
    bare = g.bare;
  }

  part_named : (p : ℕ) → is_part p ≡ true → is_nameless p ≡ false
  unfolding is_part is_nameless
  part_named p e =
      let h = leb-true 20 p (both (leb 20 p) (leb p 28) e).0 in
      rw (ne_eqb p 4 (λ i. omega arith), ne_eqb p 11 (λ i. omega arith))

  on_item_ends : (d b p : ℕ) → l.end ≤ length text → Holds text (named_it d b p) l nx → Holds text (under d b) (noting item_ends nx l) nx
  unfolding noting ended named_by card_begun
  on_item_ends d b p m g =
      let u = g.above in
      record {
        done = u.done;
        top = u.top;
        parts = u.parts ++ (c ∷ []);
        child = some c;
        cards =
            ap (λ (cs : List Card). amend (ended l.end) (length cs - 1) cs) g.cards ∙
            amend_last (ended l.end) g.before (named_by g.t (card_begun p g.at)) ∙
            ap (λ (cs : List Card). cs ++ (c ∷ [])) u.cards ∙
            append_assoc u.done (u.top ∷ u.parts) (c ∷ []);
        number = u.number;
        defined = u.defined;
        whole = λ e i j.
            subst (λ (cs : List Card). Chain text none none cs (some (ended e u.top)) (some c))
            (append_assoc u.done (ended e u.top ∷ u.parts) (c ∷ []))
            (chain_append (u.whole e (omega (arith, i, inside)) j) (a_part g.known (clean e i) ends));
        starts = omega (arith, u.starts, inside);
        after = omega (arith, inside);
        ordered = omega (arith, g.place);
      }
    where
      c : Card
      c = ended l.end (named_by g.t (card_begun p g.at))

      inside : (g.low ≤ g.at) × (g.at < l.end)
      inside = (g.after, omega (arith, g.begins, g.ends, g.long))

      well : WellNamed text c
      well = record {
        begins = g.begins;
        ends = omega (arith, g.ends, inside);
        long = g.long;
        word = g.word;
        bare = λ z. ((g.bare z).0, omega (arith, (g.bare z).0, (g.bare z).1));
        nameless = part_named p g.known;
      }

      clean : (e : ℕ) → l.end ≤ e → Fine text (some (ended e g.above.top)) g.above.child c
      clean e i =
          let u = g.above in
          let q : definition_of u.top.kind ≡ d = u.defined in
          part_clean text (ended e u.top) u.child c g.known (omega (arith, inside)) (omega (arith, inside)) (omega (arith, u.after, inside))
          (omega (arith, u.starts, inside)) (omega (arith, u.starts, inside, i)) well (rw q g.fits) (rw q (omega (arith, u.ordered, g.place)))

  pub mark_step : (m : Mark) (s u : State) → on_mark m s ≡ some u → l.end ≤ length text → Holds text s l nx → Holds text u (noting m nx l) nx
  unfolding on_mark state_of may_begin noting
  mark_step heading s u e i g =
      let q = picked_so (eqb (tag s) 0) begun u e in
      let z : s ≡ outside = tagged 0 s q.0 in
      moved text (noting heading nx l) nx q.1 (on_heading (moved text l nx z g))
  mark_step (kind k) s u e i g =
      let q = picked_so (eqb (tag s) 2 && is_heading k) (choose (is_nameless k) (under (definition_of k) 0) (kinded (definition_of k))) u e in
      let r = both (eqb (tag s) 2) (is_heading k) q.0 in
      let z : s ≡ read_on = tagged 2 s r.0 in
      moved text (noting (kind k) nx l) nx q.1 (go (is_nameless k) refl r.1 (moved text l nx z g))
    where
      go : (t : Bool) → is_nameless k ≡ t → is_heading k ≡ true → Holds text read_on l nx →
          Holds text (choose t (under (definition_of k) 0) (kinded (definition_of k))) (noting (kind k) nx l) nx
      go true n h g = on_kind_alone k h n g
      go false n h g = on_kind k h n g
  mark_step heading_ends s u e i g =
      let q = picked_so (eqb (tag s) 6) outside u e in
      let z : s ≡ full = tagged 6 s q.0 in
      moved text (noting heading_ends nx l) nx q.1 (on_heading_ends i (moved text l nx z g))
  mark_step (item p) s u e i g =
      let q = picked_so (eqb (tag s) 5 && may_begin (defines s) (bound s) p) (unnamed (defines s) (place_under (defines s) p) p) u e in
      let r = both (eqb (tag s) 5) (may_begin (defines s) (bound s) p) q.0 in
      let f = both (is_part p) (leb (bound s) (place_under (defines s) p) && ltb (place_under (defines s) p) (length (part_order (defines s)))) r.1 in
      let h = both (leb (bound s) (place_under (defines s) p)) (ltb (place_under (defines s) p) (length (part_order (defines s)))) f.1 in
      let z : s ≡ under (defines s) (bound s) = tagged 5 s r.0 in
      moved text (noting (item p) nx l) nx q.1
      (on_item (defines s) (bound s) p f.0 (leb-true (bound s) (place_under (defines s) p) h.0) h.1 (moved text l nx z g))
  mark_step item_ends s u e i g =
      let q = picked_so (eqb (tag s) 9) (under (defines s) (bound s)) u e in
      let z : s ≡ named_it (defines s) (bound s) (item_kind s) = tagged 9 s q.0 in
      moved text (noting item_ends nx l) nx q.1 (on_item_ends (defines s) (bound s) (item_kind s) i (moved text l nx z g))
  mark_step named s u e i g = go (eqb (tag s) 3) refl e
    where
      go : (t : Bool) → eqb (tag s) 3 ≡ t →
          choose t (some (calling (defines s))) (choose (eqb (tag s) 7) (some (naming (defines s) (bound s) (item_kind s))) none) ≡ some u →
          Holds text u (noting named nx l) nx
      go true k e =
          let y : calling (defines s) ≡ u = cc in
          let z : s ≡ kinded (defines s) = tagged 3 s k in
          moved text (noting named nx l) nx y (on_called (defines s) (moved text l nx z g))
      go false k e =
          let q = picked_so (eqb (tag s) 7) (naming (defines s) (bound s) (item_kind s)) u e in
          let z : s ≡ unnamed (defines s) (bound s) (item_kind s) = tagged 7 s q.0 in
          moved text (noting named nx l) nx q.1 (on_item_named (defines s) (bound s) (item_kind s) (moved text l nx z g))
  mark_step deeper s u e i g = let z : s ≡ u = cc in moved text l nx z g
  mark_step shallower s u e i g = let z : s ≡ u = cc in moved text l nx z g
