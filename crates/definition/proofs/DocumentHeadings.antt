-- The headings of documents: later documents add at the end, each card has its own number, and is found among the cards held by that number.
use mathlib.Core.Path.{◌≡◌, refl, sym, ◌∙◌, ap}
use mathlib.Core.List.{List, [], ◌∷◌, ◌++◌, append_assoc}
use mathlib.Core.Bool.{Bool, true, false, ◌&&◌}
use mathlib.Core.Option.{some}
use Prim.Native.Nat.{ℕ, suc, ◌+◌, ◌≤◌, ◌<◌}
use native.Mathlib.Nat.{add-zero, zero-add, add_assoc}
use native.Mathlib.Omega.{arith}
use lib.Dec.{eqb}
use lib.ListN.{length, length-append, get_elem?}
use borrow.Author.Tests.{eqb-true, ne_eqb}
use Rattle.definition.specs.Lists.{All, Prefix, is_empty}
use Rattle.definition.specs.Cards.{Card, is_part}
use Rattle.definition.specs.Headings.{Document, Heading, NamedCard, named_card, heading_from, group, headings_from, headings}
use Rattle.definition.specs.Refusals.{cards_held}
use Rattle.definition.specs.LentRows.{cards_named, held_from, held, name_numbered}
use Rattle.definition.proofs.All.{all_append, all_left, all_right, all_to}
use Rattle.definition.proofs.Sums.{sum, gate, gate_le, sum_append, sum_one}

-- The branches of `group`.
module _ (t : List ℕ) (b i : Bool) (n : ℕ) (c : Card) (cs : List Card) where
  pub group_heading : is_part c.kind ≡ false → group t b i n (c ∷ cs) ≡ ([], heading_from t b i n c (group t b i (n + 1) cs).0 ∷ (group t b i (n + 1) cs).1)
  unfolding group
  group_heading e = rw e

  pub group_part : is_part c.kind ≡ true → group t b i n (c ∷ cs) ≡ (named_card t n c ∷ (group t b i (n + 1) cs).0, (group t b i (n + 1) cs).1)
  unfolding group
  group_part e = rw e

-- The cards held by their numbers: each heading and each part has its card's name.
abbrev pub Named : List NamedCard → Heading → Type 0
Named ps h = (name_numbered ps h.number ≡ h.name) × All (λ p. name_numbered ps p.number ≡ p.name) h.parts

-- ---- Weights: what a card, a heading's parts, a heading with its parts weigh by their numbers.

abbrev pub card_w : (ℕ → ℕ) → NamedCard → ℕ
card_w w p = w p.number

abbrev pub parts_w : (ℕ → ℕ) → Heading → ℕ
parts_w w h = sum (card_w w) h.parts

abbrev pub whole : (ℕ → ℕ) → Heading → ℕ
whole w h = w h.number + parts_w w h

module _ (w : ℕ → ℕ) where
  group_weighs : (t : List ℕ) (b i : Bool) (n : ℕ) (cs : List Card) →
      sum (card_w w) (group t b i n cs).0 + sum (whole w) (group t b i n cs).1 ≤ sum (card_w w) (cards_named t n cs)
  unfolding group cards_named named_card heading_from
  group_weighs t b i n [] = omega arith
  group_weighs t b i n (c ∷ cs) = go (is_part c.kind) refl (group_weighs t b i (n + 1) cs)
    where
      go : (k : Bool) → is_part c.kind ≡ k →
          sum (card_w w) (group t b i (n + 1) cs).0 + sum (whole w) (group t b i (n + 1) cs).1 ≤ sum (card_w w) (cards_named t (n + 1) cs) →
          sum (card_w w) (group t b i n (c ∷ cs)).0 + sum (whole w) (group t b i n (c ∷ cs)).1 ≤ w n + sum (card_w w) (cards_named t (n + 1) cs)
      go false e ih = rw (group_heading t b i n c cs e) (omega arith)
      go true e ih = rw (group_part t b i n c cs e) (omega arith)

  from_weighs : (b : Bool) (n : ℕ) (ds : List Document) → sum (whole w) (headings_from b n ds) ≤ sum (card_w w) (held_from n ds)
  unfolding headings_from held_from
  from_weighs b n [] = omega arith
  from_weighs b n (d ∷ ds) =
      omega (
        arith,
        sum_append (whole w) (group d.text b d.ignored n d.cards).1 (headings_from false (n + length d.cards) ds),
        group_weighs d.text b d.ignored n d.cards,
        from_weighs false (n + length d.cards) ds,
        sum_append (card_w w) (cards_named d.text n d.cards) (held_from (n + length d.cards) ds),
      )

-- Cards are numbered on.
abbrev pub Numbered : ℕ → List NamedCard → Type 0
Numbered n [] = Unit {0}
Numbered n (p ∷ ps) = (p.number ≡ n) × Numbered (n + 1) ps

numbered_append : (n : ℕ) (ps qs : List NamedCard) → Numbered n ps → Numbered (n + length ps) qs → Numbered n (ps ++ qs)
numbered_append n [] qs a b = let e : n + 0 ≡ n = omega arith in rw e at b
numbered_append n (p ∷ ps) qs a b =
    let e : n + suc (length ps) ≡ n + 1 + length ps = omega arith in (a.0, numbered_append (n + 1) ps qs a.1 (rw e at b))

cards_numbered : (t : List ℕ) (n : ℕ) (cs : List Card) → Numbered n (cards_named t n cs)
unfolding cards_named named_card
cards_numbered t n [] = tt
cards_numbered t n (c ∷ cs) = (refl, cards_numbered t (n + 1) cs)

cards_length : (t : List ℕ) (n : ℕ) (cs : List Card) → length (cards_named t n cs) ≡ length cs
unfolding cards_named
cards_length t n [] = refl
cards_length t n (c ∷ cs) = ap suc (cards_length t (n + 1) cs)

held_numbered : (n : ℕ) (ds : List Document) → Numbered n (held_from n ds)
unfolding held_from
held_numbered n [] = tt
held_numbered n (d ∷ ds) =
    numbered_append n (cards_named d.text n d.cards) (held_from (n + length d.cards) ds) (cards_numbered d.text n d.cards)
    (rw (cards_length d.text n d.cards) (held_numbered (n + length d.cards) ds))

from_length : (n : ℕ) (ds : List Document) → length (held_from n ds) ≡ cards_held ds
unfolding held_from cards_held
from_length n [] = refl
from_length n (d ∷ ds) =
    omega (
      arith,
      length-append (cards_named d.text n d.cards) (held_from (n + length d.cards) ds),
      cards_length d.text n d.cards,
      from_length (n + length d.cards) ds,
    )

pub held_length : (ds : List Document) → length (held ds) ≡ cards_held ds
unfolding held
held_length ds = from_length 0 ds

-- Counting cards, and one card.
past : (c n : ℕ) → c < n → (ps : List NamedCard) → Numbered n ps → sum (card_w (λ i. gate (eqb i c) 1)) ps ≡ 0
past c n h [] a = refl
past c n h (p ∷ ps) a =
    let e : eqb p.number c ≡ false = ne_eqb p.number c (omega (arith, a.0)) in
    simp (e, past c (n + 1) (omega arith) ps a.1)

once : (c n : ℕ) (ps : List NamedCard) → Numbered n ps → sum (card_w (λ i. gate (eqb i c) 1)) ps ≤ 1
once c n [] a = omega arith
once c n (p ∷ ps) a = go (eqb p.number c) refl (once c (n + 1) ps a.1)
  where
    go : (b : Bool) → eqb p.number c ≡ b → sum (card_w (λ i. gate (eqb i c) 1)) ps ≤ 1 →
        gate (eqb p.number c) 1 + sum (card_w (λ i. gate (eqb i c) 1)) ps ≤ 1
    go true e ih = omega (arith, gate_le (eqb p.number c) 1, past c (n + 1) (omega (arith, a.0, eqb-true p.number c e)) ps a.1)
    go false e ih = simp e (omega arith)

pub headings_count : (ds : List Document) → sum (whole (λ i. 1)) (headings ds) ≤ cards_held ds
unfolding headings held
headings_count ds = omega (arith, from_weighs (λ i. 1) true 0 ds, sum_one (held ds), held_length ds)

-- Each card number stands once.
pub headings_once : (ds : List Document) (c : ℕ) → sum (whole (λ i. gate (eqb i c) 1)) (headings ds) ≤ 1
unfolding headings
headings_once ds c = omega (arith, from_weighs (λ i. gate (eqb i c) 1) true 0 ds, once c 0 (held_from 0 ds) (held_numbered 0 ds))

-- Later documents add at the end: only document 0 is built-in, and cards are numbered on.
not_built_in : (ds : List Document) → (is_empty ds && false) ≡ false
not_built_in [] = refl
not_built_in (d ∷ ds) = refl

from_joined : (b : Bool) (n : ℕ) (ds es : List Document) →
    headings_from b n (ds ++ es) ≡ headings_from b n ds ++ headings_from (is_empty ds && b) (n + cards_held ds) es
unfolding headings_from cards_held
from_joined b n [] es = ap (λ m. headings_from b m es) (sym (add-zero n))
from_joined b n (d ∷ ds) es =
    let own = (group d.text b d.ignored n d.cards).1 in
    let next = n + length d.cards in
    ap (λ l. own ++ l) (from_joined false next ds es
    ∙ (λ i. headings_from false next ds ++ headings_from (not_built_in ds i) (add_assoc n (length d.cards) (cards_held ds) i) es))
    ∙ sym (append_assoc own (headings_from false next ds) (headings_from false (n + (length d.cards + cards_held ds)) es))

pub headings_joined : (ds es : List Document) → headings (ds ++ es) ≡ headings ds ++ headings_from (is_empty ds) (cards_held ds) es
unfolding headings
headings_joined ds es =
    from_joined true 0 ds es ∙ (λ i. headings_from true 0 ds ++ headings_from (and_true_right (is_empty ds) i) (zero-add (cards_held ds) i) es)
  where
    and_true_right : (b : Bool) → (b && true) ≡ b
    and_true_right true = refl
    and_true_right false = refl

pub headings_grow : (ds es : List Document) → Prefix (headings ds) (headings (ds ++ es))
headings_grow ds es = (headings_from (is_empty ds) (cards_held ds) es, headings_joined ds es)

held_from_joined : (n : ℕ) (ds es : List Document) → held_from n (ds ++ es) ≡ held_from n ds ++ held_from (n + cards_held ds) es
unfolding held_from cards_held
held_from_joined n [] es = ap (λ m. held_from m es) (sym (add-zero n))
held_from_joined n (d ∷ ds) es =
    let own = cards_named d.text n d.cards in
    let next = n + length d.cards in
    ap (λ l. own ++ l) (held_from_joined next ds es ∙ ap (λ m. held_from next ds ++ held_from m es) (add_assoc n (length d.cards) (cards_held ds)))
    ∙ sym (append_assoc own (held_from next ds) (held_from (n + (length d.cards + cards_held ds)) es))

pub held_joined : (ds es : List Document) → held (ds ++ es) ≡ held ds ++ held_from (cards_held ds) es
unfolding held
held_joined ds es = held_from_joined 0 ds es ∙ ap (λ m. held_from 0 ds ++ held_from m es) (zero-add (cards_held ds))

-- What holds of all cards holds of the headings and their parts.
module _ (P : NamedCard → Type 0) where
  abbrev pub OfCards : Heading → Type 0
  OfCards h = P (record { number = h.number; kind = h.kind; name = h.name }) × All P h.parts

  group_cards : (t : List ℕ) (b i : Bool) (n : ℕ) (cs : List Card) → All P (cards_named t n cs) → All P (group t b i n cs).0 × All OfCards (group t b i n cs).1
  unfolding group cards_named named_card heading_from
  group_cards t b i n [] a = (tt, tt)
  group_cards t b i n (c ∷ cs) a = go (is_part c.kind) refl (group_cards t b i (n + 1) cs a.1)
    where
      go : (k : Bool) → is_part c.kind ≡ k → All P (group t b i (n + 1) cs).0 × All OfCards (group t b i (n + 1) cs).1 →
          All P (group t b i n (c ∷ cs)).0 × All OfCards (group t b i n (c ∷ cs)).1
      go false e ih = rw (group_heading t b i n c cs e) (tt, ((a.0, ih.0), ih.1))
      go true e ih = rw (group_part t b i n c cs e) ((a.0, ih.0), ih.1)

  from_cards : (b : Bool) (n : ℕ) (ds : List Document) → All P (held_from n ds) → All OfCards (headings_from b n ds)
  unfolding headings_from held_from
  from_cards b n [] a = tt
  from_cards b n (d ∷ ds) a =
      all_append OfCards (group d.text b d.ignored n d.cards).1 (headings_from false (n + length d.cards) ds)
      (group_cards d.text b d.ignored n d.cards (all_left P (cards_named d.text n d.cards) (held_from (n + length d.cards) ds) a)).1
      (from_cards false (n + length d.cards) ds (all_right P (cards_named d.text n d.cards) (held_from (n + length d.cards) ds) a))

  pub headings_cards : (ds : List Document) → All P (held ds) → All OfCards (headings ds)
  unfolding headings held
  headings_cards ds a = from_cards true 0 ds a

-- The cards of documents that are numbered from n on have numbers from n on, and as many as there are cards.
abbrev pub From : ℕ → ℕ → NamedCard → Type 0
From n m p = (n ≤ p.number) × (p.number < n + m)

numbers_from_lem : (n : ℕ) (ps : List NamedCard) → Numbered n ps → All (From n (length ps)) ps
numbers_from_lem n [] a = tt
numbers_from_lem n (p ∷ ps) a =
    let e = a.0 in
    let r = numbers_from_lem (n + 1) ps a.1 in
    ((omega arith, omega arith), all_to (From (n + 1) (length ps)) (From n (length (p ∷ ps))) (λ q b. (omega arith, omega arith)) ps r)

pub headings_from_lem : (b : Bool) (n : ℕ) (ds : List Document) → All (OfCards (From n (cards_held ds))) (headings_from b n ds)
headings_from_lem b n ds =
    let a : All (From n (length (held_from n ds))) (held_from n ds) = numbers_from_lem n (held_from n ds) (held_numbered n ds) in
    from_cards (From n (cards_held ds)) b n ds (rw (from_length n ds) at a)

-- Each card is found by its number.
abbrev pub Found : List NamedCard → NamedCard → Type 0
Found ps p = get_elem? ps p.number ≡ some p

elem_at : (xs : List NamedCard) (y : NamedCard) (ys : List NamedCard) → get_elem? (xs ++ (y ∷ ys)) (length xs) ≡ some y
elem_at [] y ys = refl
elem_at (x ∷ xs) y ys = elem_at xs y ys

found_from : (xs ys : List NamedCard) → Numbered (length xs) ys → All (Found (xs ++ ys)) ys
found_from xs [] a = tt
found_from xs (y ∷ ys) a =
    let e : length xs + 1 ≡ length (xs ++ (y ∷ [])) = omega (arith, length-append xs (y ∷ [])) in
    let r : All (Found ((xs ++ (y ∷ [])) ++ ys)) ys = found_from (xs ++ (y ∷ [])) ys (rw e at a.1) in
    let s : All (Found (xs ++ (y ∷ ys))) ys = rw append_assoc at r in
    (ap (get_elem? (xs ++ (y ∷ ys))) a.0 ∙ elem_at xs y ys, s)

pub held_found : (ds : List Document) → All (Found (held ds)) (held ds)
unfolding held
held_found ds = found_from [] (held_from 0 ds) (held_numbered 0 ds)

pub headings_held : (ds : List Document) → All (OfCards (Found (held ds))) (headings ds)
headings_held ds = headings_cards (Found (held ds)) ds (held_found ds)

name_found : (ps : List NamedCard) (p : NamedCard) → Found ps p → name_numbered ps p.number ≡ p.name
unfolding name_numbered
name_found ps p e = rw e

pub headings_named : (ds : List Document) → All (Named (held ds)) (headings ds)
headings_named ds =
    all_to (OfCards (Found (held ds))) (Named (held ds))
    (λ h a. (
      name_found (held ds) (record { number = h.number; kind = h.kind; name = h.name }) a.0,
      all_to (Found (held ds)) (λ p. name_numbered (held ds) p.number ≡ p.name) (name_found (held ds)) h.parts a.1,
    )) (headings ds) (headings_held ds)
