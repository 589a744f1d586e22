-- In documents without a faulty card, the parts under each heading are of its kinds.
use mathlib.Core.Path.{◌≡◌, refl}
use mathlib.Core.List.{List, [], ◌∷◌}
use mathlib.Core.Bool.{Bool, true, false}
use mathlib.Core.Option.{Option, none, some}
use Prim.Native.Nat.{ℕ, ◌+◌}
use lib.Dec.{ltb}
use lib.ListN.{length}
use Rattle.definition.specs.Lists.{All}
use Rattle.definition.specs.Cards.{Card, is_part, definition_of, part_order, place_in, fault_from, card_fault, misplaced, misplaced_under}
use Rattle.definition.specs.Headings.{Document, Heading, NamedCard, named_card, heading_from, group, headings_from, headings}
use Rattle.definition.proofs.All.{all_append}
use Rattle.definition.proofs.CleanCards.{Faultless, placed, clean_part, clean_heading}
use Rattle.definition.proofs.DocumentHeadings.{group_heading, group_part}

-- A part of a kind that a heading of kind k has.
abbrev pub Fit : ℕ → NamedCard → Type 0
Fit k p = ltb (place_in (part_order (definition_of k)) p.kind) (length (part_order (definition_of k))) ≡ true

abbrev pub Kinded : Heading → Type 0
Kinded h = All (Fit h.kind) h.parts

abbrev FitUnder : Option Card → NamedCard → Type 0
FitUnder none p = Unit {0}
FitUnder (some c) p = Fit c.kind p

fits : (bytes : List ℕ) (base size : ℕ) (h s : Option Card) (c : Card) → is_part c.kind ≡ true → misplaced (placed bytes base size h s) c ≡ false →
    (text : List ℕ) (n : ℕ) → FitUnder h (named_card text n c)
unfolding misplaced misplaced_under named_card
fits bytes base size none s c i e text n = tt
fits bytes base size (some g) s c i e text n = go (ltb (place_in (part_order (definition_of g.kind)) c.kind) (length (part_order (definition_of g.kind))))
    refl
  where
    go : (b : Bool) → ltb (place_in (part_order (definition_of g.kind)) c.kind) (length (part_order (definition_of g.kind))) ≡ b →
        ltb (place_in (part_order (definition_of g.kind)) c.kind) (length (part_order (definition_of g.kind))) ≡ true
    go true q = q
    go false q = let z : true ≡ false = rw (i, q) at e in cc

module _ (bytes : List ℕ) (base size : ℕ) (t : List ℕ) (b i : Bool) where
  group_kinded : (k : ℕ) (h s : Option Card) (n : ℕ) (cs : List Card) → fault_from bytes base size k h s cs ≡ none →
      All (FitUnder h) (group t b i n cs).0 × All Kinded (group t b i n cs).1
  unfolding group heading_from
  group_kinded k h s n [] e = (tt, tt)
  group_kinded k h s n (c ∷ cs) e =
      go (is_part c.kind) refl (group_kinded (k + 1) h (some c) (n + 1) cs) (group_kinded (k + 1) (some c) none (n + 1) cs)
    where
      go : (q : Bool) → is_part c.kind ≡ q →
          (fault_from bytes base size (k + 1) h (some c) cs ≡ none → All (FitUnder h) (group t b i (n + 1) cs).0 × All Kinded (group t b i (n + 1) cs).1) →
          (fault_from bytes base size (k + 1) (some c) none cs ≡ none →
          All (Fit c.kind) (group t b i (n + 1) cs).0 × All Kinded (group t b i (n + 1) cs).1) →
          All (FitUnder h) (group t b i n (c ∷ cs)).0 × All Kinded (group t b i n (c ∷ cs)).1
      go true q ih _ =
          let f = clean_part bytes base size k h s c cs q e in
          let j = ih f.1 in
          rw (group_part t b i n c cs q) ((fits bytes base size h s c q f.0.in_place t n, j.0), j.1)
      go false q _ ih =
          let j = ih (clean_heading bytes base size k h s c cs q e).1 in
          rw (group_heading t b i n c cs q) (tt, (j.0, j.1))

from_kinded : (b : Bool) (n : ℕ) (ds : List Document) → All Faultless ds → All Kinded (headings_from b n ds)
unfolding headings_from card_fault
from_kinded b n [] a = tt
from_kinded b n (d ∷ ds) a =
    all_append Kinded (group d.text b d.ignored n d.cards).1 (headings_from false (n + length d.cards) ds)
    (group_kinded d.text 0 (length d.text) d.text b d.ignored 0 none none n d.cards a.0).1
    (from_kinded false (n + length d.cards) ds a.1)

pub headings_kinded : (ds : List Document) → All Faultless ds → All Kinded (headings ds)
unfolding headings
headings_kinded ds a = from_kinded true 0 ds a
