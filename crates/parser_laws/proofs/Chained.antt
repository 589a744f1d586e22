-- Cards one after another, each without fault where it stands: a chain that can be joined, and that passes the refusals for cards.
use mathlib.Core.Path.{◌≡◌, refl}
use mathlib.Core.List.{List, [], ◌∷◌, ◌++◌}
use mathlib.Core.Bool.{Bool, true, false, ◌&&◌, ◌||◌, not}
use mathlib.Core.Option.{Option, none, some}
use Prim.Native.Nat.{ℕ, ◌+◌, ◌≤◌}
use native.Mathlib.Omega.{arith}
use borrow.Author.Tests.{le-ltb, lt-leb, ne_eqb, eq-eqb, leb-true}
use lib.Dec.{eqb, leb, ltb}
use lib.ListN.{length}
use Rattle.definition.specs.Lists.{found}
use Rattle.definition.specs.Names.{is_name, bytes_at}
use Rattle.definition.specs.Cards.{Card, Place, is_heading, is_part, is_unnamed, item_end, name_end, definition_of, part_order, place_in, unknown_kind, empty_item}
use Rattle.definition.specs.Cards.{item_outside_text, item_before_sibling_end, item_outside_heading, name_outside_item, name_not_item, name_amiss, name_no_name}
use Rattle.definition.specs.Cards.{misplaced_under, misplaced, fault, faults, fault_among, fault_from}
use Rattle.definition.proofs.CleanCards.{Clean, placed, place_part, place_heading, fault_step}
use Rattle.parser_laws.proofs.Tests.{both}
use Rattle.parser_laws.proofs.Phases.{is_bare, is_nameless, place_under}

-- Where an item ends, and the place of its kind under a heading that defines d; x and 0 where there is none.
abbrev pub end_of : ℕ → Option Card → ℕ
end_of x none = x
end_of x (some c) = c.item_at + c.item_len

abbrev pub placed_at : ℕ → Option Card → ℕ
placed_at d none = 0
placed_at d (some c) = place_under d c.kind

-- A card that is named rightly.
pub record WellNamed (text : List ℕ) (c : Card) : Type 0 where
  pub begins : c.item_at ≤ c.name_at
  pub ends : c.name_at + c.name_len ≤ c.item_at + c.item_len
  pub long : 1 ≤ c.name_len
  pub word : is_name (bytes_at text c.name_at c.name_len) ≡ true
  pub bare : is_bare c.kind ≡ true → (c.name_at ≡ c.item_at) × (c.name_len ≡ c.item_len)
  pub nameless : is_nameless c.kind ≡ false

pub faultless : (p : Place) (c : Card) → Clean p c → fault_among p c faults ≡ 0
unfolding fault_among faults fault
faultless p c q =
    rw (
      q.known,
      q.filled,
      q.in_text,
      q.after_sibling,
      q.in_heading,
      q.name_in_item,
      q.name_is_item,
      q.name_fits,
      q.name_is_name,
      q.in_place,
    )

and_no : (t : Bool) → (t && false) ≡ false
and_no true = refl
and_no false = refl

or_yes : (t : Bool) → (t || true) ≡ true
or_yes true = refl
or_yes false = refl

module _ (text : List ℕ) (h s : Option Card) (c : Card) where
  abbrev stands : Place
  stands = placed text 0 (length text) h s

  -- ---- Its item.

  item_filled : 1 ≤ c.item_len → empty_item stands c ≡ false
  unfolding empty_item
  item_filled k = ne_eqb c.item_len 0 (λ e. omega arith)

  item_inside : c.item_at + c.item_len ≤ length text → item_outside_text stands c ≡ false
  unfolding item_outside_text item_end
  item_inside k = rw (le-ltb c.item_at 0 (omega arith), le-ltb (0 + length text) (c.item_at + c.item_len) (omega arith))

  -- ---- Its name.

  name_there : WellNamed text c → is_unnamed c ≡ false
  unfolding is_unnamed
  name_there w = rw (ne_eqb c.name_len 0 (λ e. omega (arith, w.long)))

  named_in : WellNamed text c → name_outside_item stands c ≡ false
  unfolding name_outside_item item_end name_end
  named_in w = rw (name_there w, le-ltb c.name_at c.item_at w.begins, le-ltb (c.item_at + c.item_len) (c.name_at + c.name_len) w.ends)

  named_whole : WellNamed text c → name_not_item stands c ≡ false
  unfolding name_not_item is_bare
  named_whole w = rw (name_there w) (go (eqb c.kind 21 || eqb c.kind 23) w.bare)
    where
      go : (t : Bool) → (t ≡ true → (c.name_at ≡ c.item_at) × (c.name_len ≡ c.item_len)) →
          (t && not (eqb c.name_at c.item_at && eqb c.name_len c.item_len)) ≡ false
      go true f = let e = f refl in rw (eq-eqb c.name_at c.item_at e.0, eq-eqb c.name_len c.item_len e.1)
      go false f = refl

  named_fits : WellNamed text c → name_amiss stands c ≡ false
  unfolding name_amiss is_nameless
  named_fits w = rw (w.nameless, name_there w) (and_no (not (eqb c.kind 1)))

  named_word : WellNamed text c → name_no_name stands c ≡ false
  unfolding name_no_name
  named_word w = rw (name_there w, w.word)

module _ (text : List ℕ) (h : Card) (s : Option Card) (c : Card) where
  -- A part under a heading, after a part before it.
  pub part_clean : is_part c.kind ≡ true → 1 ≤ c.item_len → c.item_at + c.item_len ≤ length text → end_of h.item_at s ≤ c.item_at → h.item_at ≤ c.item_at →
      c.item_at + c.item_len ≤ h.item_at + h.item_len → WellNamed text c →
      ltb (place_under (definition_of h.kind) c.kind) (length (part_order (definition_of h.kind))) ≡ true →
      placed_at (definition_of h.kind) s ≤ place_under (definition_of h.kind) c.kind → fault_among (placed text 0 (length text) (some h) s) c faults ≡ 0
  unfolding unknown_kind item_before_sibling_end item_outside_heading misplaced misplaced_under item_end place_under
  part_clean k f i a b e w p q =
      faultless (placed text 0 (length text) (some h) s) c (record {
        known = rw (k, or_yes (is_heading c.kind));
        filled = item_filled text (some h) s c f;
        in_text = item_inside text (some h) s c i;
        after_sibling = after s a;
        in_heading = rw (le-ltb c.item_at h.item_at b, le-ltb (h.item_at + h.item_len) (c.item_at + c.item_len) e);
        name_in_item = named_in text (some h) s c w;
        name_is_item = named_whole text (some h) s c w;
        name_fits = named_fits text (some h) s c w;
        name_is_name = named_word text (some h) s c w;
        in_place = rw (k, p) (ordered s q);
      })
    where
      after : (s : Option Card) → end_of h.item_at s ≤ c.item_at → found s (λ s. ltb c.item_at (s.item_at + s.item_len)) false ≡ false
      after none a = refl
      after (some s) a = le-ltb c.item_at (s.item_at + s.item_len) a

      ordered : (s : Option Card) → placed_at (definition_of h.kind) s ≤ place_under (definition_of h.kind) c.kind →
          found s (λ s. ltb (place_in (part_order (definition_of h.kind)) c.kind) (place_in (part_order (definition_of h.kind)) s.kind)) false ≡ false
      ordered none q = refl
      ordered (some s) q = le-ltb (place_under (definition_of h.kind) c.kind) (place_under (definition_of h.kind) s.kind) q

pub heading_no_part : (k : ℕ) → is_heading k ≡ true → is_part k ≡ false
unfolding is_heading is_part
heading_no_part k e = let h = leb-true k 17 (both (leb 1 k) (leb k 17) e).1 in rw (lt-leb 20 k (omega arith))

module _ (text : List ℕ) (s : Option Card) (c : Card) where
  -- A heading after a heading before it: with a name, and without one.
  heading_with_lem : is_heading c.kind ≡ true → 1 ≤ c.item_len → c.item_at + c.item_len ≤ length text → end_of 0 s ≤ c.item_at →
      name_outside_item (placed text 0 (length text) none s) c ≡ false → name_not_item (placed text 0 (length text) none s) c ≡ false →
      name_amiss (placed text 0 (length text) none s) c ≡ false → name_no_name (placed text 0 (length text) none s) c ≡ false →
      fault_among (placed text 0 (length text) none s) c faults ≡ 0
  unfolding unknown_kind item_before_sibling_end item_outside_heading misplaced item_end
  heading_with_lem k f i a n1 n2 n3 n4 =
      faultless (placed text 0 (length text) none s) c (record {
        known = rw k;
        filled = item_filled text none s c f;
        in_text = item_inside text none s c i;
        after_sibling = after s a;
        in_heading = refl;
        name_in_item = n1;
        name_is_item = n2;
        name_fits = n3;
        name_is_name = n4;
        in_place = rw (heading_no_part c.kind k);
      })
    where
      after : (s : Option Card) → end_of 0 s ≤ c.item_at → found s (λ s. ltb c.item_at (s.item_at + s.item_len)) false ≡ false
      after none a = refl
      after (some s) a = le-ltb c.item_at (s.item_at + s.item_len) a

  pub heading_clean : is_heading c.kind ≡ true → 1 ≤ c.item_len → c.item_at + c.item_len ≤ length text → end_of 0 s ≤ c.item_at → WellNamed text c →
      fault_among (placed text 0 (length text) none s) c faults ≡ 0
  heading_clean k f i a w =
      heading_with_lem k f i a (named_in text none s c w) (named_whole text none s c w) (named_fits text none s c w) (named_word text none s c w)

  pub nameless_clean : is_heading c.kind ≡ true → 1 ≤ c.item_len → c.item_at + c.item_len ≤ length text → end_of 0 s ≤ c.item_at →
      is_unnamed c ≡ true → is_nameless c.kind ≡ true → fault_among (placed text 0 (length text) none s) c faults ≡ 0
  unfolding name_outside_item name_not_item name_amiss name_no_name is_nameless
  nameless_clean k f i a u n = heading_with_lem k f i a (rw u) (rw u) (rw (n, u)) (rw u)

-- A card without fault after a heading h and a part s.
abbrev pub Fine : List ℕ → Option Card → Option Card → Card → Type 0
Fine text h s c = fault_among (placed text 0 (length text) h s) c faults ≡ 0

-- ---- A chain of cards, from a heading and a part before it to those at its end.

pub data Chain (text : List ℕ) : Option Card → Option Card → List Card → Option Card → Option Card → Type 0 where
  ends : {h s : Option Card} → Chain text h s [] h s
  a_part : {h s h' s' : Option Card} {c : Card} {cs : List Card} → is_part c.kind ≡ true → Fine text h s c →
      Chain text h (some c) cs h' s' → Chain text h s (c ∷ cs) h' s'
  a_heading : {h s h' s' : Option Card} {c : Card} {cs : List Card} → is_part c.kind ≡ false → Fine text none h c →
      Chain text (some c) none cs h' s' → Chain text h s (c ∷ cs) h' s'

pub chain_append : {text : List ℕ} {h s h' s' h'' s'' : Option Card} {cs ds : List Card} → Chain text h s cs h' s' → Chain text h' s' ds h'' s'' →
    Chain text h s (cs ++ ds) h'' s''
chain_append ends b = b
chain_append (a_part k f a) b = a_part k f (chain_append a b)
chain_append (a_heading k f a) b = a_heading k f (chain_append a b)

pub chain_passes : {text : List ℕ} {h s h' s' : Option Card} {cs : List Card} → Chain text h s cs h' s' → (i : ℕ) →
    fault_from text 0 (length text) i h s cs ≡ none
chain_passes ends i = unfold fault_from in refl
chain_passes {text} {h} {s} (a_part {c = c} {cs = cs} k f a) i =
    rw (fault_step text 0 (length text) i h s c cs, place_part text 0 (length text) i h s c cs k, k, f) (chain_passes a (i + 1))
chain_passes {text} {h} {s} (a_heading {c = c} {cs = cs} k f a) i =
    rw (fault_step text 0 (length text) i h s c cs, place_heading text 0 (length text) i h s c cs k, k, f) (chain_passes a (i + 1))
