-- What a search for a name shows.
use mathlib.Core.Path.{◌≡◌, refl, sym, ◌∙◌, ap}
use mathlib.Core.List.{List}
use mathlib.Core.Bool.{Bool, true, false}
use Prim.Native.Nat.{ℕ, ◌+◌, ◌-◌, ◌≤◌, ◌<◌}
use native.Mathlib.Omega.{arith}
use lib.Dec.{ltb}
use lib.ListN.{length, get_or}
use borrow.Author.Tests.{ltb-true, ltb-false}
use Rattle.std.specs.Option.{SomeIff}
use Rattle.std.proofs.Common.{Option, Ordering, Less, Equal, Greater, nat_cmp, Some, None}
use Rattle.definition.specs.Names.{compare_names, same_name}
use Rattle.definition.proofs.Lists.{same_name_eq, same_name_refl}
use Rattle.definition.proofs.NamesInOrder.{names_ordered}
use Rattle.name.specs.Hashes.{hash_of}
use Rattle.numbering.specs.Hashes.{HashesAre}
use Rattle.numbering.specs.Numbers.{representative}
use Rattle.numbering.specs.Table.{most_probes, home_of, Probed, Held}
use Rattle.numbering.specs.Order.{InOrder, by_hash, by_name, by_card, Placed, CardsSorted}
use Rattle.numbering.specs.Lookup.{FoundAs, is_earlier, Earlier, by_hash as earlier_hash, by_name as earlier_name, Begins}
use borrow.Author.Tests.{lt-ltb}
use Rattle.std.proofs.lemmas.List.{get_or_default}
use Rattle.std.proofs.lemmas.Cmp.{ranked, tied_itself, nat_cmp_total}
use Rattle.std.specs.Ordering.{ordering_then, is_lt}
use Rattle.std.specs.List.Sorted.{IsPartitionedBy, IsPartitionPoint}
use Rattle.numbering.proofs.Laws.{rep_most, rep_named}
use Rattle.numbering.proofs.TableLaws.{found_own, vacant, far, none_named, false_true, true_false}

-- ---- In a table.

module _ (named : ℕ → List ℕ) (slots n : ℕ) (table name : List ℕ) (h : Held named slots n table) (start d : ℕ) (at : start ≡ home_of slots name)
    (p : Probed named table name start d) where
  pub found_far : d ≡ most_probes → FoundAs named n name None
  found_far q = none_named named slots n name (far named slots table n h name start d at p q)

  pub found_vacant : get_or table (start + d) 0 ≡ 0 → FoundAs named n name None
  found_vacant z = none_named named slots n name (vacant named slots table n h name start d at p z)

  pub found_card : (d ≡ most_probes → ⊥) → (get_or table (start + d) 0 ≡ 0 → ⊥) → FoundAs named n name (Some (get_or table (start + d) 0 - 1))
  found_card near ne =
      let e : get_or table (start + d) 0 ≡ (get_or table (start + d) 0 - 1) + 1 = omega (arith, ne) in
      let o = found_own named slots table n h name start d at p (omega (arith, near, p.most)) (get_or table (start + d) 0 - 1) e in
      (o.0, sym o.2, o.1)

  -- What is one less than the word where the search got.
  pub found_word : d < most_probes → (r : Option ℕ) → SomeIff r (1 ≤ get_or table (start + d) 0) (get_or table (start + d) 0 - 1) → FoundAs named n name r
  found_word near (Some x) s = rw s.1 (found_card (λ q. omega arith) (λ z. omega (arith, s.0)))
  found_word near None s = found_vacant (omega (arith, s))

-- ---- A card before those of a name.

module _ (named : ℕ → List ℕ) (hashes name : List ℕ) (hash card : ℕ) where
  pub told_earlier : is_earlier named hashes name hash card ≡ true → Earlier named hashes name hash card
  told_earlier e = go (nat_cmp (get_or hashes card 0) hash) refl (compare_names (named card) name) refl e
    where
      go : (o : Ordering) → o ≡ nat_cmp (get_or hashes card 0) hash → (p : Ordering) → p ≡ compare_names (named card) name →
          is_lt (ordering_then o p) ≡ true → Earlier named hashes name hash card
      go Less a p b f = earlier_hash (ranked (get_or hashes card 0) hash Less a)
      go Greater a p b f = false_true f
      go Equal a Less b f = earlier_name (ranked (get_or hashes card 0) hash Equal a) (sym b)
      go Equal a Equal b f = false_true f
      go Equal a Greater b f = false_true f

  pub told_not : is_earlier named hashes name hash card ≡ false → Earlier named hashes name hash card → ⊥
  told_not e (earlier_hash k) = let t : is_earlier named hashes name hash card ≡ true = rw (lt-ltb (get_or hashes card 0) hash k) refl in true_false (sym t ∙ e)
  told_not e (earlier_name q c) =
      let o : nat_cmp (get_or hashes card 0) hash ≡ Equal = rw q (tied_itself nat_cmp_total hash) in
      let t : is_earlier named hashes name hash card ≡ true = rw (o, c) refl in
      true_false (sym t ∙ e)

  pub earlier_told : Earlier named hashes name hash card → is_earlier named hashes name hash card ≡ true
  earlier_told h = go (is_earlier named hashes name hash card) refl
    where
      go : (b : Bool) → is_earlier named hashes name hash card ≡ b → is_earlier named hashes name hash card ≡ true
      go true e = e
      go false e = absurd (told_not e h)

-- ---- In the order.

module _ (named : ℕ → List ℕ) (hashes name : List ℕ) (hash : ℕ) where
  -- A card of the name does not stand before an earlier one.
  none_earlier : (i j : ℕ) → named i ≡ name → get_or hashes i 0 ≡ hash → InOrder named hashes i j → Earlier named hashes name hash j → ⊥
  none_earlier i j q h (by_hash l) (earlier_hash k) = omega arith
  none_earlier i j q h (by_hash l) (earlier_name e c) = omega arith
  none_earlier i j q h (by_name f b) (earlier_hash k) = omega arith
  none_earlier i j q h (by_name f b) (earlier_name e c) =
      (names_ordered.no_two (named i) (named j) b).1 (ap (compare_names (named j)) q ∙ c)
  none_earlier i j q h (by_card f b l) (earlier_hash k) = omega arith
  none_earlier i j q h (by_card f b l) (earlier_name e c) = (names_ordered.no_two (named j) name c).0 (sym b ∙ q)

  -- One that is not earlier, and stands before a card of the name, has it too.
  named_too : (i j : ℕ) → named j ≡ name → get_or hashes j 0 ≡ hash → InOrder named hashes i j → (Earlier named hashes name hash i → ⊥) →
      (named i ≡ name) × (i ≤ j)
  named_too i j q h (by_hash l) unearly = absurd (unearly (earlier_hash (omega arith)))
  named_too i j q h (by_name f b) unearly = absurd (unearly (earlier_name (f ∙ h) (ap (compare_names (named i)) (sym q) ∙ b)))
  named_too i j q h (by_card f b l) unearly = (b ∙ q, l)

  module _ (n : ℕ) (order : List ℕ) (place : ℕ) (p : HashesAre named n hashes) (made : hash ≡ hash_of name)
      (s : CardsSorted named hashes n order) (b : Begins named n hashes order name hash place) where
    hash_here : (i : ℕ) → i < n → named i ≡ name → get_or hashes i 0 ≡ hash
    hash_here i l q = p.hashes_are i l ∙ ap hash_of q ∙ sym made

    -- The cards of the name begin there.
    reached : (i : ℕ) → i < n → named i ≡ name → (place < n) × (named (get_or order place 0) ≡ name) × (get_or order place 0 ≤ i)
    reached i l q = go (s.all_cards i l) (ltb (s.all_cards i l).place place) refl
      where
        go : (w : Placed i 0 n order) → (t : Bool) → ltb w.place place ≡ t →
            (place < n) × (named (get_or order place 0) ≡ name) × (get_or order place 0 ≤ i)
        go w true f =
            let k = ltb-true w.place place f in
            absurd (none_earlier i (get_or order (place - 1) 0) q (hash_here i l q)
            (rw w.placed at (s.cards_ordered.in_order w.place (place - 1) (omega arith) (omega arith) (omega (arith, b.place_most))))
            (b.before_earlier (omega arith)))
        go w false f =
            let k = ltb-false w.place place f in
            let here : place < n = omega (arith, w.below_end) in
            let o = named_too (get_or order place 0) i q (hash_here i l q)
            (rw w.placed at (s.cards_ordered.in_order place w.place (omega arith) (omega arith) w.below_end))
            (b.here_not (omega arith)) in
            (here, o.0, o.1)

    pub ordered_card : place < n → same_name name (named (get_or order place 0)) ≡ true →
        FoundAs named n name (Some (get_or order place 0))
    ordered_card l t =
        let q : named (get_or order place 0) ≡ name = sym (same_name_eq name (named (get_or order place 0)) t) in
        let k = s.each_card place l in
        let m = rep_most named (get_or order place 0) in
        let o = reached (representative named (get_or order place 0)) (omega (arith, k, m))
        (sym (rep_named named (get_or order place 0)) ∙ q) in
        (k, q, omega (arith, m, o.2))

    pub ordered_none : (place < n → same_name name (named (get_or order place 0)) ≡ false) → FoundAs named n name None
    ordered_none other i l = go (same_name name (named i)) refl
      where
        go : (t : Bool) → same_name name (named i) ≡ t → same_name name (named i) ≡ false
        go true f =
            let o = reached i l (sym (same_name_eq name (named i) f)) in
            true_false (sym (same_name_refl name) ∙ ap (same_name name) (sym o.1) ∙ other o.0)
        go false f = f

-- ---- The search in the order.

earlier_before : {named : ℕ → List ℕ} {hashes name : List ℕ} {hash i j : ℕ} → InOrder named hashes i j → Earlier named hashes name hash j → Earlier named hashes name hash i
earlier_before (by_hash l) (earlier_hash k) = earlier_hash (omega arith)
earlier_before (by_hash l) (earlier_name q c) = earlier_hash (omega arith)
earlier_before (by_name f b) (earlier_hash k) = earlier_hash (omega arith)
earlier_before {named} {hashes} {name} {hash} {i} {j} (by_name f b) (earlier_name q c) =
    earlier_name (f ∙ q) (names_ordered.transitive (named i) (named j) name b c)
earlier_before (by_card f b l) (earlier_hash k) = earlier_hash (omega arith)
earlier_before {name = name} (by_card f b l) (earlier_name q c) = earlier_name (f ∙ q) (ap (λ (n : List ℕ). compare_names n name) b ∙ c)

module _ (named : ℕ → List ℕ) (n : ℕ) (hashes order name : List ℕ) (hash : ℕ) (long : length order ≡ n) (s : CardsSorted named hashes n order) where
  -- Before an earlier card all are earlier.
  pub order_parted : IsPartitionedBy (is_earlier named hashes name hash) order
  order_parted i j d h l e =
      let m : i < length order = omega arith in
      let f = rw (get_or_default order j d 0 l) at e in
      rw (get_or_default order i d 0 m) (earlier_told named hashes name hash _
      (earlier_before (s.cards_ordered.in_order i j (omega arith) h (omega arith)) (told_earlier named hashes name hash _ f)))

  pub begins_at : (place : ℕ) → place ≤ length order
      → IsPartitionPoint (λ c. is_earlier named hashes name hash c ≡ true) (λ c. is_earlier named hashes name hash c ≡ false) order place
      → Begins named n hashes order name hash place
  begins_at place m p = record {
    place_most = omega arith;
    before_earlier = λ l. told_earlier named hashes name hash _ (p.0 (place - 1) 0 (omega arith) (omega arith));
    here_not = λ l. told_not named hashes name hash _ (p.1 place 0 (omega arith) (omega arith));
  }
