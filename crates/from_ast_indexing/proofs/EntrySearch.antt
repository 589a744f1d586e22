-- The search for a name among the first cards, and a card that is added where none has its name.
use mathlib.Core.Path.{◌≡◌, refl, sym, ◌∙◌, ap}
use mathlib.Core.List.{List, [], ◌∷◌, ◌++◌, map}
use mathlib.Core.Bool.{true, false}
use mathlib.Core.Option.{Option, none, some}
use Prim.Native.Nat.{ℕ, zero, suc, ◌+◌, ◌-◌, ◌%◌, ◌≤◌, ◌<◌}
use native.Mathlib.Numerals.{add-one}
use native.Mathlib.Omega.{arith}
use lib.ListN.{length, take, drop, get_or, set, length-set, length-map, length-drop}
use lib.Seq.{drop_at, length-take-le, take-length, take-add, take-suc-set}
use Rattle.definition.specs.Lists.{find}
use Rattle.from_ast_index.specs.Index.{card_hash, same_cards}
use Rattle.definition.specs.Store.{cards_used_of}
use Rattle.definition.proofs.Lists.{map_append, first_nil, first_yes, first_no}
use Rattle.from_ast_index.proofs.Lists.{drop_next}
use Rattle.name.proofs.HashLaws.{hashes_differ}
use Rattle.std.specs.Prelude.{Some, None}
use Rattle.from_ast_indexing.specs.declared.entry.FirstCards.{FirstCards}
use Rattle.from_ast_indexing.specs.declared.entry.KnownCards.{KnownCards}
use Rattle.from_ast_indexing.specs.Entering.{entry_of, entered_in, first_entered, cards_of, hashes_of, FirstsAre, KnownAre, SameSlices}
use Rattle.from_ast_indexing.proofs.Hints.{hint_none, hint_passed, hint_more}

-- ---- A turn of the search.

module _ (text words cards : List ℕ) (card i : ℕ) where
  search_miss : i < length cards → same_cards text words card (get_or cards i 0) ≡ false →
      entry_of (find (same_cards text words card) (drop i cards)) ≡ entry_of (find (same_cards text words card) (drop (i + 1) cards))
  search_miss h e = rw (drop_next cards i h) (ap entry_of (first_no (same_cards text words card) (get_or cards i 0) (drop (i + 1) cards) e))

-- By the first card that is left.
module _ (text words : List ℕ) (card x : ℕ) (xs cards : List ℕ) (is : cards ≡ x ∷ xs) where
  pub first_hit : same_cards text words card x ≡ true → entry_of (find (same_cards text words card) cards) ≡ Some x
  first_hit e = rw is (ap entry_of (first_yes (same_cards text words card) x xs e))

  pub first_miss : same_cards text words card x ≡ false →
      entry_of (find (same_cards text words card) cards) ≡ entry_of (find (same_cards text words card) xs)
  first_miss e = rw is (ap entry_of (first_no (same_cards text words card) x xs e))

  -- Its hash stands first too.
  module _ (y : ℕ) (ys hashes : List ℕ) (beside : hashes ≡ map (card_hash text words) cards) (are : hashes ≡ y ∷ ys) where
    pub first_hash : y ≡ card_hash text words x
    first_hash = let q : y ∷ ys ≡ card_hash text words x ∷ map (card_hash text words) xs = sym are ∙ (beside ∙ ap (map (card_hash text words)) is) in cc

    pub others_beside : ys ≡ map (card_hash text words) xs
    others_beside = let q : y ∷ ys ≡ card_hash text words x ∷ map (card_hash text words) xs = sym are ∙ (beside ∙ ap (map (card_hash text words)) is) in cc

    pub first_differs : (hash : ℕ) → hash ≡ card_hash text words card → (y ≡ hash → ⊥) → same_cards text words card x ≡ false
    unfolding same_cards card_hash
    first_differs hash h d = hashes_differ _ _ (λ e. d (first_hash ∙ sym e ∙ sym h))

pub none_left : (text words : List ℕ) (card : ℕ) (cards : List ℕ) → length cards ≡ 0 → entry_of (find (same_cards text words card) cards) ≡ None
none_left text words card [] h = ap entry_of (first_nil (same_cards text words card))
none_left text words card (x ∷ xs) h = absurd (omega arith)

pub none_beside : (text words cards hashes : List ℕ) → hashes ≡ map (card_hash text words) cards → length hashes ≡ 0 → length cards ≡ 0
none_beside text words [] hashes e h = refl
none_beside text words (x ∷ xs) hashes e h = let l : length hashes ≡ suc (length (map (card_hash text words) xs)) = ap length e in absurd (omega arith)

-- The hashes beside the cards tell other names.
get_d_hash : (text words cards : List ℕ) (i : ℕ) → i < length cards → get_or (map (card_hash text words) cards) i 0 ≡ card_hash text words (get_or cards i 0)
get_d_hash text words [] i h = absurd (omega arith)
get_d_hash text words (x ∷ xs) zero h = refl
get_d_hash text words (x ∷ xs) (suc i) h = get_d_hash text words xs i (omega arith)

drop_hash : (text words : List ℕ) (n : ℕ) (cards : List ℕ) → drop n (map (card_hash text words) cards) ≡ map (card_hash text words) (drop n cards)
drop_hash text words zero cards = refl
drop_hash text words (suc n) [] = refl
drop_hash text words (suc n) (x ∷ xs) = drop_hash text words n xs

module _ (text words cards hashes : List ℕ) (card hash : ℕ) (are : hashes ≡ map (card_hash text words) cards) (is : hash ≡ card_hash text words card) where
  search_differ : (i : ℕ) → i < length cards → (get_or hashes i 0 ≡ hash → ⊥) → same_cards text words card (get_or cards i 0) ≡ false
  unfolding same_cards card_hash
  search_differ i h d =
      hashes_differ _ _
      (λ e. d (ap (λ (l : List ℕ). get_or l i 0) are ∙ get_d_hash text words cards i h ∙ sym e ∙ sym is))

  -- A search that begins later finds the same where none before has the hash.
  pub search_from : (from : ℕ) → from ≤ length cards → ((j : ℕ) → j < from → get_or hashes j 0 ≡ hash → ⊥) →
      entry_of (find (same_cards text words card) cards) ≡ entry_of (find (same_cards text words card) (drop from cards))
  search_from zero h d = refl
  search_from (suc n) h d =
      search_from n (omega arith) (λ j l. d j (omega arith))
      ∙ search_miss text words cards card n h (search_differ n h (d n (omega arith)))
      ∙ ap (λ (k : ℕ). entry_of (find (same_cards text words card) (drop k cards))) (add-one n)

-- ---- The part that is searched.

part_taken : (from count : ℕ) (xs : List ℕ) → from ≤ count → from ≤ length xs → drop from (take count xs) ≡ take (count - from) (drop from xs)
part_taken from count xs h l =
    let e : from + (count - from) ≡ count = omega arith in
    ap (λ (n : ℕ). drop from (take n xs)) (sym e)
    ∙ ap (drop from) (take-add from (count - from) xs)
    ∙ drop_at (take from xs) (take (count - from) (drop from xs)) from (length-take-le from xs l)

-- Of the cards in arrays that grow.
module _ (text words : List ℕ) (f : FirstCards) (p : FirstsAre text words f) (from : ℕ) (most : from ≤ f.len) where
  cards_part : drop from (cards_of f) ≡ take (f.len - from) (drop from f.cards.now)
  cards_part = part_taken from f.len f.cards.now most (omega (arith, p.len_most, p.cards_room))

  hashes_part : drop from (hashes_of f) ≡ take (f.len - from) (drop from f.hashes.now)
  hashes_part = part_taken from f.len f.hashes.now most (omega (arith, p.len_most, p.hashes_room))

  pub hashes_of_part : take (f.len - from) (drop from f.hashes.now) ≡ map (card_hash text words) (take (f.len - from) (drop from f.cards.now))
  hashes_of_part =
      rw (sym cards_part, sym hashes_part) (ap (drop from) p.hashes_are ∙ drop_hash text words from (cards_of f))

  -- What is sought among all is found in the part.
  pub part_has : (card hash : ℕ) → hash ≡ card_hash text words card → from ≤ get_or f.buckets.now (hash % length f.buckets.now) 0 →
      entry_of (find (same_cards text words card) (cards_of f)) ≡ entry_of (find (same_cards text words card) (take (f.len - from) (drop from f.cards.now)))
  part_has card hash is hint =
      let cards_long = length-take-le f.len f.cards.now (omega (arith, p.len_most, p.cards_room)) in
      let hashes_long = length-take-le f.len f.hashes.now (omega (arith, p.len_most, p.hashes_room)) in
      search_from text words (cards_of f) (hashes_of f) card hash p.hashes_are is from (omega arith)
      (λ j l. hint_passed (hashes_of f) f.buckets.now p.hinted hash from hint j l (omega arith))
      ∙ ap (λ (xs : List ℕ). entry_of (find (same_cards text words card) xs)) cards_part

-- Of the known cards, all of which are searched from there on.
pub rest_taken : (from : ℕ) (xs : List ℕ) → take (length xs - from) (drop from xs) ≡ drop from xs
rest_taken from xs = ap (λ (n : ℕ). take n (drop from xs)) (sym (length-drop from xs)) ∙ take-length (drop from xs)

module _ (text words : List ℕ) (k : KnownCards) (p : KnownAre text words k) where
  pub known_beside : length k.hashes.now ≡ length k.cards.now
  known_beside = ap length p.hashes_are ∙ length-map k.cards.now (card_hash text words)

  module _ (from : ℕ) (most : from ≤ length k.cards.now) where
    pub hashes_of_rest : drop from k.hashes.now ≡ map (card_hash text words) (drop from k.cards.now)
    hashes_of_rest = ap (drop from) p.hashes_are ∙ drop_hash text words from k.cards.now

    pub rest_has : (card hash : ℕ) → hash ≡ card_hash text words card → from ≤ get_or k.buckets.now (hash % length k.buckets.now) 0 →
        entry_of (find (same_cards text words card) k.cards.now) ≡ entry_of (find (same_cards text words card) (drop from k.cards.now))
    rest_has card hash is hint =
        search_from text words k.cards.now k.hashes.now card hash p.hashes_are is from most
        (λ j l. hint_passed k.hashes.now k.buckets.now p.hinted hash from hint j l (omega (arith, known_beside)))

-- What an array of first cards has known is what a search asks.
pub firsts_known : (text words : List ℕ) (f : FirstCards) → FirstsAre text words f → (k : KnownCards) → k.cards.now ≡ cards_of f →
    k.hashes.now ≡ hashes_of f → k.buckets.now ≡ f.buckets.now → KnownAre text words k
firsts_known text words f p k c h b = record { hashes_are = rw (c, h) p.hashes_are; hinted = rw (h, b) p.hinted }

pub occupied : (o : Option ℕ) (d : ℕ) → Some d ≡ entry_of o → o ≡ some d
occupied (some x) d e = let q : x ≡ d = cc in ap some q
occupied none d e = absurd (let z : ◌≡◌ {A = ℕ} 0 1 = cc in omega arith)

pub vacant : (o : Option ℕ) → None ≡ entry_of o → o ≡ none
vacant (some x) e = absurd (let z : ◌≡◌ {A = ℕ} 0 1 = cc in omega arith)
vacant none e = refl

-- As many hashes as there are cards.
pub firsts_hashed : (text words : List ℕ) (f : FirstCards) → FirstsAre text words f → take (length (cards_of f)) f.hashes.now ≡ map (card_hash text words) (cards_of f)
firsts_hashed text words f p = rw (length-take-le f.len f.cards.now (omega (arith, p.len_most, p.cards_room))) p.hashes_are

-- One step more in the same slices.
pub same_on : (a b : FirstCards) → SameSlices a b → (c : FirstCards) → SameSlices b c → SameSlices a c
same_on a b s c t = record {
  same_cards = t.same_cards ∙ s.same_cards;
  same_hashes = t.same_hashes ∙ s.same_hashes;
  same_buckets = t.same_buckets ∙ s.same_buckets;
}

-- ---- A card that comes to the first ones.

module _ (text words : List ℕ) (f : FirstCards) (card : ℕ) where
  module _ (d : ℕ) (e : Some d ≡ entry_of (find (same_cards text words card) (cards_of f))) where
    pub first_kept : d ≡ first_entered (same_cards text words) card (cards_of f)
    unfolding first_entered
    first_kept = rw (occupied (find (same_cards text words card) (cards_of f)) d e) refl

    pub cards_kept : cards_of f ≡ entered_in (same_cards text words) card (cards_of f)
    unfolding entered_in
    cards_kept = rw (occupied (find (same_cards text words card) (cards_of f)) d e) refl

  module _ (e : None ≡ entry_of (find (same_cards text words card) (cards_of f))) where
    pub first_new : card ≡ first_entered (same_cards text words) card (cards_of f)
    unfolding first_entered
    first_new = rw (vacant (find (same_cards text words card) (cards_of f)) e) refl

    pub cards_new : FirstsAre text words f → f.len < cards_used_of words →
        take (f.len + 1) (set f.cards.now f.len card) ≡ entered_in (same_cards text words) card (cards_of f)
    unfolding entered_in
    cards_new p room =
        rw (vacant (find (same_cards text words card) (cards_of f)) e)
        (rw add-one (take-suc-set f.cards.now f.len card (omega (arith, p.cards_room))))

-- The hashes and the buckets then.
pub firsts_new : (text words : List ℕ) (f : FirstCards) (card hash from : ℕ) → FirstsAre text words f → f.len < cards_used_of words →
    hash ≡ card_hash text words card → from ≤ f.len → from ≤ get_or f.buckets.now (hash % length f.buckets.now) 0 → (f' : FirstCards) →
    f'.cards.now ≡ set f.cards.now f.len card → f'.hashes.now ≡ set f.hashes.now f.len hash →
    f'.buckets.now ≡ set f.buckets.now (hash % length f.buckets.now) from → f'.len ≡ f.len + 1 → FirstsAre text words f'
firsts_new text words f card hash from p room is most hint f' c h b l =
    let long = length-take-le f.len f.hashes.now (omega (arith, p.len_most, p.hashes_room)) in
    let more : cards_of f' ≡ cards_of f ++ (card ∷ []) =
    rw (c, l) (rw add-one (take-suc-set f.cards.now f.len card (omega (arith, p.cards_room)))) in
    let hashed : hashes_of f' ≡ hashes_of f ++ (hash ∷ []) =
    rw (h, l) (rw add-one (take-suc-set f.hashes.now f.len hash (omega (arith, p.hashes_room)))) in
    record {
      hashes_are =
          hashed
          ∙ ap (λ (l : List ℕ). l ++ (hash ∷ [])) p.hashes_are
          ∙ ap (λ (n : ℕ). map (card_hash text words) (cards_of f) ++ (n ∷ [])) is
          ∙ sym (map_append (card_hash text words) (cards_of f) (card ∷ []))
          ∙ ap (map (card_hash text words)) (sym more);
      hinted = rw (hashed, b) (hint_more (hashes_of f) f.buckets.now p.hinted hash from hint (omega arith));
      len_most = omega arith;
      cards_room = omega (arith, ap length c, length-set f.cards.now f.len card, p.cards_room);
      hashes_room = omega (arith, ap length h, length-set f.hashes.now f.len hash, p.hashes_room);
    }

-- None yet.
pub firsts_none : (text words : List ℕ) (f : FirstCards) → f.len ≡ 0 → 0 < length f.buckets.now → cards_used_of words ≤ length f.cards.now →
    cards_used_of words ≤ length f.hashes.now → FirstsAre text words f
firsts_none text words f e slots cards hashes = record {
  hashes_are = rw e refl;
  hinted = rw e (hint_none f.buckets.now slots);
  len_most = omega arith;
  cards_room = cards;
  hashes_room = hashes;
}
