-- The walk that lists the headings, and where the headings stand.
use mathlib.Core.Path.{◌≡◌, refl, sym, ◌∙◌, ap}
use mathlib.Core.List.{List, [], ◌∷◌, ◌++◌, map, append_assoc, append-nil}
use mathlib.Core.Bool.{Bool, true, false}
use Prim.Native.Nat.{ℕ, zero, suc, ◌+◌, ◌≤◌, ◌<◌}
use native.Mathlib.Omega.{arith}
use lib.Dec.{ltb}
use borrow.Author.Tests.{ltb-true, ltb-false}
use lib.ListN.{get_or-append, length, get_or}
use lib.Seq.{length-take-le, drop-length}
use Rattle.definition.specs.Cards.{is_part}
use Rattle.definition.specs.Headings.{NamedCard, Heading}
use Rattle.definition.specs.Store.{cards_used_of}
use Rattle.store_reader.specs.Stored.{card_kind, card_at, stored_parts, stored_headings, stored_headings_from, heading_at, parts_from, next_heading}
use Rattle.store_reader.proofs.Group.{parts_later}
use Rattle.store_reader.proofs.Words.{headings_start, headings_next, headings_skip, headings_end, next_stored, next_after, next_inside, parts_next}
use Rattle.from_ast_index.specs.Index.{heading_number, Hashed, Cards}
use Rattle.word_list.specs.Listed.{listed_in}
use Rattle.word_list.specs.declared.WordList.{WordList}
use Rattle.from_ast_indexing.specs.Steps.{HeadingsAre}

-- ---- The walk.

-- The headings before the card i are listed, and i is the next one or the end.
pub record HeadingsSoFar (words : List ℕ) (list : WordList) (i : ℕ) : Type 0 where
  pub so_far : (text : List ℕ) → listed_in list ++ map heading_number (stored_headings_from text words i) ≡ map heading_number (stored_headings text words)
  pub heading : i < cards_used_of words → is_part (card_kind words i) ≡ false
  pub len_most : list.len ≤ i
  pub inside : i ≤ cards_used_of words
  pub room : cards_used_of words ≤ length list.words.now

-- What follows a heading's parts is a heading.
pub next_headings : (words : List ℕ) (i : ℕ) → i < cards_used_of words → next_heading words i < cards_used_of words →
    is_part (card_kind words (next_heading words i)) ≡ false
next_headings words i h n = go (is_part (card_kind words (next_heading words i))) refl
  where
    cs : List NamedCard
    cs = stored_parts [] words

    empty : parts_from cs (next_heading words i) ≡ []
    empty =
        ap (parts_from cs) (next_stored words i [] h)
        ∙ parts_later cs (i + 1) (length (parts_from cs (i + 1))) (omega arith)
        ∙ drop-length (parts_from cs (i + 1))

    go : (b : Bool) → is_part (card_kind words (next_heading words i)) ≡ b → is_part (card_kind words (next_heading words i)) ≡ false
    go true e =
        absurd (let q : card_at [] words (next_heading words i) ∷ parts_from cs (next_heading words i + 1) ≡ [] =
        sym (parts_next [] words (next_heading words i) n e) ∙ empty in
        let z : ◌≡◌ {A = ℕ} 0 1 = cc in omega arith)
    go false e = e

pub headings_begin : (words : List ℕ) (list : WordList) → list.len ≡ 0 → cards_used_of words ≤ length list.words.now →
    (0 < cards_used_of words → is_part (card_kind words 0) ≡ false) → HeadingsSoFar words list 0
headings_begin words list e room headed = rw e (record {
  so_far = λ text. ap (map heading_number) (sym (headings_start text words));
  heading = headed;
  len_most = omega arith;
  inside = omega arith;
  room = room;
})

number_at : (text words : List ℕ) (i : ℕ) → heading_number (heading_at text words i) ≡ i
unfolding heading_number
number_at text words i = refl

module _ (words : List ℕ) (list : WordList) (i : ℕ) (s : HeadingsSoFar words list i) where
  pub headings_turn : i < cards_used_of words → (list' : WordList) → listed_in list' ≡ listed_in list ++ (i ∷ []) →
      list'.len ≡ list.len + 1 → length list'.words.now ≡ length list.words.now →
      HeadingsSoFar words list' (next_heading words i)
  headings_turn h list' e l k = record {
    so_far = λ text.
        let rest : List ℕ = map heading_number (stored_headings_from text words (next_heading words i)) in
        ap (λ (l : List ℕ). l ++ rest) e
        ∙ append_assoc (listed_in list) (i ∷ []) rest
        ∙ ap (λ (n : ℕ). listed_in list ++ (n ∷ rest)) (sym (number_at text words i))
        ∙ ap (λ (l : List Heading). listed_in list ++ map heading_number l) (sym (headings_next text words i h (s.heading h)))
        ∙ s.so_far text;
    heading = next_headings words i h;
    len_most = omega (arith, s.len_most, next_after words i h);
    inside = next_inside words i;
    room = omega (arith, s.room);
  }

  pub headings_done : cards_used_of words ≤ i → HeadingsAre words (listed_in list)
  headings_done h = record {
    headings_are = λ text.
        sym (append-nil (listed_in list))
        ∙ ap (λ (l : List Heading). listed_in list ++ map heading_number l) (sym (headings_end text words i h))
        ∙ s.so_far text;
    headings_most = omega (arith, s.len_most, s.inside, length-take-le list.len list.words.now (omega (arith, s.len_most, s.inside, s.room)));
  }

-- ---- Where the headings stand: each is followed by the next heading, the last one by the end.

pub next_number : List ℕ → List ℕ → ℕ
next_number words [] = cards_used_of words
next_number words (x ∷ xs) = x

pub Chain : List ℕ → List ℕ → Type 0
Chain words [] = Unit {0}
Chain words (x ∷ xs) = (x < cards_used_of words) × (next_number words xs ≡ next_heading words x) × Chain words xs

module _ (text words : List ℕ) where
  next_number_lem : (i : ℕ) → i < cards_used_of words → next_number words (map heading_number (stored_headings_from text words (next_heading words i))) ≡ next_heading words i
  unfolding next_number
  next_number_lem i h = go (ltb (next_heading words i) (cards_used_of words)) refl
    where
      go : (b : Bool) → ltb (next_heading words i) (cards_used_of words) ≡ b →
          next_number words (map heading_number (stored_headings_from text words (next_heading words i))) ≡ next_heading words i
      go true e =
          let l = ltb-true _ _ e in
          ap (λ (hs : List Heading). next_number words (map heading_number hs)) (headings_next text words (next_heading words i) l (next_headings words i h l))
          ∙ number_at text words (next_heading words i)
      go false e =
          let l = ltb-false _ _ e in
          ap (λ (hs : List Heading). next_number words (map heading_number hs)) (headings_end text words (next_heading words i) l)
          ∙ (let n = next_inside words i in omega arith)

  chain_from : (fuel i : ℕ) → cards_used_of words ≤ i + fuel → Chain words (map heading_number (stored_headings_from text words i))
  unfolding Chain
  chain_from zero i h = rw (headings_end text words i (omega arith)) tt
  chain_from (suc fuel) i h =
      go (ltb i (cards_used_of words)) (is_part (card_kind words i)) refl refl (chain_from fuel (i + 1) (omega arith)) (λ m l. chain_from fuel m l)
    where
      go : (a b : Bool) → ltb i (cards_used_of words) ≡ a → is_part (card_kind words i) ≡ b →
          Chain words (map heading_number (stored_headings_from text words (i + 1))) →
          ((m : ℕ) → cards_used_of words ≤ m + fuel → Chain words (map heading_number (stored_headings_from text words m))) →
          Chain words (map heading_number (stored_headings_from text words i))
      go false b e p r s = rw (headings_end text words i (ltb-false _ _ e)) tt
      go true true e p r s = rw (headings_skip text words i (ltb-true _ _ e) p) r
      go true false e p r s =
          let l = ltb-true _ _ e in
          let a = next_after words i l in
          rw (headings_next text words i l p)
          (rw (number_at text words i) (l, next_number_lem i l, s (next_heading words i) (omega arith)))

  pub headings_chain : Chain words (map heading_number (stored_headings text words))
  headings_chain = rw (headings_start text words) (chain_from (cards_used_of words) 0 (omega arith))

module _ (words : List ℕ) where
  pub chain_stored : (xs : List ℕ) → Chain words xs → (k : ℕ) → k < length xs → get_or xs k 0 < cards_used_of words
  unfolding Chain
  chain_stored [] c k h = absurd (omega arith)
  chain_stored (x ∷ xs) c zero h = c.0
  chain_stored (x ∷ xs) c (suc k) h = chain_stored xs c.2 k (omega arith)

  pub chain_next : (xs : List ℕ) → Chain words xs → (k : ℕ) → k < length xs → get_or (xs ++ (cards_used_of words ∷ [])) (suc k) 0 ≡ next_heading words (get_or xs k 0)
  unfolding Chain next_number
  chain_next [] c k h = absurd (omega arith)
  chain_next (x ∷ []) c zero h = c.1
  chain_next (x ∷ []) c (suc k) h = absurd (omega arith)
  chain_next (x ∷ (y ∷ xs)) c zero h = c.1
  chain_next (x ∷ (y ∷ xs)) c (suc k) h = chain_next (y ∷ xs) c.2 k (omega arith)

  chain_step : (xs : List ℕ) → Chain words xs → (k : ℕ) → suc k < length xs → get_or xs k 0 < get_or xs (suc k) 0
  chain_step xs c k h =
      let n = chain_next xs c k (omega arith) in
      let i = get_or-append xs (cards_used_of words ∷ []) 0 (suc k) h in
      let a = next_after words (get_or xs k 0) (chain_stored xs c k (omega arith)) in
      omega arith

  pub chain_rising : (xs : List ℕ) → Chain words xs → (i j : ℕ) → i < j → j < length xs → get_or xs i 0 < get_or xs j 0
  chain_rising xs c i zero l h = absurd (omega arith)
  chain_rising xs c i (suc j) l h = go (ltb i j) refl (λ l'. chain_rising xs c i j l' (omega arith))
    where
      go : (b : Bool) → ltb i j ≡ b → (i < j → get_or xs i 0 < get_or xs j 0) → get_or xs i 0 < get_or xs (suc j) 0
      go true e f = let a = f (ltb-true i j e) in let s = chain_step xs c j h in omega arith
      go false e f =
          let same : i ≡ j = (let n = ltb-false i j e in omega arith) in
          rw same (chain_step xs c j h)

-- The list of all headings, with the hashes of their names at hand.
pub cards_ready : (text words hashes headings : List ℕ) → Hashed text words hashes → HeadingsAre words headings → Cards text words hashes headings
cards_ready text words hashes headings p is = rw (is.headings_are text) (record {
  hashed = p;
  stored = chain_stored words (map heading_number (stored_headings text words)) (headings_chain text words);
  rising = chain_rising words (map heading_number (stored_headings text words)) (headings_chain text words);
  few = rw (is.headings_are text) at is.headings_most;
})
