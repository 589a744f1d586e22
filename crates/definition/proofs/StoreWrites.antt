-- Which words and bytes of a store an accepted opening, an accepted filing and turning on write: all others are as they were.
use mathlib.Core.Path.{◌≡◌, refl, sym, ◌∙◌, ap}
use mathlib.Core.List.{List, [], ◌∷◌, ◌++◌, map}
use mathlib.Core.Bool.{Bool, true, false, ◌&&◌, ◌||◌}
use mathlib.Core.Option.{none}
use Prim.Native.Nat.{ℕ, ◌+◌, ◌-◌, ◌*◌, ◌≤◌, ◌<◌}
use native.Mathlib.Omega.{arith}
use lib.Dec.{eqb, leb, ltb}
use lib.ListN.{length, take, drop, get_or, set, length-map, length-set, get_or-append}
use lib.Seq.{sets, sets-eq, length-sets, length-paste, length_paste_head, length-take-le, take-length, get_or-append-add, get_or-take, get_or-drop, get_or-set_other}
use borrow.Author.Tests.{leb-false, ltb-false, eqb-false}
use Rattle.definition.specs.Lists.{choose, written}
use Rattle.definition.specs.Answers.{answer}
use Rattle.definition.specs.Cards.{Card, card_words}
use Rattle.definition.specs.Headings.{Document}
use Rattle.definition.specs.Refusals.{text_capacity, card_capacity, document_capacity, document, opening_refusal, filing_refusal}
use Rattle.definition.specs.Store.{documents_at, document_words, cards_at, words_capacity, document_count, text_used_of, cards_used_of, account_in, too_short}
use Rattle.definition.specs.Store.{store_refusal, moved, moved_words, opened_text, opened_words, filed_row, filed_counts, filed_words, filed_text, adopting_words}
use Rattle.definition.specs.Store.{ignoring_words}
use Rattle.definition.specs.Outcomes.{unchanged, accepted, open_store, add_ast, turned, adopt_orphan_extensions, ignore_builtin_redefinitions}
use Rattle.definition.specs.Demands.{SameBut, places, filed_places, opened_places, FilingWrites, OpeningWrites, TurningWrites}
use Rattle.definition.proofs.Tests.{or_false}
use Rattle.definition.proofs.StoreLayout.{length_words, text_held_joined, cards_held_joined, text_held_nil, cards_held_nil}
use Rattle.definition.proofs.StoreHolds.{count_held, text_held_lem, cards_held_lem}
use Rattle.definition.proofs.StoreSound.{unrefused_holds}
use Rattle.definition.proofs.Admitted.{opening_admits, filing_admits}
use Rattle.definition.proofs.RefusalNumbers.{opening_accepted, filing_accepted}

-- ---- Lists that differ at written places alone.

same : (p : ℕ → Bool) (xs : List ℕ) → SameBut p xs xs
same p xs = (refl, λ i e. refl)

then : (p q : ℕ → Bool) (xs ys zs : List ℕ) → SameBut p xs ys → SameBut q ys zs → SameBut (λ i. p i || q i) xs zs
then p q xs ys zs a b = (b.0 ∙ a.0, λ i e. let o = or_false (p i) (q i) e in b.1 i o.1 ∙ a.1 i o.0)

same_set : (xs : List ℕ) (k v : ℕ) → SameBut (λ i. eqb i k) xs (set xs k v)
same_set xs k v = (length-set xs k v, λ i e. get_or-set_other xs k i v 0 (eqb-false i k e))

same_written : (xs ys : List ℕ) (at n : ℕ) → length ys ≡ n → at + n ≤ length xs → SameBut (places at n) xs (written xs at ys)
unfolding written places
same_written xs ys at n e h = (length-paste xs at ys (length ys) (omega arith) (omega arith), λ i p. go i (leb at i) refl p)
  where
    length_front : length (take at xs ++ take (length ys) ys) ≡ at + length ys
    length_front = length_paste_head xs at ys (length ys) (omega arith) (omega arith)

    low : (i : ℕ) → i < at → get_or (take at xs ++ take (length ys) ys ++ drop (at + length ys) xs) i 0 ≡ get_or xs i 0
    low i l =
        get_or-append (take at xs ++ take (length ys) ys) (drop (at + length ys) xs) 0 i (omega (arith, length_front))
        ∙ get_or-append (take at xs) (take (length ys) ys) 0 i (omega (arith, length-take-le at xs (omega arith)))
        ∙ get_or-take at xs i 0 l

    high : (i : ℕ) → at + length ys ≤ i → get_or (take at xs ++ take (length ys) ys ++ drop (at + length ys) xs) i 0 ≡ get_or xs i 0
    high i l =
        let f = take at xs ++ take (length ys) ys in
        let m : length f ≡ at + length ys = length_front in
        let k : i ≡ length f + (i - (at + length ys)) = omega arith in
        let j : at + length ys + (i - (at + length ys)) ≡ i = omega arith in
        ap (λ x. get_or (f ++ drop (at + length ys) xs) x 0) k
        ∙ get_or-append-add f (drop (at + length ys) xs) (i - (at + length ys)) 0
        ∙ get_or-drop (at + length ys) xs (i - (at + length ys)) 0
        ∙ ap (λ x. get_or xs x 0) j

    go : (i : ℕ) (b : Bool) → leb at i ≡ b → (b && ltb i (at + n)) ≡ false →
        get_or (take at xs ++ take (length ys) ys ++ drop (at + length ys) xs) i 0 ≡ get_or xs i 0
    go i false q p = low i (leb-false at i q)
    go i true q p = let l = ltb-false i (at + n) p in high i (omega arith)

sets_are : (xs vs : List ℕ) (at : ℕ) → at + length vs ≤ length xs → sets xs at vs ≡ written xs at vs
unfolding written
sets_are xs vs at h = sets-eq vs xs at h ∙ ap (λ l. take at xs ++ l ++ drop (at + length vs) xs) (sym (take-length vs))

same_sets : (xs vs : List ℕ) (at n : ℕ) → length vs ≡ n → at + n ≤ length xs → SameBut (places at n) xs (sets xs at vs)
same_sets xs vs at n e h = rw (sets_are xs vs at (omega arith)) (same_written xs vs at n e h)

length_moved : (base : ℕ) (cs : List Card) → length (moved_words base cs) ≡ card_words * length cs
unfolding moved_words
length_moved base cs = length_words (map (moved base) cs) ∙ ap (λ n. card_words * n) (length-map cs (moved base))

-- ---- Outcomes of accepted calls.

pub opening_done : (text words lent ws : List ℕ) → too_short text words ≡ false → opening_refusal lent ws ≡ none →
    open_store text words lent ws ≡ accepted (opened_text text (document false lent ws)) (opened_words words (document false lent ws))
unfolding open_store
opening_done text words lent ws l e = rw (l, e)

pub filing_done : (text words lent ws : List ℕ) → store_refusal text words ≡ 0 → filing_refusal (account_in text words) lent ws ≡ none →
    add_ast text words lent ws ≡ accepted (filed_text text words (document false lent ws)) (filed_words words (document false lent ws))
unfolding add_ast
filing_done text words lent ws l e = rw (l, e)

pub turned_done : (text words on : List ℕ) → store_refusal text words ≡ 0 → turned text words on ≡ accepted text on
unfolding turned
turned_done text words on l = rw l

-- ---- What they write.

filed_words_lem : (words : List ℕ) (d : Document) → words_capacity ≤ length words → document_count words < document_capacity →
    cards_used_of words + length d.cards ≤ card_capacity →
    SameBut (filed_places words (length d.cards)) words (filed_words words d)
unfolding filed_words filed_counts filed_row filed_places
filed_words_lem words d long few capacity =
    let w0 = set words 0 (document_count words + 1) in
    let vs : List ℕ = (text_used_of words + length d.text) ∷ (cards_used_of words + length d.cards) ∷ [] in
    let w1 = sets w0 3 vs in
    let row = filed_row words d in
    let at = documents_at + document_words * document_count words in
    let w2 = sets w1 at row in
    let cards = moved_words (text_used_of words) d.cards in
    let l0 = length-set words 0 (document_count words + 1) in
    let l1 = length-sets w0 3 vs in
    let l2 = length-sets w1 at row in
    let s1 = then (λ i. eqb i 0) (places 3 2) words w0 w1 (same_set words 0 (document_count words + 1)) (same_sets w0 vs 3 2 refl (omega arith)) in
    let s2 = then (λ i. eqb i 0 || places 3 2 i) (places at document_words) words w1 w2 s1 (same_sets w1 row at document_words refl (omega arith)) in
    then (λ i. eqb i 0 || places 3 2 i || places at document_words i) (places (cards_at + card_words * cards_used_of words) (card_words * length d.cards)) words w2
    (filed_words words d) s2
    (same_written w2 cards (cards_at + card_words * cards_used_of words) (card_words * length d.cards) (length_moved (text_used_of words) d.cards) (omega arith))

opened_words_lem : (words : List ℕ) (d : Document) → words_capacity ≤ length words → length d.cards ≤ card_capacity →
    SameBut (opened_places (length d.cards)) words (opened_words words d)
unfolding opened_words opened_places
opened_words_lem words d long capacity =
    let vs : List ℕ = 1 ∷ 0 ∷ 0 ∷ length d.text ∷ length d.cards ∷ 0 ∷ length d.text ∷ length d.cards ∷ 0 ∷ [] in
    let w0 = sets words 0 vs in
    let l0 = length-sets words 0 vs in
    then (places 0 (documents_at + document_words)) (places cards_at (card_words * length d.cards)) words w0 (opened_words words d)
    (same_sets words vs 0 (documents_at + document_words) refl (omega arith))
    (same_written w0 (moved_words 0 d.cards) cards_at (card_words * length d.cards) (length_moved 0 d.cards) (omega arith))

pub filing_writes_lem : FilingWrites
unfolding accepted filed_text document
filing_writes_lem text words lent ws e =
    let q = filing_accepted text words lent ws e in
    let a = account_in text words in
    let d = document false lent ws in
    let h = unrefused_holds text words q.0 in
    let m = filing_admits a lent ws h.admitted q.1 in
    let n = count_held text words a.documents a.adopt a.ignore h in
    let t = text_held_lem text words a.documents a.adopt a.ignore h in
    let c = cards_held_lem text words a.documents a.adopt a.ignore h in
    let tj = text_held_joined a.documents (document a.ignore lent ws) in
    let cj = cards_held_joined a.documents (document a.ignore lent ws) in
    rw (filing_done text words lent ws q.0 q.1) (
      same_written text lent (text_used_of words) (length lent) refl (omega (arith, t, tj, m.1.text, h.text_long)),
      filed_words_lem words d h.words_long (omega (arith, n, m.0)) (omega (arith, c, cj, m.1.cards)),
    )

pub opening_writes_lem : OpeningWrites
unfolding accepted opened_text document too_short
opening_writes_lem text words lent ws e =
    let q = opening_accepted text words lent ws e in
    let l = or_false (ltb (length text) text_capacity) (ltb (length words) words_capacity) q.0 in
    let d = document false lent ws in
    let m = opening_admits lent ws q.1 in
    let tj = text_held_joined [] d in
    let cj = cards_held_joined [] d in
    let tn = text_held_nil in
    let cn = cards_held_nil in
    rw (opening_done text words lent ws q.0 q.1) (
      same_written text lent 0 (length lent) refl (omega (arith, tj, tn, m.text, ltb-false (length text) text_capacity l.0)),
      opened_words_lem words d (ltb-false _ _ l.1) (omega (arith, cj, cn, m.cards)),
    )

turned_writes : (text words : List ℕ) (k v : ℕ) → ((turned text words (set words k v)).text ≡ text) ×
    SameBut (λ i. eqb i k) words (turned text words (set words k v)).words
unfolding turned accepted unchanged
turned_writes text words k v = go (eqb (store_refusal text words) 0)
  where
    go : (b : Bool) →
        ((choose b (accepted text (set words k v)) (unchanged text words (answer (store_refusal text words) 0))).text ≡ text) ×
        SameBut (λ i. eqb i k) words (choose b (accepted text (set words k v)) (unchanged text words (answer (store_refusal text words) 0))).words
    go true = (refl, same_set words k v)
    go false = (refl, same (λ i. eqb i k) words)

pub turning_writes_lem : TurningWrites
unfolding adopt_orphan_extensions ignore_builtin_redefinitions adopting_words ignoring_words
turning_writes_lem text words =
    let a = turned_writes text words 1 1 in
    let b = turned_writes text words 2 1 in
    (a.0, a.1, b.0, b.1)
