-- How the documents of a sound store lie in its text and among its cards.
use mathlib.Core.Path.{◌≡◌, refl}
use mathlib.Core.List.{List, [], ◌∷◌}
use mathlib.Core.Bool.{true, false}
use mathlib.Core.Option.{Option, none, some}
use Prim.Native.Nat.{ℕ, ◌+◌, ◌≤◌}
use native.Mathlib.Omega.{arith}
use lib.ListN.{length, take, drop, length-drop}
use borrow.Author.Tests.{eqb-true}
use Rattle.definition.specs.declared.Answer.{Answer}
use Rattle.definition.specs.Lists.{found}
use Rattle.definition.specs.Cards.{Card, card_words, card_from, cards_from, card_fault, fault_from}
use Rattle.definition.specs.Store.{DocumentRow, cards_at, text_used_of, cards_used_of, document_rows, stored_cards}
use Rattle.definition.specs.Store.{rows_touch, cards_counted, cards_sound, sound}
use Rattle.store_reader.proofs.Lists.{length_chunks}
use Rattle.store_reader.proofs.Sound.{sounds, rows_held, touch_step, counted_step, touch_le, counted_le}

pub length_stored_cards : (words : List ℕ) → length (stored_cards words) ≡ cards_used_of words
unfolding stored_cards cards_from
length_stored_cards words = length_chunks card_words card_from (cards_used_of words) (drop cards_at words)

-- ---- Row by row.

-- One row, where the rows before it came to `at` bytes and cs are the cards that they left.
pub record LaidRow (text : List ℕ) (used at : ℕ) (r : DocumentRow) (cs : List Card) : Type 0 where
  pub begins : r.text_at ≡ at
  pub ends : at + r.text_len ≤ used
  pub enough : r.card_count ≤ length cs
  pub fine : fault_from text r.text_at r.text_len 0 none none (take r.card_count cs) ≡ none

abbrev pub Laid : List ℕ → ℕ → ℕ → List DocumentRow → List Card → Type 0
Laid text used at [] cs = cs ≡ []
Laid text used at (r ∷ rs) cs = LaidRow text used at r cs × Laid text used (at + r.text_len) rs (drop r.card_count cs)

faultless_step : (text : List ℕ) (r : DocumentRow) (rs : List DocumentRow) (cs : List Card) → cards_sound text (r ∷ rs) cs ≡ true →
    (fault_from text r.text_at r.text_len 0 none none (take r.card_count cs) ≡ none) × (cards_sound text rs (drop r.card_count cs) ≡ true)
unfolding cards_sound card_fault
faultless_step text r rs cs e = go (fault_from text r.text_at r.text_len 0 none none (take r.card_count cs)) e
  where
    go : (o : Option Answer) → found o (λ f. false) (cards_sound text rs (drop r.card_count cs)) ≡ true →
        (o ≡ none) × (cards_sound text rs (drop r.card_count cs) ≡ true)
    go none e = (refl, e)
    go (some f) e = (cc, cc)

no_cards : (cs : List Card) → length cs ≡ 0 → cs ≡ []
no_cards [] e = refl
no_cards (c ∷ cs) e = absurd (omega arith)

laid_of : (text : List ℕ) (used at all n : ℕ) (rs : List DocumentRow) (cs : List Card) → rows_touch used at rs ≡ true → cards_counted all n rs ≡ true →
    cards_sound text rs cs ≡ true → n + length cs ≡ all → Laid text used at rs cs
laid_of text used at all n [] cs t k f l = let h : n ≡ all = eqb-true n all (unfold cards_counted in k) in no_cards cs (omega arith)
laid_of text used at all n (r ∷ rs) cs t k f l =
    let t1 = touch_step used at r rs t in
    let k1 = counted_step all n r rs k in
    let f1 = faultless_step text r rs cs f in
    let te = touch_le used (at + r.text_len) rs t1.1 in
    let ke = counted_le all (n + r.card_count) rs k1 in
    let ld = length-drop r.card_count cs in (
      record { begins = t1.0; ends = te; enough = omega arith; fine = f1.0 },
      laid_of text used (at + r.text_len) all (n + r.card_count) rs (drop r.card_count cs) t1.1 k1 f1.1 (omega arith),
    )

pub laid : (text words : List ℕ) → sound text words ≡ true → Laid text (text_used_of words) 0 (document_rows words) (stored_cards words)
laid text words e =
    let s = sounds text words e in
    let r = rows_held words s.rows in
    laid_of text (text_used_of words) 0 (cards_used_of words) 0 (document_rows words) (stored_cards words) r.touch r.counted s.cards
    (let l = length_stored_cards words in omega arith)
