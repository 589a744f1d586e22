-- Each stored card, and where its name stands.
use mathlib.Core.Path.{◌≡◌, refl, sym, ◌∙◌, ap}
use mathlib.Core.List.{List, [], ◌∷◌, map}
use mathlib.Core.Bool.{Bool, true, false, ◌||◌}
use mathlib.Core.Option.{none, some}
use Prim.Native.Nat.{ℕ, ◌+◌, ◌-◌, ◌≤◌, ◌<◌}
use native.Mathlib.Omega.{arith}
use lib.Dec.{eqb, ltb}
use lib.ListN.{length, take, drop, get_elem?, length-map, length-drop, take-append-drop}
use lib.Seq.{length-take-le}
use borrow.Author.Tests.{ltb-true, ltb-false}
use Rattle.definition.specs.Lists.{choose, All}
use Rattle.definition.specs.Names.{is_name, bytes_at}
use Rattle.definition.specs.Cards.{Card, is_heading, is_part, is_unnamed}
use Rattle.definition.specs.Headings.{Document}
use Rattle.definition.specs.Store.{DocumentRow, unmoved, stored_document, documents_from}
use Rattle.definition.specs.Lookups.{Span, span, span_in}
use Rattle.definition.proofs.CleanCards.{unnamed_parts}
use Rattle.store_reader.proofs.Lists.{all_append, all_get, all_to, get_past, get_take, get_drop, get_map}
use Rattle.store_reader.proofs.Fine.{Stands, fine_stands}
use Rattle.store_reader.proofs.Laid.{LaidRow, Laid}

-- ---- Each card.

-- A kind is known; a name is present in all kinds but 1, 4 and 11, and lies in the text used; a name that is present is a Name.
pub record Sound (text : List ℕ) (used : ℕ) (c : Card) : Type 0 where
  pub known : (is_heading c.kind || is_part c.kind) ≡ true
  pub named : (eqb c.kind 1 || eqb c.kind 4 || eqb c.kind 11) ≡ false → is_unnamed c ≡ false
  pub inside : c.name_at + c.name_len ≤ used
  pub name : is_unnamed c ≡ false → is_name (bytes_at text c.name_at c.name_len) ≡ true

sound_of : (text : List ℕ) (used base size : ℕ) (c : Card) → base + size ≤ used → Stands text base size c → Sound text used c
sound_of text used base size c h s = record { known = s.known; named = s.named; inside = go (is_unnamed c) refl; name = s.name }
  where
    go : (b : Bool) → is_unnamed c ≡ b → c.name_at + c.name_len ≤ used
    go true u = let q = unnamed_parts c u in omega arith
    go false u = let q = s.high u in omega arith

pub sound_cards : (text : List ℕ) (used at : ℕ) (rs : List DocumentRow) (cs : List Card) → Laid text used at rs cs → All (Sound text used) cs
sound_cards text used at [] cs l = rw l tt
sound_cards text used at (r ∷ rs) cs l =
    let k = r.card_count in
    let b = l.0.begins in
    let e = l.0.ends in
    let mine : All (Sound text used) (take k cs) =
    all_to (Stands text r.text_at r.text_len) (Sound text used) (λ c s. sound_of text used r.text_at r.text_len c (omega arith) s) (take k cs)
    (fine_stands text r.text_at r.text_len 0 none none (take k cs) l.0.fine) in
    let both = all_append (Sound text used) (take k cs) (drop k cs) mine (sound_cards text used (at + r.text_len) rs (drop k cs) l.1) in
    rw take-append-drop at both

-- ---- Spans.

span_here : (at : ℕ) (d : Document) (ds : List Document) (n : ℕ) (c : Card) → get_elem? d.cards n ≡ some c →
    span_in at (d ∷ ds) n ≡ span (at + c.name_at) c.name_len
unfolding span_in
span_here at d ds n c e = rw e

span_later : (at : ℕ) (d : Document) (ds : List Document) (n : ℕ) → get_elem? d.cards n ≡ none →
    span_in at (d ∷ ds) n ≡ span_in (at + length d.text) ds (n - length d.cards)
unfolding span_in
span_later at d ds n e = rw e

pub bytes_length : (text : List ℕ) (at size : ℕ) → at + size ≤ length text → length (bytes_at text at size) ≡ size
unfolding bytes_at
bytes_length text at size h = length-take-le size (drop at text) (let e = length-drop at text in omega arith)

-- A name that is present stands where its card says; of an absent one only the length is told.
pub record Standing (s : Span) (c : Card) : Type 0 where
  pub start : ℕ
  pub stands : s ≡ span start c.name_len
  pub same : is_unnamed c ≡ false → start ≡ c.name_at

standing_own : (at : ℕ) (c : Card) → (is_unnamed c ≡ false → at ≤ c.name_at) → Standing (span (at + (unmoved at c).name_at) (unmoved at c).name_len) c
unfolding unmoved
standing_own at c h = record {
  start = at + choose (is_unnamed c) c.name_at (c.name_at - at);
  stands = refl;
  same = λ u. let q : at ≤ c.name_at = h u in rw u (omega arith);
}

module _ (text : List ℕ) (used : ℕ) (long : used ≤ length text) where
  row_here : (at : ℕ) (r : DocumentRow) (rs : List DocumentRow) (cs : List Card) (n : ℕ) (c : Card) →
      get_elem? (map (unmoved r.text_at) (take r.card_count cs)) n ≡ some (unmoved r.text_at c) →
      span_in at (documents_from text (r ∷ rs) cs) n ≡ span (at + (unmoved r.text_at c).name_at) (unmoved r.text_at c).name_len
  unfolding documents_from stored_document
  row_here at r rs cs n c g =
      span_here at (stored_document text r (take r.card_count cs)) (documents_from text rs (drop r.card_count cs)) n (unmoved r.text_at c) g

  row_later : (at : ℕ) (r : DocumentRow) (rs : List DocumentRow) (cs : List Card) (n : ℕ) → LaidRow text used at r cs → r.card_count ≤ n →
      span_in at (documents_from text (r ∷ rs) cs) n ≡ span_in (at + r.text_len) (documents_from text rs (drop r.card_count cs)) (n - r.card_count)
  unfolding documents_from stored_document
  row_later at r rs cs n l h =
      let k = r.card_count in
      let mine = map (unmoved r.text_at) (take k cs) in
      let ds = documents_from text rs (drop k cs) in
      let b = l.begins in
      let e = l.ends in
      let len : length mine ≡ k = length-map (take k cs) (unmoved r.text_at) ∙ length-take-le k cs l.enough in
      let size : length (bytes_at text r.text_at r.text_len) ≡ r.text_len = bytes_length text r.text_at r.text_len (omega arith) in
      let past : get_elem? mine n ≡ none = get_past mine n (omega arith) in
      span_later at (stored_document text r (take k cs)) ds n past
      ∙ ap (λ (m : ℕ). span_in (at + m) ds (n - length mine)) size
      ∙ ap (λ (m : ℕ). span_in (at + r.text_len) ds (n - m)) len

  pub span_stands : (at : ℕ) (rs : List DocumentRow) (cs : List Card) (n : ℕ) (c : Card) → Laid text used at rs cs → get_elem? cs n ≡ some c →
      Standing (span_in at (documents_from text rs cs) n) c
  span_stands at [] cs n c l g =
      absurd (let q : none ≡ some c = ap (λ (l : List Card). get_elem? l n) (sym l) ∙ g in let z : ◌≡◌ {A = ℕ} 0 1 = cc in omega arith)
  span_stands at (r ∷ rs) cs n c l g =
      go (ltb n r.card_count) refl (span_stands (at + r.text_len) rs (drop r.card_count cs) (n - r.card_count) c l.1)
    where
      go : (b : Bool) → ltb n r.card_count ≡ b →
          (get_elem? (drop r.card_count cs) (n - r.card_count) ≡ some c →
          Standing (span_in (at + r.text_len) (documents_from text rs (drop r.card_count cs)) (n - r.card_count)) c) →
          Standing (span_in at (documents_from text (r ∷ rs) cs) n) c
      go true t later =
          let k = r.card_count in
          let h : n < k = ltb-true n k t in
          let b = l.0.begins in
          let g1 : get_elem? (take k cs) n ≡ some c = get_take cs k n h ∙ g in
          let g2 = get_map (unmoved r.text_at) (take k cs) n c g1 in
          let s = all_get (Stands text r.text_at r.text_len) (take k cs)
          (fine_stands text r.text_at r.text_len 0 none none (take k cs) l.0.fine) n c g1 in
          let e : span_in at (documents_from text (r ∷ rs) cs) n ≡ span (at + (unmoved at c).name_at) (unmoved at c).name_len =
          row_here at r rs cs n c g2 ∙ ap (λ (j : ℕ). span (at + (unmoved j c).name_at) (unmoved j c).name_len) b in
          rw e (standing_own at c (λ u. let q = s.low u in omega arith))
      go false t later =
          let k = r.card_count in
          let h : k ≤ n = ltb-false n k t in
          let e : k + (n - k) ≡ n = omega arith in
          let g1 : get_elem? (drop k cs) (n - k) ≡ some c = get_drop cs k (n - k) ∙ ap (get_elem? cs) e ∙ g in
          rw (row_later at r rs cs n l.0 h) (later g1)

  pub span_none : (at : ℕ) (rs : List DocumentRow) (cs : List Card) (n : ℕ) → Laid text used at rs cs → length cs ≤ n →
      span_in at (documents_from text rs cs) n ≡ span 0 0
  span_none at [] cs n l h = unfold documents_from span_in in refl
  span_none at (r ∷ rs) cs n l h =
      let e = l.0.enough in
      let d = length-drop r.card_count cs in
      row_later at r rs cs n l.0 (omega arith)
      ∙ span_none (at + r.text_len) rs (drop r.card_count cs) (n - r.card_count) l.1 (omega arith)
