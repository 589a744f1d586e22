-- What a store's cards are, read in the store's text, is what its documents' cards are, read in their own texts.
use mathlib.Core.Path.{◌≡◌, refl, sym, ◌∙◌, ap}
use mathlib.Core.List.{List, [], ◌∷◌, ◌++◌, map}
use mathlib.Core.Bool.{Bool, true, false, ◌||◌}
use mathlib.Core.Option.{Option, none, some}
use Prim.Native.Nat.{ℕ, zero, suc, ◌+◌, ◌-◌, ◌≤◌, ◌<◌}
use native.Mathlib.Nat.{add-sub_cancel_left}
use native.Mathlib.Omega.{arith}
use lib.Dec.{eqb, ltb}
use lib.ListN.{length, take, drop, get_elem?, length-map, take-append-drop}
use lib.Seq.{length-take-le}
use borrow.Author.Tests.{lt-ltb, le-ltb}
use Rattle.definition.specs.Lists.{choose, found, All}
use Rattle.definition.specs.Names.{bytes_at}
use Rattle.definition.specs.Cards.{Card, is_heading, is_part, is_unnamed, definition_of, part_order, place_in, fault_from}
use Rattle.definition.specs.Headings.{NamedCard, Heading, name_of, named_card, heading_from, group, headings_from}
use Rattle.definition.specs.Store.{DocumentRow, unmoved, stored_document, documents_from}
use Rattle.definition.specs.LentRows.{cards_named, held_from}
use Rattle.definition.proofs.CleanCards.{Clean, unnamed_parts, clean_part, clean_heading}
use Rattle.store_reader.specs.Stored.{ignored_in, heading_with, headings_of}
use Rattle.store_reader.proofs.Lists.{all_append, bytes_within, bytes_none}
use Rattle.store_reader.proofs.Fine.{Stands, fine_stands, part_placed, no_heading}
use Rattle.store_reader.proofs.Laid.{LaidRow, Laid}
use Rattle.store_reader.proofs.Group.{headings_part, headings_heading, headings_append}

-- ---- Cards with their names.

pub named_length : (text : List ℕ) (n : ℕ) (cs : List Card) → length (cards_named text n cs) ≡ length cs
unfolding cards_named
named_length text n [] = refl
named_length text n (c ∷ cs) = ap suc (named_length text (n + 1) cs)

pub named_append : (text : List ℕ) (n : ℕ) (cs es : List Card) → cards_named text n (cs ++ es) ≡ cards_named text n cs ++ cards_named text (n + length cs) es
unfolding cards_named
named_append text n [] es = let e : n + 0 ≡ n = omega arith in ap (λ (m : ℕ). cards_named text m es) (sym e)
named_append text n (c ∷ cs) es =
    let e : n + 1 + length cs ≡ n + suc (length cs) = omega arith in
    ap (λ (l : List NamedCard). named_card text n c ∷ l)
    (named_append text (n + 1) cs es ∙ ap (λ (m : ℕ). cards_named text (n + 1) cs ++ cards_named text m es) e)

pub named_get : (text : List ℕ) (n : ℕ) (cs : List Card) (i : ℕ) (c : Card) → get_elem? cs i ≡ some c →
    get_elem? (cards_named text n cs) i ≡ some (named_card text (n + i) c)
unfolding cards_named
named_get text n [] i c e = absurd (let z : ◌≡◌ {A = ℕ} 0 1 = cc in omega arith)
named_get text n (x ∷ cs) zero c e =
    let same : x ≡ c = cc in
    let q : n ≡ n + 0 = omega arith in
    λ i. some (named_card text (q i) (same i))
named_get text n (x ∷ cs) (suc i) c e =
    let q : n + 1 + i ≡ n + suc i = omega arith in
    named_get text (n + 1) cs i c e ∙ ap (λ (m : ℕ). some (named_card text m c)) q

pub named_drop : (text : List ℕ) (n : ℕ) (cs : List Card) (i : ℕ) → drop i (cards_named text n cs) ≡ cards_named text (n + i) (drop i cs)
unfolding cards_named
named_drop text n cs zero = let e : n + 0 ≡ n = omega arith in ap (λ (m : ℕ). cards_named text m cs) (sym e)
named_drop text n [] (suc i) = refl
named_drop text n (c ∷ cs) (suc i) =
    let e : n + 1 + i ≡ n + suc i = omega arith in named_drop text (n + 1) cs i ∙ ap (λ (m : ℕ). cards_named text m (drop i cs)) e

-- ---- One document.

module _ (text : List ℕ) (base size : ℕ) where
  -- A name that lies in the document's part of the text is the same read there.
  same_name : (c : Card) → Stands text base size c → name_of (bytes_at text base size) (unmoved base c) ≡ name_of text c
  unfolding name_of unmoved
  same_name c s = go (is_unnamed c) refl
    where
      go : (b : Bool) → is_unnamed c ≡ b →
          bytes_at (bytes_at text base size) (choose (is_unnamed c) c.name_at (c.name_at - base)) c.name_len ≡ bytes_at text c.name_at c.name_len
      go true u =
          let e : c.name_len ≡ 0 = (unnamed_parts c u).0 in
          ap (bytes_at (bytes_at text base size) (choose (is_unnamed c) c.name_at (c.name_at - base))) e
          ∙ bytes_none (bytes_at text base size) (choose (is_unnamed c) c.name_at (c.name_at - base))
          ∙ sym (bytes_none text c.name_at) ∙ ap (bytes_at text c.name_at) (sym e)
      go false u = rw u (bytes_within text base size c.name_at c.name_len (s.low u) (s.high u))

  same_kind : (c : Card) → (unmoved base c).kind ≡ c.kind
  unfolding unmoved
  same_kind c = refl

  same_part : (n : ℕ) (c : Card) → Stands text base size c → named_card (bytes_at text base size) n (unmoved base c) ≡ named_card text n c
  unfolding named_card
  same_part n c s = λ i. record { number = n; kind = same_kind c i; name = same_name c s i }

  same_heading : (b g : Bool) (n : ℕ) (c : Card) (ps : List NamedCard) → Stands text base size c →
      heading_from (bytes_at text base size) b g n (unmoved base c) ps ≡ heading_with b g (named_card text n c) ps
  unfolding heading_from named_card
  same_heading b g n c ps s = λ i. record { number = n; kind = same_kind c i; name = same_name c s i; built_in = b; ignored = g; parts = ps }

  named_document : (n : ℕ) (cs : List Card) → All (Stands text base size) cs →
      cards_named (bytes_at text base size) n (map (unmoved base) cs) ≡ cards_named text n cs
  unfolding cards_named
  named_document n [] a = refl
  named_document n (c ∷ cs) a = λ i. same_part n c a.0 i ∷ named_document (n + 1) cs a.1 i

  -- The branches of `group`.
  group_part : (b g : Bool) (n : ℕ) (c : Card) (cs : List Card) → is_part c.kind ≡ true →
      group (bytes_at text base size) b g n (unmoved base c ∷ cs) ≡ (
        named_card (bytes_at text base size) n (unmoved base c) ∷ (group (bytes_at text base size) b g (n + 1) cs).0,
        (group (bytes_at text base size) b g
            (n + 1) cs).1,
      )
  unfolding group
  group_part b g n c cs e = rw (same_kind c, e)

  group_heading : (b g : Bool) (n : ℕ) (c : Card) (cs : List Card) → is_part c.kind ≡ false →
      group (bytes_at text base size) b g n (unmoved base c ∷ cs) ≡ (
        [],
        heading_from (bytes_at text base size) b g n (unmoved base c) (group (bytes_at text base size) b g (n + 1) cs).0 ∷ (group
            (bytes_at text base size) b g (n + 1) cs).1,
      )
  unfolding group
  group_heading b g n c cs e = rw (same_kind c, e)

  module _ (B G : ℕ → Bool) (b g : Bool) where
    headings_document : (n : ℕ) (cs : List Card) → All (Stands text base size) cs →
        ((m : ℕ) → n ≤ m → m < n + length cs → (B m ≡ b) × (G m ≡ g)) →
        headings_of B G (cards_named text n cs) ≡ group (bytes_at text base size) b g n (map (unmoved base) cs)
    headings_document n [] a k = unfold cards_named headings_of group in refl
    headings_document n (c ∷ cs) a k =
        go (is_part c.kind) refl (headings_document (n + 1) cs a.1 (λ m h l. k m (omega arith) (omega arith)))
      where
        own : List ℕ
        own = bytes_at text base size

        rest : List NamedCard
        rest = cards_named text (n + 1) cs

        named : cards_named text n (c ∷ cs) ≡ named_card text n c ∷ rest
        named = unfold cards_named in refl

        kind : (named_card text n c).kind ≡ c.kind
        kind = unfold named_card in refl

        number : (named_card text n c).number ≡ n
        number = unfold named_card in refl

        go : (t : Bool) → is_part c.kind ≡ t →
            headings_of B G rest ≡ group own b g (n + 1) (map (unmoved base) cs) →
            headings_of B G (cards_named text n (c ∷ cs)) ≡ group own b g n (unmoved base c ∷ map (unmoved base) cs)
        go true p ih =
            ap (headings_of B G) named
            ∙ headings_part B G (named_card text n c) rest (ap is_part kind ∙ p)
            ∙ (λ i. (sym (same_part n c a.0) i ∷ (ih i).0, (ih i).1))
            ∙ sym (group_part b g n c (map (unmoved base) cs) p)
        go false p ih =
            let here = k n (omega arith) (omega arith) in
            ap (headings_of B G) named
            ∙ headings_heading B G (named_card text n c) rest (ap is_part kind ∙ p)
            ∙ ap (λ (m : ℕ). ([], heading_with (B m) (G m) (named_card text n c) (headings_of B G rest).0 ∷ (headings_of B G rest).1)) number
            ∙ (λ i. ([], heading_with (here.0 i) (here.1 i) (named_card text n c) (ih i).0 ∷ (ih i).1))
            ∙
            (λ i.
            ([], sym (same_heading b g n c (group own b g (n + 1) (map (unmoved base) cs)).0 a.0) i ∷ (group own b g (n + 1) (map (unmoved base) cs)).1))
            ∙ sym (group_heading b g n c (map (unmoved base) cs) p)

-- ---- The order of parts under a heading.

-- The cards are parts whose kinds have a place in the order, none before the one that precedes it, the first at q or later.
abbrev pub InPlaces : List (List ℕ) → ℕ → List NamedCard → Type 0
InPlaces order q [] = Unit {0}
InPlaces order q (p ∷ ps) =
    (is_part p.kind ≡ true) × (place_in order p.kind < length order) × (q ≤ place_in order p.kind) × InPlaces order (place_in order p.kind) ps

-- A heading's kind is 1 to 17, and its parts keep the order of its kind.
abbrev pub Ordered : Heading → Type 0
Ordered h = (is_heading h.kind ≡ true) × InPlaces (part_order (definition_of h.kind)) 0 h.parts

-- The parts before the first heading keep the order of the heading before them, after the part before them; there are none where there is no heading.
abbrev Under : Option Card → Option Card → List NamedCard → Type 0
Under none s ps = ps ≡ []
Under (some h) s ps = InPlaces (part_order (definition_of h.kind)) (found s (λ t. place_in (part_order (definition_of h.kind)) t.kind) 0) ps

no_parts : (h s : Option Card) → Under h s []
no_parts none s = refl
no_parts (some h) s = tt

only_heading : (k : ℕ) → (is_heading k || is_part k) ≡ true → is_part k ≡ false → is_heading k ≡ true
only_heading k e p = go (is_heading k) e
  where
    go : (t : Bool) → (t || is_part k) ≡ true → t ≡ true
    go true e = refl
    go false e = sym p ∙ e

module _ (text : List ℕ) (base size : ℕ) (B G : ℕ → Bool) where
  fine_ordered : (i : ℕ) (h s : Option Card) (n : ℕ) (cs : List Card) → fault_from text base size i h s cs ≡ none →
      Under h s (headings_of B G (cards_named text n cs)).0 × All Ordered (headings_of B G (cards_named text n cs)).1
  unfolding named_card
  fine_ordered i h s n [] e =
      let q : headings_of B G (cards_named text n []) ≡ ([], []) = unfold cards_named headings_of in refl in
      rw q (no_parts h s, tt)
  fine_ordered i h s n (c ∷ cs) e =
      go (is_part c.kind) refl (fine_ordered (i + 1) h (some c) (n + 1) cs) (fine_ordered (i + 1) (some c) none (n + 1) cs)
    where
      rest : List NamedCard × List Heading
      rest = headings_of B G (cards_named text (n + 1) cs)

      named : cards_named text n (c ∷ cs) ≡ named_card text n c ∷ cards_named text (n + 1) cs
      named = unfold cards_named in refl

      kind : (named_card text n c).kind ≡ c.kind
      kind = unfold named_card in refl

      part : (h : Option Card) → is_part c.kind ≡ true → Clean (record { bytes = text; base = base; size = size; heading = h; sibling = s }) c →
          Under h (some c) rest.0 → Under h s (named_card text n c ∷ rest.0)
      part none p k u = absurd (no_heading text base size s c p k)
      part (some h) p k u = let q = part_placed text base size h s c p k in rw kind (p, q.0, q.1, u)

      go : (t : Bool) → is_part c.kind ≡ t →
          (fault_from text base size (i + 1) h (some c) cs ≡ none → Under h (some c) rest.0 × All Ordered rest.1) →
          (fault_from text base size (i + 1) (some c) none cs ≡ none → Under (some c) none rest.0 × All Ordered rest.1) →
          Under h s (headings_of B G (cards_named text n (c ∷ cs))).0 × All Ordered (headings_of B G (cards_named text n (c ∷ cs))).1
      go true p under new =
          let q = clean_part text base size i h s c cs p e in
          let r = under q.1 in
          rw (named, headings_part B G (named_card text n c) (cards_named text (n + 1) cs) (ap is_part kind ∙ p)) (part h p q.0 r.0, r.1)
      go false p under new =
          let q = clean_heading text base size i h s c cs p e in
          let r = new q.1 in
          let f = fine_stands text base size i h s (c ∷ cs) e in
          rw (named, headings_heading B G (named_card text n c) (cards_named text (n + 1) cs) (ap is_part kind ∙ p))
          (no_parts h s, ((only_heading c.kind f.0.known p, r.0), r.1))

-- ---- Row by row.

split_named : (text : List ℕ) (n k : ℕ) (cs : List Card) → k ≤ length cs →
    cards_named text n cs ≡ cards_named text n (take k cs) ++ cards_named text (n + k) (drop k cs)
split_named text n k cs h =
    ap (cards_named text n) (sym (take-append-drop k cs))
    ∙ named_append text n (take k cs) (drop k cs)
    ∙ ap (λ (m : ℕ). cards_named text n (take k cs) ++ cards_named text (n + m) (drop k cs)) (length-take-le k cs h)

row_stands : (text : List ℕ) (used at : ℕ) (r : DocumentRow) (cs : List Card) → LaidRow text used at r cs →
    All (Stands text r.text_at r.text_len) (take r.card_count cs)
row_stands text used at r cs l = fine_stands text r.text_at r.text_len 0 none none (take r.card_count cs) l.fine

row_length : (text : List ℕ) (used at : ℕ) (r : DocumentRow) (cs : List Card) → LaidRow text used at r cs →
    length (map (unmoved r.text_at) (take r.card_count cs)) ≡ r.card_count
row_length text used at r cs l = length-map (take r.card_count cs) (unmoved r.text_at) ∙ length-take-le r.card_count cs l.enough

pub held_rows : (text : List ℕ) (used at n : ℕ) (rs : List DocumentRow) (cs : List Card) → Laid text used at rs cs →
    held_from n (documents_from text rs cs) ≡ cards_named text n cs
unfolding held_from documents_from stored_document
held_rows text used at n [] cs l =
    let e : cards_named text n [] ≡ [] = unfold cards_named in refl in
    sym e ∙ ap (cards_named text n) (sym l)
held_rows text used at n (r ∷ rs) cs l =
    let k = r.card_count in
    let own = bytes_at text r.text_at r.text_len in
    let mine = map (unmoved r.text_at) (take k cs) in
    let ds = documents_from text rs (drop k cs) in
    ap (λ (m : ℕ). cards_named own n mine ++ held_from (n + m) ds) (row_length text used at r cs l.0)
    ∙ ap (λ (ps : List NamedCard). ps ++ held_from (n + k) ds) (named_document text r.text_at r.text_len n (take k cs) (row_stands text used at r cs l.0))
    ∙ ap (λ (ps : List NamedCard). cards_named text n (take k cs) ++ ps) (held_rows text used (at + r.text_len) (n + k) rs (drop k cs) l.1)
    ∙ sym (split_named text n k cs l.0.enough)

-- The switch of a row's own cards, and of those after them.
ignored_own : (r : DocumentRow) (rs : List DocumentRow) (m : ℕ) → m < r.card_count → ignored_in (r ∷ rs) m ≡ eqb r.ignored 1
unfolding ignored_in
ignored_own r rs m h = rw (lt-ltb m r.card_count h)

ignored_later : (r : DocumentRow) (rs : List DocumentRow) (m : ℕ) → ignored_in (r ∷ rs) (r.card_count + m) ≡ ignored_in rs m
unfolding ignored_in
ignored_later r rs m = rw (le-ltb (r.card_count + m) r.card_count (omega arith), add-sub_cancel_left)

module _ (G : ℕ → Bool) (n : ℕ) (r : DocumentRow) (rs : List DocumentRow) (ign : (m : ℕ) → G (n + m) ≡ ignored_in (r ∷ rs) m) where
  ign_here : (m : ℕ) → n ≤ m → m < n + r.card_count → G m ≡ eqb r.ignored 1
  ign_here m h q =
      let e : n + (m - n) ≡ m = omega arith in
      ap G (sym e) ∙ ign (m - n) ∙ ignored_own r rs (m - n) (omega arith)

  ign_later : (m : ℕ) → G (n + r.card_count + m) ≡ ignored_in rs m
  ign_later m =
      let e : n + r.card_count + m ≡ n + (r.card_count + m) = omega arith in
      ap G e ∙ ign (r.card_count + m) ∙ ignored_later r rs m

-- The headings of one row's cards, and then of the rest.
module _ (B G : ℕ → Bool) where
  pub ordered_rows : (text : List ℕ) (used at n : ℕ) (rs : List DocumentRow) (cs : List Card) → Laid text used at rs cs →
      ((headings_of B G (cards_named text n cs)).0 ≡ []) × All Ordered (headings_of B G (cards_named text n cs)).1
  ordered_rows text used at n [] cs l =
      let q : headings_of B G (cards_named text n []) ≡ ([], []) = unfold cards_named headings_of in refl in
      rw (l, q) (refl, tt)
  ordered_rows text used at n (r ∷ rs) cs l =
      let k = r.card_count in
      let X = cards_named text n (take k cs) in
      let Y = cards_named text (n + k) (drop k cs) in
      let x = fine_ordered text r.text_at r.text_len B G 0 none none n (take k cs) l.0.fine in
      let y = ordered_rows text used (at + r.text_len) (n + k) rs (drop k cs) l.1 in
      rw (split_named text n k cs l.0.enough, headings_append B G X Y y.0)
      (x.0, all_append Ordered (headings_of B G X).1 (headings_of B G Y).1 x.1 y.1)

  row_headings : (b : Bool) (text : List ℕ) (used at n : ℕ) (r : DocumentRow) (rs : List DocumentRow) (cs : List Card) → LaidRow text used at r cs →
      Laid text used (at + r.text_len) rs (drop r.card_count cs) →
      ((m : ℕ) → n ≤ m → m < n + r.card_count → (B m ≡ b) × (G m ≡ eqb r.ignored 1)) →
      (headings_of B G (cards_named text (n + r.card_count) (drop r.card_count cs))).1 ≡
      headings_from false (n + r.card_count) (documents_from text rs (drop r.card_count cs)) →
      (headings_of B G (cards_named text n cs)).1 ≡ headings_from b n (documents_from text (r ∷ rs) cs)
  unfolding headings_from documents_from stored_document
  row_headings b text used at n r rs cs l ls same later =
      let k = r.card_count in
      let own = bytes_at text r.text_at r.text_len in
      let mine = map (unmoved r.text_at) (take k cs) in
      let g = eqb r.ignored 1 in
      let ds = documents_from text rs (drop k cs) in
      let X = cards_named text n (take k cs) in
      let Y = cards_named text (n + k) (drop k cs) in
      let len : length (take k cs) ≡ k = length-take-le k cs l.enough in
      let y = ordered_rows text used (at + r.text_len) (n + k) rs (drop k cs) ls in
      let d = headings_document text r.text_at r.text_len B G b g n (take k cs) (row_stands text used at r cs l) (λ m h q. same m h (omega arith)) in
      ap (λ (ps : List NamedCard). (headings_of B G ps).1) (split_named text n k cs l.enough)
      ∙ ap (λ (q : List NamedCard × List Heading). q.1) (headings_append B G X Y y.0)
      ∙ ap (λ (q : List NamedCard × List Heading). q.1 ++ (headings_of B G Y).1) d
      ∙ ap (λ (hs : List Heading). (group own b g n mine).1 ++ hs) later
      ∙ ap (λ (m : ℕ). (group own b g n mine).1 ++ headings_from false (n + m) ds) (sym (row_length text used at r cs l))

  later_headings : (text : List ℕ) (used at n : ℕ) (rs : List DocumentRow) (cs : List Card) → Laid text used at rs cs →
      ((m : ℕ) → n ≤ m → B m ≡ false) → ((m : ℕ) → G (n + m) ≡ ignored_in rs m) →
      (headings_of B G (cards_named text n cs)).1 ≡ headings_from false n (documents_from text rs cs)
  later_headings text used at n [] cs l old ign =
      let q : headings_of B G (cards_named text n []) ≡ ([], []) = unfold cards_named headings_of in refl in
      let z : headings_from false n (documents_from text [] cs) ≡ [] = unfold documents_from headings_from in refl in
      rw (z, l, q)
  later_headings text used at n (r ∷ rs) cs l old ign =
      row_headings false text used at n r rs cs l.0 l.1 (λ m h q. (old m h, ign_here G n r rs ign m h q))
      (later_headings text used (at + r.text_len) (n + r.card_count) rs (drop r.card_count cs) l.1 (λ m h. old m (omega arith)) (ign_later G n r rs ign))

  -- All rows, of which the first is document 0.
  pub headings_rows : (text : List ℕ) (used at n : ℕ) (r : DocumentRow) (rs : List DocumentRow) (cs : List Card) → Laid text used at (r ∷ rs) cs →
      ((m : ℕ) → B m ≡ ltb m (n + r.card_count)) → ((m : ℕ) → G (n + m) ≡ ignored_in (r ∷ rs) m) →
      (headings_of B G (cards_named text n cs)).1 ≡ headings_from true n (documents_from text (r ∷ rs) cs)
  headings_rows text used at n r rs cs l new ign =
      row_headings true text used at n r rs cs l.0 l.1 (λ m h q. (new m ∙ lt-ltb m (n + r.card_count) q, ign_here G n r rs ign m h q))
      (later_headings text used (at + r.text_len) (n + r.card_count) rs (drop r.card_count cs) l.1
      (λ m h. new m ∙ le-ltb m (n + r.card_count) h) (ign_later G n r rs ign))
