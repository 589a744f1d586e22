-- One law for each way that a turn of a loop, or a branch, can go.
use mathlib.Core.Path.{◌≡◌, refl, sym, ap, ◌∙◌}
use mathlib.Core.Bool.{Bool, true, false, ◌&&◌}
use mathlib.Core.List.{List, [], ◌∷◌, ◌++◌, map}
use Rattle.std.specs.Prelude.{Option, Some, None}
use Rattle.std.specs.Option.{is_some, unwrap_or}
use Rattle.std.specs.Bool.{then_some}
use Prim.Native.Nat.{ℕ, suc, ◌+◌, ◌-◌, ◌*◌, ◌≤◌, ◌<◌}
use native.Mathlib.Omega.{arith}
use borrow.Author.Tests.{eq-eqb, ne_eqb, lt-ltb, le-ltb}
use lib.Dec.{eqb, leb}
use lib.ListN.{length, get_or, drop}
use Rattle.definition.specs.Lists.{choose, filter, any, flat_map}
use Rattle.definition.specs.Answers.{absent}
use Rattle.definition.specs.Cards.{is_root, is_part, definition_of}
use Rattle.definition.specs.Headings.{NamedCard, is_of, is_kind, is_named}
use Rattle.definition.specs.Catalogue.{component, components, Row, row, component_row, is_component_of}
use Rattle.definition.specs.Refusals.{card_capacity}
use Rattle.definition.specs.Store.{cards_used_of}
use Rattle.definition.proofs.Lists.{filter_yes, filter_no}
use Rattle.from_ast_index.specs.Index.{same_cards, is_type_extension_kind}
use Rattle.from_ast_index.proofs.Lists.{never, drop_next, drop_end}
use Rattle.from_ast_index.proofs.Search.{stored_not_first}
use Rattle.store_reader.specs.Stored.{card_kind, card_at, built_in_count, built_in_at, parts_from, stored_parts}
use Rattle.store_reader.proofs.Words.{parts_next, parts_stop, parts_end}
use Rattle.component.specs.Pushed.{Filled, Fits, row_in, rows_from, used_from, place_of, alike_rows, pushed, extend_sticky, rows_of_kind}
use Rattle.from_ast_index.specs.Index.{same_stored}
use Rattle.component.specs.RowsByCards.{head_rows, extend_by_card, extend_by_heading, extension_rows, list_rows, list_at}
use Rattle.component.specs.RowsByCards.{type_row_at, standing_card, names_directive, standing_at, directive_rows_of, directive_rows_at}
use Rattle.component.proofs.Sticky.{extended_none, extended_old, extended_new, capacity_new, Growing, Extending, grow_fresh, grow_begin, grow_end, grow_capacity, grow_next}
use Rattle.component.proofs.Listed.{kind_append}

-- ---- The search for a row that a part is like.

pub and_false : (b : Bool) → (b && false) ≡ false
and_false true = refl
and_false false = refl

module _ (same : ℕ → ℕ → Bool) (r : Row) where
  use_unlike : (s : Row) → r.what ≡ 20 → alike_rows same r s ≡ false
  unfolding alike_rows is_root
  use_unlike s e = rw e (and_false (eqb 20 s.what))

  pub alike_use : (i : ℕ) (rs : List Row) → r.what ≡ 20 → place_of (alike_rows same r) i rs ≡ None
  unfolding place_of
  alike_use i [] e = refl
  alike_use i (s ∷ rs) e = rw (use_unlike s e, alike_use (i + 1) rs e)

  module _ (ws : List ℕ) (used i : ℕ) where
    next_row : i < used → rows_from ws i (used - i) ≡ row_in ws i ∷ rows_from ws (i + 1) (used - (i + 1))
    unfolding rows_from
    next_row h = let e : used - i ≡ suc (used - (i + 1)) = omega arith in rw e

    pub alike_here : i < used → alike_rows same r (row_in ws i) ≡ true → place_of (alike_rows same r) i (rows_from ws i (used - i)) ≡ Some i
    unfolding place_of
    alike_here h e = rw (next_row h, e)

    pub alike_next : i < used → alike_rows same r (row_in ws i) ≡ false →
        place_of (alike_rows same r) i (rows_from ws i (used - i)) ≡ place_of (alike_rows same r) (i + 1) (rows_from ws (i + 1) (used - (i + 1)))
    unfolding place_of
    alike_next h e = rw (next_row h, e)

    pub alike_end : used ≤ i → place_of (alike_rows same r) i (rows_from ws i (used - i)) ≡ None
    unfolding place_of rows_from
    alike_end h = let e : used - i ≡ 0 = omega arith in rw e

  -- The test of a row, part by part.
  module _ (s : Row) (m : r.what ≡ 20 → ⊥) where
    pub alike_root : r.what ≡ s.what → is_root r.what ≡ true → alike_rows same r s ≡ true
    unfolding alike_rows
    alike_root e l = rw (eq-eqb r.what s.what e, l)

    pub alike_part : r.what ≡ s.what → is_root r.what ≡ false → alike_rows same r s ≡ same r.card s.card
    unfolding alike_rows
    alike_part e l = rw (eq-eqb r.what s.what e, l, ne_eqb r.what 20 m)

    pub alike_other : (r.what ≡ s.what → ⊥) → alike_rows same r s ≡ false
    unfolding alike_rows
    alike_other e = rw (ne_eqb r.what s.what e)

-- What has no card is like no part.
pub alike_none : (text words : List ℕ) (what origin : ℕ) (s : Row) → cards_used_of words ≤ card_capacity → (what ≡ 20 → ⊥) → what ≡ s.what →
    alike_rows (same_stored text words) (row what absent origin) s ≡ is_root what
alike_none text words what origin s most m e = go (is_root what) refl
  where
    go : (b : Bool) → is_root what ≡ b → alike_rows (same_stored text words) (row what absent origin) s ≡ b
    go true f = alike_root (same_stored text words) (row what absent origin) s m e f
    go false f = alike_part (same_stored text words) (row what absent origin) s m e f ∙ stored_not_first text words absent s.card (omega (arith, most))

-- Where a place is found a row passes; where none is, none does.
module _ (p : Row → Bool) where
  pub place_old : (i k : ℕ) (rs : List Row) → place_of p i rs ≡ Some k → any p rs ≡ true
  unfolding place_of any
  place_old i k [] h = absurd (cc h)
  place_old i k (r ∷ rs) h = go (p r) h (place_old (i + 1) k rs)
    where
      go : (b : Bool) → choose b (Some i) (place_of p (i + 1) rs) ≡ Some k → (place_of p (i + 1) rs ≡ Some k → any p rs ≡ true) →
          choose b true (any p rs) ≡ true
      go true h k = refl
      go false h k = k h

  pub place_new : (i : ℕ) (rs : List Row) → place_of p i rs ≡ None → any p rs ≡ false
  unfolding place_of any
  place_new i [] h = refl
  place_new i (r ∷ rs) h = go (p r) h (place_new (i + 1) rs)
    where
      go : (b : Bool) → choose b (Some i) (place_of p (i + 1) rs) ≡ None → (place_of p (i + 1) rs ≡ None → any p rs ≡ false) →
          choose b true (any p rs) ≡ false
      go true h k = absurd (cc h)
      go false h k = k h

-- What is pushed of one row, by the place of the first row that it is like.
module _ (same : ℕ → ℕ → Bool) (start : ℕ) (r : Row) (s : Filled) (o : Option ℕ) (found : o ≡ place_of (alike_rows same r) start (used_from start s)) where
  pub placed_old : is_some o ≡ true → s ≡ extend_sticky same start (r ∷ []) s
  placed_old h = go o found h
    where
      go : (o : Option ℕ) → o ≡ place_of (alike_rows same r) start (used_from start s) → is_some o ≡ true → s ≡ extend_sticky same start (r ∷ []) s
      go None e q = never (sym q)
      go (Some k) e q = sym (extended_old same start r s (place_old (alike_rows same r) start k (used_from start s) (sym e)))

  module _ (h : is_some o ≡ false) where
    unlike : any (alike_rows same r) (used_from start s) ≡ false
    unlike = go o found h
      where
        go : (o : Option ℕ) → o ≡ place_of (alike_rows same r) start (used_from start s) → is_some o ≡ false → any (alike_rows same r) (used_from start s) ≡ false
        go None e q = place_new (alike_rows same r) start (used_from start s) (sym e)
        go (Some k) e q = never q

    pub placed_new : pushed (r ∷ []) s ≡ extend_sticky same start (r ∷ []) s
    placed_new = sym (extended_new same start r s unlike)

    pub placed_capacity : (n : ℕ) → 3 * (extend_sticky same start (r ∷ []) s).used ≤ n → 3 * (s.used + 1) ≤ n
    placed_capacity n c = capacity_new same start r s n unlike c

-- ---- The parts under a heading.

-- The parts of kind k that stand from card p on, as rows.
unfoldable pub part_rows : List ℕ → List ℕ → ℕ → ℕ → ℕ → List Row
part_rows text words origin k p = rows_of_kind k (map (component origin) (parts_from (stored_parts text words) p))

module _ (text words : List ℕ) (origin k : ℕ) where
  pub head_parts : (n : ℕ) → head_rows text words origin k n ≡ part_rows text words origin k (n + 1)
  unfolding head_rows part_rows components
  head_parts n = refl

  module _ (p : ℕ) where
    pub part_next : p < cards_used_of words → is_part (card_kind words p) ≡ true
        → part_rows text words origin k p ≡ rows_of_kind k (component origin (card_at text words p) ∷ []) ++ part_rows text words origin k (p + 1)
    unfolding part_rows
    part_next h e =
        ap (λ (l : List NamedCard). rows_of_kind k (map (component origin) l)) (parts_next text words p h e)
        ∙ kind_append k (component origin (card_at text words p) ∷ []) (map (component origin) (parts_from (stored_parts text words) (p + 1)))

    pub part_stop : p < cards_used_of words → is_part (card_kind words p) ≡ false → part_rows text words origin k p ≡ []
    unfolding part_rows rows_of_kind filter
    part_stop h e = ap (λ (l : List NamedCard). rows_of_kind k (map (component origin) l)) (parts_stop text words p h e)

    pub part_end : cards_used_of words ≤ p → part_rows text words origin k p ≡ []
    unfolding part_rows rows_of_kind filter
    part_end h = ap (λ (l : List NamedCard). rows_of_kind k (map (component origin) l)) (parts_end text words p h)

    pub part_is : card_kind words p ≡ k → rows_of_kind k (component origin (card_at text words p) ∷ []) ≡ row k p origin ∷ []
    unfolding rows_of_kind filter is_component_of component component_row
    part_is e = rw (eq-eqb (card_kind words p) k e, e)

    pub part_other : (card_kind words p ≡ k → ⊥) → rows_of_kind k (component origin (card_at text words p) ∷ []) ≡ []
    unfolding rows_of_kind filter is_component_of component
    part_other e = rw (ne_eqb (card_kind words p) k e)

    pub part_take : (start : ℕ) (s : Filled) → card_kind words p ≡ k
        → extend_sticky (same_stored text words) start (rows_of_kind k (component origin (card_at text words p) ∷ [])) s
        ≡ extend_sticky (same_stored text words) start (row k p origin ∷ []) s
    part_take start s e = ap (λ (l : List Row). extend_sticky (same_stored text words) start l s) (part_is e)

    pub part_skip : (start : ℕ) (s : Filled) → (card_kind words p ≡ k → ⊥) →
        s ≡ extend_sticky (same_stored text words) start (rows_of_kind k (component origin (card_at text words p) ∷ [])) s
    part_skip start s e = sym (ap (λ (l : List Row). extend_sticky (same_stored text words) start l s) (part_other e)
        ∙ extended_none (same_stored text words) start s)

-- ---- A walk over the parts under a heading: those from card p on are left.

module _ (text words : List ℕ) (origin k start : ℕ) where
  abbrev pub Under : ℕ → Filled → Filled → Type 0
  Under p s goal = Growing (same_stored text words) start (part_rows text words origin k p) s goal

  pub under_begin : (n : ℕ) (s : Filled) → start ≤ s.used → Fits s.rows (extend_by_heading text words origin k n start s) →
      Under (n + 1) s (extend_by_heading text words origin k n start s)
  under_begin n s b f =
      let same = same_stored text words in
      grow_begin same start (part_rows text words origin k (n + 1)) s (extend_by_heading text words origin k n start s)
      (ap (λ (l : List Row). extend_sticky same start l s) (sym (head_parts text words origin k n))) f b

  module _ (p : ℕ) (s goal : Filled) (left : Under p s goal) where
    pub under_stop : p < cards_used_of words → is_part (card_kind words p) ≡ false → s ≡ goal
    under_stop h e = grow_end (same_stored text words) start (part_rows text words origin k p) s goal left (part_stop text words origin k p h e)

    pub under_end : cards_used_of words ≤ p → s ≡ goal
    under_end h = grow_end (same_stored text words) start (part_rows text words origin k p) s goal left (part_end text words origin k p h)

    module _ (h : p < cards_used_of words) (e : is_part (card_kind words p) ≡ true) where
      pub under_capacity : Fits s.rows (extend_by_card text words origin k p start s)
      under_capacity = grow_capacity (same_stored text words) start _ s goal left _ _ (part_next text words origin k p h e)

      pub under_next : (t : Filled) → t ≡ extend_by_card text words origin k p start s → Under (p + 1) t goal
      under_next t is = grow_next (same_stored text words) start _ s goal left _ _ (part_next text words origin k p h e) t is

-- nothing is added
pub extended_nothing : (same : ℕ → ℕ → Bool) (start : ℕ) (rs : List Row) (s : Filled) → rs ≡ [] → s ≡ extend_sticky same start rs s
extended_nothing same start rs s e = sym (ap (λ (l : List Row). extend_sticky same start l s) e ∙ extended_none same start s)

-- ---- A list of a type.

-- The test of an extension's kind, asked of the kind that was read.
pub type_extension_kind : (words : List ℕ) (card kind : ℕ) {b : Bool} → kind ≡ card_kind words card → b ≡ (leb 12 kind && leb kind 17) →
    is_type_extension_kind (card_kind words card) ≡ b
unfolding is_type_extension_kind
type_extension_kind words card kind k q = sym (ap (λ (n : ℕ). leb 12 n && leb n 17) k) ∙ sym q

module _ (text words ns : List ℕ) (card k : ℕ) where
  pub list_adopted : is_type_extension_kind (card_kind words card) ≡ true → list_rows text words ns card k ≡ extension_rows text words k ns
  unfolding list_rows
  list_adopted h = rw h

  pub list_defined : is_type_extension_kind (card_kind words card) ≡ false →
      list_rows text words ns card k ≡ head_rows text words absent k card ++ extension_rows text words k ns
  unfolding list_rows
  list_defined h = rw h

  pub list_begin : (s : Filled) → Fits s.rows (pushed (list_at text words ns card k) s) →
      Growing (same_stored text words) s.used (list_rows text words ns card k) s (pushed (list_at text words ns card k) s)
  unfolding list_at
  list_begin s f = grow_fresh (same_stored text words) s.used (list_rows text words ns card k) s refl f

-- ---- A type.

-- The row of a type whose extension is told as its origin, if it is one.
pub type_row : (words : List ℕ) (card what : ℕ) (adopted : Bool) (origin : Option ℕ) → what ≡ definition_of (card_kind words card) →
    adopted ≡ is_type_extension_kind (card_kind words card) → origin ≡ then_some adopted card → row what card (unwrap_or origin absent) ≡ type_row_at words card
unfolding type_row_at
type_row words card what adopted origin is h o = rw (o, is, h) (go (is_type_extension_kind (card_kind words card)))
  where
    go : (b : Bool) → row (definition_of (card_kind words card)) card (unwrap_or (then_some b card) absent)
        ≡ row (definition_of (card_kind words card)) card (choose b card absent)
    go true = refl
    go false = refl

pub one_capacity : (r : Row) (s : Filled) (n : ℕ) → 3 * (pushed (r ∷ []) s).used ≤ n → 3 * (s.used + 1) ≤ n
unfolding pushed
one_capacity r s n h = h

-- ---- The directive definition that stands for a name.

module _ (text words : List ℕ) (card n : ℕ) where
  pub directive_other : (card_kind words n ≡ 3 → ⊥) → names_directive text words card n ≡ false
  unfolding names_directive is_of is_kind
  directive_other e = rw (ne_eqb (card_kind words n) 3 e)

  pub directive_is : card_kind words n ≡ 3 → names_directive text words card n ≡ same_cards text words card n
  unfolding names_directive is_of is_kind is_named same_cards
  directive_is e = rw (eq-eqb (card_kind words n) 3 e)

module _ (text words : List ℕ) (card : ℕ) (ns : List ℕ) (i last : ℕ) where
  pub standing_other : i < length ns → names_directive text words card (get_or ns i 0) ≡ false →
      standing_card (built_in_at words) last (filter (names_directive text words card) (drop i ns))
      ≡ standing_card (built_in_at words) last (filter (names_directive text words card) (drop (i + 1) ns))
  standing_other h e =
      ap (standing_card (built_in_at words) last)
      (ap (filter (names_directive text words card)) (drop_next ns i h) ∙ filter_no (names_directive text words card) (get_or ns i 0) (drop (i + 1) ns) e)

  standing_cut : i < length ns → names_directive text words card (get_or ns i 0) ≡ true →
      standing_card (built_in_at words) last (filter (names_directive text words card) (drop i ns))
      ≡ standing_card (built_in_at words) last (get_or ns i 0 ∷ filter (names_directive text words card) (drop (i + 1) ns))
  standing_cut h e =
      ap (standing_card (built_in_at words) last)
      (ap (filter (names_directive text words card)) (drop_next ns i h) ∙ filter_yes (names_directive text words card) (get_or ns i 0) (drop (i + 1) ns) e)

  pub standing_found : i < length ns → names_directive text words card (get_or ns i 0) ≡ true → built_in_count words ≤ get_or ns i 0 →
      standing_card (built_in_at words) last (filter (names_directive text words card) (drop i ns)) ≡ get_or ns i 0
  unfolding standing_card built_in_at
  standing_found h e b = standing_cut h e ∙ rw (le-ltb (get_or ns i 0) (built_in_count words) b)

  pub standing_next : i < length ns → names_directive text words card (get_or ns i 0) ≡ true → get_or ns i 0 < built_in_count words →
      standing_card (built_in_at words) last (filter (names_directive text words card) (drop i ns))
      ≡ standing_card (built_in_at words) (get_or ns i 0) (filter (names_directive text words card) (drop (i + 1) ns))
  unfolding standing_card built_in_at
  standing_next h e b = standing_cut h e ∙ rw (lt-ltb (get_or ns i 0) (built_in_count words) b)

  pub standing_end : length ns ≤ i → standing_card (built_in_at words) last (filter (names_directive text words card) (drop i ns)) ≡ last
  unfolding standing_card filter
  standing_end h = ap (λ (l : List ℕ). standing_card (built_in_at words) last (filter (names_directive text words card) l)) (drop_end ns i h)

-- ---- A directive definition's row.

module _ (text words ns : List ℕ) (n : ℕ) where
  pub no_directive : (card_kind words n ≡ 3 → ⊥) → directive_rows_of text words ns n ≡ []
  unfolding directive_rows_of
  no_directive e = rw (ne_eqb (card_kind words n) 3 e)

  pub directive_row_lem : (standing : ℕ) → card_kind words n ≡ 3 → standing ≡ standing_at text words ns n →
      directive_rows_of text words ns n ≡ row 3 standing absent ∷ []
  unfolding directive_rows_of
  directive_row_lem standing e q = rw (eq-eqb (card_kind words n) 3 e) (λ i. row 3 (sym q i) absent ∷ [])

pub directives_begin : (text words ns : List ℕ) (s : Filled) → Fits s.rows (pushed (directive_rows_at text words ns) s) →
    Extending (same_stored text words) s.used (directive_rows_of text words ns) ns s (pushed (directive_rows_at text words ns) s)
unfolding directive_rows_at
directives_begin text words ns s f = grow_fresh (same_stored text words) s.used (flat_map (directive_rows_of text words ns) ns) s refl f
