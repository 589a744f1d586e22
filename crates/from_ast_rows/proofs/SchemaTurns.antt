-- One law for each way that a turn or a branch of the schema's functions can go.
use mathlib.Core.Path.{◌≡◌, refl, sym, ap, ◌∙◌}
use mathlib.Core.Bool.{Bool, true, false, ◌&&◌, not}
use mathlib.Core.List.{List, [], ◌∷◌, ◌++◌, append-nil}
use mathlib.Core.Option.{none, some}
use Rattle.std.specs.Prelude.{Option, Some, None}
use Rattle.std.specs.Option.{unwrap_or, option_eq}
use Prim.Native.Nat.{ℕ, ◌+◌, ◌*◌, ◌≤◌, ◌<◌}
use native.Mathlib.Omega.{arith}
use borrow.Author.Tests.{eq-eqb, ne_eqb, leb-true}
use lib.Dec.{eqb, leb}
use lib.ListN.{length, drop, get_or, drop_of_length-le}
use Rattle.definition.specs.Lists.{choose, any, find, take_until, flat_map}
use Rattle.definition.specs.Names.{same_name}
use Rattle.definition.specs.Answers.{absent}
use Rattle.definition.specs.Cards.{Card, card_words, card_from, is_part, is_root, is_type, definition_of}
use Rattle.definition.specs.Catalogue.{row, default_name}
use Rattle.definition.specs.Store.{cards_at, cards_used_of, stored_cards}
use Rattle.definition.proofs.Tests.{and_true}
use Rattle.definition.proofs.Lists.{first_nil, first_yes, first_no, any_nil, any_yes, any_no}
use Rattle.store_reader.specs.Stored.{card_kind, card_name, is_heading_card}
use Rattle.store_reader.proofs.Lists.{drop_get}
use Rattle.store_reader.proofs.Laid.{length_stored_cards}
use Rattle.store_reader.proofs.Words.{stored_card, card_kind_lem}
use Rattle.from_ast_index.specs.Index.{is_type_extension_kind}
use Rattle.from_ast_index.proofs.Lists.{drop_next, drop_end}
use Rattle.component.specs.Pushed.{Filled, Fits, pushed}
use Rattle.from_ast_index.specs.Index.{same_stored}
use Rattle.component.specs.RowsByCards.{head_rows, is_schema_card, schema_card, schema_extension_at, is_type_kind, is_type_named, first_kind}
use Rattle.component.specs.RowsByCards.{kind_named_at, has_default, any_default, default_rows, is_root_card, sets_root, is_implicit, schema_list_rows}
use Rattle.component.specs.RowsByCards.{schema_list_at, schema_lists_at, schema_rows_at}
use Rattle.component.proofs.Sticky.{Growing, grow_fresh}

-- ---- A search among the cards of an array.

module _ (p : ℕ → Bool) (ns : List ℕ) (i : ℕ) where
  pub first_hit : i < length ns → p (get_or ns i 0) ≡ true → find p (drop i ns) ≡ some (get_or ns i 0)
  first_hit h e = ap (find p) (drop_next ns i h) ∙ first_yes p (get_or ns i 0) (drop (i + 1) ns) e

  pub first_miss : i < length ns → p (get_or ns i 0) ≡ false → find p (drop i ns) ≡ find p (drop (i + 1) ns)
  first_miss h e = ap (find p) (drop_next ns i h) ∙ first_no p (get_or ns i 0) (drop (i + 1) ns) e

  pub first_end : length ns ≤ i → find p (drop i ns) ≡ none
  first_end h = ap (find p) (drop_end ns i h) ∙ first_nil p

  pub any_hit : i < length ns → p (get_or ns i 0) ≡ true → any p (drop i ns) ≡ true
  any_hit h e = ap (any p) (drop_next ns i h) ∙ any_yes p (get_or ns i 0) (drop (i + 1) ns) e

  pub any_miss : i < length ns → p (get_or ns i 0) ≡ false → any p (drop i ns) ≡ any p (drop (i + 1) ns)
  any_miss h e = ap (any p) (drop_next ns i h) ∙ any_no p (get_or ns i 0) (drop (i + 1) ns) e

  pub any_end : length ns ≤ i → any p (drop i ns) ≡ false
  any_end h = ap (any p) (drop_end ns i h) ∙ any_nil p

-- ---- The schema definition.

module _ (words : List ℕ) (n : ℕ) where
  pub schema_is : card_kind words n ≡ 4 → is_schema_card words n ≡ true
  unfolding is_schema_card
  schema_is e = eq-eqb (card_kind words n) 4 e

  pub schema_not : (card_kind words n ≡ 4 → ⊥) → is_schema_card words n ≡ false
  unfolding is_schema_card
  schema_not e = ne_eqb (card_kind words n) 4 e

module _ (text words : List ℕ) (k n : ℕ) where
  pub schema_extension_not : (card_kind words n ≡ 11 → ⊥) → schema_extension_at text words k n ≡ []
  unfolding schema_extension_at
  schema_extension_not e = rw (ne_eqb (card_kind words n) 11 e)

  pub schema_extension_is : card_kind words n ≡ 11 → schema_extension_at text words k n ≡ head_rows text words n k n
  unfolding schema_extension_at
  schema_extension_is e = rw (eq-eqb (card_kind words n) 11 e)

-- ---- Types by name.

-- Both searches ask for a kind, by the one test or the other.
pub extension_kind_lem : (k : ℕ) → (leb 12 k && leb k 17) ≡ is_type_kind true k
unfolding is_type_extension_kind
extension_kind_lem k = refl

pub kind_some : (extending : Bool) (k : ℕ) → is_type_kind extending k ≡ true → 0 < k
unfolding is_type_extension_kind is_type
kind_some true k h = let t = and_true (leb 12 k) (leb k 17) h in omega (arith, leb-true 12 k t.0)
kind_some false k h = let t = and_true (leb 5 k) (leb k 10) h in omega (arith, leb-true 5 k t.0)

module _ (text words name : List ℕ) (extending : Bool) (n : ℕ) where
  pub named_other : is_type_kind extending (card_kind words n) ≡ false → is_type_named text words extending name n ≡ false
  unfolding is_type_named
  named_other h = rw h

  pub named_is : is_type_kind extending (card_kind words n) ≡ true → is_type_named text words extending name n ≡ same_name name (card_name text words n)
  unfolding is_type_named
  named_is h = rw h

module _ (text words ns name : List ℕ) where
  pub kind_defined : (adopt : Bool) → (first_kind text words ns false name ≡ 0 → ⊥) → kind_named_at text words adopt ns name ≡ first_kind text words ns false name
  unfolding kind_named_at
  kind_defined adopt e = rw (ne_eqb (first_kind text words ns false name) 0 e)

  pub kind_none : first_kind text words ns false name ≡ 0 → kind_named_at text words false ns name ≡ 0
  unfolding kind_named_at
  kind_none e = rw (eq-eqb (first_kind text words ns false name) 0 e)

  pub kind_adopted : first_kind text words ns false name ≡ 0 → kind_named_at text words true ns name ≡ definition_of (first_kind text words ns true name)
  unfolding kind_named_at
  kind_adopted e = rw (eq-eqb (first_kind text words ns false name) 0 e)

-- ---- Default roots.

module _ (text words : List ℕ) (adopt : Bool) (ns : List ℕ) where
  pub no_default : (k : ℕ) → is_root k ≡ false → default_rows text words adopt ns k ≡ []
  unfolding default_rows
  no_default k r = rw r

  pub default_unset : (k : ℕ) → is_root k ≡ true → has_default text words adopt ns k ≡ false → default_rows text words adopt ns k ≡ []
  unfolding default_rows
  default_unset k r e = rw (r, e)

  pub default_set : (k : ℕ) → is_root k ≡ true → has_default text words adopt ns k ≡ true → default_rows text words adopt ns k ≡ row k absent absent ∷ []
  unfolding default_rows
  default_set k r e = rw (r, e)

  pub some_first : has_default text words adopt ns 26 ≡ true → any_default text words adopt ns ≡ true
  unfolding any_default
  some_first e = rw e

  pub some_second : has_default text words adopt ns 26 ≡ false → has_default text words adopt ns 27 ≡ true → any_default text words adopt ns ≡ true
  unfolding any_default
  some_second e f = rw (e, f)

  pub some_third : has_default text words adopt ns 26 ≡ false → has_default text words adopt ns 27 ≡ false →
      any_default text words adopt ns ≡ has_default text words adopt ns 28
  unfolding any_default
  some_third e f = rw (e, f)

-- ---- Roots under a schema extension.

module _ (words : List ℕ) (i : ℕ) where
  next_card_lem : i < cards_used_of words → drop i (stored_cards words) ≡ card_from (drop (cards_at + card_words * i) words) ∷ drop (i + 1) (stored_cards words)
  next_card_lem h = drop_get (stored_cards words) i (card_from (drop (cards_at + card_words * i) words)) (stored_card words i h)

  pub root_stop : i < cards_used_of words → is_part (card_kind words i) ≡ false → any is_root_card (take_until is_heading_card (drop i (stored_cards words))) ≡ false
  unfolding any take_until is_heading_card
  root_stop h e =
      let p : is_part (card_from (drop (cards_at + card_words * i) words)).kind ≡ false = ap is_part (card_kind_lem words i h) ∙ e in
      ap (λ (l : List Card). any is_root_card (take_until is_heading_card l)) (next_card_lem h) ∙ rw p

  pub root_hit : i < cards_used_of words → is_part (card_kind words i) ≡ true → is_root (card_kind words i) ≡ true →
      any is_root_card (take_until is_heading_card (drop i (stored_cards words))) ≡ true
  unfolding any take_until is_heading_card is_root_card
  root_hit h e r =
      let p : is_part (card_from (drop (cards_at + card_words * i) words)).kind ≡ true = ap is_part (card_kind_lem words i h) ∙ e in
      let q : is_root (card_from (drop (cards_at + card_words * i) words)).kind ≡ true = ap is_root (card_kind_lem words i h) ∙ r in
      ap (λ (l : List Card). any is_root_card (take_until is_heading_card l)) (next_card_lem h) ∙ rw (p, q)

  pub root_miss : i < cards_used_of words → is_part (card_kind words i) ≡ true → is_root (card_kind words i) ≡ false
      → any is_root_card (take_until is_heading_card (drop i (stored_cards words))) ≡ any is_root_card (take_until is_heading_card (drop (i + 1) (stored_cards words)))
  unfolding any take_until is_heading_card is_root_card
  root_miss h e r =
      let p : is_part (card_from (drop (cards_at + card_words * i) words)).kind ≡ true = ap is_part (card_kind_lem words i h) ∙ e in
      let q : is_root (card_from (drop (cards_at + card_words * i) words)).kind ≡ false = ap is_root (card_kind_lem words i h) ∙ r in
      ap (λ (l : List Card). any is_root_card (take_until is_heading_card l)) (next_card_lem h) ∙ rw (p, q)

  pub root_end : cards_used_of words ≤ i → any is_root_card (take_until is_heading_card (drop i (stored_cards words))) ≡ false
  unfolding any take_until
  root_end h =
      let n = length_stored_cards words in
      ap (λ (l : List Card). any is_root_card (take_until is_heading_card l)) (drop_of_length-le (stored_cards words) {i = i} (omega arith))

  pub sets_not : (card_kind words i ≡ 11 → ⊥) → sets_root words i ≡ false
  unfolding sets_root
  sets_not e = rw (ne_eqb (card_kind words i) 11 e)

  pub sets_is : card_kind words i ≡ 11 → sets_root words i ≡ any is_root_card (take_until is_heading_card (drop (i + 1) (stored_cards words)))
  unfolding sets_root
  sets_is e = rw (eq-eqb (card_kind words i) 11 e)

-- The last of the roots is the one that is none of the others.
pub last_root : (k : ℕ) → is_root k ≡ true → (k ≡ 26 → ⊥) → (k ≡ 27 → ⊥) → k ≡ 28
unfolding is_root
last_root k r a b =
    let t = and_true (leb 26 k) (leb k 28) r in
    omega (arith, leb-true 26 k t.0, leb-true k 28 t.1, a, b)

-- ---- A list of the schema.

module _ (text words : List ℕ) (adopt : Bool) (ns : List ℕ) (schema : ℕ) (implicit : Bool) (k : ℕ) where
  pub schema_begin : (s : Filled) → Fits s.rows (pushed (schema_list_at text words adopt ns schema implicit k) s) →
      Growing (same_stored text words) s.used (schema_list_rows text words adopt ns schema implicit k) s
      (pushed (schema_list_at text words adopt ns schema implicit k) s)
  unfolding schema_list_at
  schema_begin s f = grow_fresh (same_stored text words) s.used (schema_list_rows text words adopt ns schema implicit k) s refl f

  pub schema_defined : (card : ℕ) → schema ≡ card → (card ≡ absent → ⊥) →
      schema_list_rows text words adopt ns schema implicit k ≡ head_rows text words absent k card ++ flat_map (schema_extension_at text words k) ns
  unfolding schema_list_rows
  schema_defined card s e = rw (s, ne_eqb card absent e)

  pub schema_adopting : schema ≡ absent → adopt ≡ true → schema_list_rows text words adopt ns schema implicit k ≡ flat_map (schema_extension_at text words k) ns
      ++ choose implicit (default_rows text words adopt ns k) []
  unfolding schema_list_rows
  schema_adopting e a = let t : eqb schema absent ≡ true = eq-eqb schema absent e in rw (t, a)

  pub schema_adopted : schema ≡ absent → adopt ≡ true → implicit ≡ true →
      schema_list_rows text words adopt ns schema implicit k ≡ flat_map (schema_extension_at text words k) ns ++ default_rows text words adopt ns k
  unfolding schema_list_rows
  schema_adopted e a i = let t : eqb schema absent ≡ true = eq-eqb schema absent e in rw (t, a, i)

  pub schema_unrooted : schema ≡ absent → adopt ≡ true → implicit ≡ false →
      schema_list_rows text words adopt ns schema implicit k ≡ flat_map (schema_extension_at text words k) ns
  unfolding schema_list_rows
  schema_unrooted e a i = let t : eqb schema absent ≡ true = eq-eqb schema absent e in rw (t, a, i) (append-nil (flat_map (schema_extension_at text words k) ns))

  pub schema_unset : schema ≡ absent → adopt ≡ false → implicit ≡ false → schema_list_rows text words adopt ns schema implicit k ≡ []
  unfolding schema_list_rows
  schema_unset e a i = let t : eqb schema absent ≡ true = eq-eqb schema absent e in rw (t, a, i)

  pub schema_default : schema ≡ absent → adopt ≡ false → implicit ≡ true →
      schema_list_rows text words adopt ns schema implicit k ≡ default_rows text words adopt ns k ++ flat_map (schema_extension_at text words k) ns
  unfolding schema_list_rows
  schema_default e a i = let t : eqb schema absent ≡ true = eq-eqb schema absent e in rw (t, a, i)

module _ (text words : List ℕ) (ns : List ℕ) where
  pub implicit_adopting : is_implicit text words true ns ≡ not (any (sets_root words) ns)
  unfolding is_implicit
  implicit_adopting = refl

  pub implicit_unadopting : is_implicit text words false ns ≡ any_default text words false ns
  unfolding is_implicit
  implicit_unadopting = refl

  pub default_is : (adopt : Bool) (k n : ℕ) (name : List ℕ) → name ≡ default_name k → n ≡ kind_named_at text words adopt ns name →
      eqb n 6 ≡ has_default text words adopt ns k
  unfolding has_default
  default_is adopt k n name e q = ap (λ (m : ℕ). eqb m 6) (q ∙ ap (kind_named_at text words adopt ns) e)

-- Whether a kind that may be none is an object type's.
pub some_six : (o : Option ℕ) → option_eq eqb o (Some 6) ≡ eqb (unwrap_or o 0) 6
some_six None = refl
some_six (Some k) = refl

-- ---- The schema.

pub schema_cut : (text words : List ℕ) (adopt : Bool) (ns : List ℕ) (schema : ℕ) (implicit : Bool) → schema ≡ schema_card words ns →
    implicit ≡ is_implicit text words adopt ns
    → schema_rows_at text words adopt ns ≡ (row 4 schema absent ∷ []) ++ schema_lists_at text words adopt ns schema implicit
unfolding schema_rows_at
schema_cut text words adopt ns schema implicit e i = λ j. row 4 (sym e j) absent ∷ schema_lists_at text words adopt ns (sym e j) (sym i j)
