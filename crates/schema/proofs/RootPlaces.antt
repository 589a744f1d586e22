-- Where the name of a root operation stands in the store's text: for rows that 26 does not refuse, the definition's span is the one that the words give.
-- (An absent name has no place of its own, so that a card of a kind without a name is to be ruled out first.)
use mathlib.Core.Path.{◌≡◌, refl, sym, ◌∙◌, ap, subst}
use mathlib.Core.List.{List, []}
use mathlib.Core.Bool.{Bool, true, false}
use mathlib.Core.Option.{Option, none, some}
use Prim.Native.Nat.{ℕ, zero, suc, ◌+◌, ◌*◌, ◌/◌, ◌<◌, ◌≤◌}
use native.Mathlib.Omega.{arith}
use borrow.Author.Tests.{ne_eqb, eqb-true, eqb-false, leb-true, lt-ltb, ltb-true, ltb-false}
use lib.Dec.{eqb, leb, ltb}
use lib.ListN.{length, get_or}
use denote.Ref.{Bor}
use Rattle.definition.specs.declared.OperationType.{OperationType}
use Rattle.definition.specs.Lists.{found}
use Rattle.definition.specs.Names.{bytes_at, bytes}
use Rattle.definition.specs.Answers.{absent}
use Rattle.definition.specs.Cards.{is_root, is_type}
use Rattle.definition.specs.Headings.{NamedCard}
use Rattle.definition.specs.Catalogue.{Row, default_name}
use Rattle.definition.specs.Store.{account_in, cards_used_of, too_short, sound}
use Rattle.definition.specs.LentRows.{lent_rows, is_type_row, is_row_named, is_type_row_named, first_type_row, wanted_kind}
use Rattle.definition.specs.Lookups.{span, span_in, root_card, root_row, root_span}
use Rattle.definition.proofs.Lists.{split, same_name_eq}
use Rattle.definition.proofs.Tests.{and_true}
use Rattle.ast.specs.Cards.{name_at_word, name_len_word}
use Rattle.store_reader.specs.Cards.{name_start, name_size, card_name, NamePart}
use Rattle.store_reader.specs.Stored.{stored_parts, card_kind, may_lack_name}
use Rattle.store_reader.proofs.Lists.{all_get, bytes_none}
use Rattle.store_reader.proofs.Spans.{bytes_length}
use Rattle.store_reader.proofs.Sound.{long}
use Rattle.store_reader.proofs.Laws.{cards_fit_lem, text_fits_lem, held_stored, name_inside, span_stored, span_present, span_past}
use Rattle.store_reader.proofs.Words.{word_past, name_stored}
use Rattle.schema_rows.specs.Rows.{row_at}
use Rattle.schema_rows.specs.Passing.{card_fits, row_passes}
use Rattle.schema_rows.proofs.Passing.{card_is, row_passed}
use Rattle.schema_rows.proofs.Rows.{row_get}
use Rattle.schema_rows.proofs.RowsWithCards.{accepted}
use Rattle.schema.specs.InStore.{root_card_at, root_span_in, IsSpan, RowsPass}
use Rattle.schema.proofs.RootsLaws.{root_range, card_own, card_default}

-- ---- Roots have names.

root_no_type : (k : ℕ) → is_root k ≡ true → is_type k ≡ false
unfolding is_type
root_no_type k e = go (is_type k) refl
  where
    go : (b : Bool) → is_type k ≡ b → b ≡ false
    go false t = refl
    go true t = absurd (
        let r = root_range k e in
        let a = and_true (leb 5 k) (leb k 10) t in
        let l : k ≤ 10 = leb-true k 10 a.1 in
        omega arith)

-- A row that is no type has a card of its own kind.
wanted_own : (r : Row) → is_type r.what ≡ false → wanted_kind r ≡ r.what
unfolding wanted_kind is_type_row
wanted_own r e = rw e

root_named_lem : (k : ℕ) → is_root k ≡ true → may_lack_name k ≡ false
unfolding may_lack_name
root_named_lem k e =
    let r = root_range k e in
    rw (ne_eqb k 1 (λ q. omega arith), ne_eqb k 4 (λ q. omega arith), ne_eqb k 11 (λ q. omega arith))

default_long : (k : ℕ) → is_root k ≡ true → 0 < length (default_name k)
unfolding default_name bytes
default_long k e = go (eqb k 26) (eqb k 27) (eqb k 28) refl refl refl
  where
    go : (a b c : Bool) → eqb k 26 ≡ a → eqb k 27 ≡ b → eqb k 28 ≡ c → 0 < length (default_name k)
    go true b c s t u = rw s (omega arith)
    go false true c s t u = rw (s, t) (omega arith)
    go false false true s t u = rw (s, t, u) (omega arith)
    go false false false s t u = absurd (
        let r = root_range k e in
        let x = eqb-false k 26 s in
        let y = eqb-false k 27 t in
        let z = eqb-false k 28 u in
        omega arith)

-- A span with bytes has a size.
sized : (text : List ℕ) (at size : ℕ) (name : List ℕ) → name ≡ bytes_at text at size → 0 < length name → 0 < size
sized text at zero name e l = absurd (let q = ap length e in let z = ap length (bytes_none text at) in omega arith)
sized text at (suc size) name e l = omega arith

-- ---- The card that has the root's name.

module _ (text words rows : List ℕ) (ok : sound text words ≡ true) (big : too_short text words ≡ false) (pass : RowsPass text words rows) (i : ℕ)
    (inside : i < length rows / 3) (root : is_root (get_or rows (3 * i) 0) ≡ true) where
  abbrev Stands : ℕ → Type 0
  Stands n = span_in 0 (account_in text words).documents n ≡ span (name_start words n) (name_size words n)

  -- A root's own card is of the root's kind.
  own_kind : (get_or rows (3 * i + 1) 0 ≡ absent → ⊥) → get_or rows (3 * i + 1) 0 < cards_used_of words →
      card_kind words (get_or rows (3 * i + 1) 0) ≡ get_or rows (3 * i) 0
  unfolding card_fits
  own_kind e l =
      let what = get_or rows (3 * i) 0 in
      let card = get_or rows (3 * i + 1) 0 in
      let origin = get_or rows (3 * i + 2) 0 in
      let p =
      row_passed (stored_parts text words) (lent_rows rows) (row_at rows i)
      (all_get (λ r. row_passes (stored_parts text words) (lent_rows rows) r ≡ true) (lent_rows rows) (accepted text words rows ok pass).each i (row_at rows i)
      (row_get rows i inside)) in
      let f : card_fits words (row_at rows i) ≡ true = card_is what card origin words text ∙ p in
      let k : eqb (card_kind words card) (wanted_kind (row_at rows i)) ≡ true = rw (ne_eqb card absent e, lt-ltb card (cards_used_of words) l) at f in
      eqb-true _ _ k ∙ wanted_own (row_at rows i) (root_no_type what root)

  own_stands : (get_or rows (3 * i + 1) 0 ≡ absent → ⊥) → get_or rows (3 * i + 1) 0 < cards_used_of words → Stands (get_or rows (3 * i + 1) 0)
  own_stands e l = span_stored text words ok (get_or rows (3 * i + 1) 0) l big (ap may_lack_name (own_kind e l) ∙ root_named_lem (get_or rows (3 * i) 0) root)

  -- A default root's object has the default name, which is not empty.
  object_stands : (t : Row) → first_type_row (stored_parts text words) (lent_rows rows) (default_name (get_or rows (3 * i) 0)) ≡ some t → t.card < cards_used_of words →
      Stands t.card
  unfolding first_type_row is_type_row_named is_row_named card_name
  object_stands t e l =
      let name = default_name (get_or rows (3 * i) 0) in
      let cs = stored_parts text words in
      let h = (split (is_type_row_named cs name) (lent_rows rows) t e).passes in
      let q = same_name_eq name _ (and_true (is_type_row t) _ h).1 ∙ name_stored text words t.card in
      span_present text words ok t.card l big (sized text (name_start words t.card) (name_size words t.card) name q (default_long (get_or rows (3 * i) 0) root))

  root_stands : root_card_at text words rows i < cards_used_of words → Stands (root_card_at text words rows i)
  root_stands l = go (eqb (get_or rows (3 * i + 1) 0) absent) refl
    where
      n : ℕ
      n = root_card_at text words rows i

      object : get_or rows (3 * i + 1) 0 ≡ absent → (o : Option Row) →
          first_type_row (stored_parts text words) (lent_rows rows) (default_name (get_or rows (3 * i) 0)) ≡ o → Stands n
      object e none f =
          let q : n ≡ absent = card_default (stored_parts text words) rows (row_at rows i) e ∙ ap (λ (o : Option Row). found o (λ t. t.card) absent) f in
          absurd (let c = cards_fit_lem text words ok in omega arith)
      object e (some t) f =
          let q : n ≡ t.card = card_default (stored_parts text words) rows (row_at rows i) e ∙ ap (λ (o : Option Row). found o (λ t. t.card) absent) f in
          subst Stands (sym q) (object_stands t f (omega arith))

      go : (b : Bool) → eqb (get_or rows (3 * i + 1) 0) absent ≡ b → Stands n
      go true s = object (eqb-true _ absent s) _ refl
      go false s =
          let e = eqb-false _ absent s in
          let q : get_or rows (3 * i + 1) 0 ≡ n = card_own (stored_parts text words) rows (row_at rows i) e in
          subst Stands q (own_stands e (omega arith))

  -- A card that is not stored has no name, and stands at the text's beginning.
  any_stands : Stands (root_card_at text words rows i)
  unfolding name_start name_size
  any_stands = go (ltb n (cards_used_of words)) refl
    where
      n : ℕ
      n = root_card_at text words rows i

      go : (b : Bool) → ltb n (cards_used_of words) ≡ b → span_in 0 (account_in text words).documents n ≡ span (name_start words n) (name_size words n)
      go true s = root_stands (ltb-true n (cards_used_of words) s)
      go false s =
          let h = ltb-false n (cards_used_of words) s in
          span_past text words ok big n h ∙ sym (λ j. span (word_past words n name_at_word h j) (word_past words n name_len_word h j))

-- The name of a card lies in the text.
name_fits_lem : (text words : List ℕ) → sound text words ≡ true → too_short text words ≡ false → (n : ℕ) →
    name_start words n + name_size words n ≤ length text
unfolding name_start name_size
name_fits_lem text words ok big n = go (ltb n (cards_used_of words)) refl
  where
    go : (b : Bool) → ltb n (cards_used_of words) ≡ b → name_start words n + name_size words n ≤ length text
    go true s =
        let a = name_inside text words ok n (ltb-true n (cards_used_of words) s) in
        let b = text_fits_lem text words ok in
        let c = (long text words big).0 in
        omega arith
    go false s =
        let h = ltb-false n (cards_used_of words) s in
        let a = word_past words n name_at_word h in
        let b = word_past words n name_len_word h in
        omega arith

-- ---- The part that is handed back.

module _ (text part : Bor (List ℕ)) (words rows : List ℕ) (op : OperationType) where
  pub none_part : root_row (lent_rows rows) op ≡ none → part.ref_ptr.0 ≡ text.ref_ptr.0 → part.ref_ptr.1 ≡ text.ref_ptr.1 + 0 → part.now ≡ [] →
      IsSpan text part (root_span_in text.now words rows op)
  unfolding root_span span
  none_part e b p n = rw e (record { block = b; place = p; size = ap length n })

  module _ (ok : sound text.now words ≡ true) (big : too_short text.now words ≡ false) (pass : RowsPass text.now words rows) (i : ℕ)
      (inside : i < length rows / 3) (root : is_root (get_or rows (3 * i) 0) ≡ true) (e : root_row (lent_rows rows) op ≡ some (row_at rows i)) where
    abbrev n : ℕ
    n = root_card_at text.now words rows i

    root_span_lem : root_span_in text.now words rows op ≡ span (name_start words n) (name_size words n)
    unfolding root_span
    root_span_lem =
        rw e (
        ap (λ (cs : List NamedCard). span_in 0 (account_in text.now words).documents (root_card cs (lent_rows rows) (row_at rows i)))
        (held_stored text.now words ok)
        ∙ any_stands text.now words rows ok big pass i inside root)

    pub named_part : NamePart text words n part → IsSpan text part (root_span_in text.now words rows op)
    unfolding span
    named_part p =
        let f = name_fits_lem text.now words ok big n in
        subst (IsSpan text part) (sym root_span_lem) (record {
          block = p.block;
          place = p.place (omega arith);
          size = ap length p.bytes ∙ bytes_length text.now (name_start words n) (name_size words n) f;
        })
