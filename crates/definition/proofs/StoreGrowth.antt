-- Two stores that hold an account and a later one, and a drawing of each: the later drawing shows again what the earlier one showed.
use mathlib.Core.Path.{◌≡◌, refl, sym, ◌∙◌, ap}
use mathlib.Core.List.{List}
use mathlib.Core.Bool.{Bool, true, false}
use mathlib.Core.Option.{some}
use Prim.Native.Nat.{ℕ}
use native.Mathlib.Omega.{arith}
use borrow.Author.Tests.{ne_eqb}
use Rattle.definition.specs.declared.FieldFound.TheVariants.{Explicit}
use Rattle.definition.specs.Lists.{Prefix, choose, flat_map}
use Rattle.definition.specs.Answers.{answer, Found, Subtype, NotSubtype}
use Rattle.definition.specs.Headings.{Heading}
use Rattle.definition.specs.Catalogue.{type_row}
use Rattle.definition.specs.Merge.{merge}
use Rattle.definition.specs.Account.{Account}
use Rattle.definition.specs.LentRows.{held, lent_rows, rows_refusal}
use Rattle.definition.specs.Lookups.{is_row_of, field_named, is_subtype_of, groups}
use Rattle.definition.specs.Outcomes.{BuildOutcome, words_of_error, check_of, check_rows, field_of_type, type_field, subtype_answer, is_subtype}
use Rattle.definition.specs.Calls.{Store}
use Rattle.definition.specs.Growth.{Brings, card_of, place_of, list_of, Names, NamesBefore, ImplementedBy, rows_of, reading_errors_of, documents_in, TypeGrown}
use Rattle.definition.specs.Growth.{Grown, OrderKept}
use Rattle.definition.proofs.Lists.{flat_map_append}
use Rattle.definition.proofs.BuiltWords.{rows_back, row_words_of, reading_words_of}
use Rattle.definition.proofs.BuildsGrow.{errors_begin, card_found, brings_stays, same_place, lists_begin, same_field, same_subtype, same_member}
use Rattle.definition.proofs.GroupOrder.{order_stays}
use Rattle.definition.proofs.RowsPass.{built_unrefused}
use Rattle.definition.proofs.RowsStay.{rows_stay}
use Rattle.definition.proofs.Admitted.{Admitted}
use Rattle.definition.proofs.StoreAgrees.{HoldsIn, sound, same}
use Rattle.definition.proofs.RunPlaces.{Later}

-- ---- An account's own rows, read by its lookups.

rows_read : (a : Account) → lent_rows (row_words_of a) ≡ (merge a.adopt a.documents).rows
unfolding row_words_of
rows_read a = rows_back (merge a.adopt a.documents).rows

module _ (a : Account) (s : Admitted a.documents) where
  unrefused_rows : rows_refusal a.documents (row_words_of a) ≡ 0
  unfolding row_words_of
  unrefused_rows = built_unrefused a.adopt a.documents s.faultless s.cards

  field_over : (n f : List ℕ) → field_of_type a (row_words_of a) n f ≡ field_named (held a.documents) (merge a.adopt a.documents).rows n f
  unfolding field_of_type
  field_over n f = rw (unrefused_rows, rows_read a)

  subtype_over : (n m : List ℕ) → subtype_answer a (row_words_of a) n m ≡
      choose (is_subtype_of (held a.documents) (merge a.adopt a.documents).rows n m) Subtype NotSubtype
  unfolding subtype_answer
  subtype_over n m = rw (unrefused_rows, rows_read a)

  -- A later account passes them too.
  pub rows_pass : (b : Account) → Later a b → check_of b (row_words_of a) ≡ answer 0 0
  unfolding check_of
  rows_pass b l =
      let e : rows_refusal b.documents (row_words_of a) ≡ 0 = rw l.1 (rows_stay a.documents l.0 (row_words_of a) unrefused_rows) in
      rw e

-- ---- Between an account and a later one.

is_subtyped : (b : Bool) → choose b Subtype NotSubtype ≡ Subtype → b ≡ true
is_subtyped true e = refl
is_subtyped false e = cc

module _ (a b : Account) (s : Admitted a.documents) (t : Admitted b.documents) (l : Later a b) where
  errors_grow : Prefix (reading_words_of a) (reading_words_of b)
  unfolding reading_words_of
  errors_grow =
      let g : Prefix (merge a.adopt a.documents).reading_errors (merge b.adopt b.documents).reading_errors =
      rw l.1 (errors_begin a.adopt b.adopt a.documents l.0) in
      (flat_map words_of_error g.0, ap (flat_map words_of_error) g.1 ∙ flat_map_append words_of_error (merge a.adopt a.documents).reading_errors g.0)

  module _ (n : List ℕ) (d : Heading) (h : Brings a.documents n d) where
    order_grows : (i j : ℕ) → ImplementedBy (held a.documents) (lent_rows (row_words_of a)) n i →
        NamesBefore (groups (held a.documents) (lent_rows (row_words_of a))) i j →
        Names (groups (held b.documents) (lent_rows (row_words_of b))) i → Names (groups (held b.documents) (lent_rows (row_words_of b))) j →
        NamesBefore (groups (held b.documents) (lent_rows (row_words_of b))) i j
    order_grows i j = rw (rows_read a, rows_read b, l.1) (order_stays a.adopt b.adopt a.documents l.0 s.cards n d h i j)

    later : Brings b.documents n d
    later = rw l.1 (brings_stays a.documents l.0 n d h)

    place_grows : place_of (held a.documents) (lent_rows (row_words_of a)) n ≡ place_of (held b.documents) (lent_rows (row_words_of b)) n
    place_grows = rw (rows_read a, rows_read b, l.1) (same_place a.adopt b.adopt a.documents l.0 n d h)

    lists_grow : (k : ℕ) → Prefix (list_of (held a.documents) (lent_rows (row_words_of a)) n k) (list_of (held b.documents) (lent_rows (row_words_of b)) n k)
    lists_grow k = rw (rows_read a, rows_read b, l.1) (lists_begin a.adopt b.adopt a.documents l.0 n d h k)

    field_grows : (f : List ℕ) (c : ℕ) → field_of_type a (row_words_of a) n f ≡ Found (Explicit c) → field_of_type b (row_words_of b) n f ≡ Found (Explicit c)
    field_grows f c e =
        field_over b t n f ∙ rw l.1 (same_field a.adopt b.adopt a.documents l.0 n d h f c (sym (field_over a s n f) ∙ e))

    yes : (m : List ℕ) → subtype_answer a (row_words_of a) n m ≡ Subtype → is_subtype_of (held a.documents) (merge a.adopt a.documents).rows n m ≡ true
    yes m e = is_subtyped (is_subtype_of (held a.documents) (merge a.adopt a.documents).rows n m) (sym (subtype_over a s n m) ∙ e)

    yes_again : (m : List ℕ) → is_subtype_of (held b.documents) (merge b.adopt b.documents).rows n m ≡ true → subtype_answer b (row_words_of b) n m ≡ Subtype
    yes_again m e = subtype_over b t n m ∙ ap (λ (q : Bool). choose q Subtype NotSubtype) e

    subtype_grows : (m : List ℕ) (e : Heading) → Brings a.documents m e →
        subtype_answer a (row_words_of a) n m ≡ Subtype → subtype_answer b (row_words_of b) n m ≡ Subtype
    subtype_grows m e i y = yes_again m (rw l.1 (same_subtype a.adopt b.adopt a.documents l.0 n d h m e i (yes m y)))

    no_interface : d.kind ≡ 8 → is_row_of 7 (type_row d) ≡ false
    unfolding is_row_of type_row
    no_interface e = ne_eqb d.kind 7 (λ z. omega arith)

    member_grows : d.kind ≡ 8 → (m : List ℕ) → subtype_answer a (row_words_of a) n m ≡ Subtype → subtype_answer b (row_words_of b) n m ≡ Subtype
    member_grows z m y = yes_again m (rw l.1 (same_member a.adopt b.adopt a.documents l.0 n d h m (no_interface z) (yes m y)))

card_is : (a : Account) (n : List ℕ) (d : Heading) → Brings a.documents n d → card_of (held a.documents) (lent_rows (row_words_of a)) n ≡ some d.number
unfolding card_of type_row
card_is a n d h =
    let c = card_found a.adopt a.documents n d h in
    rw (rows_read a, c.1) (ap (λ r. some r.card) c.2)

-- ---- The same over the stores.

module _ (s : Store) (a : Account) (h : HoldsIn s a) (rows : List ℕ) where
  field_store : (n f : List ℕ) → type_field s.text s.words rows n f ≡ field_of_type a rows n f
  unfolding type_field
  field_store n f = rw (sound s a h, same s a h)

  subtype_store : (n m : List ℕ) → is_subtype s.text s.words rows n m ≡ subtype_answer a rows n m
  unfolding is_subtype
  subtype_store n m = rw (sound s a h, same s a h)

  pub check_store : check_rows s.text s.words rows ≡ check_of a rows
  unfolding check_rows
  check_store = rw (sound s a h, same s a h)

documents_are : (s : Store) (a : Account) → HoldsIn s a → documents_in s ≡ a.documents
documents_are s a h = ap (λ (x : Account). x.documents) (same s a h)

module _ (s t : Store) (a b : Account) (hs : HoldsIn s a) (ht : HoldsIn t b) (l : Later a b) (o p : BuildOutcome)
    (ro : rows_of o ≡ row_words_of a) (rp : rows_of p ≡ row_words_of b) (eo : reading_errors_of o ≡ reading_words_of a) (ep : reading_errors_of p ≡ reading_words_of b) where
  kept : (n : List ℕ) (d : Heading) → Brings (documents_in s) n d → TypeGrown s t o p n d
  kept n d h =
      let u = hs.admitted in
      let v = ht.admitted in
      let g : Brings a.documents n d = rw (documents_are s a hs) at h in
      record {
        card = (
          rw (documents_are s a hs, ro) (card_is a n d g),
          rw (documents_are t b ht, rp) (card_is b n d (later a b u v l n d g)),
        );
        place = rw (documents_are s a hs, documents_are t b ht, ro, rp) (place_grows a b u v l n d g);
        each_list = λ k. rw (documents_are s a hs, documents_are t b ht, ro, rp) (lists_grow a b u v l n d g k);
        field = λ f c e.
            field_store t b ht (rows_of p) n f
            ∙ rw rp (field_grows a b u v l n d g f c (rw ro at (sym (field_store s a hs (rows_of o) n f) ∙ e)));
        subtype = λ m e i y.
            subtype_store t b ht (rows_of p) n m
            ∙ rw rp (subtype_grows a b u v l n d g m e (rw (documents_are s a hs) at i) (rw ro at (sym (subtype_store s a hs (rows_of o) n m) ∙ y)));
        member = λ z m y.
            subtype_store t b ht (rows_of p) n m
            ∙ rw rp (member_grows a b u v l n d g z m (rw ro at (sym (subtype_store s a hs (rows_of o) n m) ∙ y)));
      }

  order_kept : OrderKept s t o p
  order_kept n d h i j =
      rw (documents_are s a hs, documents_are t b ht, ro, rp)
      (order_grows a b hs.admitted ht.admitted l n d (rw (documents_are s a hs) at h) i j)

  pub grown : Grown s t o p × OrderKept s t o p
  grown = (record { types = kept; errors = rw (eo, ep) (errors_grow a b hs.admitted ht.admitted l) }, order_kept)
