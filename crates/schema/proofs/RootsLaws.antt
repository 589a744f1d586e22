-- Root operations: which row is the root, and which card has its name.
use mathlib.Core.Path.{◌≡◌, sym, ◌∙◌, ap}
use mathlib.Core.List.{List, []}
use mathlib.Core.Bool.{true, false}
use mathlib.Core.Option.{Option, none, some}
use Prim.Native.Nat.{ℕ, ◌+◌, ◌*◌, ◌/◌, ◌<◌, ◌≤◌}
use borrow.Author.Tests.{eq-eqb, ne_eqb, eqb-true, leb-true}
use lib.Dec.{leb}
use lib.ListN.{length, get_or}
use Rattle.definition.specs.declared.OperationType.{OperationType}
use Rattle.definition.specs.declared.OperationType.TheVariants.{Query, Mutation, Subscription}
use Rattle.definition.specs.Lists.{found, find}
use Rattle.definition.specs.Names.{same_name}
use Rattle.definition.specs.Answers.{absent, root_kind}
use Rattle.definition.specs.Cards.{is_root}
use Rattle.definition.specs.Headings.{NamedCard}
use Rattle.definition.specs.Catalogue.{Row, default_name}
use Rattle.definition.specs.Store.{account_in, too_short, sound}
use Rattle.definition.specs.LentRows.{held, lent_rows, is_type_row_named, first_type_row}
use Rattle.definition.specs.Lookups.{span, is_row_of, root_card, root_row, root_span, is_query_root}
use Rattle.definition.specs.Outcomes.{part_of}
use Rattle.definition.proofs.Lists.{split}
use Rattle.definition.proofs.Tests.{and_true}
use Rattle.store_reader.specs.Stored.{stored_parts, card_name}
use Rattle.store_reader.proofs.Lists.{bytes_none}
use Rattle.store_reader.proofs.Laws.{held_stored, span_bytes}
use Rattle.store_reader.proofs.Words.{name_stored}
use Rattle.schema_rows.specs.Rows.{row_at, found_from}
use Rattle.std.specs.Prelude.{Some, None}
use Rattle.schema_rows.proofs.Rows.{found_none, found_some, hit_inside, hit_row}

-- ---- Roots.

pub root_range : (k : ℕ) → is_root k ≡ true → (26 ≤ k) × (k ≤ 28)
unfolding is_root
root_range k e = let a = and_true (leb 26 k) (leb k 28) e in (leb-true 26 k a.0, leb-true k 28 a.1)

root_is_root : (op : OperationType) (k : ℕ) → k ≡ root_kind op → is_root k ≡ true
unfolding is_root
root_is_root Query k e = rw e
root_is_root Mutation k e = rw e
root_is_root Subscription k e = rw e

module _ (rows : List ℕ) (op : OperationType) (kind : ℕ) (k : kind ≡ root_kind op) where
  pub root_none : found_from (is_row_of kind) 0 (lent_rows rows) ≡ None → root_row (lent_rows rows) op ≡ none
  unfolding root_row
  root_none e = ap (λ (k : ℕ). find (is_row_of k) (lent_rows rows)) (sym k) ∙ found_none (is_row_of kind) 0 (lent_rows rows) e

  module _ (i : ℕ) (e : found_from (is_row_of kind) 0 (lent_rows rows) ≡ Some i) where
    pub root_inside : i < length rows / 3
    root_inside = hit_inside rows _ i (found_some (is_row_of kind) 0 (lent_rows rows) i e)

    first_root : find (is_row_of kind) (lent_rows rows) ≡ some (row_at rows i)
    first_root = hit_row rows _ i (found_some (is_row_of kind) 0 (lent_rows rows) i e)

    pub root_some : root_row (lent_rows rows) op ≡ some (row_at rows i)
    unfolding root_row
    root_some = ap (λ (k : ℕ). find (is_row_of k) (lent_rows rows)) (sym k) ∙ first_root

    pub root_what : is_root (get_or rows (3 * i) 0) ≡ true
    unfolding is_row_of
    root_what = root_is_root op _ (eqb-true _ _ (split (is_row_of kind) (lent_rows rows) (row_at rows i) first_root).passes ∙ k)

module _ (cs : List NamedCard) (rows : List ℕ) (r : Row) where
  pub card_own : (r.card ≡ absent → ⊥) → r.card ≡ root_card cs (lent_rows rows) r
  unfolding root_card
  card_own e = rw (ne_eqb _ _ e)

  module _ (e : r.card ≡ absent) where
    pub card_default : root_card cs (lent_rows rows) r
        ≡ found (first_type_row cs (lent_rows rows) (default_name (r.what))) (λ t. t.card) absent
    unfolding root_card
    card_default = rw (eq-eqb _ _ e)

    pub card_none : found_from (is_type_row_named cs (default_name (r.what))) 0 (lent_rows rows) ≡ None →
        absent ≡ root_card cs (lent_rows rows) r
    unfolding first_type_row
    card_none f = sym (card_default ∙ ap (λ (o : Option Row). found o (λ t. t.card) absent) (found_none _ 0 (lent_rows rows) f))

    module _ (t : ℕ) (f : found_from (is_type_row_named cs (default_name (r.what))) 0 (lent_rows rows) ≡ Some t) where
      pub card_object : get_or rows (3 * t + 1) 0 ≡ root_card cs (lent_rows rows) r
      unfolding first_type_row
      card_object = sym (card_default ∙ ap (λ (o : Option Row). found o (λ t. t.card) absent) (hit_row rows _ t (found_some _ 0 (lent_rows rows) t f)))

-- The part of the text that is handed back.
module _ (text words rows : List ℕ) (op : OperationType) (ok : sound text words ≡ true) (long : too_short text words ≡ false) where
  pub root_empty : root_row (lent_rows rows) op ≡ none →
      [] ≡ (part_of text (root_span (account_in text words).documents (held (account_in text words).documents) (lent_rows rows) op)).bytes
  unfolding root_span part_of span
  root_empty e = rw e (sym (bytes_none text 0))

  pub root_named_lem : (i : ℕ) → root_row (lent_rows rows) op ≡ some (row_at rows i) →
      card_name text words (root_card (stored_parts text words) (lent_rows rows) (row_at rows i)) ≡
      (part_of text (root_span (account_in text words).documents (held (account_in text words).documents) (lent_rows rows) op)).bytes
  unfolding root_span part_of
  root_named_lem i e =
      rw e (
      ap (λ (cs : List NamedCard). card_name text words (root_card cs (lent_rows rows) (row_at rows i))) (sym (held_stored text words ok))
      ∙ sym (span_bytes text words ok long (root_card (held (account_in text words).documents) (lent_rows rows) (row_at rows i))))

-- ---- The query root.

module _ (text words rows : List ℕ) (name : List ℕ) where
  pub query_none : root_row (lent_rows rows) Query ≡ none → false ≡ is_query_root (stored_parts text words) (lent_rows rows) name
  unfolding is_query_root
  query_none e = rw e

  pub query_named : (i : ℕ) → root_row (lent_rows rows) Query ≡ some (row_at rows i) →
      same_name name (card_name text words (root_card (stored_parts text words) (lent_rows rows) (row_at rows i)))
      ≡ is_query_root (stored_parts text words) (lent_rows rows) name
  unfolding is_query_root
  query_named i e = rw e (ap (same_name name) (sym (name_stored text words (root_card (stored_parts text words) (lent_rows rows) (row_at rows i)))))
