-- The part of the store's text that a root's span is holds the name's bytes.
use mathlib.Core.Path.{◌≡◌, refl, sym, ◌∙◌, ap}
use mathlib.Core.List.{List, [], ◌∷◌, ◌++◌}
use mathlib.Core.Bool.{Bool, true, false}
use mathlib.Core.Option.{Option, none, some}
use Prim.Native.Nat.{ℕ, zero, suc, ◌+◌, ◌-◌, ◌≤◌}
use lib.Dec.{eqb}
use lib.ListN.{length, get_elem?}
use native.Mathlib.Nat.{suc-sub-suc, sub-zero, add_comm}
use Rattle.definition.specs.Lists.{All, choose, found}
use Rattle.definition.specs.Names.{bytes_at}
use Rattle.definition.specs.Cards.{Card}
use Rattle.definition.specs.Headings.{Document, NamedCard, name_of, named_card}
use Rattle.definition.specs.Catalogue.{Row}
use Rattle.definition.specs.declared.OperationType.{OperationType}
use Rattle.definition.specs.Account.{Account}
use Rattle.definition.specs.LentRows.{cards_named, held_from, held, lent_rows, name_numbered, rows_refusal}
use Rattle.definition.specs.Lookups.{Span, span, span_in, root_card, root_row, root_span}
use Rattle.definition.specs.Outcomes.{RootName, no_root, root_bytes, root_of, part_of}
use Rattle.definition.proofs.CleanCards.{Faultless, name_in_text}
use Rattle.definition.proofs.StoreLayout.{text_of, bytes_inside, text_here, text_next, length_next}

named_here : (t : List ℕ) (k : ℕ) (cs : List Card) (rest : List NamedCard) (n : ℕ) (c : Card) → get_elem? cs n ≡ some c →
    name_numbered (cards_named t k cs ++ rest) n ≡ bytes_at t c.name_at c.name_len
unfolding name_numbered cards_named named_card name_of
named_here t k [] rest n c e = absurd cc
named_here t k (x ∷ cs) rest zero c e = let same : x ≡ c = cc in ap (λ (x : Card). bytes_at t x.name_at x.name_len) same
named_here t k (x ∷ cs) rest (suc n) c e = named_here t (k + 1) cs rest n c e

named_later : (t : List ℕ) (k : ℕ) (cs : List Card) (rest : List NamedCard) (n : ℕ) → get_elem? cs n ≡ none →
    name_numbered (cards_named t k cs ++ rest) n ≡ name_numbered rest (n - length cs)
unfolding name_numbered cards_named
named_later t k [] rest n e = ap (name_numbered rest) (sym (sub-zero n))
named_later t k (x ∷ cs) rest zero e = absurd cc
named_later t k (x ∷ cs) rest (suc n) e = named_later t (k + 1) cs rest n e ∙ ap (name_numbered rest) (sym (suc-sub-suc n (length cs)))

span_here : (at : ℕ) (d : Document) (ds : List Document) (n : ℕ) (c : Card) → get_elem? d.cards n ≡ some c →
    span_in at (d ∷ ds) n ≡ span (at + c.name_at) c.name_len
unfolding span_in
span_here at d ds n c e = rw e

span_later : (at : ℕ) (d : Document) (ds : List Document) (n : ℕ) → get_elem? d.cards n ≡ none →
    span_in at (d ∷ ds) n ≡ span_in (at + length d.text) ds (n - length d.cards)
unfolding span_in
span_later at d ds n e = rw e

held_cons : (k : ℕ) (d : Document) (ds : List Document) → held_from k (d ∷ ds) ≡ cards_named d.text k d.cards ++ held_from (k + length d.cards) ds
unfolding held_from
held_cons k d ds = refl

bytes_of : List ℕ → Span → List ℕ
bytes_of text s = bytes_at text s.at s.size

span_at : (text : List ℕ) (at n m : ℕ) → bytes_of text (span (at + n) m) ≡ bytes_at text (n + at) m
unfolding bytes_of span
span_at text at n m = ap (λ (j : ℕ). bytes_at text j m) (add_comm at n)

span_bytes : (pre post : List ℕ) (at k : ℕ) (ds : List Document) (n : ℕ) → length pre ≡ at → All Faultless ds →
    bytes_of (pre ++ (text_of ds ++ post)) (span_in at ds n) ≡ name_numbered (held_from k ds) n
unfolding bytes_of
span_bytes pre post at k [] n p f = unfold span_in span held_from name_numbered bytes_at in refl
span_bytes pre post at k (d ∷ ds) n p f = go (get_elem? d.cards n) refl
    (span_bytes (pre ++ d.text) post (at + length d.text) (k + length d.cards) ds (n - length d.cards) (length_next pre at d p) f.1)
  where
    later : List NamedCard
    later = held_from (k + length d.cards) ds

    go : (o : Option Card) → get_elem? d.cards n ≡ o →
        bytes_of ((pre ++ d.text) ++ (text_of ds ++ post)) (span_in (at + length d.text) ds (n - length d.cards)) ≡
        name_numbered later (n - length d.cards) →
        bytes_of (pre ++ (text_of (d ∷ ds) ++ post)) (span_in at (d ∷ ds) n) ≡ name_numbered (held_from k (d ∷ ds)) n
    go (some c) e ih =
        let w : c.name_at + c.name_len ≤ length d.text = name_in_text d n c f.0 e in
        ap (bytes_of (pre ++ (text_of (d ∷ ds) ++ post))) (span_here at d ds n c e)
        ∙ span_at (pre ++ (text_of (d ∷ ds) ++ post)) at c.name_at c.name_len
        ∙ ap (λ (t : List ℕ). bytes_at t (c.name_at + at) c.name_len) (text_here pre post d ds)
        ∙ bytes_inside pre d.text (text_of ds ++ post) at c.name_at c.name_len p w
        ∙ sym (named_here d.text k d.cards later n c e)
        ∙ ap (λ (l : List NamedCard). name_numbered l n) (sym (held_cons k d ds))
    go none e ih =
        ap (bytes_of (pre ++ (text_of (d ∷ ds) ++ post))) (span_later at d ds n e)
        ∙ ap (λ (t : List ℕ). bytes_of t (span_in (at + length d.text) ds (n - length d.cards))) (text_next pre post d ds)
        ∙ ih
        ∙ sym (named_later d.text k d.cards later n e)
        ∙ ap (λ (l : List NamedCard). name_numbered l n) (sym (held_cons k d ds))

root_bytes_lem : (text after : List ℕ) (ds : List Document) (rs : List Row) (op : OperationType) → text ≡ text_of ds ++ after → All Faultless ds →
    bytes_of text (root_span ds (held ds) rs op) ≡ root_bytes (held ds) rs op
unfolding root_span root_bytes held
root_bytes_lem text after ds rs op l f = go (root_row rs op)
  where
    go : (o : Option Row) →
        bytes_of text (found o (λ r. span_in 0 ds (root_card (held_from 0 ds) rs r)) (span 0 0)) ≡
        found o (λ r. name_numbered (held_from 0 ds) (root_card (held_from 0 ds) rs r)) []
    go none = unfold bytes_of span bytes_at in refl
    go (some r) = ap (λ (t : List ℕ). bytes_of t (span_in 0 ds (root_card (held_from 0 ds) rs r))) l
        ∙ span_bytes [] after 0 0 ds (root_card (held_from 0 ds) rs r) refl f

pub root_part : (text after : List ℕ) (a : Account) (rows : List ℕ) (op : OperationType) → text ≡ text_of a.documents ++ after →
    All Faultless a.documents →
    part_of text (root_of a rows op).part ≡ root_of a rows op
unfolding root_of part_of bytes_of
root_part text after a rows op l f = go (eqb (rows_refusal a.documents rows) 0)
  where
    done : RootName
    done = record { bytes = root_bytes (held a.documents) (lent_rows rows) op; part = root_span a.documents (held a.documents) (lent_rows rows) op }

    go : (b : Bool) → part_of text (choose b done no_root).part ≡ choose b done no_root
    go true = λ i. record {
      bytes = root_bytes_lem text after a.documents (lent_rows rows) op l f i;
      part = root_span a.documents (held a.documents) (lent_rows rows) op;
    }
    go false = unfold no_root span bytes_at in refl
