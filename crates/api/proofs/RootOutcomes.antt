-- The outcome of `root_operation`, return by return. n is the refusal that was computed.
use mathlib.Core.Path.{◌≡◌, sym, ◌∙◌, ap}
use mathlib.Core.List.{List, []}
use Prim.Native.Nat.{ℕ, ◌+◌, ◌-◌}
use native.Mathlib.Omega.{arith}
use borrow.Author.Tests.{ne_eqb}
use lib.ListN.{length}
use denote.Ref.{Bor}
use Rattle.definition.specs.declared.OperationType.{OperationType}
use Rattle.definition.specs.Lookups.{span}
use Rattle.definition.specs.Outcomes.{RootName, no_root, part_of, root_operation}
use Rattle.schema.specs.InStore.{root_span_in, root_name, IsSpan}
use Rattle.api.specs.LookupRefusal.{lookup_refusal}
use Rattle.api.specs.Promised.{part_in, LiesIn, NamesRoot}
use Rattle.api.proofs.LookupOutcomes.{root_operation_by}

module _ (text part : Bor (List ℕ)) where
  -- Where a slice begins and what it holds is which part of the text it is.
  part_is : (name : RootName) → part.now ≡ name.bytes → IsSpan text part name.part → (part_in text part ≡ name) × LiesIn text part
  unfolding span
  part_is name e s =
      let p = s.place in
      let at : part.ref_ptr.1 - text.ref_ptr.1 ≡ name.part.at = omega arith in
      (λ i. record { bytes = e i; part = record { at = at i; size = s.size i } }, (s.block, omega arith))

  module _ (words rows : List ℕ) (op : OperationType) (n : ℕ) (e : n ≡ lookup_refusal text.now words rows) where
    pub root_refused : (n ≡ 0 → ⊥) → part.ref_ptr.0 ≡ text.ref_ptr.0 → part.ref_ptr.1 ≡ text.ref_ptr.1 + 0 → part.now ≡ [] →
        NamesRoot text.now words rows op (part_in text part) × LiesIn text part
    unfolding no_root span
    root_refused z b p f =
        let o : root_operation text.now words rows op ≡ no_root = rw (root_operation_by text.now words rows op, ← e, ne_eqb n 0 z) in
        let q = part_is no_root f (record { block = b; place = p; size = ap length f }) in
        (q.0 ∙ sym o, q.1)

    pub root_done : n ≡ 0 → part.now ≡ root_name text.now words rows op → IsSpan text part (root_span_in text.now words rows op) →
        NamesRoot text.now words rows op (part_in text part) × LiesIn text part
    unfolding part_of
    root_done z f s =
        let o : root_operation text.now words rows op ≡ part_of text.now (root_span_in text.now words rows op) = rw (root_operation_by text.now words rows op, ← e, z) in
        let q = part_is (part_of text.now (root_span_in text.now words rows op)) f s in
        (q.0 ∙ sym o, q.1)
