use mathlib.Core.Path.{◌≡◌, refl}
use mathlib.Core.Bool.{Bool, true, false}
use Prim.Native.Nat.{ℕ, ◌≤◌}
use native.Mathlib.Omega.{arith}
use mathlib.Core.List.{[], ◌∷◌}
use Rattle.definition.specs.Grammar.{part, within, Implements?, DirectiveUse*}
use Rattle.parser_laws.proofs.Tests.{within_is, within_bounds}
use Rattle.parser_values.proofs.Readers.{handed}
use Rattle.parser_items.proofs.Items.{begins, list_on, list_ends, list_fails}
use Rattle.parser.specs.Symbols.{last_of, body_of}
use Rattle.parser.proofs.bodies.body.Goals as goal

outside : (k : ℕ) → (6 ≤ k → k ≤ 7 → ⊥) → within 6 7 k ≡ false
outside k f = go (within 6 7 k) refl
  where
    go : (t : Bool) → within 6 7 k ≡ t → t ≡ false
    go true w = let b = within_bounds 6 7 k w in absurd (f b.0 b.1)
    go false w = refl

pub returns-in_default : goal.returns-in_default
unfolding body_of
returns-in_default c = rw (outside c.args.kind (λ l u. absurd (omega arith))) c.uses_and_last-in_default.ensures

pub returns-in_err-k-in-6-to-7 : goal.returns-in_err-k-in-6-to-7
unfolding body_of
returns-in_err-k-in-6-to-7 c =
    let a = c.args in
    let text = a.c.text.now in
    let us = part DirectiveUse* ∷ last_of a.kind in
    rw (handed _ _ c.from_residual.ensures, within_is 6 7 a.kind (omega arith) (omega arith))
    (list_fails text (part Implements? ∷ us) (part Implements? ∷ []) us (begins text (part Implements? ∷ us) a.cards.now refl) c.in_err-k-in-6-to-7.ensures)

pub uses_and_last-requires : goal.uses_and_last-requires
uses_and_last-requires c = rw c.in_ok-k-in-6-to-7.ensures.1.0 c.requires

pub returns-in_ok-k-in-6-to-7 : goal.returns-in_ok-k-in-6-to-7
unfolding body_of
returns-in_ok-k-in-6-to-7 c =
    let a = c.args in
    let text = a.c.text.now in
    let e = c.uses_and_last in
    let us = part DirectiveUse* ∷ last_of a.kind in
    let ps = part Implements? ∷ us in
    let begun = list_on text ps (part Implements? ∷ []) us (begins text ps a.cards.now refl) c.in_ok-k-in-6-to-7.ensures in
    rw (within_is 6 7 a.kind (omega arith) (omega arith))
    (list_ends text ps us e.result begun e.ensures)
