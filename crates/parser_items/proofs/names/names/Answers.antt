use mathlib.Core.Path.{refl, ◌∙◌}
use native.Mathlib.Omega.{arith}
use Rattle.std.specs.Prelude.{Ok, Err}
use Rattle.parser_lexer.specs.Sorts.{sort_number}
use Rattle.parser_lexer.proofs.SortLaws.{differ, differ_not}
use Rattle.parser_values.proofs.Readers.{handed, lies, step_falls}
use Rattle.parser_items.proofs.Items.{begins}
use Rattle.parser_items.proofs.Joined.{rest, absent, opened, refuses, follows, is_last}
use Rattle.parser_items.proofs.names.names.Goals as goal

pub returns-then-ne : goal.returns-then-ne
returns-then-ne c =
    let a = c.args in
    (λ h l t. (absent a.c.text.now (sort_number a.opener) (sort_number a.joiner) a.kind l t a.cards.now (differ a.c.sort a.opener c.ne.ensures c.if-ne.true) refl).0 h, (refl, omega arith))

pub loop-j-init : goal.loop-j-init
loop-j-init c =
    let k = c.take_optional-k.result in
    (refl, omega arith, λ l t. (begins k.text.now (rest l) c.args.cards.now refl).0)

pub name_item-requires : goal.name_item-requires
name_item-requires c = rw (c.loop-j.invariant.0 ∙ c.take_optional-k.ensures.1.0 ∙ c.next-first.ensures.1) c.requires.0

pub returns-in_err-j : goal.returns-in_err-j
returns-in_err-j c =
    let a = c.args in
    let o = c.take_optional-k.ensures in
    let n = c.next-first.ensures in
    let i = c.loop-j.invariant in
    rw (handed _ _ c.from_residual.ensures) (
      λ h l t. (opened a.c.text.now (sort_number a.opener) (sort_number a.joiner) a.kind l t (Err _) c.requires.1 (differ_not a.c.sort a.opener c.ne.ensures c.if-ne.false) refl n
          (λ g. o.0 g 0 (omega arith) l.lead t.leads, o.1)
          (refuses c.take_optional-k.result.text.now (sort_number a.opener) (sort_number a.joiner) a.kind l t (i.2 l t, i.0, i.1) c.in_err-j.ensures)).0 h,
      rw (i.0 ∙ o.1.0 ∙ n.1) at c.in_err-j.ensures.1,
    )

pub returns-then-ne-2 : goal.returns-then-ne-2
returns-then-ne-2 c =
    let a = c.args in
    let o = c.take_optional-k.ensures in
    let n = c.next-first.ensures in
    let i = c.loop-j.invariant in
    let m = c.in_ok-j.ensures.1 in
    let p = lies a.c refl in (
      λ h l t. (opened a.c.text.now (sort_number a.opener) (sort_number a.joiner) a.kind l t (Ok c.in_ok-j.j) c.requires.1 (differ_not a.c.sort a.opener c.ne.ensures c.if-ne.false) refl n
          (λ g. o.0 g 0 (omega arith) l.lead t.leads, o.1)
          (is_last c.take_optional-k.result.text.now (sort_number a.opener) (sort_number a.joiner) a.kind l t (i.2 l t, i.0, i.1) c.in_ok-j.ensures (differ c.in_ok-j.j.sort a.joiner c.ne-in-loop-j.ensures c.if-ne-2.true))).0 h,
      (m.0 ∙ i.0 ∙ o.1.0 ∙ n.1, omega (arith, m.1, i.1, o.1.1, n.2, p.0, p.1)),
    )

pub loop-j-smaller : goal.loop-j-smaller
loop-j-smaller c =
    let i = c.loop-j.invariant in
    let m = c.in_ok-j.ensures.1 in
    let n = c.next-k.ensures in
    let p = lies c.in_ok-j.j refl in
    step_falls c.take_optional-k.result.text.now c.loop-j.k c.next-k.result i.0 (n.1 ∙ m.0, omega (arith, m.1, n.2, p.0, p.1))

pub loop-j-preserved : goal.loop-j-preserved
loop-j-preserved c =
    let a = c.args in
    let i = c.loop-j.invariant in
    let m = c.in_ok-j.ensures.1 in
    let n = c.next-k.ensures in
    let p = lies c.in_ok-j.j refl in (
      n.1 ∙ m.0 ∙ i.0,
      omega (arith, m.1, n.2, p.0, p.1, i.1),
      λ l t. (follows c.take_optional-k.result.text.now (sort_number a.opener) (sort_number a.joiner) a.kind l t (i.2 l t, i.0, i.1) c.in_ok-j.ensures c.requires.2
          (differ_not c.in_ok-j.j.sort a.joiner c.ne-in-loop-j.ensures c.if-ne-2.false) n).0,
    )
