use Prim.Native.Nat.{◌+◌, ◌-◌}
use mathlib.Core.Path.{◌≡◌, refl}
use mathlib.Core.List.{[], ◌∷◌}
use native.Mathlib.Omega.{arith}
use Rattle.definition.specs.Grammar.{part, bracket_closes, Bang?}
use Rattle.parser_lexer.proofs.SortLaws.{differs, differs_not}
use Rattle.parser_values.proofs.Readers.{handed, flat, joined, joined_may, stops, optional}
use Rattle.parser_values.proofs.TypeReferences.{is_bang, named_type, list_type, list_fails, list_deep, in_brackets}
use Rattle.parser_values.proofs.types.+type_reference.Goals as goal

pub returns-in_err-k : goal.returns-in_err-k
returns-in_err-k t c =
    rw (handed _ _ c.from_residual.ensures)
    (named_type (differs c.args.c.sort c.ne.ensures c.if-ne.true) (stops (part Bang? ∷ []) (flat (32 - c.args.depth.levels) (omega arith) c.in_err-k.ensures)))

pub returns-then-ne : goal.returns-then-ne
returns-then-ne t c =
    let level = 32 - c.args.depth.levels in
    named_type (differs c.args.c.sort c.ne.ensures c.if-ne.true) (joined_may (flat level (omega arith) c.in_ok-k.ensures)
    (optional level Bang? (omega arith) is_bang c.take_optional.ensures))

pub returns-in_default : goal.returns-in_default
returns-in_default t c = list_deep (differs_not c.args.c.sort c.ne.ensures c.if-ne.false) (omega arith) refl

pub returns-in_err-j : goal.returns-in_err-j
returns-in_err-j t c =
    let one_more_lem : 32 - c.in-Some.inner.levels ≡ 32 - c.args.depth.levels + 1 = omega (arith, c.in-Some.ensures, c.args.depth.most) in
    rw (handed _ _ c.from_residual-in_err-j.ensures)
    (list_fails (differs_not c.args.c.sort c.ne.ensures c.if-ne.false) one_more_lem
    (stops (bracket_closes ∷ []) (in_brackets (differs_not c.args.c.sort c.ne.ensures c.if-ne.false) (omega arith) refl c.next-k.ensures c.in_err-j.ensures)))

pub returns-in_err-e : goal.returns-in_err-e
returns-in_err-e t c =
    let inner = 32 - c.in-Some.inner.levels in
    let one_more_lem : inner ≡ 32 - c.args.depth.levels + 1 = omega (arith, c.in-Some.ensures, c.args.depth.most) in
    let f = in_brackets (differs_not c.args.c.sort c.ne.ensures c.if-ne.false) (omega arith) refl c.next-k.ensures c.in_ok-j.ensures in
    rw (handed _ _ c.from_residual-in_err-e.ensures)
    (list_fails (differs_not c.args.c.sort c.ne.ensures c.if-ne.false) one_more_lem (joined f (flat inner (omega arith) c.in_err-e.ensures)))

pub returns : goal.returns
returns t c =
    let level = 32 - c.args.depth.levels in
    let inner = 32 - c.in-Some.inner.levels in
    let one_more_lem : inner ≡ level + 1 = omega (arith, c.in-Some.ensures, c.args.depth.most) in
    let f = in_brackets (differs_not c.args.c.sort c.ne.ensures c.if-ne.false) (omega arith) refl c.next-k.ensures c.in_ok-j.ensures in
    let g = joined f (flat inner (omega arith) c.in_ok-e.ensures) in
    list_type (differs_not c.args.c.sort c.ne.ensures c.if-ne.false) one_more_lem g (optional level Bang? (omega arith) is_bang c.take_optional-2.ensures)
