use mathlib.Core.Path.{◌≡◌, sym, ap, ◌∙◌}
use mathlib.Core.Bool.{Bool, false, not}
use Prim.Native.Nat.{ℕ}
use native.Mathlib.Omega.{arith}
use borrow.Author.Tests.{le-leb, lt-leb, ne_eqb}
use lib.Dec.{eqb, leb}
use Rattle.definition.specs.Lists.{choose}
use Rattle.definition.specs.Machine.{has, first_set_of}
use Rattle.parser_lexer.specs.declared.sorts.Sort.{Sort}
use Rattle.parser_lexer.specs.declared.sorts.Sort.TheVariants as S
use Rattle.parser_lexer.specs.Sorts.{sort_number}
use Rattle.parser_lexer.proofs.SortLaws.{one_sort}
use Rattle.parser.specs.Symbols.{more_of}
use Rattle.parser.proofs.ByKind.{by_at, by_equals, by_brace, by_implements, by_nothing}
use Rattle.parser.proofs.bodies.begins_more.Goals as goal

-- What an extension of a kind begins with, where the sort is known.
known : (k : ℕ) {s t : Sort} {b : Bool} → s ≡ t → has (first_set_of (more_of k)) (sort_number t) ≡ b → b ≡ has (first_set_of (more_of k)) (sort_number s)
known k e f = sym (ap (λ (s : Sort). has (first_set_of (more_of k)) (sort_number s)) e ∙ f)

pub returns-in-At : goal.returns-in-At
returns-in-At c = known c.args.kind c.in-At.is (by_at c.args.kind c.requires.0 c.requires.1)

pub returns-in-Equals : goal.returns-in-Equals
returns-in-Equals c = known c.args.kind c.in-Equals.is (by_equals c.args.kind c.requires.0 c.requires.1)

-- What the test of a kind comes to at one kind.
at_kind : {k : ℕ} (n : ℕ) {b : Bool} → b ≡ choose (leb k 5) false (not (eqb k 8)) → k ≡ n → b ≡ choose (leb n 5) false (not (eqb n 8))
at_kind n f e = f ∙ ap (λ (n : ℕ). choose (leb n 5) false (not (eqb n 8))) e

pub returns-in-5 : goal.returns-in-5
returns-in-5 c =
    let k = c.args.kind in
    known k c.in-BraceOpens.is (at_kind 5 (by_brace k c.requires.0 c.requires.1) c.in-5.is)

pub returns-in-8 : goal.returns-in-8
returns-in-8 c =
    let k = c.args.kind in
    known k c.in-BraceOpens.is (at_kind 8 (by_brace k c.requires.0 c.requires.1) c.in-8.is)

pub returns-in_default-kind : goal.returns-in_default-kind
returns-in_default-kind c =
    let k = c.args.kind in
    let union : k ≡ 8 → ⊥ = λ e. omega (arith, e) in
    known k c.in-BraceOpens.is (by_brace k c.requires.0 c.requires.1 ∙ rw (lt-leb k 5 (omega arith), ne_eqb k 8 union))

pub returns-in-6 : goal.returns-in-6
returns-in-6 c =
    let k = c.args.kind in
    known k c.in-Implements.is (by_implements k c.requires.0 c.requires.1 ∙ rw (lt-leb k 5 (omega arith), le-leb k 7 (omega arith)))

pub returns-in_default-kind-2 : goal.returns-in_default-kind-2
returns-in_default-kind-2 c =
    let k = c.args.kind in
    known k c.in-Implements.is (by_implements k c.requires.0 c.requires.1 ∙ rw (le-leb k 5 (omega arith)))

pub returns-in_default-kind-2-2 : goal.returns-in_default-kind-2-2
returns-in_default-kind-2-2 c =
    let k = c.args.kind in
    known k c.in-Implements.is (by_implements k c.requires.0 c.requires.1 ∙ rw (lt-leb k 5 (omega arith), lt-leb k 7 (omega arith)))

pub returns-in_default : goal.returns-in_default
returns-in_default c =
    let s = c.args.sort in
    let d = c.in_default in
    sym (by_nothing c.args.kind (sort_number s) c.requires.0 c.requires.1 (λ e. d.not-Equals (one_sort s S.Equals e)) (λ e. d.not-At (one_sort s S.At e))
    (λ e. d.not-BraceOpens (one_sort s S.BraceOpens e)) (λ e. d.not-Implements (one_sort s S.Implements e)))
