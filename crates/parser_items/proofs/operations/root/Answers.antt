use mathlib.Core.Path.{◌≡◌, refl, sym, ap, subst, ◌∙◌}
use mathlib.Core.List.{List, [], ◌∷◌}
use mathlib.Core.Bool.{Bool, true, false}
use Prim.Native.Nat.{ℕ, ◌+◌, ◌-◌, ◌≤◌}
use native.Mathlib.Omega.{arith}
use borrow.Author.Tests.{le-leb, leb-true, leb-false}
use lib.Dec.{leb}
use Rattle.definition.specs.Lists.{choose, Among, here, there}
use Rattle.definition.specs.Grammar.{Symbol, one, part, mark, item, named, colon, name, item_ends, rule, within, Root}
use Rattle.definition.specs.GrammarSets.{nullable, first}
use Rattle.definition.specs.Machine.{first_set_of}
use Rattle.definition.specs.ItemCards.{begun, named_by}
use Rattle.parser_laws.proofs.Tests.{clash, within_bounds}
use Rattle.parser_laws.proofs.Ahead.{token_of}
use Rattle.parser_lexer.specs.Sorts.{sort_number}
use Rattle.parser_lexer.specs.Ahead.{Next}
use Rattle.parser_lexer.specs.declared.cursor.Cursor.{Cursor}
use Rattle.std.specs.Prelude.{Option, Some, None, Ok, Err}
use Rattle.parser_values.specs.declared.error.SyntaxError.TheVariants.{NotInGrammar}
use Rattle.parser_values.specs.Reads.{End, Flat}
use Rattle.parser_values.proofs.Joining.{refuses}
use Rattle.parser_values.proofs.Readers.{handed, lies, begins_with, token}
use Rattle.parser_items.proofs.Beginning.{range, wanting}
use Rattle.parser_items.specs.Lists.{MustList}
use Rattle.parser_items.specs.Operations.{operation_kind}
use Rattle.parser_items.proofs.Joining.{unlisted}
use Rattle.parser_items.proofs.Items.{InItem, must, taken, starts, called, past, fails, ends, chosen}
use Rattle.parser_items.proofs.operations.root.Goals as goal

-- The alternative for the operation's sort.
abbrev symbols : ℕ → List Symbol
symbols s = mark (item (s - 32 + 26)) ∷ one s s ∷ colon ∷ mark named ∷ name ∷ mark item_ends ∷ []

among : (s : ℕ) → 32 ≤ s → s ≤ 34 → Among (symbols s) (rule Root)
unfolding rule
among s u v = go (leb s 32) refl (leb s 33) refl
  where
    at-sort : (x : ℕ) → s ≡ x → Among (symbols x) (rule Root) → Among (symbols s) (rule Root)
    at-sort x e f = subst (λ (y : ℕ). Among (symbols y) (rule Root)) (sym e) f

    go : (t : Bool) → leb s 32 ≡ t → (w : Bool) → leb s 33 ≡ w → Among (symbols s) (rule Root)
    go true p w q = at-sort 32 (omega (arith, leb-true s 32 p)) here
    go false p true q = at-sort 33 (omega (arith, leb-false s 32 p, leb-true s 33 q)) (there here)
    go false p false q = at-sort 34 (omega (arith, leb-false s 33 q)) (there (there here))

-- What the kind of an operation says of the word's sort.
abbrev number : Option ℕ → ℕ
number (Some k) = k
number None = 0

abbrev is_none : Option ℕ → Bool
is_none (Some k) = false
is_none None = true

an_operation : (s : ℕ) {o : Option ℕ} {k : ℕ} → o ≡ operation_kind s → o ≡ Some k → (32 ≤ s) × (s ≤ 34) × (k ≡ s - 32 + 26)
an_operation s {o} {k} d e = go (within 32 34 s) refl (sym d ∙ e)
  where
    go : (t : Bool) → within 32 34 s ≡ t → choose t (Some (s - 32 + 26)) None ≡ Some k → (32 ≤ s) × (s ≤ 34) × (k ≡ s - 32 + 26)
    go true w f = let b = within_bounds 32 34 s w in (b.0, b.1, sym (ap number f))
    go false w f = clash (sym (ap is_none f))

no_operation : (s : ℕ) {o : Option ℕ} → o ≡ operation_kind s → o ≡ None → within 32 34 s ≡ false
no_operation s {o} d e = go (within 32 34 s) refl (sym d ∙ e)
  where
    go : (t : Bool) → within 32 34 s ≡ t → choose t (Some (s - 32 + 26)) None ≡ None → within 32 34 s ≡ false
    go true w f = clash (ap is_none f)
    go false w f = w

module _ {b : Cursor} where
  no-root : (before : List ℕ) → within 32 34 (sort_number b.sort) ≡ false → MustList (part Root ∷ []) b.text.now b (Err (NotInGrammar b.begins)) before before
  unfolding nullable first
  no-root before w =
      let l = lies b refl in
      (λ a. unlisted b.text.now before (refuses b.text.now 0 b a Root refl (range 32 34 (sort_number b.sort) ∙ w)), omega (arith, l.1, l.2))

  module _ (u : 32 ≤ sort_number b.sort) (v : sort_number b.sort ≤ 34) where
    by-operation : {e : End} {before after : List ℕ} → MustList (symbols (sort_number b.sort)) b.text.now b e before after →
        MustList (part Root ∷ []) b.text.now b e before after
    unfolding first_set_of
    by-operation f = chosen b.text.now Root (symbols (sort_number b.sort)) (sort_number b.sort) (among (sort_number b.sort) u v) (begins_with (sort_number b.sort) (sort_number b.sort) [] refl) (omega arith) refl f

    module _ {k : Cursor} (n : Next b.text.now b.ends b.cards k) where
      at-colon : InItem (b.last + 1) (symbols (sort_number b.sort)) b.text.now b (colon ∷ mark named ∷ name ∷ mark item_ends ∷ []) k (begun (sort_number b.sort - 32 + 26) b.begins)
      unfolding wanting
      at-colon =
          let z = le-leb 0 (sort_number b.sort) (omega arith) in
          let y = le-leb (sort_number b.sort) 54 (omega arith) in
          let i = starts b.text.now (sort_number b.sort - 32 + 26) (one (sort_number b.sort) (sort_number b.sort) ∷ colon ∷ mark named ∷ name ∷ mark item_ends ∷ []) (rw (z, y)) refl in
          past b.text.now (symbols (sort_number b.sort)) (one (sort_number b.sort) (sort_number b.sort) ∷ []) _ i (token (sort_number b.sort) refl (omega arith) (omega arith) refl n)

      at_name : {i : Cursor} → Flat (colon ∷ []) k.text.now k (Ok i) →
          InItem (b.last + 1 + 1) (symbols (sort_number b.sort)) b.text.now b (name ∷ mark item_ends ∷ []) i
          (named_by (token_of (sort_number i.sort) i.begins i.ends) (begun (sort_number b.sort - 32 + 26) b.begins))
      unfolding wanting
      at_name f =
          called b.text.now (symbols (sort_number b.sort)) _ refl (past b.text.now (symbols (sort_number b.sort)) (colon ∷ []) _ at-colon (must b.text.now (colon ∷ []) f))

pub returns-in_default : goal.returns-in_default
returns-in_default c = let a = c.args in no-root a.cards.now (no_operation (sort_number a.c.sort) c.operation_kind.ensures c.in_default.is)

pub returns-in_err-name : goal.returns-in_err-name
returns-in_err-name c =
    let a = c.args in
    let o = an_operation (sort_number a.c.sort) c.operation_kind.ensures c.in-Some.is in
    let text = a.c.text.now in
    rw (handed _ _ c.from_residual.ensures)
    (by-operation o.0 o.1
    (fails text a.cards.now (symbols (sort_number a.c.sort)) (colon ∷ []) _ (at-colon o.0 o.1 c.next.ensures)
    (taken text (colon ∷ []) _ c.in_err-name.ensures)))

pub returns-in_err-j : goal.returns-in_err-j
returns-in_err-j c =
    let a = c.args in
    let o = an_operation (sort_number a.c.sort) c.operation_kind.ensures c.in-Some.is in
    let text = a.c.text.now in
    rw (handed _ _ c.from_residual-in_err-j.ensures)
    (by-operation o.0 o.1
    (fails text a.cards.now (symbols (sort_number a.c.sort)) (name ∷ []) _ (at_name o.0 o.1 c.next.ensures c.in_ok-name.ensures)
    (taken text (name ∷ []) _ c.in_err-j.ensures)))

pub end_item-requires : goal.end_item-requires
end_item-requires c =
    let p = lies c.args.c refl in
    let m = c.next.ensures in
    let n = c.in_ok-name.ensures.1 in
    let j = c.in_ok-j.ensures.1 in
    let e = j.0 ∙ n.0 ∙ m.1 in
    (rw e c.requires, sym e, sym j.0, omega (arith, m.2, n.1, j.1, p.0, p.1))

pub returns : goal.returns
returns c =
    let a = c.args in
    let o = an_operation (sort_number a.c.sort) c.operation_kind.ensures c.in-Some.is in
    let text = a.c.text.now in
    let i = at_name o.0 o.1 c.next.ensures c.in_ok-name.ensures in
    let j = past text (symbols (sort_number a.c.sort)) (name ∷ []) _ i (must text (name ∷ []) c.in_ok-j.ensures) in
    by-operation o.0 o.1
    (ends text (symbols (sort_number a.c.sort)) (sort_number a.c.sort - 32 + 26) c.in_ok-name.name j (omega arith) (rw o.2 at c.end_item.ensures))
