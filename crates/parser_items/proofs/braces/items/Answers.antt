use mathlib.Core.Path.{◌≡◌, refl, ◌∙◌}
use mathlib.Core.List.{List, [], ◌∷◌}
use Prim.Native.Nat.{ℕ}
use native.Mathlib.Omega.{arith}
use Rattle.definition.specs.Lists.{all, any, here, there}
use Rattle.definition.specs.Grammar.{Part, part, brace_opens, brace_closes, rule, within}
use Rattle.definition.specs.GrammarSets.{nullable, first}
use Rattle.definition.specs.Machine.{has, first_set_of}
use Rattle.parser_lexer.proofs.SortLaws.{is, is_other}
use Rattle.parser_laws.proofs.Tests.{subset}
use Rattle.parser_lexer.specs.declared.cursor.Cursor.{Cursor}
use Rattle.std.specs.Prelude.{Ok, Err}
use Rattle.parser_values.specs.declared.error.SyntaxError.{SyntaxError}
use Rattle.parser_values.specs.Reads.{End, Flat}
use Rattle.parser_values.proofs.Readers.{Repeated, handed, moves_on, step_falls}
use Rattle.parser_items.specs.Braces.{InBraces, items_of}
use Rattle.parser_items.proofs.Beginning.{wanting, covers, Sole}
use Rattle.parser_items.proofs.Items.{InList, list_in, may_list, cardless, taken, begins, list_on, list_ends, list_fails, alone, again, closes}
use Rattle.parser_items.specs.Lists.{MustList, MayList}
use Rattle.parser_items.proofs.braces.items.Goals as goal

sole : {optional list item more : Part} → InBraces optional list item more → Sole list (brace_opens ∷ items_of item more)
unfolding first_set_of subset all any has within wanting covers
sole r = record { among = r.whole; never_empty = r.some_there; wants_token = refl; covered = rw r.opens refl }

repeated : {optional list item more : Part} → InBraces optional list item more → Repeated item more 13
repeated r = record {
  more = r.again;
  none = r.done;
  never_empty = r.never_empty;
  begins = r.follows;
  tokens = r.tokens;
  closed = r.closed;
  closer = omega arith;
}

module _ (text : List ℕ) {optional list item more : Part} (r : InBraces optional list item more) where
  -- The opener is missing; or it stands there, and the items are read from k on.
  unopened : {c : Cursor} {e : SyntaxError} (before : List ℕ) → c.text.now ≡ text → Flat (brace_opens ∷ []) c.text.now c (Err e) →
      MustList (part list ∷ []) text c (Err e) before before
  unopened {e = e} before i f =
      let none = list_fails text (brace_opens ∷ items_of item more) (brace_opens ∷ []) (items_of item more) (begins text (brace_opens ∷ items_of item more) before i)
      (cardless text (brace_opens ∷ []) before (taken text (brace_opens ∷ []) (Err e) f)) in
      alone text list (brace_opens ∷ items_of item more) (sole r) none

  opened : {c k : Cursor} {before after : List ℕ} (e : End) → c.text.now ≡ text → Flat (brace_opens ∷ []) c.text.now c (Ok k) →
      MayList (items_of item more) k.text.now k e before after → MustList (part list ∷ []) text c e before after
  opened {c} {k} {before} e i f g =
      let inside = list_on text (brace_opens ∷ items_of item more) (brace_opens ∷ []) (items_of item more) (begins text (brace_opens ∷ items_of item more) before i)
      (cardless text (brace_opens ∷ []) before (taken text (brace_opens ∷ []) (Ok k) f)) in
      let h = list_in (f.1.0 ∙ i) g in
      alone text list (brace_opens ∷ items_of item more) (sole r) ((list_ends text (brace_opens ∷ items_of item more) (items_of item more) e inside g).0, moves_on text c k e f.1.1 h.1)

  -- After an item.
  left : {b c j : Cursor} {before middle after : List ℕ} → InList (items_of item more) text b before (items_of item more) c middle →
      MustList (part item ∷ []) c.text.now c (Ok j) middle after → InList (items_of item more) text b before (part more ∷ brace_closes ∷ []) j after
  left {c = c} {j} i f =
      list_on text (items_of item more) (part item ∷ []) (part more ∷ brace_closes ∷ []) i (may_list c.text.now (part item ∷ []) (Ok j) f)

pub returns-in_err-k : goal.returns-in_err-k
returns-in_err-k g c =
    let a = c.args in
    rw (handed _ _ c.from_residual.ensures) (unopened a.c.text.now g.met.B.Braced.rules a.cards.now refl c.in_err-k.ensures)

pub loop-j-init : goal.loop-j-init
loop-j-init g c = let k = c.in_ok-k.k in begins k.text.now (items_of g.B.Braced.item g.B.Braced.more) c.args.cards.now refl

pub read-requires : goal.read-requires
read-requires g c = rw (c.loop-j.invariant.1 ∙ c.in_ok-k.ensures.1.0) c.requires

pub returns-in_err-j : goal.returns-in_err-j
returns-in_err-j g c =
    let a = c.args in
    rw (handed _ _ c.from_residual-in_err-j.ensures)
    (opened a.c.text.now g.met.B.Braced.rules (Err _) refl c.in_ok-k.ensures
    (list_fails c.in_ok-k.k.text.now (items_of g.B.Braced.item g.B.Braced.more) (part g.B.Braced.item ∷ []) (part g.B.Braced.more ∷ brace_closes ∷ []) c.loop-j.invariant
    (may_list c.loop-j.k.text.now (part g.B.Braced.item ∷ []) (Err _) c.in_err-j.ensures)))

pub loop-j-smaller : goal.loop-j-smaller
loop-j-smaller g c = step_falls c.in_ok-k.k.text.now c.loop-j.k c.in_ok-j.j c.loop-j.invariant.1 c.in_ok-j.ensures.1

pub loop-j-preserved : goal.loop-j-preserved
loop-j-preserved g c =
    let a = c.args in
    let text = c.in_ok-k.k.text.now in
    again text g.B.Braced.item g.B.Braced.more 13 (repeated g.met.B.Braced.rules) (items_of g.B.Braced.item g.B.Braced.more) [] (is_other c.in_ok-j.j.sort c.eq.ensures c.if-eq.false)
    (left text g.met.B.Braced.rules c.loop-j.invariant c.in_ok-j.ensures)

pub returns-then-eq : goal.returns-then-eq
returns-then-eq g c =
    let a = c.args in
    let text = c.in_ok-k.k.text.now in
    let i = left text g.met.B.Braced.rules c.loop-j.invariant c.in_ok-j.ensures in
    opened a.c.text.now g.met.B.Braced.rules (Ok c.next.result) refl c.in_ok-k.ensures
    (closes text g.B.Braced.item g.B.Braced.more 13 (repeated g.met.B.Braced.rules) (items_of g.B.Braced.item g.B.Braced.more) (is c.in_ok-j.j.sort c.eq.ensures c.if-eq.true) c.next.ensures i)
