-- Arguments, directives, default values and input values, by the table.
use mathlib.Core.Path.{◌≡◌, refl, sym, ◌∙◌}
use mathlib.Core.List.{List, [], ◌∷◌}
use mathlib.Core.Bool.{Bool, true, false}
use Prim.Native.Nat.{ℕ, ◌≤◌}
use native.Mathlib.Omega.{arith}
use borrow.Author.Tests.{leb-true, leb-false}
use lib.Dec.{leb}
use Rattle.definition.specs.Lists.{choose, here, there, all, any}
use Rattle.definition.specs.Grammar.{Part, part, rule, within, name, at, colon, Value, Argument, Arguments?, Default?, Directive, Directive*}
use Rattle.definition.specs.Grammar.{TypeReference, Description?, ArgumentDefinition}
use Rattle.definition.specs.GrammarSets.{nullable, first}
use Rattle.definition.specs.Machine.{has, first_set_of}
use Rattle.parser_laws.proofs.Tests.{clash, subset, within_is, within_bounds}
use Rattle.parser_lexer.specs.Sorts.{sort_number}
use Rattle.parser_lexer.specs.Ahead.{Ahead, Next}
use Rattle.parser_lexer.specs.declared.cursor.Cursor.{Cursor}
use Rattle.parser_values.specs.Parentheses.{InParentheses}
use Rattle.parser_values.specs.Reads.{End, Reads, Must, May}
use Rattle.std.specs.Prelude.{Ok, Err}
use Rattle.parser_values.specs.declared.error.SyntaxError.TheVariants.{NotInGrammar}
use Rattle.parser_values.proofs.Joining.{and_then, skips, lacks_token}
use Rattle.parser_values.proofs.Readers.{Mid, Repeated, some_of, by_rest, by_token, there_it_is, not_there, opening}

-- Items in parentheses.
pub all_items : {list item more : Part} → InParentheses list item more → Repeated item more 4
all_items r = record {
  more = r.again;
  none = r.done;
  never_empty = r.never_empty;
  begins = r.begins;
  tokens = r.tokens;
  closed = r.closed;
  closer = omega arith;
}

module _ {text : List ℕ} {c : Cursor} where
  pub one_argument : {e : End} → Must (name ∷ colon ∷ part Value ∷ []) text c 0 e → Must (part Argument ∷ []) text c 0 e
  unfolding rule nullable first subset all any has
  one_argument f = by_token Argument 17 54 (colon ∷ part Value ∷ []) [] here refl refl refl refl f

  pub one_directive : {e : End} → Must (at ∷ name ∷ part Arguments? ∷ []) text c 0 e → Must (part Directive ∷ []) text c 0 e
  unfolding rule nullable first subset all any has
  one_directive f = by_token Directive 8 8 (name ∷ part Arguments? ∷ []) [] here refl refl refl refl f

  -- No description and no name.
  no_definition : (a : Ahead text c) → has ((16, 16) ∷ (17, 54) ∷ []) (sort_number c.sort) ≡ false →
      (has (first ArgumentDefinition) (sort_number c.sort) ≡ false) × Reads (part Description? ∷ name ∷ colon ∷ part TypeReference ∷ part Default? ∷ part Directive* ∷
      []) text c 0 (Err (NotInGrammar c.begins))
  unfolding has rule first
  no_definition a w = go (within 16 16 (sort_number c.sort)) refl (within 17 54 (sort_number c.sort)) refl (within 16 54 (sort_number c.sort)) refl w
    where
      go : (s : Bool) → within 16 16 (sort_number c.sort) ≡ s → (t : Bool) → within 17 54 (sort_number c.sort) ≡ t → (u : Bool) → within 16 54 (sort_number c.sort) ≡ u →
          choose s true (choose t true false) ≡ false → (choose u true false ≡ false) ×
          Reads (part Description? ∷ name ∷ colon ∷ part TypeReference ∷ part Default? ∷ part Directive* ∷ []) text c 0 (Err (NotInGrammar c.begins))
      go true i t j u m k = clash (sym k)
      go false i true j u m k = clash (sym k)
      go false i false j true m k =
          let b = within_bounds 16 54 (sort_number c.sort) m in
          clash (sym i ∙ within_is 16 16 (sort_number c.sort) b.0 (at_most_16 (leb (sort_number c.sort) 16) refl))
        where
          at_most_16 : (p : Bool) → leb (sort_number c.sort) 16 ≡ p → sort_number c.sort ≤ 16
          at_most_16 true p = leb-true (sort_number c.sort) 16 p
          at_most_16 false p = clash (sym j ∙ within_is 17 54 (sort_number c.sort) (omega (arith, leb-false (sort_number c.sort) 16 p)) (within_bounds 16 54 (sort_number c.sort) m).1)
      go false i false j false m k = (
        refl,
        and_then text 0 (part Description? ∷ []) (name ∷ colon ∷ part TypeReference ∷ part Default? ∷ part Directive* ∷ [])
            (skips text 0 c a Description? (there here) (rw i))
            (lacks_token text 0 c a 17 54 j (colon ∷ part TypeReference ∷ part Default? ∷ part Directive* ∷ [])),
      )

  pub one_definition : {e : End} → Must (part Description? ∷ name ∷ colon ∷ part TypeReference ∷ part Default? ∷ part Directive* ∷ []) text c 0 e →
      Must (part ArgumentDefinition ∷ []) text c 0 e
  unfolding rule nullable first first_set_of subset all any
  one_definition f = (
    λ a. by_rest a ArgumentDefinition (part Description? ∷ name ∷ colon ∷ part TypeReference ∷ part Default? ∷ part Directive* ∷ []) here refl refl
        (no_definition a) (f.0 a),
    f.1,
  )

  -- ---- Parts that are there or not.

  pub no_default : (sort_number c.sort ≡ 7 → ⊥) → c.text.now ≡ text → May (part Default? ∷ []) text c 0 (Ok c)
  unfolding rule first
  no_default = not_there Default? 7 (there here) refl

  pub a_default : {k : Cursor} {e : End} → sort_number c.sort ≡ 7 → c.text.now ≡ text → Next text c.ends c.cards k → May (part Value ∷ []) k.text.now k 0 e →
      May (part Default? ∷ []) text c 0 e
  unfolding rule
  a_default = there_it_is Default? 7 (part Value ∷ []) here (omega arith) (omega arith)

  pub no_list : {list item more : Part} → InParentheses list item more → (sort_number c.sort ≡ 3 → ⊥) → c.text.now ≡ text → May (part list ∷ []) text c 0 (Ok c)
  no_list {list} r = not_there list 3 r.absent r.opener

  pub a_list : {list item more : Part} {k : Cursor} {e : End} → InParentheses list item more → sort_number c.sort ≡ 3 → c.text.now ≡ text → Next text c.ends c.cards k →
      May (some_of item more 4) k.text.now k 0 e → May (part list ∷ []) text c 0 e
  a_list {list} {item} {more} r = there_it_is list 3 (some_of item more 4) r.whole (omega arith) (omega arith)

  pub no_directive : (sort_number c.sort ≡ 8 → ⊥) → c.text.now ≡ text → May (part Directive* ∷ []) text c 0 (Ok c)
  unfolding rule first
  no_directive = not_there Directive* 8 (there here) refl

  pub a_directive : {b : Cursor} → sort_number c.sort ≡ 8 → Mid (part Directive* ∷ []) text b 0 (part Directive* ∷ []) c →
      Mid (part Directive* ∷ []) text b 0 (part Directive ∷ part Directive* ∷ []) c
  unfolding rule first nullable first_set_of has within
  a_directive k m = opening [] Directive* (part Directive ∷ part Directive* ∷ []) 8 here refl (omega arith) k m
