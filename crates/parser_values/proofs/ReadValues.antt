-- Values, by the table.
use mathlib.Core.Path.{◌≡◌, refl, sym, ◌∙◌}
use mathlib.Core.List.{List, [], ◌∷◌}
use mathlib.Core.Bool.{Bool, true, false}
use Prim.Native.Nat.{ℕ, ◌+◌, ◌≤◌}
use native.Mathlib.Omega.{arith}
use borrow.Author.Tests.{leb-true, leb-false}
use lib.Dec.{leb}
use Rattle.definition.specs.Lists.{Among, here, there, all, any}
use Rattle.definition.specs.Grammar.{one, part, rule, within, name, colon, Value, Value*, ObjectValue, ObjectField, ObjectField*}
use Rattle.definition.specs.GrammarSets.{nullable, first}
use Rattle.definition.specs.Machine.{has, first_set_of}
use Rattle.parser_laws.proofs.Tests.{subset, within_is, within_bounds}
use Rattle.parser_laws.proofs.Picking.{other}
use Rattle.parser_lexer.specs.Sorts.{sort_number}
use Rattle.parser_lexer.specs.Ahead.{Ahead, Next}
use Rattle.parser_lexer.specs.declared.cursor.Cursor.{Cursor}
use Rattle.parser_values.specs.Reads.{End, Reads, Must, May}
use Rattle.std.specs.Prelude.{Err}
use Rattle.parser_values.specs.declared.error.SyntaxError.TheVariants.{NotInGrammar, NestedTooDeep}
use Rattle.parser_values.proofs.Joining.{opens, refuses, lacks_token, narrower}
use Rattle.parser_values.proofs.Readers.{lies, Repeated, any_of, by_token, chosen, bracketed, bracketed_deep}

pub values : Repeated Value Value* 10
unfolding rule nullable first subset all any has within
values = record { more = here; none = there here; never_empty = refl; begins = refl; tokens = refl; closed = refl; closer = omega arith }

pub fields : Repeated ObjectField ObjectField* 13
unfolding rule nullable first subset all any has within
fields = record { more = here; none = there here; never_empty = refl; begins = refl; tokens = refl; closed = refl; closer = omega arith }

module _ (text : List ℕ) (level : ℕ) (small : level ≤ 32) {c : Cursor} {e : End} (a : Ahead text c) where
  -- A value of one token: a number, a string, `true`, `false` or `null`, or the name of an enum value.
  by_sort : (lo hi : ℕ) → Among (one lo hi ∷ []) (rule Value) → hi ≤ 54 → lo ≤ (sort_number c.sort) → sort_number c.sort ≤ hi → within 14 54 (sort_number c.sort) ≡ true →
      Reads (one 14 54 ∷ []) text c level e → Reads (part Value ∷ []) text c level e
  unfolding first_set_of has
  by_sort lo hi i s l u w f =
      let v = within_is lo hi (sort_number c.sort) l u in
      opens text level a Value (one lo hi ∷ []) (omega arith) i (rw v) (narrower text level a lo hi 14 54 s (omega arith) v w small f)

  plain : (sort_number c.sort ≡ 9 → ⊥) → (sort_number c.sort ≡ 11 → ⊥) → Reads (one 14 54 ∷ []) text c level e → Reads (part Value ∷ []) text c level e
  unfolding rule first nullable has
  plain m n f = go (within 14 54 (sort_number c.sort)) refl (leb (sort_number c.sort) 15) refl (leb (sort_number c.sort) 16) refl (leb (sort_number c.sort) 19) refl
    where
      go : (w : Bool) → within 14 54 (sort_number c.sort) ≡ w → (p : Bool) → leb (sort_number c.sort) 15 ≡ p → (q : Bool) → leb (sort_number c.sort) 16 ≡ q → (r : Bool) →
          leb (sort_number c.sort) 19 ≡ r → Reads (part Value ∷ []) text c level e
      go true w true i q j r k = by_sort 14 15 here (omega arith) (within_bounds 14 54 (sort_number c.sort) w).0 (leb-true (sort_number c.sort) 15 i) w f
      go true w false i true j r k = by_sort 16 16 (there here) (omega arith) (omega (arith, leb-false (sort_number c.sort) 15 i)) (leb-true (sort_number c.sort) 16 j) w f
      go true w false i false j true k = by_sort 17 19 (there (there here)) (omega arith) (omega (arith, leb-false (sort_number c.sort) 16 j))
          (leb-true (sort_number c.sort) 19 k) w f
      go true w false i false j false k = by_sort 20 54 (there (there (there here))) (omega arith) (omega (arith, leb-false (sort_number c.sort) 19 k))
          (within_bounds 14 54 (sort_number c.sort) w).1 w f
      go false w p i q j r k = record {
        goes = λ ss cs h.
            (refuses text level c a Value refl (rw (other 9 (sort_number c.sort) m, other 11 (sort_number c.sort) n, w))).goes ss cs h ∙
            sym ((lacks_token text level c a 14 54 w []).goes ss cs h) ∙
            f.goes ss cs h;
        ready = f.ready;
      }

module _ {text : List ℕ} {level : ℕ} {c : Cursor} where
  pub plain_value : {e : End} → level ≤ 32 → (sort_number c.sort ≡ 9 → ⊥) → (sort_number c.sort ≡ 11 → ⊥) → Must (one 14 54 ∷ []) text c level e →
      Must (part Value ∷ []) text c level e
  plain_value l m n f = (λ a. plain text level l a m n (f.0 a), f.1)

  pub value_object : {e : End} → sort_number c.sort ≡ 11 → Must (part ObjectValue ∷ []) text c level e → Must (part Value ∷ []) text c level e
  unfolding rule first_set_of has within first nullable
  value_object k f = chosen Value (part ObjectValue ∷ []) 11 (there (there (there (there (there here))))) refl (omega arith) k f

  pub list_value : {k : Cursor} {inner : ℕ} {e : End} → sort_number c.sort ≡ 9 → c.text.now ≡ text → inner ≡ level + 1 → inner ≤ 32 → Next text c.ends c.cards k →
      May (any_of Value* 10) k.text.now k inner e → Must (part Value ∷ []) text c level e
  unfolding rule
  list_value s p i l n f = bracketed Value Value* 9 10 (there (there (there (there here)))) (omega arith) s p i l n f

  pub list_deep : sort_number c.sort ≡ 9 → c.text.now ≡ text → 32 ≤ level → Must (part Value ∷ []) text c level (Err (NestedTooDeep c.begins))
  unfolding rule
  list_deep s p l = bracketed_deep Value Value* 9 10 (there (there (there (there here)))) (omega arith) s p l

  pub object : {k : Cursor} {inner : ℕ} {e : End} → sort_number c.sort ≡ 11 → c.text.now ≡ text → inner ≡ level + 1 → inner ≤ 32 → Next text c.ends c.cards k →
      May (any_of ObjectField* 13) k.text.now k inner e → Must (part ObjectValue ∷ []) text c level e
  unfolding rule
  object s p i l n f = bracketed ObjectValue ObjectField* 11 13 here (omega arith) s p i l n f

  pub object_deep : sort_number c.sort ≡ 11 → c.text.now ≡ text → 32 ≤ level → Must (part ObjectValue ∷ []) text c level (Err (NestedTooDeep c.begins))
  unfolding rule
  object_deep s p l = bracketed_deep ObjectValue ObjectField* 11 13 here (omega arith) s p l

  pub no_object : (sort_number c.sort ≡ 11 → ⊥) → c.text.now ≡ text → Must (part ObjectValue ∷ []) text c level (Err (NotInGrammar c.begins))
  unfolding first nullable has
  no_object n p = let l = lies c p in (λ a. refuses text level c a ObjectValue refl (rw (other 11 (sort_number c.sort) n)), omega (arith, l.1, l.2))

  pub object_field : {e : End} → Must (name ∷ colon ∷ part Value ∷ []) text c level e → Must (part ObjectField ∷ []) text c level e
  unfolding rule nullable first subset all any has
  object_field f = by_token ObjectField 17 54 (colon ∷ part Value ∷ []) [] here refl refl refl refl f
