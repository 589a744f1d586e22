-- Type references, by the table.
use mathlib.Core.Path.{◌≡◌, refl}
use mathlib.Core.List.{List, [], ◌∷◌}
use Prim.Native.Nat.{ℕ, ◌+◌, ◌≤◌}
use native.Mathlib.Omega.{arith}
use Rattle.definition.specs.Lists.{here, there, all, any}
use Rattle.definition.specs.Grammar.{part, mark, rule, within, deeper, shallower, name, bracket_opens, bracket_closes, TypeReference, Bang?}
use Rattle.definition.specs.GrammarSets.{nullable, first}
use Rattle.definition.specs.Machine.{has, first_set_of}
use Rattle.parser_laws.proofs.Tests.{subset}
use Rattle.parser_lexer.specs.Sorts.{sort_number}
use Rattle.parser_lexer.specs.Ahead.{Next}
use Rattle.parser_lexer.specs.declared.cursor.Cursor.{Cursor}
use Rattle.parser_values.specs.Reads.{End, Optional, Must, May}
use Rattle.std.specs.Prelude.{Ok, Err}
use Rattle.parser_values.specs.declared.error.SyntaxError.{SyntaxError}
use Rattle.parser_values.specs.declared.error.SyntaxError.TheVariants.{NestedTooDeep}
use Rattle.parser_values.proofs.Readers.{token, joined, joined_may, stops, not_among, by_token, chosen, a_level, no_level}

pub is_bang : Optional Bang? 0
unfolding rule first
is_bang = (here, there here, refl)

module _ {text : List ℕ} {level : ℕ} {c : Cursor} where
  pub named_type : {e : End} → (sort_number c.sort ≡ 9 → ⊥) → Must (name ∷ part Bang? ∷ []) text c level e → Must (part TypeReference ∷ []) text c level e
  unfolding rule nullable first subset all any
  named_type n f = by_token TypeReference 17 54 (part Bang? ∷ []) ((9, 9) ∷ []) here refl refl refl (not_among 9 (sort_number c.sort) n) f

  -- In brackets, which are a level.
  list : {e : End} → sort_number c.sort ≡ 9 → Must (mark deeper ∷ bracket_opens ∷ part TypeReference ∷ bracket_closes ∷ mark shallower ∷ part Bang? ∷ []) text c level e
      → Must (part TypeReference ∷ []) text c level e
  unfolding rule first_set_of has within
  list s f =
      chosen TypeReference (mark deeper ∷ bracket_opens ∷ part TypeReference ∷ bracket_closes ∷ mark shallower ∷ part Bang? ∷ []) 9 (there here) refl
      (omega arith) s f

  pub list_deep : sort_number c.sort ≡ 9 → 32 ≤ level → c.text.now ≡ text → Must (part TypeReference ∷ []) text c level (Err (NestedTooDeep c.begins))
  list_deep s l i = list s (no_level 9 (part TypeReference ∷ bracket_closes ∷ mark shallower ∷ part Bang? ∷ []) s (omega arith) l i)

  pub list_type : {inner : ℕ} {k : Cursor} {e : End} → sort_number c.sort ≡ 9 → inner ≡ level + 1 →
      Must (bracket_opens ∷ part TypeReference ∷ bracket_closes ∷ []) text c inner (Ok k) → May (part Bang? ∷ []) k.text.now k level e →
      Must (part TypeReference ∷ []) text c level e
  list_type s l f g = list s (joined_may (a_level (bracket_opens ∷ part TypeReference ∷ bracket_closes ∷ []) l f) g)

  pub list_fails : {inner : ℕ} {e : SyntaxError} → sort_number c.sort ≡ 9 → inner ≡ level + 1 →
      Must (bracket_opens ∷ part TypeReference ∷ bracket_closes ∷ []) text c inner (Err e) → Must (part TypeReference ∷ []) text c level (Err e)
  list_fails s l f = list s (stops (part Bang? ∷ []) (a_level (bracket_opens ∷ part TypeReference ∷ bracket_closes ∷ []) l f))

  -- The bracket and what is in it.
  pub in_brackets : {k : Cursor} {e : End} → sort_number c.sort ≡ 9 → level ≤ 32 → c.text.now ≡ text → Next text c.ends c.cards k →
      Must (part TypeReference ∷ []) k.text.now k level e → Must (bracket_opens ∷ part TypeReference ∷ []) text c level e
  in_brackets s l i n f = joined (token 9 s (omega arith) l i n) f
