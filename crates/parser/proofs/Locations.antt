-- The locations of a directive: what each turn of their reader promises.
use mathlib.Core.Path.{◌≡◌, refl}
use mathlib.Core.List.{List, [], ◌∷◌}
use Prim.Native.Nat.{ℕ}
use native.Mathlib.Omega.{arith}
use Rattle.definition.specs.Lists.{all, any, here, there}
use Rattle.definition.specs.Grammar.{Symbol, part, rule, within, location, bar, Location, OrLocation*}
use Rattle.definition.specs.GrammarSets.{nullable, first}
use Rattle.definition.specs.Machine.{has, first_set_of}
use Rattle.parser_laws.proofs.Tests.{subset}
use Rattle.std.specs.Prelude.{Ok, Err}
use Rattle.parser_lexer.specs.Sorts.{sort_number}
use Rattle.parser_lexer.specs.Ahead.{Next}
use Rattle.parser_lexer.specs.declared.cursor.Cursor.{Cursor}
use Rattle.parser_values.specs.declared.error.SyntaxError.{SyntaxError}
use Rattle.parser_values.specs.Reads.{End, May, Flat}
use Rattle.parser_values.proofs.Readers.{Mid, may, flat, token, by_token, not_there, on, opening, ends, fails}

-- What is left before each location.
abbrev pub rest : List Symbol
rest = part Location ∷ part OrLocation* ∷ []

-- A location is refused; it is the last; another follows.
module _ {text : List ℕ} {b c : Cursor} (i : Mid rest text b 0 rest c) where
  each : {e : End} → Flat (location ∷ []) c.text.now c e → May (part Location ∷ []) c.text.now c 0 e
  unfolding rule nullable first subset all any has
  each f = may (by_token Location 35 53 [] [] here refl refl refl refl (flat 0 (omega arith) f))

  pub refuses : {e : SyntaxError} → Flat (location ∷ []) c.text.now c (Err e) → May rest text b 0 (Err e)
  refuses f = fails (part OrLocation* ∷ []) i (each f)

  module _ {j : Cursor} (f : Flat (location ∷ []) c.text.now c (Ok j)) where
    left : Mid rest text b 0 (part OrLocation* ∷ []) j
    left = on (part OrLocation* ∷ []) i (each f)

    pub is_last : (sort_number j.sort ≡ 12 → ⊥) → May rest text b 0 (Ok j)
    unfolding rule first
    is_last z = ends left (not_there OrLocation* 12 (there here) refl z left.1)

    pub follows : {n : Cursor} → sort_number j.sort ≡ 12 → Next j.text.now j.ends j.cards n → Mid rest text b 0 rest n
    unfolding rule has first_set_of within
    follows z m = on rest (opening [] OrLocation* (bar ∷ rest) 12 here refl (omega arith) z left)
        (may (token 12 z (omega arith) (omega arith) refl m))
