-- What bytes begin with, told by the first of them.
use mathlib.Core.Path.{◌≡◌, refl, sym, ◌∙◌}
use mathlib.Core.List.{List, [], ◌∷◌}
use mathlib.Core.Bool.{Bool, true, false, ◌&&◌}
use mathlib.Core.Logic.{inl, inr}
use Prim.Native.Nat.{ℕ, ◌+◌, ◌≤◌, ◌<◌}
use native.Mathlib.Omega.{arith}
use borrow.Author.Tests.{ne_eqb, le-leb, lt-leb, ltb-true, ltb-false}
use lib.Dec.{eqb, ltb}
use lib.ListN.{get_or, drop}
use types.Run.{OneOf}
use Rattle.definition.specs.Names.{is_name_start}
use Rattle.definition.specs.Lexical.{ends_line, comment, is_digit, number, string, punctuators, punctuator, named, ignored, lexed, lexeme}
use Rattle.name.proofs.Laws.{start_low}
use Rattle.parser_laws.proofs.Tests.{clash}

-- A byte that begins a name is a letter or higher than the digits.
starts_high : (b : ℕ) → is_name_start b ≡ true → 65 ≤ b
starts_high b h = go (ltb b 65) refl
  where
    go : (t : Bool) → ltb b 65 ≡ t → 65 ≤ b
    go true e = clash (sym (start_low b (ltb-true b 65 e)) ∙ h)
    go false e = ltb-false b 65 e

no_digit_below : (b : ℕ) → b < 48 → is_digit b ≡ false
unfolding is_digit
no_digit_below b h = rw (lt-leb 48 b h)

no_digit_above : (b : ℕ) → 57 < b → is_digit b ≡ false
unfolding is_digit
no_digit_above b h = rw (le-leb 48 b (omega arith), lt-leb b 57 h)

module _ (bs : List ℕ) where
  pub of_name : is_name_start (get_or bs 0 0) ≡ true → lexeme bs ≡ named bs
  unfolding lexeme ends_line
  of_name h =
      let l = starts_high (get_or bs 0 0) h in
      rw (
        ne_eqb (get_or bs 0 0) 9 (omega arith),
        ne_eqb (get_or bs 0 0) 32 (omega arith),
        ne_eqb (get_or bs 0 0) 10 (omega arith),
        ne_eqb (get_or bs 0 0) 13 (omega arith),
        ne_eqb (get_or bs 0 0) 44 (omega arith),
        h,
      )

  pub of_tab : get_or bs 0 0 ≡ 9 → lexeme bs ≡ ignored 1
  unfolding lexeme
  of_tab h = rw h

  pub of_blank : OneOf (10 ∷ 13 ∷ 32 ∷ 44 ∷ []) (get_or bs 0 0) → lexeme bs ≡ ignored 1
  unfolding lexeme ends_line
  of_blank (inl h) = rw h
  of_blank (inr (inl h)) = rw h
  of_blank (inr (inr (inl h))) = rw h
  of_blank (inr (inr (inr h))) = rw h

  pub of_quote : get_or bs 0 0 ≡ 34 → lexeme bs ≡ string bs
  unfolding lexeme ends_line is_name_start is_digit
  of_quote h = rw h

  pub of_hash : get_or bs 0 0 ≡ 35 → lexeme bs ≡ ignored (1 + comment 0 (drop 1 bs))
  unfolding lexeme ends_line is_name_start is_digit
  of_hash h = rw h

  module _ (dot : get_or bs 0 0 ≡ 46) where
    pub of_dots : (eqb (get_or bs 1 0) 46 && eqb (get_or bs 2 0) 46) ≡ true → lexeme bs ≡ lexed 5 3
    unfolding lexeme ends_line is_name_start is_digit
    of_dots h = rw (dot, h)

    pub no_dots : (eqb (get_or bs 1 0) 46 && eqb (get_or bs 2 0) 46) ≡ false → lexeme bs ≡ punctuator (get_or bs 0 0) punctuators
    unfolding lexeme ends_line is_name_start is_digit punctuator punctuators
    no_dots h = rw (dot, h)

  module _ (first : get_or bs 0 0 ≡ 239) where
    pub of_mark : (eqb (get_or bs 1 0) 187 && eqb (get_or bs 2 0) 191) ≡ true → lexeme bs ≡ ignored 3
    unfolding lexeme ends_line is_name_start is_digit
    of_mark h = rw (first, h)

    pub no_mark : (eqb (get_or bs 1 0) 187 && eqb (get_or bs 2 0) 191) ≡ false → lexeme bs ≡ punctuator (get_or bs 0 0) punctuators
    unfolding lexeme ends_line is_name_start is_digit punctuator punctuators
    no_mark h = rw (first, h)

  pub of_minus : get_or bs 0 0 ≡ 45 → lexeme bs ≡ number bs
  unfolding lexeme ends_line is_name_start is_digit
  of_minus h = rw h

  pub of_digit : 48 ≤ get_or bs 0 0 → get_or bs 0 0 ≤ 57 → lexeme bs ≡ number bs
  unfolding lexeme ends_line is_digit
  of_digit h k =
      rw (
        ne_eqb (get_or bs 0 0) 9 (omega arith),
        ne_eqb (get_or bs 0 0) 32 (omega arith),
        ne_eqb (get_or bs 0 0) 10 (omega arith),
        ne_eqb (get_or bs 0 0) 13 (omega arith),
        ne_eqb (get_or bs 0 0) 44 (omega arith),
        start_low (get_or bs 0 0) (omega arith),
        le-leb 48 (get_or bs 0 0) h,
        le-leb (get_or bs 0 0) 57 k,
      )

  module _ (no_name : is_name_start (get_or bs 0 0) ≡ false) where
    other : (b : ℕ) → get_or bs 0 0 ≡ b → is_digit b ≡ false → (b ≡ 9 → ⊥) → (b ≡ 10 → ⊥) → (b ≡ 13 → ⊥) → (b ≡ 32 → ⊥) → (b ≡ 44 → ⊥) → (b ≡ 34 → ⊥) →
        (b ≡ 35 → ⊥) → (b ≡ 45 → ⊥) → (b ≡ 46 → ⊥) → (b ≡ 239 → ⊥) → lexeme bs ≡ punctuator (get_or bs 0 0) punctuators
    unfolding lexeme ends_line
    other b e d tab feed return space comma quote hash minus dot mark =
        let n : is_name_start b ≡ false = rw e at no_name in
        rw (
          e,
          ne_eqb b 9 tab,
          ne_eqb b 32 space,
          ne_eqb b 10 feed,
          ne_eqb b 13 return,
          ne_eqb b 44 comma,
          n,
          d,
          ne_eqb b 45 minus,
          ne_eqb b 34 quote,
          ne_eqb b 35 hash,
          ne_eqb b 46 dot,
          ne_eqb b 239 mark,
        )

    pub of_low : get_or bs 0 0 < 48 → (get_or bs 0 0 ≡ 9 → ⊥) → (OneOf (10 ∷ 13 ∷ 32 ∷ 44 ∷ []) (get_or bs 0 0) → ⊥) → (get_or bs 0 0 ≡ 34 → ⊥) →
        (get_or bs 0 0 ≡ 35 → ⊥) → (get_or bs 0 0 ≡ 45 → ⊥) → (get_or bs 0 0 ≡ 46 → ⊥) → lexeme bs ≡ punctuator (get_or bs 0 0) punctuators
    of_low h tab blank quote hash minus dot = other _ refl (no_digit_below _ h) tab (λ e. blank (inl e)) (λ e. blank (inr (inl e)))
        (λ e. blank (inr (inr (inl e)))) (λ e. blank (inr (inr (inr e)))) quote hash minus dot (omega arith)

    pub of_high : 57 < get_or bs 0 0 → (get_or bs 0 0 ≡ 239 → ⊥) → lexeme bs ≡ punctuator (get_or bs 0 0) punctuators
    of_high h mark = other _ refl (no_digit_above _ h) (omega arith) (omega arith) (omega arith) (omega arith) (omega arith) (omega arith)
        (omega arith) (omega arith) (omega arith) mark
