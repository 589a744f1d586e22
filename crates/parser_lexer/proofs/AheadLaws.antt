-- What is ahead of a place, where everything up to a later place was ignored.
use mathlib.Core.Path.{◌≡◌, ap, ◌∙◌}
use mathlib.Core.List.{List}
use Prim.Native.Nat.{ℕ, ◌+◌, ◌-◌, ◌≤◌, ◌<◌}
use native.Mathlib.Omega.{arith}
use lib.ListN.{length, drop}
use Rattle.definition.specs.Lexical.{ignored, lexed, unreadable, lexeme}
use Rattle.parser_laws.specs.Standing.{from, AheadOf}
use Rattle.parser_laws.specs.Verdict.{before}
use Rattle.parser_laws.proofs.Places.{at_end_lem, at_ignored, at_token_lem, at_unreadable}
use Rattle.parser_lexer.proofs.SizeLaws.{ignored_sizes, token_sizes}

module _ (s : List ℕ) (at i : ℕ) (passed : from s at ≡ from s i) where
  pub ignored_on : (n : ℕ) → i < length s → lexeme (drop i s) ≡ ignored n → from s at ≡ from s (i + n)
  ignored_on n l e = passed ∙ at_ignored s i n l e (ignored_sizes s i l n e).0

  pub token_ahead : (k n : ℕ) → i < length s → lexeme (drop i s) ≡ lexed k n → AheadOf s at k i (i + n)
  token_ahead k n l e =
      let z = token_sizes s i l k n e in
      let d : n ≡ i + n - i = omega arith in
      record {
        token = λ h. passed ∙ at_token_lem s i k n l e z.0 ∙ ap (λ (m : ℕ). before (record { sort = k; begins = i; size = m }) (from s (i + n))) d;
        ended = λ h. absurd (omega arith);
        unread = λ h. absurd (omega arith);
        told = omega arith;
        spans = omega arith;
      }

  pub unreadable_ahead : i < length s → lexeme (drop i s) ≡ unreadable → AheadOf s at 56 i (i + 0)
  unreadable_ahead l e =
      record {
        token = λ h. absurd (omega arith);
        ended = λ h. absurd (omega arith);
        unread = λ h. passed ∙ at_unreadable s i l e;
        told = omega arith;
        spans = omega arith;
      }

  pub end_ahead : length s ≤ i → AheadOf s at 55 i (i + 0)
  end_ahead l =
      record {
        token = λ h. absurd (omega arith);
        ended = λ h. passed ∙ at_end_lem s i l;
        unread = λ h. absurd (omega arith);
        told = omega arith;
        spans = omega arith;
      }
