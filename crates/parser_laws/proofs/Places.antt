-- The tokens from a place of a text on: what code that reads a text byte by byte goes by.
use mathlib.Core.Path.{◌≡◌, sym, ap, ◌∙◌}
use mathlib.Core.List.{List, [], ◌∷◌}
use mathlib.Core.Bool.{true, false}
use Prim.Native.Nat.{ℕ, zero, suc, ◌+◌, ◌-◌, ◌≤◌, ◌<◌}
use native.Mathlib.Omega.{arith}
use lib.ListN.{length, get_or, drop, length-drop, drop_of_length-le}
use lib.Seq.{drop-cons, drop-drop}
use Rattle.definition.specs.Lexical.{ignored, lexed, unreadable, lexeme, Lexed, lexed_by, tokens_from}
use Rattle.parser_laws.specs.Standing.{from}
use Rattle.parser_laws.specs.Verdict.{before}
use Rattle.parser_laws.proofs.Gluing.{Small, lexeme_small}

-- Bytes that are passed over.
pub passing : (k at : ℕ) (bs : List ℕ) → k ≤ length bs → tokens_from k at bs ≡ tokens_from 0 (at + k) (drop k bs)
unfolding tokens_from
passing zero at bs h = let z : at ≡ at + 0 = omega arith in ap (λ (n : ℕ). tokens_from 0 n bs) z
passing (suc k) at [] h = absurd (omega arith)
passing (suc k) at (x ∷ bs) h =
    let z : 1 + at + k ≡ at + suc k = omega arith in
    passing k (1 + at) bs (omega arith) ∙ ap (λ (n : ℕ). tokens_from 0 n (drop k bs)) z

module _ (text : List ℕ) (at : ℕ) where
  opened : at < length text → from text at ≡ lexed_by at (λ k. tokens_from k (1 + at) (drop (suc at) text)) (lexeme (drop at text))
  unfolding from tokens_from
  opened h =
      let d = drop-cons text at 0 h in
      ap (tokens_from 0 at) d ∙ ap (λ (bs : List ℕ). lexed_by at (λ k. tokens_from k (1 + at) (drop (suc at) text)) (lexeme bs)) (sym d)

  small : at < length text → Small (length text - at) (lexeme (drop at text))
  small h =
      let d = drop-cons text at 0 h in
      let z : suc (length (drop (suc at) text)) ≡ length text - at = ap suc (length-drop (suc at) text) ∙ omega arith in
      rw (d) (rw (← z) (lexeme_small (get_or text at 0) (drop (suc at) text)))

  after : (n : ℕ) → at < length text → 1 ≤ n → n ≤ length text - at → tokens_from (n - 1) (1 + at) (drop (suc at) text) ≡ from text (at + n)
  unfolding from
  after n h p k =
      let f : n - 1 ≤ length (drop (suc at) text) = rw (length-drop (suc at) text) (omega arith) in
      let y : 1 + at + (n - 1) ≡ at + n = omega arith in
      let z : suc at + (n - 1) ≡ at + n = omega arith in
      passing (n - 1) (1 + at) (drop (suc at) text) f ∙
      ap (λ (bs : List ℕ). tokens_from 0 (1 + at + (n - 1)) bs) (drop-drop (n - 1) (suc at) text) ∙
      ap (λ (m : ℕ). tokens_from 0 (1 + at + (n - 1)) (drop m text)) z ∙
      ap (λ (m : ℕ). tokens_from 0 m (drop (at + n) text)) y

  -- The end of the text; what is ignored; a token; nothing readable.
  pub at_end_lem : length text ≤ at → from text at ≡ record { tokens = []; ends = at; broken = false }
  unfolding from tokens_from
  at_end_lem h = ap (tokens_from 0 at) (drop_of_length-le text h)

  pub at_ignored : (n : ℕ) → at < length text → lexeme (drop at text) ≡ ignored n → 1 ≤ n → from text at ≡ from text (at + n)
  at_ignored n h e p =
      opened h ∙ ap (lexed_by at (λ k. tokens_from k (1 + at) (drop (suc at) text))) e ∙ after n h p (rw e at (small h))

  pub at_token_lem : (s n : ℕ) → at < length text → lexeme (drop at text) ≡ lexed s n → 1 ≤ n →
      from text at ≡ before (record { sort = s; begins = at; size = n }) (from text (at + n))
  at_token_lem s n h e p =
      opened h ∙ ap (lexed_by at (λ k. tokens_from k (1 + at) (drop (suc at) text))) e ∙
      ap (λ (l : Lexed). lexed_by at (λ k. l) (lexed s n)) (after n h p (rw e at (small h)))

  pub at_unreadable : at < length text → lexeme (drop at text) ≡ unreadable → from text at ≡ record { tokens = []; ends = at; broken = true }
  at_unreadable h e = opened h ∙ ap (lexed_by at (λ k. tokens_from k (1 + at) (drop (suc at) text))) e
