-- The outcome of a call, case by case; and the words that an accepted one leaves.
use mathlib.Core.Path.{◌≡◌, sym, ap, ◌∙◌}
use mathlib.Core.List.{List, ◌++◌}
use Prim.Native.Nat.{ℕ, ◌+◌, ◌*◌, ◌≤◌, ◌<◌}
use native.Mathlib.Omega.{arith}
use borrow.Author.Tests.{lt-ltb, le-ltb}
use lib.ListN.{length, take, drop}
use lib.Seq.{take_at}
use Rattle.definition.specs.Lists.{flat_map, written}
use Rattle.definition.specs.Cards.{Card, words_of_card}
use Rattle.definition.specs.Derivation.{Seen}
use Rattle.definition.specs.ItemCards.{cards_read}
use Rattle.definition.specs.Reading.{accepted, refused, reading}
use Rattle.definition.specs.Refusals.{text_capacity, card_capacity, read_cards_capacity}
use Rattle.definition.specs.Answers.{answer}
use Rattle.definition.specs.Numbers.{count_answer}
use Rattle.definition.specs.Outcomes.{unlisted, listed_in, is_short, parsed, parse}
use Rattle.definition.proofs.BuiltWords.{written_starts}
use Rattle.parser_laws.proofs.Filed.{words_length}
use Rattle.parser_items.specs.Lists.{put_cards}
use Rattle.parser_items.proofs.Writing.{put_from_first}
use Rattle.parser.specs.Headings.{Told}
use Rattle.std.specs.Prelude.{Result, Ok, Err}
use Rattle.parser_values.specs.declared.error.SyntaxError.{SyntaxError}
use Rattle.parser_values.specs.declared.error.SyntaxError.TheVariants.{NotInGrammar, NestedTooDeep}
use Rattle.parser_values.specs.Errors.{number, place, refused_by}
use Rattle.definition.specs.declared.refusal.Refused.{Refused}

module _ (text ws : List ℕ) where
  pub parse_short : length ws < read_cards_capacity → parse text ws ≡ unlisted ws 31
  unfolding parse is_short
  parse_short h = rw (lt-ltb (length ws) read_cards_capacity h)

  module _ (h : read_cards_capacity ≤ length ws) where
    pub parse_long : text_capacity < length text → parse text ws ≡ unlisted ws 24
    unfolding parse is_short
    parse_long k = rw (le-ltb (length ws) read_cards_capacity h, lt-ltb text_capacity (length text) k)

    module _ (k : length text ≤ text_capacity) where
      parse_read : parse text ws ≡ parsed ws (reading text)
      unfolding parse is_short
      parse_read = rw (le-ltb (length ws) read_cards_capacity h, le-ltb text_capacity (length text) k)

      pub parse_refused : (n p : ℕ) → reading text ≡ refused n p → parse text ws ≡ record { answer = answer n p; list = ws }
      parse_refused n p e = parse_read ∙ ap (parsed ws) e

      pub parse_full : (es : List Seen) → reading text ≡ accepted es → card_capacity < length (cards_read es) → parse text ws ≡ unlisted ws 25
      parse_full es e l = parse_read ∙ ap (parsed ws) e ∙ rw (lt-ltb card_capacity (length (cards_read es)) l)

      parse_accepted :
          (es : List Seen) → reading text ≡ accepted es → length (cards_read es) ≤ card_capacity →
          parse text ws ≡ listed_in ws (length (cards_read es)) (flat_map words_of_card (cards_read es))
      parse_accepted es e l = parse_read ∙ ap (parsed ws) e ∙ rw (le-ltb card_capacity (length (cards_read es)) l)

-- ---- Words.

-- The first words of written ones, before the rest of others.
written_so :
    (cs : List Card) (n : ℕ) (ws before : List ℕ) → n ≡ length cs → length cs ≤ card_capacity → length before ≡ read_cards_capacity →
    take (n * 5) (put_cards before card_capacity 0 cs) ++ drop (n * 5) ws ≡ written ws 0 (flat_map words_of_card cs)
written_so cs n ws before e l b =
    let m : length (flat_map words_of_card cs) ≡ n * 5 = words_length cs ∙ omega (arith, e) in
    let z : 0 + length (flat_map words_of_card cs) ≡ n * 5 = omega (arith, m) in
    ap (λ (x : List ℕ). take (n * 5) x ++ drop (n * 5) ws) (put_from_first before card_capacity cs l (omega arith)) ∙
    ap (λ (x : List ℕ). x ++ drop (n * 5) ws) (take_at (flat_map words_of_card cs) (drop (length cs * 5) before) (n * 5) m) ∙
    ap (λ (x : ℕ). flat_map words_of_card cs ++ drop x ws) (sym z) ∙
    sym (written_starts ws (flat_map words_of_card cs))

-- All that an accepted call does: the cards were written to words of their own, of which the first are copied.
pub copied_so :
    (text ws : List ℕ) → read_cards_capacity ≤ length ws → length text ≤ text_capacity → (n : ℕ) (before after last : List ℕ) →
    Told text (Ok n) before after → n ≤ card_capacity → length before ≡ read_cards_capacity → last ≡ take (n * 5) after ++ drop (n * 5) ws →
    record { answer = answer 0 n; list = last } ≡ parse text ws
unfolding listed_in
copied_so text ws h k n before after last t l b w =
    let cs = cards_read t.0 in
    let e : last ≡ written ws 0 (flat_map words_of_card cs) =
    w ∙ ap (λ (x : List ℕ). take (n * 5) x ++ drop (n * 5) ws) t.3 ∙ written_so cs n ws before t.2 (omega (arith, t.2)) b in
    ap (λ (x : List ℕ). record { answer = answer 0 n; list = x }) e ∙
    ap (λ (m : ℕ). record { answer = answer 0 m; list = written ws 0 (flat_map words_of_card cs) }) t.2 ∙
    sym (parse_accepted text ws h k t.0 t.1 (omega (arith, t.2)))

-- A refused call.
pub refused_so : (text ws : List ℕ) → read_cards_capacity ≤ length ws → length text ≤ text_capacity → (e : SyntaxError) (r : Result ℕ Refused) →
    r ≡ Err (refused_by e) → reading text ≡ refused (number e) (place e) → record { answer = count_answer r; list = ws } ≡ parse text ws
refused_so text ws h k (NotInGrammar p) r i t = rw i (sym (parse_refused text ws h k 29 p t))
refused_so text ws h k (NestedTooDeep p) r i t = rw i (sym (parse_refused text ws h k 30 p t))
